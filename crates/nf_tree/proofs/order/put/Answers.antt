use Rattle.std.proofs.Common.{subst, sym}
use Rattle.nf_tree.specs.Order.{IsIndex}
use Rattle.nf_tree.proofs.Orders.{own_cut, put_in}
use Rattle.nf_tree.proofs.order.put.Goals as goal

pub returns-clause-index : goal.returns-clause-index
returns-clause-index c =
    let cuts = own_cut c.args.rows.now c.args.order.now.items c.deref.result.now c.args.at c.cut_at-to.result c.index-rows-at.result c.deref.ensures.value c.requires.there c.index-rows-at.is c.cut_at-to.ensures in
    let items = rw c.unwrap.ensures at c.insert.ensures.items in
    subst (λ list. IsIndex c.args.rows.now list) (sym items) (put_in c.args.rows.now c.args.order.now.items c.args.at c.cut_at-to.result c.requires.rising c.requires.there c.requires.lacks cuts)
