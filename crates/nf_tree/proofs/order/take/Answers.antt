use Rattle.std.proofs.Common.{subst, sym, arith}
use Rattle.nf_tree.specs.Order.{LacksOnly}
use Rattle.nf_tree.proofs.Orders.{own_cut, cut_is, take_out}
use Rattle.nf_tree.proofs.order.take.Goals as goal

pub remove-requires : goal.remove-requires
remove-requires c =
    let cuts = own_cut c.args.rows.now c.args.order.now.items c.deref.result.now c.args.at c.cut_at-from.result c.index-rows-at.result c.deref.ensures.value c.requires.there c.index-rows-at.is c.cut_at-from.ensures in
    let h = (cut_is c.args.rows.now c.args.order.now.items c.args.at c.cut_at-from.result c.requires.index c.requires.there cuts).0 in
    let long = rw c.deref.ensures.value at c.deref.ensures.len in
    omega arith

pub returns-clause-lacks : goal.returns-clause-lacks
returns-clause-lacks c =
    let cuts = own_cut c.args.rows.now c.args.order.now.items c.deref.result.now c.args.at c.cut_at-from.result c.index-rows-at.result c.deref.ensures.value c.requires.there c.index-rows-at.is c.cut_at-from.ensures in
    subst (λ list. LacksOnly c.args.rows.now list c.args.at) (sym c.remove.ensures.items)
    (take_out c.args.rows.now c.args.order.now.items c.args.at c.cut_at-from.result c.requires.index c.requires.there cuts)
