use Rattle.std.proofs.Common.{get_or, ◌∙◌, arith}
use Rattle.std.proofs.lemmas.List.Elements.{All-set}
use Rattle.nf_table.specs.Swaps.{IsOwn}
use Rattle.nf_table.proofs.Backs.{taken_more, tried_more}
use Rattle.nf_table.proofs.Looked.{own_found}
use Rattle.nf_table.proofs.table.Table.make_all.Goals as goal

pub loop-swap-preserved : goal.loop-swap-preserved
loop-swap-preserved g c =
    let key = g.R.Keyed.key in
    let numbers = g.R.FoundBy.numbers in
    let l = c.loop-swap in
    let d = c.swap-item.result in
    record {
      own = All-set (IsOwn key numbers) l.swaps l.swap-index c.make.new.swap
          (rw c.make.ensures.swap (own_found key (numbers (get_or l.swaps l.swap-index d).key) l.self.rows)) l.invariant.own;
      rows = rw (c.make.ensures.rows, c.make.ensures.swap)
          (tried_more key numbers l.self.rows l.swaps l.swap-index d (omega arith) ∙ l.invariant.rows);
      swaps = rw (c.make.ensures.rows, c.make.ensures.swap)
          (taken_more key numbers l.self.rows l.swaps l.swap-index d (omega arith) ∙ l.invariant.swaps);
      room = omega arith;
      count = omega arith;
    }
