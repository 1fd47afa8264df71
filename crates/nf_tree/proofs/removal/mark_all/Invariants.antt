use Rattle.std.proofs.Common.{◌≡◌, take, vec_capacity}
use Rattle.nf_tree.specs.Order.{AreMarkedBy, goes}
use Rattle.nf_tree.proofs.removal.mark_all.Given as goal

-- what is under the tops so far is marked
abbrev pub invariant-loop-top : goal.invariant-loop-top
invariant-loop-top l = record {
  marked : AreMarkedBy (goes l.rows (take l.top-index l.tops)) l.rows l.marks.items;
  room : vec_capacity l.marks ≡ vec_capacity l.fn.marks;
}
