use Rattle.std.proofs.Common.{◌≡◌, length, take, filter, vec_capacity}
use Rattle.nf_tree.specs.Order.{outstays}
use Rattle.nf_tree.proofs.Marks.{AreSettled}
use Rattle.nf_tree.proofs.removal.settle.Given as goal

-- the rows so far have their fates
abbrev pub invariant-loop-at : goal.invariant-loop-at
invariant-loop-at l = record {
  settled : AreSettled (outstays l.rows l.tops) l.rows l.at l.fates.items;
  kept : l.kept ≡ length (filter (outstays l.rows l.tops) (take l.at l.rows));
  room : vec_capacity l.fates ≡ vec_capacity l.fn.fates;
}
