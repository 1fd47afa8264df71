use Rattle.std.proofs.Common.{◌≡◌, ◌≤◌, ◌-◌, true, length, vec_capacity}
use Rattle.std.specs.List.{AllWithin}
use Rattle.nf_defs.specs.Tree.{is_in}
use Rattle.nf_tree.specs.Order.{AreMarked}
use Rattle.nf_tree.proofs.Children.{row_at}
use Rattle.nf_tree.proofs.Marks.{so_far}
use Rattle.nf_tree.proofs.removal.+mark.Given as goal

abbrev pub decreases-mark : goal.decreases-mark
decreases-mark l = l.down

-- the node is marked, and what is under the children so far
abbrev pub invariant-loop-at : goal.invariant-loop-at
invariant-loop-at l = record {
  start : l.initial.at ≤ l.at;
  end : l.at ≤ length l.order;
  all : AllWithin (λ p. is_in l.fn.node (row_at l.rows p) ≡ true) l.order l.initial.at l.at;
  marks : AreMarked l.rows (so_far l.rows l.order l.fn.node l.down l.initial.at l.at) l.fn.marks.items l.marks.items;
  room : vec_capacity l.marks ≡ vec_capacity l.fn.marks;
}

abbrev pub decreases-loop-at : goal.decreases-loop-at
decreases-loop-at l = length l.order - l.at
