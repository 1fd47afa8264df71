use Rattle.std.proofs.Common.{◌≡◌, ◌≤◌, length, vec_len, vec_capacity}
use Rattle.std.specs.List.{range_with_len}
use Rattle.nf_tree.proofs.order.of.Given as goal

-- the places so far
abbrev pub invariant-loop-at : goal.invariant-loop-at
invariant-loop-at l = record {
  places : l.order.items ≡ range_with_len 0 l.at;
  long : vec_len l.order ≡ l.at;
  room : length l.rows ≤ vec_capacity l.order;
}
