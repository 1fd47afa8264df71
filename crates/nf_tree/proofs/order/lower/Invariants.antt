use Rattle.std.proofs.Common.{◌≡◌, ◌++◌, take, drop, map, vec_len, vec_capacity}
use Rattle.nf_tree.specs.Order.{lowered}
use Rattle.nf_tree.proofs.order.lower.Given as goal

-- the places so far are lowered
abbrev pub invariant-loop-at : goal.invariant-loop-at
invariant-loop-at l = record {
  places : l.order.items ≡ map (lowered l.fn.gone) (take l.at l.initial.order.items) ++ drop l.at l.initial.order.items;
  long : vec_len l.order ≡ vec_len l.initial.order;
  room : vec_capacity l.order ≡ vec_capacity l.initial.order;
}
