use Rattle.std.proofs.Common.{◌≡◌, ◌++◌, take, drop, map, get_or, vec_len, vec_capacity}
use Rattle.nf_tree.proofs.order.renumber.Given as goal

-- the places so far have moved
abbrev pub invariant-loop-at : goal.invariant-loop-at
invariant-loop-at l = record {
  places : l.order.items ≡ map (λ at. get_or l.fates at 0) (take l.at l.initial.order.items) ++ drop l.at l.initial.order.items;
  long : vec_len l.order ≡ vec_len l.initial.order;
  room : vec_capacity l.order ≡ vec_capacity l.initial.order;
}
