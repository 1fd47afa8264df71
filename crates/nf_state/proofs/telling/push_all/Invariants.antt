use Rattle.std.proofs.Common.{◌≡◌, ◌++◌}
use Rattle.nf_state.proofs.telling.push_all.Given as goal

-- those so far are behind, and the others are left
abbrev pub invariant-loop-change : goal.invariant-loop-change
invariant-loop-change l = record {
  pushed : l.changes ≡ l.initial.changes ++ l.yielded;
  left : l.yielded ++ l.change-iterator.rest.items ≡ l.fn.all;
}
