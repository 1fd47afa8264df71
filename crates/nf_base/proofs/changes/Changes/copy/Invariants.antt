use Rattle.std.proofs.Common.{◌≡◌, take}
use Rattle.nf_base.proofs.changes.Changes.copy.Given as goal

-- those so far
abbrev pub invariant-loop-change : goal.invariant-loop-change
invariant-loop-change l = l.copy ≡ take l.change-index l.self
