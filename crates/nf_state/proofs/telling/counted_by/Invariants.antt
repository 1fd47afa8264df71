use Rattle.std.proofs.Common.{◌≡◌, take}
use Rattle.nf_state.specs.Current.{counted_by}
use Rattle.nf_state.proofs.telling.counted_by.Given as goal

-- the counters after the deeds so far
abbrev pub invariant-loop-deed : goal.invariant-loop-deed
invariant-loop-deed l = l.counted ≡ counted_by l.meta (take l.deed-index l.deeds)
