use Rattle.std.proofs.Common.{◌≡◌, take}
use Rattle.nf_words.specs.Prelude.{counted}
use Rattle.nf_state.proofs.tables.counted.Given as goal

-- the counters are above the numbers so far
abbrev pub invariant-loop-change : goal.invariant-loop-change
invariant-loop-change l = l.counted ≡ counted l.meta (take l.change-index l.changes)
