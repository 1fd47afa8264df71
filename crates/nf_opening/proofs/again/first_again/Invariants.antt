use Rattle.std.proofs.Common.{length}
use Rattle.nf_opening.proofs.Scans.{SoFar}
use Rattle.nf_opening.proofs.again.first_again.Given as goal

abbrev pub invariant-loop-key : goal.invariant-loop-key
invariant-loop-key g l = SoFar g.K.Ord.cmp l.fn.keys.items l.keys.items l.seen.keys l.least

abbrev pub decreases-loop-key : goal.decreases-loop-key
decreases-loop-key g l = length l.keys.items
