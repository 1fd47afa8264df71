use Rattle.std.proofs.Common.{drop}
use Rattle.nf_retention.specs.Thinning.{thinned}
use Rattle.nf_retention.proofs.Turns.{IsPassing}
use Rattle.nf_retention.proofs.thinning.thinned.Given as goal

-- what has gone so far, and what goes of the rest, are what goes
abbrev pub invariant-loop-version : goal.invariant-loop-version
invariant-loop-version l = IsPassing l.now l.last (drop l.version-index l.older) l.gone.items (thinned l.now l.versions)
