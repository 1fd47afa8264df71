use Rattle.std.proofs.Common.{◌≡◌, ◌++◌, take}
use Rattle.nf_words.specs.Versions.{drop_gone}
use Rattle.nf_deeds.proofs.refilling.push_gone.Given as goal

-- those of the versions so far
abbrev pub invariant-loop-version : goal.invariant-loop-version
invariant-loop-version l = l.changes ≡ l.initial.changes ++ drop_gone l.becomes l.row (take l.version-index l.gone)
