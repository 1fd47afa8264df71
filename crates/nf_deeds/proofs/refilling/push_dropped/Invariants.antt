use Rattle.std.proofs.Common.{◌≡◌, ◌++◌, map, take}
use Rattle.nf_words.specs.Versions.{drop_version}
use Rattle.nf_deeds.proofs.refilling.push_dropped.Given as goal

-- those of the versions so far
abbrev pub invariant-loop-version : goal.invariant-loop-version
invariant-loop-version l = l.changes ≡ l.initial.changes ++ map drop_version (take l.version-index l.versions)
