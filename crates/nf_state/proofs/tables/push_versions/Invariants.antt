use Rattle.std.proofs.Common.{◌≡◌, ◌++◌, map, take}
use Rattle.nf_base.specs.declared.rows.Row.TheVariants.{Version}
use Rattle.nf_state.proofs.tables.push_versions.Given as goal

-- those of the versions so far
abbrev pub invariant-loop-version : goal.invariant-loop-version
invariant-loop-version l = l.list ≡ l.initial.list ++ map Version (take l.version-index l.versions)
