use Rattle.std.proofs.Common.{◌≡◌, ◌++◌, map, take}
use Rattle.nf_base.specs.declared.rows.Row.TheVariants.{Mount}
use Rattle.nf_state.proofs.tables.push_mounts.Given as goal

-- those of the nodes so far
abbrev pub invariant-loop-mount : goal.invariant-loop-mount
invariant-loop-mount l = l.list ≡ l.initial.list ++ map Mount (take l.mount-index l.mounts)
