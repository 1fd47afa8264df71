use Rattle.std.proofs.Common.{◌≡◌, ◌++◌, map, take}
use Rattle.nf_base.specs.declared.changes.Change.TheVariants.{Drop}
use Rattle.nf_base.specs.declared.changes.RowKey.TheVariants as keys
use Rattle.nf_state.proofs.telling.forget_of.Given as goal

-- those of the versions so far
abbrev pub invariant-loop-row : goal.invariant-loop-row
invariant-loop-row l = l.changes ≡ l.initial.changes ++ map (λ row. Drop (keys.Version row.node row.at)) (take l.row-index l.rows)
