use Rattle.std.proofs.Common.{◌≡◌, ◌++◌, map, take}
use Rattle.nf_base.specs.declared.changes.Change.TheVariants.{Put}
use Rattle.nf_base.specs.declared.rows.Row.TheVariants.{Node}
use Rattle.nf_state.proofs.telling.put_all.Given as goal

-- those of the rows so far
abbrev pub invariant-loop-row : goal.invariant-loop-row
invariant-loop-row l = l.changes ≡ l.initial.changes ++ map (λ row. Put (Node row)) (take l.row-index l.rows)
