use Rattle.std.proofs.Common.{◌≡◌, ◌≤◌, ◌*◌, length, take}
use Rattle.std.specs.Prelude.{sum_by}
use Rattle.nf_base.specs.declared.limits.TheConstants.{MAX_PIECES}
use Rattle.nf_view.proofs.view.pieces_in.Given as goal

-- those of the versions so far
abbrev pub invariant-loop-row : goal.invariant-loop-row
invariant-loop-row l = (l.count ≡ sum_by (λ row. length row.content) (take l.row-index l.rows)) × (l.count ≤ MAX_PIECES * l.row-index)
