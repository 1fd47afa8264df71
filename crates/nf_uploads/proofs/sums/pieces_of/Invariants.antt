use Rattle.std.proofs.Common.{◌≡◌, ◌≤◌, ◌*◌, length, take}
use Rattle.std.specs.Prelude.{sum_by}
use Rattle.nf_base.specs.declared.limits.TheConstants.{MAX_PIECES}
use Rattle.nf_uploads.proofs.sums.pieces_of.Given as goal

-- the pieces of the rows so far
abbrev pub invariant-loop-row : goal.invariant-loop-row
invariant-loop-row l = (l.sum ≡ sum_by (λ row. length row.content) (take l.row-index l.rows)) × (l.sum ≤ MAX_PIECES * l.row-index)
