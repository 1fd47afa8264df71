use Rattle.std.proofs.Common.{◌≡◌, ◌≤◌, ◌*◌, take}
use Rattle.nf_base.specs.declared.limits.TheConstants.{MAX_PIECES}
use Rattle.nf_defs.specs.Tree.{piece_count}
use Rattle.nf_opening.proofs.limits.piece_count.Given as goal

-- the pieces of the rows so far
abbrev pub invariant-loop-row : goal.invariant-loop-row
invariant-loop-row l = (l.count ≡ piece_count (take l.row-index l.rows)) × (l.count ≤ MAX_PIECES * l.row-index)
