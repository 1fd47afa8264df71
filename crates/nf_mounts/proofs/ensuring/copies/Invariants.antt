use Rattle.std.proofs.Common.{◌≡◌, take}
use Rattle.nf_mounts.proofs.ensuring.copies.Given as goal

-- those of the rows so far
abbrev pub invariant-loop-row : goal.invariant-loop-row
invariant-loop-row l = l.copies.items ≡ take l.row-index l.rows
