use Rattle.std.proofs.Common.{◌≡◌, take}
use Rattle.nf_charge.specs.Totals.{bytes_owned}
use Rattle.nf_charge.proofs.totals.bytes_owned.Given as goal

-- the sum of the rows so far
abbrev pub invariant-loop-row : goal.invariant-loop-row
invariant-loop-row l = l.bytes ≡ bytes_owned (take l.row-index l.rows) l.owner
