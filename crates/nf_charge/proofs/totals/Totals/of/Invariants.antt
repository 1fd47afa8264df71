use Rattle.std.proofs.Common.{take}
use Rattle.nf_charge.specs.Totals.{AreTotals}
use Rattle.nf_charge.proofs.totals.Totals.of.Given as goal

-- the totals of the rows so far
abbrev pub invariant-loop-row : goal.invariant-loop-row
invariant-loop-row l = AreTotals (take l.row-index l.rows) l.totals
