-- There are as many rows as were read.
use Rattle.std.proofs.Common.{◌≡◌, length}
use Rattle.case_files.proofs.keeping.rows_of.Given as goal

abbrev pub invariant-loop-said : goal.invariant-loop-said
invariant-loop-said l = length l.rows.items ≡ l.said-index
