-- There are as many runs as were read.
use Rattle.std.proofs.Common.{◌≡◌, length}
use Rattle.case_files.proofs.reading.runs_of.Given as goal

abbrev pub invariant-loop-run : goal.invariant-loop-run
invariant-loop-run l = length l.runs.items ≡ l.run-index
