-- The count so far is that of the runs so far, and no greater than their number.
use Rattle.std.proofs.Common.{◌≡◌, ◌≤◌, count_by, take}
use Rattle.case_files.specs.Counts.{is}
use Rattle.case_files.proofs.tally.count.Given as goal

abbrev pub invariant-loop-one : goal.invariant-loop-one
invariant-loop-one l =
    (l.count ≡ count_by (is l.wanted) (take l.one-index l.judged)) × (l.count ≤ l.one-index)
