use Rattle.std.proofs.Common.{◌≡◌, ◌++◌, map, take}
use Rattle.nf_people.proofs.listed.push_rows.Given as goal

-- those of the rows so far
abbrev pub invariant-loop-row : goal.invariant-loop-row
invariant-loop-row g l = l.list ≡ l.initial.list ++ map g.R.Listed.row_of (take l.row-index l.rows)
