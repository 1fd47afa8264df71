use Rattle.std.proofs.Common.{◌≡◌, ◌==◌, ℕ, ◌*◌, ◌≤◌, filter, sum_by, take}
use Rattle.nf_opening.specs.Totals.{total_of}
use Rattle.nf_opening.proofs.counts.upload_counts.Given as goal

-- one for each upload so far
abbrev pub invariant-loop-row : goal.invariant-loop-row
invariant-loop-row l = record {
  counted : (user : ℕ) → total_of l.totals user ≡ sum_by (λ row. 1) (filter (λ row. row.user == user) (take l.row-index l.rows));
  few : (user : ℕ) → total_of l.totals user ≤ 1 * l.row-index;
}
