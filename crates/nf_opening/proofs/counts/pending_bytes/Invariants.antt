use Rattle.std.proofs.Common.{◌≡◌, ◌==◌, ℕ, ◌^◌, ◌*◌, ◌≤◌, filter, sum_by, take}
use Rattle.nf_words.specs.Versions.{content_size}
use Rattle.nf_opening.specs.Totals.{total_of}
use Rattle.nf_opening.proofs.counts.pending_bytes.Given as goal

-- the bytes of the chunks so far, each of less than 2 ^ 64
abbrev pub invariant-loop-row : goal.invariant-loop-row
invariant-loop-row l = record {
  pending : (user : ℕ) → total_of l.totals user ≡ sum_by (λ row. content_size row.content) (filter (λ row. row.user == user) (take l.row-index l.rows));
  few : (user : ℕ) → total_of l.totals user ≤ 2 ^ 64 * l.row-index;
}
