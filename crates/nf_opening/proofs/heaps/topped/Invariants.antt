use Rattle.std.proofs.Common.{◌≡◌, ◌==◌, ℕ, ◌^◌, ◌*◌, ◌≤◌, filter, sum_by, take}
use Rattle.nf_words.specs.Versions.{content_size}
use Rattle.nf_opening.specs.Heaps.{top_of}
use Rattle.nf_opening.specs.Totals.{total_of}
use Rattle.nf_opening.proofs.heaps.topped.Given as goal

-- the bytes of the nodes so far, each of less than 2 ^ 64
abbrev pub invariant-loop-row : goal.invariant-loop-row
invariant-loop-row l = record {
  topped : (top : ℕ) → total_of l.totals top
      ≡ sum_by (λ row. content_size row.content) (filter (λ row. top_of l.loaded.nodes row.id == top) (take l.row-index l.loaded.nodes));
  few : (top : ℕ) → total_of l.totals top ≤ 2 ^ 64 * l.row-index;
}
