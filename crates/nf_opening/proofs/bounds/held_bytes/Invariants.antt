use Rattle.std.proofs.Common.{◌≡◌, ◌==◌, ℕ, ◌^◌, ◌*◌, ◌≤◌, filter, sum_by, take}
use Rattle.nf_defs.specs.Prelude.{owner_of}
use Rattle.nf_words.specs.Versions.{content_size}
use Rattle.nf_opening.specs.Totals.{total_of}
use Rattle.nf_opening.proofs.bounds.held_bytes.Given as goal

-- the bytes of the versions so far, each of less than 2 ^ 64
abbrev pub invariant-loop-row : goal.invariant-loop-row
invariant-loop-row l = record {
  held : (owner : ℕ) → total_of l.totals owner
      ≡ sum_by (λ row. content_size row.content) (filter (λ row. owner_of l.loaded.nodes row.node == owner) (take l.row-index l.loaded.versions));
  few : (owner : ℕ) → total_of l.totals owner ≤ 2 ^ 64 * l.row-index;
}
