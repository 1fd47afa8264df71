use Rattle.std.proofs.Common.{◌≡◌, ◌==◌, ℕ, ◌^◌, ◌*◌, ◌≤◌, filter, sum_by, take}
use Rattle.std.specs.Prelude.{min}
use Rattle.nf_words.specs.Prelude.{last_number}
use Rattle.nf_opening.specs.Heaps.{topped_bytes}
use Rattle.nf_opening.specs.Totals.{total_of}
use Rattle.nf_opening.proofs.heaps.heaps.Given as goal

-- the bytes of the items so far, each of less than 2 ^ 64
abbrev pub invariant-loop-row : goal.invariant-loop-row
invariant-loop-row l = record {
  heaped : (owner : ℕ) → total_of l.totals owner
      ≡ sum_by (λ row. min (topped_bytes l.loaded.nodes row.node) last_number) (filter (λ row. row.owner == owner) (take l.row-index l.loaded.items));
  few : (owner : ℕ) → total_of l.totals owner ≤ 2 ^ 64 * l.row-index;
}
