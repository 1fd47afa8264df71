use Rattle.std.proofs.Common.{◌≡◌, ℕ, ◌^◌, ◌*◌, ◌<◌, ◌≤◌, sum_by, take}
use Rattle.nf_words.specs.Charges.{counted_for}
use Rattle.nf_opening.specs.Totals.{total_of}
use Rattle.nf_opening.proofs.bounds.charges.Given as goal

-- what the nodes so far count for those who have versions, each for less than 2 ^ 64
abbrev pub invariant-loop-row : goal.invariant-loop-row
invariant-loop-row l = record {
  charged : (owner : ℕ) → 0 < total_of l.held owner → total_of l.totals owner ≡ sum_by (counted_for l.loaded owner) (take l.row-index l.loaded.nodes);
  few : (owner : ℕ) → total_of l.totals owner ≤ 2 ^ 64 * l.row-index;
}
