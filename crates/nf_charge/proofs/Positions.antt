-- The place of a node's row, where numbers rise.
use Rattle.std.proofs.Common.{ℕ, ◌<◌, ◌≤◌, ◌≡◌, List, [], Option, Some, None, false, Result, Ok, Err, MatchResult, refl, sym, ap, arith, length, get_or, find, nat_cmp, ◌==◌}
use Rattle.std.specs.Prelude.{IsSome}
use Rattle.std.specs.List.{position}
use Rattle.std.specs.List.Sorted.{IsSearchInRange, IsBinarySearchResult, IsNonDecreasingBy}
use Rattle.std.specs.Ordering.{ordering_index}
use Rattle.std.proofs.lemmas.Cmp.{ranked}
use Rattle.std.proofs.lemmas.Bool.Decides.{nat_tests}
use Rattle.nf_base.specs.declared.rows.NodeRow.{NodeRow}
use Rattle.nf_base.specs.declared.rows.Place.TheVariants.{Root}
use Rattle.nf_base.specs.declared.rows.NodeKind.TheVariants.{Folder}
use Rattle.nf_defs.proofs.Lookups.{position_at, position_nowhere, find_nowhere}
use Rattle.nf_charge.specs.Sums.{AreRisingNodes}

-- a row to read past the end
abbrev pub no_row : NodeRow
no_row = record { id = 0; owner = 0; place = Root; name = []; kind = Folder; content = []; changed = 0 }

-- a halving search by number ends at the row, or where there is none
comparisons_rise : (rows : List NodeRow) (id : ℕ) → AreRisingNodes rows → IsNonDecreasingBy (λ row. ordering_index (nat_cmp row.id id)) rows
comparisons_rise rows id rise = λ i j d le within.
    let ids : (get_or rows i d).id ≤ (get_or rows j d).id = grind (arith, rise i j d, λ (same : i ≡ j). ap (λ k. (get_or rows k d).id) same) in
    grind (arith, nat_tests)

pub searched : (rows : List NodeRow) (id : ℕ) (d : NodeRow) (r : Result ℕ ℕ) → AreRisingNodes rows → IsSearchInRange r (length rows) → IsBinarySearchResult (λ row. nat_cmp row.id id) rows r
    → MatchResult r (λ at. Some at ≡ position (λ row. row.id == id) rows) (λ _. None ≡ position (λ row. row.id == id) rows)
searched rows id d (Ok at) rise within equal =
    let is : (get_or rows at d).id ≡ id = ranked _ id _ (sym (equal d)) in
    position_at (λ (row : NodeRow). row.id == id) rows at d within (grind (arith, nat_tests)) (λ k less. before k less (rise k at d less within) is)
  where
    before : (k : ℕ) → k < at → (get_or rows k d).id < (get_or rows at d).id → (get_or rows at d).id ≡ id → ((get_or rows k d).id == id) ≡ false
    before k less below is = grind (arith, nat_tests)
searched rows id d (Err at) rise within parted =
    let parts = parted (comparisons_rise rows id rise) in
    position_nowhere (λ (row : NodeRow). row.id == id) rows d (λ k high. grind (arith, nat_tests, parts.0 k d (omega arith), parts.1 k d))

pub is_there : (rows : List NodeRow) (id : ℕ) → IsSome (find (λ row. row.id == id) rows) → IsSome (position (λ row. row.id == id) rows)
is_there rows id there = here (position (λ (row : NodeRow). row.id == id) rows) refl there
  where
    here : (o : Option ℕ) → o ≡ position (λ (row : NodeRow). row.id == id) rows → IsSome (find (λ (row : NodeRow). row.id == id) rows) → IsSome o
    here (Some at) e h = refl
    here None e h = let none = find_nowhere (λ (row : NodeRow). row.id == id) rows e in absurd (cc)
