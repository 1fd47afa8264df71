-- Numbers that are among sorted ones.
use Rattle.std.proofs.Common.{ℕ, ◌≡◌, ◌==◌, List, length, get_or, Result, Ok, Err, sym, inl, inr, arith}
use Rattle.std.specs.List.{list_any}
use Rattle.std.specs.List.Sorted.{IsBinarySearchResult, IsSearchInRange, IsSorted}
use Rattle.std.specs.Ordering.{is_eq, nat_cmp}
use Rattle.std.specs.Result.{is_ok}
use Rattle.std.specs.declared.cmp.Ordering.{Ordering}
use Rattle.std.specs.declared.cmp.Ordering.TheVariants.{Less, Equal, Greater}
use Rattle.std.proofs.lemmas.Bool.{cases_lt}
use Rattle.std.proofs.lemmas.Bool.Decides.{nat_tests}
use Rattle.std.proofs.lemmas.Cmp.{nat_cmp_total, ranked}
use Rattle.std.proofs.lemmas.List.Folds.{list_any_at, list_any_none}
use Rattle.std.proofs.lemmas.List.Sorted.{searchable_from_sorted}

same_number : (a b : ℕ) (r : Ordering) → nat_cmp a b ≡ r → (a == b) ≡ is_eq r
same_number a b Less e = let less = ranked a b Less (sym e) in grind (arith, nat_tests)
same_number a b Equal e = let equal = ranked a b Equal (sym e) in grind (arith, nat_tests)
same_number a b Greater e = let more = ranked a b Greater (sym e) in grind (arith, nat_tests)

-- what a search by halving among sorted numbers finds
pub found_is : (sorted : List ℕ) → IsSorted nat_cmp sorted → (x : ℕ) (r : Result ℕ ℕ) → IsSearchInRange r (length sorted)
    → IsBinarySearchResult (λ y. nat_cmp y x) sorted r → is_ok r ≡ list_any (λ kept. kept == x) sorted
found_is sorted rise x (Ok i) range equal =
    sym (list_any_at (λ kept. kept == x) sorted i x range (same_number (get_or sorted i x) x Equal (equal x)))
found_is sorted rise x (Err i) range parted =
    let parts = parted (searchable_from_sorted nat_cmp_total (λ (y : ℕ). y) sorted x rise) in
    sym (list_any_none (λ kept. kept == x) sorted (λ k d within. elim (cases_lt k i) [
      | inl before ↦ same_number (get_or sorted k d) x Less (parts.0 k d (omega arith) before)
      | inr after ↦ same_number (get_or sorted k d) x Greater (parts.1 k d (omega arith) (omega arith))
    ]))
