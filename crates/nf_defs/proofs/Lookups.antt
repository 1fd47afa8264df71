-- Rows found by their keys.
use Rattle.std.proofs.Common.{ℕ, zero, suc, ◌<◌, ◌≤◌, ◌≡◌, Bool, true, false, List, [], ◌∷◌, length, get_or, Option, Some, None, Result, Ok, Err, refl, sym, ap, ◌∙◌, inl, inr, arith, bytes_eq}
use Rattle.std.specs.Cmp.{alike_right}
use Rattle.std.specs.List.{All, find, list_any, position, position_or_len, remove}
use Rattle.std.specs.List.Sorted.{IsBinarySearchResult, IsSearchInRange}
use Rattle.std.specs.Option.{is_some}
use Rattle.std.specs.Ordering.{is_eq}
use Rattle.std.specs.Result.{result_ok}
use Rattle.std.specs.declared.cmp.Ordering.{Ordering}
use Rattle.std.specs.declared.cmp.Ordering.TheVariants.{Less, Equal, Greater}
use Rattle.std.proofs.lemmas.Bool.{cases_lt, lt-ltb}
use Rattle.std.proofs.lemmas.Bool.Decides.{nat_tests}
use Rattle.std.proofs.lemmas.Cmp.{nat_list_eq_equiv}
use Rattle.std.proofs.lemmas.List.Folds.{find_at, list_any_at, list_any_none}
use Rattle.std.proofs.lemmas.List.Quantifiers.{position-Some}
use Rattle.std.proofs.lemmas.List.Sums.{fails_before_first, position_or_len_is}
use Rattle.std.proofs.lemmas.Map.Text.{is_eq-slice_cmp}
use Rattle.std.proofs.lemmas.Option.{slice_get-get_or, slice_get_past}
use Rattle.std.proofs.lemmas.Slice.Eq.{bytes_eq-Decides}
use Rattle.nf_defs.specs.Prelude.{dropped, IsRising, key_cmp}
use Rattle.nf_defs.proofs.Puts.{below_rest, key_total, numbers_rise, tail_rising}

-- ---- the first that passes a test

module _ {X : Type 0} (p : X → Bool) where
  pub position_at : (xs : List X) (i : ℕ) (d : X) → i < length xs → p (get_or xs i d) ≡ true
      → ((k : ℕ) → k < i → p (get_or xs k d) ≡ false) → Some i ≡ position p xs
  position_at xs i d within passes before =
      rw (position_or_len_is p xs i d (omega arith) before (λ _. passes)) (rw (lt-ltb i (length xs) within) refl)

  pub position_nowhere : (xs : List X) (d : X) → ((k : ℕ) → k < length xs → p (get_or xs k d) ≡ false) → None ≡ position p xs
  position_nowhere xs d fail =
      rw (position_or_len_is p xs (length xs) d (omega arith) fail (λ less. absurd (omega arith))) (grind (arith, nat_tests))

  pub position_none : (xs : List X) → All (λ x. p x ≡ false) xs → None ≡ position p xs
  position_none [] fail = refl
  position_none (x ∷ xs) fail = position_nowhere (x ∷ xs) x (λ k within. fail k x within)

  -- without a first, all fail
  pub fail_nowhere : (xs : List X) → None ≡ position p xs → All (λ x. p x ≡ false) xs
  fail_nowhere xs none k d within = fails_before_first p xs k d (grind (arith, nat_tests))

  pub find_nowhere : (xs : List X) → None ≡ position p xs → None ≡ find p xs
  find_nowhere xs none =
      let past : length xs ≤ position_or_len p xs = grind (arith, nat_tests) in
      sym (find_at p xs ∙ slice_get_past xs (position_or_len p xs) past)

  pub find_there : (xs : List X) (i : ℕ) (x : X) → Some i ≡ position p xs → x ≡ get_or xs i x → Some x ≡ find p xs
  find_there xs i x at is =
      let first = position-Some p xs i x (sym at) in
      let e = position_or_len_is p xs i x (omega arith) first.2 (λ _. first.1) in
      sym (find_at p xs ∙ rw e (slice_get-get_or xs i x first.0 ∙ ap Some (sym is)))

  pub any_there : (xs : List X) (i : ℕ) → Some i ≡ position p xs → true ≡ list_any p xs
  any_there [] i at = absurd (cc)
  any_there (x ∷ xs) i at =
      let first = position-Some p (x ∷ xs) i x (sym at) in
      sym (list_any_at p (x ∷ xs) i x first.0 first.1)

  pub any_nowhere : (xs : List X) → None ≡ position p xs → false ≡ list_any p xs
  any_nowhere xs none = sym (list_any_none p xs (fail_nowhere xs none))

  pub any_is : (xs : List X) (o : Option ℕ) → o ≡ position p xs → is_some o ≡ list_any p xs
  any_is xs None is = any_nowhere xs is
  any_is xs (Some i) is = any_there xs i is

-- ---- equal keys

pub equal_bytes : (a b : List ℕ) (r : Ordering) → key_cmp a b ≡ r → bytes_eq a b ≡ is_eq r
equal_bytes a b r e = sym (is_eq-slice_cmp a b) ∙ ap is_eq e

pub bytes_turned : (a b : List ℕ) → bytes_eq a b ≡ bytes_eq b a
bytes_turned a b = nat_list_eq_equiv.symm a b

module _ {R : Type 0} (key : R → List ℕ) (numbers : List ℕ) where
  abbrev pub is_sought : R → Bool
  is_sought row = bytes_eq (key row) numbers

  -- what a search by halving answers is the place of the row
  pub place_is : (rows : List R) (r : Result ℕ ℕ) → IsRising key rows → IsSearchInRange r (length rows)
      → IsBinarySearchResult (λ row. key_cmp (key row) numbers) rows r → result_ok r ≡ position is_sought rows
  place_is [] (Ok i) rising range found = absurd (omega arith)
  place_is (x ∷ xs) (Ok i) rising range equal =
      let at = λ (k : ℕ). key (get_or (x ∷ xs) k x) in
      position_at is_sought (x ∷ xs) i x range (equal_bytes (at i) numbers Equal (equal x))
      (λ k less. equal_bytes (at k) numbers Less (sym (alike_right key_total (at i) numbers (at k) (equal x)) ∙ rising k i x less range))
  place_is [] (Err i) rising range parted = refl
  place_is (x ∷ xs) (Err i) rising range parted =
      let at = λ (k : ℕ). key (get_or (x ∷ xs) k x) in
      let parts = parted (numbers_rise key numbers (x ∷ xs) rising) in
      position_nowhere is_sought (x ∷ xs) x
      (λ k within. elim (cases_lt k i) [
        | inl before ↦ equal_bytes (at k) numbers Less (parts.0 k x (omega arith) before)
        | inr after ↦ equal_bytes (at k) numbers Greater (parts.1 k x (omega arith) within)
      ])

  -- without a row of the key none is dropped
  pub none_dropped : (rows : List R) → All (λ row. bytes_eq numbers (key row) ≡ false) rows → rows ≡ dropped key numbers rows
  none_dropped [] none = refl
  none_dropped (x ∷ xs) none = rw (none 0 x (omega arith)) (ap (λ rest. x ∷ rest) (none_dropped xs (λ k d within. none (suc k) d (omega arith))))

  -- the rows without the one of the key
  pub dropped_at : (rows : List R) (i : ℕ) (d : R) → IsRising key rows → i < length rows → is_sought (get_or rows i d) ≡ true
      → ((k : ℕ) → k < i → is_sought (get_or rows k d) ≡ false) → remove rows i ≡ dropped key numbers rows
  dropped_at [] i d rising within is before = absurd (omega arith)
  dropped_at (x ∷ xs) zero d rising within is before =
      let same = (bytes_eq-Decides (key x) numbers).0 is in
      rw (bytes_turned numbers (key x), is)
      (none_dropped xs (λ k e less. rw (sym same) (equal_bytes (key x) (key (get_or xs k e)) Less (below_rest key x xs rising k e less))))
  dropped_at (x ∷ xs) (suc i) d rising within is before =
      rw (bytes_turned numbers (key x), before 0 (omega arith))
      (ap (λ rest. x ∷ rest) (dropped_at xs i d (tail_rising key x xs rising) (omega arith) is (λ k less. before (suc k) (omega arith))))

  pub dropped_there : (rows : List R) (i : ℕ) → IsRising key rows → Some i ≡ position is_sought rows → remove rows i ≡ dropped key numbers rows
  dropped_there [] i rising at = absurd (cc)
  dropped_there (x ∷ xs) i rising at =
      let first = position-Some is_sought (x ∷ xs) i x (sym at) in
      dropped_at (x ∷ xs) i x rising first.0 first.1 first.2

  pub dropped_nowhere : (rows : List R) → None ≡ position is_sought rows → rows ≡ dropped key numbers rows
  dropped_nowhere rows none =
      none_dropped rows (λ k d within. bytes_turned numbers _ ∙ fail_nowhere is_sought rows none k d within)
