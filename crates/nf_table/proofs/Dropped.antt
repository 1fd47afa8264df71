-- Rows of many keys that go in one pass, and a search by halving among sorted keys.
use Rattle.std.proofs.Common.{ℕ, ◌≡◌, ◌||◌, Bool, true, false, not, bytes_eq, List, [], ◌∷◌, Result, Ok, Err, length, get_or, map, filter, refl, sym, ap, ◌∙◌, inl, inr, arith}
use Rattle.std.specs.List.{list_any}
use Rattle.std.specs.List.Sorted.{IsBinarySearchResult, IsNonDecreasingBy, IsSearchInRange}
use Rattle.std.specs.Ordering.{ordering_index, ordering_reverse}
use Rattle.std.specs.Result.{is_ok}
use Rattle.std.specs.declared.cmp.Ordering.{Ordering}
use Rattle.std.specs.declared.cmp.Ordering.TheVariants.{Less, Equal, Greater}
use Rattle.std.proofs.lemmas.Bool.{cases_lt}
use Rattle.std.proofs.lemmas.List.Folds.{list_any_at, list_any_none}
use Rattle.nf_defs.specs.Prelude.{dropped, key_cmp}
use Rattle.nf_defs.proofs.Lookups.{equal_bytes}
use Rattle.nf_defs.proofs.Puts.{key_total}
use Rattle.std.proofs.lemmas.List.Filters.{length-filter_both}
use Rattle.std.proofs.lemmas.List.Kept.{AllPairs-filter}
use Rattle.nf_table.specs.Rows.{AreSorted, IsTable, all_dropped}
use Rattle.nf_table.proofs.Fronts.{not_lower}

-- ---- one after the other

filter_twice : {R : Type 0} (p q : R → Bool) (rows : List R) → filter (λ row. not (q row)) (filter (λ row. not (p row)) rows) ≡ filter (λ row. not (p row || q row)) rows
filter_twice p q [] = refl
filter_twice p q (x ∷ rows) = here (p x) (q x) refl refl (filter_twice p q rows)
  where
    here : (a b : Bool) → p x ≡ a → q x ≡ b → filter (λ row. not (q row)) (filter (λ row. not (p row)) rows) ≡ filter (λ row. not (p row || q row)) rows
        → filter (λ row. not (q row)) (filter (λ row. not (p row)) (x ∷ rows)) ≡ filter (λ row. not (p row || q row)) (x ∷ rows)
    here true b e f rest = rw e rest
    here false true e f rest = rw e (rw f rest)
    here false false e f rest = rw e (rw f (ap (λ list. x ∷ list) rest))

module _ {R K : Type 0} (key : R → List ℕ) (numbers : K → List ℕ) where
  abbrev pub has : List K → R → Bool
  has keys row = list_any (λ k. bytes_eq (numbers k) (key row)) keys

  all_stay : (rows : List R) → rows ≡ filter (λ row. not (has [] row)) rows
  all_stay [] = refl
  all_stay (x ∷ rows) = ap (λ list. x ∷ list) (all_stay rows)

  pub dropped_in_turn : (keys : List K) (rows : List R) → all_dropped key (map numbers keys) rows ≡ filter (λ row. not (has keys row)) rows
  dropped_in_turn [] rows = all_stay rows
  dropped_in_turn (k ∷ keys) rows =
      dropped_in_turn keys (dropped key (numbers k) rows) ∙ filter_twice (λ row. bytes_eq (numbers k) (key row)) (has keys) rows

-- ---- a key among sorted keys

module _ {K : Type 0} (numbers : K → List ℕ) (sought : List ℕ) where
  abbrev pub turned_cmp : K → Ordering
  turned_cmp k = ordering_reverse (key_cmp sought (numbers k))

  as_keys : (k : K) → turned_cmp k ≡ key_cmp (numbers k) sought
  as_keys k = sym (key_total.antisymm (numbers k) sought)

  keys_rise : (keys : List K) → AreSorted numbers keys → IsNonDecreasingBy (λ k. ordering_index (turned_cmp k)) keys
  keys_rise keys sorted i j d le within =
      elim (cases_lt i j) [
        | inl before ↦
            (let h = not_lower (numbers (get_or keys i d)) (numbers (get_or keys j d)) sought _ refl (sorted i j d before within) in
            omega (arith, ap ordering_index (as_keys (get_or keys i d)), ap ordering_index (as_keys (get_or keys j d)), h))
        | inr not_before ↦ let e : i ≡ j = omega arith in rw e (omega arith)
      ]

  pub found_among : (keys : List K) (r : Result ℕ ℕ) → AreSorted numbers keys → IsSearchInRange r (length keys) → IsBinarySearchResult turned_cmp keys r
      → is_ok r ≡ list_any (λ k. bytes_eq (numbers k) sought) keys
  found_among [] (Ok i) sorted range found = absurd (omega arith)
  found_among (x ∷ xs) (Ok i) sorted range equal =
      sym (list_any_at (λ k. bytes_eq (numbers k) sought) (x ∷ xs) i x range
      (equal_bytes (numbers (get_or (x ∷ xs) i x)) sought Equal (sym (as_keys (get_or (x ∷ xs) i x)) ∙ equal x)))
  found_among keys (Err i) sorted range parted =
      let parts = parted (keys_rise keys sorted) in
      sym (list_any_none (λ k. bytes_eq (numbers k) sought) keys (λ k d within. elim (cases_lt k i) [
        | inl before ↦ equal_bytes (numbers (get_or keys k d)) sought Less (sym (as_keys (get_or keys k d)) ∙ parts.0 k d (omega arith) before)
        | inr after ↦ equal_bytes (numbers (get_or keys k d)) sought Greater (sym (as_keys (get_or keys k d)) ∙ parts.1 k d (omega arith) within)
      ]))

-- ---- what is kept of a table

pub kept_table : {R : Type 0} (key : R → List ℕ) (p : R → Bool) (rows : List R) (room : ℕ) → IsTable key rows room → IsTable key (filter p rows) room
kept_table key p rows room table = record {
  rising = AllPairs-filter (λ a b. key_cmp (key a) (key b) ≡ Less) p rows table.rising;
  within = omega (arith, length-filter_both p (λ row. not (p row)) (λ row. refl) rows, table.within);
}
