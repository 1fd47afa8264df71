-- A row that is found by halving.
use Rattle.std.proofs.Common.{◌≡◌, ◌≢◌, ℕ, zero, suc, ◌==◌, ◌<◌, ◌≤◌, false, List, [], ◌∷◌, None, Some, find, length, get_or, refl, sym, ap, inl, inr, arith}
use Rattle.std.specs.List.{All, HoldsAt}
use Rattle.std.specs.List.Sorted.{IsNonDecreasingBy}
use Rattle.std.specs.Ordering.{MatchOrdering, nat_cmp, ordering_index}
use Rattle.std.specs.declared.cmp.Ordering.{Ordering}
use Rattle.std.specs.declared.cmp.Ordering.TheVariants.{Less, Equal, Greater}
use Rattle.std.proofs.lemmas.Bool.{cases_lt, eq-eqb, ne_eqb}
use Rattle.std.proofs.lemmas.Cmp.{ranked}
use Rattle.std.proofs.lemmas.List.Elements.{All-head, All-tail}
use Rattle.std.proofs.lemmas.Map.Lookups.{exact_unsigned}
use Rattle.nf_defs.proofs.Puts.{below_one}
use Rattle.nf_defs.specs.Rising.{IsRising}

-- ---- two numbers

is_apart : (a b : ℕ) (r : Ordering) → nat_cmp a b ≡ r → r ≢ Equal → (a == b) ≡ false
is_apart a b Less e apart = let less : a < b = ranked a b Less (sym e) in ne_eqb a b (λ same. absurd (omega arith))
is_apart a b Equal e apart = absurd (apart refl)
is_apart a b Greater e apart = let more : b < a = ranked a b Greater (sym e) in ne_eqb a b (λ same. absurd (omega arith))

rises : (a b n : ℕ) → a ≤ b → ordering_index (nat_cmp a n) ≤ ordering_index (nat_cmp b n)
rises a b n le = here (nat_cmp a n) (nat_cmp b n) (ranked a n _ refl) (ranked b n _ refl)
  where
    here : (r s : Ordering) → MatchOrdering r (a < n) (a ≡ n) (n < a) → MatchOrdering s (b < n) (b ≡ n) (n < b) → ordering_index r ≤ ordering_index s
    here Less Less g h = omega arith
    here Less Equal g h = omega arith
    here Less Greater g h = omega arith
    here Equal Less g h = absurd (omega arith)
    here Equal Equal g h = omega arith
    here Equal Greater g h = omega arith
    here Greater Less g h = absurd (omega arith)
    here Greater Equal g h = absurd (omega arith)
    here Greater Greater g h = omega arith

-- ---- rows by rising number

module _ {R : Type 0} (number : R → ℕ) (n : ℕ) where
  -- what a search compares rises along the rows
  pub comparisons_rise : (rows : List R) → IsRising (λ row. number row ∷ []) rows → IsNonDecreasingBy (λ row. ordering_index (nat_cmp (number row) n)) rows
  comparisons_rise rows rising i j d le within =
      elim (cases_lt i j) [
        | inl before ↦
            let less : number (get_or rows i d) < number (get_or rows j d) = below_one _ _ (rising i j d before within) in
            rises _ _ n (omega arith)
        | inr not_before ↦ let e : i ≡ j = omega arith in rw e (omega arith)
      ]

  -- the row at an index is found where its number is that
  pub finds : (rows : List R) (i : ℕ) (row : R) → i < length rows → row ≡ get_or rows i row
      → HoldsAt (λ other. nat_cmp (number other) n ≡ Equal) rows i → IsRising (λ row. number row ∷ []) rows
      → Some row ≡ find (λ other. number other == n) rows
  finds [] i row within at equal rising = absurd (omega arith)
  finds (x ∷ xs) zero row within at equal rising =
      rw (eq-eqb (number x) n (exact_unsigned _ _ (equal row))) (ap Some at)
  finds (x ∷ xs) (suc i) row within at equal rising =
      let less : number x < number (get_or xs i row) = below_one _ _ (rising zero (suc i) row (omega arith) within) in
      let same : number (get_or xs i row) ≡ n = exact_unsigned _ _ (equal row) in
      rw (ne_eqb (number x) n (λ e. absurd (omega arith)))
      (finds xs i row (omega arith) at (λ d. equal d) (λ j k d before within. rising (suc j) (suc k) d (omega arith) (omega arith)))

  none_found : (rows : List R) → All (λ row. (number row == n) ≡ false) rows → None ≡ find (λ other. number other == n) rows
  none_found [] all = refl
  none_found (x ∷ xs) all = rw (All-head (λ row. (number row == n) ≡ false) x xs all) (none_found xs (All-tail (λ row. (number row == n) ≡ false) x xs all))

  -- none is found between those below and those above it
  pub finds_none : (rows : List R) (i : ℕ)
      → ((k : ℕ) (d : R) → k < i → nat_cmp (number (get_or rows k d)) n ≡ Less)
      → ((k : ℕ) (d : R) → i ≤ k → k < length rows → nat_cmp (number (get_or rows k d)) n ≡ Greater)
      → None ≡ find (λ other. number other == n) rows
  finds_none rows i below above =
      none_found rows (λ k d within.
      elim (cases_lt k i) [
        | inl less ↦ is_apart _ n Less (below k d less) (λ e. cc)
        | inr more ↦ is_apart _ n Greater (above k d (omega arith) within) (λ e. cc)
      ])
