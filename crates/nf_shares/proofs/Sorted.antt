-- The entries of rows, sorted by their numbers so that those of one number keep their order, are an index.
use Rattle.std.proofs.Common.{ℕ, zero, suc, ◌≡◌, ◌==◌, Bool, true, false, cond, List, [], ◌∷◌, get_or, map, refl, sym, subst, ap, ◌∙◌, inl, inr, arith, nat_cmp}
use Rattle.std.specs.Cmp.{nat_cmp_is}
use Rattle.std.specs.List.{All, filter}
use Rattle.std.specs.List.Sorted.{IsNonDecreasingBy, IsSortedByKey, IsStableByKey, ties}
use Rattle.std.specs.Ordering.{is_lt}
use Rattle.std.specs.declared.cmp.Ordering.TheVariants.{Less, Equal}
use Rattle.std.proofs.lemmas.Bool.{cases_lt}
use Rattle.std.proofs.lemmas.Bool.Decides.{nat_tests}
use Rattle.std.proofs.lemmas.List.Elements.{All-cons, All-head, All-map, All-nil, All-tail, filter_agree}
use Rattle.std.proofs.lemmas.List.Kept.{AllPairs-cons, AllPairs-filter}
use Rattle.std.proofs.lemmas.List.Sorted.{IsNonDecreasingBy-from_sort}
use Rattle.nf_base.specs.declared.rows.ShareRow.{ShareRow}
use Rattle.nf_defs.specs.Prelude.{IsRising, share_key}
use Rattle.nf_defs.proofs.Puts.{Below, below_rest, tail_rising}
use Rattle.nf_shares.specs.Kept.{IsIndex, entry_key, entry_of, ids_of}
use Rattle.nf_shares.specs.declared.entries.Entry.{Entry}

-- what all that pass have
all_that_pass : {X : Type 0} (p : X → Bool) (P : X → Type 0) (xs : List X) → All P (filter p xs) → All (λ (x : X). p x ≡ true → P x) xs
all_that_pass {X} p P [] all = All-nil (λ (x : X). p x ≡ true → P x)
all_that_pass {X} p P (x ∷ xs) all = here (p x) refl all (all_that_pass p P xs)
  where
    here : (b : Bool) → p x ≡ b → All P (cond b (x ∷ filter p xs) (filter p xs))
        → (All P (filter p xs) → All (λ (y : X). p y ≡ true → P y) xs) → All (λ (y : X). p y ≡ true → P y) (x ∷ xs)
    here true e all rest = All-cons (λ (y : X). p y ≡ true → P y) x xs (λ _. All-head P x (filter p xs) all) (rest (All-tail P x (filter p xs) all))
    here false e all rest = All-cons (λ (y : X). p y ≡ true → P y) x xs (λ passes. absurd (cc)) (rest all)

module _ {K : Type 0} (number : K → ℕ) (of_row : ShareRow → K) where
  abbrev by_share : Entry K → List ℕ
  by_share entry = entry.share ∷ []

  abbrev on : ℕ → List (Entry K) → List (Entry K)
  on n = filter (λ entry. number entry.by == n)

  -- by their numbers, and those of one number by their shares
  rises : (xs : List (Entry K)) → IsNonDecreasingBy (λ entry. number entry.by) xs → ((n : ℕ) → IsRising by_share (on n xs)) → IsRising (entry_key number) xs
  rises [] numbers shares = λ i j d before within. absurd (omega arith)
  rises (x ∷ xs) numbers shares =
      AllPairs-cons (Below (entry_key number)) x xs below
      (rises xs (λ i j d le within. numbers (suc i) (suc j) d (omega arith) (omega arith)) (λ n. rest n (number x.by == n) (shares n)))
    where
      rest : (n : ℕ) (b : Bool) → IsRising by_share (cond b (x ∷ on n xs) (on n xs)) → IsRising by_share (on n xs)
      rest n true rising = tail_rising by_share x (on n xs) rising
      rest n false rising = rising

      mine : IsRising by_share (x ∷ on (number x.by) xs)
      mine =
          let own : (number x.by == number x.by) ≡ true = grind (arith, nat_tests) in
          subst (λ (b : Bool). IsRising by_share (cond b (x ∷ on (number x.by) xs) (on (number x.by) xs))) own (shares (number x.by))

      below : All (Below (entry_key number) x) xs
      below k d within =
          let y = get_or xs k d in
          let le = numbers zero (suc k) d (omega arith) (omega arith) in
          elim (cases_lt (number x.by) (number y.by)) [
            | inl less ↦ rw (← nat_cmp_is (number x.by) (number y.by) Less less) refl
            | inr not_less ↦
                let same : number x.by ≡ number y.by = omega arith in
                let less = all_that_pass (λ entry. number entry.by == number x.by) (Below by_share x) xs (below_rest by_share x (on (number x.by) xs) mine) k d within
                (grind (arith, nat_tests)) in
                rw (← nat_cmp_is (number x.by) (number y.by) Equal same) less
          ]

  -- two entries tie where their numbers are one
  tie : (first entry : Entry K) → ties (λ (x y : Entry K). is_lt (nat_cmp (number x.by) (number y.by))) first entry ≡ (number entry.by == number first.by)
  tie first entry = grind (arith, nat_tests)

  same_on : ((n : ℕ) → (by : K) × (number by ≡ n)) → (rows : List ShareRow) (index : List (Entry K))
      → IsStableByKey (λ (entry : Entry K). number entry.by) nat_cmp (map (entry_of of_row) rows) index → (n : ℕ) → on n (map (entry_of of_row) rows) ≡ on n index
  same_on each rows index stable n =
      let (by, is) = each n in
      let first : Entry K = record { by = by; share = 0 } in
      let by_tie = filter_agree (ties (λ (x y : Entry K). is_lt (nat_cmp (number x.by) (number y.by))) first) (λ entry. number entry.by == n)
      (λ entry. tie first entry ∙ ap (λ (m : ℕ). number entry.by == m) is) in
      sym (by_tie (map (entry_of of_row) rows)) ∙ sym (stable first) ∙ by_tie index

  shares_of : (n : ℕ) (rows : List ShareRow) → map (λ entry. entry.share) (on n (map (entry_of of_row) rows)) ≡ ids_of (λ row. number (of_row row) == n) rows
  shares_of n [] = refl
  shares_of n (x ∷ xs) = let rest = shares_of n xs in grind arith

  in_order : (rows : List ShareRow) → IsRising share_key rows → IsRising by_share (map (entry_of of_row) rows)
  in_order [] rising = λ i j d before within. absurd (omega arith)
  in_order (x ∷ xs) rising =
      AllPairs-cons (Below by_share) (entry_of of_row x) (map (entry_of of_row) xs)
      (All-map (Below by_share (entry_of of_row x)) (entry_of of_row) xs (below_rest share_key x xs rising)) (in_order xs (tail_rising share_key x xs rising))

  pub sorted_index : ((n : ℕ) → (by : K) × (number by ≡ n)) → (rows : List ShareRow) (index : List (Entry K)) → IsRising share_key rows
      → IsSortedByKey (λ (entry : Entry K). number entry.by) nat_cmp index
      → IsStableByKey (λ (entry : Entry K). number entry.by) nat_cmp (map (entry_of of_row) rows) index → IsIndex number of_row index rows
  sorted_index each rows index rising sorted stable = record {
    entries_rise = rises index (IsNonDecreasingBy-from_sort (λ entry. number entry.by) index sorted)
        (λ n. subst (IsRising by_share) (same_on each rows index stable n)
        (AllPairs-filter (Below by_share) (λ entry. number entry.by == n) (map (entry_of of_row) rows) (in_order rows rising)));
    rows_rise = rising;
    numbers = λ n. ap (map (λ (entry : Entry K). entry.share)) (sym (same_on each rows index stable n)) ∙ shares_of n rows;
  }
