-- A list of places in the order of their rows' keys: where a key cuts it, and what putting in and taking out leave.
use Rattle.std.proofs.Common.{ℕ, zero, suc, ◌+◌, ◌<◌, ◌≤◌, ◌≡◌, ◌≢◌, Bool, true, false, List, [], ◌∷◌, ◌++◌, Some, None, refl, sym, ap, ◌∙◌, subst, inl, inr, arith, length, get_or, set, nat_eq}
use Rattle.std.specs.Cmp.{IsStrictWeakOrder}
use Rattle.std.specs.List.{All, AllPairs, Contains, insert, remove, slice_get, list_any, range_with_len}
use Rattle.std.specs.List.Sorted.{IsPartitionedBy, IsPermutation, IsSortedBy}
use Rattle.std.proofs.lemmas.Bool.{cases_lt, cases_order, true_from_ne_false}
use Rattle.std.proofs.lemmas.Bool.Decides.{Decides-eqb, nat_tests}
use Rattle.std.proofs.lemmas.List.{length_push, length-set}
use Rattle.std.proofs.lemmas.List.Elements.{All-cons, All-contains}
use Rattle.std.proofs.lemmas.List.Edits.{length-insert, length-remove}
use Rattle.std.proofs.lemmas.List.Folds.{list_any_at}
use Rattle.std.proofs.lemmas.List.FromFn.{length-range_with_len, get_or-range_with_len}
use Rattle.std.proofs.lemmas.List.Kept.{AllPairs-cons}
use Rattle.std.proofs.lemmas.List.Quantifiers.{all_pairs_remove}
use Rattle.std.proofs.lemmas.List.Sorted.{IsPermutation-insert, IsPermutation-remove, All-permutation, length_permutation, sorted_far}
use Rattle.std.proofs.lemmas.Map.Keys.{IsDistinct-IsPermutation}
use Rattle.std.proofs.lemmas.Map.Made.{AllPairs-from_IsDistinct, IsDistinct-from_AllPairs}
use Rattle.std.proofs.lemmas.Map.Steps.{length-le_from_distinct_below}
use Rattle.std.proofs.lemmas.Map.Views.{Contains-from_any}
use Rattle.nf_base.specs.declared.rows.NodeRow.{NodeRow}
use Rattle.nf_tree.specs.Order.{Key, key_lt, key_at, key_of, AreRisingNodes, AreInOrder, IsIndex, IsCut, LacksOnly, no_key}
use Rattle.nf_charge.proofs.Positions.{no_row}
use Rattle.nf_defs.proofs.Sorted.{lt_itself, lt_trans}
use Rattle.nf_tree.proofs.Keys.{weak, same_number}

-- ---- numbers that are equal

pub eq_flips : (a b : ℕ) → nat_eq a b ≡ nat_eq b a
eq_flips a b = grind (arith, nat_tests)

-- ---- keys and places

pub key_of_row : (rows : List NodeRow) (at : ℕ) (d : NodeRow) → at < length rows → key_at rows at ≡ key_of (get_or rows at d)
unfolding key_at
key_of_row [] at d within = absurd (omega arith)
key_of_row (x ∷ rows) zero d within = refl
key_of_row (x ∷ rows) (suc at) d within = key_of_row rows at d (omega arith)

pub key_of_read : (rows : List NodeRow) (at : ℕ) (row : NodeRow) → at < length rows → row ≡ get_or rows at row → key_at rows at ≡ key_of row
key_of_read rows at row within is = key_of_row rows at row within ∙ ap key_of (sym is)

pub number_at : (rows : List NodeRow) (at : ℕ) (d : NodeRow) → at < length rows → (key_at rows at).id ≡ (get_or rows at d).id
number_at rows at d within = ap (λ (key : Key). key.id) (key_of_row rows at d within)

-- places whose keys don't differ are one
pub same_place : (rows : List NodeRow) (a b : ℕ) (d : NodeRow) → AreRisingNodes rows → a < length rows → b < length rows
    → key_lt (key_at rows a) (key_at rows b) ≡ false → key_lt (key_at rows b) (key_at rows a) ≡ false → a ≡ b
same_place rows a b d rising within_a within_b low high =
    let same = same_number _ _ low high in
    let e = number_at rows a d within_a in
    let f = number_at rows b d within_b in
    elim (cases_order a b) [
      | inl is ↦ is
      | inr differ ↦ elim differ [
        | inl less ↦ let h = rising a b d less within_b in absurd (omega arith)
        | inr more ↦ let h = rising b a d more within_a in absurd (omega arith)
      ]
    ]

-- a key cuts the places in two
pub parted : (rows : List NodeRow) (order : List ℕ) (key : Key) → AreInOrder rows order → IsPartitionedBy (λ at. key_lt (key_at rows at) key) order
parted rows order key in_order = λ i j d le within less. elim (cases_lt i j) [
  | inl before ↦ lt_trans weak _ _ _ (in_order i j d before within) less
  | inr past ↦ subst (λ k. key_lt (key_at rows (get_or order k d)) key ≡ true) (omega arith) less
]

-- a cut by the row at a place
pub own_cut : (rows : List NodeRow) (order same : List ℕ) (at cut : ℕ) (row : NodeRow) → same ≡ order → at < length rows → row ≡ get_or rows at row
    → IsCut rows same (key_of row) cut → IsCut rows order (key_at rows at) cut
own_cut rows order same at cut row one within is cuts =
    subst (λ list. IsCut rows list (key_at rows at) cut) one (subst (λ key. IsCut rows same key cut) (sym (key_of_read rows at row within is)) cuts)

-- ---- the places of an index

below_itself : (rows : List NodeRow) (a b : ℕ) → a ≡ b → key_lt (key_at rows a) (key_at rows b) ≡ true → ⊥
below_itself rows a b same less = let h = subst (λ k. key_lt (key_at rows k) (key_at rows b) ≡ true) same less in let f = lt_itself weak (key_at rows b) in absurd (cc)

-- no place stands twice
pub no_place_twice : (rows : List NodeRow) (order : List ℕ) → AreInOrder rows order → AllPairs (λ a b. a ≢ b) order
no_place_twice rows order in_order = λ a b d less within same. below_itself rows (get_or order a d) (get_or order b d) same (in_order a b d less within)

-- each row's place is there: else the places would be too many
pub in_index : (rows : List NodeRow) (order : List ℕ) (at : ℕ) → IsIndex rows order → at < length rows → Contains order at
in_index rows order at index there = here (list_any (nat_eq at) order) refl
  where
    here : (b : Bool) → list_any (nat_eq at) order ≡ b → Contains order at
    here true e = Contains-from_any (λ x y. (Decides-eqb x y).0) at order e
    here false e = absurd (let few = too_many in let long = index.long in omega arith)
      where
        absent : All (λ k. at ≢ k) order
        absent k d within same = let h = list_any_at (nat_eq at) order k d within ((Decides-eqb at (get_or order k d)).1 same) in absurd (cc)

        below : All (λ k. k < length rows) (at ∷ order)
        below = All-cons (λ k. k < length rows) at order there index.within

        too_many : length (at ∷ order) ≤ length rows
        too_many = length-le_from_distinct_below (at ∷ order) (length rows)
            (IsDistinct-from_AllPairs Decides-eqb (at ∷ order) (AllPairs-cons (λ a b. a ≢ b) at order absent (no_place_twice rows order index.in_order)))
            (λ q found. All-contains (λ k. k < length rows) (at ∷ order) q below (Contains-from_any (λ x y. (Decides-eqb x y).0) q (at ∷ order) found))

-- ---- putting in

AllPairs-insert : {X : Type 0} (R : X → X → Type 0) (xs : List X) (i : ℕ) (y : X) → i ≤ length xs → AllPairs R xs
    → ((k : ℕ) (d : X) → k < i → R (get_or xs k d) y) → ((k : ℕ) (d : X) → i ≤ k → k < length xs → R y (get_or xs k d))
    → AllPairs R (insert xs i y)
AllPairs-insert R xs zero y bound pairs before behind = AllPairs-cons R y xs (λ k d high. behind k d (omega arith) high) pairs
AllPairs-insert R [] (suc i) y bound pairs before behind = absurd (omega arith)
AllPairs-insert R (x ∷ xs) (suc i) y bound pairs before behind =
    AllPairs-cons R x (insert xs i y)
    (All-permutation (R x) (y ∷ xs) (insert xs i y) (IsPermutation-insert xs i y)
    (All-cons (R x) y xs (before 0 x (omega arith)) (λ k d high. pairs 0 (suc k) d (omega arith) (omega arith))))
    (AllPairs-insert R xs i y (omega arith) (λ a b d less high. pairs (suc a) (suc b) d (omega arith) (omega arith))
    (λ k d less. before (suc k) d (omega arith)) (λ k d low high. behind (suc k) d (omega arith) (omega arith)))

pub put_in : (rows : List NodeRow) (order : List ℕ) (at to : ℕ) → AreRisingNodes rows → at < length rows → LacksOnly rows order at
    → IsCut rows order (key_at rows at) to → IsIndex rows (insert order to at)
put_in rows order at to rising there lacks cut = record {
  within = All-permutation (λ k. k < length rows) (at ∷ order) (insert order to at) (IsPermutation-insert order to at) (All-cons (λ k. k < length rows) at order there lacks.within);
  long = length-insert order to at cut.bound ∙ lacks.long;
  in_order = AllPairs-insert (λ a b. key_lt (key_at rows a) (key_at rows b) ≡ true) order to at cut.bound lacks.in_order (λ k e less. cut.before k e (omega arith) less)
      (λ k e low high. true_from_ne_false _ (λ is. lacks.absent k e high
      (same_place rows (get_or order k e) at no_row rising (lacks.within k e high) there (cut.behind k e low high) is)));
}

-- ---- taking out

-- where a place's own key cuts, there it is
pub cut_is : (rows : List NodeRow) (order : List ℕ) (at from : ℕ) → IsIndex rows order → at < length rows → IsCut rows order (key_at rows at) from
    → (from < length order) × (get_or order from at ≡ at)
cut_is rows order at from index there cut = found (in_index rows order at index there)
  where
    found : Contains order at → (from < length order) × (get_or order from at ≡ at)
    found (j, within, is) = elim (cases_order from j) [
      | inl same ↦ (omega arith, ap (λ k. get_or order k at) same ∙ is)
      | inr differ ↦ elim differ [
        | inl less ↦ absurd (
            let h = cut.behind from at (omega arith) (omega arith) in
            let g = subst (λ a. key_lt (key_at rows (get_or order from at)) (key_at rows a) ≡ true) is (index.in_order from j at less within) in
            cc)
        | inr more ↦ absurd (below_itself rows (get_or order j at) at is (cut.before j at (omega arith) more))
      ]
    ]

pub take_out : (rows : List NodeRow) (order : List ℕ) (at from : ℕ) → IsIndex rows order → at < length rows → IsCut rows order (key_at rows at) from
    → LacksOnly rows (remove order from) at
take_out rows order at from index there cut = record {
  within = λ k d high. All-permutation (λ k. k < length rows) order (at ∷ remove order from) front index.within (suc k) d (omega arith);
  long = let e = length-remove order from here.0 in omega (arith, e, index.long);
  in_order = all_pairs_remove (λ a b. key_lt (key_at rows a) (key_at rows b) ≡ true) order from here.0 index.in_order;
  absent = λ k d high same. AllPairs-from_IsDistinct Decides-eqb (at ∷ remove order from)
      (IsDistinct-IsPermutation nat_eq eq_flips order (at ∷ remove order from) front (IsDistinct-from_AllPairs Decides-eqb order (no_place_twice rows order index.in_order)))
      0 (suc k) d (omega arith) (omega arith) (sym same);
}
  where
    here : (from < length order) × (get_or order from at ≡ at)
    here = cut_is rows order at from index there cut

    front : IsPermutation order (at ∷ remove order from)
    front = IsPermutation-remove order from at here.0 (sym here.1)

-- ---- changes of the rows

key_at_push : (rows : List NodeRow) (row : NodeRow) (at : ℕ) → at < length rows → key_at (rows ++ row ∷ []) at ≡ key_at rows at
unfolding key_at
key_at_push [] row at within = absurd (omega arith)
key_at_push (x ∷ rows) row zero within = refl
key_at_push (x ∷ rows) row (suc at) within = key_at_push rows row at (omega arith)

pub key_at_set : (rows : List NodeRow) (row : NodeRow) (i at : ℕ) → at ≢ i → key_at (set rows i row) at ≡ key_at rows at
unfolding key_at
key_at_set [] row i at differ = refl
key_at_set (x ∷ rows) row zero zero differ = absurd (differ refl)
key_at_set (x ∷ rows) row zero (suc at) differ = refl
key_at_set (x ∷ rows) row (suc i) zero differ = refl
key_at_set (x ∷ rows) row (suc i) (suc at) differ = key_at_set rows row i at (λ same. differ (ap suc same))

-- an index of the rows lacks only the row that is put behind them
pub pushed : (rows : List NodeRow) (row : NodeRow) (order : List ℕ) → IsIndex rows order → LacksOnly (rows ++ row ∷ []) order (length rows)
pushed rows row order index = record {
  within = λ k d high. let e = length_push rows row in let h = index.within k d high in omega arith;
  long = omega (arith, length_push rows row, index.long);
  in_order = λ a b d less high.
      rw (key_at_push rows row _ (index.within a d (omega arith))) (rw (key_at_push rows row _ (index.within b d high)) (index.in_order a b d less high));
  absent = λ k d high same. let h = index.within k d high in omega arith;
}

-- what lacks a place may have another row there
pub changed : (rows : List NodeRow) (row : NodeRow) (order : List ℕ) (at : ℕ) → LacksOnly rows order at → LacksOnly (set rows at row) order at
changed rows row order at lacks = record {
  within = λ k d high. let e = length-set rows at row in let h = lacks.within k d high in omega arith;
  long = lacks.long ∙ sym (length-set rows at row);
  in_order = λ a b d less high.
      rw (key_at_set rows row at _ (lacks.absent a d (omega arith))) (rw (key_at_set rows row at _ (lacks.absent b d high)) (lacks.in_order a b d less high));
  absent = lacks.absent;
}

-- ---- all the places, sorted

pub key_at_some : (rows : List NodeRow) (at : ℕ) (row : NodeRow) → slice_get rows at ≡ Some row → key_at rows at ≡ key_of row
unfolding key_at
key_at_some rows at row e = rw e refl

pub key_at_none : (rows : List NodeRow) (at : ℕ) → slice_get rows at ≡ None → key_at rows at ≡ no_key
unfolding key_at
key_at_none rows at e = rw e refl

range_from : (a n : ℕ) → range_with_len a (suc n) ≡ range_with_len a n ++ (a + n) ∷ []
range_from a zero = ap (λ k. k ∷ []) (omega arith)
range_from a (suc n) = ap (λ list. a ∷ list) (range_from (a + 1) n ∙ ap (λ k. range_with_len (a + 1) n ++ k ∷ []) (omega arith))

pub range_more : (n : ℕ) → range_with_len 0 (n + 1) ≡ range_with_len 0 n ++ n ∷ []
range_more n = let e : n + 1 ≡ suc n = omega arith in ap (range_with_len 0) e ∙ range_from 0 n ∙ ap (λ k. range_with_len 0 n ++ k ∷ []) (omega arith)

-- the order of places by their keys, as a sort asks for it
abbrev pub place_lt : List NodeRow → ℕ → ℕ → Bool
place_lt rows a b = key_lt (key_at rows a) (key_at rows b)

pub places_weak : (rows : List NodeRow) → IsStrictWeakOrder (place_lt rows)
places_weak rows = record { one_way = λ a b h. weak.one_way _ _ h; chain = λ a b c h g. weak.chain _ _ _ h g }

pub sorted_index : (rows : List NodeRow) (order : List ℕ) → AreRisingNodes rows → IsPermutation (range_with_len 0 (length rows)) order → IsSortedBy (place_lt rows) order → IsIndex rows order
sorted_index rows order rising places sorted = record {
  within = within;
  long = length_permutation (range_with_len 0 (length rows)) order places ∙ length-range_with_len 0 (length rows);
  in_order = λ a b d less high. true_from_ne_false _ (λ is. apart a b d less high
      (same_place rows (get_or order a d) (get_or order b d) no_row rising (within a d (omega arith)) (within b d high) is
      (sorted_far (place_lt rows) (places_weak rows) order sorted a b d (omega arith) high)));
}
  where
    at_range : (a d : ℕ) → a < length (range_with_len 0 (length rows)) → get_or (range_with_len 0 (length rows)) a d ≡ a
    at_range a d high = let e = length-range_with_len 0 (length rows) in get_or-range_with_len 0 (length rows) a d (omega arith) ∙ omega arith

    within : All (λ at. at < length rows) order
    within = All-permutation (λ at. at < length rows) (range_with_len 0 (length rows)) order places
        (λ a d high. let e = length-range_with_len 0 (length rows) in let g = at_range a d high in omega arith)

    apart : AllPairs (λ a b. a ≢ b) order
    apart = AllPairs-from_IsDistinct Decides-eqb order (IsDistinct-IsPermutation nat_eq eq_flips (range_with_len 0 (length rows)) order places
        (IsDistinct-from_AllPairs Decides-eqb (range_with_len 0 (length rows)) (λ a b d less high same. let e = at_range a d (omega arith) in let g = at_range b d high in omega arith)))
