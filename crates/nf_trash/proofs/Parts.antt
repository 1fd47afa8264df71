-- The parts of a list by owner and age, found by halvings.
use Rattle.std.proofs.Common.{◌≡◌, ◌<◌, ◌≤◌, ◌+◌, ◌∙◌, ℕ, Bool, true, false, List, [], ◌∷◌, length, get_or, take, drop, not, nat_cmp, Result, Ok, Err, MatchResult, sym, inl, inr, arith, length-drop}
use Rattle.std.specs.List.{All, AllPairs, AllWithin, filter, list_any}
use Rattle.std.specs.List.Sorted.{IsBinarySearchResult, IsPartitionedBy, IsSearchInRange}
use Rattle.std.specs.Result.{is_ok}
use Rattle.std.specs.Prelude.{◌==◌, nat_le, nat_lt}
use Rattle.std.proofs.lemmas.Bool.{cases_lt}
use Rattle.std.proofs.lemmas.Bool.Decides.{nat_tests}
use Rattle.std.proofs.lemmas.List.{get_or-drop}
use Rattle.std.proofs.lemmas.List.Elements.{All-from_get_or}
use Rattle.std.proofs.lemmas.List.Folds.{list_any_at, list_any_none}
use Rattle.std.proofs.lemmas.List.Sorted.{searched}
use Rattle.nf_base.specs.declared.rows.ItemRow.{ItemRow}
use Rattle.nf_table.specs.Rows.{AreSorted}
use Rattle.nf_table.proofs.Fronts.{kept, passed}
use Rattle.nf_trash.specs.Aged.{is_newer}
use Rattle.nf_trash.specs.declared.aged.Aged.{Aged}
use Rattle.nf_trash.proofs.Lists.{each_passed}
use Rattle.nf_trash.proofs.Order.{UpTo, upto_itself}

-- an earlier one stands no later
along : (xs : List Aged) → AllPairs UpTo xs → (i j : ℕ) (d : Aged) → i ≤ j → j < length xs → UpTo (get_or xs i d) (get_or xs j d)
along xs up i j d le within =
    elim (cases_lt i j) [
      | inl before ↦ up i j d before within
      | inr not_before ↦ let e : i ≡ j = omega arith in rw e (upto_itself (get_or xs j d))
    ]

-- ---- those of a user

module _ (user : ℕ) (aged : List Aged) (up : AllPairs UpTo aged) where
  -- those of earlier users
  abbrev pub before : Aged → Bool
  before one = nat_lt one.owner user

  -- those of earlier users and of this one
  abbrev pub upto : Aged → Bool
  upto one = nat_le one.owner user

  -- they stand in front
  pub before_part : IsPartitionedBy before aged
  before_part i j d le within is = let order = along aged up i j d le within in grind (arith, nat_tests)

  -- so do these, of what is left
  pub upto_part : (from : ℕ) → IsPartitionedBy upto (drop from aged)
  upto_part from i j d le within is =
      let n = length-drop from aged in
      let order = along aged up (from + i) (from + j) d (omega arith) (omega arith) in
      let last = rw (get_or-drop from aged j d) at is in
      rw (get_or-drop from aged i d) (grind (arith, nat_tests))

  -- between the two places his stand
  pub users_part : (from count : ℕ) → AllWithin (λ one. before one ≡ true) aged 0 from → AllWithin (λ one. before one ≡ false) aged from (length aged)
      → AllWithin (λ one. upto one ≡ true) (drop from aged) 0 count → AllWithin (λ one. upto one ≡ false) (drop from aged) count (length (drop from aged))
      → count ≤ length (drop from aged) → take count (drop from aged) ≡ filter (λ one. one.owner == user) aged
  users_part from count lower rest pass fail within =
      kept (λ one. one.owner == user) (drop from aged) count
      (λ k d le less.
      let n = length-drop from aged in
      let is = rw (get_or-drop from aged k d) at (pass k d le less) in
      let not_before = rest (from + k) d (omega arith) (omega arith) in
      rw (get_or-drop from aged k d) (grind (arith, nat_tests)))
      (λ k d le less. let is = fail k d le less in grind (arith, nat_tests))
      ∙ sym (passed (λ one. one.owner == user) aged from (λ k d le less. let is = lower k d le less in grind (arith, nat_tests)))

-- ---- those no newer than an item

module _ (item : ItemRow) (aged : List Aged) (up : AllPairs UpTo aged) (own : All (λ one. one.owner ≡ item.owner) aged) where
  -- it is one of them
  abbrev pub no_newer : Aged → Bool
  no_newer one = not (is_newer one item)

  -- they stand in front
  pub older_part : IsPartitionedBy no_newer aged
  older_part i j d le within is =
      let order = along aged up i j d le within in
      let first = own i d (omega arith) in
      let last = own j d within in
      grind (arith, nat_tests)

  -- up to the place they stand
  pub older_front : (count : ℕ) → AllWithin (λ one. no_newer one ≡ true) aged 0 count → AllWithin (λ one. no_newer one ≡ false) aged count (length aged)
      → take count aged ≡ filter no_newer aged
  older_front count pass fail = kept no_newer aged count pass fail

  -- from it on the others do
  pub newer_rest : (count : ℕ) → AllWithin (λ one. no_newer one ≡ true) aged 0 count → AllWithin (λ one. no_newer one ≡ false) aged count (length aged)
      → drop count aged ≡ filter (λ one. is_newer one item) aged
  newer_rest count pass fail =
      sym (passed (λ one. is_newer one item) aged count (λ k d le less. let is = pass k d le less in grind arith)
      ∙ each_passed (λ one. is_newer one item) (drop count aged)
      (λ k d within.
      let n = length-drop count aged in
      let is = fail (count + k) d (omega arith) (omega arith) in
      rw (get_or-drop count aged k d) (grind arith)))

-- ---- a node among sorted ones

-- sorted nodes don't fall
sorted_nodes : (nodes : List ℕ) → AreSorted (λ (node : ℕ). node ∷ []) nodes → (i j : ℕ) → i ≤ j → j < length nodes → get_or nodes i 0 ≤ get_or nodes j 0
sorted_nodes nodes sorted i j le within =
    elim (cases_lt i j) [
      | inl before ↦ let order = sorted i j 0 before within in grind (arith, nat_tests)
      | inr not_before ↦ let e : i ≡ j = omega arith in rw e (omega arith)
    ]

-- a search by halving tells whether it is there
pub searched_node : (nodes : List ℕ) (sought : ℕ) (r : Result ℕ ℕ) → AreSorted (λ (node : ℕ). node ∷ []) nodes
    → IsBinarySearchResult (λ node. nat_cmp node sought) nodes r → IsSearchInRange r (length nodes) → is_ok r ≡ list_any (λ node. node == sought) nodes
searched_node nodes sought r sorted found range = here r (searched nodes sought r found (sorted_nodes nodes sorted))
  where
    Found : Result ℕ ℕ → Type 0
    Found r = MatchResult r (λ i. (i < length nodes) × (get_or nodes i 0 ≡ sought))
        (λ i. (i ≤ length nodes) × ((k : ℕ) → k < i → get_or nodes k 0 < sought) × ((k : ℕ) → i ≤ k → k < length nodes → sought < get_or nodes k 0))

    here : (r : Result ℕ ℕ) → Found r → is_ok r ≡ list_any (λ node. node == sought) nodes
    here (Ok i) found = sym (list_any_at (λ node. node == sought) nodes i 0 found.0 (let same = found.1 in grind (arith, nat_tests)))
    here (Err i) found =
        sym (list_any_none (λ node. node == sought) nodes
        (All-from_get_or (λ node. (node == sought) ≡ false) nodes 0
        (λ k within. elim (cases_lt k i) [
          | inl before ↦ (let less = found.1 k before in grind (arith, nat_tests))
          | inr after ↦ (let more = found.2 k after within in grind (arith, nat_tests))
        ])))
