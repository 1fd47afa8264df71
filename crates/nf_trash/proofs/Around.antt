-- A user's items from the oldest on, and the parts on both sides of one of them.
use Rattle.std.proofs.Common.{◌≡◌, ◌+◌, ◌∙◌, ℕ, Bool, true, List, [], ◌∷◌, ◌++◌, Some, get_or, not, refl, sym, ap, arith}
use Rattle.std.specs.List.{All, AllPairs, filter, sum_by}
use Rattle.std.specs.Prelude.{◌==◌}
use Rattle.std.proofs.lemmas.Bool.{eqb-true}
use Rattle.std.proofs.lemmas.Bool.Decides.{nat_tests}
use Rattle.std.proofs.lemmas.List.Elements.{All-cons, All-filter, All-nil, All-weaker, filter_passes}
use Rattle.std.proofs.lemmas.List.Filters.{sum_by-filter_both}
use Rattle.std.proofs.lemmas.List.Kept.{AllPairs-cons, AllPairs-filter}
use Rattle.std.proofs.lemmas.List.Quantifiers.{all_pairs_push}
use Rattle.std.proofs.lemmas.List.Sums.{sum_by-append, sum_by-cons, sum_by_push}
use Rattle.nf_base.specs.declared.rows.ItemRow.{ItemRow}
use Rattle.nf_defs.specs.Prelude.{item_row}
use Rattle.nf_trash.specs.Aged.{IsAged, aged_of, is_newer, items_but, items_of, oldest_first}
use Rattle.nf_trash.specs.declared.aged.Aged.{Aged}
use Rattle.nf_trash.proofs.Kept.{AreSame, one_only, same_passed}
use Rattle.nf_trash.proofs.Lists.{each_passed, pairs_joined, passed_twice}
use Rattle.nf_trash.proofs.Order.{UpTo, older_upto, oldest_is, one_list, rising_up, upto_newer, upto_on}

-- those of a user
abbrev pub users : List Aged → ℕ → List Aged
users aged user = filter (λ one. one.owner == user) aged

-- they are his
pub users_own : (aged : List Aged) (user : ℕ) → All (λ one. one.owner ≡ user) (users aged user)
users_own aged user =
    All-weaker (λ one. (one.owner == user) ≡ true) (λ one. one.owner ≡ user) (λ one. eqb-true one.owner user) (users aged user)
    (filter_passes (λ one. one.owner == user) aged)

-- and so are the items of a user
items_own : (items : List ItemRow) (user : ℕ) → All (λ item. item.owner ≡ user) (items_of items user)
items_own items user =
    All-weaker (λ item. (item.owner == user) ≡ true) (λ item. item.owner ≡ user) (λ item. eqb-true item.owner user) (items_of items user)
    (filter_passes (λ item. item.owner == user) items)

module _ (items : List ItemRow) (aged : List Aged) (is : IsAged items aged) where
  users_same : (user : ℕ) → AreSame (items_of items user) (users aged user)
  users_same user = same_passed items aged (λ item. item.owner == user) (λ one. one.owner == user) (λ k d within. refl) is.same

  users_up : (user : ℕ) → AllPairs UpTo (users aged user)
  users_up user = AllPairs-filter UpTo (λ one. one.owner == user) aged (rising_up aged is.rising)

  -- so they are his items from the oldest on
  pub users_oldest : (user : ℕ) → users aged user ≡ oldest_first (items_of items user)
  users_oldest user = oldest_is user (items_of items user) (users aged user) (items_own items user) (users_up user) (users_same user)

  module _ (item : ItemRow) where
    -- those of the item's owner
    abbrev all : List Aged
    all = users aged item.owner

    -- those that are no newer than it
    abbrev pub older : List Aged
    older = filter (λ one. not (is_newer one item)) all

    -- and those that are
    abbrev pub newer : List Aged
    newer = filter (λ one. is_newer one item) all

    -- the older ones stand before it
    older_up : All (λ one. UpTo one (aged_of item)) older
    older_up k d within =
        let own = All-filter (λ one. not (is_newer one item)) (λ one. one.owner ≡ item.owner) all (users_own aged item.owner) k d within in
        let passes = filter_passes (λ one. not (is_newer one item)) all k d within in
        older_upto (get_or older k d) item own (grind arith)

    -- and the newer ones behind it
    newer_up : All (λ one. UpTo (aged_of item) one) newer
    newer_up k d within =
        let own = All-filter (λ one. is_newer one item) (λ one. one.owner ≡ item.owner) all (users_own aged item.owner) k d within in
        upto_newer (get_or newer k d) item own (filter_passes (λ one. is_newer one item) all k d within)

    -- the older ones before the newer ones
    parted : (those : List Aged) → All (λ one. UpTo one (aged_of item)) those → All (λ one. All (UpTo one) newer) those
    parted those up k d within j e within' =
        upto_on (get_or those k d) (aged_of item) (get_or newer j e) (up k d within) (newer_up j e within')

    -- together they are all
    both_parts : (count : Aged → ℕ) → sum_by count older + sum_by count newer ≡ sum_by (λ other. count (aged_of other)) (items_of items item.owner)
    both_parts count =
        omega (arith, sum_by-filter_both (λ one. is_newer one item) (λ one. not (is_newer one item)) (λ one. refl) count all, users_same item.owner count)

    -- each part is in order
    older_pairs : AllPairs UpTo older
    older_pairs = AllPairs-filter UpTo (λ one. not (is_newer one item)) all (users_up item.owner)

    newer_pairs : AllPairs UpTo newer
    newer_pairs = AllPairs-filter UpTo (λ one. is_newer one item) all (users_up item.owner)

    -- with the item between them they are the items with it
    pub around_with : older ++ aged_of item ∷ newer ≡ oldest_first (item ∷ items_of items item.owner)
    around_with =
        oldest_is item.owner (item ∷ items_of items item.owner) (older ++ aged_of item ∷ newer)
        (All-cons (λ other. other.owner ≡ item.owner) item (items_of items item.owner) refl (items_own items item.owner))
        (pairs_joined UpTo older (aged_of item ∷ newer) older_pairs (AllPairs-cons UpTo (aged_of item) newer newer_up newer_pairs)
        (λ k d within. All-cons (UpTo (get_or older k d)) (aged_of item) newer (older_up k d within) (parted older older_up k d within)))
        (λ count. omega (
          arith,
          sum_by-append count older (aged_of item ∷ newer),
          sum_by-cons count (aged_of item) newer,
          both_parts count,
          sum_by-cons (λ other. count (aged_of other)) item (items_of items item.owner),
        ))

    module _ (found : item_row items item.node ≡ Some item) where
      -- it is told of its node
      abbrev is_it : Aged → Bool
      is_it one = one.node == item.node

      -- the older ones but it
      abbrev before : List Aged
      before = filter (λ one. not (is_it one)) older

      -- an item of its node
      abbrev of_node : ItemRow → Bool
      of_node other = other.node == item.node

      -- of its owner's items it is the only one of its node
      it_alone : filter of_node (items_of items item.owner) ≡ item ∷ []
      it_alone =
          passed_twice of_node (λ other. other.owner == item.owner) items
          ∙ ap (filter (λ (other : ItemRow). other.owner == item.owner)) (one_only item items is.nodes found)
          ∙ each_passed (λ other. other.owner == item.owner) (item ∷ [])
          (All-cons (λ other. (other.owner == item.owner) ≡ true) item [] (grind (arith, nat_tests)) (All-nil (λ other. (other.owner == item.owner) ≡ true)))

      -- of the older ones it is the only one of its node
      older_alone : (count : Aged → ℕ) → sum_by count (filter is_it older) ≡ count (aged_of item)
      older_alone count =
          let no_newer : ItemRow → Bool = λ other. not (is_newer (aged_of other) item) in
          let those = same_passed (items_of items item.owner) all no_newer (λ one. not (is_newer one item)) (λ k d within. refl) (users_same item.owner) in
          let alone = passed_twice of_node no_newer (items_of items item.owner) ∙ ap (filter no_newer) it_alone
          ∙ each_passed no_newer (item ∷ []) (All-cons (λ other. no_newer other ≡ true) item [] (grind (arith, nat_tests)) (All-nil (λ other. no_newer other ≡ true))) in
          same_passed (filter no_newer (items_of items item.owner)) older of_node is_it (λ k d within. refl) those count
          ∙ ap (sum_by (λ other. count (aged_of other))) alone
          ∙ omega (arith, sum_by-cons (λ other. count (aged_of other)) item [])

      -- the older ones are those but it, and it
      older_it : (count : Aged → ℕ) → sum_by count older ≡ sum_by count before + count (aged_of item)
      older_it count = omega (arith, sum_by-filter_both is_it (λ one. not (is_it one)) (λ one. refl) count older, older_alone count)

      -- those but it are in order
      before_pairs : AllPairs UpTo before
      before_pairs = AllPairs-filter UpTo (λ one. not (is_it one)) older older_pairs

      -- and stand before it
      before_up : All (λ one. UpTo one (aged_of item)) before
      before_up = All-filter (λ one. not (is_it one)) (λ one. UpTo one (aged_of item)) older older_up

      -- it is the last of the older ones
      last_older : older ≡ before ++ aged_of item ∷ []
      last_older =
          one_list older (before ++ aged_of item ∷ []) older_pairs (all_pairs_push UpTo before (aged_of item) before_pairs before_up)
          (λ count. older_it count ∙ sym (sum_by_push count before (aged_of item)))

      -- without it they are the items but it
      around_without : before ++ newer ≡ oldest_first (items_but items item)
      around_without =
          oldest_is item.owner (items_but items item) (before ++ newer)
          (All-filter (λ other. not (of_node other)) (λ other. other.owner ≡ item.owner) (items_of items item.owner) (items_own items item.owner))
          (pairs_joined UpTo before newer before_pairs newer_pairs (parted before before_up))
          (λ count. omega (
            arith,
            sum_by-append count before newer,
            older_it count,
            both_parts count,
            sum_by-filter_both of_node (λ other. not (of_node other)) (λ other. refl) (λ other. count (aged_of other)) (items_of items item.owner),
            ap (sum_by (λ other. count (aged_of other))) it_alone,
            sum_by-cons (λ other. count (aged_of other)) item [],
          ))

      -- both together
      pub around_but : (others : List Aged) × (older ≡ others ++ aged_of item ∷ []) × (others ++ newer ≡ oldest_first (items_but items item))
      around_but = (before, last_older, around_without)
