-- The rows of a part of the index that has just a folder's children are the folder's rows by name.
use Rattle.std.proofs.Common.{◌⊎◌, ◌<◌, ◌≡◌, Bool, true, List, [], ◌∷◌, refl, sym, ◌∙◌, subst, inl, inr, filter}
use Rattle.std.specs.List.{All, AllPairs, Contains}
use Rattle.std.proofs.lemmas.List.Elements.{All-contains, All-contains_itself, All-filter, filter_passes}
use Rattle.std.proofs.lemmas.List.Kept.{AllPairs-filter}
use Rattle.nf_base.specs.declared.rows.NodeRow.{NodeRow}
use Rattle.nf_defs.specs.Tree.{by_name}
use Rattle.nf_defs.proofs.ByName.{Contains-here, Contains-later, Contains-cases, Contains-none, Contains-filter, Contains-by_name, All-by_name}
use Rattle.nf_defs.proofs.Sorted.{Before, by_name_rises, lt_trans, name_weak, not_itself, pairs_head, pairs_tail}
use Rattle.nf_tree.specs.Order.{AreRisingNodes}

-- ---- strictly rising lists with the same members are the same

-- what is behind the first of a rising list is behind the first of another with the same members
behind : (x y : NodeRow) (xs ys : List NodeRow) → AllPairs Before (x ∷ xs) → x ≡ y → ((z : NodeRow) → Contains (x ∷ xs) z → Contains (y ∷ ys) z) → (z : NodeRow) → Contains xs z → Contains ys z
behind x y xs ys up same there z h = elim (Contains-cases y z ys (there z (Contains-later x z xs h))) [
  | inl is ↦ absurd (not_itself x (subst (λ w. Before x w) (sym (same ∙ is)) (All-contains (Before x) xs z (pairs_head Before x xs up) h)))
  | inr later ↦ later
]

same_members : (xs ys : List NodeRow) → AllPairs Before xs → AllPairs Before ys → ((y : NodeRow) → Contains xs y → Contains ys y) → ((y : NodeRow) → Contains ys y → Contains xs y) → xs ≡ ys
same_members [] [] up down there back = refl
same_members [] (y ∷ ys) up down there back = absurd (Contains-none y (back y (Contains-here y ys)))
same_members (x ∷ xs) [] up down there back = absurd (Contains-none x (there x (Contains-here x xs)))
same_members (x ∷ xs) (y ∷ ys) up down there back =
    let same = first (Contains-cases y x ys (there x (Contains-here x xs))) (Contains-cases x y xs (back y (Contains-here y ys))) in
    let rest = same_members xs ys (pairs_tail Before x xs up) (pairs_tail Before y ys down) (behind x y xs ys up same there) (behind y x ys xs down (sym same) back) in
    cc
  where
    first : (y ≡ x) ⊎ Contains ys x → (x ≡ y) ⊎ Contains xs y → x ≡ y
    first (inl e) h = sym e
    first (inr g) (inl e) = e
    first (inr g) (inr h) = absurd (not_itself x (lt_trans name_weak x y x (All-contains (Before x) xs y (pairs_head Before x xs up) h) (All-contains (Before y) ys x (pairs_head Before y ys down) g)))

-- ---- by name

-- rows in the order of their names that are just those that pass are those rows by name
pub is_by_name : (p : NodeRow → Bool) (rows xs : List NodeRow) → AreRisingNodes rows → AllPairs Before xs
    → ((y : NodeRow) → Contains xs y → Contains rows y × (p y ≡ true)) → ((y : NodeRow) → Contains rows y → p y ≡ true → Contains xs y)
    → xs ≡ by_name (filter p rows)
is_by_name p rows xs rising pairs there back =
    same_members xs (by_name (filter p rows)) pairs
    (by_name_rises (filter p rows) (AllPairs-filter (λ (a b : NodeRow). a.id < b.id) p rows rising))
    (λ y h. let g = there y h in Contains-by_name (filter p rows) y (Contains-filter p rows y g.0 g.1))
    (λ y h. All-contains (Contains xs) (by_name (filter p rows)) y (All-by_name (Contains xs) (filter p rows) passed) h)
  where
    passed : All (Contains xs) (filter p rows)
    passed k d within = back _ (All-filter p (Contains rows) rows (All-contains_itself rows) k d within) (filter_passes p rows k d within)
