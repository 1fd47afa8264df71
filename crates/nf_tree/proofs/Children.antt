-- The children of a folder stand together in the index.
use Rattle.std.proofs.Common.{ℕ, ◌+◌, ◌-◌, ◌<◌, ◌≤◌, ◌≡◌, true, false, List, [], ◌∷◌, ◌++◌, Some, refl, sym, ap, ◌∙◌, subst, inl, inr, arith, length, get_or, map, not, nat_cmp}
use Rattle.std.specs.Cmp.Lexicographic.{slice_cmp, options_total}
use Rattle.std.specs.List.{AllPairs, Contains, AllWithin, between}
use Rattle.std.specs.Option.{option_cmp}
use Rattle.std.specs.Ordering.{is_lt, ordering_then}
use Rattle.std.proofs.lemmas.Bool.{cases_lt, cases_order, false_from_ne_true}
use Rattle.std.proofs.lemmas.Bool.Decides.{nat_tests}
use Rattle.std.proofs.lemmas.Cmp.{nat_cmp_total, tied_itself}
use Rattle.std.proofs.lemmas.List.{get_or_default, get_or-map, length-map, get_or_read, map_push}
use Rattle.std.proofs.lemmas.List.Edits.{length-between, get_or-between, between_more}
use Rattle.std.proofs.lemmas.List.Elements.{Contains-get_or}
use Rattle.std.proofs.lemmas.List.Folds.{list_any_at, list_any_none}
use Rattle.nf_base.specs.declared.rows.NodeRow.{NodeRow}
use Rattle.nf_defs.specs.Prelude.{children_of, comes_before, folder_of, is_in, is_leaf}
use Rattle.nf_tree.specs.Order.{Key, key_lt, key_at, key_of, AreRisingNodes, IsIndex, IsCut}
use Rattle.nf_charge.proofs.Positions.{no_row}
use Rattle.nf_tree.proofs.Keys.{weak, squeezed_folder}
use Rattle.nf_tree.proofs.Orders.{key_of_row, in_index}
use Rattle.nf_defs.proofs.Walks.{is_of_inside}
use Rattle.nf_tree.proofs.Childs.{folder_is}
use Rattle.nf_tree.proofs.ByName.{is_by_name}

abbrev pub row_at : List NodeRow → ℕ → NodeRow
row_at rows at = get_or rows at no_row

same_folder : (folder : ℕ) (a b : NodeRow) → folder_of a.place ≡ Some folder → folder_of b.place ≡ Some folder → key_lt (key_of a) (key_of b) ≡ comes_before a b
unfolding key_lt
same_folder folder a b e f =
    let tie = tied_itself (options_total nat_cmp_total) (Some folder) in
    let g : option_cmp nat_cmp (folder_of a.place) (folder_of b.place) ≡ option_cmp nat_cmp (Some folder) (Some folder) = rw e (rw f refl) in
    ap (λ o. is_lt (ordering_then o (ordering_then (slice_cmp nat_cmp a.name b.name) (nat_cmp a.id b.id)))) (g ∙ tie)

-- no key of a folder comes before the first that there could be
above_first : (folder : ℕ) (name : List ℕ) (i : ℕ)
    → key_lt (record { folder = Some folder; name = name; id = i }) (record { folder = Some folder; name = []; id = 0 }) ≡ false
unfolding key_lt
above_first folder name i = let tie = tied_itself (options_total nat_cmp_total) (Some folder) in rw tie (named name)
  where
    low : is_lt (nat_cmp i 0) ≡ false
    low = grind (arith, nat_tests)

    named : (name : List ℕ) → is_lt (ordering_then (slice_cmp nat_cmp name []) (nat_cmp i 0)) ≡ false
    named [] = low
    named (x ∷ xs) = refl

module _ (rows : List NodeRow) (order : List ℕ) (folder from at : ℕ) (rising : AreRisingNodes rows) (index : IsIndex rows order)
    (cuts : IsCut rows order (record { folder = Some folder; name = []; id = 0 }) from) (start : from ≤ at) (end : at ≤ length order)
    (all : AllWithin (λ p. is_in folder (row_at rows p) ≡ true) order from at) where
  part : List NodeRow
  part = map (row_at rows) (between from at order)

  length-part : length part ≡ at - from
  unfolding part
  length-part = length-map (between from at order) (row_at rows) ∙ length-between order from at end

  part_at : (i : ℕ) (d : NodeRow) → i < length part → get_or part i d ≡ row_at rows (get_or order (from + i) 0)
  unfolding part
  part_at i d within =
      let long = length-part in
      let short = length-between order from at end in
      get_or-map (row_at rows) (between from at order) i 0 d (omega arith) ∙ ap (row_at rows) (get_or-between order from at i 0 (omega arith))

  row_there : (k : ℕ) → k < length order → get_or order k 0 < length rows
  row_there k high = index.within k 0 high

  key_there : (k : ℕ) → k < length order → key_at rows (get_or order k 0) ≡ key_of (row_at rows (get_or order k 0))
  key_there k high = key_of_row rows (get_or order k 0) no_row (row_there k high)

  folder_there : (k : ℕ) → from ≤ k → k < at → folder_of (row_at rows (get_or order k 0)).place ≡ Some folder
  folder_there k low high = folder_is folder (row_at rows (get_or order k 0)).place (all k 0 low high)

  pairs : AllPairs (λ a b. comes_before a b ≡ true) part
  pairs i j d less within =
      let long = length-part in
      let h = index.in_order (from + i) (from + j) 0 (omega arith) (omega arith) in
      let g = subst (λ key. key_lt key (key_at rows (get_or order (from + j) 0)) ≡ true) (key_there (from + i) (omega arith)) h in
      let f = subst (λ key. key_lt (key_of (row_at rows (get_or order (from + i) 0))) key ≡ true) (key_there (from + j) (omega arith)) g in
      let e = sym (same_folder folder (row_at rows (get_or order (from + i) 0)) (row_at rows (get_or order (from + j) 0)) (folder_there (from + i) (omega arith) (omega arith)) (folder_there (from + j) (omega arith) (omega arith))) ∙ f in
      rw (part_at i d (omega arith)) (rw (part_at j d within) e)

  there : (y : NodeRow) → Contains part y → Contains rows y × (is_in folder y ≡ true)
  there y (i, within, is) =
      let long = length-part in
      let e = sym (part_at i y within) ∙ is in (
        subst (λ z. Contains rows z) e (Contains-get_or rows (get_or order (from + i) 0) no_row (row_there (from + i) (omega arith))),
        subst (λ z. is_in folder z ≡ true) e (all (from + i) 0 (omega arith) (omega arith)),
      )

  module _ (stop : at < length order → is_in folder (row_at rows (get_or order at 0)) ≡ false) where
    back : (y : NodeRow) → Contains rows y → is_in folder y ≡ true → Contains part y
    back y (p, within, is) child = found (in_index rows order p index within)
      where
        this : row_at rows p ≡ y
        this = get_or_default rows p no_row y within ∙ is

        placed : folder_of y.place ≡ Some folder
        placed = folder_is folder y.place child

        key : key_at rows p ≡ record { folder = Some folder; name = y.name; id = y.id }
        key = key_of_row rows p no_row within ∙ ap key_of this ∙ (rw placed refl)

        found : Contains order p → Contains part y
        found (j, high, at_j) = elim (cases_lt j from) [
          | inl low ↦ absurd (
              let h = subst (λ a. key_lt (key_at rows a) (record { folder = Some folder; name = []; id = 0 }) ≡ true) at_j (cuts.before j p (omega arith) low) in
              let g = subst (λ k. key_lt k (record { folder = Some folder; name = []; id = 0 }) ≡ true) key h in
              let f = above_first folder y.name y.id in
              cc)
          | inr low ↦ elim (cases_order j at) [
            | inl same ↦ absurd (
                let e : get_or order at 0 ≡ p = get_or_default order at 0 p (omega arith) ∙ subst (λ i. get_or order i p ≡ p) same at_j in
                let f = subst (λ a. is_in folder (row_at rows a) ≡ false) e (stop (omega arith)) in
                let g = subst (λ z. is_in folder z ≡ false) this f in
                cc)
            | inr differ ↦ elim differ [
              | inl less ↦
                  (let long = length-part in
                  let e : from + (j - from) ≡ j = omega arith in
                  let f = get_or_default order j 0 p high ∙ at_j in
                  (j - from, omega arith, part_at (j - from) y (omega arith) ∙ ap (λ i. row_at rows (get_or order i 0)) e ∙ ap (row_at rows) f ∙ this))
              | inr more ↦ absurd (
                  let h = index.in_order at j p more high in
                  let g = subst (λ a. key_lt (key_at rows (get_or order at p)) (key_at rows a) ≡ true) at_j h in
                  let f = subst (λ a. key_lt (key_at rows a) (key_at rows p) ≡ true) (get_or_default order at p 0 (omega arith)) g in
                  let low_key = cuts.behind at 0 start (omega arith) in
                  let e = squeezed_folder (key_at rows (get_or order at 0)) (record { folder = Some folder; name = []; id = 0 }) (key_at rows p) (sym (ap (λ (k : Key). k.folder) key)) low_key (weak.one_way _ _ f) in
                  let r = sym (ap (λ (k : Key). k.folder) (key_there at (omega arith))) ∙ e in
                  let s = is_of_inside folder (row_at rows (get_or order at 0)).place r in
                  let t = stop (omega arith) in
                  cc)
            ]
          ]
        ]

    pub children_all : map (λ p. (row_at rows p).id) (between from at order) ≡ children_of rows folder
    unfolding part
    children_all = map_twice (between from at order) ∙ ap (map (λ (row : NodeRow). row.id)) (is_by_name (is_in folder) rows part rising pairs there back)
      where
        map_twice : (ps : List ℕ) → map (λ p. (row_at rows p).id) ps ≡ map (λ (row : NodeRow). row.id) (map (row_at rows) ps)
        map_twice [] = refl
        map_twice (p ∷ ps) = ap (λ rest. (row_at rows p).id ∷ rest) (map_twice ps)

-- the row that was read at a place of the index
pub row_read : (rows : List NodeRow) (order : List ℕ) (at : ℕ) (row : NodeRow) → IsIndex rows order → at < length order → row ≡ get_or rows (get_or order at 0) row
    → row ≡ row_at rows (get_or order at 0)
row_read rows order at row index high is = get_or_read rows (get_or order at 0) row (index.within at 0 high) is no_row

-- one child more
pub part_more : (rows : List NodeRow) (order : List ℕ) (from at : ℕ) (row : NodeRow) → from ≤ at → at < length order → row ≡ row_at rows (get_or order at 0)
    → map (λ p. (row_at rows p).id) (between from (at + 1) order) ≡ map (λ p. (row_at rows p).id) (between from at order) ++ row.id ∷ []
part_more rows order from at row start high is =
    ap (map (λ p. (row_at rows p).id)) (between_more order from at 0 start high)
    ∙ map_push (λ p. (row_at rows p).id) (between from at order) (get_or order at 0)
    ∙ ap (λ (r : NodeRow). map (λ p. (row_at rows p).id) (between from at order) ++ r.id ∷ []) (sym is)

pub all_more : (rows : List NodeRow) (order : List ℕ) (folder from at : ℕ) (row : NodeRow) → from ≤ at → at < length order → row ≡ row_at rows (get_or order at 0) → is_in folder row ≡ true
    → AllWithin (λ p. is_in folder (row_at rows p) ≡ true) order from at → AllWithin (λ p. is_in folder (row_at rows p) ≡ true) order from (at + 1)
all_more rows order folder from at row start high is child all = λ k d low less. elim (cases_lt k at) [
  | inl below ↦ all k d low below
  | inr past ↦
      let e : k ≡ at = omega arith in
      subst (λ j. is_in folder (row_at rows (get_or order j d)) ≡ true) (sym e)
      (subst (λ p. is_in folder (row_at rows p) ≡ true) (get_or_default order at 0 d high) (subst (λ r. is_in folder r ≡ true) is child))
]

-- ---- leaves

-- where the first place that a child could have is another's, no row is in the folder
pub no_child : (rows : List NodeRow) (order : List ℕ) (folder from : ℕ) → AreRisingNodes rows → IsIndex rows order → IsCut rows order (record { folder = Some folder; name = []; id = 0 }) from
    → (from < length order → is_in folder (row_at rows (get_or order from 0)) ≡ false) → is_leaf rows folder ≡ true
no_child rows order folder from rising index cuts stop =
    ap not (list_any_none (is_in folder) rows (λ k d within. false_from_ne_true _ (λ child.
    let inside = back rows order folder from from rising index cuts (omega arith) cuts.bound (λ i d low less. absurd (omega arith)) stop (get_or rows k d) (Contains-get_or rows k d within) child in
    let long = length-part rows order folder from from rising index cuts (omega arith) cuts.bound (λ i d low less. absurd (omega arith)) in
    absurd (omega (arith, inside.1, long)))))

pub has_child : (rows : List NodeRow) (order : List ℕ) (folder at : ℕ) (row : NodeRow) → IsIndex rows order → at < length order → row ≡ row_at rows (get_or order at 0) → is_in folder row ≡ true
    → is_leaf rows folder ≡ false
has_child rows order folder at row index high is child =
    ap not (list_any_at (is_in folder) rows (get_or order at 0) no_row (index.within at 0 high) (subst (λ r. is_in folder r ≡ true) is child))
