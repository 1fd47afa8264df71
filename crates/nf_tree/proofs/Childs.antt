-- The child of a name is the row where its key cuts the index.
use Rattle.std.proofs.Common.{ℕ, ◌<◌, ◌≤◌, ◌≡◌, ◌&&◌, Bool, true, false, List, Option, Some, None, refl, sym, ap, ◌∙◌, subst, inl, inr, arith, length, get_or, nat_cmp}
use Rattle.std.specs.List.{Contains}
use Rattle.std.specs.Ordering.{is_lt}
use Rattle.std.specs.Option.{option_map}
use Rattle.std.specs.Str.{bytes_eq}
use Rattle.std.specs.Cmp.Lexicographic.{options_total}
use Rattle.std.proofs.lemmas.Bool.{and_parts, cases_lt, false_from_ne_true}
use Rattle.std.proofs.lemmas.Bool.Decides.{nat_tests}
use Rattle.std.proofs.lemmas.Cmp.{tied_itself, nat_list_cmp_total, nat_cmp_total}
use Rattle.std.proofs.lemmas.List.{get_or_default}
use Rattle.std.proofs.lemmas.Slice.Eq.{bytes_eq-Decides}
use Rattle.nf_base.specs.declared.rows.NodeRow.{NodeRow}
use Rattle.nf_base.specs.declared.rows.Place.{Place}
use Rattle.nf_base.specs.declared.rows.Place.TheVariants.{Root, Inside, Trash}
use Rattle.nf_defs.specs.Tree.{child_of, is_in, is_place_in, folder_of}
use Rattle.nf_defs.proofs.Lookups.{position_at, position_nowhere, find_there, find_nowhere}
use Rattle.nf_defs.proofs.Walks.{is_of_inside}
use Rattle.nf_tree.specs.Order.{Key, key_lt, key_at, key_of, AreRisingNodes, IsIndex, IsCut}
use Rattle.std.proofs.lemmas.List.{get_or_read}
use Rattle.nf_charge.proofs.Positions.{no_row}
use Rattle.nf_tree.proofs.Keys.{weak, squeezed}
use Rattle.nf_tree.proofs.Orders.{key_of_row, in_index}

-- ---- rows in a folder

pub folder_is : (folder : ℕ) (place : Place) → is_place_in folder place ≡ true → folder_of place ≡ Some folder
folder_is folder Root h = absurd (cc)
folder_is folder (Inside parent) h = ap Some (grind (arith, nat_tests))
folder_is folder Trash h = absurd (cc)

-- the row is the folder's child of that name
pub is_child : ℕ → List ℕ → NodeRow → Bool
is_child folder name row = is_in folder row && bytes_eq row.name name

child_key : (rows : List NodeRow) (folder k : ℕ) (name : List ℕ) (d : NodeRow) → k < length rows → is_child folder name (get_or rows k d) ≡ true
    → key_at rows k ≡ record { folder = Some folder; name = name; id = (get_or rows k d).id }
unfolding is_child
child_key rows folder k name d within is = key_of_row rows k d within ∙ same (get_or rows k d) (and_parts _ _ is)
  where
    same : (row : NodeRow) → (is_in folder row ≡ true) × (bytes_eq row.name name ≡ true) → key_of row ≡ record { folder = Some folder; name = name; id = row.id }
    same row h = let e = folder_is folder row.place h.0 in let f = (bytes_eq-Decides row.name name).0 h.1 in rw e (rw f refl)

is_child_from : (rows : List NodeRow) (folder k : ℕ) (name : List ℕ) (d : NodeRow) → k < length rows → (key_at rows k).folder ≡ Some folder → (key_at rows k).name ≡ name
    → is_child folder name (get_or rows k d) ≡ true
unfolding is_child
is_child_from rows folder k name d within in_it named =
    let key = key_of_row rows k d within in
    let e = is_of_inside folder (get_or rows k d).place (sym (ap (λ (key : Key). key.folder) key) ∙ in_it) in
    let f = (bytes_eq-Decides (get_or rows k d).name name).1 (sym (ap (λ (key : Key). key.name) key) ∙ named) in
    rw e (rw f refl)

-- keys of one folder and name are ordered by number
pub by_number : (folder : Option ℕ) (name : List ℕ) (i j : ℕ)
    → key_lt (record { folder = folder; name = name; id = i }) (record { folder = folder; name = name; id = j }) ≡ is_lt (nat_cmp i j)
unfolding key_lt
by_number folder name i j =
    let e = tied_itself (options_total nat_cmp_total) folder in
    let f = tied_itself nat_list_cmp_total name in
    rw e (rw f refl)

n_lt : (at k : ℕ) → k < at → at ≡ k → ⊥
n_lt at k less same = omega arith

not_below : (i j : ℕ) → j ≤ i → is_lt (nat_cmp i j) ≡ false
not_below i j le = grind (arith, nat_tests)

-- ---- the child

module _ (rows : List NodeRow) (order : List ℕ) (folder : ℕ) (name : List ℕ) (cut : ℕ)
    (rising : AreRisingNodes rows) (index : IsIndex rows order) (cuts : IsCut rows order (record { folder = Some folder; name = name; id = 0 }) cut) where
  -- the row to read past the end
  abbrev d : NodeRow
  d = no_row

  -- a child stands behind the cut
  behind : (k : ℕ) → k < length rows → is_child folder name (get_or rows k d) ≡ true → (j : ℕ) × (cut ≤ j) × (j < length order) × (get_or order j k ≡ k)
  behind k within is = from (in_index rows order k index within)
    where
      from : Contains order k → (j : ℕ) × (cut ≤ j) × (j < length order) × (get_or order j k ≡ k)
      from (j, high, there) = elim (cases_lt j cut) [
        | inr past ↦ (j, past, high, there)
        | inl low ↦ absurd (
            let h = subst (λ a. key_lt (key_at rows a) (record { folder = Some folder; name = name; id = 0 }) ≡ true) there (cuts.before j k (omega arith) low) in
            let g = subst (λ key. key_lt key (record { folder = Some folder; name = name; id = 0 }) ≡ true) (child_key rows folder k name d within is) h in
            let e = sym (by_number (Some folder) name (get_or rows k d).id 0) ∙ g in
            let f = not_below (get_or rows k d).id 0 (omega arith) in
            cc)
      ]

  child_there : (at : ℕ) → cut < length order → at ≡ get_or order cut at → is_child folder name (get_or rows at d) ≡ true → child_of rows folder name ≡ Some (get_or rows at d).id
  unfolding is_child
  child_there at high is child =
      let first = position_at (is_child folder name) rows at d there child (λ k less. false_from_ne_true _ (λ is. apart k less is (behind k (omega (arith, there)) is))) in
      ap (option_map (λ (row : NodeRow). row.id)) (sym (find_there (is_child folder name) rows at (get_or rows at d) first (get_or_default rows at d (get_or rows at d) there)))
    where
      there : at < length rows
      there = subst (λ a. a < length rows) (sym is) (index.within cut at high)

      apart : (k : ℕ) → k < at → is_child folder name (get_or rows k d) ≡ true → (j : ℕ) × (cut ≤ j) × (j < length order) × (get_or order j k ≡ k) → ⊥
      apart k less e (j, past, high_j, is_j) = elim (cases_lt cut j) [
        | inr same ↦ (let f : get_or order cut k ≡ k = subst (λ i. get_or order i k ≡ k) (omega arith) is_j in let g : at ≡ k = is ∙ get_or_default order cut at k high ∙ f in n_lt at k less g)
        | inl more ↦
            (let f = index.in_order cut j k more high_j in
            let g = subst (λ a. key_lt (key_at rows (get_or order cut k)) (key_at rows a) ≡ true) is_j f in
            let h = subst (λ a. key_lt (key_at rows a) (key_at rows k) ≡ true) (get_or_default order cut k at high ∙ sym is) g in
            let m = subst (λ key. key_lt key (key_at rows k) ≡ true) (child_key rows folder at name d there child) h in
            let n = subst (λ key. key_lt (record { folder = Some folder; name = name; id = (get_or rows at d).id }) key ≡ true) (child_key rows folder k name d (omega (arith, there)) e) m in
            let o = sym (by_number (Some folder) name (get_or rows at d).id (get_or rows k d).id) ∙ n in
            let rise = rising k at d less there in
            let p = not_below (get_or rows at d).id (get_or rows k d).id (omega arith) in
            absurd (cc))
      ]

  pub child_past : length order ≤ cut → child_of rows folder name ≡ None
  unfolding is_child
  child_past past = ap (option_map (λ (row : NodeRow). row.id)) (sym (find_nowhere (is_child folder name) rows (position_nowhere (is_child folder name) rows d (λ k within.
      false_from_ne_true _ (λ e. let h = behind k within e in absurd (omega (arith, h.1, h.2)))))))

  child_nowhere : (at : ℕ) → cut < length order → at ≡ get_or order cut at → is_child folder name (get_or rows at d) ≡ false → child_of rows folder name ≡ None
  unfolding is_child
  child_nowhere at high is other = ap (option_map (λ (row : NodeRow). row.id)) (sym (find_nowhere (is_child folder name) rows (position_nowhere (is_child folder name) rows d (λ k within.
      false_from_ne_true _ (λ e. apart k within e (behind k within e))))))
    where
      there : at < length rows
      there = subst (λ a. a < length rows) (sym is) (index.within cut at high)

      apart : (k : ℕ) → k < length rows → is_child folder name (get_or rows k d) ≡ true → (j : ℕ) × (cut ≤ j) × (j < length order) × (get_or order j k ≡ k) → ⊥
      apart k within e (j, past, high_j, is_j) = elim (cases_lt cut j) [
        | inr same ↦
            (let f : get_or order cut k ≡ k = subst (λ i. get_or order i k ≡ k) (omega arith) is_j in
            let g = sym (get_or_default order cut at k high ∙ f) in
            let one : k ≡ at = g ∙ sym is in
            let h = subst (λ a. is_child folder name (get_or rows a d) ≡ true) one e in absurd (cc))
        | inl more ↦
            (let f = index.in_order cut j k more high_j in
            let g = subst (λ a. key_lt (key_at rows (get_or order cut k)) (key_at rows a) ≡ true) is_j f in
            let h = subst (λ a. key_lt (key_at rows a) (key_at rows k) ≡ true) (get_or_default order cut k at high ∙ sym is) g in
            let m = subst (λ key. key_lt (key_at rows at) key ≡ true) (child_key rows folder k name d within e) h in
            let low = subst (λ a. key_lt (key_at rows a) (record { folder = Some folder; name = name; id = 0 }) ≡ false) (sym is) (cuts.behind cut at (omega arith) high) in
            let p = squeezed (key_at rows at) (Some folder) name 0 (get_or rows k d).id low (weak.one_way _ _ m) in
            let q = is_child_from rows folder at name d there p.0 p.1 in
            absurd (cc))
      ]

  -- the row that was read at the cut
  row_here : (row : NodeRow) → cut < length order → row ≡ get_or rows (get_or order cut 0) row → row ≡ get_or rows (get_or order cut 0) d
  row_here row high is = get_or_read rows (get_or order cut 0) row (index.within cut 0 high) is d

  pub child_read : (row : NodeRow) → cut < length order → row ≡ get_or rows (get_or order cut 0) row → (is_in folder row && bytes_eq row.name name) ≡ true
      → child_of rows folder name ≡ Some row.id
  unfolding is_child
  child_read row high is child =
      let e = row_here row high is in
      child_there (get_or order cut 0) high (get_or_default order cut 0 (get_or order cut 0) high) (subst (λ r. is_child folder name r ≡ true) e child)
      ∙ ap (λ (r : NodeRow). Some r.id) (sym e)

  pub child_other : (row : NodeRow) → cut < length order → row ≡ get_or rows (get_or order cut 0) row → (is_in folder row && bytes_eq row.name name) ≡ false
      → child_of rows folder name ≡ None
  unfolding is_child
  child_other row high is other =
      let e = row_here row high is in
      child_nowhere (get_or order cut 0) high (get_or_default order cut 0 (get_or order cut 0) high) (subst (λ r. is_child folder name r ≡ false) e other)
