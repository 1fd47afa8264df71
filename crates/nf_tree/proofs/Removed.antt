-- One row taken out: the index of the others, and the tree.
use Rattle.std.proofs.Common.{ℕ, zero, suc, ◌+◌, ◌-◌, ◌<◌, ◌≤◌, ◌≡◌, ◌≢◌, ◌==◌, Bool, true, false, not, List, [], ◌∷◌, Some, None, refl, sym, ap, ◌∙◌, subst, inl, inr, arith, length, get_or, map, filter}
use Rattle.std.specs.List.{All, position, remove}
use Rattle.std.proofs.lemmas.Bool.{cases_lt, cases_order, eqb-true, ne_eqb}
use Rattle.std.proofs.lemmas.Bool.Decides.{nat_tests}
use Rattle.std.proofs.lemmas.List.{get_or-map, length-map}
use Rattle.std.proofs.lemmas.List.Edits.{get_or-remove_above, get_or-remove_below, length-remove}
use Rattle.std.proofs.lemmas.List.Quantifiers.{all_pairs_remove, position-Some}
use Rattle.std.proofs.lemmas.List.Sorted.{All-permutation, IsPermutation-remove}
use Rattle.std.proofs.lemmas.List.Sums.{sum_by-remove}
use Rattle.nf_base.specs.declared.limits.TheConstants.{MAX_PIECES}
use Rattle.nf_base.specs.declared.rows.NodeRow.{NodeRow}
use Rattle.nf_defs.specs.Prelude.{is_leaf, without_under}
use Rattle.nf_defs.proofs.Climbs.{under_leaf}
use Rattle.nf_defs.proofs.Lookups.{fail_nowhere}
use Rattle.nf_tree.specs.Held.{Held, IsTree}
use Rattle.nf_tree.specs.Order.{key_at, key_of, lowered, AreRisingNodes, IsIndex, LacksOnly, stays}
use Rattle.nf_charge.proofs.Positions.{no_row}
use Rattle.nf_tree.proofs.Orders.{key_of_row}

-- ---- the index

below : (at k : ℕ) → k < at → lowered at k ≡ k
below at k less = grind (arith, nat_tests)

above : (at k : ℕ) → at < k → lowered at k ≡ k - 1
above at k more = grind (arith, nat_tests)

-- a row that stays has its key at the lowered place
module _ (rows : List NodeRow) (at : ℕ) (there : at < length rows) where
  fits : (k : ℕ) → k < length rows → k ≢ at → lowered at k < length (remove rows at)
  fits k within differ =
      let long = length-remove rows at there in
      elim (cases_order k at) [
        | inl same ↦ absurd (differ same)
        | inr (inl less) ↦ subst (λ i. i < length (remove rows at)) (sym (below at k less)) (omega arith)
        | inr (inr more) ↦ subst (λ i. i < length (remove rows at)) (sym (above at k more)) (omega arith)
      ]

  row_lowered : (k : ℕ) → k ≢ at → get_or (remove rows at) (lowered at k) no_row ≡ get_or rows k no_row
  row_lowered k differ =
      elim (cases_order k at) [
        | inl same ↦ absurd (differ same)
        | inr (inl less) ↦ ap (λ i. get_or (remove rows at) i no_row) (below at k less) ∙ get_or-remove_below rows at no_row k less there
        | inr (inr more) ↦
            (let back : k - 1 + 1 ≡ k = omega arith in
            ap (λ i. get_or (remove rows at) i no_row) (above at k more) ∙ get_or-remove_above rows at no_row (k - 1) (omega arith) there
            ∙ ap (λ i. get_or rows i no_row) back)
      ]

  key_lowered : (k : ℕ) → k < length rows → k ≢ at → key_at (remove rows at) (lowered at k) ≡ key_at rows k
  key_lowered k within differ =
      key_of_row (remove rows at) (lowered at k) no_row (fits k within differ) ∙ ap key_of (row_lowered k differ) ∙ sym (key_of_row rows k no_row within)

  -- what lacks just that place is the index of the rows that are left
  pub lowered_index : (order : List ℕ) → LacksOnly rows order at → IsIndex (remove rows at) (map (lowered at) order)
  lowered_index order lacks = record {
    within = λ k d high.
        let inside : k < length order = omega (arith, long, high) in
        subst (λ to. to < length (remove rows at)) (sym (get_or-map (lowered at) order k d d inside)) (fits (get_or order k d) (lacks.within k d inside) (lacks.absent k d inside));
    long = omega (arith, long, lacks.long, length-remove rows at there);
    in_order = λ i j d less high.
        let inside : j < length order = omega (arith, long, high) in
        let e = read i d (omega arith) in
        let f = read j d inside in
        rw (e, f) (lacks.in_order i j d less inside);
  }
    where
      long : length (map (lowered at) order) ≡ length order
      long = length-map order (lowered at)

      read : (k d : ℕ) → k < length order → key_at (remove rows at) (get_or (map (lowered at) order) k d) ≡ key_at rows (get_or order k d)
      read k d inside =
          ap (key_at (remove rows at)) (get_or-map (lowered at) order k d d inside) ∙ key_lowered (get_or order k d) (lacks.within k d inside) (lacks.absent k d inside)

-- ---- the rows

-- where all but one pass they are the rows that pass
pub rest_passes : (p : NodeRow → Bool) (rows : List NodeRow) → All (λ row. p row ≡ true) rows → rows ≡ filter p rows
rest_passes p [] pass = refl
rest_passes p (x ∷ rows) pass = rw (pass 0 x (omega arith)) (ap (λ rest. x ∷ rest) (rest_passes p rows (λ k d within. pass (suc k) d (omega arith))))

one_fails : (p : NodeRow → Bool) (rows : List NodeRow) (at : ℕ) → at < length rows → ((d : NodeRow) → p (get_or rows at d) ≡ false)
    → ((k : ℕ) (d : NodeRow) → k < length rows → k ≢ at → p (get_or rows k d) ≡ true) → remove rows at ≡ filter p rows
one_fails p [] at there fails pass = absurd (omega arith)
one_fails p (x ∷ rows) zero there fails pass =
    rw (fails x) (rest_passes p rows (λ k d within. pass (suc k) d (omega arith) (λ same. absurd (omega arith))))
one_fails p (x ∷ rows) (suc at) there fails pass =
    rw (pass 0 x (omega arith) (λ same. absurd (omega arith)))
    (ap (λ rest. x ∷ rest) (one_fails p rows at (omega arith) (λ d. fails d) (λ k d within differ. pass (suc k) d (omega arith) (λ same. differ (omega arith)))))

-- ---- a leaf

leaf_stays : (rows : List NodeRow) (leaf : ℕ) (row : NodeRow) → is_leaf rows leaf ≡ true → stays rows leaf row ≡ not (row.id == leaf)
leaf_stays rows leaf row is = ap not (under_leaf rows row.id leaf is)

pub leaf_removed : (rows : List NodeRow) (leaf at : ℕ) → AreRisingNodes rows → is_leaf rows leaf ≡ true → Some at ≡ position (λ row. row.id == leaf) rows
    → remove rows at ≡ without_under rows leaf
leaf_removed rows leaf at rising is there =
    let first = λ (d : NodeRow). position-Some (λ (row : NodeRow). row.id == leaf) rows at d (sym there) in
    one_fails (stays rows leaf) rows at (first no_row).0
    (λ d. leaf_stays rows leaf (get_or rows at d) is ∙ ap not (first d).1)
    (λ k d within differ. leaf_stays rows leaf (get_or rows k d) is ∙ ap not (ne_eqb (get_or rows k d).id leaf (λ same.
    let own = eqb-true (get_or rows at d).id leaf (first d).1 in
    elim (cases_lt k at) [
      | inl less ↦ (let h = rising k at d less (first d).0 in absurd (omega arith))
      | inr past ↦ (let more : at < k = omega (arith, λ (e : k ≡ at). differ e) in let h = rising at k d more within in absurd (omega arith))
    ])))

pub no_leaf_removed : (rows : List NodeRow) (leaf : ℕ) → is_leaf rows leaf ≡ true → None ≡ position (λ row. row.id == leaf) rows → rows ≡ without_under rows leaf
no_leaf_removed rows leaf is none =
    rest_passes (stays rows leaf) rows
    (λ k d within. leaf_stays rows leaf (get_or rows k d) is ∙ ap not (fail_nowhere (λ (row : NodeRow). row.id == leaf) rows none k d within))

pub leaf_held : (held : Held) (rows : List NodeRow) (room leaf at : ℕ) → ◌≡◌ {A = Held} (record { rows = rows; room = room }) held → AreRisingNodes rows → is_leaf held.rows leaf ≡ true
    → Some at ≡ position (λ row. row.id == leaf) rows → ◌≡◌ {A = Held} (record { rows = remove rows at; room = room }) (record held { rows = without_under held.rows leaf })
leaf_held held rows room leaf at view rising is there =
    let same = ap (λ (h : Held). h.rows) view in
    let e = leaf_removed rows leaf at rising (ap (λ list. is_leaf list leaf) same ∙ is) there ∙ ap (λ list. without_under list leaf) same in
    let f = ap (λ (h : Held). h.room) view in
    cc

pub no_leaf_held : (held : Held) (leaf : ℕ) → is_leaf held.rows leaf ≡ true → None ≡ position (λ row. row.id == leaf) held.rows
    → held ≡ record held { rows = without_under held.rows leaf }
no_leaf_held held leaf is none = ap {A = List NodeRow} {B = Held} (λ rows. record { rows = rows; room = held.room }) (no_leaf_removed held.rows leaf is none)

-- ---- the tree

pub removed_tree : (rows : List NodeRow) (at : ℕ) (row : NodeRow) (order more : List ℕ) (pieces count room : ℕ) → IsTree rows order pieces room → at < length rows
    → row ≡ get_or rows at row → count + length row.content ≡ pieces → IsIndex (remove rows at) more → IsTree (remove rows at) more count room
removed_tree rows at row order more pieces count room tree there is sums index = record {
  rising = all_pairs_remove (λ (x y : NodeRow). x.id < y.id) rows at there tree.rising;
  index = index;
  small = λ k d within.
      All-permutation (λ (r : NodeRow). length r.content ≤ MAX_PIECES) rows (row ∷ remove rows at) (IsPermutation-remove rows at row there is) tree.small (suc k) d (omega arith);
  counted =
      let e = sum_by-remove (λ (r : NodeRow). length r.content) rows at row there in
      let f = ap (λ (r : NodeRow). length r.content) is in
      omega (arith, tree.counted, e, f, sums);
  fits = let e = length-remove rows at there in let f = tree.fits in omega arith;
  few = tree.few;
}
