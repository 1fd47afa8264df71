-- A node is under a top where it climbs to it, and so where a walk from the top comes to it.
use Rattle.std.proofs.Common.{ℕ, suc, zero, ◌==◌, ◌≡◌, ◌≢◌, ◌≤◌, ◌<◌, Bool, true, false, List, Option, None, Some, refl, sym, ap, subst, ◌∙◌, inl, inr, ⊎_elim, arith}
use Rattle.std.specs.List.{AllPairs, Contains, list_any}
use Rattle.std.specs.Option.{option_and_then, option_map_or}
use Rattle.std.proofs.lemmas.Bool.{both_ways, cases_Bool, eq-eqb, eqb-true, false_from_ne_true, false≢true, not-true, or_cases, or_left, or_right}
use Rattle.std.proofs.lemmas.List.Folds.{Any-from_list_any, list_any_at}
use Rattle.std.proofs.lemmas.Option.{option_and_then_some, same_Some}
use Rattle.nf_base.specs.declared.limits.TheConstants.{MAX_DEPTH}
use Rattle.nf_base.specs.declared.rows.NodeRow.{NodeRow}
use Rattle.nf_defs.specs.Tree.{climb, folder_of, is_in, is_leaf, is_under, is_under_within, node_row, parent_of, walk_of}
use Rattle.nf_defs.proofs.Walks.{climb_split, climbs_walk, found_among, is_of_inside, walk_climbs}

-- where what is there passes the test, it is there
pub holds_some : {X : Type 0} (test : X → Bool) (o : Option X) → option_map_or test o false ≡ true → (x : X) × (o ≡ Some x) × (test x ≡ true)
holds_some test None is = absurd (false≢true is)
holds_some test (Some x) is = (x, refl, is)

-- ---- under, as a climb

under_climbs : (m : ℕ) (rows : List NodeRow) (node top : ℕ)
    → is_under_within m rows node top ≡ true → (j : ℕ) × (j ≤ m) × (climb rows j node ≡ Some top)
unfolding is_under_within
under_climbs zero rows node top is = (0, omega arith, ap Some (eqb-true node top is))
under_climbs (suc m) rows node top is =
    ⊎_elim (λ e. (0, omega arith, ap Some (eqb-true node top e)))
    (λ up.
    let parent = holds_some (λ parent. is_under_within m rows parent top) (parent_of rows node) up in
    let r = under_climbs m rows parent.0 top parent.2 in
    (suc r.0, omega arith, ap (option_and_then (climb rows r.0)) parent.1 ∙ r.2))
    (or_cases (node == top) _ is)

climbs_under : (j m : ℕ) (rows : List NodeRow) (node top : ℕ) → j ≤ m → climb rows j node ≡ Some top → is_under_within m rows node top ≡ true
unfolding is_under_within
climbs_under zero zero rows node top few is = eq-eqb node top (same_Some node top is)
climbs_under zero (suc m) rows node top few is = or_left (node == top) _ (eq-eqb node top (same_Some node top is))
climbs_under (suc j) zero rows node top few is = absurd (omega arith)
climbs_under (suc j) (suc m) rows node top few is =
    or_right (node == top) _
    (option_and_then_some (climb rows j) (parent_of rows node) top is
    (λ parent above is. rw above (climbs_under j m rows parent top (omega arith) is)))

pub under_climb : (rows : List NodeRow) (node top : ℕ) → is_under rows node top ≡ true
    → (j : ℕ) × (j ≤ MAX_DEPTH) × (climb rows j node ≡ Some top)
unfolding is_under
under_climb rows node top is = under_climbs MAX_DEPTH rows node top is

pub climb_under : (j : ℕ) (rows : List NodeRow) (node top : ℕ) → j ≤ MAX_DEPTH → climb rows j node ≡ Some top
    → is_under rows node top ≡ true
unfolding is_under
climb_under j rows node top few is = climbs_under j MAX_DEPTH rows node top few is

-- ---- those under the top

pub walk_under : (rows : List NodeRow) (top node : ℕ) → AllPairs (λ (a b : NodeRow). a.id < b.id) rows → Contains (walk_of rows top) node
    → is_under rows node top ≡ true
walk_under rows top node rising h =
    let c = walk_climbs rows top node rising h in climb_under c.0 rows node top c.1 c.2

pub under_walk : (rows : List NodeRow) (top node : ℕ) → is_under rows node top ≡ true → Contains (walk_of rows top) node
under_walk rows top node is = let c = under_climb rows node top is in climbs_walk c.0 rows top node c.1 c.2

-- the test of a walk is that of its top
pub walk_among : (rows : List NodeRow) (top node : ℕ) → AllPairs (λ (a b : NodeRow). a.id < b.id) rows
    → list_any (λ other. other == node) (walk_of rows top) ≡ is_under rows node top
walk_among rows top node rising =
    elim (cases_Bool (is_under rows node top)) [
      | inl under ↦
          (let h = under_walk rows top node under in
          list_any_at (λ other. other == node) (walk_of rows top) h.0 node h.1 (eq-eqb _ node h.2) ∙ sym under)
      | inr outside ↦
          false_from_ne_true (list_any (λ other. other == node) (walk_of rows top)) (λ any.
          let h = Any-from_list_any (λ other. other == node) (walk_of rows top) any in
          let has : Contains (walk_of rows top) node =
          subst (λ (n : ℕ). Contains (walk_of rows top) n) (eqb-true h.1 node h.4) (h.0, h.2, h.3) in
          both_ways (is_under rows node top) outside (walk_under rows top node rising has)) ∙ sym outside
    ]

-- ---- what is under a leaf

-- no node is in it
pub none_inside : (rows : List NodeRow) (leaf node : ℕ) → is_leaf rows leaf ≡ true → parent_of rows node ≢ Some leaf
none_inside rows leaf node is above =
    option_and_then_some (λ (row : NodeRow). folder_of row.place) (node_row rows node) leaf above (λ row there placed.
    let h = (found_among (λ (row : NodeRow). row.id == node) rows row there).0 in
    let inside = subst (λ (row : NodeRow). is_in leaf row ≡ true) (sym h.2) (is_of_inside leaf row.place placed) in
    both_ways (list_any (is_in leaf) rows) (not-true _ is) (list_any_at (is_in leaf) rows h.0 row h.1 inside))

-- so only itself is under it
pub under_leaf : (rows : List NodeRow) (node leaf : ℕ) → is_leaf rows leaf ≡ true → is_under rows node leaf ≡ (node == leaf)
under_leaf rows node leaf is =
    elim (cases_Bool (node == leaf)) [
      | inl same ↦ climb_under 0 rows node leaf (omega arith) (ap Some (eqb-true node leaf same)) ∙ sym same
      | inr differ ↦
          false_from_ne_true (is_under rows node leaf) (λ under.
          let c = under_climb rows node leaf under in
          none_climbs c.0 c.2 differ) ∙ sym differ
    ]
  where
    none_climbs : (j : ℕ) → climb rows j node ≡ Some leaf → (node == leaf) ≡ false → ⊥
    none_climbs zero at differ = both_ways (node == leaf) differ (eq-eqb node leaf (same_Some node leaf at))
    none_climbs (suc j) at differ = let r = climb_split j rows node leaf at in none_inside rows leaf r.0 is r.2
