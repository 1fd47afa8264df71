-- Bytes that are put in the place of others in the sums of a node and of those above it.
use Rattle.std.proofs.Common.{ℕ, zero, suc, ◌+◌, ◌-◌, ◌^◌, ◌<◌, ◌≤◌, ◌==◌, ◌||◌, ◌≡◌, ◌≢◌, Bool, true, false, List, Option, None, Some, refl, sym, ap, ◌∙◌, subst, inl, inr, arith, length, get_or, set, length-set}
use Rattle.std.specs.Prelude.{if◌then◌else◌}
use Rattle.std.specs.List.{position}
use Rattle.std.specs.Option.{option_and_then, option_map_or}
use Rattle.std.proofs.lemmas.Bool.{both_ways, cases_eq, eq-eqb, eqb-true, false_from_ne_true, ne_eqb, or_left}
use Rattle.std.proofs.lemmas.List.{get_or_read, get_or-set_other, get_or-set_same}
use Rattle.std.proofs.lemmas.List.Quantifiers.{position-Some}
use Rattle.nf_base.specs.declared.rows.NodeRow.{NodeRow}
use Rattle.nf_defs.specs.Tree.{folder_of, is_under_within, node_row, parent_of}
use Rattle.nf_charge.specs.Sums.{AreCarried, AreRisingNodes, LeadsUp, MayCarry}
use Rattle.nf_charge.proofs.Climbing.{leads_parent, no_loop, own_place, own_row, within_climb}
use Rattle.nf_charge.proofs.Positions.{no_row}

-- ---- the place of a node's row

pub record IsAt (rows : List NodeRow) (node at : ℕ) : Type 0 where
  pub within : at < length rows
  pub is : (d : NodeRow) → (get_or rows at d).id ≡ node

pub placed : (rows : List NodeRow) (node at : ℕ) (d : NodeRow) → position (λ row. row.id == node) rows ≡ Some at → IsAt rows node at
placed rows node at d is = record {
  within = (position-Some (λ (row : NodeRow). row.id == node) rows at d is).0;
  is = λ d. eqb-true _ node (position-Some (λ (row : NodeRow). row.id == node) rows at d is).1;
}

-- the folder that it is in
pub parent_at : (rows : List NodeRow) (node at : ℕ) (row d : NodeRow) → AreRisingNodes rows → IsAt rows node at → row ≡ get_or rows at d
    → parent_of rows node ≡ folder_of row.place
parent_at rows node at row d rising here is =
    let own = subst (λ (n : ℕ). node_row rows n ≡ Some (get_or rows at d)) (here.is d) (own_row rows at d rising here.within) in
    ap (option_and_then (λ (row : NodeRow). folder_of row.place)) (own ∙ ap Some (sym is))

-- at another place is another node
pub other_node : (rows : List NodeRow) (node at k : ℕ) (d : NodeRow) → AreRisingNodes rows → IsAt rows node at → k < length rows → k ≢ at → node ≢ (get_or rows k d).id
other_node rows node at k d rising here within other same =
    other (own_place rows k at d rising within here.within (sym same ∙ sym (here.is d)))

-- ---- what is under it, by its folder

pub under_self : (up : ℕ) (rows : List NodeRow) (node : ℕ) → is_under_within up rows node node ≡ true
unfolding is_under_within
under_self zero rows node = eq-eqb node node refl
under_self (suc m) rows node = or_left (node == node) _ (eq-eqb node node refl)

pub under_alone : (up : ℕ) (rows : List NodeRow) (node x : ℕ) → parent_of rows node ≡ None → node ≢ x → is_under_within up rows node x ≡ false
unfolding is_under_within
under_alone zero rows node x alone other = ne_eqb node x other
under_alone (suc m) rows node x alone other =
    ap (λ (o : Option ℕ). node == x || option_map_or (λ parent. is_under_within m rows parent x) o false) alone
    ∙ ap (λ (t : Bool). t || false) (ne_eqb node x other)

pub under_step : (up : ℕ) (rows : List NodeRow) (node p x : ℕ) → 1 ≤ up → parent_of rows node ≡ Some p → node ≢ x
    → is_under_within up rows node x ≡ is_under_within (up - 1) rows p x
unfolding is_under_within
under_step zero rows node p x some above other = absurd (omega arith)
under_step (suc m) rows node p x some above other =
    let less : m ≡ suc m - 1 = omega arith in
    ap (λ (o : Option ℕ). node == x || option_map_or (λ parent. is_under_within m rows parent x) o false) above
    ∙ ap (λ (t : Bool). t || is_under_within m rows p x) (ne_eqb node x other)
    ∙ ap (λ (n : ℕ). is_under_within n rows p x) less

pub not_above : (most k : ℕ) (rows : List NodeRow) (node p : ℕ) → LeadsUp rows most node → parent_of rows node ≡ Some p → is_under_within k rows p node ≡ false
not_above most k rows node p leads above =
    false_from_ne_true (is_under_within k rows p node) (λ is.
    let r = within_climb k rows p node is in no_loop rows most node p r.0 leads above r.1)

-- ---- sums

pub if_true : (b : Bool) (x y : ℕ) → b ≡ true → (if b then x else y) ≡ x
if_true true x y is = refl
if_true false x y is = absurd (cc)

pub if_false : (b : Bool) (x y : ℕ) → b ≡ false → (if b then x else y) ≡ y
if_false true x y is = absurd (cc)
if_false false x y is = refl

own_sum : (under : Bool) (at old new v : ℕ) (sums : List ℕ) → at < length sums → v ≡ get_or sums at v → under ≡ true
    → v - old + new ≡ (if under then get_or sums at 0 - old + new else get_or sums at 0)
own_sum under at old new v sums within is holds =
    ap (λ (n : ℕ). n - old + new) (get_or_read sums at v within is 0) ∙ sym (if_true under _ _ holds)

-- what is carried, at each place: at the node's own, and at any other
carried_each : (up : ℕ) (rows : List NodeRow) (node at old new v : ℕ) (sums after : List ℕ) → AreRisingNodes rows → IsAt rows node at
    → length sums ≡ length rows → v ≡ get_or sums at v → length after ≡ length sums → get_or after at 0 ≡ v - old + new
    → ((k : ℕ) (d : NodeRow) → k < length rows → k ≢ at → node ≢ (get_or rows k d).id → get_or after k 0
    ≡ (if is_under_within up rows node (get_or rows k d).id then get_or sums k 0 - old + new else get_or sums k 0))
    → AreCarried up rows node old new sums after
carried_each up rows node at old new v sums after rising here long is kept own others = record {
  long = kept;
  each = λ k d within. elim (cases_eq k at) [
    | inl same ↦
        subst (λ (n : ℕ). get_or after n 0 ≡ (if is_under_within up rows node (get_or rows n d).id then get_or sums n 0 - old + new else get_or sums n 0))
        (sym same) (own ∙ own_sum _ at old new v sums (omega (arith, here.within)) is
        (subst (λ (n : ℕ). is_under_within up rows node n ≡ true) (sym (here.is d)) (under_self up rows node)))
    | inr other ↦ others k d within other (other_node rows node at k d rising here within other)
  ];
}

-- of a node that is in no folder only its own changes
pub carried_alone : (up : ℕ) (rows : List NodeRow) (node at old new v : ℕ) (sums : List ℕ) → AreRisingNodes rows → IsAt rows node at
    → length sums ≡ length rows → parent_of rows node ≡ None → v ≡ get_or sums at v → AreCarried up rows node old new sums (set sums at (v - old + new))
carried_alone up rows node at old new v sums rising here long alone is =
    carried_each up rows node at old new v sums (set sums at (v - old + new)) rising here long is (length-set sums at (v - old + new))
    (get_or-set_same sums at (v - old + new) 0 (omega (arith, here.within)))
    (λ k d within other differ.
    get_or-set_other sums at k (v - old + new) 0 other ∙ sym (if_false _ _ _ (under_alone up rows node _ alone differ)))

-- of one in a folder, its own and what is carried from there
pub carried_above : (up : ℕ) (rows : List NodeRow) (node at p old new v : ℕ) (sums after : List ℕ) → AreRisingNodes rows → IsAt rows node at
    → length sums ≡ length rows → LeadsUp rows up node → parent_of rows node ≡ Some p → v ≡ get_or sums at v
    → AreCarried (up - 1) rows p old new (set sums at (v - old + new)) after → AreCarried up rows node old new sums after
carried_above up rows node at p old new v sums after rising here long leads above is carried =
    carried_each up rows node at old new v sums after rising here long is (carried.long ∙ length-set sums at (v - old + new)) own
    (λ k d within other differ.
    carried.each k d within
    ∙ ap (λ (n : ℕ). if is_under_within (up - 1) rows p (get_or rows k d).id then n - old + new else n) (get_or-set_other sums at k (v - old + new) 0 other)
    ∙ ap (λ (b : Bool). if b then get_or sums k 0 - old + new else get_or sums k 0) (sym (under_step up rows node p _ some above differ)))
  where
    some : 1 ≤ up
    some = (leads_parent rows up node p leads above).0

    own : get_or after at 0 ≡ v - old + new
    own =
        carried.each at (get_or rows at no_row) here.within
        ∙ if_false _ _ _ (subst (λ (n : ℕ). is_under_within (up - 1) rows p n ≡ false) (sym (here.is (get_or rows at no_row)))
        (not_above up (up - 1) rows node p leads above))
        ∙ get_or-set_same sums at (v - old + new) 0 (omega (arith, here.within))

-- the old bytes are in the sums above too, and the new ones fit there
pub may_carry_above : (up : ℕ) (rows : List NodeRow) (node at p old new w : ℕ) (sums : List ℕ) → AreRisingNodes rows → IsAt rows node at
    → LeadsUp rows up node → parent_of rows node ≡ Some p → MayCarry up rows node old new sums → MayCarry (up - 1) rows p old new (set sums at w)
may_carry_above up rows node at p old new w sums rising here leads above may = λ k d within under. elim (cases_eq k at) [
  | inl same ↦
      (let not = subst (λ (n : ℕ). is_under_within (up - 1) rows p n ≡ false) (sym (ap (λ (n : ℕ). (get_or rows n d).id) same ∙ here.is d))
      (not_above up (up - 1) rows node p leads above) in
      absurd (both_ways _ not under))
  | inr other ↦
      (let step = under_step up rows node p (get_or rows k d).id (leads_parent rows up node p leads above).0 above
      (other_node rows node at k d rising here within other) in
      let r = may k d within (step ∙ under) in
      subst (λ (n : ℕ). (old ≤ n) × (n + new < 2 ^ 128)) (sym (get_or-set_other sums at k w 0 other)) r)
]

-- at the node's own place
pub may_carry_here : (up : ℕ) (rows : List NodeRow) (node at old new v : ℕ) (sums : List ℕ) → IsAt rows node at → length sums ≡ length rows
    → v ≡ get_or sums at v → MayCarry up rows node old new sums → (old ≤ v) × (v + new < 2 ^ 128)
may_carry_here up rows node at old new v sums here long is may =
    subst (λ (n : ℕ). (old ≤ n) × (n + new < 2 ^ 128)) (sym (get_or_read sums at v (omega (arith, here.within)) is 0))
    (may at (get_or rows at no_row) here.within
    (subst (λ (n : ℕ). is_under_within up rows node n ≡ true) (sym (here.is (get_or rows at no_row))) (under_self up rows node)))
