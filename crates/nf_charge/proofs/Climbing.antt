-- Nodes that lead up, and where climbs from them end.
use Rattle.std.proofs.Common.{ℕ, zero, suc, ◌+◌, ◌-◌, ◌<◌, ◌≤◌, ◌==◌, ◌||◌, ◌≡◌, ◌≢◌, Bool, true, false, List, Option, None, Some, refl, sym, ap, ◌∙◌, subst, ⊎_elim, arith, length, get_or}
use Rattle.std.specs.Option.{option_and_then, option_map_or}
use Rattle.std.proofs.lemmas.Bool.{eqb-true, or_cases}
use Rattle.std.proofs.lemmas.Option.{none-some, option_and_then_some, same_Some}
use Rattle.nf_base.specs.declared.limits.TheConstants.{MAX_DEPTH}
use Rattle.nf_base.specs.declared.rows.NodeRow.{NodeRow}
use Rattle.nf_defs.specs.Tree.{climb, folder_of, is_under, is_under_within, node_row, parent_of}
use Rattle.nf_defs.proofs.Climbs.{climb_under, holds_some}
use Rattle.nf_defs.proofs.Walks.{node_row_each}
use Rattle.nf_charge.specs.Sums.{AreRisingNodes, LeadsUp}

-- ---- climbs

-- no climb goes past a node that is in no folder
climb_past : (rows : List NodeRow) (s k a b top : ℕ) → climb rows s a ≡ Some top → parent_of rows top ≡ None → climb rows k a ≡ Some b → k ≤ s
climb_past rows s zero a b top up alone is = omega arith
climb_past rows zero (suc k) a b top up alone is =
    let none : parent_of rows a ≡ None = subst (λ (n : ℕ). parent_of rows n ≡ None) (sym (same_Some a top up)) alone in
    absurd (none-some b (sym (ap (option_and_then (climb rows k)) none) ∙ is))
climb_past rows (suc s) (suc k) a b top up alone is =
    option_and_then_some (climb rows s) (parent_of rows a) top up (λ p above rest.
    let less : k ≤ s = climb_past rows s k p b top rest alone (sym (ap (option_and_then (climb rows k)) above) ∙ is) in
    omega arith)

-- a climb goes on from each node on its way
climb_rest : (rows : List NodeRow) (s k a b top : ℕ) → k ≤ s → climb rows k a ≡ Some b → climb rows s a ≡ Some top
    → (r : ℕ) × (k + r ≡ s) × (climb rows r b ≡ Some top)
climb_rest rows s zero a b top few is up = (s, omega arith, subst (λ (n : ℕ). climb rows s n ≡ Some top) (same_Some a b is) up)
climb_rest rows zero (suc k) a b top few is up = absurd (omega arith)
climb_rest rows (suc s) (suc k) a b top few is up =
    option_and_then_some (climb rows k) (parent_of rows a) b is (λ p above rest.
    let r = climb_rest rows s k p b top (omega arith) rest (sym (ap (option_and_then (climb rows s)) above) ∙ up) in
    (r.0, omega (arith, r.1), r.2))

or_false : (b : Bool) → (b || false) ≡ b
or_false true = refl
or_false false = refl

-- what is under a node within some folders climbs to it
pub within_climb : (m : ℕ) (rows : List NodeRow) (node top : ℕ) → is_under_within m rows node top ≡ true → (j : ℕ) × (climb rows j node ≡ Some top)
unfolding is_under_within
within_climb zero rows node top is = (0, ap Some (eqb-true node top is))
within_climb (suc m) rows node top is =
    ⊎_elim (λ e. (0, ap Some (eqb-true node top e)))
    (λ up.
    let parent = holds_some (λ parent. is_under_within m rows parent top) (parent_of rows node) up in
    let r = within_climb m rows parent.0 top parent.2 in
    (suc r.0, ap (option_and_then (climb rows r.0)) parent.1 ∙ r.1))
    (or_cases (node == top) _ is)

-- ---- nodes that lead up

-- the top is in no folder
top_alone : (rows : List NodeRow) (top : NodeRow) → node_row rows top.id ≡ Some top → folder_of top.place ≡ None → parent_of rows top.id ≡ None
top_alone rows top there ends = ap (option_and_then (λ (row : NodeRow). folder_of row.place)) there ∙ ends

-- no climb has more steps than lead up
pub few_steps : (rows : List NodeRow) (most a b k : ℕ) → LeadsUp rows most a → climb rows k a ≡ Some b → k ≤ most
few_steps rows most a b k leads is =
    let past : k ≤ leads.steps = climb_past rows leads.steps k a b leads.top.id leads.climbs (top_alone rows leads.top leads.there leads.ends) is in
    omega arith

pub under_climbing : (rows : List NodeRow) (a b k : ℕ) → LeadsUp rows MAX_DEPTH a → climb rows k a ≡ Some b → is_under rows a b ≡ true
under_climbing rows a b k leads is = climb_under k rows a b (few_steps rows MAX_DEPTH a b k leads is) is

-- no folder above a node is under it
pub no_loop : (rows : List NodeRow) (most a p k : ℕ) → LeadsUp rows most a → parent_of rows a ≡ Some p → climb rows k p ≢ Some a
no_loop rows most a p k leads above is =
    let alone = top_alone rows leads.top leads.there leads.ends in
    let loop : climb rows (suc k) a ≡ Some a = ap (option_and_then (climb rows k)) above ∙ is in
    let few : suc k ≤ leads.steps = climb_past rows leads.steps (suc k) a a leads.top.id leads.climbs alone loop in
    let r = climb_rest rows leads.steps (suc k) a a leads.top.id few loop leads.climbs in
    let less : leads.steps ≤ r.0 = climb_past rows r.0 leads.steps a leads.top.id leads.top.id r.2 alone leads.climbs in
    absurd (omega (arith, r.1))

-- the folder of a node that leads up does so in a step less
pub leads_parent : (rows : List NodeRow) (most node p : ℕ) → LeadsUp rows most node → parent_of rows node ≡ Some p → (1 ≤ most) × LeadsUp rows (most - 1) p
leads_parent rows most node p leads above = from leads.steps leads.few leads.climbs
  where
    from : (s : ℕ) → s ≤ most → climb rows s node ≡ Some leads.top.id → (1 ≤ most) × LeadsUp rows (most - 1) p
    from zero few up =
        let alone = top_alone rows leads.top leads.there leads.ends in
        let none : parent_of rows node ≡ None = subst (λ (n : ℕ). parent_of rows n ≡ None) (sym (same_Some node leads.top.id up)) alone in
        absurd (none-some p (sym none ∙ above))
    from (suc s) few up = (
      omega arith,
      record {
        steps = s;
        few = omega arith;
        top = leads.top;
        climbs = sym (ap (option_and_then (climb rows s)) above) ∙ up;
        there = leads.there;
        ends = leads.ends;
      },
    )

-- what leads up is there
pub leads_there : (rows : List NodeRow) (most node : ℕ) → LeadsUp rows most node → (row : NodeRow) × (node_row rows node ≡ Some row)
leads_there rows most node leads = from leads.steps leads.climbs
  where
    from : (s : ℕ) → climb rows s node ≡ Some leads.top.id → (row : NodeRow) × (node_row rows node ≡ Some row)
    from zero up = (leads.top, ap (node_row rows) (same_Some node leads.top.id up) ∙ leads.there)
    from (suc s) up =
        option_and_then_some (climb rows s) (parent_of rows node) leads.top.id up (λ p above rest.
        option_and_then_some (λ (row : NodeRow). folder_of row.place) (node_row rows node) p above (λ row there placed. (row, there)))

-- a folder more is no more than lead up
under_more : (m : ℕ) (rows : List NodeRow) (p x : ℕ) → LeadsUp rows m p → is_under_within m rows p x ≡ is_under_within (suc m) rows p x
unfolding is_under_within
under_more zero rows p x leads = from (parent_of rows p) refl
  where
    from : (o : Option ℕ) → parent_of rows p ≡ o → (p == x) ≡ (p == x || option_map_or (λ parent. is_under_within zero rows parent x) o false)
    from None none = sym (or_false (p == x))
    from (Some q) above = let fact : 1 ≤ zero = (leads_parent rows zero p q leads above).0 in absurd (omega arith)
under_more (suc m) rows p x leads =
    let less : suc m - 1 ≡ m = omega arith in
    ap (λ (b : Bool). p == x || b) (from (parent_of rows p) refl (λ q above.
    under_more m rows q x (subst (λ (n : ℕ). LeadsUp rows n q) less (leads_parent rows (suc m) p q leads above).1)))
  where
    from : (o : Option ℕ) → parent_of rows p ≡ o
        → ((q : ℕ) → parent_of rows p ≡ Some q → is_under_within m rows q x ≡ is_under_within (suc m) rows q x)
        → option_map_or (λ parent. is_under_within m rows parent x) o false ≡ option_map_or (λ parent. is_under_within (suc m) rows parent x) o false
    from None none below = refl
    from (Some q) above below = below q above

pub under_below : (rows : List NodeRow) (p x : ℕ) → LeadsUp rows (MAX_DEPTH - 1) p → is_under_within (MAX_DEPTH - 1) rows p x ≡ is_under rows p x
unfolding is_under
under_below rows p x leads = under_more (MAX_DEPTH - 1) rows p x leads

-- ---- places

-- the row at a place is the one found by its number
pub own_row : (rows : List NodeRow) (at : ℕ) (d : NodeRow) → AreRisingNodes rows → at < length rows → node_row rows (get_or rows at d).id ≡ Some (get_or rows at d)
own_row rows at d rising within = node_row_each rows rising at d within

-- and two places with one number are one
pub own_place : (rows : List NodeRow) (i j : ℕ) (d : NodeRow) → AreRisingNodes rows → i < length rows → j < length rows
    → (get_or rows i d).id ≡ (get_or rows j d).id → i ≡ j
own_place rows i j d rising here there same = grind (arith, rising i j d, rising j i d)
