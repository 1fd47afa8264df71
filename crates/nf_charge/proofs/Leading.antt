-- How rows lead up when one changes or some go, and what that makes of the sums.
use Rattle.std.proofs.Common.{ℕ, ◌+◌, ◌-◌, ◌<◌, ◌==◌, ◌^◌, ◌≡◌, Bool, true, false, not, ◌||◌, List, [], ◌∷◌, Option, Some, if◌then◌else◌, inl, length, get_or, set, filter, refl, sym, ap, subst, ◌∙◌, arith, zero, suc, None}
use Rattle.std.specs.Prelude.{sum_by}
use Rattle.std.specs.List.{All, position}
use Rattle.std.specs.Option.{option_map_or}
use Rattle.std.proofs.lemmas.Bool.{both_ways, cond_both, false_from_ne_true, ne_eqb, not-true, or_parts}
use Rattle.std.proofs.lemmas.List.{length-set}
use Rattle.std.proofs.lemmas.List.Elements.{All-filter, filter_passes}
use Rattle.std.proofs.lemmas.List.Sums.{sum_by-cons, sum_by-le}
use Rattle.std.proofs.lemmas.Option.{none-some, option_and_then_some, same_Some}
use Rattle.nf_base.specs.Content.{size_of}
use Rattle.nf_base.specs.declared.limits.TheConstants.{MAX_DEPTH}
use Rattle.nf_base.specs.declared.rows.NodeRow.{NodeRow}
use Rattle.nf_defs.specs.Tree.{is_under, node_row, parent_of, without_under, climb}
use Rattle.nf_defs.proofs.Climbs.{under_climb}
use Rattle.nf_defs.proofs.Lookups.{find_nowhere}
use Rattle.nf_charge.specs.Sums.{AreRisingNodes, AreSums, AreWeighed, IsLifted, LeadUp, LeadsUp, bytes_under, part, IsRefill}
use Rattle.nf_charge.proofs.Climbing.{leads_parent, leads_there}
use Rattle.nf_charge.proofs.Lifting.{along, is_above, leads_in, leads_more, leads_other, lifted_ids, lifted_sizes, over_within, parent_same, same_above, sum_none, sum_split, under_aside, under_step}
use Rattle.nf_charge.proofs.Filling.{ids_filled, leads_up_filled}

-- ---- a row that is filled anew

-- with a row that is filled anew each still leads up
pub leads_filled : (rows : List NodeRow) (at : ℕ) (row : NodeRow) (bytes : ℕ) → AreRisingNodes rows → LeadUp rows → at < length rows
    → IsRefill rows at row bytes → LeadUp (set rows at row)
leads_filled rows at row bytes rising leads there refill = λ k d within.
    let inside : k < length rows = omega (arith, length-set rows at row) in
    subst (λ (n : ℕ). LeadsUp (set rows at row) MAX_DEPTH n) (sym (ids_filled rows at row bytes k d inside refill))
    (leads_up_filled rows at row bytes MAX_DEPTH _ refill (leads k d inside))

-- ---- a lifted row

-- with a row that is lifted out of its folder each still leads up
pub leads_lifted : (rows : List NodeRow) (at : ℕ) (row : NodeRow) → AreRisingNodes rows → LeadUp rows → at < length rows → IsLifted rows at row
    → LeadUp (set rows at row)
leads_lifted rows at row rising leads there lifted k d within =
    let here : k < length rows = omega (arith, length-set rows at row) in
    subst (LeadsUp (set rows at row) MAX_DEPTH) (sym (lifted_ids rows at row rising leads there lifted k d here))
    (leads_in rows at row rising leads there lifted MAX_DEPTH (get_or rows k d).id (leads k d here))

-- ---- without what is under a top

-- what isn't under the top has its row
row_stays : (rows : List NodeRow) (test : ℕ → Bool) (node : ℕ) → test node ≡ true
    → node_row (filter (λ row. test row.id) rows) node ≡ node_row rows node
row_stays [] test node passes = refl
row_stays (x ∷ rows) test node passes =
    let rest = row_stays rows test node passes in
    cond_both (test x.id) (x ∷ filter (λ row. test row.id) rows) (filter (λ row. test row.id) rows)
    (λ left. node_row left node ≡ node_row (x ∷ rows) node)
    (λ e. ap (λ (o : Option NodeRow). if x.id == node then Some x else o) rest)
    (λ e. rest ∙ simp (ne_eqb x.id node (λ same. both_ways (test x.id) e (rw same passes))))

module _ (rows : List NodeRow) (top : ℕ) where
  -- it leads up, and isn't under the top
  pub record IsOutside (node : ℕ) : Type 0 where
    pub leads : LeadsUp rows MAX_DEPTH node
    pub outside : is_under rows node top ≡ false

  outside_row : (node : ℕ) → is_under rows node top ≡ false → node_row (without_under rows top) node ≡ node_row rows node
  outside_row node outside = row_stays rows (λ node. not (is_under rows node top)) node (ap not outside)

  -- nor is the folder that it is in
  outside_up : (node parent : ℕ) → IsOutside node → parent_of rows node ≡ Some parent → IsOutside parent
  outside_up node parent is above = record {
    leads = leads_more rows (MAX_DEPTH - 1) MAX_DEPTH parent (omega arith) (leads_parent rows MAX_DEPTH node parent is.leads above).1;
    outside = ap (λ (o : Option ℕ). option_map_or (λ parent. is_under rows parent top) o false) (sym above)
        ∙ (or_parts (node == top) (is_above rows node top) (sym (under_step rows node top is.leads) ∙ is.outside)).1;
  }

  pub outside_leads : (most node : ℕ) → LeadsUp rows most node → IsOutside node → LeadsUp (without_under rows top) most node
  outside_leads most node leads is =
      leads_other rows (without_under rows top) IsOutside (λ node is. inl (outside_row node is.outside)) outside_up
      leads.steps most node leads.top is leads.few leads.climbs leads.there leads.ends

  -- and it is under what it was
  pub outside_same : (node other : ℕ) → IsOutside node → is_under (without_under rows top) node other ≡ is_under rows node other
  outside_same node other is =
      along rows (λ node. is_under rows node top ≡ false → is_under (without_under rows top) node other ≡ is_under rows node other)
      (λ node leads rest outside.
      let is : IsOutside node = record { leads = leads; outside = outside } in
      under_step (without_under rows top) node other (outside_leads MAX_DEPTH node leads is)
      ∙ ap (λ (up : Bool). node == other || up)
      (ap (λ (o : Option ℕ). option_map_or (λ parent. is_under (without_under rows top) parent other) o false)
      (parent_same rows (without_under rows top) node (outside_row node outside))
      ∙ same_above (parent_of rows node) (λ parent. is_under (without_under rows top) parent other) (λ parent. is_under rows parent other)
      (λ parent above. rest parent above (outside_up node parent is above).outside))
      ∙ sym (under_step rows node other leads))
      MAX_DEPTH node (omega arith) is.leads is.outside

-- what stays, stays outside
stays_outside : (rows : List NodeRow) (top : ℕ) → All (λ (row : NodeRow). is_under rows row.id top ≡ false) (without_under rows top)
stays_outside rows top k d within = not-true _ (filter_passes (λ (row : NodeRow). not (is_under rows row.id top)) rows k d within)

-- without what is under a top each leads up
pub leads_without : (rows : List NodeRow) (top : ℕ) → AreRisingNodes rows → LeadUp rows → LeadUp (without_under rows top)
leads_without rows top rising leads k d within =
    let node = (get_or (without_under rows top) k d).id in
    let up =
    All-filter (λ (row : NodeRow). not (is_under rows row.id top)) (λ (row : NodeRow). LeadsUp rows MAX_DEPTH row.id) rows leads k d within in
    outside_leads rows top MAX_DEPTH node up (record { leads = up; outside = stays_outside rows top k d within })

-- ---- sums without what is under a top

-- a sum of what passes
pub sum_filter : (test : NodeRow → Bool) (f : NodeRow → ℕ) (rows : List NodeRow)
    → sum_by (λ row. if test row then f row else 0) rows ≡ sum_by f (filter test rows)
sum_filter test f [] = refl
sum_filter test f (x ∷ rows) =
    sum_by-cons (λ (row : NodeRow). if test row then f row else 0) x rows
    ∙ cond_both (test x) (x ∷ filter test rows) (filter test rows)
    (λ left. (if test x then f x else 0) + sum_by (λ row. if test row then f row else 0) rows ≡ sum_by f left)
    (λ e. simp e (omega (arith, sum_filter test f rows, sum_by-cons f x (filter test rows))))
    (λ e. simp e (omega (arith, sum_filter test f rows)))

module _ (rows : List NodeRow) (at : ℕ) (row : NodeRow) (rising : AreRisingNodes rows) (leads : LeadUp rows) (there : at < length rows)
    (lifted : IsLifted rows at row) where
  -- a row that goes is under none that stays
  part_stays : (other : ℕ) → is_under rows other row.id ≡ false → (k : ℕ) (d : NodeRow) → k < length rows
      → (if not (is_under rows (get_or rows k d).id row.id) then part (without_under rows row.id) other (get_or rows k d) else 0)
      ≡ part (set rows at row) other (get_or (set rows at row) k d)
  part_stays other stays k d within = here (is_under rows r.id row.id) refl ∙ sym still
    where
      r : NodeRow
      r = get_or rows k d

      still : part (set rows at row) other (get_or (set rows at row) k d) ≡ (if is_under (set rows at row) r.id other then size_of r.content else 0)
      still =
          ap (λ (id : ℕ). if is_under (set rows at row) id other then size_of (get_or (set rows at row) k d).content else 0)
          (lifted_ids rows at row rising leads there lifted k d within)
          ∙ ap (λ (bytes : ℕ). if is_under (set rows at row) r.id other then bytes else 0)
          (lifted_sizes rows at row rising leads there lifted k d within)

      here : (under : Bool) → is_under rows r.id row.id ≡ under
          → (if not (is_under rows r.id row.id) then part (without_under rows row.id) other r else 0)
          ≡ (if is_under (set rows at row) r.id other then size_of r.content else 0)
      here true is =
          let apart : is_under (set rows at row) r.id other ≡ false = false_from_ne_true (is_under (set rows at row) r.id other) (λ still.
          both_ways (is_under rows other row.id) stays (over_within rows at row rising leads there lifted r.id other (leads k d within) is still)) in
          simp (is, apart)
      here false is =
          let same = outside_same rows row.id r.id other (record { leads = leads k d within; outside = is })
          ∙ sym (under_aside rows at row rising leads there lifted r.id other (leads k d within) is) in
          simp (is, same)

  weighed_without : (other : ℕ) → is_under rows other row.id ≡ false
      → bytes_under (set rows at row) other ≡ bytes_under (without_under rows row.id) other
  unfolding bytes_under
  weighed_without other stays =
      let test : NodeRow → Bool = λ r. not (is_under rows r.id row.id) in
      let parts =
      sum_split (λ (r : NodeRow). if test r then part (without_under rows row.id) other r else 0) (part (set rows at row) other) (λ (r : NodeRow). 0)
      rows (set rows at row) (sym (length-set rows at row)) (λ k d within. part_stays other stays k d within ∙ omega arith) in
      omega (arith, parts, sum_none rows, sum_filter test (part (without_under rows row.id) other) rows)

-- what is lifted can go with all under it: the sums of what stays are those of the rows that stay
pub sums_without : (rows : List NodeRow) (at : ℕ) (row : NodeRow) (sums : List ℕ) → AreRisingNodes rows → LeadUp rows → at < length rows
    → IsLifted rows at row
    → AreWeighed (set rows at row) (without_under rows row.id) sums → All (λ (r : NodeRow). size_of r.content < 2 ^ 64) rows
    → AreSums (without_under rows row.id) sums
sums_without rows at row sums rising leads there lifted weighed sized = record {
  weighed = record {
    long = weighed.long;
    each = λ k d within. weighed.each k d within
        ∙ weighed_without rows at row rising leads there lifted (get_or (without_under rows row.id) k d).id (stays_outside rows row.id k d within);
  };
  sized = All-filter (λ (r : NodeRow). not (is_under rows r.id row.id)) (λ (r : NodeRow). size_of r.content < 2 ^ 64) rows sized;
}

-- ---- a node that isn't there

-- where a climb from a node that leads up comes to is there
climb_there : (k : ℕ) (rows : List NodeRow) (most a b : ℕ) → LeadsUp rows most a → climb rows k a ≡ Some b
    → (row : NodeRow) × (node_row rows b ≡ Some row)
climb_there zero rows most a b leads is =
    subst (λ (n : ℕ). (row : NodeRow) × (node_row rows n ≡ Some row)) (same_Some a b is) (leads_there rows most a leads)
climb_there (suc k) rows most a b leads is =
    option_and_then_some (climb rows k) (parent_of rows a) b is (λ p above rest.
    climb_there k rows (most - 1) p b (leads_parent rows most a p leads above).1 rest)

-- nothing is under a node that isn't there
pub under_absent : (rows : List NodeRow) (x node : ℕ) → LeadsUp rows MAX_DEPTH x → None ≡ position (λ row. row.id == node) rows
    → is_under rows x node ≡ false
under_absent rows x node leads absent =
    false_from_ne_true (is_under rows x node) (λ under.
    let c = under_climb rows x node under in
    let r = climb_there c.0 rows MAX_DEPTH x node leads c.2 in
    none-some r.0 (find_nowhere (λ (row : NodeRow). row.id == node) rows absent ∙ r.1))

pub weighed_absent : (rows : List NodeRow) (node : ℕ) → AreRisingNodes rows → LeadUp rows → None ≡ position (λ row. row.id == node) rows
    → bytes_under rows node ≡ 0
unfolding bytes_under
weighed_absent rows node rising leads absent =
    let least = sum_by-le (part rows node) 0 rows (λ k d within.
    let none : part rows node (get_or rows k d) ≡ 0 =
    ap (λ (b : Bool). if b then size_of (get_or rows k d).content else 0) (under_absent rows (get_or rows k d).id node (leads k d within) absent) in
    omega (arith, none)) in
    omega (arith, least)

kept_all : (test : NodeRow → Bool) (rows : List NodeRow) → All (λ (row : NodeRow). test row ≡ true) rows → filter test rows ≡ rows
kept_all test [] all = refl
kept_all test (x ∷ rows) all =
    rw (all 0 x (omega arith)) (ap (λ (rest : List NodeRow). x ∷ rest) (kept_all test rows (λ k d within. all (suc k) d (omega arith))))

pub without_absent : (rows : List NodeRow) (node : ℕ) → AreRisingNodes rows → LeadUp rows → None ≡ position (λ row. row.id == node) rows
    → without_under rows node ≡ rows
without_absent rows node rising leads absent =
    kept_all (λ (row : NodeRow). not (is_under rows row.id node)) rows
    (λ k d within. ap not (under_absent rows (get_or rows k d).id node (leads k d within) absent))
