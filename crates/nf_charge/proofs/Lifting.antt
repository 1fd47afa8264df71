-- A row that is lifted out of its folder: those above it no longer have what is under it, and all else stays as it is.
use Rattle.std.proofs.Common.{ℕ, zero, suc, ◌+◌, ◌-◌, ◌==◌, ◌<◌, ◌≤◌, ◌≡◌, Bool, true, false, ◌||◌, List, [], ◌∷◌, Option, None, Some, if◌then◌else◌, inl, inr, ◌⊎◌, length, get_or, set, refl, sym, ap, subst, ◌∙◌, arith}
use Rattle.std.specs.Prelude.{sum_by}
use Rattle.std.specs.Option.{option_and_then, option_map_or}
use Rattle.std.proofs.lemmas.Bool.{both_ways, cases_Bool, cases_eq, eq-eqb, eqb-false, eqb-true, false_from_ne_true, false≢true, ne_eqb, or_cases, or_parts}
use Rattle.std.proofs.lemmas.List.{get_or-set_other, get_or-set_same, get_or_default, length-set}
use Rattle.std.proofs.lemmas.List.Sums.{sum_by-cons}
use Rattle.std.proofs.lemmas.Option.{option_and_then_some, same_Some}
use Rattle.nf_base.specs.Content.{size_of}
use Rattle.nf_base.specs.declared.limits.TheConstants.{MAX_DEPTH}
use Rattle.nf_base.specs.declared.rows.NodeRow.{NodeRow}
use Rattle.nf_defs.proofs.Climbs.{holds_some, under_climb}
use Rattle.nf_defs.specs.Tree.{climb, folder_of, is_under, is_under_within, node_row, parent_of}
use Rattle.nf_charge.specs.Sums.{AreRisingNodes, IsLifted, LeadUp, LeadsUp, bytes_under, part}
use Rattle.nf_charge.proofs.Climbing.{leads_parent, no_loop, own_row, under_below}

-- ---- from a node to the folder that it is in

pub leads_more : (rows : List NodeRow) (few most node : ℕ) → few ≤ most → LeadsUp rows few node → LeadsUp rows most node
leads_more rows few most node more leads =
    record { steps = leads.steps; few = omega (arith, leads.few); top = leads.top; climbs = leads.climbs; there = leads.there; ends = leads.ends }

pub leads_one_less : (rows : List NodeRow) (most node parent : ℕ) → LeadsUp rows (suc most) node → parent_of rows node ≡ Some parent
    → LeadsUp rows most parent
leads_one_less rows most node parent leads above =
    leads_more rows (suc most - 1) most parent (omega arith) (leads_parent rows (suc most) node parent leads above).1

-- what holds of a node where it holds of the folder that it is in, holds of each that leads up
pub along : (rows : List NodeRow) (P : ℕ → Type 0)
    → ((a : ℕ) → LeadsUp rows MAX_DEPTH a → ((p : ℕ) → parent_of rows a ≡ Some p → P p) → P a)
    → (most a : ℕ) → most ≤ MAX_DEPTH → LeadsUp rows most a → P a
along rows P step zero a few leads =
    step a (leads_more rows zero MAX_DEPTH a few leads) (λ p above.
    let up = (leads_parent rows zero a p leads above).0 in absurd (omega (arith, up)))
along rows P step (suc most) a few leads =
    step a (leads_more rows (suc most) MAX_DEPTH a few leads)
    (λ p above. along rows P step most p (omega arith) (leads_one_less rows most a p leads above))

-- the folder that a node is in is under another
abbrev pub is_above : List NodeRow → ℕ → ℕ → Bool
is_above rows node top = option_map_or (λ parent. is_under rows parent top) (parent_of rows node) false

pub under_is : (rows : List NodeRow) (node top : ℕ)
    → is_under rows node top ≡ (node == top || option_map_or (λ parent. is_under_within (MAX_DEPTH - 1) rows parent top) (parent_of rows node) false)
unfolding is_under is_under_within
under_is rows node top = refl

pub same_above : (o : Option ℕ) (f g : ℕ → Bool) → ((p : ℕ) → o ≡ Some p → f p ≡ g p) → option_map_or f o false ≡ option_map_or g o false
same_above None f g same = refl
same_above (Some p) f g same = same p refl

-- a node is under itself, and where the folder that it is in is
pub under_step : (rows : List NodeRow) (node top : ℕ) → LeadsUp rows MAX_DEPTH node → is_under rows node top ≡ (node == top || is_above rows node top)
under_step rows node top leads =
    under_is rows node top
    ∙ ap (λ (up : Bool). node == top || up)
    (same_above (parent_of rows node) (λ parent. is_under_within (MAX_DEPTH - 1) rows parent top) (λ parent. is_under rows parent top)
    (λ parent above. under_below rows parent top (leads_parent rows MAX_DEPTH node parent leads above).1))

-- a climb goes on from where another ends
climb_on : (j k : ℕ) (rows : List NodeRow) (node mid : ℕ) → climb rows j node ≡ Some mid → climb rows (j + k) node ≡ climb rows k mid
climb_on zero k rows node mid is =
    let count : 0 + k ≡ k = omega arith in ap (λ (n : ℕ). climb rows n node) count ∙ ap (climb rows k) (same_Some node mid is)
climb_on (suc j) k rows node mid is =
    option_and_then_some (climb rows j) (parent_of rows node) mid is (λ parent above is.
    let count : suc j + k ≡ suc (j + k) = omega arith in
    ap (λ (n : ℕ). climb rows n node) count ∙ ap (option_and_then (climb rows (j + k))) above ∙ climb_on j k rows parent mid is)

either_or : (a b c : Bool) → ((a || b) || c) ≡ (a || (b || c))
either_or true b c = refl
either_or false b c = refl

pub or_none : (a : Bool) → (a || false) ≡ a
or_none true = refl
or_none false = refl

-- ---- how other rows lead up

pub leads_end : (rows : List NodeRow) (most node : ℕ) (row : NodeRow) → node_row rows node ≡ Some row → row.id ≡ node → folder_of row.place ≡ None
    → LeadsUp rows most node
leads_end rows most node row there same ends =
    record { steps = 0; few = omega arith; top = row; climbs = ap Some (sym same); there = ap (node_row rows) same ∙ there; ends = ends }

pub leads_on : (rows : List NodeRow) (most node parent : ℕ) → parent_of rows node ≡ Some parent → LeadsUp rows most parent
    → LeadsUp rows (suc most) node
leads_on rows most node parent above leads = record {
  steps = suc leads.steps;
  few = omega (arith, leads.few);
  top = leads.top;
  climbs = ap (option_and_then (climb rows leads.steps)) above ∙ leads.climbs;
  there = leads.there;
  ends = leads.ends;
}

-- a node has the same row in others, or one in no folder
abbrev pub StaysOrEnds : List NodeRow → List NodeRow → ℕ → Type 0
StaysOrEnds rows others node =
    (node_row others node ≡ node_row rows node)
    ⊎ ((row : NodeRow) × (node_row others node ≡ Some row) × (row.id ≡ node) × (folder_of row.place ≡ None))

pub parent_same : (rows others : List NodeRow) (node : ℕ) → node_row others node ≡ node_row rows node → parent_of others node ≡ parent_of rows node
parent_same rows others node same = ap (option_and_then (λ (row : NodeRow). folder_of row.place)) same

-- so where each does that a climb passes, what leads up does in the others too
pub leads_other : (rows others : List NodeRow) (Passed : ℕ → Type 0)
    → ((node : ℕ) → Passed node → StaysOrEnds rows others node)
    → ((node parent : ℕ) → Passed node → parent_of rows node ≡ Some parent → Passed parent)
    → (k most node : ℕ) (top : NodeRow) → Passed node → k ≤ most → climb rows k node ≡ Some top.id → node_row rows top.id ≡ Some top
    → folder_of top.place ≡ None → LeadsUp others most node
leads_other rows others Passed kept up zero most node top passed few climbs there ends = here (kept node passed)
  where
    here : StaysOrEnds rows others node → LeadsUp others most node
    here (inl same) = let is = same_Some node top.id climbs in leads_end others most node top (same ∙ ap (node_row rows) is ∙ there) (sym is) ends
    here (inr is) = leads_end others most node is.0 is.1 is.2 is.3
leads_other rows others Passed kept up (suc k) zero node top passed few climbs there ends = absurd (omega arith)
leads_other rows others Passed kept up (suc k) (suc most) node top passed few climbs there ends =
    here (kept node passed)
    (λ parent above rest. leads_other rows others Passed kept up k most parent top (up node parent passed above) (omega arith) rest there ends)
  where
    here : StaysOrEnds rows others node
        → ((parent : ℕ) → parent_of rows node ≡ Some parent → climb rows k parent ≡ Some top.id → LeadsUp others most parent)
        → LeadsUp others (suc most) node
    here (inl same) rest =
        option_and_then_some (climb rows k) (parent_of rows node) top.id climbs
        (λ parent above climbs. leads_on others most node parent (parent_same rows others node same ∙ above) (rest parent above climbs))
    here (inr is) rest = leads_end others (suc most) node is.0 is.1 is.2 is.3

-- ---- a row set at its place

pub row_kept : (rows : List NodeRow) (at : ℕ) (row : NodeRow) (node : ℕ) → at < length rows → row.id ≡ (get_or rows at row).id
    → (row.id == node) ≡ false
    → node_row (set rows at row) node ≡ node_row rows node
row_kept [] at row node there same other = absurd (omega arith)
row_kept (x ∷ rows) zero row node there same other =
    let old : (x.id == node) ≡ false = subst (λ (id : ℕ). (id == node) ≡ false) same other in simp (other, old)
row_kept (x ∷ rows) (suc at) row node there same other =
    ap (λ (o : Option NodeRow). if x.id == node then Some x else o) (row_kept rows at row node (omega arith) same other)

-- what is as it was of the row that is set is at each place
pub kept_at : {Y : Type 0} (f : NodeRow → Y) (rows : List NodeRow) (at : ℕ) (row : NodeRow) → at < length rows → f row ≡ f (get_or rows at row)
    → (k : ℕ) (d : NodeRow) → k < length rows → f (get_or (set rows at row) k d) ≡ f (get_or rows k d)
kept_at f rows at row there same k d within =
    elim (cases_eq k at) [
      | inl e ↦
          subst (λ (n : ℕ). f (get_or (set rows at row) n d) ≡ f (get_or rows n d)) (sym e)
          (ap f (get_or-set_same rows at row d there) ∙ same ∙ ap f (get_or_default rows at row d there))
      | inr e ↦ ap f (get_or-set_other rows at k row d e)
    ]

-- ---- sums

-- two parts at each place make two parts of the sum
pub sum_split : (f g h : NodeRow → ℕ) (rows others : List NodeRow) → length rows ≡ length others
    → ((k : ℕ) (d : NodeRow) → k < length rows → f (get_or rows k d) ≡ g (get_or others k d) + h (get_or rows k d))
    → sum_by f rows ≡ sum_by g others + sum_by h rows
sum_split f g h [] [] long each = refl
sum_split f g h [] (y ∷ others) long each = absurd (omega (arith, long))
sum_split f g h (x ∷ rows) [] long each = absurd (omega (arith, long))
sum_split f g h (x ∷ rows) (y ∷ others) long each =
    omega (
      arith,
      sum_by-cons f x rows,
      sum_by-cons g y others,
      sum_by-cons h x rows,
      each 0 x (omega arith),
      sum_split f g h rows others (omega (arith, long)) (λ k d within. each (suc k) d (omega arith)),
    )

pub sum_none : (rows : List NodeRow) → sum_by (λ (row : NodeRow). 0) rows ≡ 0
sum_none [] = refl
sum_none (x ∷ rows) = omega (arith, sum_by-cons (λ (row : NodeRow). 0) x rows, sum_none rows)

pub sum_when : (counts : Bool) (f : NodeRow → ℕ) (rows : List NodeRow)
    → sum_by (λ (row : NodeRow). if counts then f row else 0) rows ≡ (if counts then sum_by f rows else 0)
sum_when true f rows = refl
sum_when false f rows = sum_none rows

-- of two that are either one or the other each has its share
shares : (all still up inside : Bool) (bytes : ℕ) → inside ≡ true → all ≡ (still || up) → (still ≡ true → up ≡ false)
    → (if all then bytes else 0) ≡ (if still then bytes else 0) + (if up then (if inside then bytes else 0) else 0)
shares all true up inside bytes under is never = simp (is, under, never refl) (omega arith)
shares all false up inside bytes under is never = simp (is, under) (omega arith)

asides : (all still up inside : Bool) (bytes : ℕ) → inside ≡ false → still ≡ all
    → (if all then bytes else 0) ≡ (if still then bytes else 0) + (if up then (if inside then bytes else 0) else 0)
asides all still true inside bytes outside is = simp (is, outside) (omega arith)
asides all still false inside bytes outside is = simp is (omega arith)

-- ---- a lifted row

module _ (rows : List NodeRow) (at : ℕ) (row : NodeRow) (rising : AreRisingNodes rows) (leads : LeadUp rows) (there : at < length rows)
    (lifted : IsLifted rows at row) where
  pub lifted_ids : (k : ℕ) (d : NodeRow) → k < length rows → (get_or (set rows at row) k d).id ≡ (get_or rows k d).id
  lifted_ids k d within = kept_at (λ row. row.id) rows at row there lifted.same k d within

  pub lifted_sizes : (k : ℕ) (d : NodeRow) → k < length rows → size_of (get_or (set rows at row) k d).content ≡ size_of (get_or rows k d).content
  lifted_sizes k d within = kept_at (λ row. size_of row.content) rows at row there lifted.filled k d within

  pub lifted_rising : AreRisingNodes (set rows at row)
  lifted_rising i j d before within =
      let long : j < length rows = omega (arith, length-set rows at row) in
      omega (arith, rising i j d before long, lifted_ids i d (omega arith), lifted_ids j d long)

  -- its own row, and what it was
  pub lifted_row : node_row (set rows at row) row.id ≡ Some row
  lifted_row =
      let is = get_or-set_same rows at row row there in
      subst (λ (r : NodeRow). node_row (set rows at row) r.id ≡ Some r) is
      (own_row (set rows at row) at row lifted_rising (omega (arith, length-set rows at row)))

  pub lifted_old : node_row rows row.id ≡ Some (get_or rows at row)
  lifted_old = ap (node_row rows) lifted.same ∙ own_row rows at row rising there

  pub lifted_leads : LeadsUp rows MAX_DEPTH row.id
  lifted_leads = subst (LeadsUp rows MAX_DEPTH) (sym lifted.same) (leads at row there)

  pub lifted_parent : parent_of (set rows at row) row.id ≡ None
  lifted_parent = ap (option_and_then (λ (row : NodeRow). folder_of row.place)) lifted_row ∙ lifted.alone

  lifted_other : (node : ℕ) → (row.id == node) ≡ false → parent_of (set rows at row) node ≡ parent_of rows node
  lifted_other node other = parent_same rows (set rows at row) node (row_kept rows at row node there lifted.same other)

  lifted_stays : (node : ℕ) → StaysOrEnds rows (set rows at row) node
  lifted_stays node =
      elim (cases_Bool (row.id == node)) [
        | inl same ↦ (let is = eqb-true row.id node same in inr (row, ap (node_row (set rows at row)) (sym is) ∙ lifted_row, is, lifted.alone))
        | inr other ↦ inl (row_kept rows at row node there lifted.same other)
      ]

  -- each leads up as before, or to it
  pub leads_in : (most node : ℕ) → LeadsUp rows most node → LeadsUp (set rows at row) most node
  leads_in most node leads =
      leads_other rows (set rows at row) (λ node. Unit) (λ node passed. lifted_stays node) (λ node parent passed above. tt)
      leads.steps most node leads.top tt leads.few leads.climbs leads.there leads.ends

  lifted_step : (node top : ℕ) → LeadsUp rows MAX_DEPTH node
      → is_under (set rows at row) node top ≡ (node == top || is_above (set rows at row) node top)
  lifted_step node top leads = under_step (set rows at row) node top (leads_in MAX_DEPTH node leads)

  -- what isn't under it is under the same nodes as before
  pub under_aside : (node top : ℕ) → LeadsUp rows MAX_DEPTH node → is_under rows node row.id ≡ false
      → is_under (set rows at row) node top ≡ is_under rows node top
  under_aside node top leads =
      along rows (λ node. is_under rows node row.id ≡ false → is_under (set rows at row) node top ≡ is_under rows node top)
      (λ node leads rest outside.
      let parts = or_parts (node == row.id) (is_above rows node row.id) (sym (under_step rows node row.id leads) ∙ outside) in
      let other : (row.id == node) ≡ false = ne_eqb row.id node (λ e. eqb-false node row.id parts.0 (sym e)) in
      lifted_step node top leads
      ∙ ap (λ (up : Bool). node == top || up)
      (ap (λ (o : Option ℕ). option_map_or (λ parent. is_under (set rows at row) parent top) o false) (lifted_other node other)
      ∙ same_above (parent_of rows node) (λ parent. is_under (set rows at row) parent top) (λ parent. is_under rows parent top)
      (λ parent above. rest parent above
      (ap (λ (o : Option ℕ). option_map_or (λ parent. is_under rows parent row.id) o false) (sym above) ∙ parts.1)))
      ∙ sym (under_step rows node top leads))
      MAX_DEPTH node (omega arith) leads

  -- what is under it, and another, is in a folder that is under it
  lifted_up : (node : ℕ) → is_under rows node row.id ≡ true → LeadsUp rows MAX_DEPTH node → (row.id == node) ≡ false
      → (parent : ℕ) × (parent_of rows node ≡ Some parent) × (is_under rows parent row.id ≡ true)
  lifted_up node under leads other =
      elim (or_cases (node == row.id) (is_above rows node row.id) (sym (under_step rows node row.id leads) ∙ under)) [
        | inl same ↦ absurd (both_ways (row.id == node) other (eq-eqb row.id node (sym (eqb-true node row.id same))))
        | inr above ↦ holds_some (λ parent. is_under rows parent row.id) (parent_of rows node) above
      ]

  -- what is still over a node that is under it, is under it too
  pub over_within : (node top : ℕ) → LeadsUp rows MAX_DEPTH node → is_under rows node row.id ≡ true → is_under (set rows at row) node top ≡ true
      → is_under rows top row.id ≡ true
  over_within node top leads =
      along rows (λ node. is_under rows node row.id ≡ true → is_under (set rows at row) node top ≡ true → is_under rows top row.id ≡ true)
      (λ node leads rest under still.
      elim (or_cases (node == top) (is_above (set rows at row) node top) (sym (lifted_step node top leads) ∙ still)) [
        | inl same ↦ subst (λ (n : ℕ). is_under rows n row.id ≡ true) (eqb-true node top same) under
        | inr above ↦
            elim (cases_Bool (row.id == node)) [
              | inl is ↦
                  (let none : parent_of (set rows at row) node ≡ None =
                  subst (λ (n : ℕ). parent_of (set rows at row) n ≡ None) (eqb-true row.id node is) lifted_parent in
                  absurd (false≢true (ap (λ (o : Option ℕ). option_map_or (λ parent. is_under (set rows at row) parent top) o false)
                  (sym none) ∙ above)))
              | inr other ↦
                  (let up = lifted_up node under leads other in
                  let same = lifted_other node other ∙ up.1 in
                  rest up.0 up.1 up.2 (ap (λ (o : Option ℕ). option_map_or (λ parent. is_under (set rows at row) parent top) o false)
                  (sym same) ∙ above))
            ]
      ])
      MAX_DEPTH node (omega arith) leads

  -- what is under it was under what it still is under, and under what its folder is under
  pub under_within : (node top : ℕ) → LeadsUp rows MAX_DEPTH node → is_under rows node row.id ≡ true
      → is_under rows node top ≡ (is_under (set rows at row) node top || is_above rows row.id top)
  under_within node top leads =
      along rows
      (λ node. is_under rows node row.id ≡ true → is_under rows node top ≡ (is_under (set rows at row) node top || is_above rows row.id top))
      (λ node leads rest under.
      elim (cases_Bool (row.id == node)) [
        | inl is ↦
            subst (λ (n : ℕ). is_under rows n top ≡ (is_under (set rows at row) n top || is_above rows row.id top)) (eqb-true row.id node is) itself
        | inr other ↦
            (let up = lifted_up node under leads other in
            let same = lifted_other node other ∙ up.1 in
            under_step rows node top leads
            ∙ ap (λ (o : Option ℕ). node == top || option_map_or (λ parent. is_under rows parent top) o false) up.1
            ∙ ap (λ (b : Bool). node == top || b) (rest up.0 up.1 up.2)
            ∙ sym (either_or (node == top) (is_under (set rows at row) up.0 top) (is_above rows row.id top))
            ∙ ap
            (λ (o : Option ℕ). (node == top || option_map_or (λ parent. is_under (set rows at row) parent top) o false) || is_above rows row.id top)
            (sym same)
            ∙ ap (λ (b : Bool). b || is_above rows row.id top) (sym (lifted_step node top leads)))
      ])
      MAX_DEPTH node (omega arith) leads
    where
      itself : is_under rows row.id top ≡ (is_under (set rows at row) row.id top || is_above rows row.id top)
      itself =
          under_step rows row.id top lifted_leads
          ∙ sym (ap (λ (b : Bool). b || is_above rows row.id top)
          (lifted_step row.id top lifted_leads
          ∙ ap (λ (o : Option ℕ). row.id == top || option_map_or (λ parent. is_under (set rows at row) parent top) o false) lifted_parent
          ∙ or_none (row.id == top)))

  -- but never both
  pub never_both : (node top : ℕ) → LeadsUp rows MAX_DEPTH node → is_under rows node row.id ≡ true → is_under (set rows at row) node top ≡ true
      → is_above rows row.id top ≡ false
  never_both node top leads under still =
      false_from_ne_true (is_above rows row.id top) (λ above.
      let folder = holds_some (λ parent. is_under rows parent top) (parent_of rows row.id) above in
      let to_top = under_climb rows folder.0 top folder.2 in
      let to_row = under_climb rows top row.id (over_within node top leads under still) in
      no_loop rows MAX_DEPTH row.id folder.0 (to_top.0 + to_row.0) lifted_leads folder.1
      (climb_on to_top.0 to_row.0 rows folder.0 top to_top.2 ∙ to_row.2))

  -- nor is its folder under it
  pub not_above_itself : is_above rows row.id row.id ≡ false
  not_above_itself =
      false_from_ne_true (is_above rows row.id row.id) (λ above.
      let folder = holds_some (λ parent. is_under rows parent row.id) (parent_of rows row.id) above in
      let to_row = under_climb rows folder.0 row.id folder.2 in
      no_loop rows MAX_DEPTH row.id folder.0 to_row.0 lifted_leads folder.1 to_row.2)

  -- ---- what that makes of bytes

  -- a node's bytes count for a top where it still is under it, and where it is under what was lifted, whose folder is under the top
  parts_of : (node top bytes : ℕ) → LeadsUp rows MAX_DEPTH node
      → (if is_under rows node top then bytes else 0)
      ≡ (if is_under (set rows at row) node top then bytes else 0)
      + (if is_above rows row.id top then (if is_under rows node row.id then bytes else 0) else 0)
  parts_of node top bytes leads =
      elim (cases_Bool (is_under rows node row.id)) [
        | inl under ↦
            shares (is_under rows node top) (is_under (set rows at row) node top) (is_above rows row.id top) (is_under rows node row.id) bytes
            under (under_within node top leads under) (never_both node top leads under)
        | inr outside ↦
            asides (is_under rows node top) (is_under (set rows at row) node top) (is_above rows row.id top) (is_under rows node row.id) bytes
            outside (under_aside node top leads outside)
      ]

  -- a node that its folder is under has its bytes less, and each other what it had
  pub weighed_lifted : (top : ℕ)
      → bytes_under rows top ≡ bytes_under (set rows at row) top + (if is_above rows row.id top then bytes_under rows row.id else 0)
  unfolding bytes_under
  weighed_lifted top =
      sum_split (part rows top) (part (set rows at row) top) (λ (r : NodeRow). if is_above rows row.id top then part rows row.id r else 0)
      rows (set rows at row)
      (sym (length-set rows at row))
      (λ k d within.
      let r = get_or rows k d in
      let still : part (set rows at row) top (get_or (set rows at row) k d) ≡ (if is_under (set rows at row) r.id top then size_of r.content else 0) =
      ap (λ (id : ℕ). if is_under (set rows at row) id top then size_of (get_or (set rows at row) k d).content else 0) (lifted_ids k d within)
      ∙ ap (λ (bytes : ℕ). if is_under (set rows at row) r.id top then bytes else 0) (lifted_sizes k d within) in
      parts_of r.id top (size_of r.content) (leads k d within)
      ∙ ap (λ (n : ℕ). n + (if is_above rows row.id top then part rows row.id r else 0)) (sym still))
      ∙ ap (λ (n : ℕ). sum_by (part (set rows at row) top) (set rows at row) + n) (sum_when (is_above rows row.id top) (part rows row.id) rows)

  -- what is lifted has what it had
  pub weighed_itself : bytes_under rows row.id ≡ bytes_under (set rows at row) row.id
  weighed_itself =
      weighed_lifted row.id
      ∙ ap (λ (b : Bool). bytes_under (set rows at row) row.id + (if b then bytes_under rows row.id else 0)) not_above_itself
      ∙ omega arith
