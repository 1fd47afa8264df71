-- A row that is filled anew: no climb changes.
use Rattle.std.proofs.Common.{ℕ, zero, suc, ◌<◌, ◌==◌, ◌||◌, ◌≡◌, Bool, true, false, List, [], ◌∷◌, Option, None, Some, refl, sym, ap, ◌∙◌, inl, inr, arith, length, get_or, set}
use Rattle.std.specs.Option.{option_and_then, option_map, option_map_or}
use Rattle.std.proofs.lemmas.Bool.{cases_eq, eqb-true}
use Rattle.std.proofs.lemmas.List.{get_or_default, get_or-set_other, get_or-set_same}
use Rattle.nf_base.specs.declared.rows.NodeRow.{NodeRow}
use Rattle.nf_defs.specs.Tree.{climb, folder_of, is_under, is_under_within, node_row, parent_of}
use Rattle.nf_defs.proofs.Walks.{found_among}
use Rattle.nf_charge.specs.Sums.{IsRefill, LeadsUp}

-- ---- rows by their numbers

-- what stays of a row stays of the one that is found
kept_set : {K : Type 0} (key : NodeRow → K) (rows : List NodeRow) (at : ℕ) (row : NodeRow) (x : ℕ)
    → row.id ≡ (get_or rows at row).id → key row ≡ key (get_or rows at row)
    → option_map key (node_row (set rows at row) x) ≡ option_map key (node_row rows x)
kept_set key [] at row x same kept = refl
kept_set {K} key (r ∷ rows) zero row x same kept = found (r.id == x) refl (row.id == x) refl
  where
    found : (b : Bool) → r.id == x ≡ b → (c : Bool) → row.id == x ≡ c
        → option_map key (node_row (row ∷ rows) x) ≡ option_map key (node_row (r ∷ rows) x)
    found true e true f = rw (e, f) (ap Some kept)
    found false e false f = rw (e, f) refl
    found true e false f = absurd (cc)
    found false e true f = absurd (cc)
kept_set {K} key (r ∷ rows) (suc at) row x same kept = found (r.id == x) refl (kept_set key rows at row x same kept)
  where
    found : (b : Bool) → r.id == x ≡ b → option_map key (node_row (set rows at row) x) ≡ option_map key (node_row rows x)
        → option_map key (node_row (r ∷ set rows at row) x) ≡ option_map key (node_row (r ∷ rows) x)
    found true e rest = rw e refl
    found false e rest = rw e rest

-- each place has the node that it had
pub ids_filled : (rows : List NodeRow) (at : ℕ) (row : NodeRow) (bytes k : ℕ) (d : NodeRow) → k < length rows → IsRefill rows at row bytes
    → (get_or (set rows at row) k d).id ≡ (get_or rows k d).id
ids_filled rows at row bytes k d within refill = elim (cases_eq k at) [
  | inl same ↦
      (let there : at < length rows = omega arith in
      ap (λ (i : ℕ). (get_or (set rows at row) i d).id) same ∙ ap (λ (r : NodeRow). r.id) (get_or-set_same rows at row d there) ∙ refill.same
      ∙ ap (λ (r : NodeRow). r.id) (get_or_default rows at row d there) ∙ ap (λ (i : ℕ). (get_or rows i d).id) (sym same))
  | inr other ↦ ap (λ (r : NodeRow). r.id) (get_or-set_other rows at k row d other)
]

-- the folder by the place
by_place : (o : Option NodeRow)
    → option_and_then folder_of (option_map (λ (row : NodeRow). row.place) o) ≡ option_and_then (λ (row : NodeRow). folder_of row.place) o
by_place None = refl
by_place (Some row) = refl

mapped : {K : Type 0} (key : NodeRow → K) (o : Option NodeRow) (k : K) → option_map key o ≡ Some k → (row : NodeRow) × (o ≡ Some row) × (key row ≡ k)
mapped key None k is = absurd (cc)
mapped key (Some row) k is = (row, refl, cc)

-- ---- climbs

pub parent_filled : (rows : List NodeRow) (at : ℕ) (row : NodeRow) (bytes x : ℕ) → IsRefill rows at row bytes
    → parent_of (set rows at row) x ≡ parent_of rows x
parent_filled rows at row bytes x refill =
    sym (by_place (node_row (set rows at row) x))
    ∙ ap (option_and_then folder_of) (kept_set (λ (row : NodeRow). row.place) rows at row x refill.same refill.placed)
    ∙ by_place (node_row rows x)

pub climb_filled : (rows : List NodeRow) (at : ℕ) (row : NodeRow) (bytes k x : ℕ) → IsRefill rows at row bytes
    → climb (set rows at row) k x ≡ climb rows k x
climb_filled rows at row bytes zero x refill = refl
climb_filled rows at row bytes (suc k) x refill =
    ap (option_and_then (climb (set rows at row) k)) (parent_filled rows at row bytes x refill)
    ∙ onward (parent_of rows x) (λ p. climb_filled rows at row bytes k p refill)
  where
    onward : (o : Option ℕ) → ((p : ℕ) → climb (set rows at row) k p ≡ climb rows k p)
        → option_and_then (climb (set rows at row) k) o ≡ option_and_then (climb rows k) o
    onward None each = refl
    onward (Some p) each = each p

within_filled : (m : ℕ) (rows : List NodeRow) (at : ℕ) (row : NodeRow) (bytes x top : ℕ) → IsRefill rows at row bytes
    → is_under_within m (set rows at row) x top ≡ is_under_within m rows x top
unfolding is_under_within
within_filled zero rows at row bytes x top refill = refl
within_filled (suc m) rows at row bytes x top refill =
    ap (λ (o : Option ℕ). x == top || option_map_or (λ parent. is_under_within m (set rows at row) parent top) o false)
    (parent_filled rows at row bytes x refill)
    ∙ ap (λ (b : Bool). x == top || b) (onward (parent_of rows x) (λ p. within_filled m rows at row bytes p top refill))
  where
    onward : (o : Option ℕ) → ((p : ℕ) → is_under_within m (set rows at row) p top ≡ is_under_within m rows p top)
        → option_map_or (λ parent. is_under_within m (set rows at row) parent top) o false
        ≡ option_map_or (λ parent. is_under_within m rows parent top) o false
    onward None each = refl
    onward (Some p) each = each p

pub under_filled : (rows : List NodeRow) (at : ℕ) (row : NodeRow) (bytes x top : ℕ) → IsRefill rows at row bytes
    → is_under (set rows at row) x top ≡ is_under rows x top
unfolding is_under
under_filled rows at row bytes x top refill = within_filled _ rows at row bytes x top refill

-- a node that leads up does so after
pub leads_up_filled : (rows : List NodeRow) (at : ℕ) (row : NodeRow) (bytes most x : ℕ) → IsRefill rows at row bytes → LeadsUp rows most x
    → LeadsUp (set rows at row) most x
leads_up_filled rows at row bytes most x refill leads =
    let place = kept_set (λ (row : NodeRow). row.place) rows at row leads.top.id refill.same refill.placed in
    let found = mapped (λ (row : NodeRow). row.place) (node_row (set rows at row) leads.top.id) leads.top.place
    (place ∙ ap (option_map (λ (row : NodeRow). row.place)) leads.there) in
    let id : found.0.id ≡ leads.top.id = eqb-true found.0.id leads.top.id
    (found_among (λ (r : NodeRow). r.id == leads.top.id) (set rows at row) found.0 found.1).1 in
    record {
      steps = leads.steps;
      few = leads.few;
      top = found.0;
      climbs = climb_filled rows at row bytes leads.steps x refill ∙ leads.climbs ∙ ap Some (sym id);
      there = ap (node_row (set rows at row)) id ∙ found.1;
      ends = ap folder_of found.2 ∙ leads.ends;
    }
