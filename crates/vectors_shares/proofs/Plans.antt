-- Three rows, of which the second is in the first, lead up.
use Rattle.std.proofs.Common.{◌≡◌, List, [], ◌∷◌, None, Some, refl, ap, arith}
use Rattle.std.proofs.lemmas.List.Elements.{All-cons, All-nil}
use Rattle.nf_base.specs.declared.limits.TheConstants.{MAX_DEPTH}
use Rattle.nf_base.specs.declared.rows.NodeRow.{NodeRow}
use Rattle.nf_base.specs.declared.rows.Place.TheVariants.{Root, Inside}
use Rattle.nf_defs.specs.Tree.{folder_of, node_row}
use Rattle.nf_charge.specs.Sums.{LeadUp, LeadsUp}

abbrev Leads : List NodeRow → NodeRow → Type 0
Leads rows row = LeadsUp rows MAX_DEPTH row.id

-- a row in no folder does
top_leads : (rows : List NodeRow) (row : NodeRow) → node_row rows row.id ≡ Some row → folder_of row.place ≡ None → Leads rows row
top_leads rows row there ends = record { steps = 0; few = omega arith; top = row; climbs = refl; there = there; ends = ends }

pub plans_lead : (root inside other : NodeRow) → root.id ≡ 0 → inside.id ≡ 3 → other.id ≡ 7 → root.place ≡ Root → inside.place ≡ Inside 0 → other.place ≡ Root
    → LeadUp (root ∷ inside ∷ other ∷ [])
plans_lead root inside other zero three seven at_top in_root at_side =
    let rows = root ∷ inside ∷ other ∷ [] in
    let below : Leads rows inside =
    record { steps = 1; few = omega arith; top = root; climbs = rw (three, zero, in_root) refl; there = rw zero refl; ends = ap folder_of at_top } in
    All-cons (Leads rows) root (inside ∷ other ∷ []) (top_leads rows root (rw zero refl) (ap folder_of at_top))
    (All-cons (Leads rows) inside (other ∷ []) below
    (All-cons (Leads rows) other [] (top_leads rows other (rw (zero, three, seven) refl) (ap folder_of at_side)) (All-nil (Leads rows))))
