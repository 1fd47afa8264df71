-- What is present stays so where rows change, and nothing of it is in the trash.
use Rattle.std.proofs.Common.{ℕ, suc, zero, ◌+◌, ◌≡◌, ◌≢◌, Bool, true, false, List, Option, None, Some, refl, sym, ap, ◌∙◌, arith}
use Rattle.std.specs.Option.{option_and_then, option_map_or}
use Rattle.std.proofs.lemmas.Bool.{false≢true}
use Rattle.std.proofs.lemmas.Option.{none-some, same_Some}
use Rattle.nf_base.specs.declared.rows.NodeRow.{NodeRow}
use Rattle.nf_base.specs.declared.rows.Place.TheVariants.{Trash}
use Rattle.nf_defs.proofs.Climbs.{holds_some}
use Rattle.nf_defs.specs.Prelude.{climb, folder_of, is_root, is_root_place, node_row, parent_of}
use Rattle.nf_laws.proofs.Climbs.{climb_on, climb_those, climbs_no_further, IsClosed, climb_passes, row_of_those, those}
use Rattle.nf_laws.proofs.Rows.{AreKept, climb_kept, Kept}
use Rattle.nf_words.proofs.Ways.{inside_no_root}
use Rattle.nf_words.specs.Prelude.{LeadsToRoot}

-- ---- roots and the trash

-- the row of a root
pub root_there : (rows : List NodeRow) (top : ℕ) → is_root rows top ≡ true
    → (row : NodeRow) × (node_row rows top ≡ Some row) × (is_root_place row.place ≡ true)
root_there rows top is = holds_some (λ row. is_root_place row.place) (node_row rows top) is

-- no folder is above one
pub root_ends : (rows : List NodeRow) (top : ℕ) → is_root rows top ≡ true → parent_of rows top ≡ None
root_ends rows top is = here (parent_of rows top) refl
  where
    here : (o : Option ℕ) → parent_of rows top ≡ o → o ≡ None
    here None e = refl
    here (Some parent) e = absurd (false≢true (sym (inside_no_root rows top parent e) ∙ is))

-- it leads to itself
pub root_leads : (rows : List NodeRow) (top : ℕ) → is_root rows top ≡ true → LeadsToRoot rows top
root_leads rows top is = record { steps = 0; top = top; climbs = refl; root = is }

-- of two climbs that end where no folder is above, none is the longer; so what is present climbs to no top in the trash
pub never_trash : (k : ℕ) (rows : List NodeRow) (node top : ℕ) (row : NodeRow) → LeadsToRoot rows node → climb rows k node ≡ Some top
    → node_row rows top ≡ Some row → row.place ≡ Trash → ⊥
never_trash k rows node top row up is there place =
    let ends : parent_of rows top ≡ None = rw there (ap folder_of place) in
    let less = climbs_no_further up.steps k rows node up.top top (root_ends rows up.top up.root) up.climbs is in
    let more = climbs_no_further k up.steps rows node top up.top ends is up.climbs in
    let steps : up.steps ≡ k = omega (arith, less, more) in
    let same = same_Some top up.top (sym is ∙ ap (λ (n : ℕ). climb rows n node) (sym steps) ∙ up.climbs) in
    let root : is_root rows top ≡ true = ap (is_root rows) same ∙ up.root in
    false≢true (sym (ap is_root_place place) ∙ rw there at root)

-- what is in the trash and in no folder is under itself alone
pub trash_alone : (k : ℕ) (rows : List NodeRow) (node top : ℕ) (row : NodeRow) → node_row rows node ≡ Some row → row.place ≡ Trash
    → climb rows k node ≡ Some top → node ≡ top
trash_alone zero rows node top row there place is = same_Some node top is
trash_alone (suc k) rows node top row there place is =
    let ends : parent_of rows node ≡ None = rw there (ap folder_of place) in
    absurd (none-some top (sym (ap (option_and_then (climb rows k)) ends) ∙ is))

-- so it isn't under what is present
pub trash_outside : (k : ℕ) (rows : List NodeRow) (node top : ℕ) (row : NodeRow) → LeadsToRoot rows top → node_row rows node ≡ Some row
    → row.place ≡ Trash → climb rows k node ≢ Some top
trash_outside k rows node top row present there place is =
    never_trash 0 rows top node row present (ap Some (sym (trash_alone k rows node top row there place is))) there place

-- ---- what is under what is present

pub below_present : (k : ℕ) (rows : List NodeRow) (node mid : ℕ) → climb rows k node ≡ Some mid → LeadsToRoot rows mid → LeadsToRoot rows node
below_present k rows node mid is up = record {
  steps = k + up.steps;
  top = up.top;
  climbs = climb_on k up.steps rows node mid is ∙ up.climbs;
  root = up.root;
}

-- ---- where rows change

-- a root whose row keeps its place is one still
pub root_so : (rows others : List NodeRow) (top : ℕ) → is_root rows top ≡ true
    → ((row : NodeRow) → node_row rows top ≡ Some row → Kept others top row) → is_root others top ≡ true
root_so rows others top is kept =
    let old = root_there rows top is in
    let k = kept old.0 old.1 in
    rw k.there (ap is_root_place k.place ∙ old.2)

-- where each node keeps its place, with other contents and with more nodes
pub kept_leads : (rows others : List NodeRow) (node : ℕ) → AreKept rows others → LeadsToRoot rows node → LeadsToRoot others node
kept_leads rows others node kept up = record {
  steps = up.steps;
  top = up.top;
  climbs = climb_kept up.steps rows others node up.top kept up.climbs;
  root = root_so rows others up.top up.root (kept up.top);
}

-- without others, where the folder of each that is left is left
pub those_leads : (test : ℕ → Bool) (rows : List NodeRow) (node : ℕ) → IsClosed rows test → test node ≡ true → LeadsToRoot rows node
    → LeadsToRoot (those test rows) node
those_leads test rows node closed passes up = record {
  steps = up.steps;
  top = up.top;
  climbs = climb_those test rows closed up.steps node passes ∙ up.climbs;
  root =
      ap (λ (o : Option NodeRow). option_map_or (λ row. is_root_place row.place) o false)
      (row_of_those test rows up.top (climb_passes test rows closed up.steps node up.top up.climbs passes)) ∙ up.root;
}
