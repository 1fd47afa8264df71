-- The way of a node to a top, as a test and as a climb.
use Rattle.std.proofs.Common.{◌≡◌, ℕ, zero, suc, ◌≤◌, ◌==◌, ◌-◌, Bool, true, false, ◌&&◌, Option, None, Some, refl, sym, ap, ◌∙◌, arith}
use Rattle.std.specs.Prelude.{is_some}
use Rattle.std.specs.Option.{option_and_then, option_map_or}
use Rattle.std.proofs.lemmas.Bool.{and_from, and_parts, eq-eqb, eqb-true, false≢true}
use Rattle.std.proofs.lemmas.Option.{none-some, same_Some}
use Rattle.nf_base.specs.declared.limits.TheConstants.{MAX_DEPTH}
use Rattle.nf_base.specs.declared.rows.NodeRow.{NodeRow}
use Rattle.nf_base.specs.declared.rows.Place.{Place}
use Rattle.nf_base.specs.declared.rows.Place.TheVariants.{Root, Inside, Trash}
use Rattle.nf_defs.specs.Prelude.{climb, folder_of, is_folder_kind, item_row, node_row, parent_of, Tables}
use Rattle.nf_laws.proofs.Rows.{folder_there, found_is, none_over}
use Rattle.nf_words.proofs.Found.{found_passes}
use Rattle.nf_words.specs.Sound.{AreSound, IsNodeSound, IsPlaceSound, IsTop, root_of_user}
use Rattle.nf_rules.specs.Rules.{is_user, leads, leads_from, leads_within}

-- its folder is there, of the same owner, and leads on
pub record LeadsOn (t : Tables) (row : NodeRow) (folder : ℕ) (onward : NodeRow → Bool) : Type 0 where
  pub parent : NodeRow
  pub there : node_row t.nodes folder ≡ Some parent
  pub kind : is_folder_kind parent.kind ≡ true
  pub owner : parent.owner ≡ row.owner
  pub on : onward parent ≡ true

leads_on : (t : Tables) (row : NodeRow) (folder : ℕ) (onward : NodeRow → Bool)
    → leads_from t row (Inside folder) onward ≡ true → LeadsOn t row folder onward
leads_on t row folder onward is = here (node_row t.nodes folder) refl is
  where
    here : (o : Option NodeRow) → node_row t.nodes folder ≡ o
        → option_map_or (λ parent. is_folder_kind parent.kind && parent.owner == row.owner && onward parent) o false ≡ true
        → LeadsOn t row folder onward
    here None e is = absurd (false≢true is)
    here (Some parent) e is =
        let kind = and_parts (is_folder_kind parent.kind && parent.owner == row.owner) (onward parent) is in
        let owner = and_parts (is_folder_kind parent.kind) (parent.owner == row.owner) kind.0 in
        record { parent = parent; there = e; kind = owner.0; owner = eqb-true parent.owner row.owner owner.1; on = kind.1 }

-- where a node leads on, its place is sound
pub place_leads : (t : Tables) (row : NodeRow) (place : Place) (onward : NodeRow → Bool) → leads_from t row place onward ≡ true
    → IsPlaceSound t row place
place_leads t row Root onward is = eqb-true row.id (root_of_user t row.owner) is
place_leads t row (Inside folder) onward is =
    let on = leads_on t row folder onward is in (
      ap (λ (o : Option NodeRow). option_map_or (λ row. is_folder_kind row.kind) o false) on.there ∙ on.kind,
      ap (λ (o : Option NodeRow). option_map_or (λ row. row.owner) o 0) on.there ∙ on.owner,
    )
place_leads t row Trash onward is = and_parts (is_user t row.owner) (is_some (item_row t.items row.id)) is

-- ---- the climb

-- a climb of at most so many folders ends at a top
abbrev pub Climbs : Tables → NodeRow → ℕ → Type 0
Climbs t row most = (steps : ℕ) × (steps ≤ most) × (top : ℕ) × (climb t.nodes steps row.id ≡ Some top) × IsTop t.nodes top

-- a row that is found is found by its number
found_by : (t : Tables) (node : ℕ) (row : NodeRow) → node_row t.nodes node ≡ Some row → (row.id ≡ node) × (node_row t.nodes row.id ≡ Some row)
found_by t node row is =
    let id : row.id ≡ node = eqb-true row.id node (found_passes (λ (r : NodeRow). r.id == node) t.nodes row is) in
    (id, ap (node_row t.nodes) id ∙ is)

climbs_from : (t : Tables) (row : NodeRow) (most : ℕ) (onward : NodeRow → Bool) → node_row t.nodes row.id ≡ Some row
    → ((parent : NodeRow) → node_row t.nodes parent.id ≡ Some parent → onward parent ≡ true
    → (steps : ℕ) × (suc steps ≤ most) × (top : ℕ) × (climb t.nodes steps parent.id ≡ Some top) × IsTop t.nodes top)
    → (place : Place) → row.place ≡ place → leads_from t row place onward ≡ true → Climbs t row most
climbs_from t row most onward there further Root at is =
    (0, omega arith, row.id, refl, record { row = row; there = there; ends = ap folder_of at })
climbs_from t row most onward there further (Inside folder) at is =
    let on = leads_on t row folder onward is in
    let by = found_by t folder on.parent on.there in
    let more = further on.parent by.1 on.on in
    let above : parent_of t.nodes row.id ≡ Some folder = ap (option_and_then (λ row. folder_of row.place)) there ∙ ap folder_of at in (
      suc more.0,
      more.1,
      more.2,
      ap (option_and_then (climb t.nodes more.0)) above
          ∙ ap (climb t.nodes more.0) (sym by.0)
          ∙ more.3,
      more.4,
    )
climbs_from t row most onward there further Trash at is =
    (0, omega arith, row.id, refl, record { row = row; there = there; ends = ap folder_of at })

climbs_within : (most : ℕ) (t : Tables) (row : NodeRow) → node_row t.nodes row.id ≡ Some row → leads_within most t row ≡ true
    → Climbs t row most
unfolding leads_within
climbs_within zero t row there is =
    climbs_from t row 0 (λ parent. false) there (λ parent there is. absurd (false≢true is)) row.place refl is
climbs_within (suc k) t row there is =
    climbs_from t row (suc k) (leads_within k t) there
    (λ parent there is.
    let more = climbs_within k t parent there is in (more.0, omega (arith, more.1), more.2, more.3, more.4)) row.place refl is

pub climbs : (t : Tables) (row : NodeRow) → node_row t.nodes row.id ≡ Some row → leads t row ≡ true → Climbs t row MAX_DEPTH
unfolding leads
climbs t row there is = climbs_within MAX_DEPTH t row there is

pub place_of_leading : (t : Tables) (row : NodeRow) → leads t row ≡ true → IsPlaceSound t row row.place
unfolding leads leads_within
place_of_leading t row is = place_leads t row row.place (leads_within (MAX_DEPTH - 1) t) is

-- ---- the other way round

-- the climb goes through the folder that the node is in
climb_on : (t : Tables) (row : NodeRow) (folder steps top : ℕ) → IsTop t.nodes top → node_row t.nodes row.id ≡ Some row
    → row.place ≡ Inside folder → climb t.nodes steps row.id ≡ Some top
    → (less : ℕ) × (steps ≡ suc less) × (climb t.nodes less folder ≡ Some top)
climb_on t row folder zero top ends there at is =
    let above : parent_of t.nodes row.id ≡ Some folder = ap (option_and_then (λ row. folder_of row.place)) there ∙ ap folder_of at in
    let none : parent_of t.nodes row.id ≡ None = ap (parent_of t.nodes) (same_Some row.id top is) ∙ none_over t.nodes top ends in
    absurd (none-some folder (sym none ∙ above))
climb_on t row folder (suc less) top ends there at is =
    let above : parent_of t.nodes row.id ≡ Some folder = ap (option_and_then (λ row. folder_of row.place)) there ∙ ap folder_of at in
    (less, refl, sym (ap (option_and_then (climb t.nodes less)) above) ∙ is)

leads_from_place : (t : Tables) (row : NodeRow) (onward : NodeRow → Bool) (place : Place) → IsPlaceSound t row place
    → ((folder : ℕ) (parent : NodeRow) → place ≡ Inside folder → node_row t.nodes folder ≡ Some parent → parent.owner ≡ row.owner
    → onward parent ≡ true)
    → leads_from t row place onward ≡ true
leads_from_place t row onward Root sound further = eq-eqb row.id (root_of_user t row.owner) sound
leads_from_place t row onward (Inside folder) sound further =
    let parent = folder_there t.nodes folder sound.0 in
    let owner : parent.0.owner ≡ row.owner = sym (ap (λ (o : Option NodeRow). option_map_or (λ row. row.owner) o 0) parent.1) ∙ sound.1 in
    rw parent.1
    (and_from _ _ (and_from _ _ parent.2 (eq-eqb parent.0.owner row.owner owner)) (further folder parent.0 refl parent.1 owner))
leads_from_place t row onward Trash sound further = and_from (is_user t row.owner) (is_some (item_row t.items row.id)) sound.0 sound.1

leads_by : (most steps : ℕ) (t : Tables) (row : NodeRow) (top : ℕ) → AreSound t → IsNodeSound t row → node_row t.nodes row.id ≡ Some row
    → steps ≤ most → climb t.nodes steps row.id ≡ Some top → IsTop t.nodes top → leads_within most t row ≡ true
unfolding leads_within
leads_by zero steps t row top sound own there few is ends =
    leads_from_place t row (λ parent. false) row.place own.place (λ folder parent at found owner.
    let on = climb_on t row folder steps top ends there at is in absurd (omega (arith, on.1)))
leads_by (suc k) steps t row top sound own there few is ends =
    leads_from_place t row (leads_within k t) row.place own.place (λ folder parent at found owner.
    let on = climb_on t row folder steps top ends there at is in
    let by = found_by t folder parent found in
    let up : climb t.nodes on.0 parent.id ≡ Some top = ap (climb t.nodes on.0) by.0 ∙ on.2 in
    leads_by k on.0 t parent top sound (found_is (IsNodeSound t) (λ row. row.id == folder) t.nodes parent sound.nodes found).1 by.1
    (omega (arith, on.1)) up ends)

pub sound_leads : (t : Tables) (row : NodeRow) → AreSound t → IsNodeSound t row → node_row t.nodes row.id ≡ Some row → leads t row ≡ true
unfolding leads
sound_leads t row sound own there = leads_by MAX_DEPTH own.steps t row own.top sound own there own.shallow own.climbs own.ends
