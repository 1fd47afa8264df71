-- What is known of what is asked about versions.
use Rattle.std.proofs.Common.{◌≡◌, ℕ, zero, suc, ◌==◌, ◌||◌, ◌&&◌, ⊎_elim, inl, inr, Bool, true, false, List, [], ◌∙◌, length, Option, if◌then◌else◌, refl, sym, ap, subst, arith}
use Rattle.std.specs.Prelude.{None, Some, is_some}
use Rattle.std.specs.Option.{option_and_then, option_map_or}
use Rattle.std.proofs.lemmas.Bool.{and_parts, eqb-true, or_cases}
use Rattle.nf_base.specs.declared.limits.TheConstants.{MAX_DEPTH}
use Rattle.nf_base.specs.declared.rows.NodeRow.{NodeRow}
use Rattle.nf_base.specs.declared.rows.VersionRow.{VersionRow}
use Rattle.nf_defs.proofs.Climbs.{holds_some}
use Rattle.nf_defs.specs.Prelude.{is_folder, is_folder_kind, is_root, is_rooted, is_rooted_within, node_row, parent_of, Tables}
use Rattle.nf_words.proofs.Asks.{nothing_known}
use Rattle.nf_words.proofs.Fits.{KnownChange, within}
use Rattle.nf_words.proofs.Found.{found_passes}
use Rattle.nf_words.proofs.Known.{Known}
use Rattle.nf_words.proofs.Passing.{if_none}
use Rattle.nf_words.proofs.Refilling.{added_one, refills_known}
use Rattle.nf_words.proofs.Ways.{inside_present, present_row}
use Rattle.nf_words.specs.Prelude.{AreSound, asked_of_version, back_limit, brought_back, Call, is_owner, lacks_version, LeadsToRoot, limited, mount_above, node_asked, nothing_done, refills, seeker_of, asker_of, unversioned, version_done, version_lost, version_row, versions_added}
use Rattle.nf_words.specs.declared.answer.Allowed.TheVariants as allowed
use Rattle.nf_words.specs.declared.answer.Denial.TheVariants as denial
use Rattle.nf_words.specs.declared.request.Places.{Places}
use Rattle.nf_words.specs.declared.request.VersionAsk.{VersionAsk}
use Rattle.nf_words.specs.declared.request.VersionAsk.TheVariants as version
use Rattle.nf_words.specs.declared.request.Wanted.TheVariants as wanted

-- a root climbs to itself
root_leads : (rows : List NodeRow) (node : ℕ) → is_root rows node ≡ true → LeadsToRoot rows node
root_leads rows node is = record { steps = 0; top = node; climbs = refl; root = is }

-- what leads to a root is present
pub rooted_climbs : (m : ℕ) (rows : List NodeRow) (node : ℕ) → is_rooted_within m rows node ≡ true → LeadsToRoot rows node
unfolding is_rooted_within
rooted_climbs zero rows node is = root_leads rows node is
rooted_climbs (suc m) rows node is =
    ⊎_elim (λ e. root_leads rows node e)
    (λ up.
    let parent = holds_some (is_rooted_within m rows) (parent_of rows node) up in
    inside_present rows node parent.0 parent.1 (rooted_climbs m rows parent.0 parent.2))
    (or_cases (is_root rows node) _ is)

pub rooted_leads : (rows : List NodeRow) (node : ℕ) → is_rooted rows node ≡ true → LeadsToRoot rows node
unfolding is_rooted
rooted_leads rows node is = rooted_climbs MAX_DEPTH rows node is

module _ (call : Call) (sound : AreSound call.state.tables) where
  abbrev t : Tables
  t = call.state.tables

  -- what is named is present
  pub named_present : (ask : VersionAsk) → unversioned call ask ≡ None → LeadsToRoot t.nodes (node_asked ask)
  named_present ask none =
      rooted_leads t.nodes (node_asked ask)
      (and_parts (is_rooted t.nodes (node_asked ask))
      (is_owner t.nodes (seeker_of call) (node_asked ask) || is_some (mount_above t.nodes t.mounts (asker_of call) (node_asked ask)))
      (if_none _ denial.NotFound none)).0

  -- and no folder
  pub no_folder : (ask : VersionAsk) → version_lost call (wanted.Version ask) ≡ None → is_folder t.nodes (node_asked ask) ≡ false
  no_folder ask none = here (is_folder t.nodes (node_asked ask)) (lacks_version t.versions ask) none
    where
      here : (b c : Bool) → (if b then Some denial.Kind else if c then Some denial.NotFound else None) ≡ None → b ≡ false
      here false c none = refl
      here true c none = absurd (cc)

  file_kind : (node : ℕ) (row : NodeRow) → node_row t.nodes node ≡ Some row → is_folder t.nodes node ≡ false → is_folder_kind row.kind ≡ false
  file_kind node row there folds =
      sym (ap (λ (o : Option NodeRow). option_map_or (λ one. is_folder_kind one.kind) o false) there) ∙ folds

  -- a version that is sent is one of a file that is present
  sent_known : (node at : ℕ) (o : Option VersionRow) → version_row t.versions node at ≡ o → LeadsToRoot t.nodes node → is_folder t.nodes node ≡ false
      → Known t call.now (option_map_or (λ (row : VersionRow). allowed.Get node row.content) o nothing_done)
  sent_known node at None e leads folds = nothing_known t call.now
  sent_known node at (Some row) e leads folds =
      record { no_folder = folds; of_node = inr (row, at, e, refl); there = present_row t.nodes node leads; present = leads }

  -- one that comes back is its file's content
  back_known : (node at : ℕ) (o : Option VersionRow) → version_row t.versions node at ≡ o → LeadsToRoot t.nodes node → is_folder t.nodes node ≡ false
      → option_and_then (back_limit t node) o ≡ None → Known t call.now (option_map_or (brought_back t call.now node) o nothing_done)
  back_known node at None e leads folds few = nothing_known t call.now
  back_known node at (Some one) e leads folds few = here (node_row t.nodes node) refl
    where
      same : one.at ≡ at
      same =
          eqb-true one.at at
          (and_parts (one.node == node) (one.at == at)
          (found_passes (λ (row : VersionRow). row.node == node && row.at == at) t.versions one e)).1

      found : version_row t.versions node one.at ≡ Some one
      found = ap (version_row t.versions node) same ∙ e

      here : (o : Option NodeRow) → node_row t.nodes node ≡ o
          → KnownChange t call.now (option_map_or (refills t call.now (Some one.at) one.content) o []) None
      here None there = nothing_known t call.now
      here (Some row) there =
          let id : row.id ≡ node = eqb-true row.id node (found_passes (λ (row : NodeRow). row.id == node) t.nodes row there) in
          let its : version_row t.versions row.id one.at ≡ Some one = ap (λ (n : ℕ). version_row t.versions n one.at) id ∙ found in
          let fits = within t 0 0 (versions_added t node (Some one.at)) (length one.content) 0 few in
          refills_known t call.now (Some one.at) one.content row sound (ap (node_row t.nodes) id ∙ there) (file_kind node row there folds)
          (subst (LeadsToRoot t.nodes) (sym id) leads) (ap is_some its) None fits.pieces
          (λ becomes. omega (arith, fits.versions, added_one t node (Some one.at) row there becomes))
          (omega arith) (inr (refl, inl (one, one.at, its, refl))) (λ is. refl)

  pub versions_known : (places : Places) (ask : VersionAsk) → unversioned call ask ≡ None → version_lost call (wanted.Version ask) ≡ None
      → limited t places (asked_of_version ask).makes ≡ None
      → Known t call.now (version_done t call.now ask)
  versions_known places (version.List user node) named lost few = nothing_known t call.now
  versions_known places (version.Get user node at) named lost few =
      sent_known node at (version_row t.versions node at) refl (named_present (version.Get user node at) named) (no_folder (version.Get user node at) lost)
  versions_known places (version.Restore user node at) named lost few =
      back_known node at (version_row t.versions node at) refl (named_present (version.Restore user node at) named)
      (no_folder (version.Restore user node at) lost) few
