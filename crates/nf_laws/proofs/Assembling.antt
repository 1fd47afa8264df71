-- Where a file comes or has another content: by the End of a PUT, and by what the chunks of an upload have together.
use Rattle.std.proofs.Common.{◌≡◌, ℕ, ◌+◌, ◌==◌, ◌<◌, ◌≤◌, true, false, List, [], ◌∷◌, ◌∙◌, length, map, Option, None, Some, if◌then◌else◌, refl, sym, ap, subst, arith, inl, inr}
use Rattle.std.specs.Prelude.{is_some}
use Rattle.std.specs.Option.{option_map_or}
use Rattle.std.proofs.lemmas.Bool.{both_ways, cases_Bool, eq-eqb, eqb-true, ne_eqb}
use Rattle.std.proofs.lemmas.List.Elements.{All-weaker}
use Rattle.nf_base.specs.declared.changes.Change.{Change}
use Rattle.nf_base.specs.declared.changes.Change.TheVariants.{Put}
use Rattle.nf_base.specs.declared.content.Piece.{Piece}
use Rattle.nf_base.specs.declared.perms.Act.TheVariants as act
use Rattle.nf_base.specs.declared.rows.NodeKind.TheVariants.{File}
use Rattle.nf_base.specs.declared.rows.NodeRow.{NodeRow}
use Rattle.nf_base.specs.declared.rows.Row.TheVariants as rows
use Rattle.nf_defs.specs.Prelude.{child_of, is_folder, node_key, node_row, owner_of, put, put_all, Tables}
use Rattle.nf_defs.specs.declared.Found.{Found}
use Rattle.nf_defs.specs.declared.Found.TheVariants.{At, Free, Missing}
use Rattle.nf_laws.proofs.Fitting.{added_fits, alone_fits, filled_fits, first_needed, Fits, need_of, OneOther, refilled_fits}
use Rattle.nf_laws.proofs.Following.{added_follow, kept_shares}
use Rattle.nf_laws.proofs.InTurn.{fit_sound}
use Rattle.nf_laws.proofs.Others.{stamp_sound}
use Rattle.nf_laws.proofs.Parts.{deed_stamped, step_turn}
use Rattle.nf_laws.proofs.Puts.{put_other}
use Rattle.nf_laws.proofs.Refilled.{added_made, filled_at, nodes_filled, refilled_made}
use Rattle.nf_laws.proofs.Remaining.{added_present}
use Rattle.nf_laws.proofs.Rows.{finds_none, stamp}
use Rattle.nf_laws.proofs.Turning.{added_fewer}
use Rattle.nf_laws.specs.Access.{IsNeeded}
use Rattle.nf_laws.specs.Acts.{IsAdded, IsPut}
use Rattle.nf_retention.specs.declared.versions.Version.{Version}
use Rattle.nf_words.proofs.Fits.{KnownChange, newest, put_found}
use Rattle.nf_words.proofs.Known.{KnownSettled}
use Rattle.nf_words.proofs.Starts.{IsAsking}
use Rattle.nf_words.proofs.Ways.{free_no_mount, slot_known}
use Rattle.nf_words.specs.Prelude.{access_of, AreSound, assembled_at, Call, charged, content_size, drop_version, found, last_name, Need, needed_by, needs_at, needs_in, new_file, new_node, node_found, refilled, replaced, root_of, unreached, unsettled, way_of}
use Rattle.nf_words.specs.declared.answer.By.{By}
use Rattle.nf_words.specs.declared.answer.Deed.{Deed}
use Rattle.nf_words.specs.declared.answer.Deed.TheVariants as deed
use Rattle.nf_words.specs.declared.answer.LockKey.{LockKey}
use Rattle.nf_words.specs.declared.answer.LockKey.TheVariants.{Node, Slot}
use Rattle.nf_words.specs.declared.request.Spot.{Spot}

-- ---- an End

pub put_fits : (t made : Tables) (now : ℕ) (by : By) (key : LockKey) (content : List Piece) (Other : Tables → Type 0) → AreSound t
    → IsPut t made now key content → Fits t now (needed_by by key) Other made
put_fits t made now by (Node node) content Other sound is =
    let need = need_of act.Update node by.mount in
    refilled_fits t made now node content (need ∷ []) Other sound is (first_needed need [])
put_fits t made now by (Slot folder name) content Other sound is =
    let need = need_of act.Create folder by.mount in
    added_fits t made now folder name File content (need ∷ []) Other sound is (first_needed need [])

-- ---- what chunks have together

-- the tables with changes at a moment
abbrev pub stored_tables : Tables → ℕ → List Change → Tables
stored_tables t now changes = stamp (replaced t changes) now

-- they are sound, where a step does that first
pub first_change : (t : Tables) (now : ℕ) (changes : List Change) (more : List Deed) → AreSound t → t.meta.last ≤ now
    → KnownSettled t now (deed.Store changes ∷ more) → KnownChange (stamp t now) now changes None
first_change t now changes more sound later known = (step_turn t now (deed.Store changes ∷ more) sound later known).0

pub stored_sound : (t : Tables) (now : ℕ) (changes : List Change) (more : List Deed) → AreSound t → t.meta.last ≤ now
    → KnownSettled t now (deed.Store changes ∷ more) → AreSound (stored_tables t now changes)
stored_sound t now changes more sound later known =
    subst AreSound (deed_stamped t now (deed.Store changes))
    (fit_sound (stamp t now) now (deed.Store changes) (stamp_sound t now sound later) refl (first_change t now changes more sound later known))

module _ (t : Tables) (now : ℕ) (content : List Piece) (needs : List Need) (Other : Tables → Type 0) (sound : AreSound t) where
  abbrev FitsAt : List Change → Type 0
  FitsAt changes = Fits t now needs Other (stored_tables t now changes)

  -- nothing but the moment
  pub dated_fits : FitsAt []
  dated_fits =
      alone_fits t (stamp t now) now needs Other sound (record {
        follow = λ node differs. absurd (differs refl);
        present = λ node up there. up;
        others = inl (kept_shares t.nodes t.nodes t.shares (λ node there. there), refl);
        rest = refl;
      })

  -- over a file
  pub over_fits : (node : ℕ) → IsNeeded needs act.Update node → FitsAt (option_map_or (refilled t now content) (node_row t.nodes node) [])
  over_fits node needed = here (node_row t.nodes node) refl
    where
      here : (o : Option NodeRow) → node_row t.nodes node ≡ o → FitsAt (option_map_or (refilled t now content) o [])
      here None there = dated_fits
      here (Some row) there =
          let changes = refilled t now content row in
          let meta = (stored_tables t now changes).meta in
          subst (Fits t now needs Other) (sym (ap (λ (u : Tables). record u { meta = meta }) (refilled_made t now content row)))
          (filled_fits t (nodes_filled t now content row) meta (put_all t changes).versions now node content needs Other sound
          (filled_at t now node content row sound there) needed)

  -- in a new file
  module _ (folder : ℕ) (name : List ℕ) (folds : is_folder t.nodes folder ≡ true) (free : child_of t.nodes folder name ≡ None)
      (needed : IsNeeded needs act.Create folder) where
    abbrev row : NodeRow
    row = new_node t now folder name File content

    abbrev gone : List Version
    gone = unsettled t (charged t (owner_of t.nodes folder) 0 (content_size content)) []

    abbrev changes : List Change
    changes = Put (rows.Node row) ∷ map drop_version gone

    -- the tables, as if the blobs of the content were new
    abbrev like : Tables
    like = record t {
      meta = record t.meta { next_node = t.meta.next_node + 1; next_blob = t.meta.next_blob + length content; last = now };
      nodes = put node_key row t.nodes;
      versions = (put_all t changes).versions;
    }

    added : IsAdded t like now folder name File content
    added = record {
      folds = folds;
      free = free;
      fresh = finds_none (λ old. old.id == row.id) t.nodes
          (All-weaker (λ (old : NodeRow). old.id < row.id) (λ (old : NodeRow). (old.id == row.id) ≡ false)
          (λ old less. ne_eqb old.id row.id (λ e. absurd (omega (arith, less, e)))) t.nodes (newest t sound));
      itself = put_found row t.nodes;
      others = λ node other. put_other row t.nodes node other;
      versions = added_fewer t row gone;
      rest = refl;
    }

    stay : (node : ℕ) → is_some (node_row t.nodes node) ≡ true → is_some (node_row like.nodes node) ≡ true
    stay node there =
        elim (cases_Bool (node == row.id)) [
          | inl same ↦ ap is_some (ap (node_row like.nodes) (eqb-true node row.id same) ∙ added.itself)
          | inr other ↦ ap is_some (added.others node (λ e. both_ways (node == row.id) other (eq-eqb node row.id e))) ∙ there
        ]

    pub file_fits : FitsAt (new_file t row)
    file_fits =
        let meta = (stored_tables t now changes).meta in
        subst (Fits t now needs Other) (sym (ap (λ (u : Tables). record u { meta = meta }) (added_made t row gone)))
        (alone_fits t (record like { meta = meta }) now needs Other sound (record {
          follow = added_follow t like now folder name File content needs added needed;
          present = added_present t like now folder name File content sound added;
          others = inl (kept_shares t.nodes like.nodes t.shares stay, refl);
          rest = refl;
        }))

-- of a caller who is reached there
pub assembled_fits : (call : Call) (sound : AreSound call.state.tables) (is : IsAsking call) (spot : Spot) (content : List Piece) (place : Found)
    → unreached (access_of call.state) call (way_of call spot) ≡ None → found call spot ≡ place
    → Fits call.state.tables call.now
    (if is_some (node_found (way_of call spot).place) then needs_at act.Update (way_of call spot)
    else needs_in call.state.tables.nodes (root_of call) (way_of call spot))
    (OneOther call) (stored_tables call.state.tables call.now (assembled_at call.state.tables call.now (last_name spot) content place))
assembled_fits call sound is spot content (At node) reached leads =
    let t = call.state.tables in
    let way = way_of call spot in
    let need = need_of act.Update node way.mount in
    let made = stored_tables t call.now (assembled_at t call.now (last_name spot) content (At node)) in
    let asked : (if is_some (node_found way.place) then needs_at act.Update way else needs_in t.nodes (root_of call) way) ≡ need ∷ [] = rw leads refl in
    subst (λ (needs : List Need). Fits t call.now needs (OneOther call) made) (sym asked)
    (over_fits t call.now content (need ∷ []) (OneOther call) sound node (first_needed need []))
assembled_fits call sound is spot content (Free folder) reached leads =
    let t = call.state.tables in
    let name = last_name spot in
    let way = way_of call spot in
    let need = need_of act.Create folder way.mount in
    let made = stored_tables t call.now (assembled_at t call.now name content (Free folder)) in
    let slot = slot_known call spot sound is folder reached leads in
    let asked : (if is_some (node_found way.place) then needs_at act.Update way else needs_in t.nodes (root_of call) way) ≡ need ∷ [] =
    rw (free_no_mount call spot sound is folder leads, leads) refl in
    subst (λ (needs : List Need). Fits t call.now needs (OneOther call) made) (sym asked)
    (file_fits t call.now content (need ∷ []) (OneOther call) sound folder name slot.folds slot.free (first_needed need []))
assembled_fits call sound is spot content (Missing depth) reached leads =
    let way = way_of call spot in
    dated_fits call.state.tables call.now content
    (if is_some (node_found way.place) then needs_at act.Update way else needs_in call.state.tables.nodes (root_of call) way) (OneOther call) sound
