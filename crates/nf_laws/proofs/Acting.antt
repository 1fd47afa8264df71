-- What a DELETE, a MKCOL and a PUT change, a MOVE of a mount, and what is asked about the trash.
use Rattle.std.proofs.Common.{find, max, ℕ, ◌+◌, ◌≤◌, zero, suc, ◌-◌, option_map, ◌==◌, ◌≡◌, ◌<◌, Bool, true, false, not, List, [], ◌∷◌, ◌++◌, Option, None, Some, Result, Ok, if◌then◌else◌, length, get_or, map, slice_get, unwrap_or, inl, inr, refl, sym, ap, subst, ◌∙◌, arith, length-append, flat_map}
use Rattle.std.specs.Prelude.{is_some, IsOk}
use Rattle.std.specs.List.{All, Contains, flat_map}
use Rattle.nf_defs.proofs.ByName.{Contains-filter}
use Rattle.nf_defs.proofs.Walks.{Contains-from_flat}
use Rattle.std.specs.Option.{IfSome, option_map_or}
use Rattle.std.proofs.Math.Seq.{get_or-append_seam}
use Rattle.std.proofs.lemmas.Bool.{cases_Bool, eqb-true, ne_eqb, not-true}
use Rattle.std.proofs.lemmas.List.Elements.{All-append, All-cons, All-contains, All-contains_itself, All-weaker, Contains-append_left, Contains-append_right}
use Rattle.std.proofs.lemmas.Option.{unwrap_or-slice_get}
use Rattle.nf_access.specs.Mounts.{mount_row}
use Rattle.nf_base.specs.declared.changes.Change.{Change}
use Rattle.nf_base.specs.declared.changes.Change.TheVariants.{Put}
use Rattle.nf_base.specs.declared.content.Piece.{Piece}
use Rattle.nf_base.specs.declared.rows.ItemRow.{ItemRow}
use Rattle.nf_base.specs.declared.rows.MountRow.{MountRow}
use Rattle.nf_base.specs.declared.rows.NodeKind.{NodeKind}
use Rattle.nf_base.specs.declared.rows.NodeKind.TheVariants.{File, Folder}
use Rattle.nf_base.specs.declared.rows.NodeRow.{NodeRow}
use Rattle.nf_base.specs.declared.rows.Row.TheVariants as rows
use Rattle.nf_base.specs.declared.rows.UserRow.{UserRow}
use Rattle.nf_defs.proofs.Climbs.{holds_some}
use Rattle.nf_defs.specs.Prelude.{child_of, filled, found_from, is_folder, is_folder_kind, item_row, mount_key, node_key, node_row, put, Tables, put_all, made, owner_of}
use Rattle.nf_defs.specs.declared.Found.{Found}
use Rattle.nf_defs.specs.declared.Found.TheVariants.{At, Free, Missing}
use Rattle.nf_defs.specs.declared.Seeker.{Seeker}
use Rattle.nf_defs.specs.declared.Seeker.TheVariants.{Link, User}
use Rattle.nf_laws.proofs.Acted.{NoNode}
use Rattle.nf_laws.proofs.Carried.{Kind, leaving_kind, under_alone}
use Rattle.nf_laws.proofs.Departed.{have_left, kind_changed, others_after, rest_after, unstamped}
use Rattle.nf_laws.proofs.Discarding.{beside_own, emptied_own}
use Rattle.nf_laws.proofs.Each.{forgets_none, NoStore, purges_none}
use Rattle.nf_laws.proofs.Entries.{step_changed}
use Rattle.nf_laws.proofs.Going.{item_is}
use Rattle.nf_laws.proofs.Puts.{put_other}
use Rattle.nf_laws.proofs.Paths.{found_free, found_leads}
use Rattle.nf_laws.proofs.Reading.{none_refused}
use Rattle.nf_laws.proofs.Restoring.{node_among, own_named, restored_rows, taken_rows}
use Rattle.nf_laws.proofs.Parts.{leaving_stamped}
use Rattle.nf_laws.proofs.Rows.{finds_none, found_is, row_id, row_is, stamp}
use Rattle.nf_laws.proofs.Others.{stamp_sound}
use Rattle.nf_laws.specs.Access.{LeadsBy}
use Rattle.nf_laws.specs.Acts.{AreSwept, AreTaken, DeletesKeep, DropsKeep, EmptyingKeeps, FoldersAreMade, IsAdded, IsDeleted, IsFolderMade, IsItemOf, IsMountChanged, IsPut, IsRefilled, IsRestored, ItemsComeBack, LeadsToKeyBy, MountsAreLeft, MountsAreRenamed, PutsAreGranted, PutsKeep, SweepsTake, AreVersionsLeft, IsOldVersion}
use Rattle.nf_laws.specs.Reads.{LeadsToKey}
use Rattle.nf_laws.specs.Walks.{LeadsToFree}
use Rattle.nf_words.proofs.Begins.{delete_leaves, only_at, places_at, wanted_passes, WantedPasses}
use Rattle.nf_words.proofs.Ends.{known_change, goal_held}
use Rattle.nf_words.proofs.Fits.{newest, put_found, KnownChange}
use Rattle.nf_words.proofs.Found.{free_known, last_more, last_of}
use Rattle.nf_words.proofs.Known.{Known, KnownLeaving}
use Rattle.nf_words.proofs.Mounting.{IsOwnMount, mount_found, mount_left_so, not_mount, own_known}
use Rattle.nf_words.proofs.Passing.{call_passes, exists_passes, Passes, place_passes, PlacePasses}
use Rattle.nf_words.proofs.Starts.{has_asker, itself_asker, row_of_caller}
use Rattle.nf_words.proofs.Sweeping.{gone_owned, swept_goes}
use Rattle.nf_words.proofs.Trashing.{back_known, dropped_goes, emptied_goes}
use Rattle.nf_words.proofs.Ways.{way_there}
use Rattle.nf_words.specs.Prelude.{access_of, allowed_of, answered_by, AreSound, asked_of, asker_of, behind, beside, blob_after, blob_for, by_of, Call, call_decision, call_of, changed, content_in, decision_of, deleted, discard, deeds_done, done, end_refusal, ends_at, found, given, gone_beside, gone_from, home_of, IsHeld, IsStorable, item_dropped, item_restored, items_of, last_name, left_row, made_folder, makes, MayAsk, MayEnd, mount_left, mount_of, mount_renamed, moved, name_back, named_row, named_rule, new_node, node_at, nothing_done, own_mount, owners_of, purges, refilled, refusal_of, root_of, seeker_of, row_at, source_lost, stored, stored_at, stores, swept, taken, target_lost, transfer_of, unnamed_by, untrashed, user_of, way_by, way_of, with_mount_row, charged, content_size, drop_version, gone_after, is_same, raised, refills, turns_over, unsettled, forgets, item_size, purged_by, restoring}
use Rattle.nf_words.specs.declared.answer.Allowed.{Allowed}
use Rattle.nf_words.specs.declared.answer.Allowed.TheVariants as allowed
use Rattle.nf_words.specs.declared.answer.Deed.{Deed}
use Rattle.nf_words.specs.declared.answer.Deed.TheVariants as deed
use Rattle.nf_words.specs.declared.answer.Denial.{Denial}
use Rattle.nf_words.specs.declared.answer.Goal.{Goal}
use Rattle.nf_words.specs.declared.answer.LockKey.{LockKey}
use Rattle.nf_words.specs.declared.answer.LockKey.TheVariants.{Node, Slot}
use Rattle.nf_words.specs.declared.answer.Report.{Report}
use Rattle.nf_words.specs.declared.answer.Report.TheVariants.{Done, Made}
use Rattle.nf_words.specs.declared.history.Event.TheVariants.{Begin, End, Sweep}
use Rattle.nf_words.specs.declared.history.Outcome.TheVariants.{Body}
use Rattle.nf_words.specs.declared.request.Making.TheVariants as making
use Rattle.nf_words.specs.declared.request.Spot.{Spot}
use Rattle.nf_words.specs.declared.request.TrashAsk.{TrashAsk}
use Rattle.nf_words.specs.declared.request.TrashAsk.TheVariants as trash
use Rattle.nf_words.specs.declared.request.Wanted.{Wanted}
use Rattle.nf_words.specs.declared.request.Wanted.TheVariants as wanted
use Rattle.nf_laws.proofs.Refilled.{added_made, drops_only, IsOfVersions, turned_only, versions_count, versions_only, filled_same}
use Rattle.nf_laws.proofs.Turning.{added_fewer, altered_old, discard_keeps, KeepsVersions, purges_keep, versions_left, deeds_fewer}
use Rattle.nf_laws.proofs.InTurn.{deeds_append}
use Rattle.nf_retention.specs.declared.versions.Version.{Version}
use Rattle.nf_base.specs.declared.rows.MetaRow.{MetaRow}
use Rattle.nf_laws.proofs.Abandoned.{swept_rows}
use Rattle.nf_laws.proofs.Behind.{behind_changed, restored_behind}

-- ---- a call that isn't refused

-- may do what is given, and passes the rules
pub accepted : (call : Call) → IsOk (answered_by (call_decision call))
    → (call_decision call ≡ Ok (allowed_of (access_of call.state) call)) × Passes (access_of call.state) call
accepted call ok =
    let access = access_of call.state in
    let is = none_refused (refusal_of access call) (allowed_of access call) ok in (is, (call_passes call (allowed_of access call) is).0)

-- what it may do is what is given for what it wants
pub given_for : (call : Call) (wanted : Wanted) → call.request.wanted ≡ wanted
    → allowed_of (access_of call.state) call ≡ given (access_of call.state) call (places_at call wanted) wanted
given_for call wanted asked = ap (λ (w : Wanted). given (access_of call.state) call (places_at call w) w) asked

-- and what it passes of the places is what is asked of them
pub placed : (call : Call) (wanted : Wanted) → call.request.wanted ≡ wanted → Passes (access_of call.state) call
    → PlacePasses (access_of call.state) call (asked_of wanted)
placed call wanted asked passes =
    subst (λ (w : Wanted). PlacePasses (access_of call.state) call (asked_of w)) asked (place_passes (access_of call.state) call passes.place)

-- what is asked for is there, where no rule refuses the place
pub there_at : (place : Found) → source_lost place ≡ None → (node : ℕ) × (place ≡ At node)
there_at (At node) none = (node, refl)
there_at (Free folder) none = absurd (cc)
there_at (Missing depth) none = absurd (cc)

-- ---- where a path leads

module _ (call : Call) (spot : Spot) (sound : AreSound call.state.tables) where
  abbrev t : Tables
  t = call.state.tables

  abbrev lead : Option ℕ → Found
  lead mount = (way_by t.nodes (seeker_of call) (root_of call) spot.path mount).place

  pub leads_by : (node : ℕ) → found call spot ≡ At node → LeadsBy call spot (mount_of call spot) node
  leads_by node is = here (mount_of call spot) is
    where
      here : (mount : Option ℕ) → lead mount ≡ At node → LeadsBy call spot mount node
      here None is = found_leads t (root_of call) spot.path node sound is
      here (Some mount) is = found_leads t mount (behind (seeker_of call) spot.path) node sound is

  -- the name at the end of a path
  last_is : (front : List (List ℕ)) (last : List ℕ) (path : List (List ℕ)) → path ≡ front ++ last ∷ [] → last_of path ≡ last
  last_is front last path parts =
      let counted : length (front ++ last ∷ []) - 1 ≡ length front = omega (arith, length-append front (last ∷ [])) in
      ap (λ (path : List (List ℕ)). unwrap_or (slice_get path (length path - 1)) []) parts
      ∙ unwrap_or-slice_get (front ++ last ∷ []) (length (front ++ last ∷ []) - 1) []
      ∙ ap (λ (k : ℕ). get_or (front ++ last ∷ []) k []) counted
      ∙ get_or-append_seam front last [] []

  free_key : (from folder : ℕ) (path : List (List ℕ)) → last_of path ≡ last_name spot → LeadsToFree t.nodes from path folder
      → LeadsToKey t.nodes from path (Slot folder (last_name spot))
  free_key from folder path named free =
      let last = last_is free.front free.last path free.parts in
      (free.front, free.parts ∙ ap (λ (name : List ℕ). free.front ++ name ∷ []) (sym last ∙ named), free.led)

  -- behind a first name the last is the same, where there are more
  rest_of : (who : Seeker) (path : List (List ℕ)) (mount folder : ℕ) → found_from t.nodes 0 mount (behind who path) ≡ Free folder
      → last_of (behind who path) ≡ last_of path
  rest_of (Link share) path mount folder leads = refl
  rest_of (User user) [] mount folder leads = refl
  rest_of (User user) (first ∷ []) mount folder leads = absurd (cc)
  rest_of (User user) (first ∷ second ∷ rest) mount folder leads = sym (last_more first second rest)

  pub frees_by : (folder : ℕ) → found call spot ≡ Free folder
      → LeadsToKeyBy call spot (mount_of call spot) (Slot folder (last_name spot)) × (is_folder t.nodes folder ≡ true)
      × (child_of t.nodes folder (last_name spot) ≡ None)
  frees_by folder is = here (mount_of call spot) is
    where
      here : (mount : Option ℕ) → lead mount ≡ Free folder
          → LeadsToKeyBy call spot mount (Slot folder (last_name spot)) × (is_folder t.nodes folder ≡ true) × (child_of t.nodes folder (last_name spot) ≡ None)
      here None is =
          let known = free_known t.nodes 0 (root_of call) spot.path folder is in
          (free_key (root_of call) folder spot.path refl (found_free t (root_of call) spot.path folder sound is), known.0, known.1)
      here (Some mount) is =
          let known = free_known t.nodes 0 mount (behind (seeker_of call) spot.path) folder is in
          let named = rest_of (seeker_of call) spot.path mount folder is in (
            free_key mount folder (behind (seeker_of call) spot.path) named (found_free t mount (behind (seeker_of call) spot.path) folder sound is),
            known.0,
            ap (child_of t.nodes folder) (sym named) ∙ known.1,
          )

  -- the mount that a way goes by is that of its path
  way_mount : (way_of call spot).mount ≡ mount_of call spot
  way_mount = here (mount_of call spot)
    where
      here : (mount : Option ℕ) → (way_by t.nodes (seeker_of call) (root_of call) spot.path mount).mount ≡ mount
      here None = refl
      here (Some mount) = refl

-- who asks for a mount itself is the user of the call
asks_is : (call : Call) (spot : Spot) → Passes (access_of call.state) call → (way_of call spot).itself ≡ true → user_of call ≡ Some (asker_of call)
asks_is call spot passes itself =
    let asker = has_asker call passes.token (place_passes (access_of call.state) call passes.place).linked in
    let row = itself_asker call spot asker itself in
    (row_of_caller call.state.tables.users (user_of call) row.0 row.1).0
    ∙ ap Some (sym (ap (λ (o : Option UserRow). option_map_or (λ row. row.id) o 0) row.1))

-- ---- DELETE

-- a node leaves its place, and what goes beside it
deleted_rows : (call : Call) (spot : Spot) (row : NodeRow) → AreSound call.state.tables → call.state.tables.meta.last ≤ call.now
    → KnownLeaving call.state.tables row → LeadsBy call spot (mount_of call spot) row.id
    → IsDeleted call spot (changed call.state.tables call.now (done (discard call.state.tables call.now row ∷ beside call.state.tables call.now row) Done))
deleted_rows call spot row sound later known led =
    subst (λ (made : Tables). IsDeleted call spot made) (sym (kind_changed t call.now deeds _ _ _ _ Done sound later kind)) (record {
      top = row.id;
      led = led;
      tops = kind.gone;
      left = unstamped t made call.now call.now (row.id ∷ []) kind.gone (have_left all call.now deeds _ _ _ _ fine kind);
      others = λ node off other.
          others_after all call.now deeds _ _ _ _ fine kind node (λ none. none) (λ one. off (under_alone t.nodes row.id node one)) other;
      versions = subst (AreVersionsLeft all) (ap (deeds_done all) kind.are ∙ deeds_append all (kind.one ∷ kind.more) (purges kind.gone))
          (versions_left all deeds fine
          (All-cons KeepsVersions (discard t call.now row) (beside t call.now row) (discard_keeps t call.now row) (purges_keep _)));
      rest = rest_after all call.now deeds _ _ _ _ fine kind;
    })
  where
    t : Tables
    t = call.state.tables

    all : Tables
    all = stamp t call.now

    fine : AreSound all
    fine = stamp_sound t call.now sound later

    deeds : List Deed
    deeds = discard t call.now row ∷ beside t call.now row

    kind : Kind all call.now deeds (row.id ∷ []) NoNode (λ u. Unit {0}) all.meta
    kind = leaving_kind all call.now fine refl row (leaving_stamped t call.now row known)

    made : Tables
    made = deeds_done (deeds_done all (kind.one ∷ kind.more)) (purges kind.gone)

pub deletes_keep : DeletesKeep
deletes_keep s seat now words request spot sound seen may asked other ok =
    let call = call_of s seat now words request in
    let t = s.tables in
    let is = accepted call ok in
    let places = placed call (wanted.Delete spot) asked is.1 in
    let at = there_at (found call spot) places.there in
    let asker = has_asker call is.1.token places.linked in
    let row = way_there call spot sound.rows asker at.0 (places.source other) at.1 in
    let gives : allowed_of (access_of s) call ≡ done (discard t now row.0 ∷ beside t now row.0) Done =
    given_for call (wanted.Delete spot) asked
    ∙ ap (λ (b : Bool). if b then mount_left call (way_of call spot) else deleted t now (node_at (only_at b (found call spot)).source)) other
    ∙ ap (λ (place : Found). deleted t now (node_at (Some place))) at.1
    ∙ ap (λ (o : Option NodeRow). done (option_map_or (λ row. discard t now row ∷ []) o [] ++ option_map_or (beside t now) o []) Done) row.1 in
    let p = subst (WantedPasses call) asked (wanted_passes call may.1 is.1) in
    let known =
    delete_leaves call sound.rows asker spot (way_of call spot).itself p.place.source p.fits row.0
    (ap (λ (b : Bool). row_at t (node_at (only_at b (found call spot)).source)) other ∙ ap (λ (place : Found). row_at t (node_at (Some place))) at.1 ∙ row.1) in
    let decides : decision_of s seat now (Begin words request) ≡ Ok (done (discard t now row.0 ∷ beside t now row.0) Done) =
    is.0 ∙ ap (λ (a : Allowed). Ok a) gives in
    subst (λ (made : Tables). IsDeleted call spot made)
    (sym (step_changed s seat now (Begin words request) (done (discard t now row.0 ∷ beside t now row.0) Done) decides))
    (deleted_rows call spot row.0 sound.rows (omega (arith, sound.seen, seen)) known
    (subst (LeadsBy call spot (mount_of call spot)) (sym (row_id t.nodes at.0 row.0 row.1)) (leads_by call spot sound.rows at.0 at.1)))

-- ---- what is asked about the trash

-- no item that isn't there is asked for
item_named : (call : Call) (asked : TrashAsk) → call.request.wanted ≡ wanted.Trash asked → Passes (access_of call.state) call
    → untrashed call asked ≡ None
unfolding named_rule
item_named call asked is passes = subst (λ (w : Wanted). unnamed_by call w ≡ None) is passes.named

pub drops_keep : DropsKeep
drops_keep s seat now words request user item sound may asked ok =
    let call = call_of s seat now words request in
    let t = s.tables in
    let is = accepted call ok in
    let own = own_named call item (item_named call (trash.Drop user item) asked is.1) in
    let tops = own.0.node ∷ gone_beside t now own.0 in
    let act = item_dropped t now own.0 in
    let gives : allowed_of (access_of s) call ≡ act =
    given_for call (wanted.Trash (trash.Drop user item)) asked ∙ ap (λ (o : Option ItemRow). option_map_or (item_dropped t now) o nothing_done) own.1 in
    let decides : decision_of s seat now (Begin words request) ≡ Ok act = is.0 ∙ ap (λ (a : Allowed). Ok a) gives in
    let id = (item_is t item sound.rows own.0 own.2).0 in
    let theirs : All (IsItemOf t (asker_of call)) tops =
    All-cons (IsItemOf t (asker_of call)) own.0.node (gone_beside t now own.0) (own.0, ap (item_row t.items) id ∙ own.2, own.3)
    (subst (λ (user : ℕ). All (IsItemOf t user) (gone_beside t now own.0)) own.3 (beside_own t now own.0 sound.rows)) in (
      tops,
      (0, omega arith, id),
      (
        theirs,
        subst (λ (made : Tables). AreTaken t made tops) (sym (step_changed s seat now (Begin words request) act decides))
            (taken_rows t now tops Done sound.rows (dropped_goes t sound.rows now own.0 (ap is_some (theirs 0 0 (omega arith)).1))),
      ),
    )

pub emptying_keeps : EmptyingKeeps
emptying_keeps s seat now words request user sound may asked ok =
    let call = call_of s seat now words request in
    let t = s.tables in
    let is = accepted call ok in
    let tops = map (λ (item : ItemRow). item.node) (items_of t (asker_of call)) in
    let act = done (purges tops) Done in
    let decides : decision_of s seat now (Begin words request) ≡ Ok act =
    is.0 ∙ ap (λ (a : Allowed). Ok a) (given_for call (wanted.Trash (trash.Empty user)) asked) in (
      tops,
      λ item among own. node_among (asker_of call) t.items item among own,
      (
        emptied_own t (asker_of call) sound.rows,
        subst (λ (made : Tables). AreTaken t made tops) (sym (step_changed s seat now (Begin words request) act decides))
            (taken_rows t now tops Done sound.rows (emptied_goes t sound.rows (asker_of call))),
      ),
    )

pub items_come_back : ItemsComeBack
items_come_back s seat now words request user node sound may asked ok =
    let call = call_of s seat now words request in
    let t = s.tables in
    let is = accepted call ok in
    let own = own_named call node (item_named call (trash.Restore user node) asked is.1) in
    let item = own.0 in
    let gone = gone_beside t now item in
    let act = item_restored t now item in
    let gives : allowed_of (access_of s) call ≡ act =
    given_for call (wanted.Trash (trash.Restore user node)) asked ∙ ap (λ (o : Option ItemRow). option_map_or (item_restored t now) o nothing_done) own.1 in
    let decides : decision_of s seat now (Begin words request) ≡ Ok act = is.0 ∙ ap (λ (a : Allowed). Ok a) gives in
    let p = subst (WantedPasses call) asked (wanted_passes call may.1 is.1) in
    let back = back_known t sound.rows now (asker_of call) node item own.1 p.few in
    let id = (item_is t node sound.rows item own.2).0 in
    let first = restoring t now item in
    let versions = unsettled t (charged t item.owner 0 (item_size t item)) (flat_map purged_by first) in
    subst (λ (made : Tables). IsRestored call node made) (sym (step_changed s seat now (Begin words request) act decides))
    (subst (λ (n : ℕ). IsRestored call n (changed t now act)) id
    (subst (IsRestored call item.node) (sym (behind_changed t now first versions Made (omega arith)))
    (restored_behind call item.node (changed t now (done first Made)) (deeds_done t (first ++ forgets versions)).versions
    (restored_rows call item gone sound.rows (ap (item_row t.items) id ∙ own.2) back.restore own.3
    (subst (λ (user : ℕ). All (IsItemOf t user) gone) own.3 (beside_own t now item sound.rows))
    back.others back.goes.once)
    (deeds_fewer t (first ++ forgets versions)
    (All-append NoStore first (forgets versions)
    (All-cons NoStore (deed.Restore item.node (home_of t item) (name_back t item)) (purges gone) tt (purges_none gone)) (forgets_none versions))))))

-- ---- a sweep

-- what is found is among them
found_among : (test : ItemRow → Bool) (items : List ItemRow) (item : ItemRow) → find test items ≡ Some item → Contains items item
found_among test items item is = (found_is (Contains items) test items item (All-contains_itself items) is).1

-- whose item it is is among the owners of items
owner_among : (items : List ItemRow) (item : ItemRow) → Contains items item → Contains (owners_of items) item.owner
owner_among [] item (k, within, is) = absurd (omega (arith, within))
owner_among (first ∷ items) item (zero, within, is) = (0, omega arith, ap (λ (row : ItemRow). row.owner) is)
owner_among (first ∷ items) item (suc k, within, is) =
    let rest = owner_among items item (k, omega (arith, within), is) in
    elim (cases_Bool (item.owner == first.owner)) [
      | inl same ↦ (0, omega arith, sym (eqb-true item.owner first.owner same))
      | inr other ↦
          (let kept = Contains-filter (λ (user : ℕ). not (user == first.owner)) (owners_of items) item.owner rest (ap not other) in
          (suc kept.0, omega (arith, kept.1), kept.2))
    ]

-- what is in a list is in the lists of all
flat_has : (f : ℕ → List ℕ) (xs : List ℕ) (x y : ℕ) → Contains xs x → Contains (f x) y → Contains (flat_map f xs) y
flat_has f [] x y (k, within, is) has = absurd (omega (arith, within))
flat_has f (first ∷ xs) x y (zero, within, is) has =
    Contains-append_left (f first) (flat_map f xs) y (subst (λ (n : ℕ). Contains (f n) y) (sym is) has)
flat_has f (first ∷ xs) x y (suc k, within, is) has =
    Contains-append_right (f first) (flat_map f xs) y (flat_has f xs x y (k, omega (arith, within), is) has)

pub sweeps_take : SweepsTake
sweeps_take s seat now sound =
    let t = s.tables in
    let tops = flat_map (gone_from t now) (owners_of t.items) in (
      tops,
      λ node. (
        λ among.
            let of = Contains-from_flat (gone_from t now) (owners_of t.items) node among in
            let item = All-contains (IsItemOf t of.0) (gone_from t now of.0) node (gone_owned t sound.rows now of.0) of.2 in
            (item.0, item.1, subst (λ (user : ℕ). Contains (gone_from t now user) node) (sym item.2) of.2),
        λ is.
            flat_has (gone_from t now) (owners_of t.items) is.0.owner node
            (owner_among t.items is.0 (found_among (λ (item : ItemRow). item.node == node) t.items is.0 is.1)) is.2,
      ),
      subst (λ (made : Tables). AreSwept t made now tops) (sym (step_changed s seat now Sweep (swept t now) refl))
          (swept_rows t now tops sound.rows (swept_goes t sound.rows now)),
    )

-- ---- a mount itself

-- the caller's mount whose own path that is has another row
remounts : (call : Call) (spot : Spot) (change : MountRow → MountRow) (report : Report) → AreSound call.state.tables
    → user_of call ≡ Some (asker_of call) → (way_of call spot).itself ≡ true
    → ((row : MountRow) → (change row).user ≡ row.user) → ((row : MountRow) → (change row).node ≡ row.node)
    → IsMountChanged call spot
    (changed call.state.tables call.now (with_mount_row (option_map change (own_mount call (way_of call spot).mount)) report)) change
remounts call spot change report sound asks itself users nodes =
    subst (λ (o : Option MountRow). IsMountChanged call spot (changed t call.now (with_mount_row (option_map change o) report)) change)
    (sym (ap (own_mount call) own.by ∙ own.there))
    (record {
      user = asker_of call;
      caller = asks;
      node = own.node;
      by = sym (way_mount call spot sound) ∙ own.by;
      row = own.row;
      there = own.there;
      shown = own.shown;
      itself = subst (λ (n : ℕ). mount_row (put mount_key new t.mounts) (asker_of call) n ≡ Some new) of_node
          (subst (λ (n : ℕ). mount_row (put mount_key new t.mounts) n new.node ≡ Some new) of_user (mount_found new t.mounts));
      others = λ owner other differs.
          mount_left_so new t.mounts owner other (not_mount new owner other (λ a b. differs (sym a ∙ of_user) (sym b ∙ of_node)));
      rest = refl;
    })
  where
    t : Tables
    t = call.state.tables

    own : IsOwnMount call spot sound
    own = own_known call spot sound itself

    new : MountRow
    new = change own.row

    of_user : new.user ≡ asker_of call
    of_user = users own.row ∙ own.user

    of_node : new.node ≡ own.node
    of_node = nodes own.row ∙ own.of_node

pub mounts_left : MountsAreLeft
mounts_left s seat now words request spot sound may asked itself ok =
    let call = call_of s seat now words request in
    let is = accepted call ok in
    let act = mount_left call (way_of call spot) in
    let gives : allowed_of (access_of s) call ≡ act =
    given_for call (wanted.Delete spot) asked
    ∙ ap (λ (b : Bool). if b then act else deleted s.tables now (node_at (only_at b (found call spot)).source)) itself in
    subst (λ (made : Tables). IsMountChanged call spot made left_row)
    (sym (step_changed s seat now (Begin words request) act (is.0 ∙ ap (λ (a : Allowed). Ok a) gives)))
    (remounts call spot left_row Done sound.rows (asks_is call spot is.1 itself) itself (λ row. refl) (λ row. refl))

pub mounts_renamed : MountsAreRenamed
mounts_renamed s seat now words request source target overwrite sound may asked itself ok =
    let call = call_of s seat now words request in
    let is = accepted call ok in
    let act = mount_renamed call (way_of call source) (last_name target) in
    let wants = wanted.Move source target overwrite in
    let gives : allowed_of (access_of s) call ≡ act =
    given_for call wants asked
    ∙ ap (λ (b : Bool). if b then act else moved s.tables now (last_name target) (transfer_of s.tables.nodes (places_at call wants))) itself in
    subst (λ (made : Tables). IsMountChanged call source made (named_row (last_name target)))
    (sym (step_changed s seat now (Begin words request) act (is.0 ∙ ap (λ (a : Allowed). Ok a) gives)))
    (remounts call source (named_row (last_name target)) Made sound.rows (asks_is call source is.1 itself) itself (λ row. refl) (λ row. refl))

-- ---- a node more

pub added_rows : (t : Tables) (now folder : ℕ) (name : List ℕ) (kind : NodeKind) (content : List Piece) (blob : Option ℕ) (gone : List Version)
    (report : Report) → AreSound t
    → is_folder t.nodes folder ≡ true → child_of t.nodes folder name ≡ None
    → blob_after t.meta.next_blob blob ≡ t.meta.next_blob + length content
    → IsAdded t (changed t now (allowed.Change (Put (rows.Node (new_node t now folder name kind content)) ∷ map drop_version gone) blob report)) now folder
    name kind content
added_rows t now folder name kind content blob gone report sound folds free counts =
    subst (λ (u : Tables). IsAdded t u now folder name kind content) (sym whole) (record {
      folds = folds;
      free = free;
      fresh = finds_none (λ old. old.id == row.id) t.nodes
          (All-weaker (λ (old : NodeRow). old.id < row.id) (λ (old : NodeRow). (old.id == row.id) ≡ false)
          (λ old less. ne_eqb old.id row.id (λ e. absurd (omega arith))) t.nodes (newest t sound));
      itself = put_found row t.nodes;
      others = λ node other. put_other row t.nodes node other;
      versions = added_fewer t row gone;
      rest = refl;
    })
  where
    row : NodeRow
    row = new_node t now folder name kind content

    changes : List Change
    changes = Put (rows.Node row) ∷ map drop_version gone

    next : max t.meta.next_node (t.meta.next_node + 1) ≡ t.meta.next_node + 1
    next = omega arith

    meta : MetaRow
    meta = record t.meta { next_node = t.meta.next_node + 1; next_blob = t.meta.next_blob + length content; last = now }

    metas : (raised t now changes blob).meta ≡ meta
    metas = ap (λ (m : MetaRow). record m { next_blob = blob_after t.meta.next_blob blob; last = now })
        (versions_count (record t.meta { next_node = max t.meta.next_node (t.meta.next_node + 1) }) (map drop_version gone) (drops_only gone))
        ∙ (λ i. record t.meta { next_node = next i; next_blob = counts i; last = now })

    whole : changed t now (allowed.Change changes blob report)
        ≡ record t { meta = meta; nodes = put node_key row t.nodes; versions = (put_all t changes).versions }
    whole = ap (λ (u : Tables). record u { meta = (raised t now changes blob).meta }) (added_made t row gone)
        ∙ ap (λ (m : MetaRow). record t { meta = m; nodes = put node_key row t.nodes; versions = (put_all t changes).versions }) metas

-- ---- MKCOL

-- a MKCOL that is accepted makes a folder under the free name at the end of its path
makes_at : (call : Call) (spot : Spot) → call.request.wanted ≡ wanted.Mkcol spot → Passes (access_of call.state) call
    → (folder : ℕ) × (found call spot ≡ Free folder)
    × (allowed_of (access_of call.state) call ≡ makes (new_node call.state.tables call.now folder (last_name spot) Folder []) None)
makes_at call spot asked passes =
    here (found call spot) refl (placed call (wanted.Mkcol spot) asked passes).in_folder
    (subst (λ (w : Wanted). taken t.nodes (places_at call w) (asked_of w).makes ≡ None) asked (exists_passes (access_of call.state) call passes.exists).0)
  where
    t : Tables
    t = call.state.tables

    here : (place : Found) → found call spot ≡ place → target_lost place ≡ None
        → taken t.nodes (record { source = None; target = Some (found call spot) }) making.Folder ≡ None
        → (folder : ℕ) × (found call spot ≡ Free folder)
        × (allowed_of (access_of call.state) call ≡ makes (new_node t call.now folder (last_name spot) Folder []) None)
    here (At node) e there free =
        let none = subst (λ (place : Found). taken t.nodes (record { source = None; target = Some place }) making.Folder ≡ None) e free in absurd (cc)
    here (Free folder) e there free =
        (folder, e, given_for call (wanted.Mkcol spot) asked ∙ ap (λ (place : Found). made_folder t call.now (last_name spot) (Some place)) e)
    here (Missing depth) e there free = absurd (cc)

pub folders_made : FoldersAreMade
folders_made s seat now words request spot sound may asked ok =
    let call = call_of s seat now words request in
    let t = s.tables in
    let is = accepted call ok in
    let at = makes_at call spot asked is.1 in
    let folder = at.0 in
    let act = makes (new_node t now folder (last_name spot) Folder []) None in
    let decides : decision_of s seat now (Begin words request) ≡ Ok act = is.0 ∙ ap (λ (a : Allowed). Ok a) at.2 in
    let free = frees_by call spot sound.rows folder at.1 in
    subst (λ (made : Tables). IsFolderMade call spot made) (sym (step_changed s seat now (Begin words request) act decides))
    (record {
      folder = folder;
      name = last_name spot;
      led = free.0;
      added = added_rows t now folder (last_name spot) Folder [] None [] Made sound.rows free.1 free.2 (omega arith);
      versions = refl;
    })

-- ---- the begin of a PUT

-- a PUT that is accepted is granted at the end of its path
grants_at : (call : Call) (spot : Spot) (size : ℕ) → AreSound call.state.tables → call.request.wanted ≡ wanted.Put spot size
    → Passes (access_of call.state) call
    → (key : LockKey) × LeadsToKeyBy call spot (mount_of call spot) key
    × (allowed_of (access_of call.state) call ≡ allowed.Put (by_of call spot) key size)
grants_at call spot size sound asked passes =
    here (found call spot) refl (placed call (wanted.Put spot size) asked passes).in_folder
  where
    puts : (key : LockKey) (place : Found) → found call spot ≡ place
        → stored (by_of call spot) (last_name spot) size (Some place) ≡ allowed.Put (by_of call spot) key size
        → allowed_of (access_of call.state) call ≡ allowed.Put (by_of call spot) key size
    puts key place e is =
        given_for call (wanted.Put spot size) asked ∙ ap (λ (place : Found). stored (by_of call spot) (last_name spot) size (Some place)) e ∙ is

    node_key : (node : ℕ) (mount : Option ℕ) → LeadsBy call spot mount node → LeadsToKeyBy call spot mount (Node node)
    node_key node None led = led
    node_key node (Some mount) led = led

    here : (place : Found) → found call spot ≡ place → target_lost place ≡ None
        → (key : LockKey) × LeadsToKeyBy call spot (mount_of call spot) key
        × (allowed_of (access_of call.state) call ≡ allowed.Put (by_of call spot) key size)
    here (At node) e there =
        (Node node, node_key node (mount_of call spot) (leads_by call spot sound node e), puts (Node node) (At node) e refl)
    here (Free folder) e there =
        (Slot folder (last_name spot), (frees_by call spot sound folder e).0, puts (Slot folder (last_name spot)) (Free folder) e refl)
    here (Missing depth) e there = absurd (cc)

pub puts_granted : PutsAreGranted
puts_granted s seat now words request spot size sound may asked ok =
    let call = call_of s seat now words request in
    let is = accepted call ok in
    let at = grants_at call spot size sound.rows asked is.1 in
    let act = allowed.Put (by_of call spot) at.0 size in
    let decides : decision_of s seat now (Begin words request) ≡ Ok act = is.0 ∙ ap (λ (a : Allowed). Ok a) at.2 in
    record {
      mount = mount_of call spot;
      by = refl;
      key = at.0;
      led = at.1;
      granted = ap answered_by decides
          ∙ ap (λ (mount : Option ℕ). answered_by (Ok (allowed.Put (record { seeker = seeker_of call; mount = mount }) at.0 size))) (way_mount call spot sound.rows);
      rows = step_changed s seat now (Begin words request) act decides;
    }

-- ---- the body of a PUT

-- as many blobs more as the content has pieces
blobs_counted : (next size : ℕ) (digest : List ℕ)
    → blob_after next (blob_for next size) ≡ next + length (content_in (blob_for next size) digest size)
blobs_counted next size digest = here (size == 0)
  where
    here : (empty : Bool)
        → blob_after next (if empty then None else Some next) ≡ next + length (content_in (if empty then None else Some next) digest size)
    here true = omega arith
    here false = omega arith

over_rows : (t : Tables) (now node : ℕ) (content : List Piece) (blob : Option ℕ) (row : NodeRow) → AreSound t
    → node_row t.nodes node ≡ Some row → is_folder_kind row.kind ≡ false → (refilled t now content row ≡ [] → blob ≡ None)
    → blob_after t.meta.next_blob blob ≡ t.meta.next_blob + length content → All (IsOldVersion t) (put_all t (refilled t now content row)).versions
    → IsRefilled t (changed t now (allowed.Change (refilled t now content row) blob Done)) now node content
over_rows t now node content blob row sound there file stored counts old = here (is_same now content row) refl stored old
  where
    IsAfter : List Change → Type 0
    IsAfter changes = IsRefilled t (changed t now (allowed.Change changes blob Done)) now node content

    same : is_same now content row ≡ true → blob ≡ None → All (IsOldVersion t) t.versions → IsAfter []
    same e none old =
        record {
          row = row;
          there = there;
          file = file;
          itself = there ∙ ap (λ (r : NodeRow). Some r) (filled_same row content now e);
          others = λ other differs. refl;
          versions = old;
          rest = λ i. record t { meta = record t.meta { next_blob = (ap (blob_after t.meta.next_blob) (sym none) ∙ counts) i } };
          moment = inl refl;
        }

    id : (row.id ≡ node) × (row.id < t.meta.next_node)
    id = let h = row_is t node row sound there in (h.0, h.1.given)

    new : NodeRow
    new = filled content now row

    next : max t.meta.next_node (row.id + 1) ≡ t.meta.next_node
    next = omega (arith, id.1)

    changes : (more : List Change) → All IsOfVersions more → All (IsOldVersion t) (put_all t (Put (rows.Node new) ∷ more)).versions
        → IsAfter (Put (rows.Node new) ∷ more)
    changes more of old = subst (λ (u : Tables). IsRefilled t u now node content) (sym whole) (record {
      row = row;
      there = there;
      file = file;
      itself = subst (λ (n : ℕ). node_row (put node_key new t.nodes) n ≡ Some new) id.0 (put_found new t.nodes);
      others = λ other differs. put_other new t.nodes other (λ is. differs (is ∙ id.0));
      versions = old;
      rest = refl;
      moment = inr refl;
    })
      where
        all : List Change
        all = Put (rows.Node new) ∷ more

        meta : MetaRow
        meta = record t.meta { next_blob = t.meta.next_blob + length content; last = now }

        metas : (raised t now all blob).meta ≡ meta
        metas = ap (λ (m : MetaRow). record m { next_blob = blob_after t.meta.next_blob blob; last = now })
            (versions_count (record t.meta { next_node = max t.meta.next_node (row.id + 1) }) more of)
            ∙ (λ i. record t.meta { next_node = next i; next_blob = counts i; last = now })

        whole : changed t now (allowed.Change all blob Done)
            ≡ record t { meta = meta; nodes = put node_key new t.nodes; versions = (put_all t all).versions }
        whole = ap (λ (u : Tables). record u { meta = (raised t now all blob).meta }) (versions_only (made t (Put (rows.Node new))) more of)
            ∙ ap (λ (m : MetaRow). record t { meta = m; nodes = put node_key new t.nodes; versions = (put_all t all).versions }) metas

    of : All IsOfVersions (turns_over t now None content row)
    of =
        let to = charged t row.owner (content_size row.content) (content_size content) in
        turned_only t None row (gone_after t now None row to.quota to.charge)

    here : (b : Bool) → is_same now content row ≡ b → ((if b then [] else refills t now None content row) ≡ [] → blob ≡ None)
        → All (IsOldVersion t) (put_all t (if b then [] else refills t now None content row)).versions
        → IsAfter (if b then [] else refills t now None content row)
    here true e stored old = same e (stored refl) old
    here false e stored old =
        subst (λ (b : Bool). IsAfter ((if b then [] else Put (rows.Node new) ∷ []) ++ turns_over t now None content row)) (sym e)
        (changes (turns_over t now None content row) of
        (subst (λ (b : Bool). All (IsOldVersion t) (put_all t ((if b then [] else Put (rows.Node new) ∷ []) ++ turns_over t now None content row)).versions) e old))

pub put_rows : (t : Tables) (now : ℕ) (key : LockKey) (digest : List ℕ) (size : ℕ) → AreSound t → IsHeld t key
    → Known t now (stored_at t now key digest size)
    → IsPut t (changed t now (stored_at t now key digest size)) now key (content_in (blob_for t.meta.next_blob size) digest size)
put_rows t now (Node node) digest size sound there known =
    let blob = blob_for t.meta.next_blob size in
    let content = content_in blob digest size in
    let file = holds_some (λ row. not (is_folder_kind row.kind)) (node_row t.nodes node) there in
    let known_at : KnownChange t now (refilled t now content file.0) blob =
    subst (λ (o : Option NodeRow). KnownChange t now (option_map_or (refilled t now content) o []) blob) file.1 known in
    subst (λ (o : Option NodeRow). IsRefilled t (changed t now (allowed.Change (option_map_or (refilled t now content) o []) blob Done)) now node content) (sym file.1)
    (over_rows t now node content blob file.0 sound file.1 (not-true (is_folder_kind file.0.kind) file.2)
    known_at.stored (blobs_counted t.meta.next_blob size digest)
    (altered_old t now (allowed.Change (refilled t now content file.0) blob Done) sound known_at))
put_rows t now (Slot folder name) digest size sound there known =
    let content = content_in (blob_for t.meta.next_blob size) digest size in
    added_rows t now folder name File content (blob_for t.meta.next_blob size)
    (unsettled t (charged t (owner_of t.nodes folder) 0 (content_size content)) []) Made sound there.0 there.1
    (blobs_counted t.meta.next_blob size digest)

pub puts_keep : PutsKeep
puts_keep s seat now by key digest size sound granted ok =
    let t = s.tables in
    let event = End (Body digest size) in
    let act = stored_at t now key digest size in
    let goes : decision_of s seat now event ≡ stores (access_of s) t now by key digest size = ap (ends_at (access_of s) t now (Body digest size)) granted in
    let none : stores (access_of s) t now by key digest size ≡ Ok act =
    none_refused (end_refusal (access_of s) t now by key size) act (subst (λ (d : Result Allowed Denial). IsOk (answered_by d)) goes ok) in
    let may : MayAsk s seat event = subst (λ (o : Option Goal). MayEnd o (Body digest size)) (sym granted) refl in
    let known = known_change s seat now event act sound may (goes ∙ none) in
    let there = subst (λ (o : Option Goal). IfSome o (IsStorable t)) granted (goal_held s seat sound) in
    subst (λ (made : Tables). IsPut t made now key (content_in (blob_for t.meta.next_blob size) digest size))
    (sym (step_changed s seat now event act (goes ∙ none))) (put_rows t now key digest size sound.rows there.0 known)
