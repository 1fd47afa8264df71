-- What a Begin that no rule refuses may do passes no quota.
use Rattle.std.proofs.Common.{ℕ, ◌==◌, ◌≡◌, ◌≤◌, Bool, true, false, List, [], ◌∷◌, ◌++◌, map, Option, None, Some, Ok, if◌then◌else◌, inl, refl, sym, ap, subst, ◌∙◌, flat_map}
use Rattle.std.specs.Option.{option_and_then, option_map_or}
use Rattle.std.proofs.lemmas.Bool.{cond_both, eqb-true}
use Rattle.nf_base.specs.declared.rows.ItemRow.{ItemRow}
use Rattle.nf_base.specs.declared.rows.ShareRow.{ShareRow}
use Rattle.nf_base.specs.declared.rows.UserRow.{UserRow}
use Rattle.nf_defs.specs.Prelude.{content_of, is_folder, item_row, Tables, user_row}
use Rattle.nf_defs.specs.declared.Found.{Found}
use Rattle.nf_defs.specs.declared.Found.TheVariants.{At, Free, Missing}
use Rattle.nf_laws.proofs.Joining.{abandon_lower, join_keeps, placed_at}
use Rattle.nf_laws.proofs.Recharged.{besides_lower, copies_keep, crossing_keep, discards_lower, KeepsCharge, lower_append, lower_keeps, moves_keep, purges_lower, requoted_charge, restored_keeps, then_keeps}
use Rattle.nf_words.proofs.Begins.{only_at, places_at, wanted_known, wanted_passes, WantedPasses}
use Rattle.nf_words.proofs.Fits.{within}
use Rattle.nf_words.proofs.Found.{found_passes}
use Rattle.nf_words.proofs.Known.{KnownCopies}
use Rattle.nf_words.proofs.Passing.{call_passes, place_passes, quota_passes}
use Rattle.nf_words.proofs.Provided.{row_there}
use Rattle.nf_words.proofs.Starts.{has_asker, IsAsking}
use Rattle.nf_words.proofs.Transfers.{copies_known, transfer_known}
use Rattle.nf_words.proofs.Trashing.{own_there}
use Rattle.nf_words.specs.Prelude.{access_of, AreSound, asked_of, asked_of_trash, asker_of, assembled, assembled_excess, besides, by_of, Call, call_decision, carry_excess, carry_limit, chunk_number, chunk_sent, content_size, copied, copy_excess, copy_limit, crosses, crossing, deed_done, deeds_done, deepest_in, deleted, discards, exceeded, excess_at, found, given, gone_beside, gone_of, home_of, IsSound, item_dropped, item_if_of, item_restored, items_of, last_name, limited, listing_of, made_folder, MayWant, mount_left, mount_renamed, moved, move_limit, moves, name_back, node_at, nothing_done, offered, own_item, people_done, perms_after, purges, requoted, restored, restore_excess, root_of, row_named, served, shared, share_ended, share_made, share_set, share_shown, share_steered, share_told, stored, transfer_of, trash_done, unfit_between, unreached, until_after, way_of, brought_back, charge_of, charged, charged_for, charged_to, item_size, purged_by, requoting, restoring, settled_by, unsettled, upload_done, version_done, whole_of, version_row, done, copies}
use Rattle.nf_words.specs.declared.answer.Allowed.{Allowed}
use Rattle.nf_words.specs.declared.answer.Allowed.TheVariants as allowed
use Rattle.nf_words.specs.declared.answer.By.{By}
use Rattle.nf_words.specs.declared.answer.Deed.TheVariants as deed
use Rattle.nf_words.specs.declared.answer.Report.{Report}
use Rattle.nf_words.specs.declared.answer.Report.TheVariants as report
use Rattle.nf_words.specs.declared.request.Making.TheVariants as making
use Rattle.nf_words.specs.declared.request.PeopleAsk.{PeopleAsk}
use Rattle.nf_words.specs.declared.request.PeopleAsk.TheVariants as people
use Rattle.nf_words.specs.declared.request.Places.{Places}
use Rattle.nf_words.specs.declared.request.ShareAsk.{ShareAsk}
use Rattle.nf_words.specs.declared.request.ShareAsk.TheVariants as ask
use Rattle.nf_words.specs.declared.request.Spot.{Spot}
use Rattle.nf_words.specs.declared.request.Transfer.{Transfer}
use Rattle.nf_words.specs.declared.request.TrashAsk.{TrashAsk}
use Rattle.nf_words.specs.declared.request.TrashAsk.TheVariants as trash
use Rattle.nf_words.specs.declared.request.UploadAsk.{UploadAsk}
use Rattle.nf_words.specs.declared.request.UploadAsk.TheVariants as upload
use Rattle.nf_words.specs.declared.request.Wanted.{Wanted}
use Rattle.nf_words.specs.declared.request.Wanted.TheVariants as wanted
use Rattle.nf_laws.proofs.Behind.{behind_only}
use Rattle.nf_words.specs.Changes.{Charged}
use Rattle.nf_base.specs.declared.rows.VersionRow.{VersionRow}
use Rattle.nf_words.specs.declared.request.VersionAsk.{VersionAsk}
use Rattle.nf_words.specs.declared.request.VersionAsk.TheVariants as version
use Rattle.nf_words.specs.declared.answer.Deed.{Deed}

-- no body is stored, and what deeds make of charges passes no quota
abbrev pub Affords : Tables → Allowed → Type 0
Affords t (allowed.Change changes blob report) = blob ≡ None
Affords t (allowed.Deeds deeds report) = (user : ℕ) → KeepsCharge t user (deeds_done t deeds)
Affords t act = Unit {0}

-- ---- what is moved or copied

-- versions that go behind deeds are charged to nobody
settled_keeps : (t : Tables) (user : ℕ) (to : Charged) (deeds : List Deed) → KeepsCharge t user (deeds_done t deeds)
    → KeepsCharge t user (deeds_done t (settled_by t to deeds))
unfolding charge_of
settled_keeps t user to deeds keeps = subst (KeepsCharge t user) (sym (behind_only t deeds (unsettled t to (flat_map purged_by deeds)))) keeps

module _ (call : Call) (source target : Spot) (sound : AreSound call.state.tables) (later : call.state.tables.meta.last ≤ call.now) (is : IsAsking call)
    (from_reached : unreached (access_of call.state) call (way_of call source) ≡ None)
    (to_reached : unreached (access_of call.state) call (way_of call target) ≡ None)
    (fits : unfit_between call.state.tables.nodes (root_of call) false (record { source = Some (way_of call source); target = Some (way_of call target) }) ≡ None) where
  abbrev t : Tables
  t = call.state.tables

  abbrev led : Option Transfer
  led = transfer_of t.nodes (record { source = Some (found call source); target = Some (found call target) })

  abbrev name : List ℕ
  name = last_name target

  copies_are : (transfer : Transfer) → led ≡ Some transfer → copy_limit t transfer ≡ None → KnownCopies t transfer name
  copies_are transfer e few = copies_known call source target sound is from_reached to_reached transfer e fits few

  copied_affords : option_and_then (copy_limit t) led ≡ None → option_and_then (copy_excess t) led ≡ None → Affords t (copied t call.now name led)
  copied_affords few none = here led refl few none
    where
      here : (o : Option Transfer) → led ≡ o → option_and_then (copy_limit t) o ≡ None → option_and_then (copy_excess t) o ≡ None
          → Affords t (copied t call.now name o)
      here None e few none = tt
      here (Some transfer) e few none = λ user.
          settled_keeps t user (charged_for t transfer) (copies t call.now name transfer)
          (copies_keep t call.now user transfer name sound later (copies_are transfer e few) none)

  moved_affords : option_and_then (carry_limit t) led ≡ None → option_and_then (carry_excess t) led ≡ None → Affords t (moved t call.now name led)
  moved_affords few none = here led refl few none
    where
      carried : (user : ℕ) (transfer : Transfer) → led ≡ Some transfer → (across : Bool) → crosses t.nodes transfer ≡ across
          → (if across then copy_limit t transfer else move_limit t transfer) ≡ None → (if across then copy_excess t transfer else None) ≡ None
          → KeepsCharge t user (deeds_done t (if across then settled_by t (charged_for t transfer) (crossing t call.now name transfer)
          else moves t call.now name transfer))
      carried user transfer e true across few none =
          settled_keeps t user (charged_for t transfer) (crossing t call.now name transfer)
          (crossing_keep t call.now user transfer name sound later (record { copies = copies_are transfer e few; crosses = across }) none)
      carried user transfer e false stays few none =
          let deep = (within t 0 (deepest_in t.nodes transfer.node transfer.folder) 0 0 0 few).deep in
          moves_keep t call.now user transfer name sound later
          (record { known = transfer_known call source target sound is from_reached to_reached transfer e fits deep; within = stays })

      here : (o : Option Transfer) → led ≡ o → option_and_then (carry_limit t) o ≡ None → option_and_then (carry_excess t) o ≡ None
          → Affords t (moved t call.now name o)
      here None e few none = tt
      here (Some transfer) e few none = λ user. carried user transfer e (crosses t.nodes transfer) refl few none

-- ---- what is wanted

module _ (call : Call) (sound : AreSound call.state.tables) (later : call.state.tables.meta.last ≤ call.now) (is : IsAsking call) where
  abbrev all : Tables
  all = call.state.tables

  abbrev IsAfforded : Allowed → Type 0
  IsAfforded act = Affords all act

  -- what is done where something is there
  where_there : {X : Type 0} (act : X → Allowed) (none : Allowed) (o : Option X) → IsAfforded none → ((x : X) → IsAfforded (act x))
      → IsAfforded (option_map_or act o none)
  where_there act none None nothing each = nothing
  where_there act none (Some x) nothing each = each x

  purged_affords : (nodes : List ℕ) (told : Report) → IsAfforded (allowed.Deeds (purges nodes) told)
  purged_affords nodes told user = lower_keeps all user (purges nodes) (purges_lower nodes)

  served_affords : (mount node : Option ℕ) → IsAfforded (served (access_of call.state) call mount node)
  served_affords mount None = tt
  served_affords mount (Some node) =
      cond_both (is_folder all.nodes node) (allowed.List (listing_of (access_of call.state) call mount node))
      (allowed.Get node (content_of all.nodes node)) IsAfforded (λ folder. tt) (λ file. tt)

  stored_affords : (by : By) (last : List ℕ) (length : ℕ) (place : Found) → IsAfforded (stored by last length (Some place))
  stored_affords by last length (At node) = tt
  stored_affords by last length (Free folder) = tt
  stored_affords by last length (Missing depth) = tt

  folder_affords : (last : List ℕ) (place : Found) → IsAfforded (made_folder all call.now last (Some place))
  folder_affords last (At node) = tt
  folder_affords last (Free folder) = refl
  folder_affords last (Missing depth) = tt

  delete_affords : (spot : Spot) (itself : Bool) → IsAfforded (if itself then mount_left call (way_of call spot)
      else deleted all call.now (node_at (only_at itself (found call spot)).source))
  delete_affords spot true = refl
  delete_affords spot false =
      let node = node_at (Some (found call spot)) in
      λ user.
      lower_keeps all user (discards all call.now node ++ besides all call.now node)
      (lower_append (discards all call.now node) (besides all call.now node) (discards_lower all call.now node) (besides_lower all call.now node))

  move_affords : (source to : Spot) (itself : Bool)
      → (itself ≡ false → unreached (access_of call.state) call (way_of call source) ≡ None)
      → unreached (access_of call.state) call (way_of call to) ≡ None
      → unfit_between all.nodes (root_of call) itself (record { source = Some (way_of call source); target = Some (way_of call to) }) ≡ None
      → (places : Places)
      → places ≡ (if itself then record { source = None; target = None } else record { source = Some (found call source); target = Some (found call to) })
      → limited all places making.Moved ≡ None → exceeded all places making.Moved ≡ None
      → IsAfforded (if itself then mount_renamed call (way_of call source) (last_name to) else moved all call.now (last_name to) (transfer_of all.nodes places))
  move_affords source to true from_reached to_reached fits places at few none = refl
  move_affords source to false from_reached to_reached fits places at few none =
      subst (λ (p : Places). limited all p making.Moved ≡ None → exceeded all p making.Moved ≡ None → IsAfforded (moved all call.now (last_name to) (transfer_of all.nodes p)))
      (sym at) (moved_affords call source to sound later is (from_reached refl) to_reached fits) few none

  shared_affords : (places : Places) (asked : ShareAsk) → IsAfforded (shared (access_of call.state) call places asked)
  shared_affords places (ask.New spot to perms until) =
      where_there (share_made (access_of call.state) call) nothing_done (offered call spot to perms until) refl (λ offer. refl)
  shared_affords places (ask.List spot with_me) = refl
  shared_affords places (ask.Show share) = where_there (share_told all []) nothing_done (share_shown call share) refl (λ row. refl)
  shared_affords places (ask.Set share perms until) =
      where_there (λ (row : ShareRow). share_set all (perms_after all perms row) (until_after until row.until) row) nothing_done (share_steered call share)
      refl (λ row. refl)
  shared_affords places (ask.End share) = where_there share_ended nothing_done (share_steered call share) refl (λ row. refl)

  requoted_affords : (quota : ℕ) (row : UserRow) → user_row all.users row.id ≡ Some row → IsAfforded (requoted all call.now quota row)
  requoted_affords quota row there =
      let gone = gone_of all call.now quota (items_of all row.id) in
      let other = deed.Requote (record row { quota = quota }) in
      cond_both (row.quota == quota) nothing_done (done (settled_by all (charged_to all quota row) (requoting all call.now quota row)) report.Plain)
      IsAfforded (λ same. refl)
      (λ differs user.
      settled_keeps all user (charged_to all quota row) (requoting all call.now quota row)
      (then_keeps all (deed_done all other) user (purges gone) (purges_lower gone)
      (inl (requoted_charge all (record row { quota = quota }) row user there refl))))

  people_afford : (asked : PeopleAsk) → IsAfforded (people_done all call.now asked)
  people_afford (people.SetQuota name quota) = here (row_named all name) refl
    where
      here : (o : Option UserRow) → row_named all name ≡ o → IsAfforded (option_map_or (requoted all call.now quota) o nothing_done)
      here None e = refl
      here (Some row) e = requoted_affords quota row (row_there all call.now sound name row e)
  people_afford asked = refl

  -- an item that comes back passes no quota
  restored_affords : (user item : ℕ) (o : Option ItemRow) → option_and_then (item_if_of user) (item_row all.items item) ≡ o
      → option_and_then (restore_excess all) (item_row all.items item) ≡ None → IsAfforded (option_map_or (item_restored all call.now) o nothing_done)
  restored_affords user item None is none = refl
  restored_affords user item (Some row) is none =
      let found = own_there all sound user item row is in
      let there : item_row all.items row.node ≡ Some row =
      ap (item_row all.items) (eqb-true row.node item (found_passes (λ (row : ItemRow). row.node == item) all.items row found)) ∙ found in
      λ of.
      settled_keeps all of (charged all row.owner 0 (item_size all row)) (restoring all call.now row)
      (then_keeps all (restored all row.node (home_of all row) (name_back all row)) of (purges (gone_beside all call.now row))
      (purges_lower (gone_beside all call.now row))
      (restored_keeps all row.node (home_of all row) of (name_back all row) row sound there (sym (ap (option_and_then (restore_excess all)) found) ∙ none)))

  trash_affords : (places : Places) (asked : TrashAsk) → exceeded all places (asked_of_trash asked).makes ≡ None → IsAfforded (trash_done call asked)
  trash_affords places (trash.List user) none = refl
  trash_affords places (trash.Drop user item) none =
      where_there (item_dropped all call.now) nothing_done (own_item call item) refl (λ row. purged_affords (row.node ∷ gone_beside all call.now row) report.Done)
  trash_affords places (trash.Empty user) none = purged_affords (map (λ item. item.node) (items_of all (asker_of call))) report.Done
  trash_affords places (trash.Restore user item) none = restored_affords (asker_of call) item (own_item call item) refl none

  version_affords : (asked : VersionAsk) → IsAfforded (version_done all call.now asked)
  version_affords (version.List user node) = refl
  version_affords (version.Get user node at) =
      where_there (λ (row : VersionRow). allowed.Get node row.content) nothing_done (version_row all.versions node at) refl (λ row. tt)
  version_affords (version.Restore user node at) =
      where_there (brought_back all call.now node) nothing_done (version_row all.versions node at) refl (λ row. refl)

  -- and so does what the chunks of an upload have together
  joined_affords : (dir : List ℕ) (spot : Spot) (total : Option ℕ) → WantedPasses call (wanted.Upload (upload.Join dir spot total))
      → excess_at all (content_size (whole_of all.chunks (asker_of call) dir)) (found call spot) ≡ None
      → IsAfforded (assembled all call.now (last_name spot) (asker_of call) dir (found call spot))
  joined_affords dir spot total p none = λ user.
      join_keeps all call.now (last_name spot) (whole_of all.chunks (asker_of call) dir) sound (found call spot) (asker_of call) dir later
      (wanted_known call sound is (wanted.Upload (upload.Join dir spot total)) p) user (placed_at call spot sound is p.place.target p.place.in_folder) none

  upload_affords : (asked : UploadAsk) → WantedPasses call (wanted.Upload asked) → assembled_excess call (wanted.Upload asked) ≡ None
      → IsAfforded (upload_done call (places_at call (wanted.Upload asked)) asked)
  upload_affords (upload.New user dir to) p none = refl
  upload_affords (upload.Chunk user dir name to length) p none =
      where_there (chunk_sent (asker_of call) dir length) nothing_done (chunk_number name) refl (λ number. tt)
  upload_affords (upload.Drop user dir) p none = λ user.
      lower_keeps all user (deed.Abandon (asker_of call) dir ∷ []) (abandon_lower (asker_of call) dir)
  upload_affords (upload.Join dir spot total) p none =
      joined_affords dir spot total p
      (subst (λ (places : Places). option_and_then (excess_at all (content_size (whole_of all.chunks (asker_of call) dir))) places.target ≡ None) p.led none)

  wanted_affords : (wanted : Wanted) → WantedPasses call wanted → exceeded all (places_at call wanted) (asked_of wanted).makes ≡ None
      → assembled_excess call wanted ≡ None → IsAfforded (given (access_of call.state) call (places_at call wanted) wanted)
  wanted_affords (wanted.Get spot) p none whole = served_affords (way_of call spot).mount (node_at (Some (found call spot)))
  wanted_affords (wanted.Put spot length) p none whole = stored_affords (by_of call spot) (last_name spot) length (found call spot)
  wanted_affords (wanted.Mkcol spot) p none whole = folder_affords (last_name spot) (found call spot)
  wanted_affords (wanted.Delete spot) p none whole = delete_affords spot (way_of call spot).itself
  wanted_affords (wanted.Move source to overwrite) p none whole =
      move_affords source to (way_of call source).itself p.place.source p.place.target p.fits (places_at call (wanted.Move source to overwrite)) refl p.few none
  wanted_affords (wanted.Copy source to overwrite) p none whole =
      copied_affords call source to sound later is (p.place.source refl) p.place.target p.fits p.few none
  wanted_affords (wanted.Share asked) p none whole = shared_affords (places_at call (wanted.Share asked)) asked
  wanted_affords (wanted.People asked) p none whole = people_afford asked
  wanted_affords (wanted.Trash asked) p none whole = trash_affords (places_at call (wanted.Trash asked)) asked none
  wanted_affords (wanted.Version asked) p none whole = version_affords asked
  wanted_affords (wanted.Upload asked) p none whole = upload_affords asked p whole

pub call_affords : (call : Call) (act : Allowed) → IsSound call.state → call.state.tables.meta.last ≤ call.now → MayWant call.request
    → call_decision call ≡ Ok act → Affords call.state.tables act
call_affords call act sound later may is =
    let h = call_passes call act is in
    let none = quota_passes (access_of call.state) call h.0.quota in
    let asker = has_asker call h.0.token (place_passes (access_of call.state) call h.0.place).linked in
    subst (Affords call.state.tables) h.1
    (wanted_affords call sound.rows later asker call.request.wanted (wanted_passes call may h.0) none.0 none.1)
