-- Which deeds of a Begin store changes: none, unless what the chunks of an upload have together is stored.
use Rattle.std.proofs.Common.{◌≡◌, ◌==◌, ◌⊎◌, ◌++◌, ℕ, List, [], ◌∷◌, Option, None, Some, inl, inr, refl, map, subst, Ok}
use Rattle.std.specs.List.{All}
use Rattle.std.specs.Option.{option_map_or}
use Rattle.std.proofs.lemmas.Bool.{cond_both}
use Rattle.std.proofs.lemmas.List.Elements.{All-append, All-cons, All-nil}
use Rattle.nf_base.specs.declared.rows.ItemRow.{ItemRow}
use Rattle.nf_base.specs.declared.rows.ShareRow.{ShareRow}
use Rattle.nf_base.specs.declared.rows.UserRow.{UserRow}
use Rattle.nf_base.specs.declared.rows.VersionRow.{VersionRow}
use Rattle.nf_defs.specs.Prelude.{content_of, is_folder, Tables}
use Rattle.nf_defs.specs.declared.Found.{Found}
use Rattle.nf_defs.specs.declared.Found.TheVariants.{At, Free, Missing}
use Rattle.nf_laws.proofs.Each.{besides_each, crossing_each, discards_each, forgets_none, NoStore, purges_none, put_each}
use Rattle.nf_laws.proofs.Joining.{IsPlaced, placed_at}
use Rattle.nf_words.proofs.Begins.{places_at, wanted_passes, WantedPasses}
use Rattle.nf_words.proofs.Passing.{call_passes, place_passes}
use Rattle.nf_words.proofs.Starts.{has_asker, IsAsking}
use Rattle.nf_words.specs.Changes.{Charged}
use Rattle.nf_words.specs.Prelude.{access_of, AreSound, asker_of, assembled_at, besides, brought_back, by_of, Call, call_decision, carries, charged_for, charged_to, chunk_number, chunk_sent, copied, copies, copies_settled, copies_to, crosses, crossing, deleted, discards, done, found, given, gone_beside, IsSound, item_dropped, item_restored, items_of, last_name, listing_of, made_folder, made_or_done, MayWant, mount_left, mount_renamed, moved, moves, node_at, nothing_done, offered, own_item, people_done, perms_after, purged_by, requoted, requoting, restoring, row_at, row_named, served, settled_by, share_ended, share_made, share_set, share_shown, share_steered, share_told, shared, stored, transfer_of, trash_done, unsettled, until_after, upload_done, version_done, version_row, way_of, whole_of}
use Rattle.nf_words.specs.declared.answer.Allowed.{Allowed}
use Rattle.nf_words.specs.declared.answer.Allowed.TheVariants as allowed
use Rattle.nf_words.specs.declared.answer.By.{By}
use Rattle.nf_words.specs.declared.answer.Deed.{Deed}
use Rattle.nf_words.specs.declared.answer.Deed.TheVariants as deed
use Rattle.nf_words.specs.declared.answer.Report.TheVariants as report
use Rattle.nf_words.specs.declared.request.PeopleAsk.{PeopleAsk}
use Rattle.nf_words.specs.declared.request.PeopleAsk.TheVariants as people
use Rattle.nf_words.specs.declared.request.Places.{Places}
use Rattle.nf_words.specs.declared.request.ShareAsk.{ShareAsk}
use Rattle.nf_words.specs.declared.request.ShareAsk.TheVariants as ask
use Rattle.nf_words.specs.declared.request.Transfer.{Transfer}
use Rattle.nf_words.specs.declared.request.TrashAsk.{TrashAsk}
use Rattle.nf_words.specs.declared.request.TrashAsk.TheVariants as trash
use Rattle.nf_words.specs.declared.request.UploadAsk.{UploadAsk}
use Rattle.nf_words.specs.declared.request.UploadAsk.TheVariants as upload
use Rattle.nf_words.specs.declared.request.VersionAsk.{VersionAsk}
use Rattle.nf_words.specs.declared.request.VersionAsk.TheVariants as version
use Rattle.nf_words.specs.declared.request.Wanted.{Wanted}
use Rattle.nf_words.specs.declared.request.Wanted.TheVariants as wanted
use Rattle.std.specs.List.{flat_map}

-- what the chunks of an upload have together is stored at a place, and the upload goes
pub record IsJoined (t : Tables) (now : ℕ) (deeds : List Deed) : Type 0 where
  pub place : Found
  pub name : List ℕ
  pub user : ℕ
  pub dir : List ℕ
  pub placed : IsPlaced t place
  pub are : deeds ≡ deed.Store (assembled_at t now name (whole_of t.chunks user dir) place) ∷ deed.Abandon user dir ∷ []

abbrev pub StoresSo : Tables → ℕ → Allowed → Type 0
StoresSo t now (allowed.Deeds deeds report) = All NoStore deeds ⊎ IsJoined t now deeds
StoresSo t now act = Unit {0}

-- ---- deeds that store none

module _ (t : Tables) (now : ℕ) where
  pub settled_none : (to : Charged) (deeds : List Deed) → All NoStore deeds → All NoStore (settled_by t to deeds)
  settled_none to deeds none =
      let gone = unsettled t to (flat_map purged_by deeds) in
      All-append NoStore deeds _ none (forgets_none gone)

  pub requoting_none : (quota : ℕ) (row : UserRow) → All NoStore (requoting t now quota row)
  requoting_none quota row = All-cons NoStore _ _ tt (purges_none _)

  pub restoring_none : (item : ItemRow) → All NoStore (restoring t now item)
  restoring_none item = All-cons NoStore _ _ tt (purges_none (gone_beside t now item))

  pub copies_none : (transfer : Transfer) (name : List ℕ) → All NoStore (copies t now name transfer)
  copies_none transfer name = put_each t now NoStore (λ node. tt) (λ item. tt) transfer.replaced (deed.Join (copies_to t now transfer name)) tt

  pub crossing_none : (transfer : Transfer) (name : List ℕ) → All NoStore (crossing t now name transfer)
  crossing_none transfer name = crossing_each t now NoStore (λ node. tt) (λ item. tt) transfer name tt

  moves_none : (transfer : Transfer) (name : List ℕ) → All NoStore (moves t now name transfer)
  moves_none transfer name =
      put_each t now NoStore (λ node. tt) (λ item. tt) transfer.replaced (deed.Relink transfer.node transfer.folder name) tt

  deleted_none : (node : Option ℕ) → All NoStore (discards t now node ++ besides t now node)
  deleted_none node =
      All-append NoStore (discards t now node) (besides t now node)
      (discards_each t now NoStore (λ node. tt) (λ item. tt) (row_at t node)) (besides_each t now NoStore (λ node. tt) (λ item. tt) (row_at t node))

-- ---- what is wanted

module _ (call : Call) (sound : AreSound call.state.tables) (is : IsAsking call) where
  abbrev all : Tables
  all = call.state.tables

  abbrev So : Allowed → Type 0
  So act = StoresSo all call.now act

  -- what is done where something is there
  where_there : {X : Type 0} (act : X → Allowed) (none : Allowed) (o : Option X) → So none → ((x : X) → So (act x)) → So (option_map_or act o none)
  where_there act none None nothing each = nothing
  where_there act none (Some x) nothing each = each x

  served_so : (mount node : Option ℕ) → So (served (access_of call.state) call mount node)
  served_so mount None = tt
  served_so mount (Some node) =
      cond_both (is_folder all.nodes node) (allowed.List (listing_of (access_of call.state) call mount node))
      (allowed.Get node (content_of all.nodes node)) So (λ folder. tt) (λ file. tt)

  stored_so : (by : By) (last : List ℕ) (length : ℕ) (place : Option Found) → So (stored by last length place)
  stored_so by last length None = tt
  stored_so by last length (Some (At node)) = tt
  stored_so by last length (Some (Free folder)) = tt
  stored_so by last length (Some (Missing depth)) = tt

  folder_so : (last : List ℕ) (place : Option Found) → So (made_folder all call.now last place)
  folder_so last None = tt
  folder_so last (Some (At node)) = tt
  folder_so last (Some (Free folder)) = tt
  folder_so last (Some (Missing depth)) = tt

  moved_so : (name : List ℕ) (o : Option Transfer) → So (moved all call.now name o)
  moved_so name o =
      where_there (λ transfer. done (carries all call.now name transfer) (made_or_done transfer.replaced)) allowed.Close o tt (λ transfer.
      inl (cond_both (crosses all.nodes transfer) (settled_by all (charged_for all transfer) (crossing all call.now name transfer))
      (moves all call.now name transfer) (All NoStore)
      (λ crosses. settled_none all call.now (charged_for all transfer) (crossing all call.now name transfer) (crossing_none all call.now transfer name))
      (λ stays. moves_none all call.now transfer name)))

  copied_so : (name : List ℕ) (o : Option Transfer) → So (copied all call.now name o)
  copied_so name o =
      where_there (λ transfer. done (copies_settled all call.now name transfer) (made_or_done transfer.replaced)) allowed.Close o tt (λ transfer.
      inl (settled_none all call.now (charged_for all transfer) (copies all call.now name transfer) (copies_none all call.now transfer name)))

  shared_so : (places : Places) (asked : ShareAsk) → So (shared (access_of call.state) call places asked)
  shared_so places (ask.New spot to perms until) =
      where_there (share_made (access_of call.state) call) nothing_done (offered call spot to perms until) tt (λ offer. tt)
  shared_so places (ask.List spot with_me) = tt
  shared_so places (ask.Show share) = where_there (share_told all []) nothing_done (share_shown call share) tt (λ row. tt)
  shared_so places (ask.Set share perms until) =
      where_there (λ (row : ShareRow). share_set all (perms_after all perms row) (until_after until row.until) row) nothing_done (share_steered call share)
      tt (λ row. tt)
  shared_so places (ask.End share) = where_there share_ended nothing_done (share_steered call share) tt (λ row. tt)

  people_so : (asked : PeopleAsk) → So (people_done all call.now asked)
  people_so (people.SetQuota name quota) =
      where_there (requoted all call.now quota) nothing_done (row_named all name) tt (λ row.
      cond_both (row.quota == quota) nothing_done (done (settled_by all (charged_to all quota row) (requoting all call.now quota row)) report.Plain) So
      (λ same. tt)
      (λ differs. inl (settled_none all call.now (charged_to all quota row) (requoting all call.now quota row) (requoting_none all call.now quota row))))
  people_so (people.NewUser name token quota) = tt
  people_so (people.NewGroup name) = tt
  people_so (people.AddMember user group) = tt
  people_so (people.DropMember user group) = tt
  people_so (people.AddToken user token) = tt

  trash_so : (asked : TrashAsk) → So (trash_done call asked)
  trash_so (trash.List user) = tt
  trash_so (trash.Drop user item) =
      where_there (item_dropped all call.now) nothing_done (own_item call item) tt (λ row. inl (purges_none (row.node ∷ gone_beside all call.now row)))
  trash_so (trash.Empty user) = inl (purges_none (map (λ item. item.node) (items_of all (asker_of call))))
  trash_so (trash.Restore user item) =
      where_there (item_restored all call.now) nothing_done (own_item call item) tt (λ row.
      inl (settled_none all call.now _ (restoring all call.now row) (restoring_none all call.now row)))

  version_so : (asked : VersionAsk) → So (version_done all call.now asked)
  version_so (version.List user node) = tt
  version_so (version.Get user node at) =
      where_there (λ (row : VersionRow). allowed.Get node row.content) nothing_done (version_row all.versions node at) tt (λ row. tt)
  version_so (version.Restore user node at) =
      where_there (brought_back all call.now node) nothing_done (version_row all.versions node at) tt (λ row. tt)

  upload_so : (asked : UploadAsk) → WantedPasses call (wanted.Upload asked) → So (upload_done call (places_at call (wanted.Upload asked)) asked)
  upload_so (upload.New user dir to) p = tt
  upload_so (upload.Chunk user dir name to length) p =
      where_there (chunk_sent (asker_of call) dir length) nothing_done (chunk_number name) tt (λ number. tt)
  upload_so (upload.Drop user dir) p = inl (All-cons NoStore (deed.Abandon (asker_of call) dir) [] tt (All-nil NoStore))
  upload_so (upload.Join dir spot total) p =
      inr (record {
        place = found call spot;
        name = last_name spot;
        user = asker_of call;
        dir = dir;
        placed = placed_at call spot sound is p.place.target p.place.in_folder;
        are = refl;
      })

  wanted_so : (wanted : Wanted) → WantedPasses call wanted → So (given (access_of call.state) call (places_at call wanted) wanted)
  wanted_so (wanted.Get spot) p = served_so (way_of call spot).mount (node_at (Some (found call spot)))
  wanted_so (wanted.Put spot length) p = stored_so (by_of call spot) (last_name spot) length (Some (found call spot))
  wanted_so (wanted.Mkcol spot) p = folder_so (last_name spot) (Some (found call spot))
  wanted_so (wanted.Delete spot) p =
      let way = way_of call spot in
      let node = node_at (places_at call (wanted.Delete spot)).source in
      cond_both way.itself (mount_left call way) (deleted all call.now node) So (λ itself. tt) (λ other. inl (deleted_none all call.now node))
  wanted_so (wanted.Move source target overwrite) p =
      let way = way_of call source in
      let led = transfer_of all.nodes (places_at call (wanted.Move source target overwrite)) in
      cond_both way.itself (mount_renamed call way (last_name target)) (moved all call.now (last_name target) led) So (λ itself. tt)
      (λ other. moved_so (last_name target) led)
  wanted_so (wanted.Copy source target overwrite) p =
      copied_so (last_name target) (transfer_of all.nodes (places_at call (wanted.Copy source target overwrite)))
  wanted_so (wanted.Share asked) p = shared_so (places_at call (wanted.Share asked)) asked
  wanted_so (wanted.People asked) p = people_so asked
  wanted_so (wanted.Trash asked) p = trash_so asked
  wanted_so (wanted.Version asked) p = version_so asked
  wanted_so (wanted.Upload asked) p = upload_so asked p

pub call_stores : (call : Call) (act : Allowed) → IsSound call.state → MayWant call.request → call_decision call ≡ Ok act
    → StoresSo call.state.tables call.now act
call_stores call act sound may is =
    let h = call_passes call act is in
    let asker = has_asker call h.0.token (place_passes (access_of call.state) call h.0.place).linked in
    subst (StoresSo call.state.tables call.now) h.1 (wanted_so call sound.rows asker call.request.wanted (wanted_passes call may h.0))
