-- Of a Begin that no rule refuses: which versions go behind its deeds, and that what it changes else touches none.
use Rattle.std.proofs.Common.{ℕ, ◌==◌, ◌≡◌, ◌≤◌, Bool, true, false, List, [], ◌∷◌, ◌++◌, map, Option, None, Some, Ok, if◌then◌else◌, inl, refl, sym, ap, subst, ◌∙◌, ◌&&◌, ◌⊎◌, inr, option_map, ◌≢◌}
use Rattle.std.specs.Option.{option_and_then, option_map_or}
use Rattle.std.proofs.lemmas.Bool.{cond_both, eqb-true, and_parts}
use Rattle.nf_base.specs.declared.rows.ItemRow.{ItemRow}
use Rattle.nf_base.specs.declared.rows.ShareRow.{ShareRow}
use Rattle.nf_base.specs.declared.rows.UserRow.{UserRow}
use Rattle.nf_defs.specs.Prelude.{content_of, is_folder, item_row, Tables, user_row, made, put_all, node_row, user_named}
use Rattle.nf_defs.specs.declared.Found.{Found}
use Rattle.nf_defs.specs.declared.Found.TheVariants.{At, Free, Missing}
use Rattle.nf_laws.proofs.Joining.{abandon_lower, IsPlaced, placed_at}
use Rattle.nf_laws.proofs.Recharged.{besides_lower, discards_lower, lower_append, purges_lower, IsLower, moves_less}
use Rattle.nf_words.proofs.Begins.{only_at, places_at, wanted_known, wanted_passes, WantedPasses}
use Rattle.nf_words.proofs.Fits.{within}
use Rattle.nf_words.proofs.Found.{found_passes}
use Rattle.nf_words.proofs.Known.{KnownCopies, KnownCross, KnownGoes, KnownRestore, KnownSettled}
use Rattle.nf_words.proofs.Passing.{call_passes, place_passes, quota_passes}
use Rattle.nf_words.proofs.Provided.{row_there}
use Rattle.nf_words.proofs.Starts.{has_asker, IsAsking}
use Rattle.nf_words.proofs.Transfers.{copies_known, transfer_known}
use Rattle.nf_words.proofs.Trashing.{own_there, back_known}
use Rattle.nf_words.specs.Prelude.{access_of, AreSound, asked_of, asked_of_trash, asker_of, assembled_at, besides, by_of, Call, call_decision, carry_excess, carry_limit, chunk_number, chunk_sent, copied, copy_excess, copy_limit, crosses, crossing, deepest_in, deleted, discards, exceeded, found, given, gone_beside, home_of, IsSound, item_dropped, item_if_of, item_restored, items_of, last_name, limited, listing_of, made_folder, MayWant, mount_left, mount_renamed, moved, move_limit, moves, name_back, node_at, nothing_done, offered, own_item, people_done, perms_after, purges, requoted, root_of, row_named, served, shared, share_ended, share_made, share_set, share_shown, share_steered, share_told, stored, transfer_of, trash_done, unfit_between, unreached, until_after, upload_done, way_of, whole_of, brought_back, charged, charged_for, charged_to, item_size, requoting, restoring, settled_by, version_done, version_row, done, copies, put_mounts, mounts_for, with_mount_row, left_row, named_row, own_mount, same_end, set_row, membership, joined_by, left_by, is_member, mounts_joined, refills, restore_limit}
use Rattle.nf_words.specs.declared.answer.Allowed.{Allowed}
use Rattle.nf_words.specs.declared.answer.Allowed.TheVariants as allowed
use Rattle.nf_words.specs.declared.answer.By.{By}
use Rattle.nf_words.specs.declared.answer.Report.{Report}
use Rattle.nf_words.specs.declared.answer.Report.TheVariants as report
use Rattle.nf_words.specs.declared.request.Making.TheVariants as making
use Rattle.nf_words.specs.declared.request.PeopleAsk.{PeopleAsk}
use Rattle.nf_words.specs.declared.request.PeopleAsk.TheVariants as people
use Rattle.nf_words.specs.declared.request.Places.{Places}
use Rattle.nf_words.specs.declared.request.ShareAsk.{ShareAsk}
use Rattle.nf_words.specs.declared.request.ShareAsk.TheVariants as ask
use Rattle.nf_words.specs.declared.request.Spot.{Spot}
use Rattle.nf_words.specs.declared.request.Transfer.{Transfer}
use Rattle.nf_words.specs.declared.request.TrashAsk.{TrashAsk}
use Rattle.nf_words.specs.declared.request.TrashAsk.TheVariants as trash
use Rattle.nf_words.specs.declared.request.UploadAsk.{UploadAsk}
use Rattle.nf_words.specs.declared.request.UploadAsk.TheVariants as upload
use Rattle.nf_words.specs.declared.request.Wanted.{Wanted}
use Rattle.nf_words.specs.declared.request.Wanted.TheVariants as wanted
use Rattle.nf_base.specs.declared.rows.VersionRow.{VersionRow}
use Rattle.nf_words.specs.declared.request.VersionAsk.{VersionAsk}
use Rattle.nf_words.specs.declared.request.VersionAsk.TheVariants as version
use Rattle.nf_words.specs.declared.answer.Deed.{Deed}
use Rattle.nf_words.specs.declared.answer.Deed.TheVariants as deed
use Rattle.nf_base.specs.declared.changes.Change.{Change}
use Rattle.nf_base.specs.declared.changes.Change.TheVariants.{Put, Drop}
use Rattle.nf_base.specs.declared.changes.RowKey.TheVariants as keys
use Rattle.nf_base.specs.declared.rows.Row.TheVariants as rows
use Rattle.nf_base.specs.declared.rows.MountRow.{MountRow}
use Rattle.nf_base.specs.declared.rows.MemberRow.{MemberRow}
use Rattle.nf_base.specs.declared.rows.NodeRow.{NodeRow}
use Rattle.nf_laws.proofs.Blobs.{AreOf, IsOf}
use Rattle.nf_laws.proofs.Puts.{other_number}
use Rattle.std.specs.List.{All}

-- ---- what touches no version

-- no version is put or dropped, no file has a content, and a user has a new number
abbrev IsTurnless : Tables → Change → Type 0
IsTurnless t (Put (rows.User row)) = row.id ≡ t.meta.next_user
IsTurnless t (Put (rows.Version row)) = ⊥
IsTurnless t (Drop (keys.User user)) = ⊥
IsTurnless t (Drop (keys.Version node at)) = ⊥
IsTurnless t other = IsOf [] other

abbrev pub AreTurnless : Tables → List Change → Type 0
AreTurnless t [] = Unit {0}
AreTurnless t (change ∷ changes) = IsTurnless t change × AreTurnless t changes

mounts_turnless : (t : Tables) (mounts : List MountRow) → AreTurnless t (put_mounts mounts)
mounts_turnless t [] = tt
mounts_turnless t (row ∷ mounts) = (tt, mounts_turnless t mounts)

one_of : (t : Tables) (change : Change) → IsTurnless t change → IsOf [] change
one_of t (Put (rows.User row)) it = tt
one_of t (Put (rows.Version row)) it = absurd it
one_of t (Drop (keys.User user)) it = absurd it
one_of t (Drop (keys.Version node at)) it = absurd it
one_of t other it = it

pub turnless_of : (t : Tables) (changes : List Change) → AreTurnless t changes → AreOf [] changes
turnless_of t [] all = tt
turnless_of t (change ∷ changes) all = (one_of t change all.0, turnless_of t changes all.1)

one_turnless : (first t : Tables) (change : Change) → IsTurnless first change → (made t change).versions ≡ t.versions
one_turnless first t (Put (rows.Version row)) it = absurd it
one_turnless first t (Put (rows.Meta row)) it = refl
one_turnless first t (Put (rows.User row)) it = refl
one_turnless first t (Put (rows.Token row)) it = refl
one_turnless first t (Put (rows.Group row)) it = refl
one_turnless first t (Put (rows.Member row)) it = refl
one_turnless first t (Put (rows.Node row)) it = refl
one_turnless first t (Put (rows.Share row)) it = refl
one_turnless first t (Put (rows.Mount row)) it = refl
one_turnless first t (Put (rows.Item row)) it = refl
one_turnless first t (Put (rows.Upload row)) it = refl
one_turnless first t (Put (rows.Chunk row)) it = refl
one_turnless first t (Drop (keys.Version node at)) it = absurd it
one_turnless first t (Drop key) it = refl

pub all_turnless : (first t : Tables) (changes : List Change) → AreTurnless first changes → (put_all t changes).versions ≡ t.versions
all_turnless first t [] all = refl
all_turnless first t (change ∷ changes) all = all_turnless first (made t change) changes all.1 ∙ one_turnless first t change all.0

-- a user who was there has the row that there was
one_user : (first t : Tables) (user : ℕ) (change : Change) → user ≢ first.meta.next_user → IsTurnless first change
    → user_row (made t change).users user ≡ user_row t.users user
one_user first t user (Put (rows.User row)) other it = other_number (λ (r : UserRow). r.id) row t.users user (λ same. other (same ∙ it))
one_user first t user (Put (rows.Version row)) other it = absurd it
one_user first t user (Put (rows.Meta row)) other it = refl
one_user first t user (Put (rows.Token row)) other it = refl
one_user first t user (Put (rows.Group row)) other it = refl
one_user first t user (Put (rows.Member row)) other it = refl
one_user first t user (Put (rows.Node row)) other it = refl
one_user first t user (Put (rows.Share row)) other it = refl
one_user first t user (Put (rows.Mount row)) other it = refl
one_user first t user (Put (rows.Item row)) other it = refl
one_user first t user (Put (rows.Upload row)) other it = refl
one_user first t user (Put (rows.Chunk row)) other it = refl
one_user first t user (Drop (keys.User gone)) other it = absurd it
one_user first t user (Drop (keys.Version node at)) other it = absurd it
one_user first t user (Drop key) other it = refl

pub users_turnless : (first t : Tables) (user : ℕ) (changes : List Change) → user ≢ first.meta.next_user → AreTurnless first changes
    → user_row (put_all t changes).users user ≡ user_row t.users user
users_turnless first t user [] other all = refl
users_turnless first t user (change ∷ changes) other all =
    users_turnless first (made t change) user changes other all.1 ∙ one_user first t user change other all.0

-- ---- how versions are settled

-- the deeds lower charges, and no version goes behind them; or a quota is another, an item comes back, or copies are put somewhere, and
-- those of one owner go that are beyond their bound then; or what the chunks of an upload have together is stored, with what that turns over
pub data AreSettledSo (t : Tables) (now : ℕ) : List Deed → Type 0 where
  by_none : (deeds : List Deed) → ((user : ℕ) → IsLower deeds t user) → AreSettledSo t now deeds
  by_quota : (row : UserRow) (quota : ℕ) → user_row t.users row.id ≡ Some row → (row.quota == quota) ≡ false
      → AreSettledSo t now (settled_by t (charged_to t quota row) (requoting t now quota row))
  by_return : (item : ItemRow) → item_row t.items item.node ≡ Some item → KnownRestore t item.node (home_of t item) (name_back t item)
      → KnownGoes t (gone_beside t now item) → All (λ (node : ℕ). item.node ≢ node) (gone_beside t now item)
      → AreSettledSo t now (settled_by t (charged t item.owner 0 (item_size t item)) (restoring t now item))
  by_copies : (transfer : Transfer) (name : List ℕ) → KnownCopies t transfer name
      → AreSettledSo t now (settled_by t (charged_for t transfer) (copies t now name transfer))
  by_join : (place : Found) (name : List ℕ) (user : ℕ) (dir : List ℕ) → IsPlaced t place
      → KnownSettled t now (deed.Store (assembled_at t now name (whole_of t.chunks user dir) place) ∷ deed.Abandon user dir ∷ [])
      → AreSettledSo t now (deed.Store (assembled_at t now name (whole_of t.chunks user dir) place) ∷ deed.Abandon user dir ∷ [])
  by_cross : (transfer : Transfer) (name : List ℕ) → KnownCross t transfer name
      → AreSettledSo t now (settled_by t (charged_for t transfer) (crossing t now name transfer))

-- a version is its file's content again
pub record IsBroughtBack (t : Tables) (now : ℕ) (changes : List Change) : Type 0 where
  pub node : ℕ
  pub row : NodeRow
  pub version : VersionRow
  pub there : node_row t.nodes node ≡ Some row
  pub was : version_row t.versions node version.at ≡ Some version
  pub are : changes ≡ refills t now (Some version.at) version.content row

abbrev pub SettlesSo : Tables → ℕ → Allowed → Type 0
SettlesSo t now (allowed.Change changes blob report) = (AreTurnless t changes × (blob ≡ None)) ⊎ IsBroughtBack t now changes
SettlesSo t now (allowed.Deeds deeds report) = AreSettledSo t now deeds
SettlesSo t now act = Unit {0}

module _ (call : Call) (source target : Spot) (sound : AreSound call.state.tables) (later : call.state.tables.meta.last ≤ call.now) (is : IsAsking call)
    (from_reached : unreached (access_of call.state) call (way_of call source) ≡ None)
    (to_reached : unreached (access_of call.state) call (way_of call target) ≡ None)
    (fits : unfit_between call.state.tables.nodes (root_of call) false (record { source = Some (way_of call source); target = Some (way_of call target) }) ≡ None) where
  abbrev t : Tables
  t = call.state.tables

  abbrev led : Option Transfer
  led = transfer_of t.nodes (record { source = Some (found call source); target = Some (found call target) })

  abbrev name : List ℕ
  name = last_name target

  copies_are : (transfer : Transfer) → led ≡ Some transfer → copy_limit t transfer ≡ None → KnownCopies t transfer name
  copies_are transfer e few = copies_known call source target sound is from_reached to_reached transfer e fits few

  copied_settles : option_and_then (copy_limit t) led ≡ None → option_and_then (copy_excess t) led ≡ None → SettlesSo t call.now (copied t call.now name led)
  copied_settles few none = here led refl few none
    where
      here : (o : Option Transfer) → led ≡ o → option_and_then (copy_limit t) o ≡ None → option_and_then (copy_excess t) o ≡ None
          → SettlesSo t call.now (copied t call.now name o)
      here None e few none = tt
      here (Some transfer) e few none = by_copies transfer name (copies_are transfer e few)

  moved_settles : option_and_then (carry_limit t) led ≡ None → option_and_then (carry_excess t) led ≡ None → SettlesSo t call.now (moved t call.now name led)
  moved_settles few none = here led refl few none
    where
      carried : (transfer : Transfer) → led ≡ Some transfer → (across : Bool) → crosses t.nodes transfer ≡ across
          → (if across then copy_limit t transfer else move_limit t transfer) ≡ None
          → AreSettledSo t call.now (if across then settled_by t (charged_for t transfer) (crossing t call.now name transfer)
          else moves t call.now name transfer)
      carried transfer e true across few = by_cross transfer name (record { copies = copies_are transfer e few; crosses = across })
      carried transfer e false stays few =
          let deep = (within t 0 (deepest_in t.nodes transfer.node transfer.folder) 0 0 0 few).deep in
          by_none (moves t call.now name transfer) (λ user.
          moves_less t call.now user transfer name sound later
          (record { known = transfer_known call source target sound is from_reached to_reached transfer e fits deep; within = stays }))

      here : (o : Option Transfer) → led ≡ o → option_and_then (carry_limit t) o ≡ None → option_and_then (carry_excess t) o ≡ None
          → SettlesSo t call.now (moved t call.now name o)
      here None e few none = tt
      here (Some transfer) e few none = carried transfer e (crosses t.nodes transfer) refl few

-- ---- what is wanted

module _ (call : Call) (sound : AreSound call.state.tables) (later : call.state.tables.meta.last ≤ call.now) (is : IsAsking call) where
  abbrev all : Tables
  all = call.state.tables

  abbrev DoesSo : Allowed → Type 0
  DoesSo act = SettlesSo all call.now act

  -- nothing is done
  none : DoesSo nothing_done
  none = inl (tt, refl)

  -- a mount's row is another, if it is there
  mounting_settles : (o : Option MountRow) (told : Report) → DoesSo (with_mount_row o told)
  mounting_settles None told = inl (tt, refl)
  mounting_settles (Some row) told = inl ((tt, tt), refl)

  -- what is done where something is there
  where_there : {X : Type 0} (act : X → Allowed) (none : Allowed) (o : Option X) → DoesSo none → ((x : X) → DoesSo (act x))
      → DoesSo (option_map_or act o none)
  where_there act none None nothing each = nothing
  where_there act none (Some x) nothing each = each x

  purged_settles : (nodes : List ℕ) (told : Report) → DoesSo (allowed.Deeds (purges nodes) told)
  purged_settles nodes told = by_none (purges nodes) (purges_lower nodes all)

  served_settles : (mount node : Option ℕ) → DoesSo (served (access_of call.state) call mount node)
  served_settles mount None = tt
  served_settles mount (Some node) =
      cond_both (is_folder all.nodes node) (allowed.List (listing_of (access_of call.state) call mount node))
      (allowed.Get node (content_of all.nodes node)) DoesSo (λ folder. tt) (λ file. tt)

  stored_settles : (by : By) (last : List ℕ) (length : ℕ) (place : Found) → DoesSo (stored by last length (Some place))
  stored_settles by last length (At node) = tt
  stored_settles by last length (Free folder) = tt
  stored_settles by last length (Missing depth) = tt

  folder_settles : (last : List ℕ) (place : Found) → DoesSo (made_folder all call.now last (Some place))
  folder_settles last (At node) = tt
  folder_settles last (Free folder) = inl ((refl, tt), refl)
  folder_settles last (Missing depth) = tt

  delete_settles : (spot : Spot) (itself : Bool) → DoesSo (if itself then mount_left call (way_of call spot)
      else deleted all call.now (node_at (only_at itself (found call spot)).source))
  delete_settles spot true = mounting_settles (option_map left_row (own_mount call (way_of call spot).mount)) report.Done
  delete_settles spot false =
      let node = node_at (Some (found call spot)) in
      by_none (discards all call.now node ++ besides all call.now node)
      (lower_append (discards all call.now node) (besides all call.now node) (discards_lower all call.now node) (besides_lower all call.now node) all)

  move_settles : (source to : Spot) (itself : Bool)
      → (itself ≡ false → unreached (access_of call.state) call (way_of call source) ≡ None)
      → unreached (access_of call.state) call (way_of call to) ≡ None
      → unfit_between all.nodes (root_of call) itself (record { source = Some (way_of call source); target = Some (way_of call to) }) ≡ None
      → (places : Places)
      → places ≡ (if itself then record { source = None; target = None } else record { source = Some (found call source); target = Some (found call to) })
      → limited all places making.Moved ≡ None → exceeded all places making.Moved ≡ None
      → DoesSo (if itself then mount_renamed call (way_of call source) (last_name to) else moved all call.now (last_name to) (transfer_of all.nodes places))
  move_settles source to true from_reached to_reached fits places at few fits_so =
      mounting_settles (option_map (named_row (last_name to)) (own_mount call (way_of call source).mount)) report.Made
  move_settles source to false from_reached to_reached fits places at few fits_so =
      subst (λ (p : Places). limited all p making.Moved ≡ None → exceeded all p making.Moved ≡ None → DoesSo (moved all call.now (last_name to) (transfer_of all.nodes p)))
      (sym at) (moved_settles call source to sound later is (from_reached refl) to_reached fits) few fits_so

  shared_settles : (places : Places) (asked : ShareAsk) → DoesSo (shared (access_of call.state) call places asked)
  shared_settles places (ask.New spot to perms until) =
      where_there (share_made (access_of call.state) call) nothing_done (offered call spot to perms until) none
      (λ offer. inl ((tt, mounts_turnless all (mounts_for all offer)), refl))
  shared_settles places (ask.List spot with_me) = none
  shared_settles places (ask.Show share) = where_there (share_told all []) nothing_done (share_shown call share) none (λ row. inl (tt, refl))
  shared_settles places (ask.Set share perms until) =
      where_there (λ (row : ShareRow). share_set all (perms_after all perms row) (until_after until row.until) row) nothing_done (share_steered call share)
      none (λ row.
      let until = until_after until row.until in
      let perms = perms_after all perms row in
      inl (
        cond_both (perms == row.perms && same_end until row.until) [] (Put (rows.Share (set_row perms until row)) ∷ []) (AreTurnless all)
            (λ same. tt) (λ other. (tt, tt)),
        refl,
      ))
  shared_settles places (ask.End share) = where_there share_ended nothing_done (share_steered call share) none (λ row. inl ((tt, tt), refl))

  requoted_settles : (quota : ℕ) (row : UserRow) → user_row all.users row.id ≡ Some row → DoesSo (requoted all call.now quota row)
  requoted_settles quota row there =
      cond_both (row.quota == quota) nothing_done (done (settled_by all (charged_to all quota row) (requoting all call.now quota row)) report.Plain)
      DoesSo (λ same. none) (λ differs. by_quota row quota there differs)

  people_settle : (asked : PeopleAsk) → DoesSo (people_done all call.now asked)
  people_settle (people.SetQuota name quota) = here (row_named all name) refl
    where
      here : (o : Option UserRow) → row_named all name ≡ o → DoesSo (option_map_or (requoted all call.now quota) o nothing_done)
      here None e = none
      here (Some row) e = requoted_settles quota row (row_there all call.now sound name row e)
  people_settle (people.NewUser name token quota) = inl ((refl, (refl, (tt, tt))), refl)
  people_settle (people.NewGroup name) = inl ((tt, tt), refl)
  people_settle (people.AddMember user group) = inl (here (membership all user group), refl)
    where
      here : (o : Option MemberRow) → AreTurnless all (option_map_or (joined_by all) o [])
      here None = tt
      here (Some row) =
          cond_both (is_member all row) [] (Put (rows.Member row) ∷ put_mounts (mounts_joined all row)) (AreTurnless all) (λ is. tt)
          (λ not. (tt, mounts_turnless all (mounts_joined all row)))
  people_settle (people.DropMember user group) = inl (here (membership all user group), refl)
    where
      here : (o : Option MemberRow) → AreTurnless all (option_map_or (left_by all) o [])
      here None = tt
      here (Some row) =
          cond_both (is_member all row) (Drop (keys.Member row.group row.user) ∷ []) [] (AreTurnless all) (λ is. (tt, tt)) (λ not. tt)
  people_settle (people.AddToken user token) = inl (here (user_named all.users user), refl)
    where
      here : (o : Option ℕ) → AreTurnless all (option_map_or (λ user. Put (rows.Token (record { digest = token; user = user })) ∷ []) o [])
      here None = tt
      here (Some id) = (tt, tt)

  -- an item that comes back passes no quota
  restored_settles : (user item : ℕ) (o : Option ItemRow) → option_and_then (item_if_of user) (item_row all.items item) ≡ o
      → option_and_then (restore_limit all) (item_row all.items item) ≡ None → DoesSo (option_map_or (item_restored all call.now) o nothing_done)
  restored_settles user item None is few = none
  restored_settles user item (Some row) is few =
      let found = own_there all sound user item row is in
      let back = back_known all sound call.now user item row is few in
      by_return row (ap (item_row all.items) (eqb-true row.node item (found_passes (λ (row : ItemRow). row.node == item) all.items row found)) ∙ found)
      back.restore back.goes back.others

  trash_settles : (places : Places) (asked : TrashAsk) → limited all places (asked_of_trash asked).makes ≡ None → DoesSo (trash_done call asked)
  trash_settles places (trash.List user) fits = none
  trash_settles places (trash.Drop user item) fits =
      where_there (item_dropped all call.now) nothing_done (own_item call item) none (λ row. purged_settles (row.node ∷ gone_beside all call.now row) report.Done)
  trash_settles places (trash.Empty user) fits = purged_settles (map (λ item. item.node) (items_of all (asker_of call))) report.Done
  trash_settles places (trash.Restore user item) fits = restored_settles (asker_of call) item (own_item call item) refl fits

  version_settles : (asked : VersionAsk) → DoesSo (version_done all call.now asked)
  version_settles (version.List user node) = none
  version_settles (version.Get user node at) =
      where_there (λ (row : VersionRow). allowed.Get node row.content) nothing_done (version_row all.versions node at) none (λ row. tt)
  version_settles (version.Restore user node at) = here (version_row all.versions node at) refl
    where
      back : (version : VersionRow) → version_row all.versions node at ≡ Some version → (o : Option NodeRow) → node_row all.nodes node ≡ o
          → DoesSo (allowed.Change (option_map_or (refills all call.now (Some version.at) version.content) o []) None report.Done)
      back version e None there = none_so
        where
          none_so : DoesSo (allowed.Change [] None report.Done)
          none_so = inl (tt, refl)
      back version e (Some row) there =
          let at_is : version.at ≡ at = eqb-true version.at at
          (and_parts (version.node == node) (version.at == at)
          (found_passes (λ (row : VersionRow). row.node == node && row.at == at) all.versions version e)).1 in
          inr (record {
            node = node;
            row = row;
            version = version;
            there = there;
            was = ap (version_row all.versions node) at_is ∙ e;
            are = refl;
          })

      here : (o : Option VersionRow) → version_row all.versions node at ≡ o → DoesSo (option_map_or (brought_back all call.now node) o nothing_done)
      here None e = none
      here (Some version) e = back version e (node_row all.nodes node) refl

  upload_settles : (asked : UploadAsk) → WantedPasses call (wanted.Upload asked)
      → DoesSo (upload_done call (places_at call (wanted.Upload asked)) asked)
  upload_settles (upload.New user dir to) p = inl ((tt, tt), refl)
  upload_settles (upload.Chunk user dir name to length) p =
      where_there (chunk_sent (asker_of call) dir length) nothing_done (chunk_number name) none (λ number. tt)
  upload_settles (upload.Drop user dir) p = by_none (deed.Abandon (asker_of call) dir ∷ []) (abandon_lower (asker_of call) dir all)
  upload_settles (upload.Join dir spot total) p =
      by_join (found call spot) (last_name spot) (asker_of call) dir (placed_at call spot sound is p.place.target p.place.in_folder)
      (wanted_known call sound is (wanted.Upload (upload.Join dir spot total)) p)

  wanted_settles : (wanted : Wanted) → WantedPasses call wanted → exceeded all (places_at call wanted) (asked_of wanted).makes ≡ None
      → DoesSo (given (access_of call.state) call (places_at call wanted) wanted)
  wanted_settles (wanted.Get spot) p fits = served_settles (way_of call spot).mount (node_at (Some (found call spot)))
  wanted_settles (wanted.Put spot length) p fits = stored_settles (by_of call spot) (last_name spot) length (found call spot)
  wanted_settles (wanted.Mkcol spot) p fits = folder_settles (last_name spot) (found call spot)
  wanted_settles (wanted.Delete spot) p fits = delete_settles spot (way_of call spot).itself
  wanted_settles (wanted.Move source to overwrite) p fits =
      move_settles source to (way_of call source).itself p.place.source p.place.target p.fits (places_at call (wanted.Move source to overwrite)) refl p.few fits
  wanted_settles (wanted.Copy source to overwrite) p fits =
      copied_settles call source to sound later is (p.place.source refl) p.place.target p.fits p.few fits
  wanted_settles (wanted.Share asked) p fits = shared_settles (places_at call (wanted.Share asked)) asked
  wanted_settles (wanted.People asked) p fits = people_settle asked
  wanted_settles (wanted.Trash asked) p fits = trash_settles (places_at call (wanted.Trash asked)) asked p.few
  wanted_settles (wanted.Version asked) p fits = version_settles asked
  wanted_settles (wanted.Upload asked) p fits = upload_settles asked p

pub call_settles : (call : Call) (act : Allowed) → IsSound call.state → call.state.tables.meta.last ≤ call.now → MayWant call.request
    → call_decision call ≡ Ok act → SettlesSo call.state.tables call.now act
call_settles call act sound later may is =
    let h = call_passes call act is in
    let asker = has_asker call h.0.token (place_passes (access_of call.state) call h.0.place).linked in
    subst (SettlesSo call.state.tables call.now) h.1
    (wanted_settles call sound.rows later asker call.request.wanted (wanted_passes call may h.0) (quota_passes (access_of call.state) call h.0.quota).0)
