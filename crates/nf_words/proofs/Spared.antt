-- What a step that no rule refuses leaves to the others who hold something.
use Rattle.std.proofs.Common.{◌≡◌, ◌≢◌, ℕ, ◌≤◌, ◌==◌, ◌&&◌, not, find, filter, get_or, Bool, true, false, List, [], ◌∷◌, ◌++◌, length, suc, Option, Ok, Result, if◌then◌else◌, refl, sym, subst, arith, ◌⊎◌, inl, inr, map, flat_map}
use Rattle.std.specs.Prelude.{None, Some, IsNone, nat_lt, option_and_then, option_map}
use Rattle.std.specs.List.{All, AllPairs, list_any}
use Rattle.std.specs.Option.{IfSome, option_map_or}
use Rattle.std.proofs.lemmas.Bool.{both_ways, cond_both, eqb-true, not-true}
use Rattle.std.proofs.lemmas.List.Elements.{All-append, All-cons, All-filter, All-head, All-map, All-nil, All-tail, All-weaker, filter_passes}
use Rattle.std.proofs.lemmas.Option.{none-some, same_Some}
use Rattle.nf_base.specs.declared.changes.Change.{Change}
use Rattle.nf_base.specs.declared.changes.Change.TheVariants.{Drop, Put}
use Rattle.nf_base.specs.declared.changes.RowKey.TheVariants as keys
use Rattle.nf_base.specs.declared.content.Piece.{Piece}
use Rattle.nf_base.specs.declared.rows.NodeKind.TheVariants.{Folder}
use Rattle.nf_base.specs.declared.rows.MemberRow.{MemberRow}
use Rattle.nf_base.specs.declared.rows.MountRow.{MountRow}
use Rattle.nf_base.specs.declared.rows.NodeRow.{NodeRow}
use Rattle.nf_base.specs.declared.rows.Row.TheVariants as rows
use Rattle.nf_base.specs.declared.rows.UploadRow.{UploadRow}
use Rattle.nf_base.specs.declared.rows.UserRow.{UserRow}
use Rattle.nf_defs.specs.Prelude.{Access, content_of, is_folder, is_under, node_row, Tables, user_named, walk_of}
use Rattle.nf_defs.specs.declared.Found.{Found}
use Rattle.nf_defs.specs.declared.Found.TheVariants.{At, Free, Missing}
use Rattle.nf_words.proofs.Begins.{delete_leaves, only_at, places_at, wanted_passes, WantedPasses}
use Rattle.nf_words.proofs.Found.{found_has, found_passes}
use Rattle.nf_words.proofs.Fits.{within}
use Rattle.nf_words.proofs.Known.{IsItem, KnownLeaving, KnownTransfer}
use Rattle.nf_words.proofs.Passing.{place_passes, call_passes, no_key, not_refused}
use Rattle.nf_words.proofs.Starts.{has_asker, IsAsking}
use Rattle.nf_words.proofs.Steps.{fails_each}
use Rattle.nf_words.proofs.Transfers.{copies_known, replaced_leaves, row_leaves, transfer_known}
use Rattle.nf_words.specs.Prelude.{access_of, AreApartHolds, AreKeysApart, AreSound, asked_by, asked_of, asked_of_trash, asker_of, beside, besides, blob_for, blocks, by_of, Call, call_decision, call_of, carry_limit, clashes, content_in, copied, copies, copies_to, copy_limit, crosses, crossing, decision_of, deepest_in, deleted, discard, discards, done, end_decision, ended_row, end_refusal, ends_at, ends_goal, found, given, goes_itself, gone_beside, gone_from, gone_of, HoldsFor, home_of, is_member, IsSound, IsTicketSound, item_dropped, item_for, item_restored, items_of, joined_by, key_in_way, last_name, least, left_by, left_row, lesser, limited, listing_of, locked_rule, made_folder, MayAsk, MayWant, membership, mount_left, mount_renamed, mounts_for, mounts_joined, moved, move_limit, moves, name_back, named_row, new_root, new_share, new_user, node_at, node_of_key, nothing_done, offered, owners_of, own_item, own_mount, people_changed, people_done, perms_after, pieces_in, places_of, purges, put_mounts, requoted, restore_touches, root_of, row_at, row_named, same_end, served, set_row, shared, share_ended, share_made, share_set, share_shown, share_steered, share_told, source_touches, State, stored, stored_at, swept, target_touches, ticket_of, Touch, touched, touches, touch_key, touch_under, transfer_of, transfer_touches, trash_done, unfit_between, unreached, until_after, way_of, with_mount_row, without, without_ticket, asked_of_version, brought_back, charged, charged_for, charged_to, item_size, refills, requoting, restoring, settled_by, version_done, version_row, abandons, assembled_at, asked_of_upload, chunk_number, chunk_refusal, chunk_sent, chunk_stored, is_idle, upload_done, upload_row, whole_of}
use Rattle.nf_words.specs.declared.answer.Allowed.{Allowed}
use Rattle.nf_words.specs.declared.answer.Allowed.TheVariants as allowed
use Rattle.nf_words.specs.declared.answer.By.{By}
use Rattle.nf_words.specs.declared.answer.Denial.{Denial}
use Rattle.nf_words.specs.declared.answer.Goal.{Goal}
use Rattle.nf_words.specs.declared.answer.Goal.TheVariants.{Chunk, Serve, Store}
use Rattle.nf_words.specs.declared.answer.Hold.{Hold}
use Rattle.nf_words.specs.declared.answer.LockKey.{LockKey}
use Rattle.nf_words.specs.declared.answer.LockKey.TheVariants.{Node, Slot}
use Rattle.nf_words.specs.declared.answer.Mode.{Mode}
use Rattle.nf_words.specs.declared.answer.Mode.TheVariants.{Exclusive, Shared}
use Rattle.nf_words.specs.declared.answer.Report.{Report}
use Rattle.nf_words.specs.declared.answer.Report.TheVariants as report
use Rattle.nf_words.specs.declared.request.Making.TheVariants as making
use Rattle.nf_words.specs.declared.request.Spot.{Spot}
use Rattle.nf_words.specs.declared.history.Event.{Event}
use Rattle.nf_words.specs.declared.history.Event.TheVariants.{Begin, End, Sweep}
use Rattle.nf_words.specs.declared.history.Outcome.{Outcome}
use Rattle.nf_words.specs.declared.history.Outcome.TheVariants.{Body, Gone, Sent}
use Rattle.nf_words.specs.declared.history.Ticket.{Ticket}
use Rattle.nf_base.specs.declared.rows.ShareRow.{ShareRow}
use Rattle.nf_words.specs.declared.request.Offer.{Offer}
use Rattle.nf_words.specs.declared.request.PeopleAsk.{PeopleAsk}
use Rattle.nf_words.specs.declared.request.PeopleAsk.TheVariants as people
use Rattle.nf_words.specs.declared.request.Places.{Places}
use Rattle.nf_words.specs.declared.request.ShareAsk.{ShareAsk}
use Rattle.nf_words.specs.declared.request.ShareAsk.TheVariants as ask
use Rattle.nf_base.specs.declared.limits.TheConstants.{MAX_DEPTH}
use Rattle.nf_words.specs.declared.answer.Limit.{Limit}
use Rattle.nf_words.specs.declared.request.Transfer.{Transfer}
use Rattle.nf_words.specs.declared.request.Wanted.{Wanted}
use Rattle.nf_words.specs.declared.request.Wanted.TheVariants.{Copy, Delete, Get, Mkcol, Move}
use Rattle.nf_words.specs.declared.request.Wanted.TheVariants as wanted
pub use Rattle.nf_words.proofs.Sparing.{same_self, Spares, SparesChange, SparesDeed, SparesRow, SparesTarget, SparesUnder}
use Rattle.nf_words.proofs.Sparing.{chunk_spared, file_spared, new_spared, no_other, other_key, over_spared, refills_spared, settled_spared, alone, apart}
use Rattle.nf_words.proofs.Sweeping.{swept_goes}
use Rattle.nf_words.proofs.Trashing.{beside_goes, emptied_items, own_is, own_there, rest_goes, user_goes}
use Rattle.nf_base.specs.declared.rows.ItemRow.{ItemRow}
use Rattle.nf_words.specs.declared.answer.Deed.{Deed}
use Rattle.nf_words.specs.declared.answer.Deed.TheVariants as deed
use Rattle.nf_words.specs.declared.request.TrashAsk.{TrashAsk}
use Rattle.nf_words.specs.declared.request.UploadAsk.{UploadAsk}
use Rattle.nf_words.specs.declared.request.UploadAsk.TheVariants as upload
use Rattle.nf_words.specs.declared.request.VersionAsk.{VersionAsk}
use Rattle.nf_words.specs.declared.request.VersionAsk.TheVariants as version
use Rattle.nf_base.specs.declared.rows.VersionRow.{VersionRow}
use Rattle.nf_words.specs.declared.request.TrashAsk.TheVariants as trash

-- ---- what a Begin leaves alone

-- none of some touches clashes with what is held
abbrev IsClear : Tables → Hold → List Touch → Type 0
IsClear t hold touches = list_any (λ touch. clashes t.nodes touch hold) touches ≡ false

-- a key that is touched is another, or both read
key_apart : (t : Tables) (hold : Hold) (key : LockKey) (mode : Mode) (others : List Touch) → IsClear t hold (touch_key key mode ∷ others)
    → AreKeysApart key mode hold.key hold.mode
key_apart t hold key mode others clear =
    apart key mode hold (no_other (λ touch. clashes t.nodes touch hold) (touch_key key mode) others clear).0

-- what is held isn't under a node that is touched alone with all under it
under_spared : (t : Tables) (hold : Hold) (node : ℕ) (others : List Touch) → IsClear t hold (touch_under node Exclusive ∷ others)
    → SparesUnder t hold.key node
under_spared t hold node others clear =
    alone (is_under t.nodes (node_of_key hold.key) node) hold.mode
    (no_other (λ touch. clashes t.nodes touch hold) (touch_under node Exclusive) others clear).0

served_spares : (access : Access) (call : Call) (hold : Hold) (mount node : Option ℕ)
    → IsClear call.state.tables hold (option_map_or (source_touches call.state.tables.nodes false) node [])
    → Spares call.state.tables call.now hold (served access call mount node)
served_spares access call hold mount None clear = tt
served_spares access call hold mount (Some node) clear = here (is_folder t.nodes node) clear
  where
    t : Tables
    t = call.state.tables

    here : (folds : Bool) → IsClear t hold (if folds then [] else touch_key (Node node) Shared ∷ [])
        → Spares t call.now hold (if folds then allowed.List (listing_of access call mount node) else allowed.Get node (content_of t.nodes node))
    here true clear = tt
    here false clear = key_apart t hold (Node node) Shared [] clear

stored_spares : (t : Tables) (now : ℕ) (hold : Hold) (by : By) (name : List ℕ) (length : ℕ) (place : Found)
    → IsClear t hold (target_touches name place) → Spares t now hold (stored by name length (Some place))
stored_spares t now hold by name length (At node) clear = key_apart t hold (Node node) Exclusive [] clear
stored_spares t now hold by name length (Free folder) clear = key_apart t hold (Slot folder name) Exclusive [] clear
stored_spares t now hold by name length (Missing depth) clear = tt

folder_spares : (t : Tables) (now : ℕ) (hold : Hold) (name : List ℕ) (place : Found)
    → IsClear t hold (target_touches name place) → Spares t now hold (made_folder t now name (Some place))
folder_spares t now hold name (At node) clear = tt
folder_spares t now hold name (Free folder) clear =
    new_spared t now folder name Folder [] hold []
    (other_key (Slot folder name) hold (key_apart t hold (Slot folder name) Exclusive [] clear)) (All-nil (SparesChange t hold.key))
folder_spares t now hold name (Missing depth) clear = tt

-- those that go of whom nothing else is known are items
module _ (t : Tables) (now : ℕ) (hold : Hold) where
  abbrev IsLeft : Deed → Type 0
  IsLeft one = SparesDeed t now hold.key one

  gone_spared : (nodes : List ℕ) → All (IsItem t) nodes → All IsLeft (purges nodes)
  gone_spared nodes all =
      All-map IsLeft (λ (node : ℕ). deed.Purge node) nodes
      (All-weaker (IsItem t) (λ (node : ℕ). IsItem t node ⊎ SparesUnder t hold.key node) (λ node is. inl is) nodes all)

  -- what is put in the trash, or goes, is touched with all under it
  discard_spares : (row : NodeRow) → SparesUnder t hold.key row.id → IsLeft (discard t now row)
  discard_spares row under =
      cond_both (goes_itself t now row) (deed.Purge row.id) (deed.Discard (item_for now row)) IsLeft (λ e. inr under) (λ e. under)

  -- what leaves its place, if anything does
  module _ (sound : AreSound t) where
    discards_spare : (node : Option ℕ) → IfSome node (SparesUnder t hold.key) → All IsLeft (discards t now node)
    discards_spare None under = All-nil IsLeft
    discards_spare (Some node) under = here (node_row t.nodes node) refl
      where
        here : (o : Option NodeRow) → node_row t.nodes node ≡ o → All IsLeft (option_map_or (λ row. discard t now row ∷ []) o [])
        here None e = All-nil IsLeft
        here (Some row) e =
            let id : row.id ≡ node = eqb-true row.id node (found_passes (λ (row : NodeRow). row.id == node) t.nodes row e) in
            All-cons IsLeft (discard t now row) [] (discard_spares row (subst (SparesUnder t hold.key) (sym id) under)) (All-nil IsLeft)

    besides_spare : (node : Option ℕ) → ((row : NodeRow) → row_at t node ≡ Some row → KnownLeaving t row) → All IsLeft (besides t now node)
    besides_spare node known = here (row_at t node) refl
      where
        here : (o : Option NodeRow) → row_at t node ≡ o → All IsLeft (option_map_or (beside t now) o [])
        here None e = All-nil IsLeft
        here (Some row) e = gone_spared _ (rest_goes t sound now row (known row e)).items

deleted_spares : (t : Tables) (now : ℕ) (hold : Hold) (node : Option ℕ) → AreSound t → ((row : NodeRow) → row_at t node ≡ Some row → KnownLeaving t row)
    → IsClear t hold (option_map_or (source_touches t.nodes true) node []) → Spares t now hold (deleted t now node)
deleted_spares t now hold node sound known clear =
    All-append (SparesDeed t now hold.key) (discards t now node) (besides t now node) (discards_spare t now hold sound node (here node clear))
    (besides_spare t now hold sound node known)
  where
    here : (node : Option ℕ) → IsClear t hold (option_map_or (source_touches t.nodes true) node []) → IfSome node (SparesUnder t hold.key)
    here None clear = tt
    here (Some node) clear = under_spared t hold node [] clear

-- what is replaced, if anything is
abbrev gone_touches : Option ℕ → List Touch
gone_touches replaced = option_map_or (λ node. touch_under node Exclusive ∷ []) replaced []

target_spared : (t : Tables) (hold : Hold) (name : List ℕ) (transfer : Transfer)
    → IsClear t hold (touch_key (Slot transfer.folder name) Exclusive ∷ gone_touches transfer.replaced)
    → SparesTarget t hold.key transfer name
target_spared t hold name transfer clear =
    let slot = key_apart t hold (Slot transfer.folder name) Exclusive (gone_touches transfer.replaced) clear in
    let rest = (no_other (λ touch. clashes t.nodes touch hold) (touch_key (Slot transfer.folder name) Exclusive) (gone_touches transfer.replaced) clear).1 in
    record { slot = other_key (Slot transfer.folder name) hold slot; replaced = here transfer.replaced rest }
  where
    here : (replaced : Option ℕ) → IsClear t hold (gone_touches replaced) → IfSome replaced (SparesUnder t hold.key)
    here None clear = tt
    here (Some node) clear = under_spared t hold node [] clear

-- of what is moved or copied, what is put at the target
transfer_spared : (t : Tables) (hold : Hold) (mode : Mode) (name : List ℕ) (transfer : Transfer)
    → IsClear t hold (transfer_touches mode name transfer) → SparesTarget t hold.key transfer name
transfer_spared t hold mode name transfer clear =
    target_spared t hold name transfer
    (no_other (λ touch. clashes t.nodes touch hold) (touch_under transfer.node mode)
    (touch_key (Slot transfer.folder name) Exclusive ∷ gone_touches transfer.replaced) clear).1

-- what becomes of a mount leaves all nodes alone
mount_spares : (t : Tables) (now : ℕ) (hold : Hold) (row : Option MountRow) (told : Report) → Spares t now hold (with_mount_row row told)
mount_spares t now hold None told = All-nil (SparesChange t hold.key)
mount_spares t now hold (Some row) told =
    All-cons (SparesChange t hold.key) (Put (rows.Mount row)) [] tt (All-nil (SparesChange t hold.key))

module _ (call : Call) (hold : Hold) (sound : AreSound call.state.tables) (is : IsAsking call) where
  abbrev t : Tables
  t = call.state.tables

  abbrev IsSpared : Allowed → Type 0
  IsSpared act = Spares t call.now hold act

  abbrev led : Spot → Spot → Places
  led from to = record { source = Some (found call from); target = Some (found call to) }

  abbrev nowhere : Places
  nowhere = record { source = None; target = None }

  delete_spares : (spot : Spot) (b : Bool) → IsClear t hold (option_map_or (source_touches t.nodes true) (node_at (only_at b (found call spot)).source) [])
      → ((row : NodeRow) → row_at t (node_at (only_at b (found call spot)).source) ≡ Some row → KnownLeaving t row)
      → IsSpared (if b then mount_left call (way_of call spot) else deleted t call.now (node_at (only_at b (found call spot)).source))
  delete_spares spot true clear known =
      mount_spares t call.now hold (option_map left_row (own_mount call (way_of call spot).mount)) report.Done
  delete_spares spot false clear known = deleted_spares t call.now hold (node_at (Some (found call spot))) sound known clear

  -- a transfer that a rule let pass: what is replaced, and what is put in its place
  replaced_spares : (transfer : Transfer) (name : List ℕ) (one : Deed) → KnownTransfer t transfer name → SparesTarget t hold.key transfer name
      → SparesDeed t call.now hold.key one
      → All (SparesDeed t call.now hold.key) (discards t call.now transfer.replaced ++ one ∷ besides t call.now transfer.replaced)
  replaced_spares transfer name one known target left =
      All-append (SparesDeed t call.now hold.key) (discards t call.now transfer.replaced) (one ∷ besides t call.now transfer.replaced)
      (discards_spare t call.now hold sound transfer.replaced target.replaced)
      (All-cons (SparesDeed t call.now hold.key) one (besides t call.now transfer.replaced) left
      (besides_spare t call.now hold sound transfer.replaced (replaced_leaves t sound transfer name known)))

  copied_spares : (transfer : Transfer) (name : List ℕ) → KnownTransfer t transfer name → SparesTarget t hold.key transfer name
      → All (SparesDeed t call.now hold.key) (copies t call.now name transfer)
  copied_spares transfer name known target =
      replaced_spares transfer name (deed.Join (copies_to t call.now transfer name)) known target (transfer, name, refl, target.slot)

  carried_spares : (to : Spot) (transfer : Option Transfer) → option_and_then (carry_limit t) transfer ≡ None
      → ((one : Transfer) → transfer ≡ Some one → (if crosses t.nodes one then copy_limit t one else move_limit t one) ≡ None
      → KnownTransfer t one (last_name to))
      → IsClear t hold (option_map_or (transfer_touches Exclusive (last_name to)) transfer [])
      → IsSpared (moved t call.now (last_name to) transfer)
  carried_spares to None few known clear = tt
  carried_spares to (Some transfer) few known clear = here (crosses t.nodes transfer)
    where
      name : List ℕ
      name = last_name to

      IsLeft : Deed → Type 0
      IsLeft one = SparesDeed t call.now hold.key one

      is_known : KnownTransfer t transfer name
      is_known = known transfer refl few

      under : SparesUnder t hold.key transfer.node
      under = under_spared t hold transfer.node (touch_key (Slot transfer.folder name) Exclusive ∷ gone_touches transfer.replaced) clear

      target : SparesTarget t hold.key transfer name
      target = transfer_spared t hold Exclusive name transfer clear

      here : (b : Bool) → All (SparesDeed t call.now hold.key)
          (if b then settled_by t (charged_for t transfer) (crossing t call.now name transfer) else moves t call.now name transfer)
      here false = replaced_spares transfer name (deed.Relink transfer.node transfer.folder name) is_known target (under, target.slot)
      here true =
          let joins : Deed = deed.Join (copies_to t call.now transfer name) in
          let source : List Deed = discards t call.now (Some transfer.node) in
          let first : List Deed = besides t call.now transfer.replaced in
          let last : List Deed = besides t call.now (Some transfer.node) in
          settled_spared t call.now hold.key (charged_for t transfer) (crossing t call.now name transfer)
          (All-append IsLeft (discards t call.now transfer.replaced) (joins ∷ (source ++ (first ++ last)))
          (discards_spare t call.now hold sound transfer.replaced target.replaced)
          (All-cons IsLeft joins (source ++ (first ++ last)) (transfer, name, refl, target.slot)
          (All-append IsLeft source (first ++ last) (discards_spare t call.now hold sound (Some transfer.node) under)
          (All-append IsLeft first last (besides_spare t call.now hold sound transfer.replaced (replaced_leaves t sound transfer name is_known))
          (besides_spare t call.now hold sound (Some transfer.node)
          (λ row there. row_leaves t row transfer.node there is_known.no_root is_known.present))))))

  move_spares : (from to : Spot) (b : Bool) → (way_of call from).itself ≡ b
      → (b ≡ false → unreached (access_of call.state) call (way_of call from) ≡ None)
      → unreached (access_of call.state) call (way_of call to) ≡ None
      → unfit_between t.nodes (root_of call) b (record { source = Some (way_of call from); target = Some (way_of call to) }) ≡ None
      → limited t (if b then nowhere else led from to) making.Moved ≡ None
      → IsClear t hold (touched t true (last_name to) (if b then nowhere else led from to) making.Moved)
      → IsSpared (if b then mount_renamed call (way_of call from) (last_name to)
      else moved t call.now (last_name to) (transfer_of t.nodes (if b then nowhere else led from to)))
  unfolding copies_known
  move_spares from to true itself from_reached to_reached fits few clear =
      mount_spares t call.now hold (option_map (named_row (last_name to)) (own_mount call (way_of call from).mount)) report.Made
  move_spares from to false itself from_reached to_reached fits few clear =
      carried_spares to (transfer_of t.nodes (led from to)) few
      (λ one e some.
      transfer_known call from to sound is (from_reached refl) to_reached one e fits
      (cond_both (crosses t.nodes one) (copy_limit t one) (move_limit t one)
      (λ (limit : Option Limit). limit ≡ None → deepest_in t.nodes one.node one.folder ≤ MAX_DEPTH)
      (λ e some. (within t (length (walk_of t.nodes one.node)) (deepest_in t.nodes one.node one.folder) 0 (pieces_in t.nodes (walk_of t.nodes one.node)) 0 some).deep)
      (λ e some. (within t 0 (deepest_in t.nodes one.node one.folder) 0 0 0 some).deep)
      some)) clear

  copy_spares : (from to : Spot) → unreached (access_of call.state) call (way_of call from) ≡ None
      → unreached (access_of call.state) call (way_of call to) ≡ None
      → unfit_between t.nodes (root_of call) false (record { source = Some (way_of call from); target = Some (way_of call to) }) ≡ None
      → (o : Option Transfer) → transfer_of t.nodes (led from to) ≡ o → option_and_then (copy_limit t) o ≡ None
      → IsClear t hold (option_map_or (transfer_touches Shared (last_name to)) o [])
      → IsSpared (copied t call.now (last_name to) o)
  copy_spares from to from_reached to_reached fits None e some clear = tt
  copy_spares from to from_reached to_reached fits (Some transfer) e some clear =
      settled_spared t call.now hold.key (charged_for t transfer) (copies t call.now (last_name to) transfer)
      (copied_spares transfer (last_name to) (copies_known call from to sound is from_reached to_reached transfer e fits some).known
      (transfer_spared t hold Shared (last_name to) transfer clear))

  -- no key is of a share or of a mount
  mounts_spare : (mounts : List MountRow) → All (SparesChange t hold.key) (put_mounts mounts)
  mounts_spare mounts = All-map (SparesChange t hold.key) (λ row. Put (rows.Mount row)) mounts (λ k d within. tt)

  share_spares : (offer : Offer) → IsSpared (share_made (access_of call.state) call offer)
  share_spares offer =
      All-cons (SparesChange t hold.key) (Put (rows.Share (new_share (access_of call.state) call offer))) (put_mounts (mounts_for t offer)) tt
      (mounts_spare (mounts_for t offer))

  put_spares : (row : ShareRow) (b : Bool) → All (SparesChange t hold.key) (if b then [] else Put (rows.Share row) ∷ [])
  put_spares row true = All-nil (SparesChange t hold.key)
  put_spares row false = All-cons (SparesChange t hold.key) (Put (rows.Share row)) [] tt (All-nil (SparesChange t hold.key))

  asks_spare : (places : Places) (asked : ShareAsk) → IsSpared (shared (access_of call.state) call places asked)
  asks_spare places (ask.New spot name perms until) = here (offered call spot name perms until)
    where
      here : (o : Option Offer) → IsSpared (option_map_or (share_made (access_of call.state) call) o nothing_done)
      here None = All-nil (SparesChange t hold.key)
      here (Some offer) = share_spares offer
  asks_spare places (ask.List spot with_me) = All-nil (SparesChange t hold.key)
  asks_spare places (ask.Show share) = here (share_shown call share)
    where
      here : (o : Option ShareRow) → IsSpared (option_map_or (share_told t []) o nothing_done)
      here None = All-nil (SparesChange t hold.key)
      here (Some row) = All-nil (SparesChange t hold.key)
  asks_spare places (ask.Set share perms until) = here (share_steered call share)
    where
      here : (o : Option ShareRow)
          → IsSpared (option_map_or (λ row. share_set t (perms_after t perms row) (until_after until row.until) row) o nothing_done)
      here None = All-nil (SparesChange t hold.key)
      here (Some row) =
          let end = until_after until row.until in
          put_spares (set_row (perms_after t perms row) end row) (perms_after t perms row == row.perms && same_end end row.until)
  asks_spare places (ask.End share) = here (share_steered call share)
    where
      here : (o : Option ShareRow) → IsSpared (option_map_or share_ended o nothing_done)
      here None = All-nil (SparesChange t hold.key)
      here (Some row) = put_spares (ended_row row) false

  -- nor of a user or a group, and the root of a new user is in no folder
  people_spare : (asked : PeopleAsk) → IsSpared (allowed.Change (people_changed t call.now asked) None report.Plain)
  people_spare (people.NewUser name token quota) =
      let Fine : Change → Type 0 = SparesChange t hold.key in
      let root : Change = Put (rows.Node (new_root t call.now name)) in
      let holds : Change = Put (rows.Token (record { digest = token; user = t.meta.next_user })) in
      All-cons Fine (Put (rows.User (new_user t name quota))) (root ∷ holds ∷ []) tt
      (All-cons Fine root (holds ∷ [])
      (record { node = λ given. absurd (omega (arith, given)); slot = λ fresh folder place. absurd (cc) })
      (All-cons Fine holds [] tt (All-nil Fine)))
  people_spare (people.NewGroup name) = All-cons (SparesChange t hold.key) _ [] tt (All-nil (SparesChange t hold.key))
  people_spare (people.AddMember user group) = here (membership t user group)
    where
      joins : (row : MemberRow) (b : Bool)
          → All (SparesChange t hold.key) (if b then [] else Put (rows.Member row) ∷ put_mounts (mounts_joined t row))
      joins row true = All-nil (SparesChange t hold.key)
      joins row false =
          All-cons (SparesChange t hold.key) (Put (rows.Member row)) (put_mounts (mounts_joined t row)) tt (mounts_spare (mounts_joined t row))

      here : (o : Option MemberRow) → All (SparesChange t hold.key) (option_map_or (joined_by t) o [])
      here None = All-nil (SparesChange t hold.key)
      here (Some row) = joins row (is_member t row)
  people_spare (people.DropMember user group) = here (membership t user group)
    where
      leaves : (row : MemberRow) (b : Bool) → All (SparesChange t hold.key) (if b then Drop (keys.Member row.group row.user) ∷ [] else [])
      leaves row true = All-cons (SparesChange t hold.key) (Drop (keys.Member row.group row.user)) [] tt (All-nil (SparesChange t hold.key))
      leaves row false = All-nil (SparesChange t hold.key)

      here : (o : Option MemberRow) → All (SparesChange t hold.key) (option_map_or (left_by t) o [])
      here None = All-nil (SparesChange t hold.key)
      here (Some row) = leaves row (is_member t row)
  people_spare (people.SetQuota user quota) = All-nil (SparesChange t hold.key)
  people_spare (people.AddToken user token) = here (user_named t.users user)
    where
      here : (o : Option ℕ)
          → All (SparesChange t hold.key) (option_map_or (λ user. Put (rows.Token (record { digest = token; user = user })) ∷ []) o [])
      here None = All-nil (SparesChange t hold.key)
      here (Some user) =
          All-cons (SparesChange t hold.key) (Put (rows.Token (record { digest = token; user = user }))) [] tt (All-nil (SparesChange t hold.key))

  -- a quota takes items alone
  persons_spare : (asked : PeopleAsk) → IsSpared (people_done t call.now asked)
  persons_spare (people.SetQuota user quota) = here (row_named t user)
    where
      another : (row : UserRow) (b : Bool) → IsSpared (if b then nothing_done
          else done (settled_by t (charged_to t quota row) (requoting t call.now quota row)) report.Plain)
      another row true = All-nil (SparesChange t hold.key)
      another row false =
          let gone = gone_of t call.now quota (items_of t row.id) in
          settled_spared t call.now hold.key (charged_to t quota row) (requoting t call.now quota row)
          (All-cons (SparesDeed t call.now hold.key) (deed.Requote (record row { quota = quota })) (purges gone) tt
          (gone_spared t call.now hold gone (user_goes t sound call.now quota row.id)))

      here : (o : Option UserRow) → IsSpared (option_map_or (requoted t call.now quota) o nothing_done)
      here None = All-nil (SparesChange t hold.key)
      here (Some row) = another row (row.quota == quota)
  persons_spare (people.NewUser name token quota) = people_spare (people.NewUser name token quota)
  persons_spare (people.NewGroup name) = people_spare (people.NewGroup name)
  persons_spare (people.AddMember user group) = people_spare (people.AddMember user group)
  persons_spare (people.DropMember user group) = people_spare (people.DropMember user group)
  persons_spare (people.AddToken user token) = people_spare (people.AddToken user token)

  -- of the trash items alone go, and one that comes back takes a free name
  trash_spares : (asked : TrashAsk) → IsClear t hold (touches t (asked_of_trash asked) (places_at call (wanted.Trash asked)))
      → IsSpared (trash_done call asked)
  trash_spares (trash.List user) clear = All-nil (SparesChange t hold.key)
  trash_spares (trash.Drop user node) clear = here (own_item call node) refl
    where
      here : (o : Option ItemRow) → own_item call node ≡ o → IsSpared (option_map_or (item_dropped t call.now) o nothing_done)
      here None e = All-nil (SparesChange t hold.key)
      here (Some item) e =
          gone_spared t call.now hold (item.node ∷ gone_beside t call.now item)
          (All-cons (IsItem t) item.node (gone_beside t call.now item) (own_is t sound (asker_of call) node item e) (beside_goes t sound call.now item))
  trash_spares (trash.Empty user) clear =
      gone_spared t call.now hold (map (λ item. item.node) (items_of t (asker_of call))) (emptied_items t sound (asker_of call))
  trash_spares (trash.Restore user node) clear = here (own_item call node) refl
    where
      here : (o : Option ItemRow) → own_item call node ≡ o → IsSpared (option_map_or (item_restored t call.now) o nothing_done)
      here None e = All-nil (SparesChange t hold.key)
      here (Some item) e =
          let there = own_there t sound (asker_of call) node item e in
          let slot : LockKey = Slot (home_of t item) (name_back t item) in
          let free : IsClear t hold (touch_key slot Exclusive ∷ []) = subst (λ (o : Option ItemRow). IsClear t hold (option_map_or (restore_touches t) o [])) there clear in
          settled_spared t call.now hold.key (charged t item.owner 0 (item_size t item)) (restoring t call.now item)
          (All-cons (SparesDeed t call.now hold.key) (deed.Restore item.node (home_of t item) (name_back t item)) (purges (gone_beside t call.now item))
          (other_key slot hold (key_apart t hold slot Exclusive [] free))
          (gone_spared t call.now hold (gone_beside t call.now item) (beside_goes t sound call.now item)))

  -- a version is sent, or comes back, where its file isn't held
  versions_spare : (asked : VersionAsk) → IsClear t hold (touches t (asked_of_version asked) (places_at call (wanted.Version asked)))
      → IsSpared (version_done t call.now asked)
  versions_spare (version.List user node) clear = All-nil (SparesChange t hold.key)
  versions_spare (version.Get user node at) clear = here (version_row t.versions node at)
    where
      here : (o : Option VersionRow) → IsSpared (option_map_or (λ (row : VersionRow). allowed.Get node row.content) o nothing_done)
      here None = All-nil (SparesChange t hold.key)
      here (Some row) = key_apart t hold (Node node) Shared [] clear
  versions_spare (version.Restore user node at) clear = here (version_row t.versions node at)
    where
      of_row : (one : VersionRow) (o : Option NodeRow) → node_row t.nodes node ≡ o
          → All (SparesChange t hold.key) (option_map_or (refills t call.now (Some one.at) one.content) o [])
      of_row one None there = All-nil (SparesChange t hold.key)
      of_row one (Some row) there =
          refills_spared t call.now node (Some one.at) one.content row hold.key sound
          (other_key (Node node) hold (key_apart t hold (Node node) Exclusive [] clear)) there

      here : (o : Option VersionRow) → IsSpared (option_map_or (brought_back t call.now node) o nothing_done)
      here None = All-nil (SparesChange t hold.key)
      here (Some one) = of_row one (node_row t.nodes node) refl

  -- an upload changes no node but where it is joined, at a place that isn't held
  joined_spares : (name : List ℕ) (content : List Piece) (place : Found) → IsClear t hold (target_touches name place)
      → All (SparesChange t hold.key) (assembled_at t call.now name content place)
  joined_spares name content (At node) clear =
      over_spared t call.now node content hold.key sound (other_key (Node node) hold (key_apart t hold (Node node) Exclusive [] clear))
  joined_spares name content (Free folder) clear =
      file_spared t call.now folder name content hold (other_key (Slot folder name) hold (key_apart t hold (Slot folder name) Exclusive [] clear))
  joined_spares name content (Missing depth) clear = All-nil (SparesChange t hold.key)

  uploads_spare : (asked : UploadAsk) → IsClear t hold (touches t (asked_of_upload asked) (places_at call (wanted.Upload asked)))
      → IsSpared (upload_done call (places_at call (wanted.Upload asked)) asked)
  uploads_spare (upload.New user dir to) clear = All-cons (SparesChange t hold.key) _ [] tt (All-nil (SparesChange t hold.key))
  uploads_spare (upload.Chunk user dir name to length) clear = here (chunk_number name)
    where
      here : (o : Option ℕ) → IsSpared (option_map_or (chunk_sent (asker_of call) dir length) o nothing_done)
      here None = All-nil (SparesChange t hold.key)
      here (Some number) = tt
  uploads_spare (upload.Drop user dir) clear =
      All-cons (SparesDeed t call.now hold.key) (deed.Abandon (asker_of call) dir) [] tt (All-nil (SparesDeed t call.now hold.key))
  uploads_spare (upload.Join dir spot total) clear =
      let content = whole_of t.chunks (asker_of call) dir in
      let leaves : Deed = deed.Abandon (asker_of call) dir in
      All-cons (SparesDeed t call.now hold.key) (deed.Store (assembled_at t call.now (last_name spot) content (found call spot))) (leaves ∷ [])
      (joined_spares (last_name spot) content (found call spot) clear)
      (All-cons (SparesDeed t call.now hold.key) leaves [] tt (All-nil (SparesDeed t call.now hold.key)))

  wanted_spares : (wanted : Wanted) → WantedPasses call wanted → IsClear t hold (touches t (asked_of wanted) (places_at call wanted))
      → IsSpared (given (access_of call.state) call (places_at call wanted) wanted)
  wanted_spares (Get spot) p clear = served_spares (access_of call.state) call hold (way_of call spot).mount (node_at (Some (found call spot))) clear
  wanted_spares (wanted.Put spot size) p clear =
      stored_spares t call.now hold (by_of call spot) (last_name spot) size (found call spot) clear
  wanted_spares (Mkcol spot) p clear = folder_spares t call.now hold (last_name spot) (found call spot) clear
  wanted_spares (Delete spot) p clear = delete_spares spot (way_of call spot).itself clear
      (delete_leaves call sound is spot (way_of call spot).itself p.place.source p.fits)
  wanted_spares (Move from to overwrite) p clear =
      move_spares from to (way_of call from).itself refl p.place.source p.place.target p.fits p.few clear
  wanted_spares (Copy from to overwrite) p clear =
      copy_spares from to (p.place.source refl) p.place.target p.fits (transfer_of t.nodes (led from to)) refl p.few clear
  wanted_spares (wanted.Share asked) p clear = asks_spare (places_at call (wanted.Share asked)) asked
  wanted_spares (wanted.People asked) p clear = persons_spare asked
  wanted_spares (wanted.Trash asked) p clear = trash_spares asked clear
  wanted_spares (wanted.Version asked) p clear = versions_spare asked clear
  wanted_spares (wanted.Upload asked) p clear = uploads_spare asked clear

-- ---- nobody is in the way

pub least_has : (P : Ticket → Type 0) (tickets : List Ticket) → All P tickets → IfSome (least tickets) P
least_has P [] all = tt
least_has P (ticket ∷ tickets) all = here (least tickets) (least_has P tickets (All-tail P ticket tickets all))
  where
    here : (o : Option Ticket) → IfSome o P → IfSome (Some (lesser ticket o)) P
    here None has = All-head P ticket tickets all
    here (Some other) has = either (nat_lt other.seat ticket.seat)
      where
        either : (b : Bool) → P (if b then other else ticket)
        either true = has
        either false = All-head P ticket tickets all

pub none_least : (tickets : List Ticket) → least tickets ≡ None → tickets ≡ []
none_least [] none = refl
none_least (ticket ∷ tickets) none = absurd (cc)

none_passes : {X : Type 0} (test : X → Bool) (xs : List X) → filter test xs ≡ [] → All (λ x. test x ≡ false) xs
none_passes test [] none = All-nil (λ x. test x ≡ false)
none_passes {X = X} test (x ∷ xs) none = here (test x) refl none (λ none. none_passes test xs none)
  where
    here : (b : Bool) → test x ≡ b → (if b then x ∷ filter test xs else filter test xs) ≡ []
        → (filter test xs ≡ [] → All (λ x. test x ≡ false) xs) → All (λ x. test x ≡ false) (x ∷ xs)
    here true e none rest = absurd (cc)
    here false e none rest = All-cons (λ x. test x ≡ false) x xs e (rest none)

-- where no key is in the way, no other seat's hold is
pub none_blocks : (nodes : List NodeRow) (seat : ℕ) (touches : List Touch) (tickets : List Ticket) → key_in_way nodes seat touches tickets ≡ None
    → All (λ ticket. blocks nodes seat touches ticket ≡ false) tickets
none_blocks nodes seat touches tickets none =
    none_passes (blocks nodes seat touches) tickets
    (none_least (filter test tickets) (here (least (filter test tickets)) (least_has Blocks (filter test tickets) (filter_passes test tickets)) none))
  where
    test : Ticket → Bool
    test = blocks nodes seat touches

    Blocks : Ticket → Type 0
    Blocks ticket = blocks nodes seat touches ticket ≡ true

    holds : (a : Bool) (o : Option Hold) (f : Hold → Bool) → (a && option_map_or f o false) ≡ true → option_map (λ hold. hold.key) o ≡ None → ⊥
    holds true None f is none = cc
    holds true (Some hold) f is none = cc
    holds false o f is none = cc

    here : (o : Option Ticket) → IfSome o Blocks → option_and_then (λ ticket. option_map (λ hold. hold.key) ticket.hold) o ≡ None → o ≡ None
    here None has none = refl
    here (Some ticket) has none = absurd (holds (not (ticket.seat == seat)) ticket.hold _ has none)

-- a call that may do something leaves alone what no touch of it clashes with
call_spares : (call : Call) (act : Allowed) (hold : Hold) → IsSound call.state → MayWant call.request → call_decision call ≡ Ok act
    → IsClear call.state.tables hold (touches call.state.tables (asked_by call) (places_of call))
    → Spares call.state.tables call.now hold act
call_spares call act hold sound may is clear =
    let h = call_passes call act is in
    let asker = has_asker call h.0.token (place_passes (access_of call.state) call h.0.place).linked in
    subst (λ (a : Allowed). Spares call.state.tables call.now hold a) h.1
    (wanted_spares call hold sound.rows asker call.request.wanted (wanted_passes call may h.0) clear)

-- and what no other seat's hold is
begin_spares : (call : Call) (act : Allowed) → IsSound call.state → MayWant call.request → IsNone (ticket_of call.state call.seat)
    → call_decision call ≡ Ok act
    → All (λ ticket. IfSome ticket.hold (λ hold. Spares call.state.tables call.now hold act)) call.state.tickets
unfolding locked_rule
begin_spares call act sound may none is k d within =
    here ticket.hold (clear (ticket.seat == call.seat) (option_map_or (λ hold. list_any (λ touch. clashes t.nodes touch hold) all) ticket.hold false)
    (none_blocks t.nodes call.seat all call.state.tickets (no_key _ (call_passes call act is).0.locked) k d within)
    (fails_each (λ ticket. ticket.seat == call.seat) call.state.tickets none k d within))
  where
    t : Tables
    t = call.state.tables

    ticket : Ticket
    ticket = get_or call.state.tickets k d

    all : List Touch
    all = touches t (asked_by call) (places_of call)

    clear : (own clashing : Bool) → (not own && clashing) ≡ false → own ≡ false → clashing ≡ false
    clear false clashing h other = h
    clear true clashing h other = absurd (cc)

    here : (o : Option Hold) → option_map_or (λ hold. list_any (λ touch. clashes t.nodes touch hold) all) o false ≡ false
        → IfSome o (λ hold. Spares t call.now hold act)
    here None clear = tt
    here (Some hold) clear = call_spares call act hold sound may is clear

-- ---- what an End leaves alone

key_spares : (t : Tables) (now : ℕ) (hold : Hold) (key : LockKey) (digest : List ℕ) (size : ℕ) → AreSound t → hold.key ≢ key
    → Spares t now hold (stored_at t now key digest size)
key_spares t now hold (Node node) digest size sound other =
    over_spared t now node (content_in (blob_for t.meta.next_blob size) digest size) hold.key sound other
key_spares t now hold (Slot folder name) digest size sound other =
    file_spared t now folder name (content_in (blob_for t.meta.next_blob size) digest size) hold other

closed_spares : (t : Tables) (now : ℕ) (act : Allowed) → ◌≡◌ {A = Result Allowed Denial} (Ok allowed.Close) (Ok act)
    → (hold : Hold) → Spares t now hold act
closed_spares t now act is hold = let e : allowed.Close ≡ act = cc in subst (λ (a : Allowed). Spares t now hold a) e tt

-- it leaves alone what is apart from what its seat holds
goal_spares : (access : Access) (t : Tables) (now : ℕ) (goal : Goal) (own : Option Hold) (outcome : Outcome) (act : Allowed) (hold : Hold)
    → AreSound t → HoldsFor goal own → AreApartHolds own (Some hold) → ends_goal access t now outcome goal ≡ Ok act → Spares t now hold act
goal_spares access t now (Store by key wanted) own (Body digest size) act hold sound holds other is =
    let h = not_refused (end_refusal access t now by key size) (stored_at t now key digest size) act is in
    subst (λ (a : Allowed). Spares t now hold a) h.1
    (key_spares t now hold key digest size sound
    (other_key key hold (subst (λ (o : Option Hold). AreApartHolds o (Some hold)) holds other)))
goal_spares access t now (Chunk user dir number wanted) own (Body digest size) act hold sound holds other is =
    let h = not_refused (chunk_refusal t user dir number size) (chunk_stored t now user dir number digest size) act is in
    let content = content_in (blob_for t.meta.next_blob size) digest size in
    subst (λ (a : Allowed). Spares t now hold a) h.1
    (chunk_spared t now hold.key (record { user = user; dir = dir; number = number; content = content }) (upload_row t.uploads user dir))
goal_spares access t now (Serve content) own (Body digest size) act hold sound holds other is = closed_spares t now act is hold
goal_spares access t now goal own Sent act hold sound holds other is = closed_spares t now act is hold
goal_spares access t now goal own Gone act hold sound holds other is = closed_spares t now act is hold

-- what is found is apart from all that isn't sought, where each two are apart
pub found_apart : {X : Type 0} (R : X → X → Type 0) (turned : (a b : X) → R a b → R b a) (test : X → Bool) (xs : List X) (x : X)
    → AllPairs R xs → find test xs ≡ Some x → All (λ y. test y ≡ false → R x y) xs
found_apart R turned test [] x pairs is = absurd (none-some x is)
found_apart {X = X} R turned test (y ∷ ys) x pairs is =
    here (test y) refl is (λ is. found_apart R turned test ys x tails is)
  where
    heads : All (R y) ys
    heads k d within = pairs 0 (suc k) d (omega arith) (omega (arith, within))

    tails : AllPairs R ys
    tails i j d before within = pairs (suc i) (suc j) d (omega (arith, before)) (omega (arith, within))

    here : (b : Bool) → test y ≡ b → find test (y ∷ ys) ≡ Some x
        → (find test ys ≡ Some x → All (λ z. test z ≡ false → R x z) ys) → All (λ z. test z ≡ false → R x z) (y ∷ ys)
    here true e is rest =
        let same : y ≡ x = same_Some y x (simp e at is) in
        All-cons (λ z. test z ≡ false → R x z) y ys (λ other. absurd (both_ways (test y) other e))
        (λ k d within other. subst (λ (z : X). R z (get_or ys k d)) same (heads k d within))
    here false e is rest =
        let found = simp e at is in
        All-cons (λ z. test z ≡ false → R x z) y ys
        (λ other. turned y x (subst (λ (o : Option X). IfSome o (R y)) found (found_has (R y) test ys heads))) (rest found)

pub holds_turned : (a b : Ticket) → AreApartHolds a.hold b.hold → AreApartHolds b.hold a.hold
holds_turned a b = here a.hold b.hold
  where
    here : (one other : Option Hold) → AreApartHolds one other → AreApartHolds other one
    here None None apart = tt
    here None (Some other) apart = tt
    here (Some one) None apart = tt
    here (Some one) (Some other) apart = λ same. let both = apart (sym same) in (both.1, both.0)

end_spares : (s : State) (seat now : ℕ) (outcome : Outcome) (act : Allowed) → IsSound s → end_decision (access_of s) s seat now outcome ≡ Ok act
    → All (λ ticket. IfSome ticket.hold (λ hold. Spares s.tables now hold act)) (without_ticket s seat).tickets
end_spares s seat now outcome act sound is = here (ticket_of s seat) refl is
  where
    left : List Ticket
    left = (without_ticket s seat).tickets

    Left : Ticket → Type 0
    Left ticket = IfSome ticket.hold (λ hold. Spares s.tables now hold act)

    others : All (λ (ticket : Ticket). not (ticket.seat == seat) ≡ true) left
    others = filter_passes (λ ticket. not (ticket.seat == seat)) s.tickets

    of_none : ◌≡◌ {A = Result Allowed Denial} (Ok allowed.Close) (Ok act) → (o : Option Hold) → IfSome o (λ hold. Spares s.tables now hold act)
    of_none is None = tt
    of_none is (Some hold) = closed_spares s.tables now act is hold

    of_goal : (own : Ticket) → HoldsFor own.goal own.hold → ends_goal (access_of s) s.tables now outcome own.goal ≡ Ok act
        → (o : Option Hold) → AreApartHolds own.hold o → IfSome o (λ hold. Spares s.tables now hold act)
    of_goal own holds is None apart = tt
    of_goal own holds is (Some hold) apart =
        goal_spares (access_of s) s.tables now own.goal own.hold outcome act hold sound.rows holds apart is

    here : (o : Option Ticket) → ticket_of s seat ≡ o
        → ends_at (access_of s) s.tables now outcome (option_map (λ ticket. ticket.goal) o) ≡ Ok act → All Left left
    here None e is k d within = of_none is (get_or left k d).hold
    here (Some own) e is k d within =
        let holds = subst (λ (o : Option Ticket). IfSome o (IsTicketSound s.tables)) e
        (found_has (IsTicketSound s.tables) (λ (ticket : Ticket). ticket.seat == seat) s.tickets sound.tickets) in
        let apart = All-filter (λ ticket. not (ticket.seat == seat)) (λ (ticket : Ticket). (ticket.seat == seat) ≡ false → AreApartHolds own.hold ticket.hold) s.tickets
        (found_apart (λ (a b : Ticket). AreApartHolds a.hold b.hold) holds_turned (λ ticket. ticket.seat == seat) s.tickets own sound.apart e) k d within in
        of_goal own holds.hold is (get_or left k d).hold (apart (not-true ((get_or left k d).seat == seat) (others k d within)))

-- ---- every step

-- a step leaves alone what the others hold
pub step_spares : (s : State) (seat now : ℕ) (event : Event) (act : Allowed) → IsSound s → MayAsk s seat event
    → decision_of s seat now event ≡ Ok act
    → All (λ ticket. IfSome ticket.hold (λ hold. Spares s.tables now hold act)) (without s seat event).tickets
step_spares s seat now (Begin words request) act sound asked is =
    begin_spares (call_of s seat now words request) act sound asked.1 asked.0 is
step_spares s seat now (End outcome) act sound asked is = end_spares s seat now outcome act sound is
step_spares s seat now Sweep act sound asked is =
    let same : swept s.tables now ≡ act = cc in
    subst (λ (act : Allowed). All (λ ticket. IfSome ticket.hold (λ hold. Spares s.tables now hold act)) s.tickets) same
    (λ k d within. some_spared (get_or s.tickets k d).hold)
  where
    some_spared : (hold : Option Hold) → IfSome hold (λ hold. Spares s.tables now hold (swept s.tables now))
    some_spared None = tt
    some_spared (Some hold) =
        let gone = flat_map (gone_from s.tables now) (owners_of s.tables.items) in
        let idle = filter (is_idle now) s.tables.uploads in
        All-append (SparesDeed s.tables now hold.key) (purges gone) (abandons idle)
        (gone_spared s.tables now hold gone (swept_goes s.tables sound.rows now).items)
        (All-map (SparesDeed s.tables now hold.key) (λ (row : UploadRow). deed.Abandon row.user row.dir) idle (λ k d within. tt))
