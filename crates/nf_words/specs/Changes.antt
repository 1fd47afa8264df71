-- What each act changes and is answered, where no rule refuses it.
use Rattle.std.specs.Prelude.{ℕ, ◌+◌, ◌-◌, ◌==◌, ◌&&◌, not, Bool, true, false, List, [], ◌∷◌, ◌++◌, filter, length, map, nat_le, Option, None, Some, is_none, option_map, option_and_then, if◌then◌else◌}
use Rattle.std.specs.Option.{option_map_or}
use Rattle.nf_access.specs.Mounts.{mount_row}
use Rattle.nf_base.specs.Content.{content_eq}
use Rattle.nf_base.specs.declared.changes.Change.{Change}
use Rattle.nf_base.specs.declared.changes.Change.TheVariants.{Put}
use Rattle.nf_base.specs.declared.content.Piece.{Piece}
use Rattle.nf_base.specs.declared.rows.MetaRow.{MetaRow}
use Rattle.nf_base.specs.declared.rows.MountRow.{MountRow}
use Rattle.nf_base.specs.declared.rows.NodeKind.{NodeKind}
use Rattle.nf_base.specs.declared.rows.NodeKind.TheVariants.{File, Folder}
use Rattle.nf_base.specs.declared.rows.NodeRow.{NodeRow}
use Rattle.nf_base.specs.declared.rows.Place.TheVariants.{Inside}
use Rattle.nf_base.specs.declared.rows.Row.TheVariants as rows
use Rattle.nf_base.specs.declared.rows.ShareRow.{ShareRow}
use Rattle.nf_defs.specs.Prelude.{Access, content_of, filled, is_folder, node_row, owner_of, put_all, Tables}
use Rattle.nf_defs.specs.declared.Found.{Found}
use Rattle.nf_defs.specs.declared.Found.TheVariants.{At, Free, Missing}
use Rattle.nf_words.specs.State.{State, ticket_for}
use Rattle.nf_words.specs.Calls.{asker_of, Call, last_name, places_of, seeker_of, Way, way_of}
use Rattle.nf_words.specs.Copies.{copies_to}
use Rattle.nf_words.specs.Listing.{listing_of, size_of}
use Rattle.nf_words.specs.People.{people_changed, put_mounts, row_named}
use Rattle.nf_words.specs.Places.{crosses, node_at, node_found, transfer_of}
use Rattle.nf_words.specs.Sharing.{mounts_for, new_share, offered, perms_after, share_line, share_lines, share_shown, share_steered, until_after}
use Rattle.nf_words.specs.declared.request.Offer.{Offer}
use Rattle.nf_words.specs.declared.request.Places.{Places}
use Rattle.nf_words.specs.declared.request.ShareAsk.{ShareAsk}
use Rattle.nf_words.specs.declared.request.ShareAsk.TheVariants as ask
use Rattle.nf_words.specs.declared.request.Spot.{Spot}
use Rattle.nf_words.specs.declared.request.Transfer.{Transfer}
use Rattle.nf_words.specs.declared.request.Wanted.{Wanted}
use Rattle.nf_words.specs.declared.request.Wanted.TheVariants as wanted
use Rattle.nf_words.specs.declared.answer.Allowed.{Allowed}
use Rattle.nf_words.specs.declared.answer.Allowed.TheVariants as allowed
use Rattle.nf_words.specs.declared.answer.By.{By}
use Rattle.nf_words.specs.declared.answer.Goal.{Goal}
use Rattle.nf_words.specs.declared.answer.Goal.TheVariants.{Chunk, Serve, Store}
use Rattle.nf_words.specs.declared.answer.Hold.{Hold}
use Rattle.nf_words.specs.declared.answer.LockKey.TheVariants.{Node, Slot}
use Rattle.nf_words.specs.declared.answer.Mode.TheVariants.{Exclusive, Shared}
use Rattle.nf_words.specs.declared.answer.Reply.{Reply}
use Rattle.nf_words.specs.declared.answer.Reply.TheVariants.{Made, Done, Closed, Granted, Listing}
use Rattle.nf_words.specs.declared.answer.Reply.TheVariants as reply
use Rattle.nf_words.specs.declared.answer.Report.{Report}
use Rattle.nf_words.specs.declared.answer.Report.TheVariants as report
use Rattle.nf_words.specs.declared.history.Ticket.{Ticket}
use Rattle.nf_words.specs.Charges.{charge_of, quota_of}
use Rattle.nf_words.specs.Counters.{blob_after, counted}
use Rattle.nf_words.specs.Deeds.{deeds_done, ended_row, told_deeds}
use Rattle.nf_words.specs.declared.answer.Deed.{Deed}
use Rattle.nf_words.specs.Trash.{gone_of, item_for, item_lines, item_size, items_but, items_of, own_item, owners_of}
use Rattle.nf_words.specs.Versions.{beyond_bound, content_size, drop_version, gone_after, held_without, turned_over, version_lines, version_row}
use Rattle.nf_retention.specs.declared.versions.Version.{Version}
use Rattle.nf_base.specs.declared.rows.VersionRow.{VersionRow}
use Rattle.nf_words.specs.declared.request.VersionAsk.{VersionAsk}
use Rattle.nf_words.specs.declared.request.VersionAsk.TheVariants as version
use Rattle.nf_words.specs.Homes.{home_of, name_back}
use Rattle.nf_base.specs.declared.rows.ItemRow.{ItemRow}
use Rattle.nf_base.specs.declared.rows.UserRow.{UserRow}
use Rattle.nf_words.specs.declared.request.PeopleAsk.{PeopleAsk}
use Rattle.nf_words.specs.declared.request.PeopleAsk.TheVariants as people
use Rattle.nf_base.specs.declared.rows.UploadRow.{UploadRow}
use Rattle.nf_words.specs.declared.limits.TheConstants.{MAX_IDLE}
use Rattle.nf_words.specs.declared.request.UploadAsk.{UploadAsk}
use Rattle.nf_words.specs.declared.request.UploadAsk.TheVariants as upload
use Rattle.nf_words.specs.Uploads.{chunk_number, whole_of}
use Rattle.nf_words.specs.declared.request.TrashAsk.{TrashAsk}
use Rattle.nf_words.specs.declared.request.TrashAsk.TheVariants as trash
use Rattle.nf_words.specs.declared.answer.Deed.TheVariants as deed
use Rattle.std.specs.List.{flat_map, list_any}

-- ---- what an act may do at the places that its paths lead to; elsewhere, where a rule refuses it, nothing

-- a new node in a folder, with the next number and the folder's owner
abbrev pub new_node : Tables → ℕ → ℕ → List ℕ → NodeKind → List Piece → NodeRow
new_node t now folder name kind content = record {
  id = t.meta.next_node;
  owner = owner_of t.nodes folder;
  place = Inside folder;
  name = name;
  kind = kind;
  content = content;
  changed = now;
}

-- GET lists the folder that is there, or sends the content of the file
abbrev pub shown : Access → Call → Option ℕ → ℕ → Allowed
shown access call mount node =
    let nodes = call.state.tables.nodes in
    if is_folder nodes node then allowed.List (listing_of access call mount node) else allowed.Get node (content_of nodes node)

abbrev pub served : Access → Call → Option ℕ → Option ℕ → Allowed
served access call mount node = option_map_or (shown access call mount) node allowed.Close

-- PUT stores over the file that is there, or under the name that is free
abbrev pub stored : By → List ℕ → ℕ → Option Found → Allowed
stored by name length None = allowed.Close
stored by name length (Some (At node)) = allowed.Put by (Node node) length
stored by name length (Some (Free folder)) = allowed.Put by (Slot folder name) length
stored by name length (Some (Missing depth)) = allowed.Close

-- who asks, by the mount on a place's path
abbrev pub by_of : Call → Spot → By
by_of call spot = record { seeker = seeker_of call; mount = (way_of call spot).mount }

-- a new node is made, whose body is in that blob
abbrev pub makes : NodeRow → Option ℕ → Allowed
makes row blob = allowed.Change (Put (rows.Node row) ∷ []) blob report.Made

-- MKCOL makes a folder under the name that is free
abbrev pub made_folder : Tables → ℕ → List ℕ → Option Found → Allowed
made_folder t now name None = allowed.Close
made_folder t now name (Some (At node)) = allowed.Close
made_folder t now name (Some (Free folder)) = makes (new_node t now folder name Folder []) None
made_folder t now name (Some (Missing depth)) = allowed.Close

-- nothing is done
abbrev pub nothing_done : Allowed
nothing_done = allowed.Change [] None report.Plain

-- what is done, and told so
abbrev pub done : List Deed → Report → Allowed
done deeds report = allowed.Deeds deeds report

-- some nodes go for good
abbrev pub purges : List ℕ → List Deed
purges nodes = map (λ node. deed.Purge node) nodes

-- of the trash of its owner, the nodes that go when a node is put there
abbrev pub gone_with : Tables → ℕ → NodeRow → List ℕ
gone_with t now row = gone_of t now (quota_of t row.owner) (item_for now row ∷ items_of t row.owner)

abbrev pub goes_itself : Tables → ℕ → NodeRow → Bool
goes_itself t now row = list_any (λ node. node == row.id) (gone_with t now row)

-- a node is put in the trash with all under it, unless the trash can't hold it: then it goes for good
abbrev pub discard : Tables → ℕ → NodeRow → Deed
discard t now row = if goes_itself t now row then deed.Purge row.id else deed.Discard (item_for now row)

-- and what else goes then
abbrev pub beside : Tables → ℕ → NodeRow → List Deed
beside t now row = purges (filter (λ node. not (node == row.id)) (gone_with t now row))

-- the same of a node that may be there
abbrev pub row_at : Tables → Option ℕ → Option NodeRow
row_at t node = option_and_then (node_row t.nodes) node

abbrev pub discards : Tables → ℕ → Option ℕ → List Deed
discards t now node = option_map_or (λ row. discard t now row ∷ []) (row_at t node) []

abbrev pub besides : Tables → ℕ → Option ℕ → List Deed
besides t now node = option_map_or (beside t now) (row_at t node) []

-- DELETE
abbrev pub deleted : Tables → ℕ → Option ℕ → Allowed
deleted t now node = done (discards t now node ++ besides t now node) report.Done

-- what is put at a place is made, where nothing was there
abbrev pub made_or_done : Option ℕ → Report
made_or_done replaced = option_map_or (λ node. report.Done) replaced report.Made

-- ---- what an owner's charge leaves to old versions

-- a user whose files take up so many bytes after a step, and may take up so many
pub record Charged : Type 0 where
  pub owner : ℕ
  pub charge : ℕ
  pub quota : ℕ

-- with so many bytes in the place of so many
abbrev pub charged : Tables → ℕ → ℕ → ℕ → Charged
charged t user old new = record { owner = user; charge = charge_of t user - old + new; quota = quota_of t user }

-- the nodes that go for good by some deeds
abbrev pub purged_by : Deed → List ℕ
purged_by (deed.Purge node) = node ∷ []
purged_by other = []

-- the versions of an owner that go once some nodes are gone
abbrev pub unsettled : Tables → Charged → List ℕ → List Version
unsettled t to gone = beyond_bound to.quota to.charge (held_without t to.owner gone)

-- some versions go
abbrev pub forgets : List Version → List Deed
forgets versions = map (λ version. deed.Forget version.node version.at) versions

-- deeds, and those by which an owner's versions go that are beyond their bound then
abbrev pub settled_by : Tables → Charged → List Deed → List Deed
settled_by t to deeds = deeds ++ forgets (unsettled t to (flat_map purged_by deeds))

-- MOVE puts the node that is there, and COPY copies of it and of all under it, into the target's folder under the target's name. What
-- is replaced is put in the trash. What goes to another owner is copied there, and is then put in the trash of its owner. What goes for
-- good beside these goes last
abbrev pub moves : Tables → ℕ → List ℕ → Transfer → List Deed
moves t now name transfer =
    discards t now transfer.replaced ++ deed.Relink transfer.node transfer.folder name ∷ besides t now transfer.replaced

abbrev pub copies : Tables → ℕ → List ℕ → Transfer → List Deed
copies t now name transfer =
    discards t now transfer.replaced ++ deed.Join (copies_to t now transfer name) ∷ besides t now transfer.replaced

abbrev pub crossing : Tables → ℕ → List ℕ → Transfer → List Deed
crossing t now name transfer =
    discards t now transfer.replaced
    ++ deed.Join (copies_to t now transfer name)
    ∷ (discards t now (Some transfer.node) ++ (besides t now transfer.replaced ++ besides t now (Some transfer.node)))

-- the owner of the folder of copies is charged for them, in the place of what they replace
abbrev pub charged_for : Tables → Transfer → Charged
charged_for t transfer =
    charged t (owner_of t.nodes transfer.folder) (option_map_or (size_of t.nodes) transfer.replaced 0) (size_of t.nodes transfer.node)

-- of the versions of that owner those go last that are beyond their bound then
abbrev pub carries : Tables → ℕ → List ℕ → Transfer → List Deed
carries t now name transfer =
    if crosses t.nodes transfer then settled_by t (charged_for t transfer) (crossing t now name transfer) else moves t now name transfer

abbrev pub copies_settled : Tables → ℕ → List ℕ → Transfer → List Deed
copies_settled t now name transfer = settled_by t (charged_for t transfer) (copies t now name transfer)

abbrev pub moved : Tables → ℕ → List ℕ → Option Transfer → Allowed
moved t now name transfer =
    option_map_or (λ transfer. done (carries t now name transfer) (made_or_done transfer.replaced)) transfer allowed.Close

abbrev pub copied : Tables → ℕ → List ℕ → Option Transfer → Allowed
copied t now name transfer =
    option_map_or (λ transfer. done (copies_settled t now name transfer) (made_or_done transfer.replaced)) transfer allowed.Close

-- the change that puts the row of a mount, if there is one
abbrev pub mounting : Option MountRow → List Change
mounting row = option_map_or (λ row. Put (rows.Mount row) ∷ []) row []

-- the row of a mount is another, if there is one
abbrev pub with_mount_row : Option MountRow → Report → Allowed
with_mount_row row told = allowed.Change (mounting row) None told

-- a mount that was left
abbrev pub left_row : MountRow → MountRow
left_row row = record row { left = true }

-- one under another name
abbrev pub named_row : List ℕ → MountRow → MountRow
named_row name row = record row { name = name }

-- the caller's mount of a node, if it is there
abbrev pub own_mount : Call → Option ℕ → Option MountRow
own_mount call node = option_and_then (mount_row call.state.tables.mounts (asker_of call)) node

-- DELETE of the path of a mount itself leaves the mount, and MOVE of it gives the mount another name
abbrev pub mount_left : Call → Way → Allowed
mount_left call way = with_mount_row (option_map left_row (own_mount call way.mount)) report.Done

abbrev pub mount_renamed : Call → Way → List ℕ → Allowed
mount_renamed call way name = with_mount_row (option_map (named_row name) (own_mount call way.mount)) report.Made

-- some rows are put, and a share is told as it is then
abbrev pub share_told : Tables → List Change → ShareRow → Allowed
share_told t changes row = allowed.Change changes None (option_map_or report.Share (share_line t row) report.Plain)

-- a share is made, and those whom it names have a mount of the node
abbrev pub share_made : Access → Call → Offer → Allowed
share_made access call offer =
    let t = call.state.tables in
    let row = new_share access call offer in
    share_told t (Put (rows.Share row) ∷ put_mounts (mounts_for t offer)) row

-- a share with those permissions and that end
abbrev pub set_row : ℕ → Option ℕ → ShareRow → ShareRow
set_row perms until row = record row { perms = perms; until = until }

abbrev pub same_end : Option ℕ → Option ℕ → Bool
same_end None other = is_none other
same_end (Some end) other = option_map_or (λ moment. moment == end) other false

-- a share has those permissions and that end
abbrev pub share_set : Tables → ℕ → Option ℕ → ShareRow → Allowed
share_set t perms until row =
    share_told t (if perms == row.perms && same_end until row.until then [] else Put (rows.Share (set_row perms until row)) ∷ [])
    (set_row perms until row)

-- a share is ended
abbrev pub share_ended : ShareRow → Allowed
share_ended row = allowed.Change (Put (rows.Share (ended_row row)) ∷ []) None report.Plain

abbrev pub shared : Access → Call → Places → ShareAsk → Allowed
shared access call places (ask.New spot to perms until) =
    option_map_or (share_made access call) (offered call spot to perms until) nothing_done
shared access call places (ask.List spot with_me) =
    allowed.Change [] None (report.Shares (share_lines call.state.tables (asker_of call) (node_at places.source) with_me))
shared access call places (ask.Show share) = option_map_or (share_told call.state.tables []) (share_shown call share) nothing_done
shared access call places (ask.Set share perms until) =
    option_map_or (λ row. share_set call.state.tables (perms_after call.state.tables perms row) (until_after until row.until) row)
    (share_steered call share) nothing_done
shared access call places (ask.End share) = option_map_or share_ended (share_steered call share) nothing_done

-- ---- the trash

-- what is left of the trash of a user once that item is gone: of it some goes, too
abbrev pub gone_beside : Tables → ℕ → ItemRow → List ℕ
gone_beside t now item = gone_of t now (quota_of t item.owner) (items_but t item.owner item.node)

abbrev pub item_dropped : Tables → ℕ → ItemRow → Allowed
item_dropped t now item = done (purges (item.node ∷ gone_beside t now item)) report.Done

-- an item comes back, and of the others those go that do then
abbrev pub restoring : Tables → ℕ → ItemRow → List Deed
restoring t now item = deed.Restore item.node (home_of t item) (name_back t item) ∷ purges (gone_beside t now item)

abbrev pub item_restored : Tables → ℕ → ItemRow → Allowed
item_restored t now item = done (settled_by t (charged t item.owner 0 (item_size t item)) (restoring t now item)) report.Made

abbrev pub trash_done : Call → TrashAsk → Allowed
trash_done call (trash.List user) = allowed.Change [] None (report.Items (item_lines call.state.tables (asker_of call)))
trash_done call (trash.Drop user item) = option_map_or (item_dropped call.state.tables call.now) (own_item call item) nothing_done
trash_done call (trash.Empty user) =
    done (purges (map (λ item. item.node) (items_of call.state.tables (asker_of call)))) report.Done
trash_done call (trash.Restore user item) = option_map_or (item_restored call.state.tables call.now) (own_item call item) nothing_done

-- ---- versions

-- a file has that content since that moment
abbrev pub is_same : ℕ → List Piece → NodeRow → Bool
is_same now content row = content_eq row.content content && row.changed == now

-- what becomes of versions where that is a file's content, with the one of the moment `back` in its place, where one comes back
abbrev pub turns_over : Tables → ℕ → Option ℕ → List Piece → NodeRow → List Change
turns_over t now back content row =
    let to = charged t row.owner (content_size row.content) (content_size content) in turned_over t back row (gone_after t now back row to.quota to.charge)

-- a file has that content: its row, if that is another, and what becomes of versions
abbrev pub refills : Tables → ℕ → Option ℕ → List Piece → NodeRow → List Change
refills t now back content row =
    (if is_same now content row then [] else Put (rows.Node (filled content now row)) ∷ []) ++ turns_over t now back content row

-- nothing, where it has
abbrev pub refilled : Tables → ℕ → List Piece → NodeRow → List Change
refilled t now content row = if is_same now content row then [] else refills t now None content row

-- a version is its file's content again
abbrev pub brought_back : Tables → ℕ → ℕ → VersionRow → Allowed
brought_back t now node version =
    allowed.Change (option_map_or (refills t now (Some version.at) version.content) (node_row t.nodes node) []) None report.Done

abbrev pub version_done : Tables → ℕ → VersionAsk → Allowed
version_done t now (version.List user node) = allowed.Change [] None (report.Versions (version_lines t.versions node))
version_done t now (version.Get user node at) =
    option_map_or (λ (row : VersionRow). allowed.Get node row.content) (version_row t.versions node at) nothing_done
version_done t now (version.Restore user node at) =
    option_map_or (brought_back t now node) (version_row t.versions node at) nothing_done

-- ---- uploads

-- an upload that begins
abbrev pub upload_begun : Tables → ℕ → ℕ → List ℕ → List (List ℕ) → Allowed
upload_begun t now user dir to =
    allowed.Change (Put (rows.Upload (record { user = user; dir = dir; to = to; touched = now })) ∷ []) None report.Made

-- a chunk of that number is sent, by who has the upload
abbrev pub chunk_sent : ℕ → List ℕ → ℕ → ℕ → Allowed
chunk_sent user dir length number = allowed.Chunk user dir number length

-- a new file, and the versions that go for it
abbrev pub new_file : Tables → NodeRow → List Change
new_file t row = Put (rows.Node row) ∷ map drop_version (unsettled t (charged t row.owner 0 (content_size row.content)) [])

-- that content is stored over the file that is there, or in a file under the name that is free
abbrev pub assembled_at : Tables → ℕ → List ℕ → List Piece → Found → List Change
assembled_at t now name content (At node) = option_map_or (refilled t now content) (node_row t.nodes node) []
assembled_at t now name content (Free folder) = new_file t (new_node t now folder name File content)
assembled_at t now name content (Missing depth) = []

abbrev pub joined_report : Found → Report
joined_report place = made_or_done (node_found place)

-- what the chunks of an upload have, one after the other, is the content of a file, and the upload goes
abbrev pub assembled : Tables → ℕ → List ℕ → ℕ → List ℕ → Found → Allowed
assembled t now name user dir place =
    done (deed.Store (assembled_at t now name (whole_of t.chunks user dir) place) ∷ deed.Abandon user dir ∷ []) (joined_report place)

abbrev pub upload_done : Call → Places → UploadAsk → Allowed
upload_done call places (upload.New user dir to) = upload_begun call.state.tables call.now (asker_of call) dir to
upload_done call places (upload.Chunk user dir name to length) =
    option_map_or (chunk_sent (asker_of call) dir length) (chunk_number name) nothing_done
upload_done call places (upload.Drop user dir) = done (deed.Abandon (asker_of call) dir ∷ []) report.Done
upload_done call places (upload.Join dir spot total) =
    option_map_or (assembled call.state.tables call.now (last_name spot) (asker_of call) dir) places.target allowed.Close

-- what the trash of a user doesn't hold any more
abbrev pub gone_from : Tables → ℕ → ℕ → List ℕ
gone_from t now user = gone_of t now (quota_of t user) (items_of t user)

-- the uploads that nobody sent a chunk of for a day
abbrev pub is_idle : ℕ → UploadRow → Bool
is_idle now row = nat_le (row.touched + MAX_IDLE) now

abbrev pub abandons : List UploadRow → List Deed
abandons rows = map (λ row. deed.Abandon row.user row.dir) rows

-- a sweep: of the trash of each user that goes, and so do these uploads
abbrev pub swept : Tables → ℕ → Allowed
swept t now = done (purges (flat_map (gone_from t now) (owners_of t.items)) ++ abandons (filter (is_idle now) t.uploads)) report.Plain

-- ---- people

-- a user has another quota, and of the user's trash what is beyond it goes
abbrev pub requoting : Tables → ℕ → ℕ → UserRow → List Deed
requoting t now quota row = deed.Requote (record row { quota = quota }) ∷ purges (gone_of t now quota (items_of t row.id))

-- a user with that quota
abbrev pub charged_to : Tables → ℕ → UserRow → Charged
charged_to t quota row = record { owner = row.id; charge = charge_of t row.id; quota = quota }

-- if it is another; and of the user's versions
abbrev pub requoted : Tables → ℕ → ℕ → UserRow → Allowed
requoted t now quota row =
    if row.quota == quota then nothing_done else done (settled_by t (charged_to t quota row) (requoting t now quota row)) report.Plain

abbrev pub people_done : Tables → ℕ → PeopleAsk → Allowed
people_done t now (people.SetQuota user quota) = option_map_or (requoted t now quota) (row_named t user) nothing_done
people_done t now asked = allowed.Change (people_changed t now asked) None report.Plain

abbrev pub given : Access → Call → Places → Wanted → Allowed
given access call places (wanted.Get spot) = served access call (way_of call spot).mount (node_at places.source)
given access call places (wanted.Put spot length) = stored (by_of call spot) (last_name spot) length places.target
given access call places (wanted.Mkcol spot) = made_folder call.state.tables call.now (last_name spot) places.target
given access call places (wanted.Delete spot) =
    let way = way_of call spot in if way.itself then mount_left call way else deleted call.state.tables call.now (node_at places.source)
given access call places (wanted.Move source target overwrite) =
    let way = way_of call source in
    if way.itself then mount_renamed call way (last_name target)
    else moved call.state.tables call.now (last_name target) (transfer_of call.state.tables.nodes places)
given access call places (wanted.Copy source target overwrite) =
    copied call.state.tables call.now (last_name target) (transfer_of call.state.tables.nodes places)
given access call places (wanted.Share ask) = shared access call places ask
given access call places (wanted.People asked) = people_done call.state.tables call.now asked
given access call places (wanted.Trash asked) = trash_done call asked
given access call places (wanted.Version asked) = version_done call.state.tables call.now asked
given access call places (wanted.Upload asked) = upload_done call places asked

-- what a call that no rule refuses may do, by what shares let their seekers do
abbrev pub allowed_of : Access → Call → Allowed
allowed_of access call = given access call (places_of call) call.request.wanted

-- ---- the rows, but for the moment of the meta row

-- the tables with their counters raised for some changes and a blob, at a moment: so each change meets tables that know its numbers
abbrev pub raised : Tables → ℕ → List Change → Option ℕ → Tables
raised t now changes blob = record t {
  meta = record (counted t.meta changes) { next_blob = blob_after t.meta.next_blob blob; last = now };
}

abbrev pub altered : Tables → ℕ → Allowed → Tables
altered t now (allowed.Get node content) = t
altered t now (allowed.List listing) = t
altered t now (allowed.Put by key length) = t
altered t now (allowed.Chunk user dir number length) = t
altered t now (allowed.Change changes blob report) = record (put_all t changes) { meta = (raised t now changes blob).meta }
altered t now (allowed.Deeds deeds report) = deeds_done t deeds
altered t now allowed.Close = t

-- ---- the same, told as a list of the rows that differ

-- the rows that an act changes, but for the meta row
abbrev pub told : Tables → Allowed → List Change
told t (allowed.Get node content) = []
told t (allowed.List listing) = []
told t (allowed.Put by key length) = []
told t (allowed.Chunk user dir number length) = []
told t (allowed.Change changes blob report) = changes
told t (allowed.Deeds deeds report) = told_deeds t deeds
told t allowed.Close = []

-- the meta row after an act: its counters, and the moment
abbrev pub meta_after : Tables → ℕ → Allowed → MetaRow
meta_after t now (allowed.Get node content) = record t.meta { last = now }
meta_after t now (allowed.List listing) = record t.meta { last = now }
meta_after t now (allowed.Put by key length) = record t.meta { last = now }
meta_after t now (allowed.Chunk user dir number length) = record t.meta { last = now }
meta_after t now (allowed.Change changes blob report) = (raised t now changes blob).meta
meta_after t now (allowed.Deeds deeds report) = record (deeds_done t deeds).meta { last = now }
meta_after t now allowed.Close = record t.meta { last = now }

abbrev pub same_meta : MetaRow → MetaRow → Bool
same_meta a b =
    a.next_user == b.next_user && a.next_group == b.next_group && a.next_node == b.next_node
    && a.next_share == b.next_share && a.next_blob == b.next_blob && a.last == b.last

-- the meta row, where it is another
abbrev pub new_meta : MetaRow → MetaRow → List Change
new_meta old meta = if same_meta old meta then [] else Put (rows.Meta meta) ∷ []

-- the meta row is stamped where another row differs
abbrev pub with_meta : MetaRow → MetaRow → List Change → List Change
with_meta old meta [] = []
with_meta old meta (change ∷ changes) = (change ∷ changes) ++ new_meta old meta

-- what an act changes: the rows that differ, and no other
abbrev pub changes_of : Tables → ℕ → Allowed → List Change
changes_of t now act = with_meta t.meta (meta_after t now act) (told t act)

-- ---- the tables after an act

-- the moment is stamped where a row differs
abbrev pub stamped : Tables → Tables → ℕ → List Change → Tables
stamped before after now [] = before
stamped before after now (change ∷ changes) = record after { meta = record after.meta { last = now } }

abbrev pub changed : Tables → ℕ → Allowed → Tables
changed t now act = stamped t (altered t now act) now (told t act)

-- ---- the tickets

-- what an act grants
abbrev pub goal_of : Allowed → Option Goal
goal_of (allowed.Get node content) = Some (Serve content)
goal_of (allowed.List listing) = None
goal_of (allowed.Put by key length) = Some (Store by key length)
goal_of (allowed.Chunk user dir number length) = Some (Chunk user dir number length)
goal_of (allowed.Change changes blob report) = None
goal_of (allowed.Deeds deeds report) = None
goal_of allowed.Close = None

-- what it holds for that: a file that is sent beside others who read it, and what is stored over alone
abbrev pub hold_of : Allowed → Option Hold
hold_of (allowed.Get node content) = Some (record { key = Node node; mode = Shared })
hold_of (allowed.List listing) = None
hold_of (allowed.Put by key length) = Some (record { key = key; mode = Exclusive })
hold_of (allowed.Chunk user dir number length) = None
hold_of (allowed.Change changes blob report) = None
hold_of (allowed.Deeds deeds report) = None
hold_of allowed.Close = None

abbrev pub with_goal : List Ticket → ℕ → Option Goal → Option Hold → List Ticket
with_goal tickets seat None hold = tickets
with_goal tickets seat (Some goal) hold = tickets ++ ticket_for seat goal hold ∷ []

-- ---- the bytes

-- the blob that an act stores
abbrev pub blob_of : Allowed → Option ℕ
blob_of (allowed.Get node content) = None
blob_of (allowed.List listing) = None
blob_of (allowed.Put by key length) = None
blob_of (allowed.Chunk user dir number length) = None
blob_of (allowed.Change changes blob report) = blob
blob_of (allowed.Deeds deeds report) = None
blob_of allowed.Close = None

-- ---- the state, and the reply

-- the state with an act done
abbrev pub applied : State → ℕ → ℕ → Allowed → State
applied s seat now act = record s { tables = changed s.tables now act; tickets = with_goal s.tickets seat (goal_of act) (hold_of act) }

abbrev pub reported : Report → Reply
reported report.Made = Made
reported report.Done = Done
reported (report.Share line) = reply.Share line
reported (report.Shares lines) = reply.Shares lines
reported (report.Items lines) = reply.Items lines
reported (report.Versions lines) = reply.Versions lines
reported report.Plain = reply.Plain

-- what is answered
abbrev pub reply_to : Allowed → Reply
reply_to (allowed.Get node content) = Granted (Serve content)
reply_to (allowed.List listing) = Listing listing
reply_to (allowed.Put by key length) = Granted (Store by key length)
reply_to (allowed.Chunk user dir number length) = Granted (Chunk user dir number length)
reply_to (allowed.Change changes blob report) = reported report
reply_to (allowed.Deeds deeds report) = reported report
reply_to allowed.Close = Closed
