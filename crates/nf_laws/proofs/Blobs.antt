-- The blob that an act stores, and what an event stores in it. Whole blobs stay whole, and what is stored has the next number.
use Rattle.std.proofs.Common.{◌≡◌, ℕ, ◌<◌, ◌≤◌, ◌==◌, Bool, true, false, if◌then◌else◌, List, [], ◌∷◌, length, get_or, inl, inr, refl, sym, ap, subst, ◌∙◌, arith, ◌&&◌, Result, Ok, Err, ◌⊎◌, ◌++◌, filter, map, not}
use Rattle.std.specs.Prelude.{None, Option, option_map, Some}
use Rattle.std.specs.List.{All}
use Rattle.std.specs.Option.{IfSome, option_map_or}
use Rattle.std.proofs.lemmas.List.Elements.{All-cons, All-nil, All-contains, All-weaker}
use Rattle.std.proofs.lemmas.Option.{none-some}
use Rattle.std.proofs.lemmas.Bool.{cases_Bool, cond_both}
use Rattle.sha2.specs.Sha256.{sha256}
use Rattle.nf_base.specs.declared.changes.Change.{Change}
use Rattle.nf_base.specs.declared.content.Piece.{Piece}
use Rattle.nf_base.specs.declared.rows.MemberRow.{MemberRow}
use Rattle.nf_base.specs.declared.rows.MetaRow.{MetaRow}
use Rattle.nf_base.specs.declared.rows.MountRow.{MountRow}
use Rattle.nf_base.specs.declared.rows.NodeRow.{NodeRow}
use Rattle.nf_base.specs.declared.rows.Row.{Row}
use Rattle.nf_base.specs.declared.rows.ShareRow.{ShareRow}
use Rattle.nf_base.specs.declared.rows.ChunkRow.{ChunkRow}
use Rattle.nf_base.specs.declared.rows.UploadRow.{UploadRow}
use Rattle.nf_base.specs.Content.{content_eq}
use Rattle.nf_base.specs.declared.changes.Change.TheVariants.{Drop, Put}
use Rattle.nf_base.specs.declared.changes.RowKey.TheVariants as keys
use Rattle.nf_base.specs.declared.rows.Row.TheVariants as rows
use Rattle.nf_defs.specs.Prelude.{Access, blob_at, Blobs, chunk_key, content_of, filled, is_folder, made, node_key, node_row, put_all, put_blob, Tables, user_named, with_blob}
use Rattle.nf_defs.proofs.Blobs.{new_at, put_at, put_elsewhere, still_at}
use Rattle.nf_defs.proofs.Puts.{all_put}
use Rattle.nf_defs.specs.declared.Found.{Found}
use Rattle.nf_defs.specs.declared.Found.TheVariants.{At, Free}
use Rattle.nf_laws.proofs.Contents.{all_have, by_kind, contents_sound, EachHas}
use Rattle.nf_laws.proofs.Entries.{deeds_known_have, entry_has, tickets_left, tickets_with}
use Rattle.nf_laws.proofs.InTurn.{deeds_keep}
use Rattle.nf_laws.proofs.Lists.{AreBuilt, counted_blob, IsBuilt}
use Rattle.nf_laws.proofs.Naming.{changes_named, deed_named, version_has}
use Rattle.nf_laws.proofs.Rows.{content_has, found_is, stamped_has}
use Rattle.nf_laws.specs.Wholes.{BlobsAreNew, Brings, IsGoalHeld, IsHeld, IsThere, StaysWhole, blob_in, blob_under}
use Rattle.nf_words.specs.Prelude.{assembled, asker_of, chunk_number, chunk_put, chunk_refusal, chunk_row, chunk_sent, chunk_stored, touched_row, upload_done, upload_row, upload_touched, access_of, after_mark, allowed_of, altered, AreSound, blob_after, blob_for, blob_of, by_of, Call, call_of, carries, changed, content_in, contents_of, copies, decision_of, deed_done, deleted, done, end_refusal, ends_at, ends_goal, given, goal_at, goal_of, hold_of, IsGoalSound, IsPieceSound, IsSound, IsTicketSound, item_dropped, item_restored, last_name, left_row, listing_of, made_folder, made_or_done, MayAsk, mount_left, mount_renamed, moved, named_row, node_at, own_item, own_mount, people_done, places_of, refilled, refusal_of, served, stamped, State, stored, stored_at, told, transfer_of, trash_done, unless_refused, way_of, with_goal, with_mount_row, without, is_member, joined_by, left_by, membership, mounts_for, mounts_joined, nothing_done, share_told, shared, share_made, offered, share_shown, share_set, perms_after, people_changed, put_mounts, requoted, row_named, same_end, set_row, share_steered, share_ended, until_after, becomes_version, brought_back, charged, charged_to, content_size, copies_settled, drop_version, gone_after, is_same, refills, requoting, settled_by, turned_over, turns_over, version_done, version_row}
use Rattle.nf_words.specs.declared.answer.Allowed.{Allowed}
use Rattle.nf_words.specs.declared.answer.Allowed.TheVariants as allowed
use Rattle.nf_words.specs.declared.answer.Goal.{Goal}
use Rattle.nf_words.specs.declared.answer.Goal.TheVariants.{Chunk, Serve, Store}
use Rattle.nf_words.specs.declared.history.Entry.{Entry}
use Rattle.nf_words.specs.declared.history.Mark.{Mark}
use Rattle.nf_words.specs.declared.history.Ticket.{Ticket}
use Rattle.nf_words.proofs.Bodies.{IsNext}
use Rattle.nf_words.proofs.Ends.{known_change}
use Rattle.nf_words.proofs.Fits.{IsOfVersion}
use Rattle.nf_words.proofs.Known.{Known}
use Rattle.nf_words.specs.declared.answer.By.{By}
use Rattle.nf_words.specs.declared.answer.Deed.{Deed}
use Rattle.nf_words.specs.declared.answer.Deed.TheVariants as deed
use Rattle.nf_words.specs.declared.answer.Denial.{Denial}
use Rattle.nf_words.specs.declared.answer.LockKey.{LockKey}
use Rattle.nf_words.specs.declared.answer.Report.{Report}
use Rattle.nf_words.specs.declared.answer.Report.TheVariants as report
use Rattle.nf_words.specs.declared.answer.LockKey.TheVariants.{Node, Slot}
use Rattle.nf_words.specs.declared.history.Event.{Event}
use Rattle.nf_words.specs.declared.history.Event.TheVariants.{Begin, End, Sweep}
use Rattle.nf_words.specs.declared.history.Outcome.{Outcome}
use Rattle.nf_words.specs.declared.history.Outcome.TheVariants.{Body}
use Rattle.nf_words.specs.declared.request.PeopleAsk.{PeopleAsk}
use Rattle.nf_words.specs.declared.request.PeopleAsk.TheVariants as people
use Rattle.nf_words.specs.declared.request.Places.{Places}
use Rattle.nf_words.specs.declared.request.ShareAsk.{ShareAsk}
use Rattle.nf_words.specs.declared.request.ShareAsk.TheVariants as ask
use Rattle.nf_words.specs.declared.request.Spot.{Spot}
use Rattle.nf_words.specs.declared.request.TrashAsk.{TrashAsk}
use Rattle.nf_words.specs.declared.request.TrashAsk.TheVariants as trash
use Rattle.nf_words.specs.declared.request.Wanted.{Wanted}
use Rattle.nf_words.specs.declared.request.Wanted.TheVariants as wanted
use Rattle.nf_laws.proofs.Turning.{altered_old}
use Rattle.nf_base.specs.declared.rows.VersionRow.{VersionRow}
use Rattle.nf_retention.specs.declared.versions.Version.{Version}
use Rattle.nf_words.specs.declared.request.VersionAsk.{VersionAsk}
use Rattle.nf_words.specs.declared.request.VersionAsk.TheVariants as version
use Rattle.nf_words.specs.declared.request.UploadAsk.{UploadAsk}
use Rattle.nf_words.specs.declared.request.UploadAsk.TheVariants as upload
use Rattle.nf_words.specs.Versions.{drop_back, drop_gone, has_already, is_version, put_replaced, stays_version, version_for}
use Rattle.nf_laws.specs.Acts.{IsOldVersion}

-- ---- a blob that is stored has the next number

pub act_next : (t : Tables) (now : ℕ) (act : Allowed) → Known t now act → IsNext t.meta.next_blob (blob_of act)
act_next t now (allowed.Change changes blob report) known = known.next
act_next t now act known = tt

-- no deed takes a number of a blob
deed_next : (u : Tables) (one : Deed) → (deed_done u one).meta.next_blob ≡ u.meta.next_blob
deed_next u (deed.Discard item) = refl
deed_next u (deed.Purge node) = refl
deed_next u (deed.Restore node folder name) = refl
deed_next u (deed.Relink node folder name) = refl
deed_next u (deed.Join copies) = refl
deed_next u (deed.Requote row) = refl
deed_next u (deed.Forget node at) = refl
deed_next u (deed.Store changes) = counted_blob u.meta changes
deed_next u (deed.Abandon user dir) = refl

pub altered_next : (t : Tables) (now : ℕ) (act : Allowed) → (altered t now act).meta.next_blob ≡ blob_after t.meta.next_blob (blob_of act)
altered_next t now (allowed.Deeds deeds report) =
    deeds_keep (λ (u : Tables). u.meta.next_blob ≡ t.meta.next_blob) (λ u one same. deed_next u one ∙ same) t deeds refl
altered_next t now allowed.Close = refl
altered_next t now act = refl

-- an act that changes no row stores nothing
pub told_blob : (t : Tables) (now : ℕ) (act : Allowed) → Known t now act → told t act ≡ [] → blob_of act ≡ None
told_blob t now (allowed.Change changes blob report) known none = known.stored none
told_blob t now act known none = refl

-- ---- what an event stores

-- a change that may be in a list is of a row without content, or of a node's or a chunk's with that content
abbrev pub IsOf : List Piece → Change → Type 0
IsOf content (Put (rows.Node row)) = row.content ≡ content
IsOf content (Put (rows.Chunk row)) = row.content ≡ content
IsOf content change = IsBuilt change

abbrev pub AreOf : List Piece → List Change → Type 0
AreOf content [] = Unit {0}
AreOf content (change ∷ changes) = IsOf content change × AreOf content changes

append_of : (content : List Piece) (xs ys : List Change) → AreOf content xs → AreOf content ys → AreOf content (xs ++ ys)
append_of content [] ys first second = second
append_of content (x ∷ xs) ys first second = (first.0, append_of content xs ys first.1 second)

-- versions that go have no content
drops_of : (content : List Piece) (gone : List Version) → AreOf content (map drop_version gone)
drops_of content [] = tt
drops_of content (version ∷ gone) = (tt, drops_of content gone)

turned_of : (content : List Piece) (t : Tables) (back : Option ℕ) (row : NodeRow) (gone : List Version) → AreOf content (turned_over t back row gone)
turned_of content t back row gone =
    let stays = stays_version t back row gone in
    append_of content (put_replaced t row stays) (drop_back back row stays ++ drop_gone (becomes_version t.versions back row) row gone)
    (cond_both (stays && not (has_already t.versions row)) (Put (rows.Version (version_for row)) ∷ []) [] (AreOf content) (λ e. (tt, tt)) (λ e. tt))
    (append_of content (drop_back back row stays) (drop_gone (becomes_version t.versions back row) row gone) (here back stays)
    (drops_of content (filter (λ version. not (becomes_version t.versions back row && is_version row.id row.changed version)) gone)))
  where
    here : (o : Option ℕ) (b : Bool) → AreOf content (drop_back o row b)
    here None b = tt
    here (Some at) b = cond_both (b && at == row.changed) [] (Drop (keys.Version row.id at) ∷ []) (AreOf content) (λ e. tt) (λ e. (tt, tt))

refills_of : (t : Tables) (now : ℕ) (back : Option ℕ) (content : List Piece) (row : NodeRow) → AreOf content (refills t now back content row)
refills_of t now back content row =
    let to = charged t row.owner (content_size row.content) (content_size content) in
    append_of content (if is_same now content row then [] else Put (rows.Node (filled content now row)) ∷ []) (turns_over t now back content row)
    (cond_both (is_same now content row) [] (Put (rows.Node (filled content now row)) ∷ []) (AreOf content) (λ e. tt) (λ e. (refl, tt)))
    (turned_of content t back row (gone_after t now back row to.quota to.charge))

pub refilled_of : (t : Tables) (o : Option NodeRow) (now : ℕ) (content : List Piece) → AreOf content (option_map_or (refilled t now content) o [])
refilled_of t None now content = tt
refilled_of t (Some row) now content =
    cond_both (is_same now content row) [] (refills t now None content row) (AreOf content) (λ same. tt) (λ other. refills_of t now None content row)

of_one : (content : List Piece) (change : Change) → IsOf content change → IsBuilt change
of_one content (Put (rows.Node row)) of = tt
of_one content (Put (rows.Chunk row)) of = tt
of_one content change of = of

pub of_nodes : (content : List Piece) (changes : List Change) → AreOf content changes → AreBuilt changes
of_nodes content [] of = tt
of_nodes content (change ∷ changes) of = (of_one content change of.0, of_nodes content changes of.1)

-- each is of a row without content, or with that of a version
abbrev pub AreOld : Tables → List Change → Type 0
AreOld t changes = AreOf [] changes ⊎ ((node : ℕ) × (content : List Piece) × IsOfVersion t node content × AreOf content changes)

-- changes store these bytes, if they store any
abbrev pub StoreBody : Tables → List ℕ → List Change → Option ℕ → Type 0
StoreBody t body changes blob =
    let next = t.meta.next_blob in
    ((blob ≡ None) × AreOld t changes)
    ⊎ ((blob ≡ blob_for next (length body)) × AreOf (content_in (blob_for next (length body)) (sha256 body) (length body)) changes)

-- an act does
abbrev pub StoresBody : Tables → List ℕ → Allowed → Type 0
StoresBody t body (allowed.Change changes blob report) = StoreBody t body changes blob
StoresBody t body act = Unit {0}

-- what a request that is neither a GET nor about versions may do: no change that stores or shows a content, or gives a file one
abbrev pub Alters : Tables → Allowed → Type 0
Alters t (allowed.Get node content) = ⊥
Alters t (allowed.List listing) = ⊥
Alters t (allowed.Change changes blob report) = (blob ≡ None) × AreOf [] changes
Alters t act = Unit {0}

put_alters : (t : Tables) (by : By) (name : List ℕ) (size : ℕ) (o : Option Found) → Alters t (stored by name size o)
put_alters t by name size None = tt
put_alters t by name size (Some (At node)) = tt
put_alters t by name size (Some place) = tt

folder_alters : (t : Tables) (now : ℕ) (name : List ℕ) (o : Option Found) → Alters t (made_folder t now name o)
folder_alters t now name None = tt
folder_alters t now name (Some (Free folder)) = (refl, (refl, tt))
folder_alters t now name (Some place) = tt

-- what is done where something is there
either_alters : {X : Type 0} (t : Tables) (act : X → Allowed) (o : Option X) → ((x : X) → Alters t (act x)) → Alters t (option_map_or act o allowed.Close)
either_alters t act None all = tt
either_alters t act (Some x) all = all x

if_alters : (t : Tables) (b : Bool) (act other : Allowed) → Alters t act → Alters t other → Alters t (if b then act else other)
if_alters t true act other one another = one
if_alters t false act other one another = another

mount_alters : (t : Tables) (row : Option MountRow) (told : Report) → Alters t (with_mount_row row told)
mount_alters t None told = (refl, tt)
mount_alters t (Some row) told = (refl, (tt, tt))

-- what is asked about shares puts rows of shares and mounts alone
found_alters : {X : Type 0} (t : Tables) (act : X → Allowed) (o : Option X) → ((x : X) → Alters t (act x)) → Alters t (option_map_or act o nothing_done)
found_alters t act None all = (refl, tt)
found_alters t act (Some x) all = all x

mounts_of : (content : List Piece) (mounts : List MountRow) → AreOf content (put_mounts mounts)
mounts_of content [] = tt
mounts_of content (mount ∷ mounts) = (tt, mounts_of content mounts)

set_alters : (t : Tables) (share row : ShareRow) (same : Bool) → Alters t (share_told t (if same then [] else Put (rows.Share share) ∷ []) row)
set_alters t share row true = (refl, tt)
set_alters t share row false = (refl, (tt, tt))

shared_alters : (call : Call) (places : Places) (asked : ShareAsk) → Alters call.state.tables (shared (access_of call.state) call places asked)
shared_alters call places (ask.New spot to perms until) =
    let t = call.state.tables in
    found_alters t (share_made (access_of call.state) call) (offered call spot to perms until) (λ offer.
    (refl, (tt, mounts_of [] (mounts_for t offer))))
shared_alters call places (ask.List spot with_me) = (refl, tt)
shared_alters call places (ask.Show share) =
    found_alters call.state.tables (share_told call.state.tables []) (share_shown call share) (λ row. (refl, tt))
shared_alters call places (ask.Set share perms until) =
    let t = call.state.tables in
    found_alters t (λ row. share_set t (perms_after t perms row) (until_after until row.until) row) (share_steered call share) (λ row.
    let wanted = perms_after t perms row in
    let end = until_after until row.until in
    let other = set_row wanted end row in set_alters t other other (wanted == row.perms && same_end end row.until))
shared_alters call places (ask.End share) = found_alters call.state.tables share_ended (share_steered call share) (λ row. (refl, (tt, tt)))

-- and what is asked about users and groups puts rows without content
joined_of : (t : Tables) (row : MemberRow) (b : Bool) → AreOf [] (if b then [] else Put (rows.Member row) ∷ put_mounts (mounts_joined t row))
joined_of t row true = tt
joined_of t row false = (tt, mounts_of [] (mounts_joined t row))

left_of : (group user : ℕ) (b : Bool) → AreOf [] (if b then Drop (keys.Member group user) ∷ [] else [])
left_of group user true = (tt, tt)
left_of group user false = tt

where_found : {X : Type 0} (changes : X → List Change) (o : Option X) → ((x : X) → AreOf [] (changes x)) → AreOf [] (option_map_or changes o [])
where_found changes None of = tt
where_found changes (Some x) of = of x

pub people_of : (t : Tables) (now : ℕ) (asked : PeopleAsk) → AreOf [] (people_changed t now asked)
people_of t now (people.NewUser name token quota) = (tt, (refl, (tt, tt)))
people_of t now (people.NewGroup name) = (tt, tt)
people_of t now (people.AddMember user group) = where_found (joined_by t) (membership t user group) (λ row. joined_of t row (is_member t row))
people_of t now (people.DropMember user group) =
    where_found (left_by t) (membership t user group) (λ row. left_of row.group row.user (is_member t row))
people_of t now (people.SetQuota user quota) = tt
people_of t now (people.AddToken user token) =
    where_found (λ user. Put (rows.Token (record { digest = token; user = user })) ∷ []) (user_named t.users user) (λ id. (tt, tt))

people_alters : (call : Call) (asked : PeopleAsk) → Alters call.state.tables (people_done call.state.tables call.now asked)
people_alters call (people.SetQuota user quota) =
    let t = call.state.tables in
    found_alters t (requoted t call.now quota) (row_named t user) (λ row.
    if_alters t (row.quota == quota) nothing_done
    (done (settled_by t (charged_to t quota row) (requoting t call.now quota row)) report.Plain) (refl, tt) tt)
people_alters call (people.NewUser name token quota) =
    (refl, (people_of call.state.tables call.now (people.NewUser name token quota)))
people_alters call (people.NewGroup name) = (refl, (people_of call.state.tables call.now (people.NewGroup name)))
people_alters call (people.AddMember user group) = (refl, (people_of call.state.tables call.now (people.AddMember user group)))
people_alters call (people.DropMember user group) = (refl, (people_of call.state.tables call.now (people.DropMember user group)))
people_alters call (people.AddToken user token) = (refl, (people_of call.state.tables call.now (people.AddToken user token)))

-- what is put in the trash, goes or comes back has its content
trash_alters : (call : Call) (asked : TrashAsk) → Alters call.state.tables (trash_done call asked)
trash_alters call (trash.List user) = (refl, tt)
trash_alters call (trash.Drop user item) =
    found_alters call.state.tables (item_dropped call.state.tables call.now) (own_item call item) (λ item. tt)
trash_alters call (trash.Empty user) = tt
trash_alters call (trash.Restore user item) =
    found_alters call.state.tables (item_restored call.state.tables call.now) (own_item call item) (λ item. tt)

-- an upload that is new, goes or becomes the content of a file stores nothing
upload_alters : (call : Call) (places : Places) (asked : UploadAsk) → Alters call.state.tables (upload_done call places asked)
upload_alters call places (upload.New user dir to) = (refl, (tt, tt))
upload_alters call places (upload.Chunk user dir name to length) =
    found_alters call.state.tables (chunk_sent (asker_of call) dir length) (chunk_number name) (λ number. tt)
upload_alters call places (upload.Drop user dir) = tt
upload_alters call places (upload.Join dir spot total) =
    either_alters call.state.tables (assembled call.state.tables call.now (last_name spot) (asker_of call) dir) places.target (λ place. tt)

pub given_alters : (call : Call) (places : Places) (asked : Wanted)
    → ((spot : Spot) × (asked ≡ wanted.Get spot))
    ⊎ (((ask : VersionAsk) × (asked ≡ wanted.Version ask)) ⊎ Alters call.state.tables (given (access_of call.state) call places asked))
given_alters call places (wanted.Get spot) = inl (spot, refl)
given_alters call places (wanted.Put spot size) = inr (inr (put_alters call.state.tables (by_of call spot) (last_name spot) size places.target))
given_alters call places (wanted.Mkcol spot) = inr (inr (folder_alters call.state.tables call.now (last_name spot) places.target))
given_alters call places (wanted.Delete spot) =
    let t = call.state.tables in
    let way = way_of call spot in
    inr (inr (if_alters t way.itself (mount_left call way) (deleted t call.now (node_at places.source))
    (mount_alters t (option_map left_row (own_mount call way.mount)) report.Done) tt))
given_alters call places (wanted.Move source target overwrite) =
    let t = call.state.tables in
    let way = way_of call source in
    let name = last_name target in
    inr (inr (if_alters t way.itself (mount_renamed call way name) (moved t call.now name (transfer_of t.nodes places))
    (mount_alters t (option_map (named_row name) (own_mount call way.mount)) report.Made)
    (either_alters t (λ transfer. done (carries t call.now name transfer) (made_or_done transfer.replaced)) (transfer_of t.nodes places)
    (λ transfer. tt))))
given_alters call places (wanted.Copy source target overwrite) =
    let t = call.state.tables in
    let name = last_name target in
    inr (inr (either_alters t (λ transfer. done (copies_settled t call.now name transfer) (made_or_done transfer.replaced)) (transfer_of t.nodes places)
    (λ transfer. tt)))
given_alters call places (wanted.Share asked) = inr (inr (shared_alters call places asked))
given_alters call places (wanted.People asked) = inr (inr (people_alters call asked))
given_alters call places (wanted.Trash asked) = inr (inr (trash_alters call asked))
given_alters call places (wanted.Version asked) = inr (inl (asked, refl))
given_alters call places (wanted.Upload asked) = inr (inr (upload_alters call places asked))

-- so a Begin stores nothing
alters_stores : (t : Tables) (body : List ℕ) (act : Allowed) → Alters t act → StoresBody t body act
alters_stores t body (allowed.Change changes blob report) alters = inl (alters.0, inl alters.1)
alters_stores t body act alters = tt

served_stores : (access : Access) (call : Call) (body : List ℕ) (mount o : Option ℕ) → StoresBody call.state.tables body (served access call mount o)
served_stores access call body mount None = tt
served_stores access call body mount (Some node) =
    cond_both (is_folder call.state.tables.nodes node) (allowed.List (listing_of access call mount node))
    (allowed.Get node (content_of call.state.tables.nodes node))
    (StoresBody call.state.tables body) (λ folder. tt) (λ file. tt)

-- and a version that comes back is its file's content
pub version_stores : (t : Tables) (now : ℕ) (body : List ℕ) (asked : VersionAsk) → StoresBody t body (version_done t now asked)
version_stores t now body (version.List user node) = inl (refl, inl tt)
version_stores t now body (version.Get user node at) = here (version_row t.versions node at)
  where
    here : (o : Option VersionRow) → StoresBody t body (option_map_or (λ (row : VersionRow). allowed.Get node row.content) o nothing_done)
    here None = inl (refl, inl tt)
    here (Some row) = tt
version_stores t now body (version.Restore user node at) = here (version_row t.versions node at) refl
  where
    of_row : (one : VersionRow) (o : Option NodeRow) → AreOf one.content (option_map_or (refills t now (Some one.at) one.content) o [])
    of_row one None = tt
    of_row one (Some row) = refills_of t now (Some one.at) one.content row

    here : (o : Option VersionRow) → version_row t.versions node at ≡ o → StoresBody t body (option_map_or (brought_back t now node) o nothing_done)
    here None e = inl (refl, inl tt)
    here (Some one) e = inl (refl, inr (node, one.content, (one, at, e, refl), of_row one (node_row t.nodes node)))

given_stores : (call : Call) (body : List ℕ) (places : Places) (asked : Wanted)
    → StoresBody call.state.tables body (given (access_of call.state) call places asked)
given_stores call body places asked =
    let t = call.state.tables in
    elim (given_alters call places asked) [
      | inl get ↦
          subst (λ (w : Wanted). StoresBody t body (given (access_of call.state) call places w)) (sym get.1)
          (served_stores (access_of call.state) call body (way_of call get.0).mount (node_at places.source))
      | inr (inl version) ↦
          subst (λ (w : Wanted). StoresBody t body (given (access_of call.state) call places w)) (sym version.1) (version_stores t call.now body version.0)
      | inr (inr alters) ↦ alters_stores t body (given (access_of call.state) call places asked) alters
    ]

-- the End of a PUT stores its body
key_stores : (t : Tables) (now : ℕ) (key : LockKey) (body : List ℕ)
    → StoresBody t body (stored_at t now key (sha256 body) (length body))
key_stores t now (Node node) body = inr (refl, refilled_of t (node_row t.nodes node) now _)
key_stores t now (Slot folder name) body = inr (refl, (refl, drops_of _ _))

-- and so does that of a chunk
chunk_of : (t : Tables) (now : ℕ) (row : ChunkRow) (o : Option UploadRow)
    → AreOf row.content (chunk_put t row ++ option_map_or (upload_touched now) o [])
chunk_of t now row o =
    append_of row.content (chunk_put t row) (option_map_or (upload_touched now) o [])
    (cond_both (option_map_or (λ old. content_eq old.content row.content) (chunk_row t.chunks row.user row.dir row.number) false) []
    (Put (rows.Chunk row) ∷ []) (AreOf row.content) (λ again. tt) (λ other. (refl, tt)))
    (here o)
  where
    here : (o : Option UploadRow) → AreOf row.content (option_map_or (upload_touched now) o [])
    here None = tt
    here (Some upload) =
        cond_both (upload.touched == now) [] (Put (rows.Upload (touched_row now upload)) ∷ []) (AreOf row.content) (λ same. tt) (λ other. (tt, tt))

chunk_stores : (t : Tables) (now user : ℕ) (dir : List ℕ) (number : ℕ) (body : List ℕ)
    → StoresBody t body (chunk_stored t now user dir number (sha256 body) (length body))
chunk_stores t now user dir number body =
    let content = content_in (blob_for t.meta.next_blob (length body)) (sha256 body) (length body) in
    inr (refl, chunk_of t now (record { user = user; dir = dir; number = number; content = content }) (upload_row t.uploads user dir))

-- a decision stores these bytes, if it stores any
abbrev pub Decides : Tables → List ℕ → Result Allowed Denial → Type 0
Decides t body (Ok act) = StoresBody t body act
Decides t body (Err refusal) = Unit {0}

unless_stores : (t : Tables) (body : List ℕ) (refusal : Option Denial) (act : Allowed) → StoresBody t body act
    → Decides t body (unless_refused refusal act)
unless_stores t body None act stores = stores
unless_stores t body (Some refusal) act stores = tt

goal_stores : (access : Access) (t : Tables) (now : ℕ) (outcome : Outcome) (goal : Goal) (body : List ℕ) → Brings body (End outcome)
    → Decides t body (ends_goal access t now outcome goal)
goal_stores access t now (Body digest size) (Store by key wanted) body brings =
    unless_stores t body (end_refusal access t now by key size) (stored_at t now key digest size) (rw (brings.0, brings.1) (key_stores t now key body))
goal_stores access t now (Body digest size) (Chunk user dir number wanted) body brings =
    unless_stores t body (chunk_refusal t user dir number size) (chunk_stored t now user dir number digest size)
    (rw (brings.0, brings.1) (chunk_stores t now user dir number body))
goal_stores access t now (Body digest size) goal body brings = tt
goal_stores access t now outcome goal body brings = tt

at_stores : (access : Access) (t : Tables) (now : ℕ) (outcome : Outcome) (goal : Option Goal) (body : List ℕ) → Brings body (End outcome)
    → Decides t body (ends_at access t now outcome goal)
at_stores access t now outcome None body brings = tt
at_stores access t now outcome (Some goal) body brings = goal_stores access t now outcome goal body brings

pub decision_stores : (s : State) (seat now : ℕ) (event : Event) (body : List ℕ) → Brings body event → Decides s.tables body (decision_of s seat now event)
decision_stores s seat now (Begin words request) body brings =
    let call = call_of s seat now words request in
    unless_stores s.tables body (refusal_of (access_of s) call) (allowed_of (access_of s) call) (given_stores call body (places_of call) request.wanted)
decision_stores s seat now (End outcome) body brings = at_stores (access_of s) s.tables now outcome (goal_at s seat) body brings
decision_stores s seat now Sweep body brings = tt

-- ---- pieces whose bytes stay

-- a piece whose bytes are the same is there still
pub kept_there : (blobs more : Blobs) (piece : Piece) → blob_at more piece.blob ≡ blob_at blobs piece.blob
    → IsThere blobs piece → IsThere more piece
kept_there blobs more piece same is = record { bytes = is.bytes; there = same ∙ is.there; size = is.size; digest = is.digest }

-- and one that was damaged was so
pub kept_held : (opening : List Row) (start blobs more : Blobs) (piece : Piece) → blob_at more piece.blob ≡ blob_at blobs piece.blob
    → IsHeld opening start blobs piece → IsHeld opening start more piece
kept_held opening start blobs more piece same (inl there) = inl (kept_there blobs more piece same there)
kept_held opening start blobs more piece same (inr damaged) = inr damaged

-- ---- numbers that were given keep their bytes

abbrev KeepsGiven : ℕ → Blobs → Blobs → Type 0
KeepsGiven next blobs more = (id : ℕ) → id < next → blob_at more id ≡ blob_at blobs id

given_kept : (next : ℕ) (blobs : Blobs) (blob : Option ℕ) (body : List ℕ) → IsNext next blob → KeepsGiven next blobs (with_blob blobs blob body)
given_kept next blobs None body is = λ id less. refl
given_kept next blobs (Some new) body is = λ id less. put_elsewhere blobs new body id (λ e. absurd (omega (arith, e, is, less)))

-- so pieces of given numbers stay held
pieces_kept : (t : Tables) (opening : List Row) (start blobs more : Blobs) (pieces : List Piece) → KeepsGiven t.meta.next_blob blobs more
    → All (IsPieceSound t) pieces → All (IsHeld opening start blobs) pieces → All (IsHeld opening start more) pieces
pieces_kept t opening start blobs more pieces keeps sound held = λ k d within.
    let piece = get_or pieces k d in
    kept_held opening start blobs more piece (keeps piece.blob (sound k d within).given) (held k d within)

-- all that the rows name is held
abbrev AreHeld : List Row → Blobs → Blobs → Tables → Type 0
AreHeld opening start blobs t = All (All (IsHeld opening start blobs)) (contents_of t)

contents_kept : (t : Tables) (opening : List Row) (start blobs more : Blobs) → KeepsGiven t.meta.next_blob blobs more
    → AreSound t → AreHeld opening start blobs t → AreHeld opening start more t
contents_kept t opening start blobs more keeps sound held = λ k d within.
    pieces_kept t opening start blobs more (get_or (contents_of t) k d) keeps (contents_sound t sound k d within) (held k d within)

-- ---- what a body brings

brought : (next : ℕ) (opening : List Row) (start blobs : Blobs) (body : List ℕ)
    → All (IsHeld opening start (with_blob blobs (blob_for next (length body)) body))
    (content_in (blob_for next (length body)) (sha256 body) (length body))
brought next opening start blobs body =
    elim (cases_Bool (length body == 0)) [
      | inl none ↦ simp none (All-nil (IsHeld opening start blobs))
      | inr some ↦
          (let more = put_blob blobs next body in
          simp some (All-cons (IsHeld opening start more) _ []
          (inl (record { bytes = body; there = put_at blobs next body; size = refl; digest = refl }))
          (All-nil (IsHeld opening start more))))
    ]

-- ---- the tables after an act

-- the content of a body is held with it
stored_held : (next : ℕ) (opening : List Row) (start blobs : Blobs) (body : List ℕ) (blob : Option ℕ) (content : List Piece)
    → blob ≡ blob_for next (length body) → content ≡ content_in (blob_for next (length body)) (sha256 body) (length body)
    → All (IsHeld opening start (with_blob blobs blob body)) content
stored_held next opening start blobs body blob content in_blob in_content =
    rw (in_blob, in_content) (brought next opening start blobs body)

-- what nodes and chunks have, and all of that content, they have after changes to it
module _ (P : List Piece → Type 0) (content : List Piece) (has : P content) where
  abbrev AllHave : Tables → Type 0
  AllHave t = All (λ (row : NodeRow). P row.content) t.nodes × All (λ (row : ChunkRow). P row.content) t.chunks

  one_has : (t : Tables) (change : Change) → IsOf content change → AllHave t → AllHave (made t change)
  one_has t (Put (rows.Node row)) of all =
      (all_put node_key (λ (row : NodeRow). P row.content) row t.nodes (subst P (sym of) has) all.0, all.1)
  one_has t (Put (rows.Chunk row)) of all =
      (all.0, all_put chunk_key (λ (row : ChunkRow). P row.content) row t.chunks (subst P (sym of) has) all.1)
  one_has t (Drop (keys.Node node)) of all = absurd of
  one_has t (Drop (keys.Chunk user dir number)) of all = absurd of
  one_has t change of all = all

  of_have : (t : Tables) (changes : List Change) → AreOf content changes → AllHave t → AllHave (put_all t changes)
  of_have t [] of all = all
  of_have t (change ∷ changes) of all = of_have (made t change) changes of.1 (one_has t change of.0 all)

-- what rows name is held, told by the kind of the row
abbrev AllHeld : List Row → Blobs → Blobs → Tables → Type 0
AllHeld opening start blobs t = EachHas (All (IsHeld opening start blobs)) t

-- a version has what its file had, or is one that there was
old_held : (t : Tables) (opening : List Row) (start blobs : Blobs) → AllHeld opening start blobs t → (version : VersionRow) → IsOldVersion t version
    → All (IsHeld opening start blobs) version.content
old_held t opening start blobs held version (inl among) =
    All-contains (λ (row : VersionRow). All (IsHeld opening start blobs) row.content) t.versions version held.versions among
old_held t opening start blobs held version (inr (was, there, same)) =
    subst (λ (row : VersionRow). All (IsHeld opening start blobs) row.content) (sym same)
    (found_is (λ (row : NodeRow). All (IsHeld opening start blobs) row.content) (λ (row : NodeRow). row.id == version.node) t.nodes was held.nodes there).1

-- where what the old rows name is held with the body, what the new ones name is
altered_held : (t : Tables) (now : ℕ) (act : Allowed) (opening : List Row) (start blobs : Blobs) (body : List ℕ)
    → AreSound t → t.meta.last ≤ now → Known t now act → AllHeld opening start (with_blob blobs (blob_of act) body) t → StoresBody t body act
    → AllHeld opening start (with_blob blobs (blob_of act) body) (altered t now act)
altered_held t now (allowed.Change changes None told) opening start blobs body sound later known held stores =
    changes_named (IsHeld opening start blobs) t now changes told sound known held
altered_held t now (allowed.Change changes (Some blob) told) opening start blobs body sound later known held stores =
    let more = with_blob blobs (Some blob) body in
    let Held : List Piece → Type 0 = All (IsHeld opening start more) in
    let content = content_in (blob_for t.meta.next_blob (length body)) (sha256 body) (length body) in
    elim stores [
      | inl none ↦ let absent = none.0 in absurd (cc)
      | inr some ↦
          (let both = of_have Held content (stored_held t.meta.next_blob opening start blobs body (Some blob) content some.0 refl) t changes some.1
          (held.nodes, held.chunks) in
          record {
            nodes = both.0;
            versions = All-weaker (IsOldVersion t) (λ (row : VersionRow). Held row.content) (old_held t opening start more held)
                (put_all t changes).versions (altered_old t now (allowed.Change changes (Some blob) told) sound known);
            chunks = both.1;
          })
    ]
altered_held t now (allowed.Deeds deeds told) opening start blobs body sound later known held stores =
    let Q : Piece → Type 0 = IsHeld opening start blobs in
    let P : Tables → Type 0 = λ u. EachHas (All Q) u in
    let stamped = deeds_known_have P t now deeds sound later known (λ u one fine at fit. deed_named Q u now one fine at fit)
    (record { nodes = held.nodes; versions = held.versions; chunks = held.chunks }) in
    record { nodes = stamped.nodes; versions = stamped.versions; chunks = stamped.chunks }
altered_held t now act opening start blobs body sound later known held stores = held

changed_held : (t : Tables) (now : ℕ) (act : Allowed) (opening : List Row) (start blobs : Blobs) (body : List ℕ)
    → AreSound t → t.meta.last ≤ now → Known t now act
    → AreHeld opening start (with_blob blobs (blob_of act) body) t → StoresBody t body act
    → AreHeld opening start (with_blob blobs (blob_of act) body) (changed t now act)
changed_held t now act opening start blobs body sound later known kept stores =
    let more = with_blob blobs (blob_of act) body in
    let Held : List Piece → Type 0 = All (IsHeld opening start more) in
    stamped_has (AreHeld opening start more) t (altered t now act) now (told t act) kept
    (all_have Held (altered t now act) (altered_held t now act opening start blobs body sound later known (by_kind Held t kept) stores))

-- ---- the tickets

abbrev HasGoalHeld : List Row → Blobs → Blobs → Ticket → Type 0
HasGoalHeld opening start blobs ticket = IsGoalHeld opening start blobs ticket.goal

goal_kept : (t : Tables) (opening : List Row) (start blobs more : Blobs) (goal : Goal) → KeepsGiven t.meta.next_blob blobs more
    → IsGoalSound t goal → IsGoalHeld opening start blobs goal → IsGoalHeld opening start more goal
goal_kept t opening start blobs more (Serve content) keeps sound held = pieces_kept t opening start blobs more content keeps sound held
goal_kept t opening start blobs more (Store by key size) keeps sound held = tt
goal_kept t opening start blobs more (Chunk user dir number size) keeps sound held = tt

tickets_kept : (t : Tables) (opening : List Row) (start blobs more : Blobs) (tickets : List Ticket) → KeepsGiven t.meta.next_blob blobs more
    → All (IsTicketSound t) tickets → All (HasGoalHeld opening start blobs) tickets → All (HasGoalHeld opening start more) tickets
tickets_kept t opening start blobs more tickets keeps sound held = λ k d within.
    goal_kept t opening start blobs more (get_or tickets k d).goal keeps (sound k d within).goal (held k d within)

granted_held : (t : Tables) (now : ℕ) (act : Allowed) (opening : List Row) (start blobs : Blobs) → Known t now act
    → AreHeld opening start blobs t → IfSome (goal_of act) (IsGoalHeld opening start blobs)
granted_held t now (allowed.Get node content) opening start blobs known all =
    let each = by_kind (All (IsHeld opening start blobs)) t all in
    elim known.of_node [
      | inl same ↦ subst (All (IsHeld opening start blobs)) (sym same) (content_has (IsHeld opening start blobs) t.nodes node each.nodes)
      | inr of ↦ version_has (IsHeld opening start blobs) t node content each of
    ]
granted_held t now act opening start blobs known all = tt

-- ---- the state

-- what the rows and the granted GETs name is held
abbrev Holds : List Row → Blobs → Blobs → Tables → List Ticket → Type 0
Holds opening start blobs t tickets = AreHeld opening start blobs t × All (HasGoalHeld opening start blobs) tickets

-- so blobs are whole after an act
act_whole : (t : Tables) (tickets : List Ticket) (seat now : ℕ) (act : Allowed) (opening : List Row)
    (start blobs : Blobs) (body : List ℕ)
    → AreSound t → t.meta.last ≤ now → All (IsTicketSound t) tickets → Known t now act → StoresBody t body act
    → Holds opening start blobs t tickets
    → Holds opening start (with_blob blobs (blob_of act) body) (changed t now act) (with_goal tickets seat (goal_of act) (hold_of act))
act_whole t tickets seat now act opening start blobs body sound later goals known stores whole =
    let more = with_blob blobs (blob_of act) body in
    let keeps = given_kept t.meta.next_blob blobs (blob_of act) body (act_next t now act known) in
    let kept = contents_kept t opening start blobs more keeps sound whole.0 in (
      changed_held t now act opening start blobs body sound later known kept stores,
      tickets_with (HasGoalHeld opening start more) tickets seat (goal_of act) (hold_of act)
          (tickets_kept t opening start blobs more tickets keeps goals whole.1)
          (granted_held t now act opening start more known kept),
    )

pub stays_whole : StaysWhole
stays_whole n s e body opening start blobs sound may brings whole =
    let first : Holds opening start blobs s.tables (without s e.seat e.event).tickets =
    (whole.rows, tickets_left (HasGoalHeld opening start blobs) s e.seat e.event whole.tickets) in
    let goals = tickets_left (IsTicketSound s.tables) s e.seat e.event sound.tickets in
    let h = entry_has (λ t tickets blob. Holds opening start (with_blob blobs blob body) t tickets) s e e.mark first
    (λ act is.
    act_whole s.tables (without s e.seat e.event).tickets e.seat e.moment act opening start blobs body sound.rows
    (omega (arith, sound.seen, may.not_before)) goals
    (known_change s e.seat e.moment e.event act sound may.asked is)
    (subst (Decides s.tables body) is (decision_stores s e.seat e.moment e.event body brings)) first) in
    record { rows = h.0; tickets = h.1 }

-- ---- new numbers

-- the number is the next one, and given by then
abbrev IsNew : MetaRow → MetaRow → ℕ → Type 0
IsNew before after id = (id ≡ before.next_blob) × (id < after.next_blob)

changed_new : (t : Tables) (now : ℕ) (act : Allowed) (id : ℕ) → AreSound t → Known t now act → blob_of act ≡ Some id
    → IsNew t.meta (changed t now act).meta id
changed_new t now act id sound known is = here (told t act) refl
  where
    next : id ≡ t.meta.next_blob
    next = subst (IsNext t.meta.next_blob) is (act_next t now act known)

    here : (changes : List Change) → told t act ≡ changes → IsNew t.meta (stamped t (altered t now act) now changes).meta id
    here [] e = absurd (none-some id (sym (told_blob t now act known e) ∙ is))
    here (change ∷ changes) e =
        let given = altered_next t now act ∙ ap (blob_after t.meta.next_blob) is in (next, omega (arith, next, given))

entry_new : (s : State) (e : Entry) (m : Mark) (id : ℕ) → IsSound s → MayAsk s e.seat e.event → blob_under s e m ≡ Some id
    → IsNew s.tables.meta (after_mark s e m).tables.meta id
entry_new s e m id sound asked =
    entry_has (λ t tickets blob. blob ≡ Some id → IsNew s.tables.meta t.meta id) s e m (λ is. absurd (none-some id is))
    (λ act decides.
    changed_new s.tables e.moment act id sound.rows (known_change s e.seat e.moment e.event act sound asked decides))

pub blobs_are_new : BlobsAreNew
blobs_are_new = record {
  next = λ n s e id sound may is. entry_new s e e.mark id sound may.asked is;
  same = λ n s e body blobs id sound may given.
      still_at blobs (blob_in s e) body id
      (λ is. let new = entry_new s e e.mark id sound may.asked is in absurd (omega (arith, new.0, given)));
  stored = λ s e body blobs id is. new_at blobs (blob_in s e) body id is;
}
