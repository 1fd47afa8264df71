-- What a decided act stores by a deed is a file, and versions with it: what the chunks of an upload become.
use Rattle.std.proofs.Common.{◌≡◌, ℕ, ◌==◌, Bool, true, false, List, [], ◌∷◌, ◌++◌, map, flat_map, filter, Option, None, Some, Result, Ok, Err, if◌then◌else◌, refl, ap, subst}
use Rattle.std.specs.List.{All}
use Rattle.std.specs.Option.{option_map_or}
use Rattle.std.proofs.lemmas.Bool.{cond_both}
use Rattle.std.proofs.lemmas.List.Elements.{All-append, All-cons, All-head, All-nil, All-tail, All-weaker}
use Rattle.nf_base.specs.declared.changes.Change.{Change}
use Rattle.nf_base.specs.declared.changes.Change.TheVariants.{Drop, Put}
use Rattle.nf_base.specs.declared.changes.RowKey.TheVariants as keys
use Rattle.nf_base.specs.declared.content.Piece.{Piece}
use Rattle.nf_base.specs.declared.rows.ItemRow.{ItemRow}
use Rattle.nf_base.specs.declared.rows.NodeRow.{NodeRow}
use Rattle.nf_base.specs.declared.rows.Row.TheVariants as rows
use Rattle.nf_base.specs.declared.rows.ShareRow.{ShareRow}
use Rattle.nf_base.specs.declared.rows.UserRow.{UserRow}
use Rattle.nf_base.specs.declared.rows.VersionRow.{VersionRow}
use Rattle.nf_defs.specs.Prelude.{Access, content_of, filled, is_folder, IsDroppable, made, node_row, put_all, Tables}
use Rattle.nf_defs.specs.declared.Found.{Found}
use Rattle.nf_defs.specs.declared.Found.TheVariants.{At, Free, Missing}
use Rattle.nf_laws.proofs.Each.{abandons_each, besides_each, crossing_each, discards_each, forgets_each, purges_each, put_each}
use Rattle.nf_laws.proofs.Refilled.{drops_only, IsOfVersions, turned_only}
use Rattle.nf_words.specs.Changes.{Charged}
use Rattle.nf_words.specs.Prelude.{access_of, allowed_of, assembled, assembled_at, asker_of, besides, brought_back, by_of, Call, call_of, chunk_refusal, chunk_stored, decision_of, end_refusal, ends_at, ends_goal, goal_at, gone_from, is_idle, owners_of, places_of, refusal_of, State, stored_at, unless_refused, carries, charged, charged_for, charged_to, chunk_number, chunk_sent, content_size, copies, copies_settled, copies_to, crosses, crossing, deleted, discards, done, forgets, given, gone_after, gone_beside, is_same, item_dropped, item_restored, items_of, last_name, listing_of, made_folder, made_or_done, mount_left, mount_renamed, moved, moves, new_file, node_at, nothing_done, offered, own_item, people_done, perms_after, purges, refilled, refills, requoted, requoting, restoring, row_at, row_named, served, settled_by, share_ended, share_made, share_set, share_shown, share_steered, share_told, shared, stored, transfer_of, trash_done, turns_over, unsettled, until_after, upload_done, version_done, version_row, way_of, purged_by}
use Rattle.nf_words.specs.declared.answer.Allowed.{Allowed}
use Rattle.nf_words.specs.declared.answer.Allowed.TheVariants as allowed
use Rattle.nf_words.specs.declared.answer.By.{By}
use Rattle.nf_words.specs.declared.answer.Deed.{Deed}
use Rattle.nf_words.specs.declared.answer.Deed.TheVariants as deed
use Rattle.nf_words.specs.declared.answer.Denial.{Denial}
use Rattle.nf_words.specs.declared.answer.Goal.{Goal}
use Rattle.nf_words.specs.declared.answer.Goal.TheVariants.{Chunk, Serve, Store}
use Rattle.nf_words.specs.declared.answer.LockKey.{LockKey}
use Rattle.nf_words.specs.declared.answer.LockKey.TheVariants.{Node, Slot}
use Rattle.nf_words.specs.declared.answer.Report.TheVariants as report
use Rattle.nf_words.specs.declared.history.Event.{Event}
use Rattle.nf_words.specs.declared.history.Event.TheVariants.{Begin, End, Sweep}
use Rattle.nf_words.specs.declared.history.Outcome.{Outcome}
use Rattle.nf_words.specs.declared.history.Outcome.TheVariants.{Body, Gone, Sent}
use Rattle.nf_words.specs.declared.request.PeopleAsk.{PeopleAsk}
use Rattle.nf_words.specs.declared.request.PeopleAsk.TheVariants as people
use Rattle.nf_words.specs.declared.request.Places.{Places}
use Rattle.nf_words.specs.declared.request.ShareAsk.{ShareAsk}
use Rattle.nf_words.specs.declared.request.ShareAsk.TheVariants as ask
use Rattle.nf_words.specs.declared.request.Transfer.{Transfer}
use Rattle.nf_words.specs.declared.request.TrashAsk.{TrashAsk}
use Rattle.nf_words.specs.declared.request.TrashAsk.TheVariants as trash
use Rattle.nf_words.specs.declared.request.UploadAsk.{UploadAsk}
use Rattle.nf_words.specs.declared.request.UploadAsk.TheVariants as upload
use Rattle.nf_words.specs.declared.request.VersionAsk.{VersionAsk}
use Rattle.nf_words.specs.declared.request.VersionAsk.TheVariants as version
use Rattle.nf_words.specs.declared.request.Wanted.{Wanted}
use Rattle.nf_words.specs.declared.request.Wanted.TheVariants as wanted

-- ---- a file and versions

abbrev pub IsFiling : Change → Type 0
IsFiling (Put (rows.Node row)) = Unit {0}
IsFiling (Put (rows.Version row)) = Unit {0}
IsFiling (Drop (keys.Version node at)) = Unit {0}
IsFiling change = ⊥

-- nothing but nodes and versions is another by them
pub filing_rest : (u : Tables) (changes : List Change) → All IsFiling changes
    → put_all u changes ≡ record u { nodes = (put_all u changes).nodes; versions = (put_all u changes).versions }
filing_rest u [] all = refl
filing_rest u (change ∷ changes) all =
    here change (All-head IsFiling change changes all) (filing_rest (made u change) changes (All-tail IsFiling change changes all))
  where
    Rest : Tables → Tables → Type 0
    Rest v w = w ≡ record v { nodes = w.nodes; versions = w.versions }

    here : (change : Change) → IsFiling change → Rest (made u change) (put_all (made u change) changes) → Rest u (put_all (made u change) changes)
    here (Put (rows.Node row)) is rest = rest
    here (Put (rows.Version row)) is rest = rest
    here (Drop (keys.Version node at)) is rest = rest
    here change is rest = absurd is

pub filing_chunks : (u : Tables) (changes : List Change) → All IsFiling changes → (put_all u changes).chunks ≡ u.chunks
filing_chunks u changes all = ap (λ (v : Tables). v.chunks) (filing_rest u changes all)

-- nor is the meta row dropped
filing_droppable : (change : Change) → IsFiling change → IsDroppable change
filing_droppable (Put (rows.Node row)) is = tt
filing_droppable (Put (rows.Version row)) is = tt
filing_droppable (Drop (keys.Version node at)) is = λ same. cc
filing_droppable change is = absurd is

pub filings_droppable : (changes : List Change) → All IsFiling changes → All IsDroppable changes
filings_droppable changes all = All-weaker IsFiling IsDroppable filing_droppable changes all

of_versions : (change : Change) → IsOfVersions change → IsFiling change
of_versions (Put (rows.Version row)) is = tt
of_versions (Drop (keys.Version node at)) is = tt
of_versions change is = absurd is

-- a content over that of a file
refilled_filing : (t : Tables) (now : ℕ) (content : List Piece) (row : NodeRow) → All IsFiling (refilled t now content row)
refilled_filing t now content row =
    let to = charged t row.owner (content_size row.content) (content_size content) in
    let turns = turns_over t now None content row in
    cond_both (is_same now content row) [] (refills t now None content row) (All IsFiling) (λ e. All-nil IsFiling) (λ e.
    All-append IsFiling (if is_same now content row then [] else Put (rows.Node (filled content now row)) ∷ []) turns
    (cond_both (is_same now content row) [] (Put (rows.Node (filled content now row)) ∷ []) (All IsFiling) (λ e. All-nil IsFiling)
    (λ e. All-cons IsFiling (Put (rows.Node (filled content now row))) [] tt (All-nil IsFiling)))
    (All-weaker IsOfVersions IsFiling of_versions turns (turned_only t None row (gone_after t now None row to.quota to.charge))))

-- and a new file
file_filing : (t : Tables) (row : NodeRow) → All IsFiling (new_file t row)
file_filing t row =
    let gone = unsettled t (charged t row.owner 0 (content_size row.content)) [] in
    All-cons IsFiling (Put (rows.Node row)) _ tt (All-weaker IsOfVersions IsFiling of_versions _ (drops_only gone))

pub assembled_filing : (t : Tables) (now : ℕ) (name : List ℕ) (content : List Piece) (place : Found) → All IsFiling (assembled_at t now name content place)
assembled_filing t now name content (At node) = here (node_row t.nodes node)
  where
    here : (o : Option NodeRow) → All IsFiling (option_map_or (refilled t now content) o [])
    here None = All-nil IsFiling
    here (Some row) = refilled_filing t now content row
assembled_filing t now name content (Free folder) = file_filing t _
assembled_filing t now name content (Missing depth) = All-nil IsFiling

-- ---- deeds

abbrev pub IsPlain : Deed → Type 0
IsPlain (deed.Store changes) = All IsFiling changes
IsPlain other = Unit {0}

abbrev pub IsPlainAct : Allowed → Type 0
IsPlainAct (allowed.Deeds deeds report) = All IsPlain deeds
IsPlainAct act = Unit {0}

module _ (t : Tables) (now : ℕ) where
  purges_plain : (nodes : List ℕ) → All IsPlain (purges nodes)
  purges_plain = purges_each t now IsPlain (λ node. tt) (λ item. tt)

  leave_plain : (node : Option ℕ) → All IsPlain (discards t now node ++ besides t now node)
  leave_plain node =
      All-append IsPlain (discards t now node) (besides t now node) (discards_each t now IsPlain (λ node. tt) (λ item. tt) (row_at t node))
      (besides_each t now IsPlain (λ node. tt) (λ item. tt) (row_at t node))

  put_plain : (replaced : Option ℕ) (one : Deed) → IsPlain one → All IsPlain (discards t now replaced ++ one ∷ besides t now replaced)
  put_plain = put_each t now IsPlain (λ node. tt) (λ item. tt)

  settled_plain : (to : Charged) (deeds : List Deed) → All IsPlain deeds → All IsPlain (settled_by t to deeds)
  settled_plain to deeds all =
      let gone = unsettled t to (flat_map purged_by deeds) in
      All-append IsPlain deeds (forgets gone) all (forgets_each IsPlain (λ node at. tt) gone)

  carries_plain : (name : List ℕ) (transfer : Transfer) → All IsPlain (carries t now name transfer)
  carries_plain name transfer =
      cond_both (crosses t.nodes transfer) (settled_by t (charged_for t transfer) (crossing t now name transfer)) (moves t now name transfer) (All IsPlain)
      (λ e. settled_plain (charged_for t transfer) (crossing t now name transfer) (crossing_each t now IsPlain (λ node. tt) (λ item. tt) transfer name tt))
      (λ e. put_plain transfer.replaced (deed.Relink transfer.node transfer.folder name) tt)

  copies_plain : (name : List ℕ) (transfer : Transfer) → All IsPlain (copies_settled t now name transfer)
  copies_plain name transfer =
      settled_plain (charged_for t transfer) (copies t now name transfer)
      (put_plain transfer.replaced (deed.Join (copies_to t now transfer name)) tt)

-- ---- acts

-- what is done where something is there
where_there : {X : Type 0} (act : X → Allowed) (none : Allowed) (o : Option X) → IsPlainAct none → ((x : X) → IsPlainAct (act x))
    → IsPlainAct (option_map_or act o none)
where_there act none None nothing each = nothing
where_there act none (Some x) nothing each = each x

either : (b : Bool) (one other : Allowed) → IsPlainAct one → IsPlainAct other → IsPlainAct (if b then one else other)
either true one other first second = first
either false one other first second = second

stored_plain : (by : By) (name : List ℕ) (length : ℕ) (o : Option Found) → IsPlainAct (stored by name length o)
stored_plain by name length None = tt
stored_plain by name length (Some (At node)) = tt
stored_plain by name length (Some (Free folder)) = tt
stored_plain by name length (Some (Missing depth)) = tt

folder_plain : (t : Tables) (now : ℕ) (name : List ℕ) (o : Option Found) → IsPlainAct (made_folder t now name o)
folder_plain t now name None = tt
folder_plain t now name (Some (At node)) = tt
folder_plain t now name (Some (Free folder)) = tt
folder_plain t now name (Some (Missing depth)) = tt

module _ (call : Call) where
  abbrev t : Tables
  t = call.state.tables

  shared_plain : (places : Places) (asked : ShareAsk) → IsPlainAct (shared (access_of call.state) call places asked)
  shared_plain places (ask.New spot to perms until) =
      where_there (share_made (access_of call.state) call) nothing_done (offered call spot to perms until) tt (λ offer. tt)
  shared_plain places (ask.List spot with_me) = tt
  shared_plain places (ask.Show share) = where_there (share_told t []) nothing_done (share_shown call share) tt (λ row. tt)
  shared_plain places (ask.Set share perms until) =
      where_there (λ (row : ShareRow). share_set t (perms_after t perms row) (until_after until row.until) row) nothing_done (share_steered call share) tt
      (λ row. tt)
  shared_plain places (ask.End share) = where_there share_ended nothing_done (share_steered call share) tt (λ row. tt)

  people_plain : (asked : PeopleAsk) → IsPlainAct (people_done t call.now asked)
  people_plain (people.SetQuota user quota) =
      where_there (requoted t call.now quota) nothing_done (row_named t user) tt (λ (row : UserRow).
      either (row.quota == quota) nothing_done (done (settled_by t (charged_to t quota row) (requoting t call.now quota row)) report.Plain) tt
      (settled_plain t call.now (charged_to t quota row) (requoting t call.now quota row)
      (All-cons IsPlain (deed.Requote (record row { quota = quota })) _ tt (purges_plain t call.now _))))
  people_plain (people.NewUser name token quota) = tt
  people_plain (people.NewGroup name) = tt
  people_plain (people.AddMember user group) = tt
  people_plain (people.DropMember user group) = tt
  people_plain (people.AddToken user token) = tt

  trash_plain : (asked : TrashAsk) → IsPlainAct (trash_done call asked)
  trash_plain (trash.List user) = tt
  trash_plain (trash.Drop user item) =
      where_there (item_dropped t call.now) nothing_done (own_item call item) tt (λ (row : ItemRow). purges_plain t call.now (row.node ∷ gone_beside t call.now row))
  trash_plain (trash.Empty user) = purges_plain t call.now (map (λ item. item.node) (items_of t (asker_of call)))
  trash_plain (trash.Restore user item) =
      where_there (item_restored t call.now) nothing_done (own_item call item) tt (λ (row : ItemRow).
      settled_plain t call.now _ (restoring t call.now row) (All-cons IsPlain _ _ tt (purges_plain t call.now (gone_beside t call.now row))))

  version_plain : (asked : VersionAsk) → IsPlainAct (version_done t call.now asked)
  version_plain (version.List user node) = tt
  version_plain (version.Get user node at) =
      where_there (λ (row : VersionRow). allowed.Get node row.content) nothing_done (version_row t.versions node at) tt (λ row. tt)
  version_plain (version.Restore user node at) =
      where_there (brought_back t call.now node) nothing_done (version_row t.versions node at) tt (λ row. tt)

  upload_plain : (places : Places) (asked : UploadAsk) → IsPlainAct (upload_done call places asked)
  upload_plain places (upload.New user dir to) = tt
  upload_plain places (upload.Chunk user dir name to length) =
      where_there (chunk_sent (asker_of call) dir length) nothing_done (chunk_number name) tt (λ number. tt)
  upload_plain places (upload.Drop user dir) = All-cons IsPlain (deed.Abandon (asker_of call) dir) [] tt (All-nil IsPlain)
  upload_plain places (upload.Join dir spot total) =
      where_there (assembled t call.now (last_name spot) (asker_of call) dir) allowed.Close places.target tt (λ (place : Found).
      All-cons IsPlain (deed.Store _) (deed.Abandon (asker_of call) dir ∷ []) (assembled_filing t call.now (last_name spot) _ place)
      (All-cons IsPlain (deed.Abandon (asker_of call) dir) [] tt (All-nil IsPlain)))

  pub given_plain : (places : Places) (asked : Wanted) → IsPlainAct (given (access_of call.state) call places asked)
  given_plain places (wanted.Get spot) =
      here (way_of call spot).mount (node_at places.source)
    where
      here : (mount node : Option ℕ) → IsPlainAct (served (access_of call.state) call mount node)
      here mount None = tt
      here mount (Some node) =
          either (is_folder t.nodes node) (allowed.List (listing_of (access_of call.state) call mount node)) (allowed.Get node (content_of t.nodes node)) tt tt
  given_plain places (wanted.Put spot size) = stored_plain (by_of call spot) (last_name spot) size places.target
  given_plain places (wanted.Mkcol spot) = folder_plain t call.now (last_name spot) places.target
  given_plain places (wanted.Delete spot) =
      let way = way_of call spot in
      let node = node_at places.source in
      either way.itself (mount_left call way) (deleted t call.now node) tt (leave_plain t call.now node)
  given_plain places (wanted.Move source target overwrite) =
      let way = way_of call source in
      let name = last_name target in
      let transfer = transfer_of t.nodes places in
      either way.itself (mount_renamed call way name) (moved t call.now name transfer) tt
      (where_there (λ (transfer : Transfer). done (carries t call.now name transfer) (made_or_done transfer.replaced)) allowed.Close transfer tt
      (carries_plain t call.now name))
  given_plain places (wanted.Copy source target overwrite) =
      let name = last_name target in
      where_there (λ (transfer : Transfer). done (copies_settled t call.now name transfer) (made_or_done transfer.replaced)) allowed.Close
      (transfer_of t.nodes places) tt (copies_plain t call.now name)
  given_plain places (wanted.Share asked) = shared_plain places asked
  given_plain places (wanted.People asked) = people_plain asked
  given_plain places (wanted.Trash asked) = trash_plain asked
  given_plain places (wanted.Version asked) = version_plain asked
  given_plain places (wanted.Upload asked) = upload_plain places asked

-- ---- decisions

abbrev DecidesPlain : Result Allowed Denial → Type 0
DecidesPlain (Ok act) = IsPlainAct act
DecidesPlain (Err refusal) = Unit {0}

unless_plain : (refusal : Option Denial) (act : Allowed) → IsPlainAct act → DecidesPlain (unless_refused refusal act)
unless_plain None act plain = plain
unless_plain (Some refusal) act plain = tt

file_plain : (t : Tables) (now : ℕ) (key : LockKey) (digest : List ℕ) (size : ℕ) → IsPlainAct (stored_at t now key digest size)
file_plain t now (Node node) digest size = tt
file_plain t now (Slot folder name) digest size = tt

goal_plain : (access : Access) (t : Tables) (now : ℕ) (outcome : Outcome) (goal : Goal) → DecidesPlain (ends_goal access t now outcome goal)
goal_plain access t now (Body digest size) (Store by key length) =
    unless_plain (end_refusal access t now by key size) (stored_at t now key digest size) (file_plain t now key digest size)
goal_plain access t now (Body digest size) (Chunk user dir number length) =
    unless_plain (chunk_refusal t user dir number size) (chunk_stored t now user dir number digest size) tt
goal_plain access t now (Body digest size) (Serve content) = tt
goal_plain access t now Sent goal = tt
goal_plain access t now Gone goal = tt

end_plain : (access : Access) (t : Tables) (now : ℕ) (outcome : Outcome) (goal : Option Goal) → DecidesPlain (ends_at access t now outcome goal)
end_plain access t now outcome None = tt
end_plain access t now outcome (Some goal) = goal_plain access t now outcome goal

each_plain : (s : State) (seat now : ℕ) (event : Event) → DecidesPlain (decision_of s seat now event)
each_plain s seat now (Begin words request) =
    let call = call_of s seat now words request in
    unless_plain (refusal_of (access_of s) call) (allowed_of (access_of s) call) (given_plain call (places_of call) request.wanted)
each_plain s seat now (End outcome) = end_plain (access_of s) s.tables now outcome (goal_at s seat)
each_plain s seat now Sweep =
    All-append IsPlain _ _ (purges_plain s.tables now (flat_map (gone_from s.tables now) (owners_of s.tables.items)))
    (abandons_each IsPlain (λ user dir. tt) (filter (is_idle now) s.tables.uploads))

pub decided_plain : (s : State) (seat now : ℕ) (event : Event) (act : Allowed) → decision_of s seat now event ≡ Ok act → IsPlainAct act
decided_plain s seat now event act is = subst DecidesPlain is (each_plain s seat now event)
