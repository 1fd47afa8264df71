-- What who acts may read is served, and what they may change is changed, and nothing else.
use Rattle.std.specs.Prelude.{◌≡◌, ◌≢◌, ◌↔◌, ◌⊎◌, ℕ, ◌||◌, All, Bool, Contains, true, false, List, [], ◌∷◌, ◌++◌, map, Option, None, Some, is_some, Ok, option_and_then, if◌then◌else◌, unwrap_or}
use Rattle.std.specs.Option.{option_map_or}
use Rattle.nf_access.specs.Access.{Allows, Reaches}
use Rattle.nf_access.specs.Making.{is_part, is_token_taken}
use Rattle.nf_access.specs.Mounts.{is_mount_of, is_mounted, mount_row, free_name_of, name_of, names_in_root}
use Rattle.nf_access.specs.Shares.{ground_of, is_before, mask_of, perms_of_share, receives, share_row}
use Rattle.nf_base.specs.declared.content.Piece.{Piece}
use Rattle.nf_base.specs.declared.perms.Act.{Act}
use Rattle.nf_base.specs.declared.perms.Act.TheVariants as act
use Rattle.nf_base.specs.declared.perms.Act.TheVariants.{Create, Delete, Read, Update}
use Rattle.nf_base.specs.declared.rows.ItemRow.{ItemRow}
use Rattle.nf_base.specs.declared.rows.MemberRow.{MemberRow}
use Rattle.nf_base.specs.declared.rows.MountRow.{MountRow}
use Rattle.nf_base.specs.declared.rows.NodeRow.{NodeRow}
use Rattle.nf_base.specs.declared.rows.Place.TheVariants.{Inside}
use Rattle.nf_base.specs.declared.rows.Place.TheVariants as place
use Rattle.nf_base.specs.declared.rows.ShareRow.{ShareRow}
use Rattle.nf_base.specs.declared.rows.UploadRow.{UploadRow}
use Rattle.nf_base.specs.declared.rows.UserRow.{UserRow}
use Rattle.nf_defs.specs.People.{is_admin}
use Rattle.nf_defs.specs.Prelude.{child_of, dropped, group_key, group_named, holder_of, is_folder, is_folder_kind, item_row, Leads, member_key, node_row, owner_of, parent_of, put, share_key, Tables, token_key, user_key, user_named, user_row}
use Rattle.nf_defs.specs.Tree.{is_rooted}
use Rattle.nf_defs.specs.declared.Seeker.{Seeker}
use Rattle.nf_defs.specs.declared.Seeker.TheVariants.{User}
use Rattle.nf_laws.specs.Reads.{IsFreeToRead, IsWellAsked}
use Rattle.nf_laws.specs.Tree.{Under}
use Rattle.nf_words.specs.Prelude.{access_of, after, answer_to, asker_of, behind, Call, call_of, deeds_done, ended_row, goal_at, home_of, is_joined, is_member, IsModest, IsSound, kind_of, kind_to, last_name, listing_of, may_by, MayCome, MayWant, membership, mount_of, name_back, Need, needed, needed_by, new_root, new_user, own_item, people_limit, perms_after, purges, receiver_named, restored, root_of, row_named, seeker_of, set_fault, set_row, State, until_after, usual_perms, forgets, needed_for, mount_by, unversioned, version_row, LeadsToRoot, chunk_row, is_idle, upload_row}
use Rattle.nf_words.specs.Tokens.{link_token}
use Rattle.nf_words.specs.declared.answer.Goal.{Goal}
use Rattle.nf_words.specs.declared.answer.Goal.TheVariants.{Chunk, Serve, Store}
use Rattle.nf_words.specs.declared.answer.Reply.TheVariants.{Granted, Listing}
use Rattle.nf_words.specs.declared.history.Entry.{Entry}
use Rattle.nf_words.specs.declared.history.Event.{Event}
use Rattle.nf_words.specs.declared.history.Event.TheVariants.{Begin, End, Sweep}
use Rattle.nf_words.specs.declared.history.Outcome.{Outcome}
use Rattle.nf_words.specs.declared.listing.ListingLine.{ListingLine}
use Rattle.nf_words.specs.declared.request.PeopleAsk.{PeopleAsk}
use Rattle.nf_words.specs.declared.request.PeopleAsk.TheVariants as people
use Rattle.nf_words.specs.declared.request.Receiver.{Receiver}
use Rattle.nf_words.specs.declared.request.Request.{Request}
use Rattle.nf_words.specs.declared.request.Sharee.{Sharee}
use Rattle.nf_words.specs.declared.request.Spot.{Spot}
use Rattle.nf_words.specs.declared.request.Until.{Until}
use Rattle.nf_words.specs.declared.request.UploadAsk.{UploadAsk}
use Rattle.nf_words.specs.declared.request.UploadAsk.TheVariants as upload
use Rattle.nf_words.specs.declared.request.Wanted.TheVariants.{Delete, Get, Move, People, Share, Trash}
use Rattle.nf_words.specs.declared.request.Wanted.TheVariants as want
use Rattle.nf_words.specs.declared.request.VersionAsk.TheVariants as version
use Rattle.nf_base.specs.declared.rows.VersionRow.{VersionRow}
use Rattle.nf_words.specs.declared.request.TrashAsk.{TrashAsk}
use Rattle.nf_words.specs.declared.request.TrashAsk.TheVariants as trash
use Rattle.nf_words.specs.declared.request.ShareAsk.TheVariants as ask
use Rattle.nf_words.specs.declared.request.Words.{Words}
use Rattle.nf_retention.specs.declared.versions.Version.{Version}

-- ---- who may do what

-- the seeker is a user who owns the node
pub record Owns (rows : List NodeRow) (seeker : Seeker) (node : ℕ) : Type 0 where
  pub row : NodeRow
  pub there : node_row rows node ≡ Some row
  pub owner : seeker ≡ User row.owner

-- a chain of live shares reaches the seeker on the node of the mount, and each of them allows the act
abbrev pub IsReached : State → Seeker → ℕ → Act → Option ℕ → Type 0
IsReached s seeker now act None = ⊥
IsReached s seeker now act (Some mount) =
    (share : ShareRow) × (up : List ShareRow) × Allows (ground_of s.tables) now seeker mount act share up

-- in a sound state a seeker may do an act at a node, by a mount, exactly where it owns the node or is reached by such a chain
abbrev pub OwnersAndReachedMay : Type 0
OwnersAndReachedMay =
    (s : State) (seeker : Seeker) (now : ℕ) (act : Act) (node : ℕ) (mount : Option ℕ) → IsSound s
    → (may_by (access_of s) s.tables.nodes seeker now act node mount ≡ true)
    ↔ (Owns s.tables.nodes seeker node ⊎ IsReached s seeker now act mount)

-- ---- what is read

-- a path leads from the caller's root, or from the node of the mount that it goes by: a user's behind its first name, and a link's whole
abbrev pub LeadsBy : Call → Spot → Option ℕ → ℕ → Type 0
LeadsBy call spot None node = Leads call.state.tables.nodes (root_of call) spot.path node
LeadsBy call spot (Some mount) node = Leads call.state.tables.nodes mount (behind (seeker_of call) spot.path) node

-- where the path goes by a mount, a chain of live shares reaches who asks on its node
abbrev pub IsReachedBy : Call → Option ℕ → Type 0
IsReachedBy call None = Unit {0}
IsReachedBy call (Some mount) =
    (share : ShareRow) × (up : List ShareRow) × Reaches (ground_of call.state.tables) call.now (seeker_of call) mount share up

-- a GET, which no rule of who asks or of names refuses, and whose path leads to a node at which the caller may read by its mount, on
-- which the caller is reached
pub record IsReadable (call : Call) (row : NodeRow) : Type 0 where
  pub spot : Spot
  pub asked : call.request.wanted ≡ Get spot
  pub well : IsWellAsked call
  pub there : node_row call.state.tables.nodes row.id ≡ Some row
  pub led : LeadsBy call spot (mount_of call spot) row.id
  pub reached : IsReachedBy call (mount_of call spot)
  pub may : may_by (access_of call.state) call.state.tables.nodes (seeker_of call) call.now Read row.id (mount_of call spot) ≡ true

-- the content is that of a file that may be read so, which nobody else stores over
pub record IsReadableFile (call : Call) (content : List Piece) : Type 0 where
  pub row : NodeRow
  pub readable : IsReadable call row
  pub file : is_folder_kind row.kind ≡ false
  pub free : IsFreeToRead call.state call.seat row.id
  pub sent : row.content ≡ content

-- a request for a version of a file, which no rule of who asks refuses: the file is present, and the caller owns it or has a mount at it or
-- above it, and may read it by such a mount
pub record IsReadableVersion (call : Call) (content : List Piece) : Type 0 where
  pub user : List ℕ
  pub node : ℕ
  pub at : ℕ
  pub asked : call.request.wanted ≡ want.Version (version.Get user node at)
  pub well : IsWellAsked call
  pub present : LeadsToRoot call.state.tables.nodes node
  pub file : is_folder call.state.tables.nodes node ≡ false
  pub row : VersionRow
  pub there : version_row call.state.tables.versions node at ≡ Some row
  pub seen : unversioned call (version.Get user node at) ≡ None
  pub may : may_by (access_of call.state) call.state.tables.nodes (seeker_of call) call.now Read node
      (mount_by (access_of call.state) call.state.tables.nodes call.state.tables.mounts (seeker_of call) (asker_of call) call.now Read node)
      ≡ true
  pub free : IsFreeToRead call.state call.seat node
  pub sent : row.content ≡ content

-- what is served of a request that may be asked is what the caller may read
abbrev pub ServesWhatMayBeRead : Type 0
ServesWhatMayBeRead =
    (s : State) (seat now : ℕ) (words : Words) (request : Request) (content : List Piece) → IsSound s → MayWant request
    → answer_to s seat now (Begin words request) ≡ Ok (Granted (Serve content))
    → IsReadableFile (call_of s seat now words request) content ⊎ IsReadableVersion (call_of s seat now words request) content

-- and what may be read and is named is served
abbrev pub WhatMayBeReadIsServed : Type 0
WhatMayBeReadIsServed =
    (s : State) (seat now : ℕ) (words : Words) (request : Request) (content : List Piece) → IsSound s
    → IsReadableFile (call_of s seat now words request) content
    → answer_to s seat now (Begin words request) ≡ Ok (Granted (Serve content))

-- the listing is of what is in a folder that may be read so, by the mount of its path
pub record IsReadableFolder (call : Call) (listing : List ListingLine) : Type 0 where
  pub row : NodeRow
  pub readable : IsReadable call row
  pub folder : is_folder_kind row.kind ≡ true
  pub listed : listing ≡ listing_of (access_of call.state) call (mount_of call readable.spot) row.id

abbrev pub ListsWhatMayBeRead : Type 0
ListsWhatMayBeRead =
    (s : State) (seat now : ℕ) (words : Words) (request : Request) (listing : List ListingLine) → IsSound s → MayWant request
    → answer_to s seat now (Begin words request) ≡ Ok (Listing listing)
    → IsReadableFolder (call_of s seat now words request) listing

abbrev pub WhatMayBeReadIsListed : Type 0
WhatMayBeReadIsListed =
    (s : State) (seat now : ℕ) (words : Words) (request : Request) (listing : List ListingLine) → IsSound s
    → IsReadableFolder (call_of s seat now words request) listing
    → answer_to s seat now (Begin words request) ≡ Ok (Listing listing)

-- ---- what is needed, and by whom

-- what storing needs; sending was needed before
abbrev pub needs_of_goal : Goal → List Need
needs_of_goal (Serve content) = []
needs_of_goal (Store by key length) = needed_by by key
needs_of_goal (Chunk user dir number length) = []

-- who was granted to store
abbrev pub seeker_of_goal : Goal → Option Seeker
seeker_of_goal (Serve content) = None
seeker_of_goal (Store by key length) = Some by.seeker
seeker_of_goal (Chunk user dir number length) = None

-- an event needs what its request or its goal needs; a request needs that of its paths, and that of a version
abbrev pub needs_of : State → ℕ → ℕ → Event → List Need
needs_of s seat now (Begin words request) =
    let call = call_of s seat now words request in needed call ++ needed_for (access_of s) call request.wanted
needs_of s seat now (End outcome) = option_map_or needs_of_goal (goal_at s seat) []
needs_of s seat now Sweep = []

-- who asks, or was granted to store
abbrev pub seeker_at : State → ℕ → ℕ → Event → Option Seeker
seeker_at s seat now (Begin words request) = Some (seeker_of (call_of s seat now words request))
seeker_at s seat now (End outcome) = option_and_then seeker_of_goal (goal_at s seat)
seeker_at s seat now Sweep = None

-- ---- what is changed

-- the act is needed at the node
abbrev pub IsNeeded : List Need → Act → ℕ → Type 0
IsNeeded needs act node = (mount : Option ℕ) × Contains needs (record { act = act; node = node; mount = mount })

-- a new node in a folder, or in one that was made in it so
pub data IsMadeIn (before after : List NodeRow) (folder : ℕ) : ℕ → Type 0 where
  in_it : (node : ℕ) → node_row before node ≡ None → parent_of after node ≡ Some folder → IsMadeIn before after folder node
  in_made : (node parent : ℕ) → node_row before node ≡ None → parent_of after node ≡ Some parent
      → IsMadeIn before after folder parent → IsMadeIn before after folder node

-- what becomes of a node that isn't as it was follows from what is needed
pub data Follows (needs : List Need) (before after : List NodeRow) (node : ℕ) : Type 0 where
  -- it is updated: another name, content or moment
  is_updated : (old row : NodeRow) → IsNeeded needs Update node → node_row before node ≡ Some old → node_row after node ≡ Some row
      → row ≡ record old { name = row.name; content = row.content; changed = row.changed } → Follows needs before after node
  -- it is made where something is created
  is_made : (folder : ℕ) → IsNeeded needs Create folder → IsMadeIn before after folder node → Follows needs before after node
  -- it is put in the trash, where it is deleted
  is_trashed : (old : NodeRow) → IsNeeded needs Delete node → node_row before node ≡ Some old
      → node_row after node ≡ Some (record old { place = place.Trash }) → Follows needs before after node
  -- it is gone with what is deleted
  is_gone : (top : ℕ) → IsNeeded needs Delete top → Under before top node → node_row after node ≡ None → Follows needs before after node
  -- it is moved, so that it is deleted here and created there
  is_moved : (folder : ℕ) (old row : NodeRow) → IsNeeded needs Delete node → IsNeeded needs Create folder
      → node_row before node ≡ Some old → node_row after node ≡ Some row
      → row ≡ record old { place = Inside folder; name = row.name } → Follows needs before after node

-- the seeker may do what is needed
abbrev pub MayDo : State → ℕ → Seeker → Need → Type 0
MayDo s now seeker need = may_by (access_of s) s.tables.nodes seeker now need.act need.node need.mount ≡ true

-- who acts may do all that is needed, and what became of the node follows from it
pub record IsAllowed (s : State) (now : ℕ) (who : Option Seeker) (needs : List Need) (after : List NodeRow) (node : ℕ) : Type 0 where
  pub seeker : Seeker
  pub acts : who ≡ Some seeker
  pub may : All (MayDo s now seeker) needs
  pub follows : Follows needs s.tables.nodes after node

-- ---- shares and mounts

-- the shares, where those are ended whose nodes aren't present any more
abbrev pub shares_without : List NodeRow → List ShareRow → List ShareRow
shares_without after shares = map (λ share. if share.ended || is_rooted after share.node then share else ended_row share) shares

-- a mount of who asks that wasn't left, and whose own path, its name alone, is that of a place
pub record IsOwnPath (call : Call) (spot : Spot) (row : MountRow) : Type 0 where
  pub user : row.user ≡ asker_of call
  pub shown : row.left ≡ false
  pub path : spot.path ≡ row.name ∷ []

-- what becomes of a mount whose own path is named: by a DELETE it is left, and by a MOVE it has another name
pub data Remounts (call : Call) (row : MountRow) : MountRow → Type 0 where
  is_left : (spot : Spot) → call.request.wanted ≡ Delete spot → IsOwnPath call spot row → Remounts call row (record row { left = true })
  is_renamed : (source target : Spot) (overwrite : Bool) → call.request.wanted ≡ Move source target overwrite → IsOwnPath call source row
      → Remounts call row (record row { name = last_name target })

-- a Begin makes one mount another, whose own path it names, and no other mount, no node and no share
pub record IsRemounted (s : State) (e : Entry) (after : Tables) : Type 0 where
  pub words : Words
  pub request : Request
  pub begins : e.event ≡ Begin words request
  pub old : MountRow
  pub row : MountRow
  pub there : mount_row s.tables.mounts old.user old.node ≡ Some old
  pub becomes : Remounts (call_of s e.seat e.moment words request) old row
  pub mounts : after.mounts ≡ map (λ other. if is_mount_of old.user old.node other then row else other) s.tables.mounts
  pub nodes : after.nodes ≡ s.tables.nodes
  pub shares : after.shares ≡ s.tables.shares

-- ---- what is asked about shares

-- the caller owns the node, and the share passes on none; or it passes on a share that the caller receives on the mount's node, with a
-- chain of live shares that each let what they are of be shared, and allow all that it allows
abbrev pub IsPassedOn : Call → Spot → ShareRow → Option ℕ → Type 0
IsPassedOn call spot row None = Owns call.state.tables.nodes (seeker_of call) row.node
IsPassedOn call spot row (Some parent) =
    (mount : ℕ) × (mount_of call spot ≡ Some mount)
    × ((share : ShareRow) × (up : List ShareRow) × (share.id ≡ parent)
    × Allows (ground_of call.state.tables) call.now (seeker_of call) mount act.Share share up
    × (is_part row.perms (mask_of (share ∷ up)) ≡ true))

-- a new share of what a path of the caller's leads to, with the user or the group of that name, or by a link whose token is no other's,
-- and to that end, which is to come
pub record IsMadeBy (call : Call) (spot : Spot) (to : Sharee) (perms until : Option ℕ) (row : ShareRow) : Type 0 where
  pub number : row.id ≡ call.state.tables.meta.next_share
  pub led : LeadsBy call spot (mount_of call spot) row.node
  pub initiator : row.initiator ≡ asker_of call
  pub owner : row.owner ≡ owner_of call.state.tables.nodes row.node
  pub receiver : Receiver
  pub named : receiver_named call.state.tables to ≡ Some receiver
  pub kind : row.kind ≡ kind_to (link_token call.words) receiver
  pub token : is_token_taken call.state.tables.shares row.kind ≡ false
  pub allowed : row.perms ≡ perms_of_share (kind_of call.state.tables.nodes row.node) row.kind (unwrap_or perms (usual_perms receiver))
  pub passed_on : IsPassedOn call spot row row.parent
  pub ends : row.until ≡ until
  pub later : is_before call.now until ≡ true
  pub lasts : row.ended ≡ false

-- a share that is there and isn't ended, by who made it or owns its node
pub record IsSteered (call : Call) (share : ℕ) (old : ShareRow) : Type 0 where
  pub there : share_row call.state.tables.shares share ≡ Some old
  pub lasts : old.ended ≡ false
  pub by : (old.initiator ≡ asker_of call) ⊎ (old.owner ≡ asker_of call)

-- the one share that is made, has other permissions or another end, which no rule forbids, or is ended
pub data SharesOne (call : Call) : ShareRow → Type 0 where
  is_made : (spot : Spot) (to : Sharee) (perms until : Option ℕ) (row : ShareRow)
      → call.request.wanted ≡ Share (ask.New spot to perms until) → IsMadeBy call spot to perms until row → SharesOne call row
  is_set : (share : ℕ) (perms : Option ℕ) (until : Until) (old row : ShareRow)
      → call.request.wanted ≡ Share (ask.Set share perms until) → IsSteered call share old
      → row ≡ set_row (perms_after call.state.tables perms old) (until_after until old.until) old
      → set_fault call.state.tables call.now perms until old ≡ None → SharesOne call row
  is_ended : (share : ℕ) (old : ShareRow) → call.request.wanted ≡ Share (ask.End share) → IsSteered call share old
      → SharesOne call (ended_row old)

-- each mount is as it was or one that is given; and each that was there is as it was, or was left and its user has one again
pub record MountsGiven (before after : List MountRow) (IsGiven : MountRow → Type 0) : Type 0 where
  pub each : All (λ (row : MountRow). Contains before row ⊎ IsGiven row) after
  pub kept : (row : MountRow) → Contains before row
      → Contains after row ⊎ ((row.left ≡ true) × (is_mounted after row.user row.node ≡ true))

-- a mount of the node of a new share, under a free name, for a user whom the share names, who has none and doesn't own the node
pub record IsMountFor (t : Tables) (share : ShareRow) (row : MountRow) : Type 0 where
  pub new : share.id ≡ t.meta.next_share
  pub user : receives t.members (User row.user) share ≡ true
  pub there : is_some (user_row t.users row.user) ≡ true
  pub node : row.node ≡ share.node
  pub name : row.name ≡ free_name_of (name_of t.nodes row.node) (names_in_root t.users t.nodes t.mounts row.user)
  pub stays : row.left ≡ false
  pub none : is_mounted t.mounts row.user row.node ≡ false

-- a Begin makes, changes or ends one share, and mounts for all whom it names if it is new; no node is another
pub record IsSharing (s : State) (e : Entry) (after : Tables) : Type 0 where
  pub words : Words
  pub request : Request
  pub begins : e.event ≡ Begin words request
  pub row : ShareRow
  pub one : SharesOne (call_of s e.seat e.moment words request) row
  pub shares : after.shares ≡ put share_key row s.tables.shares
  pub mounts : MountsGiven s.tables.mounts after.mounts (IsMountFor s.tables row)
  pub mounted : row.id ≡ s.tables.meta.next_share → (user : ℕ) → receives s.tables.members (User user) row ≡ true
      → is_some (user_row s.tables.users user) ≡ true → is_mounted after.mounts user row.node ≡ true
  pub nodes : after.nodes ≡ s.tables.nodes

-- ---- what is asked about users and groups

-- a mount of the node of a share of the group that a user joins, for that user, who has none and doesn't own the node
pub record IsMountJoined (t : Tables) (joins : MemberRow) (row : MountRow) : Type 0 where
  pub share : ShareRow
  pub among : Contains t.shares share
  pub joined : is_joined joins share ≡ true
  pub user : row.user ≡ joins.user
  pub node : row.node ≡ share.node
  pub stays : row.left ≡ false
  pub none : is_mounted t.mounts row.user row.node ≡ false

-- what is asked about users and groups makes of the tables; but for the meta row no other row is another
pub data Provides (t : Tables) (now : ℕ) (after : Tables) : PeopleAsk → Type 0 where
  makes_user : (name token : List ℕ) (quota : ℕ) → user_named t.users name ≡ None → holder_of t.tokens token ≡ None
      → after ≡ record t {
        meta = after.meta;
        users = put user_key (new_user t name quota) t.users;
        tokens = put token_key (record { digest = token; user = t.meta.next_user }) t.tokens;
        nodes = t.nodes ++ new_root t now name ∷ [];
      }
      → Provides t now after (people.NewUser name token quota)
  makes_group : (name : List ℕ) → group_named t.groups name ≡ None
      → after ≡ record t { meta = after.meta; groups = put group_key (record { id = t.meta.next_group; name = name }) t.groups }
      → Provides t now after (people.NewGroup name)
  joins : (user group : List ℕ) (row : MemberRow) → membership t user group ≡ Some row → is_member t row ≡ false
      → after ≡ record t { meta = after.meta; members = put member_key row t.members; mounts = after.mounts }
      → MountsGiven t.mounts after.mounts (IsMountJoined t row)
      → All (λ (share : ShareRow). is_joined row share ≡ true → is_mounted after.mounts row.user share.node ≡ true) t.shares
      → Provides t now after (people.AddMember user group)
  leaves : (user group : List ℕ) (row : MemberRow) → membership t user group ≡ Some row → is_member t row ≡ true
      → after ≡ record t { meta = after.meta; members = dropped member_key (row.group ∷ row.user ∷ []) t.members }
      → Provides t now after (people.DropMember user group)
  has_quota : (user : List ℕ) (quota : ℕ) (row : UserRow) → row_named t user ≡ Some row
      → after ≡ record t { meta = after.meta; users = put user_key (record row { quota = quota }) t.users }
      → Provides t now after (people.SetQuota user quota)
  has_token : (user token : List ℕ) (id : ℕ) → user_named t.users user ≡ Some id → holder_of t.tokens token ≡ None
      → after ≡ record t { meta = after.meta; tokens = put token_key (record { digest = token; user = id }) t.tokens }
      → Provides t now after (people.AddToken user token)

-- a Begin by a member of the group `admin` makes a user, a group, a token or a member, takes a member out, or sets a quota
pub record IsProviding (s : State) (e : Entry) (after : Tables) : Type 0 where
  pub words : Words
  pub request : Request
  pub begins : e.event ≡ Begin words request
  pub asked : PeopleAsk
  pub wanted : request.wanted ≡ People asked
  pub by_admin : is_admin s.tables.groups s.tables.members (asker_of (call_of s e.seat e.moment words request)) ≡ true
  pub modest : IsModest asked
  pub few : people_limit s.tables asked ≡ None
  pub provides : Provides s.tables e.moment after asked

-- a share ends exactly where its node isn't present any more, and no share and no mount is another otherwise
pub record KeepsShares (before after : Tables) : Type 0 where
  pub shares : after.shares ≡ shares_without after.nodes before.shares
  pub mounts : after.mounts ≡ before.mounts

-- ---- the trash

-- each item was there, or is of a node that is deleted, since now
abbrev pub ItemsFollow : List Need → ℕ → List ItemRow → List ItemRow → Type 0
ItemsFollow needs now before after =
    All (λ (item : ItemRow). Contains before item ⊎ (IsNeeded needs Delete item.node × (item.at ≡ now))) after
    × ((item : ItemRow) → Contains before item → Contains after item)

-- an item of the caller's comes back into a folder of the caller's that is present, under a name that was free there
pub record IsRestoring (s : State) (e : Entry) (after : Tables) : Type 0 where
  pub words : Words
  pub request : Request
  pub begins : e.event ≡ Begin words request
  pub user : List ℕ
  pub node : ℕ
  pub wanted : request.wanted ≡ Trash (trash.Restore user node)
  pub item : ItemRow
  pub own : own_item (call_of s e.seat e.moment words request) node ≡ Some item
  pub folds : is_folder s.tables.nodes (home_of s.tables item) ≡ true
  pub owner : owner_of s.tables.nodes (home_of s.tables item) ≡ item.owner
  pub free : child_of s.tables.nodes (home_of s.tables item) (name_back s.tables item) ≡ None
  pub rows : after ≡ record (restored s.tables node (home_of s.tables item) (name_back s.tables item)) { meta = after.meta }

-- whose trash is settled: that of the owner of what is deleted, of who asks about the trash, or of a user whose quota is set; by a sweep
-- everyone's
pub data Settles (s : State) (e : Entry) : ℕ → Type 0 where
  by_delete : (node : ℕ) → IsNeeded (needs_of s e.seat e.moment e.event) Delete node → Settles s e (owner_of s.tables.nodes node)
  by_asking : (words : Words) (request : Request) (asked : TrashAsk) → e.event ≡ Begin words request → request.wanted ≡ Trash asked
      → Settles s e (asker_of (call_of s e.seat e.moment words request))
  by_quota : (words : Words) (request : Request) (user : List ℕ) (quota : ℕ) (row : UserRow) → e.event ≡ Begin words request
      → request.wanted ≡ People (people.SetQuota user quota) → row_named s.tables user ≡ Some row → Settles s e row.id
  by_sweep : (user : ℕ) → e.event ≡ Sweep → Settles s e user

-- the node is an item of a user whose trash is settled
abbrev pub IsItemSettled : State → Entry → ℕ → Type 0
IsItemSettled s e node = (item : ItemRow) × (item_row s.tables.items node ≡ Some item) × Settles s e item.owner

-- some items in trashes that are settled go for good then, each with all under it, and then versions
pub record IsSettled (s : State) (e : Entry) (before after : Tables) : Type 0 where
  pub tops : List ℕ
  pub items : All (IsItemSettled s e) tops
  pub versions : List Version
  pub gone : after ≡ deeds_done before (purges tops ++ forgets versions)

-- ---- uploads

-- the name of the upload that is asked about
abbrev pub upload_asked : UploadAsk → List ℕ
upload_asked (upload.New user dir to) = dir
upload_asked (upload.Chunk user dir name to length) = dir
upload_asked (upload.Drop user dir) = dir
upload_asked (upload.Join dir spot total) = dir

-- the rows are those of some uploads and chunks: no other row is another
pub record OnlyUploads (before after : Tables) (IsOne : ℕ → List ℕ → Type 0) (IsPart : ℕ → List ℕ → ℕ → Type 0) : Type 0 where
  pub uploads : (user : ℕ) (dir : List ℕ) → upload_row after.uploads user dir ≢ upload_row before.uploads user dir → IsOne user dir
  pub chunks : (user : ℕ) (dir : List ℕ) (number : ℕ)
      → chunk_row after.chunks user dir number ≢ chunk_row before.chunks user dir number → IsPart user dir number
  pub rest : after ≡ record before { uploads = after.uploads; chunks = after.chunks }

-- the one of that user, under that name
abbrev pub IsThatUpload : ℕ → List ℕ → ℕ → List ℕ → Type 0
IsThatUpload user dir of_user of_dir = (of_user ≡ user) × (of_dir ≡ dir)

-- nobody sent a chunk of it for a day
abbrev pub IsIdleUpload : State → ℕ → ℕ → List ℕ → Type 0
IsIdleUpload s now user dir = (row : UploadRow) × (upload_row s.tables.uploads user dir ≡ Some row) × (is_idle now row ≡ true)

-- no upload and no chunk is another but of the upload of who asks about it, the chunk that a seat was granted to send, with its upload, and
-- those that a sweep finds idle
pub data UploadsFollow (s : State) (e : Entry) (before after : Tables) : Type 0 where
  is_same : after ≡ before → UploadsFollow s e before after
  is_asked : (words : Words) (request : Request) (asked : UploadAsk) → e.event ≡ Begin words request → request.wanted ≡ want.Upload asked
      → OnlyUploads before after (IsThatUpload (asker_of (call_of s e.seat e.moment words request)) (upload_asked asked))
      (λ user dir number. IsThatUpload (asker_of (call_of s e.seat e.moment words request)) (upload_asked asked) user dir)
      → UploadsFollow s e before after
  is_sent : (outcome : Outcome) (user : ℕ) (dir : List ℕ) (number length : ℕ) → e.event ≡ End outcome
      → goal_at s e.seat ≡ Some (Chunk user dir number length)
      → OnlyUploads before after (IsThatUpload user dir) (λ of_user of_dir of. IsThatUpload user dir of_user of_dir × (of ≡ number))
      → UploadsFollow s e before after
  is_swept : e.event ≡ Sweep
      → OnlyUploads before after (IsIdleUpload s e.moment) (λ user dir number. IsIdleUpload s e.moment user dir)
      → UploadsFollow s e before after

-- ---- what a step changes

-- a step changes users, groups, tokens and members, and the root of a new user and the mounts of a new member with them; or an item of
-- the trash comes back; or none of these: then each node whose row is another is allowed to be. A share ends exactly where its node isn't
-- present any more, and no share and no mount is another otherwise, but for the mount whose own path is named, or the share that is asked
-- about. Of the other rows the meta row alone is another
pub record NodesAllowed (s : State) (e : Entry) (after : Tables) : Type 0 where
  pub nodes : (node : ℕ) → node_row after.nodes node ≢ node_row s.tables.nodes node
      → IsAllowed s e.moment (seeker_at s e.seat e.moment e.event) (needs_of s e.seat e.moment e.event) after.nodes node
  pub others : KeepsShares s.tables after ⊎ (IsRemounted s e after ⊎ IsSharing s e after)
  pub items : ItemsFollow (needs_of s e.seat e.moment e.event) e.moment s.tables.items after.items
  pub rest : after ≡ record s.tables {
    meta = after.meta;
    nodes = after.nodes;
    shares = after.shares;
    mounts = after.mounts;
    versions = after.versions;
    items = after.items;
  }

-- and then trashes and versions are settled, if any are, and uploads and chunks are others, if any are
pub record ChangesAllowed (s : State) (e : Entry) (after : Tables) : Type 0 where
  pub between : Tables
  pub allowed : NodesAllowed s e between ⊎ (IsProviding s e between ⊎ IsRestoring s e between)
  pub behind : Tables
  pub settled : IsSettled s e between behind
  pub uploads : UploadsFollow s e behind after

abbrev pub ChangesWhatMayBeChanged : Type 0
ChangesWhatMayBeChanged = (n : ℕ) (s : State) (e : Entry) → IsSound s → MayCome n s e → ChangesAllowed s e (after s e).tables
