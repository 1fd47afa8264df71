-- What a DELETE, a MKCOL, a PUT, a MOVE of a mount and a sweep change, and what is asked about the trash, and that they change nothing else.
use Rattle.std.specs.Prelude.{◌≡◌, ◌≢◌, ◌↔◌, ◌≤◌, ◌⊎◌, ℕ, ◌+◌, Bool, true, false, List, [], ◌∷◌, filter, length, not, Option, None, Some, is_some, Ok, IsOk, IfSome, All, Contains}
use Rattle.nf_access.specs.Mounts.{mount_row}
use Rattle.nf_access.specs.Shares.{share_row}
use Rattle.nf_base.specs.declared.content.Piece.{Piece}
use Rattle.nf_base.specs.declared.rows.MountRow.{MountRow}
use Rattle.nf_base.specs.declared.rows.NodeKind.{NodeKind}
use Rattle.nf_base.specs.declared.rows.NodeKind.TheVariants.{File, Folder}
use Rattle.nf_base.specs.declared.rows.NodeRow.{NodeRow}
use Rattle.nf_base.specs.declared.rows.Place.TheVariants.{Inside}
use Rattle.nf_base.specs.declared.rows.Place.TheVariants as place
use Rattle.nf_base.specs.declared.rows.ShareRow.{ShareRow}
use Rattle.nf_defs.specs.Prelude.{child_of, is_folder, is_folder_kind, is_present, item_row, node_row, owner_of, relinked, Tables}
use Rattle.nf_laws.specs.Access.{LeadsBy}
use Rattle.nf_laws.specs.Reads.{LeadsToKey}
use Rattle.nf_laws.specs.Tree.{Under}
use Rattle.nf_laws.specs.Wholes.{blob_in}
use Rattle.nf_words.specs.Prelude.{after, answer_to, asker_of, behind, blob_for, Call, call_of, content_in, ended_row, goal_at, gone_from, home_of, is_idle, IsSound, last_name, left_row, MayAsk, mount_of, name_back, named_row, root_of, seeker_of, State, step, upload_row, user_of, versions_there, way_of, without_ticket}
use Rattle.nf_words.specs.declared.answer.By.{By}
use Rattle.nf_words.specs.declared.answer.Goal.TheVariants.{Store}
use Rattle.nf_words.specs.declared.answer.LockKey.{LockKey}
use Rattle.nf_words.specs.declared.answer.LockKey.TheVariants.{Node, Slot}
use Rattle.nf_words.specs.declared.answer.Reply.TheVariants.{Granted}
use Rattle.nf_words.specs.declared.history.Entry.{Entry}
use Rattle.nf_words.specs.declared.history.Event.TheVariants.{Begin, End, Sweep}
use Rattle.nf_words.specs.declared.history.Outcome.TheVariants.{Body, Gone}
use Rattle.nf_words.specs.declared.request.Request.{Request}
use Rattle.nf_words.specs.declared.request.Spot.{Spot}
use Rattle.nf_words.specs.declared.request.Wanted.TheVariants.{Delete, Mkcol, Move, Put, Trash}
use Rattle.nf_words.specs.declared.request.TrashAsk.TheVariants as trash
use Rattle.nf_words.specs.declared.request.Words.{Words}
use Rattle.nf_base.specs.declared.rows.ItemRow.{ItemRow}
use Rattle.nf_base.specs.declared.rows.VersionRow.{VersionRow}
use Rattle.nf_words.specs.Versions.{version_for}

-- a path leads to the file that is stored over, or to the folder and the name that is free in it: from the caller's root, or from the node
-- of the mount that it goes by, a user's behind its first name and a link's whole
abbrev pub LeadsToKeyBy : Call → Spot → Option ℕ → LockKey → Type 0
LeadsToKeyBy call spot None key = LeadsToKey call.state.tables.nodes (root_of call) spot.path key
LeadsToKeyBy call spot (Some mount) key = LeadsToKey call.state.tables.nodes mount (behind (seeker_of call) spot.path) key

-- the shares of what is gone are ended, and no other share is another
pub record AreEnded (before after : List ShareRow) (IsGone : ℕ → Type 0) : Type 0 where
  pub ended : (id : ℕ) (share : ShareRow) → share_row before id ≡ Some share → IsGone share.node → share_row after id ≡ Some (ended_row share)
  pub others : (id : ℕ) → IfSome (share_row before id) (λ (share : ShareRow). IsGone share.node → ⊥) → share_row after id ≡ share_row before id

-- ---- the trash

-- the node is an item in the trash of its owner, since then, which came from the folder that it was in; all under it is as it was
pub record IsInTrash (before after : Tables) (now top : ℕ) : Type 0 where
  pub row : NodeRow
  pub folder : ℕ
  pub there : node_row before.nodes top ≡ Some row
  pub inside : row.place ≡ Inside folder
  pub itself : node_row after.nodes top ≡ Some (record row { place = place.Trash })
  pub item : item_row after.items top ≡ Some (record { node = top; owner = row.owner; name = row.name; from = folder; at = now })
  pub below : (node : ℕ) → Under before.nodes top node → node ≢ top → node_row after.nodes node ≡ node_row before.nodes node

-- the node is gone for good, with all under it
abbrev pub IsGoneWith : List NodeRow → List NodeRow → ℕ → Type 0
IsGoneWith before after top = (node : ℕ) → Under before top node → node_row after node ≡ None

-- the node is an item in the trash of that user
abbrev pub IsItemOf : Tables → ℕ → ℕ → Type 0
IsItemOf t user node = (item : ItemRow) × (item_row t.items node ≡ Some item) × (item.owner ≡ user)

-- those are items in the trash of that user, and gone for good, each with all under it
pub record AreEmptied (before after : Tables) (user : ℕ) (tops : List ℕ) : Type 0 where
  pub items : All (IsItemOf before user) tops
  pub gone : All (IsGoneWith before.nodes after.nodes) tops
  pub none : All (λ (top : ℕ). item_row after.items top ≡ None) tops

-- the node is under one of those
abbrev pub IsUnderOne : List NodeRow → List ℕ → ℕ → Type 0
IsUnderOne rows tops node = (top : ℕ) × Contains tops top × Under rows top node

-- ---- what leaves its place

-- the node is an item in the trash of the owner of one of those
abbrev pub IsBeside : Tables → List ℕ → ℕ → Type 0
IsBeside t leave node = (top : ℕ) × Contains leave top × IsItemOf t (owner_of t.nodes top) node

-- each of those nodes left its place: it is in its owner's trash, or gone for good with all under it where the trash can't hold it. So
-- are items of these owners that the trash can't hold any more, each with all under it; every other item is as it was. The shares of what
-- is under the nodes are ended, and the others as they were
pub record HaveLeft (before after : Tables) (now : ℕ) (leave tops : List ℕ) : Type 0 where
  pub left : All (λ (top : ℕ). IsInTrash before after now top ⊎ IsGoneWith before.nodes after.nodes top) leave
  pub beside : All (IsBeside before leave) tops
  pub gone : All (IsGoneWith before.nodes after.nodes) tops
  pub none : All (λ (top : ℕ). item_row after.items top ≡ None) tops
  pub items : (node : ℕ) → (Contains leave node → ⊥) → (Contains tops node → ⊥) → item_row after.items node ≡ item_row before.items node
  pub shares : AreEnded before.shares after.shares (IsUnderOne before.nodes leave)

-- the versions of what is there are as they were, and there are no others
abbrev pub AreVersionsLeft : Tables → Tables → Type 0
AreVersionsLeft before after = after.versions ≡ versions_there after.nodes before.versions

-- each version is one that there was
abbrev pub AreVersionsFewer : Tables → Tables → Type 0
AreVersionsFewer before after = All (λ (version : VersionRow). Contains before.versions version) after.versions

-- or what its file had
abbrev pub IsOldVersion : Tables → VersionRow → Type 0
IsOldVersion before version =
    Contains before.versions version ⊎ ((was : NodeRow) × (node_row before.nodes version.node ≡ Some was) × (version ≡ version_for was))

-- ---- DELETE

-- the node to which the path leads left its place. Every other node is as it was, and of the meta row the moment alone is another
pub record IsDeleted (call : Call) (spot : Spot) (after : Tables) : Type 0 where
  pub top : ℕ
  pub led : LeadsBy call spot (mount_of call spot) top
  pub tops : List ℕ
  pub left : HaveLeft call.state.tables after call.now (top ∷ []) tops
  pub others : (node : ℕ) → (Under call.state.tables.nodes top node → ⊥) → (IsUnderOne call.state.tables.nodes tops node → ⊥)
      → node_row after.nodes node ≡ node_row call.state.tables.nodes node
  pub versions : AreVersionsLeft call.state.tables after
  pub rest : after ≡ record call.state.tables {
    meta = record call.state.tables.meta { last = call.now };
    nodes = after.nodes;
    shares = after.shares;
    versions = after.versions;
    items = after.items;
  }

-- of a path that isn't a mount's own
abbrev pub DeletesKeep : Type 0
DeletesKeep =
    (s : State) (seat now : ℕ) (words : Words) (request : Request) (spot : Spot) → IsSound s → s.seen ≤ now → MayAsk s seat (Begin words request)
    → request.wanted ≡ Delete spot → (way_of (call_of s seat now words request) spot).itself ≡ false
    → IsOk (answer_to s seat now (Begin words request))
    → IsDeleted (call_of s seat now words request) spot (step s seat now (Begin words request)).tables

-- ---- what is asked about the trash

-- those are gone for good, each with all under it, and nothing else is another but the moment, if anything is
pub record AreTaken (before after : Tables) (tops : List ℕ) : Type 0 where
  pub gone : All (IsGoneWith before.nodes after.nodes) tops
  pub none : All (λ (top : ℕ). item_row after.items top ≡ None) tops
  pub others : (node : ℕ) → (IsUnderOne before.nodes tops node → ⊥) → node_row after.nodes node ≡ node_row before.nodes node
  pub items : (node : ℕ) → (Contains tops node → ⊥) → item_row after.items node ≡ item_row before.items node
  pub versions : AreVersionsLeft before after
  pub rest : after ≡ record before {
    meta = record before.meta { last = after.meta.last };
    nodes = after.nodes;
    versions = after.versions;
    items = after.items;
  }

-- they are items of the caller's
abbrev pub IsEmptied : Call → Tables → List ℕ → Type 0
IsEmptied call after tops = All (IsItemOf call.state.tables (asker_of call)) tops × AreTaken call.state.tables after tops

-- an item of the caller's that is to be dropped is among them
abbrev pub DropsKeep : Type 0
DropsKeep =
    (s : State) (seat now : ℕ) (words : Words) (request : Request) (user : List ℕ) (item : ℕ) → IsSound s → MayAsk s seat (Begin words request)
    → request.wanted ≡ Trash (trash.Drop user item) → IsOk (answer_to s seat now (Begin words request))
    → (tops : List ℕ) × Contains tops item
    × IsEmptied (call_of s seat now words request) (step s seat now (Begin words request)).tables tops

-- and all of them are, where the trash is to be emptied
abbrev pub EmptyingKeeps : Type 0
EmptyingKeeps =
    (s : State) (seat now : ℕ) (words : Words) (request : Request) (user : List ℕ) → IsSound s → MayAsk s seat (Begin words request)
    → request.wanted ≡ Trash (trash.Empty user) → IsOk (answer_to s seat now (Begin words request))
    → (tops : List ℕ)
    × ((item : ItemRow) → Contains s.tables.items item → item.owner ≡ asker_of (call_of s seat now words request) → Contains tops item.node)
    × IsEmptied (call_of s seat now words request) (step s seat now (Begin words request)).tables tops

-- the node of an item of the caller's is in a folder of the caller's that is present: the one that it came from, or else the root. It has
-- a name there that was free, and is an item no more; all under it is as it was. Of the caller's other items some may be gone for good,
-- each with all under it, and some versions may be gone, and nothing else is another but the moment
pub record IsRestored (call : Call) (node : ℕ) (after : Tables) : Type 0 where
  pub item : ItemRow
  pub there : item_row call.state.tables.items node ≡ Some item
  pub own : item.owner ≡ asker_of call
  pub row : NodeRow
  pub was : node_row call.state.tables.nodes node ≡ Some row
  pub folds : is_folder call.state.tables.nodes (home_of call.state.tables item) ≡ true
  pub present : is_present call.state.tables.users call.state.tables.nodes (home_of call.state.tables item) ≡ true
  pub owner : owner_of call.state.tables.nodes (home_of call.state.tables item) ≡ asker_of call
  pub free : child_of call.state.tables.nodes (home_of call.state.tables item) (name_back call.state.tables item) ≡ None
  pub itself : node_row after.nodes node ≡ Some (relinked (home_of call.state.tables item) (name_back call.state.tables item) row)
  pub none : item_row after.items node ≡ None
  pub tops : List ℕ
  pub emptied : AreEmptied call.state.tables after (asker_of call) tops
  pub others : (other : ℕ) → other ≢ node → (IsUnderOne call.state.tables.nodes tops other → ⊥)
      → node_row after.nodes other ≡ node_row call.state.tables.nodes other
  pub items : (other : ℕ) → other ≢ node → (Contains tops other → ⊥) → item_row after.items other ≡ item_row call.state.tables.items other
  pub versions : AreVersionsFewer call.state.tables after
  pub rest : after ≡ record call.state.tables {
    meta = record call.state.tables.meta { last = call.now };
    nodes = after.nodes;
    versions = after.versions;
    items = after.items;
  }

abbrev pub ItemsComeBack : Type 0
ItemsComeBack =
    (s : State) (seat now : ℕ) (words : Words) (request : Request) (user : List ℕ) (item : ℕ) → IsSound s → MayAsk s seat (Begin words request)
    → request.wanted ≡ Trash (trash.Restore user item) → IsOk (answer_to s seat now (Begin words request))
    → IsRestored (call_of s seat now words request) item (step s seat now (Begin words request)).tables

-- ---- a mount itself

-- the caller's mount whose own path that is, and which wasn't left, has another row; every other mount is as it was, and of the meta row
-- the moment alone is another
pub record IsMountChanged (call : Call) (spot : Spot) (after : Tables) (change : MountRow → MountRow) : Type 0 where
  pub user : ℕ
  pub caller : user_of call ≡ Some user
  pub node : ℕ
  pub by : mount_of call spot ≡ Some node
  pub row : MountRow
  pub there : mount_row call.state.tables.mounts user node ≡ Some row
  pub shown : row.left ≡ false
  pub itself : mount_row after.mounts user node ≡ Some (change row)
  pub others : (owner other : ℕ) → (owner ≡ user → other ≡ node → ⊥)
      → mount_row after.mounts owner other ≡ mount_row call.state.tables.mounts owner other
  pub rest : after ≡ record call.state.tables { meta = record call.state.tables.meta { last = call.now }; mounts = after.mounts }

-- a DELETE of it leaves the mount
abbrev pub MountsAreLeft : Type 0
MountsAreLeft =
    (s : State) (seat now : ℕ) (words : Words) (request : Request) (spot : Spot) → IsSound s → MayAsk s seat (Begin words request)
    → request.wanted ≡ Delete spot → (way_of (call_of s seat now words request) spot).itself ≡ true
    → IsOk (answer_to s seat now (Begin words request))
    → IsMountChanged (call_of s seat now words request) spot (step s seat now (Begin words request)).tables left_row

-- a MOVE of it gives the mount the target's last name
abbrev pub MountsAreRenamed : Type 0
MountsAreRenamed =
    (s : State) (seat now : ℕ) (words : Words) (request : Request) (source target : Spot) (overwrite : Bool) → IsSound s
    → MayAsk s seat (Begin words request) → request.wanted ≡ Move source target overwrite
    → (way_of (call_of s seat now words request) source).itself ≡ true → IsOk (answer_to s seat now (Begin words request))
    → IsMountChanged (call_of s seat now words request) source (step s seat now (Begin words request)).tables (named_row (last_name target))

-- ---- a sweep

-- just the uploads are gone that nobody sent a chunk of for a day, each with its chunks
pub record AreAbandoned (before after : Tables) (now : ℕ) : Type 0 where
  pub uploads : after.uploads ≡ filter (λ row. not (is_idle now row)) before.uploads
  pub chunks : after.chunks ≡ filter (λ row. is_some (upload_row after.uploads row.user row.dir)) before.chunks

-- and beside that those are gone for good
abbrev pub AreSwept : Tables → Tables → ℕ → List ℕ → Type 0
AreSwept before after now tops =
    AreAbandoned before after now × AreTaken (record before { uploads = after.uploads; chunks = after.chunks }) after tops

-- just those items are taken that the trash of their owner doesn't hold any more
abbrev pub SweepsTake : Type 0
SweepsTake =
    (s : State) (seat now : ℕ) → IsSound s
    → (tops : List ℕ)
    × ((node : ℕ) → Contains tops node
    ↔ ((item : ItemRow) × (item_row s.tables.items node ≡ Some item) × Contains (gone_from s.tables now item.owner) node))
    × AreSwept s.tables (step s seat now Sweep).tables now tops

-- ---- a node more

-- the new node is in the folder, which had no child of its name, under the number that was next, and is of the folder's owner; every
-- other node is as it was. Of the meta row these alone are others: the moment, the next number of a node, which is one more, and that
-- of a blob, which is as many more as the content has pieces
pub record IsAdded (before after : Tables) (now folder : ℕ) (name : List ℕ) (kind : NodeKind) (content : List Piece) : Type 0 where
  pub folds : is_folder before.nodes folder ≡ true
  pub free : child_of before.nodes folder name ≡ None
  pub fresh : node_row before.nodes before.meta.next_node ≡ None
  pub itself : node_row after.nodes before.meta.next_node ≡ Some (record {
    id = before.meta.next_node;
    owner = owner_of before.nodes folder;
    place = Inside folder;
    name = name;
    kind = kind;
    content = content;
    changed = now;
  })
  pub others : (node : ℕ) → node ≢ before.meta.next_node → node_row after.nodes node ≡ node_row before.nodes node
  pub versions : AreVersionsFewer before after
  pub rest : after ≡ record before {
    meta = record before.meta {
      next_node = before.meta.next_node + 1;
      next_blob = before.meta.next_blob + length content;
      last = now;
    };
    nodes = after.nodes;
    versions = after.versions;
  }

-- ---- MKCOL

-- the new node is a folder, at the end of the path, and no version is another
pub record IsFolderMade (call : Call) (spot : Spot) (after : Tables) : Type 0 where
  pub folder : ℕ
  pub name : List ℕ
  pub led : LeadsToKeyBy call spot (mount_of call spot) (Slot folder name)
  pub added : IsAdded call.state.tables after call.now folder name Folder []
  pub versions : after.versions ≡ call.state.tables.versions

abbrev pub FoldersAreMade : Type 0
FoldersAreMade =
    (s : State) (seat now : ℕ) (words : Words) (request : Request) (spot : Spot) → IsSound s → MayAsk s seat (Begin words request)
    → request.wanted ≡ Mkcol spot → IsOk (answer_to s seat now (Begin words request))
    → IsFolderMade (call_of s seat now words request) spot (step s seat now (Begin words request)).tables

-- ---- PUT

-- a PUT is granted to who asks, by the mount that its path goes by, for the file to which the path leads or for the free name at its
-- end, and changes no row yet
pub record IsGranted (s : State) (seat now : ℕ) (words : Words) (request : Request) (spot : Spot) (size : ℕ) : Type 0 where
  pub mount : Option ℕ
  pub by : mount_of (call_of s seat now words request) spot ≡ mount
  pub key : LockKey
  pub led : LeadsToKeyBy (call_of s seat now words request) spot mount key
  pub granted : answer_to s seat now (Begin words request) ≡ Ok (Granted (Store (record { seeker = seeker_of (call_of s seat now words request); mount = mount }) key size))
  pub rows : (step s seat now (Begin words request)).tables ≡ s.tables

abbrev pub PutsAreGranted : Type 0
PutsAreGranted =
    (s : State) (seat now : ℕ) (words : Words) (request : Request) (spot : Spot) (size : ℕ) → IsSound s
    → MayAsk s seat (Begin words request) → request.wanted ≡ Put spot size → IsOk (answer_to s seat now (Begin words request))
    → IsGranted s seat now words request spot size

-- the file has the new content, which became current at the moment, and nothing else of it is another; every other node is as it was.
-- Each version is one that there was, or what its file had.
-- Of the meta row these alone are others: the next number of a blob, which is as many more as the content has pieces, and the moment,
-- unless the file was just so before
pub record IsRefilled (before after : Tables) (now node : ℕ) (content : List Piece) : Type 0 where
  pub row : NodeRow
  pub there : node_row before.nodes node ≡ Some row
  pub file : is_folder_kind row.kind ≡ false
  pub itself : node_row after.nodes node ≡ Some (record row { content = content; changed = now })
  pub others : (other : ℕ) → other ≢ node → node_row after.nodes other ≡ node_row before.nodes other
  pub versions : All (IsOldVersion before) after.versions
  pub rest : after ≡ record before {
    meta = record before.meta { next_blob = before.meta.next_blob + length content; last = after.meta.last };
    nodes = after.nodes;
    versions = after.versions;
  }
  pub moment : (after ≡ before) ⊎ (after.meta.last ≡ now)

-- what is stored over is refilled, and under a free name a file is added
abbrev pub IsPut : Tables → Tables → ℕ → LockKey → List Piece → Type 0
IsPut before after now (Node node) content = IsRefilled before after now node content
IsPut before after now (Slot folder name) content = IsAdded before after now folder name File content

abbrev pub PutsKeep : Type 0
PutsKeep =
    (s : State) (seat now : ℕ) (by : By) (key : LockKey) (digest : List ℕ) (size : ℕ) → IsSound s
    → goal_at s seat ≡ Some (Store by key size)
    → IsOk (answer_to s seat now (End (Body digest size)))
    → IsPut s.tables (step s seat now (End (Body digest size))).tables now key (content_in (blob_for s.tables.meta.next_blob size) digest size)

-- ---- a body that is cut

-- what was granted goes, and the moment is seen: nothing else of the state is another, and no blob is stored
pub record IsGone (s : State) (e : Entry) : Type 0 where
  pub state : after s e ≡ record (without_ticket s e.seat) { seen = e.moment }
  pub blob : blob_in s e ≡ None

-- however the End of a body that never came whole, or of a content that wasn't sent, is marked
abbrev pub CutBodiesKeep : Type 0
CutBodiesKeep = (s : State) (e : Entry) → e.event ≡ End Gone → IsGone s e
