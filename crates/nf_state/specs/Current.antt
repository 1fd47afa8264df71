-- The state of the site as the program holds it.
use Rattle.std.specs.Prelude.{◌≡◌, ◌≢◌, ◌⊎◌, ℕ, ◌+◌, ◌<◌, ◌≤◌, nat_lt, All, AllPairs, Bool, true, false, not, List, [], ◌∷◌, ◌++◌, count_by, length, max, min, slice_get, sum_by, take, Option, None, Some, IsSome}
use Rattle.nf_access.specs.Shares.{share_row}
use Rattle.nf_base.specs.declared.changes.Change.{Change}
use Rattle.nf_base.specs.declared.changes.Change.TheVariants.{Put, Drop}
use Rattle.nf_base.specs.declared.changes.RowKey.{RowKey}
use Rattle.nf_base.specs.declared.changes.RowKey.TheVariants as keys
use Rattle.nf_base.specs.declared.limits.TheConstants.{MAX_GROUPS, MAX_USERS}
use Rattle.nf_base.specs.declared.rows.Row.TheVariants as rows
use Rattle.nf_base.specs.declared.rows.GroupRow.{GroupRow}
use Rattle.nf_base.specs.declared.rows.MetaRow.{MetaRow}
use Rattle.nf_base.specs.declared.rows.NodeRow.{NodeRow}
use Rattle.nf_base.specs.declared.rows.ShareRow.{ShareRow}
use Rattle.nf_base.specs.declared.rows.UserRow.{UserRow}
use Rattle.nf_charge.specs.Sums.{LeadUp}
use Rattle.nf_defs.specs.Prelude.{filled, group_named, is_folder_kind, item_row, made, node_row, relinked, Tables, user_named, user_row, with_node}
use Rattle.nf_words.specs.Prelude.{blob_after, counted, deed_done, goal_of, is_closing, IsNewMember, IsNewToken, last_number, last_short, State}
use Rattle.nf_words.specs.declared.answer.Allowed.{Allowed}
use Rattle.nf_words.specs.declared.answer.Allowed.TheVariants as allowed
use Rattle.nf_words.specs.declared.answer.Deed.{Deed}
use Rattle.nf_words.specs.declared.answer.Deed.TheVariants as deed
use Rattle.nf_state.specs.Counts.{FitsRows, only_nodes}
use Rattle.nf_state.specs.Gone.{TellsDeeds}
use Rattle.nf_state.specs.declared.counts.RowCounts.{RowCounts}
use Rattle.nf_state.specs.declared.telling.Counted.{Counted}
use Rattle.nf_state.specs.declared.telling.Counted.TheVariants as kind

-- how many tickets and rows fit without more memory
pub record Room : Type 0 where
  pub tickets : ℕ
  pub rows : RowCounts

pub record Current : Type 0 where
  pub state : State
  pub room : Room

-- one ticket more fits
abbrev pub FitsTicket : State → Room → Type 0
FitsTicket s room = length s.tickets + 1 ≤ room.tickets

-- a node is put whose number wasn't given yet
abbrev pub is_fresh : ℕ → Change → Bool
is_fresh next (Put (rows.Node row)) = not (nat_lt row.id next)
is_fresh next other = false

-- a share is put, new or not
abbrev pub puts_share : Change → Bool
puts_share (Put (rows.Share row)) = true
puts_share other = false

-- and a mount
abbrev pub puts_mount : Change → Bool
puts_mount (Put (rows.Mount row)) = true
puts_mount other = false

-- and a version
abbrev pub puts_version : Change → Bool
puts_version (Put (rows.Version row)) = true
puts_version other = false

-- and an item of the trash
abbrev pub puts_item : Change → Bool
puts_item (Put (rows.Item row)) = true
puts_item other = false

-- and an upload or a chunk
abbrev pub puts_upload : Change → Bool
puts_upload (Put (rows.Upload row)) = true
puts_upload other = false

abbrev pub puts_chunk : Change → Bool
puts_chunk (Put (rows.Chunk row)) = true
puts_chunk other = false

-- a user, new or not
abbrev pub puts_user : Change → Bool
puts_user (Put (rows.User row)) = true
puts_user other = false

-- a token, a group, or a member
abbrev pub puts_token : Change → Bool
puts_token (Put (rows.Token row)) = true
puts_token other = false

abbrev pub puts_group : Change → Bool
puts_group (Put (rows.Group row)) = true
puts_group other = false

abbrev pub puts_member : Change → Bool
puts_member (Put (rows.Member row)) = true
puts_member other = false

-- a row is put that is counted
abbrev pub is_counted : Counted → Change → Bool
is_counted (kind.Fresh next) = is_fresh next
is_counted kind.Share = puts_share
is_counted kind.Mount = puts_mount
is_counted kind.Version = puts_version
is_counted kind.Item = puts_item
is_counted kind.Upload = puts_upload
is_counted kind.Chunk = puts_chunk
is_counted kind.User = puts_user
is_counted kind.Token = puts_token
is_counted kind.Group = puts_group
is_counted kind.Member = puts_member

-- how many rows some changes add at most
abbrev pub added_of : ℕ → List Change → RowCounts
added_of next changes = record {
  users = count_by puts_user changes;
  tokens = count_by puts_token changes;
  groups = count_by puts_group changes;
  members = count_by puts_member changes;
  nodes = count_by (is_fresh next) changes;
  shares = count_by puts_share changes;
  mounts = count_by puts_mount changes;
  versions = count_by puts_version changes;
  items = count_by puts_item changes;
  uploads = count_by puts_upload changes;
  chunks = count_by puts_chunk changes;
}

-- how many rows a deed adds at most: an item, copies, a user, or what it stores, where that is the next number of a node
abbrev pub discards : Deed → Bool
discards (deed.Discard item) = true
discards other = false

abbrev pub requotes : Deed → Bool
requotes (deed.Requote row) = true
requotes other = false

abbrev pub rows_joined : Deed → ℕ
rows_joined (deed.Join rows) = length rows
rows_joined other = 0

abbrev pub added_deed : ℕ → Deed → RowCounts
added_deed next (deed.Discard item) = record (only_nodes 0) { items = 1 }
added_deed next (deed.Purge node) = only_nodes 0
added_deed next (deed.Restore node folder name) = only_nodes 0
added_deed next (deed.Relink node folder name) = only_nodes 0
added_deed next (deed.Join rows) = only_nodes (length rows)
added_deed next (deed.Requote row) = record (only_nodes 0) { users = 1 }
added_deed next (deed.Forget node at) = only_nodes 0
added_deed next (deed.Store changes) = added_of next changes
added_deed next (deed.Abandon user dir) = only_nodes 0

-- and some deeds; a machine counts no further
abbrev pub nodes_joined : List Deed → ℕ
nodes_joined deeds = min (sum_by rows_joined deeds) last_number

-- behind what is stored nothing is added
abbrev pub added_deeds : ℕ → List Deed → RowCounts
added_deeds next (deed.Store changes ∷ deeds) = added_of next changes
added_deeds next deeds = record (only_nodes (nodes_joined deeds)) { users = count_by requotes deeds; items = count_by discards deeds }

-- how many rows an act adds at most
abbrev pub added_by : Tables → Allowed → RowCounts
added_by t (allowed.Get node content) = only_nodes 0
added_by t (allowed.List listing) = only_nodes 0
added_by t (allowed.Put by key length) = only_nodes 0
added_by t (allowed.Chunk user dir number length) = only_nodes 0
added_by t (allowed.Change changes blob report) = added_of t.meta.next_node changes
added_by t (allowed.Deeds deeds report) = added_deeds t.meta.next_node deeds
added_by t allowed.Close = only_nodes 0

-- what an act adds fits
abbrev pub FitsAct : State → Room → Allowed → Type 0
FitsAct s room act = FitsRows s.tables room.rows (added_by s.tables act) × (IsSome (goal_of act) → FitsTicket s room)

-- the numbers of nodes rise, and were given
pub record AreGiven (t : Tables) : Type 0 where
  pub rising : AllPairs (λ (a b : NodeRow). a.id < b.id) t.nodes
  pub given : All (λ (row : NodeRow). row.id < t.meta.next_node) t.nodes

-- new nodes have the next numbers, and the counter has those
pub record HasNumbers (t : Tables) (rows : List NodeRow) : Type 0 where
  pub numbered : (k : ℕ) (row : NodeRow) → slice_get rows k ≡ Some row → row.id ≡ t.meta.next_node + k
  pub next_node : t.meta.next_node + length rows ≤ last_number

-- ---- rows that are put

-- a node's number is above all others, and with it each node leads up
pub record IsNew (old : List NodeRow) (row : NodeRow) : Type 0 where
  pub newest : All (λ (other : NodeRow). other.id < row.id) old
  pub leads : LeadUp (old ++ row ∷ [])

-- a file that is there has another content
pub record IsRefilled (old : List NodeRow) (row : NodeRow) : Type 0 where
  pub was : NodeRow
  pub there : node_row old row.id ≡ Some was
  pub file : is_folder_kind was.kind ≡ false
  pub same : row ≡ filled row.content row.changed was

-- a user is new, of a number above all others and a name that is nobody's, or is there and has another quota
pub record IsAdded (old : List UserRow) (row : UserRow) : Type 0 where
  pub newest : All (λ (other : UserRow). other.id < row.id) old
  pub unnamed : user_named old row.name ≡ None
  pub few : length old + 1 ≤ MAX_USERS

pub record IsRequoted (old : List UserRow) (row : UserRow) : Type 0 where
  pub was : UserRow
  pub there : user_row old row.id ≡ Some was
  pub same : row ≡ record was { quota = row.quota }

-- a group is new
pub record IsFounded (old : List GroupRow) (row : GroupRow) : Type 0 where
  pub newest : All (λ (other : GroupRow). other.id < row.id) old
  pub unnamed : group_named old row.name ≡ None
  pub few : length old + 1 ≤ MAX_GROUPS

-- the key is that of a member, of a version or of an item of the trash
abbrev pub IsDroppedKey : RowKey → Type 0
IsDroppedKey (keys.Member group user) = Unit {0}
IsDroppedKey (keys.Version node at) = Unit {0}
IsDroppedKey (keys.Item node) = Unit {0}
IsDroppedKey key = ⊥

-- a change can be borne by the tables that it meets, where that was the next number of a node at first: a share that is there stays
-- on its node, and a new token or member is no other's
abbrev pub IsBorne : ℕ → Tables → Change → Type 0
IsBorne next t (Put (rows.User row)) = IsAdded t.users row ⊎ IsRequoted t.users row
IsBorne next t (Put (rows.Token row)) = IsNewToken t row
IsBorne next t (Put (rows.Group row)) = IsFounded t.groups row
IsBorne next t (Put (rows.Member row)) = IsNewMember t row
IsBorne next t (Drop key) = IsDroppedKey key
IsBorne next t (Put (rows.Node row)) = ((next ≤ row.id) × IsNew t.nodes row) ⊎ ((row.id < next) × IsRefilled t.nodes row)
IsBorne next t (Put (rows.Share row)) = (old : ShareRow) → share_row t.shares row.id ≡ Some old → old.node ≡ row.node
IsBorne next t (Put (rows.Mount row)) = Unit {0}
IsBorne next t (Put (rows.Version row)) = Unit {0}
IsBorne next t (Put (rows.Item row)) = Unit {0}
IsBorne next t (Put (rows.Upload row)) = Unit {0}
IsBorne next t (Put (rows.Chunk row)) = Unit {0}
IsBorne next t other = ⊥

abbrev pub AreBorne : ℕ → Tables → List Change → Type 0
AreBorne next t [] = Unit {0}
AreBorne next t (change ∷ changes) = IsBorne next t change × AreBorne next (made t change) changes

-- there is a number above the one that is put, where it isn't below the next one
abbrev pub IsCounted : MetaRow → Change → Type 0
IsCounted meta (Put (rows.User row)) = row.id + 1 ≤ max meta.next_user last_short
IsCounted meta (Put (rows.Token row)) = Unit {0}
IsCounted meta (Put (rows.Group row)) = row.id + 1 ≤ max meta.next_group last_short
IsCounted meta (Put (rows.Member row)) = Unit {0}
IsCounted meta (Drop key) = IsDroppedKey key
IsCounted meta (Put (rows.Node row)) = row.id + 1 ≤ max meta.next_node last_number
IsCounted meta (Put (rows.Share row)) = row.id + 1 ≤ max meta.next_share last_number
IsCounted meta (Put (rows.Mount row)) = Unit {0}
IsCounted meta (Put (rows.Version row)) = Unit {0}
IsCounted meta (Put (rows.Item row)) = Unit {0}
IsCounted meta (Put (rows.Upload row)) = Unit {0}
IsCounted meta (Put (rows.Chunk row)) = Unit {0}
IsCounted meta other = ⊥

pub record BearsChanges (t : Tables) (changes : List Change) (blob : Option ℕ) : Type 0 where
  pub rows : AreBorne t.meta.next_node t changes
  pub numbers : All (IsCounted t.meta) changes
  pub next_blob : blob_after t.meta.next_blob blob ≤ max t.meta.next_blob last_number

-- what is put in a folder is there, and where it comes to each node leads up
pub record BearsPlace (t : Tables) (node folder : ℕ) (name : List ℕ) : Type 0 where
  pub there : IsSome (node_row t.nodes node)
  pub leads : LeadUp (with_node t.nodes node (relinked folder name))

-- with each new node behind those before it, each leads up
abbrev pub LeadUpBehind : List NodeRow → List NodeRow → Type 0
LeadUpBehind old rows = (count : ℕ) → LeadUp (old ++ take count rows)

-- there are some, and they have the next numbers
pub record BearsCopies (t : Tables) (rows : List NodeRow) : Type 0 where
  pub some : rows ≢ []
  pub given : AreGiven t
  pub numbers : HasNumbers t rows
  pub leads : LeadUpBehind t.nodes rows

-- of an item of the trash no share is left to end
abbrev pub IsClosed : Tables → ℕ → Type 0
IsClosed t node = All (λ (share : ShareRow). is_closing t.nodes node share ≡ false) t.shares

-- changes can be borne, and the numbers of the nodes that are there were given
pub record BearsStore (t : Tables) (changes : List Change) : Type 0 where
  pub stored : BearsChanges t changes None
  pub given : AreGiven t

-- what is put in the trash is there, and so is who has another quota
abbrev pub BearsDeed : Tables → Deed → Type 0
BearsDeed t (deed.Discard item) = IsSome (node_row t.nodes item.node)
BearsDeed t (deed.Purge node) = IsSome (item_row t.items node) → IsClosed t node
BearsDeed t (deed.Restore node folder name) = BearsPlace t node folder name
BearsDeed t (deed.Relink node folder name) = BearsPlace t node folder name
BearsDeed t (deed.Join rows) = BearsCopies t rows
BearsDeed t (deed.Requote row) = IsRequoted t.users row
BearsDeed t (deed.Forget node at) = Unit {0}
BearsDeed t (deed.Store changes) = BearsStore t changes
BearsDeed t (deed.Abandon user dir) = Unit {0}

-- each deed can be borne by the tables after those before it
abbrev pub BearsDeeds : Tables → List Deed → Type 0
BearsDeeds t [] = Unit {0}
BearsDeeds t (deed ∷ deeds) = BearsDeed t deed × BearsDeeds (deed_done t deed) deeds

-- a deed stores no changes
abbrev pub StoresNone : Deed → Type 0
StoresNone (deed.Store changes) = ⊥
StoresNone other = Unit {0}

-- a version or an upload goes
abbrev pub OnlyDrops : Deed → Type 0
OnlyDrops (deed.Forget node at) = Unit {0}
OnlyDrops (deed.Abandon user dir) = Unit {0}
OnlyDrops other = ⊥

-- changes are stored first, if any are, and then some versions and uploads go
abbrev pub StoresFirst : List Deed → Type 0
StoresFirst (deed.Store changes ∷ deeds) = (deeds ≢ []) × All OnlyDrops deeds
StoresFirst deeds = All StoresNone deeds

-- so can all of a step, and what becomes of the rows is told of the tables before them
pub record BearsStep (t : Tables) (deeds : List Deed) : Type 0 where
  pub borne : BearsDeeds t deeds
  pub order : StoresFirst deeds
  pub tells : TellsDeeds t deeds

-- ---- counters

-- the counters after a deed
abbrev pub counted_with : MetaRow → Deed → MetaRow
counted_with meta (deed.Join rows) = record meta { next_node = meta.next_node + length rows }
counted_with meta (deed.Store changes) = counted meta changes
counted_with meta other = meta

-- and after some
abbrev pub counted_by : MetaRow → List Deed → MetaRow
counted_by meta [] = meta
counted_by meta (deed ∷ deeds) = counted_by (counted_with meta deed) deeds

-- they have the numbers that a deed gives
abbrev pub CountsDeed : MetaRow → Deed → Type 0
CountsDeed meta (deed.Join rows) = meta.next_node + length rows ≤ max meta.next_node last_number
CountsDeed meta (deed.Store changes) = All (IsCounted meta) changes
CountsDeed meta other = Unit {0}

-- and those that some give
abbrev pub CountsDeeds : MetaRow → List Deed → Type 0
CountsDeeds meta [] = Unit {0}
CountsDeeds meta (deed ∷ deeds) = CountsDeed meta deed × CountsDeeds (counted_with meta deed) deeds

-- the tables can bear an act
abbrev pub BearsAct : Tables → Allowed → Type 0
BearsAct t (allowed.Get node content) = Unit {0}
BearsAct t (allowed.List listing) = Unit {0}
BearsAct t (allowed.Put by key length) = Unit {0}
BearsAct t (allowed.Chunk user dir number length) = Unit {0}
BearsAct t (allowed.Change changes blob report) = BearsChanges t changes blob
BearsAct t (allowed.Deeds deeds report) = BearsStep t deeds
BearsAct t allowed.Close = Unit {0}
