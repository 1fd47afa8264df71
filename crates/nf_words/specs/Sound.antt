-- Sound states: their rows and tickets keep the rules of the site.
use Rattle.std.specs.Prelude.{◌≡◌, ◌≢◌, ℕ, ◌<◌, ◌≤◌, All, true, List, [], length, Option, None, Some, IfSome, is_some}
use Rattle.std.specs.List.{AllPairs}
use Rattle.std.specs.Option.{option_map_or}
use Rattle.nf_access.specs.Shares.{is_link_kind, share_row}
use Rattle.nf_base.specs.declared.limits.TheConstants.{MAX_BODY, MAX_PIECES}
use Rattle.nf_base.specs.declared.rows.GroupRow.{GroupRow}
use Rattle.nf_base.specs.declared.rows.MemberRow.{MemberRow}
use Rattle.nf_base.specs.declared.rows.MetaRow.{MetaRow}
use Rattle.nf_base.specs.declared.rows.NodeRow.{NodeRow}
use Rattle.nf_base.specs.declared.rows.Place.{Place}
use Rattle.nf_base.specs.declared.rows.Place.TheVariants.{Root, Inside, Trash}
use Rattle.nf_base.specs.declared.rows.ShareRow.{ShareRow}
use Rattle.nf_base.specs.declared.rows.UserRow.{UserRow}
use Rattle.nf_defs.specs.Prelude.{climb, folder_of, is_folder, is_folder_kind, item_row, node_row, owner_of, Tables, user_row}
use Rattle.nf_defs.specs.declared.Seeker.{Seeker}
use Rattle.nf_defs.specs.declared.Seeker.TheVariants as seeker
use Rattle.nf_words.specs.Contents.{IsPieceSound, stored_pieces}
use Rattle.nf_words.specs.Holds.{AreApartHolds, IsHeld, node_of_key}
use Rattle.nf_words.specs.Limits.{count_of}
use Rattle.nf_words.specs.Others.{AreOthersSound}
use Rattle.nf_words.specs.Present.{LeadsToRoot}
use Rattle.nf_words.specs.State.{State}
use Rattle.nf_words.specs.declared.answer.By.{By}
use Rattle.nf_words.specs.declared.answer.Goal.{Goal}
use Rattle.nf_words.specs.declared.answer.Goal.TheVariants.{Chunk, Serve, Store}
use Rattle.nf_words.specs.declared.answer.Hold.{Hold}
use Rattle.nf_words.specs.declared.answer.Limit.TheVariants as limit
use Rattle.nf_words.specs.declared.answer.LockKey.TheVariants.{Node}
use Rattle.nf_words.specs.declared.answer.Mode.TheVariants.{Exclusive, Shared}
use Rattle.nf_words.specs.declared.history.Ticket.{Ticket}

-- ---- rows

-- numbers are given from 1 on
pub record AreCounters (meta : MetaRow) : Type 0 where
  pub users : 1 ≤ meta.next_user
  pub groups : 1 ≤ meta.next_group
  pub nodes : 1 ≤ meta.next_node
  pub shares : 1 ≤ meta.next_share
  pub blobs : 1 ≤ meta.next_blob

-- the root of a user
abbrev pub root_of_user : Tables → ℕ → ℕ
root_of_user t user = option_map_or (λ row. row.root) (user_row t.users user) 0

-- what a node is inside is a folder of the same owner; what is inside none is its owner's root, or in the trash of a user, with its item
abbrev pub IsPlaceSound : Tables → NodeRow → Place → Type 0
IsPlaceSound t row Root = row.id ≡ root_of_user t row.owner
IsPlaceSound t row (Inside folder) = (is_folder t.nodes folder ≡ true) × (owner_of t.nodes folder ≡ row.owner)
IsPlaceSound t row Trash = (is_some (user_row t.users row.owner) ≡ true) × (is_some (item_row t.items row.id) ≡ true)

-- a node that is there and in no folder: where climbs end
pub record IsTop (rows : List NodeRow) (top : ℕ) : Type 0 where
  pub row : NodeRow
  pub there : node_row rows top ≡ Some row
  pub ends : folder_of row.place ≡ None

-- a node's number was given, and it leads to a top in at most `MAX_DEPTH` steps; a folder has no content
pub record IsNodeSound (t : Tables) (row : NodeRow) : Type 0 where
  pub some : 1 ≤ row.id
  pub given : row.id < t.meta.next_node
  pub changed : row.changed ≤ t.meta.last
  pub pieces : All (IsPieceSound t) row.content
  pub folder : is_folder_kind row.kind ≡ true → row.content ≡ []
  pub place : IsPlaceSound t row row.place
  pub steps : ℕ
  pub shallow : steps ≤ count_of limit.Depth
  pub top : ℕ
  pub climbs : climb t.nodes steps row.id ≡ Some top
  pub ends : IsTop t.nodes top

-- a user's root is there: a folder of the user's name and with place Root
pub record HasRoot (t : Tables) (user : UserRow) : Type 0 where
  pub row : NodeRow
  pub there : node_row t.nodes user.root ≡ Some row
  pub place : row.place ≡ Root
  pub folder : is_folder_kind row.kind ≡ true
  pub owner : row.owner ≡ user.id
  pub name : row.name ≡ user.name

-- two nodes of one folder have different names
abbrev pub AreApart : NodeRow → NodeRow → Type 0
AreApart a b = (folder : ℕ) → a.place ≡ Inside folder → b.place ≡ Inside folder → a.name ≢ b.name

pub record AreSound (t : Tables) : Type 0 where
  pub counters : AreCounters t.meta
  pub rising : AllPairs (λ (a b : NodeRow). a.id < b.id) t.nodes
  pub nodes : All (IsNodeSound t) t.nodes
  pub names : AllPairs AreApart t.nodes
  pub roots : All (HasRoot t) t.users
  pub users_given : All (λ (row : UserRow). row.id < t.meta.next_user) t.users
  pub members_there : All (λ (row : MemberRow). is_some (user_row t.users row.user) ≡ true) t.members
  pub groups_given : All (λ (row : GroupRow). row.id < t.meta.next_group) t.groups
  pub few_nodes : length t.nodes ≤ count_of limit.Nodes
  pub few_pieces : stored_pieces t ≤ count_of limit.Pieces
  pub others : AreOthersSound t

-- ---- tickets

-- a node's number was given, and as long as the node is there it is that user's
pub record IsOwn (t : Tables) (user node : ℕ) : Type 0 where
  pub given : node < t.meta.next_node
  pub owner : (row : NodeRow) → node_row t.nodes node ≡ Some row → row.owner ≡ user

-- the share is there, and is a link to that node
pub record IsLinkTo (t : Tables) (share node : ℕ) : Type 0 where
  pub row : ShareRow
  pub there : share_row t.shares share ≡ Some row
  pub link : is_link_kind row.kind ≡ true
  pub leads : row.node ≡ node

-- who stores by no mount owns what is stored over; and who stores by a link does so by the mount of what that is of
abbrev pub MayStoreBy : Tables → Seeker → Option ℕ → ℕ → Type 0
MayStoreBy t (seeker.User user) None node = IsOwn t user node
MayStoreBy t (seeker.User user) (Some mount) node = Unit {0}
MayStoreBy t (seeker.Link share) None node = ⊥
MayStoreBy t (seeker.Link share) (Some mount) node = IsLinkTo t share mount

abbrev pub MayStoreAt : Tables → By → ℕ → Type 0
MayStoreAt t by node = MayStoreBy t by.seeker by.mount node

-- what is sent is in blobs whose numbers were given; what is stored is stored by an owner and isn't too long; nor is a chunk, and its number is one of a chunk
abbrev pub IsGoalSound : Tables → Goal → Type 0
IsGoalSound t (Serve content) = All (IsPieceSound t) content
IsGoalSound t (Store by key length) = (length ≤ MAX_BODY) × MayStoreAt t by (node_of_key key)
IsGoalSound t (Chunk user dir number length) = (length ≤ MAX_BODY) × ((1 ≤ number) × (number ≤ MAX_PIECES))

-- a node that is sent is held beside others who read it, and what is stored over alone; for a chunk nothing is
abbrev pub HoldsFor : Goal → Option Hold → Type 0
HoldsFor (Serve content) hold = (node : ℕ) × (hold ≡ Some (record { key = Node node; mode = Shared }))
HoldsFor (Store by key length) hold = hold ≡ Some (record { key = key; mode = Exclusive })
HoldsFor (Chunk user dir number length) hold = hold ≡ None

-- what is stored over is present, or its name is free in a folder that is
abbrev pub IsStorable : Tables → Goal → Type 0
IsStorable t (Serve content) = Unit {0}
IsStorable t (Store by key length) = IsHeld t key × LeadsToRoot t.nodes (node_of_key key)
IsStorable t (Chunk user dir number length) = Unit {0}

pub record IsTicketSound (t : Tables) (ticket : Ticket) : Type 0 where
  pub goal : IsGoalSound t ticket.goal
  pub hold : HoldsFor ticket.goal ticket.hold
  pub held : IfSome ticket.hold (λ hold. IsHeld t hold.key)
  pub present : IfSome ticket.hold (λ hold. LeadsToRoot t.nodes (node_of_key hold.key))

-- ---- states

pub record IsSound (s : State) : Type 0 where
  pub rows : AreSound s.tables
  pub seen : s.tables.meta.last ≤ s.seen
  pub seats : AllPairs (λ (a b : Ticket). a.seat ≢ b.seat) s.tickets
  pub tickets : All (IsTicketSound s.tables) s.tickets
  pub apart : AllPairs (λ (a b : Ticket). AreApartHolds a.hold b.hold) s.tickets
