-- What is known of a change that no rule refuses.
use Rattle.std.proofs.Common.{◌≡◌, ◌≢◌, ℕ, ◌+◌, ◌≤◌, ◌==◌, true, false, List, [], ◌∷◌, ◌++◌, ◌⊎◌, length, flat_map, refl, sym}
use Rattle.std.proofs.lemmas.List.{append-nil}
use Rattle.std.proofs.lemmas.List.Elements.{All-nil}
use Rattle.std.specs.Prelude.{None, Some, is_some}
use Rattle.std.specs.List.{All, AllPairs}
use Rattle.std.specs.Option.{option_map_or}
use Rattle.nf_base.specs.declared.content.Piece.{Piece}
use Rattle.nf_base.specs.declared.limits.TheConstants.{MAX_BODY, MAX_DEPTH, MAX_NODES, MAX_PIECES, MAX_STORED_PIECES}
use Rattle.nf_base.specs.declared.rows.ItemRow.{ItemRow}
use Rattle.nf_base.specs.declared.rows.NodeRow.{NodeRow}
use Rattle.nf_base.specs.declared.rows.Place.TheVariants.{Inside}
use Rattle.nf_base.specs.declared.changes.Change.{Change}
use Rattle.nf_base.specs.declared.rows.UploadRow.{UploadRow}
use Rattle.nf_base.specs.declared.rows.UserRow.{UserRow}
use Rattle.nf_defs.specs.Prelude.{child_of, content_of, is_folder, is_root, is_under, item_row, node_row, Tables, upload_key, walk_of}
use Rattle.nf_words.proofs.Fits.{IsOfVersion, KnownChange}
use Rattle.nf_words.proofs.Forgetting.{IsVersion, unsettled_there}
use Rattle.nf_words.specs.Changes.{Charged}
use Rattle.nf_retention.specs.declared.versions.Version.{Version}
use Rattle.nf_words.proofs.Ways.{HasRow}
use Rattle.nf_words.specs.Prelude.{abandons, beside, copies, crosses, crossing, deepest_in, discard, forgets, home_of, IsHeld, IsRequoted, IsUnmounted, last_number, LeadsToRoot, MayStoreAt, moves, name_back, node_of_key, pieces_in, purged_by, purges, settled_by, stored_pieces, unsettled, upload_row}
use Rattle.nf_words.specs.declared.answer.Allowed.{Allowed}
use Rattle.nf_words.specs.declared.answer.Allowed.TheVariants as allowed
use Rattle.nf_words.specs.declared.answer.By.{By}
use Rattle.nf_words.specs.declared.answer.Deed.{Deed}
use Rattle.nf_words.specs.declared.answer.Deed.TheVariants as deed
use Rattle.nf_words.specs.declared.answer.LockKey.{LockKey}
use Rattle.nf_words.specs.declared.request.Transfer.{Transfer}

-- what is sent is what a file has, or a version of it
pub record KnownServed (t : Tables) (node : ℕ) (content : List Piece) : Type 0 where
  pub no_folder : is_folder t.nodes node ≡ false
  pub of_node : (content ≡ content_of t.nodes node) ⊎ IsOfVersion t node content
  pub there : HasRow t.nodes node
  pub present : LeadsToRoot t.nodes node

pub record KnownGranted (t : Tables) (by : By) (key : LockKey) (length : ℕ) : Type 0 where
  pub short : length ≤ MAX_BODY
  pub held : IsHeld t key
  pub present : LeadsToRoot t.nodes (node_of_key key)
  pub storer : MayStoreAt t by (node_of_key key)

-- a chunk that may be sent
pub record KnownSent (number length : ℕ) : Type 0 where
  pub short : length ≤ MAX_BODY
  pub some : 1 ≤ number
  pub few : number ≤ MAX_PIECES

-- an upload that is there
abbrev pub IsOpen : Tables → ℕ → List ℕ → Type 0
IsOpen t user dir = is_some (upload_row t.uploads user dir) ≡ true

-- some that are there, each once
pub record KnownIdle (t : Tables) (rows : List UploadRow) : Type 0 where
  pub there : All (λ (row : UploadRow). upload_row t.uploads row.user row.dir ≡ Some row) rows
  pub once : AllPairs (λ (a b : UploadRow). upload_key a ≢ upload_key b) rows

-- ---- what leaves its place

-- a node that is put in the trash or goes for good: it is present, in a folder
pub record KnownLeaving (t : Tables) (row : NodeRow) : Type 0 where
  pub there : node_row t.nodes row.id ≡ Some row
  pub no_root : is_root t.nodes row.id ≡ false
  pub folder : ℕ
  pub inside : row.place ≡ Inside folder
  pub present : LeadsToRoot t.nodes row.id

-- a node that is in the trash as an item
abbrev pub IsItem : Tables → ℕ → Type 0
IsItem t node = is_some (item_row t.items node) ≡ true

-- items that go for good, each once
pub record KnownGoes (t : Tables) (nodes : List ℕ) : Type 0 where
  pub items : All (IsItem t) nodes
  pub once : AllPairs (λ (a b : ℕ). a ≢ b) nodes

-- what comes back: the node of an item, where it isn't too deep
pub record KnownRestore (t : Tables) (node folder : ℕ) (name : List ℕ) : Type 0 where
  pub item : ItemRow
  pub there : item_row t.items node ≡ Some item
  pub home : folder ≡ home_of t item
  pub named : name ≡ name_back t item
  pub deep : deepest_in t.nodes node folder ≤ MAX_DEPTH

-- ---- transfers

-- what is moved or copied and where to: no root, not over a root, neither inside the other, and not too deep
pub record KnownTransfer (t : Tables) (transfer : Transfer) (name : List ℕ) : Type 0 where
  pub source : HasRow t.nodes transfer.node
  pub no_root : is_root t.nodes transfer.node ≡ false
  pub present : LeadsToRoot t.nodes transfer.node
  pub in_folder : is_folder t.nodes transfer.folder ≡ true
  pub folder_present : LeadsToRoot t.nodes transfer.folder
  pub there : child_of t.nodes transfer.folder name ≡ transfer.replaced
  pub unmounted : IsUnmounted t transfer.folder name
  pub differs : option_map_or (λ node. node == transfer.node) transfer.replaced false ≡ false
  pub outside : is_under t.nodes transfer.folder transfer.node ≡ false
  pub apart : option_map_or (λ node. is_under t.nodes transfer.node node) transfer.replaced false ≡ false
  pub deep : deepest_in t.nodes transfer.node transfer.folder ≤ MAX_DEPTH

-- what is moved stays its owner's
pub record KnownMove (t : Tables) (transfer : Transfer) (name : List ℕ) : Type 0 where
  pub known : KnownTransfer t transfer name
  pub within : crosses t.nodes transfer ≡ false

pub record KnownCopies (t : Tables) (transfer : Transfer) (name : List ℕ) : Type 0 where
  pub known : KnownTransfer t transfer name
  pub nodes : length t.nodes + length (walk_of t.nodes transfer.node) ≤ MAX_NODES
  pub next_node : t.meta.next_node + length (walk_of t.nodes transfer.node) ≤ last_number
  pub pieces : stored_pieces t + pieces_in t.nodes (walk_of t.nodes transfer.node) ≤ MAX_STORED_PIECES
  pub next_blob : t.meta.next_blob ≤ last_number

-- what goes to another owner is copied, and then put in the trash of its own
pub record KnownCross (t : Tables) (transfer : Transfer) (name : List ℕ) : Type 0 where
  pub copies : KnownCopies t transfer name
  pub crosses : crosses t.nodes transfer ≡ true

-- ---- the deeds of a step

pub data KnownDeeds (t : Tables) (now : ℕ) : List Deed → Type 0 where
  -- items go for good, if there are any
  by_going : (nodes : List ℕ) → KnownGoes t nodes → KnownDeeds t now (purges nodes)
  -- DELETE
  by_leaving : (row : NodeRow) → KnownLeaving t row → KnownDeeds t now (discard t now row ∷ beside t now row)
  -- an item comes back, and others go
  by_restoring : (node folder : ℕ) (name : List ℕ) (gone : List ℕ) → KnownRestore t node folder name → KnownGoes t gone
      → All (λ (other : ℕ). node ≢ other) gone → KnownDeeds t now (deed.Restore node folder name ∷ purges gone)
  -- another quota
  by_requoting : (row : UserRow) (gone : List ℕ) → IsRequoted t row → KnownGoes t gone → KnownDeeds t now (deed.Requote row ∷ purges gone)
  -- MOVE, COPY, and MOVE to another owner
  by_moving : (transfer : Transfer) (name : List ℕ) → KnownMove t transfer name → KnownDeeds t now (moves t now name transfer)
  by_copying : (transfer : Transfer) (name : List ℕ) → KnownCopies t transfer name → KnownDeeds t now (copies t now name transfer)
  by_crossing : (transfer : Transfer) (name : List ℕ) → KnownCross t transfer name → KnownDeeds t now (crossing t now name transfer)
  -- an upload becomes the content of a file, and one goes
  by_joining : (changes : List Change) (user : ℕ) (dir : List ℕ) → KnownChange t now changes None → IsOpen t user dir
      → KnownDeeds t now (deed.Store changes ∷ deed.Abandon user dir ∷ [])
  by_abandoning : (user : ℕ) (dir : List ℕ) → IsOpen t user dir → KnownDeeds t now (deed.Abandon user dir ∷ [])
  -- a sweep
  by_sweeping : (nodes : List ℕ) (rows : List UploadRow) → KnownGoes t nodes → KnownIdle t rows → KnownDeeds t now (purges nodes ++ abandons rows)

-- deeds that are known, and then versions that go
pub record KnownSettled (t : Tables) (now : ℕ) (deeds : List Deed) : Type 0 where
  pub first : List Deed
  pub gone : List Version
  pub are : deeds ≡ first ++ forgets gone
  pub known : KnownDeeds t now first
  pub there : All (IsVersion t) gone

-- where none goes
pub alone : (t : Tables) (now : ℕ) (deeds : List Deed) → KnownDeeds t now deeds → KnownSettled t now deeds
alone t now deeds known = record { first = deeds; gone = []; are = sym (append-nil deeds); known = known; there = All-nil (IsVersion t) }

-- where an owner's do that are beyond their bound then
pub settled_known : (t : Tables) (now : ℕ) (to : Charged) (deeds : List Deed) → KnownDeeds t now deeds → KnownSettled t now (settled_by t to deeds)
settled_known t now to deeds known = record {
  first = deeds;
  gone = unsettled t to (flat_map purged_by deeds);
  are = refl;
  known = known;
  there = unsettled_there t to (flat_map purged_by deeds);
}

abbrev pub Known : Tables → ℕ → Allowed → Type 0
Known t now (allowed.Get node content) = KnownServed t node content
Known t now (allowed.List listing) = Unit {0}
Known t now (allowed.Put by key length) = KnownGranted t by key length
Known t now (allowed.Chunk user dir number length) = KnownSent number length
Known t now (allowed.Change changes blob report) = KnownChange t now changes blob
Known t now (allowed.Deeds deeds report) = KnownSettled t now deeds
Known t now allowed.Close = Unit {0}
