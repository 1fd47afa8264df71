-- What MOVE and COPY change, and that they change nothing else.
use Rattle.std.specs.Prelude.{◌≡◌, ◌≢◌, ◌⊎◌, ℕ, zero, suc, ◌+◌, ◌<◌, ◌≤◌, Bool, false, List, [], ◌∷◌, length, Option, None, Some, IsOk, option_map, slice_get}
use Rattle.std.specs.Option.{option_map_or}
use Rattle.nf_base.specs.declared.rows.NodeRow.{NodeRow}
use Rattle.nf_base.specs.declared.rows.Place.TheVariants.{Inside}
use Rattle.nf_defs.specs.Prelude.{node_row, owner_of, parent_of, relinked, Tables, walk_of}
use Rattle.nf_laws.specs.Access.{LeadsBy}
use Rattle.nf_laws.specs.Acts.{HaveLeft, IsUnderOne, LeadsToKeyBy, AreVersionsFewer, AreVersionsLeft}
use Rattle.nf_laws.specs.Tree.{Under}
use Rattle.nf_words.specs.Prelude.{answer_to, Call, call_of, IsSound, last_name, MayAsk, mount_of, State, step, way_of}
use Rattle.nf_words.specs.declared.answer.LockKey.TheVariants.{Slot}
use Rattle.nf_words.specs.declared.history.Event.TheVariants.{Begin}
use Rattle.nf_words.specs.declared.request.Request.{Request}
use Rattle.nf_words.specs.declared.request.Spot.{Spot}
use Rattle.nf_words.specs.declared.request.Transfer.{Transfer}
use Rattle.nf_words.specs.declared.request.Wanted.TheVariants.{Copy, Move}
use Rattle.nf_words.specs.declared.request.Words.{Words}

-- ---- what is transferred, and where to

-- the target's path leads to a name that is free in the folder, or to what is there in it and is replaced
abbrev pub LeadsToTarget : Call → Spot → ℕ → Option ℕ → Type 0
LeadsToTarget call target folder None = LeadsToKeyBy call target (mount_of call target) (Slot folder (last_name target))
LeadsToTarget call target folder (Some replaced) =
    LeadsBy call target (mount_of call target) replaced × (parent_of call.state.tables.nodes replaced ≡ Some folder)

-- the source's path leads to the node
pub record IsTransferOf (call : Call) (source target : Spot) (transfer : Transfer) : Type 0 where
  pub from : LeadsBy call source (mount_of call source) transfer.node
  pub to : LeadsToTarget call target transfer.folder transfer.replaced

-- what is replaced, if anything is
abbrev pub replaced_by : Transfer → List ℕ
replaced_by transfer = option_map_or (λ node. node ∷ []) transfer.replaced []

-- ---- MOVE

-- the node is in the folder and under the name, and all under it is as it was; what was replaced left its place. Every other node is as
-- it was, and of the meta row the moment alone is another
pub record IsMoved (before after : Tables) (now : ℕ) (transfer : Transfer) (name : List ℕ) : Type 0 where
  pub itself : node_row after.nodes transfer.node ≡ option_map (relinked transfer.folder name) (node_row before.nodes transfer.node)
  pub below : (node : ℕ) → Under before.nodes transfer.node node → node ≢ transfer.node → node_row after.nodes node ≡ node_row before.nodes node
  pub tops : List ℕ
  pub left : HaveLeft before after now (replaced_by transfer) tops
  pub others : (node : ℕ) → node ≢ transfer.node → (IsUnderOne before.nodes (replaced_by transfer) node → ⊥)
      → (IsUnderOne before.nodes tops node → ⊥) → node_row after.nodes node ≡ node_row before.nodes node
  pub versions : AreVersionsLeft before after
  pub rest : after ≡ record before {
    meta = record before.meta { last = now };
    nodes = after.nodes;
    shares = after.shares;
    versions = after.versions;
    items = after.items;
  }

-- ---- COPY, and MOVE to another owner

-- the k-th copy is in the folder of the transfer, and under its name, for the first; and for each later one in the copy of the
-- folder in which its node is, under the same name
abbrev pub IsPlacedCopy : Tables → Transfer → List ℕ → ℕ → NodeRow → NodeRow → Type 0
IsPlacedCopy t transfer name zero of copy = (copy.place ≡ Inside transfer.folder) × (copy.name ≡ name)
IsPlacedCopy t transfer name (suc k) of copy =
    (copy.name ≡ of.name)
    × ((folder at : ℕ) × (of.place ≡ Inside folder) × (slice_get (walk_of t.nodes transfer.node) at ≡ Some folder) × (at < suc k)
    × (copy.place ≡ Inside (t.meta.next_node + at)))

-- it has the kind and the content of the k-th node under the top, the k-th number from the next on, the folder's owner, and the
-- moment of the step
pub record IsCopyOf (t : Tables) (now : ℕ) (transfer : Transfer) (name : List ℕ) (k : ℕ) (copy : NodeRow) : Type 0 where
  pub node : ℕ
  pub of : NodeRow
  pub at_index : slice_get (walk_of t.nodes transfer.node) k ≡ Some node
  pub there : node_row t.nodes node ≡ Some of
  pub id : copy.id ≡ t.meta.next_node + k
  pub owner : copy.owner ≡ owner_of t.nodes transfer.folder
  pub kind : copy.kind ≡ of.kind
  pub content : copy.content ≡ of.content
  pub changed : copy.changed ≡ now
  pub placed : IsPlacedCopy t transfer name k of copy

-- there is a copy of each node under the top, and no other
pub record Mirrors (t : Tables) (now : ℕ) (transfer : Transfer) (name : List ℕ) (rows : List NodeRow) : Type 0 where
  pub all : length rows ≡ length (walk_of t.nodes transfer.node)
  pub each : (k : ℕ) (copy : NodeRow) → slice_get rows k ≡ Some copy → IsCopyOf t now transfer name k copy

-- the copies are there, and those nodes left their places. Every other node is as it was, and some versions may be gone. Of the meta row these alone are others: the
-- moment, and the next number of a node, which is as many more as there are copies
pub record AreCopied (before after : Tables) (now : ℕ) (transfer : Transfer) (name : List ℕ) (leave : List ℕ) : Type 0 where
  pub rows : List NodeRow
  pub mirrors : Mirrors before now transfer name rows
  pub there : (k : ℕ) (copy : NodeRow) → slice_get rows k ≡ Some copy → node_row after.nodes copy.id ≡ Some copy
  pub tops : List ℕ
  pub left : HaveLeft before after now leave tops
  pub others : (node : ℕ) → node < before.meta.next_node → (IsUnderOne before.nodes leave node → ⊥)
      → (IsUnderOne before.nodes tops node → ⊥) → node_row after.nodes node ≡ node_row before.nodes node
  pub versions : AreVersionsFewer before after
  pub rest : after ≡ record before {
    meta = record before.meta { next_node = before.meta.next_node + length rows; last = now };
    nodes = after.nodes;
    shares = after.shares;
    versions = after.versions;
    items = after.items;
  }

-- where what is moved stays its owner's, it is in the folder; else copies of it and of all under it are there, which are the folder's
-- owner's, and it left its place
abbrev pub IsCarried : Tables → Tables → ℕ → Transfer → List ℕ → Type 0
IsCarried before after now transfer name =
    ((owner_of before.nodes transfer.node ≡ owner_of before.nodes transfer.folder) × IsMoved before after now transfer name)
    ⊎ ((owner_of before.nodes transfer.node ≢ owner_of before.nodes transfer.folder)
    × AreCopied before after now transfer name (transfer.node ∷ replaced_by transfer))

-- of a path that isn't a mount's own
abbrev pub MovesKeep : Type 0
MovesKeep =
    (s : State) (seat now : ℕ) (words : Words) (request : Request) (source target : Spot) (overwrite : Bool) → IsSound s → s.seen ≤ now
    → MayAsk s seat (Begin words request) → request.wanted ≡ Move source target overwrite
    → (way_of (call_of s seat now words request) source).itself ≡ false → IsOk (answer_to s seat now (Begin words request))
    → (transfer : Transfer) × IsTransferOf (call_of s seat now words request) source target transfer
    × IsCarried s.tables (step s seat now (Begin words request)).tables now transfer (last_name target)

-- the source with all under it is as it was
abbrev pub CopiesMirror : Type 0
CopiesMirror =
    (s : State) (seat now : ℕ) (words : Words) (request : Request) (source target : Spot) (overwrite : Bool) → IsSound s → s.seen ≤ now
    → MayAsk s seat (Begin words request) → request.wanted ≡ Copy source target overwrite → IsOk (answer_to s seat now (Begin words request))
    → (transfer : Transfer) × IsTransferOf (call_of s seat now words request) source target transfer
    × AreCopied s.tables (step s seat now (Begin words request)).tables now transfer (last_name target) (replaced_by transfer)
    × ((node : ℕ) → Under s.tables.nodes transfer.node node
    → node_row (step s seat now (Begin words request)).tables.nodes node ≡ node_row s.tables.nodes node)
