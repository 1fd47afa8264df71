-- What is under each node, in bytes, and sums that say so.
use Rattle.std.specs.Prelude.{ℕ, ◌+◌, ◌-◌, ◌<◌, ◌≤◌, ◌^◌, ◌≡◌, List, length, true, All, AllPairs, None, Some, slice_index, slice_index_or, sum_by, if◌then◌else◌}
use Rattle.nf_base.specs.Content.{size_of}
use Rattle.nf_base.specs.declared.limits.TheConstants.{MAX_DEPTH}
use Rattle.nf_base.specs.declared.rows.NodeRow.{NodeRow}
use Rattle.nf_defs.specs.Tree.{climb, folder_of, is_under, is_under_within, node_row}

-- ---- rows

-- the numbers of the nodes rise
abbrev pub AreRisingNodes : List NodeRow → Type 0
AreRisingNodes rows = AllPairs (λ (older newer : NodeRow). older.id < newer.id) rows

-- a node leads up to a row in no folder, in at most so many steps
pub record LeadsUp (rows : List NodeRow) (most node : ℕ) : Type 0 where
  pub steps : ℕ
  pub few : steps ≤ most
  pub top : NodeRow
  pub climbs : climb rows steps node ≡ Some top.id
  pub there : node_row rows top.id ≡ Some top
  pub ends : folder_of top.place ≡ None

-- every node does, in as many steps as may be
abbrev pub LeadUp : List NodeRow → Type 0
LeadUp rows = All (λ (row : NodeRow). LeadsUp rows MAX_DEPTH row.id) rows

-- the bytes of a row that count for a node: those of what is under it
abbrev pub part : List NodeRow → ℕ → NodeRow → ℕ
part rows top row = if is_under rows row.id top then size_of row.content else 0

-- how many bytes what is under a node has together
unfoldable pub bytes_under : List NodeRow → ℕ → ℕ
bytes_under rows top = sum_by (part rows top) rows

-- ---- sums

-- a sum for each of these rows: how many bytes are under its node among all
pub record AreWeighed (all rows : List NodeRow) (sums : List ℕ) : Type 0 where
  pub long : length sums ≡ length rows
  pub each : (at : ℕ) (d : NodeRow) → at < length rows → slice_index sums at ≡ bytes_under all (slice_index_or rows at d).id

-- a sum for each row; no row has more bytes than can be told
pub record AreSums (rows : List NodeRow) (sums : List ℕ) : Type 0 where
  pub weighed : AreWeighed rows rows sums
  pub sized : All (λ (row : NodeRow). size_of row.content < 2 ^ 64) rows

-- ---- changes

-- so many bytes are in the place of others in the sums of a node and of those that are at most so many folders above it
pub record AreCarried (up : ℕ) (rows : List NodeRow) (node old new : ℕ) (before after : List ℕ) : Type 0 where
  pub long : length after ≡ length before
  pub each : (at : ℕ) (d : NodeRow) → at < length rows
      → slice_index after at ≡ (if is_under_within up rows node (slice_index_or rows at d).id then slice_index before at - old + new else slice_index before at)

-- these sums have the old bytes in them, and fit with the new ones
abbrev pub MayCarry : ℕ → List NodeRow → ℕ → ℕ → ℕ → List ℕ → Type 0
MayCarry up rows node old new sums =
    (at : ℕ) (d : NodeRow) → at < length rows → is_under_within up rows node (slice_index_or rows at d).id ≡ true
    → (old ≤ slice_index sums at) × (slice_index sums at + new < 2 ^ 128)

-- another row of the same node, in the same place, with so many bytes
pub record IsRefill (rows : List NodeRow) (at : ℕ) (row : NodeRow) (bytes : ℕ) : Type 0 where
  pub same : row.id ≡ (slice_index_or rows at row).id
  pub placed : row.place ≡ (slice_index_or rows at row).place
  pub filled : size_of row.content ≡ bytes

-- another row of the same node, with as many bytes, in no folder
pub record IsLifted (rows : List NodeRow) (at : ℕ) (row : NodeRow) : Type 0 where
  pub same : row.id ≡ (slice_index_or rows at row).id
  pub alone : folder_of row.place ≡ None
  pub filled : size_of row.content ≡ size_of (slice_index_or rows at row).content
