-- What the words about the tree of nodes mean.
use Rattle.std.specs.Prelude.{◌≡◌, ◌≢◌, ◌↔◌, ◌⊎◌, ℕ, ◌≤◌, All, AllPairs, Contains, true, false, List, [], None, Some, is_some, sum_by}
use Rattle.std.specs.Cmp.Lexicographic.{slice_cmp}
use Rattle.std.specs.Option.{option_map_or}
use Rattle.std.specs.Ordering.{nat_cmp}
use Rattle.std.specs.declared.cmp.Ordering.TheVariants.{Less}
use Rattle.nf_base.specs.declared.limits.TheConstants.{MAX_DEPTH}
use Rattle.nf_base.specs.FreeNames.{is_taken}
use Rattle.nf_base.specs.declared.rows.NodeRow.{NodeRow}
use Rattle.nf_base.specs.declared.rows.Place.TheVariants.{Root, Trash}
use Rattle.nf_base.specs.declared.rows.ShareRow.{ShareRow}
use Rattle.nf_defs.specs.Prelude.{child_of, children_of, climb, depth, is_present, is_rooted, is_under, node_row, owner_of, parent_of, Tables, taken_names, walk_of}
use Rattle.nf_defs.specs.declared.Found.TheVariants.{At}
use Rattle.nf_words.specs.Listing.{size_of}
use Rattle.nf_words.specs.Prelude.{access_of, AreSound, bytes_of, Call, found, root_of_user, token_rule, unlinked, unreached, way_of}
use Rattle.nf_words.specs.declared.request.Spot.{Spot}

-- a node under a top: the top itself, or a node inside one under it
pub data Under (rows : List NodeRow) (top : ℕ) : ℕ → Type 0 where
  itself : Under rows top top
  inside : (node parent : ℕ) → parent_of rows node ≡ Some parent → Under rows top parent → Under rows top node

-- the test says under exactly where the node is, so its bound of `MAX_DEPTH` folders cuts off none
abbrev pub UnderIsDerived : Type 0
UnderIsDerived =
    (t : Tables) (top : ℕ) → AreSound t
    → All (λ (row : NodeRow). (is_under t.nodes row.id top ≡ true) ↔ Under t.nodes top row.id) t.nodes

-- in the trash: the node is a top there, or under one of the same owner
pub record IsTrashed (rows : List NodeRow) (node : ℕ) : Type 0 where
  pub top : NodeRow
  pub there : node_row rows top.id ≡ Some top
  pub place : top.place ≡ Trash
  pub owner : top.owner ≡ owner_of rows node
  pub under : is_under rows node top.id ≡ true

-- every node is under a user's root, or in the trash
abbrev pub NodesArePresent : Type 0
NodesArePresent =
    (t : Tables) → AreSound t → All (λ (row : NodeRow). (is_present t.users t.nodes row.id ≡ true) ⊎ IsTrashed t.nodes row.id) t.nodes

-- a node is there exactly where it is present or in the trash, and never both; present, it is a root or under one, so these words are one
pub record PresentIsThere : Type 0 where
  pub there : (t : Tables) (node : ℕ) → AreSound t
      → (is_some (node_row t.nodes node) ≡ true) ↔ ((is_present t.users t.nodes node ≡ true) ⊎ IsTrashed t.nodes node)
  pub apart : (t : Tables) (node : ℕ) → AreSound t → IsTrashed t.nodes node → is_present t.users t.nodes node ≡ false
  pub rooted : (t : Tables) (node : ℕ) → AreSound t → is_rooted t.nodes node ≡ is_present t.users t.nodes node

-- a share that isn't ended is of a node that is present, so nothing in the trash is shared
abbrev pub SharedIsPresent : Type 0
SharedIsPresent =
    (t : Tables) → AreSound t
    → All (λ (share : ShareRow). share.ended ≡ false → is_present t.users t.nodes share.node ≡ true) t.shares

-- where a path is reached that leads to a node, the node is present: no path leads into the trash
abbrev pub PathsLeadToPresent : Type 0
PathsLeadToPresent =
    (call : Call) (spot : Spot) (node : ℕ) → AreSound call.state.tables → token_rule (access_of call.state) call ≡ None
    → unlinked call ≡ None → unreached (access_of call.state) call (way_of call spot) ≡ None → found call spot ≡ At node
    → is_present call.state.tables.users call.state.tables.nodes node ≡ true

-- a folder has a child of a name exactly where the name is among its taken ones
abbrev pub NamesAreTaken : Type 0
NamesAreTaken =
    (rows : List NodeRow) (folder : ℕ) (name : List ℕ) → is_some (child_of rows folder name) ≡ is_taken name (taken_names rows folder)

-- so many folders up from a node as it is deep is its owner's root, or one in its owner's trash; no node is deeper than `MAX_DEPTH`
pub record ClimbsByDepth (t : Tables) (row : NodeRow) : Type 0 where
  pub top : NodeRow
  pub there : node_row t.nodes top.id ≡ Some top
  pub owner : top.owner ≡ row.owner
  pub place : ((top.place ≡ Root) × (top.id ≡ root_of_user t row.owner)) ⊎ (top.place ≡ Trash)
  pub climbs : climb t.nodes (depth t.nodes row.id) row.id ≡ Some top.id
  pub shallow : depth t.nodes row.id ≤ MAX_DEPTH

abbrev pub DepthIsClimbed : Type 0
DepthIsClimbed = (t : Tables) → AreSound t → All (ClimbsByDepth t) t.nodes

-- no folder is under a node that is in it
abbrev pub NoRings : Type 0
NoRings = (t : Tables) (node parent : ℕ) → AreSound t → parent_of t.nodes node ≡ Some parent → is_under t.nodes parent node ≡ false

-- a walk from a top has just the nodes under it, and no node twice
pub record WalksTakeAllUnder : Type 0 where
  pub those : (t : Tables) (top node : ℕ) → AreSound t → Contains (walk_of t.nodes top) node ↔ Under t.nodes top node
  pub once : (t : Tables) (top : ℕ) → AreSound t → AllPairs (λ (a b : ℕ). a ≢ b) (walk_of t.nodes top)

-- the name of a node
abbrev pub name_of : List NodeRow → ℕ → List ℕ
name_of rows node = option_map_or (λ row. row.name) (node_row rows node) []

-- a folder's children are just the nodes in it, in the order of their names, and so each once
pub record ChildrenAreByName : Type 0 where
  pub those : (t : Tables) (folder node : ℕ) → AreSound t
      → Contains (children_of t.nodes folder) node ↔ (parent_of t.nodes node ≡ Some folder)
  pub sorted : (t : Tables) (folder : ℕ) → AreSound t
      → AllPairs (λ (a b : ℕ). slice_cmp nat_cmp (name_of t.nodes a) (name_of t.nodes b) ≡ Less) (children_of t.nodes folder)
  pub once : (t : Tables) (folder : ℕ) → AreSound t → AllPairs (λ (a b : ℕ). a ≢ b) (children_of t.nodes folder)

-- the size of a node is the sum of the bytes of all that is under it: `MAX_STORED_PIECES` pieces of `MAX_BODY` bytes are within what can be told
abbrev pub SizesAreSums : Type 0
SizesAreSums =
    (t : Tables) (node : ℕ) → AreSound t → size_of t.nodes node ≡ sum_by (bytes_of t.nodes) (walk_of t.nodes node)
