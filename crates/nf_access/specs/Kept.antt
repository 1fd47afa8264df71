-- What rows keep so that access by shares can be derived from them.
use Rattle.std.specs.Prelude.{◌≡◌, ◌≤◌, ℕ, List, None, Some, All, IsTrue, is_some}
use Rattle.nf_access.specs.Laws.{IsBounded}
use Rattle.nf_access.specs.Shares.{Ground, chain_within}
use Rattle.nf_base.specs.declared.limits.TheConstants.{MAX_CHAIN}
use Rattle.nf_base.specs.declared.limits.TheConstants.{MAX_DEPTH}
use Rattle.nf_base.specs.declared.rows.NodeRow.{NodeRow}
use Rattle.nf_base.specs.declared.rows.ShareRow.{ShareRow}
use Rattle.nf_defs.specs.Keys.{share_key}
use Rattle.nf_defs.specs.Rising.{IsRising}
use Rattle.nf_defs.specs.Tree.{climb, parent_of}

-- a node leads to one that is in no folder, in at most `MAX_DEPTH` steps
pub record IsShallow (rows : List NodeRow) (node : ℕ) : Type 0 where
  pub steps : ℕ
  pub few : steps ≤ MAX_DEPTH
  pub top : ℕ
  pub climbs : climb rows steps node ≡ Some top
  pub ends : parent_of rows top ≡ None

-- the shares are by rising number, each has a chain that isn't too long, and no node is too deep
pub record AreChained (g : Ground) : Type 0 where
  pub rising : IsRising share_key g.shares
  pub chained : All (λ (share : ShareRow). IsTrue (is_some (chain_within MAX_CHAIN g.shares share.id))) g.shares
  pub shallow : All (λ (row : NodeRow). IsShallow g.nodes row.id) g.nodes

-- rows that keep this are bounded
abbrev pub ChainedIsBounded : Type 0
ChainedIsBounded = (g : Ground) → AreChained g → IsBounded g
