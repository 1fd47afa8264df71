-- What the words about access mean.
use Rattle.std.specs.Prelude.{◌≡◌, ◌↔◌, ◌≤◌, ℕ, Bool, true, false, List, [], ◌∷◌, ◌++◌, length, Option, None, Some, All, Contains, IsTrue}
use Rattle.std.specs.List.{list_any}
use Rattle.nf_access.specs.Access.{Allows, IsChain, Reaches, Stands, Under, allows, by_chains, is_open}
use Rattle.nf_access.specs.Broken.{IsFirstBroken, broken_in, first_received}
use Rattle.nf_access.specs.Shares.{Ground, chain_of, mask_of, share_row}
use Rattle.nf_access.specs.declared.Cause.{Cause}
use Rattle.nf_base.specs.declared.limits.TheConstants.{MAX_CHAIN}
use Rattle.nf_base.specs.Perms.{has}
use Rattle.nf_base.specs.declared.perms.Act.{Act}
use Rattle.nf_base.specs.declared.rows.NodeRow.{NodeRow}
use Rattle.nf_base.specs.declared.rows.ShareRow.{ShareRow}
use Rattle.nf_defs.specs.Tree.{is_under, parent_of}
use Rattle.nf_defs.specs.declared.Seeker.{Seeker}

-- each share is the one of its number and has a chain, which isn't too long, and no node is deeper than a walk goes
pub record IsBounded (g : Ground) : Type 0 where
  pub numbered : (share : ShareRow) → Contains g.shares share → share_row g.shares share.id ≡ Some share
  pub chained : (share : ShareRow) → Contains g.shares share → (up : List ShareRow) × IsChain g.shares (share ∷ up)
  pub short : (chain : List ShareRow) → IsChain g.shares chain → length chain ≤ MAX_CHAIN
  pub shallow : (node top : ℕ) → Under g.nodes top node → is_under g.nodes node top ≡ true

-- ---- grants are chains

-- a grant lets a seeker do an act on a node exactly where a chain of live shares does, each of which allows it
abbrev pub GrantsAreChains : Type 0
GrantsAreChains =
    (g : Ground) (now : ℕ) (who : Seeker) (act : Act) (node : ℕ) → IsBounded g
    → IsTrue (list_any (allows now act) (by_chains g who node)) ↔ ((share : ShareRow) × (up : List ShareRow) × Allows g now who node act share up)

-- a grant is open exactly where a chain of live shares reaches the seeker
abbrev pub ReachIsAChain : Type 0
ReachIsAChain =
    (g : Ground) (now : ℕ) (who : Seeker) (node : ℕ) → IsBounded g
    → IsTrue (list_any (is_open now) (by_chains g who node)) ↔ ((share : ShareRow) × (up : List ShareRow) × Reaches g now who node share up)

-- a chain's mask has an act exactly where each share of it does
abbrev pub MasksLackNothing : Type 0
MasksLackNothing =
    (share : ShareRow) (up : List ShareRow) (act : Act)
    → IsTrue (has (mask_of (share ∷ up)) act) ↔ All (λ (link : ShareRow). IsTrue (has link.perms act)) (share ∷ up)

-- where a chain stands, the nodes of its shares are under that of the first
abbrev pub ChainsStayUnder : Type 0
ChainsStayUnder =
    (g : Ground) (below : List ShareRow) (first : ShareRow) → Stands g (below ++ first ∷ [])
    → All (λ (share : ShareRow). Under g.nodes first.node share.node) (below ++ first ∷ [])

-- ---- what leaves them as they are

-- the nodes that were there have the folders that they had, and those were there too
pub record AreSamePlaces (rows rows' : List NodeRow) (Old : ℕ → Bool) : Type 0 where
  pub parents : (node : ℕ) → IsTrue (Old node) → parent_of rows' node ≡ parent_of rows node
  pub closed : (node parent : ℕ) → IsTrue (Old node) → parent_of rows node ≡ Some parent → IsTrue (Old parent)

-- grants stay where the nodes of shares have the folders that they had, and these theirs
abbrev pub GrantsStay : Type 0
GrantsStay =
    (g : Ground) (rows' : List NodeRow) (Old : ℕ → Bool) (who : Seeker) (node : ℕ) → AreSamePlaces g.nodes rows' Old
    → ((id : ℕ) (share : ShareRow) → share_row g.shares id ≡ Some share → IsTrue (Old share.node))
    → by_chains (record g { nodes = rows' }) who node ≡ by_chains g who node

-- ---- where access is broken

-- nothing that is granted lets the seeker do the act, or reaches it where no act is asked for
abbrev pub IsRefused : Ground → ℕ → Seeker → Option Act → ℕ → Type 0
IsRefused g now who None node = list_any (is_open now) (by_chains g who node) ≡ false
IsRefused g now who (Some act) node = list_any (allows now act) (by_chains g who node) ≡ false

-- a share of the chain is broken, and it and its cause are what is found first
pub record IsFound (g : Ground) (now : ℕ) (act : Option Act) (chain : List ShareRow) : Type 0 where
  pub link : ℕ
  pub cause : Cause
  pub found : broken_in g now act None chain ≡ Some (link, cause)
  pub first : IsFirstBroken g now act chain link cause

-- after a refusal, the first share on the node that the seeker receives has a broken link, and the first one from its owner's end is found
abbrev pub BrokenIsFound : Type 0
BrokenIsFound =
    (g : Ground) (now : ℕ) (who : Seeker) (act : Option Act) (node : ℕ) (share : ShareRow) → IsBounded g → IsRefused g now who act node
    → first_received g.members g.shares who node ≡ Some share → IsFound g now act (chain_of g.shares share.id)
