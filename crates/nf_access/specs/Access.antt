-- Access: by the grants of standing chains, and as a derivation.
use Rattle.std.specs.Prelude.{◌≡◌, ℕ, Bool, false, ◌&&◌, ◌==◌, List, [], ◌∷◌, filter_map, Option, Some, None, IsTrue, if◌then◌else◌, All}
use Rattle.nf_base.specs.Perms.{has}
use Rattle.nf_base.specs.declared.perms.Act.{Act}
use Rattle.nf_base.specs.declared.perms.Act.TheVariants as act
use Rattle.nf_base.specs.declared.rows.NodeRow.{NodeRow}
use Rattle.nf_base.specs.declared.rows.ShareRow.{ShareRow}
use Rattle.nf_access.specs.Shares.{Ground, share_row, receives, chain_of, stands, mask_of, end_of, is_before}
use Rattle.nf_defs.specs.Access.{Access}
use Rattle.nf_defs.specs.Tree.{parent_of}
use Rattle.nf_defs.specs.declared.Grant.{Grant}
use Rattle.nf_defs.specs.declared.Seeker.{Seeker}
use Rattle.nf_defs.specs.declared.Seeker.TheVariants as seeker

-- ---- grants

-- what a chain gives by its share of that number, where it stands
abbrev pub grant_by : Ground → ℕ → List ShareRow → Option Grant
grant_by g id chain = if stands g chain then Some (record { share = id; mask = mask_of chain; until = end_of chain }) else None

-- what a share gives a seeker on a node
abbrev pub grant_of : Ground → Seeker → ℕ → ShareRow → Option Grant
grant_of g who node share =
    if share.node == node && receives g.members who share then grant_by g share.id (chain_of g.shares share.id) else None

-- the grants of the shares that the seeker receives on the node and whose chains stand, in the order of the shares
abbrev pub by_chains : Ground → Access
by_chains g who node = filter_map (grant_of g who node) g.shares

-- ---- access, read by grants

-- a grant hasn't ended
abbrev pub is_open : ℕ → Grant → Bool
is_open now grant = is_before now grant.until

-- a grant lets its seeker do the act, as long as it hasn't ended
abbrev pub allows : ℕ → Act → Grant → Bool
allows now act grant = is_open now grant && has grant.mask act

-- ---- access, as a derivation

-- a node under a top: the top itself, or a node inside one under it
pub data Under (rows : List NodeRow) (top : ℕ) : ℕ → Type 0 where
  itself : Under rows top top
  inside : (node parent : ℕ) → parent_of rows node ≡ Some parent → Under rows top parent → Under rows top node

-- a chain, from a share up to its first ancestor: each share has the next as its parent, and the last was made by its node's owner
abbrev pub IsChain : List ShareRow → List ShareRow → Type 0
IsChain shares [] = ⊥
IsChain shares (share ∷ []) = (share_row shares share.id ≡ Some share) × (share.parent ≡ None) × (share.initiator ≡ share.owner)
IsChain shares (share ∷ parent ∷ up) =
    (share_row shares share.id ≡ Some share) × (share.parent ≡ Some parent.id) × IsChain shares (parent ∷ up)

-- the share may follow its parent
pub record Follows (g : Ground) (parent share : ShareRow) : Type 0 where
  pub passed_on : IsTrue (has parent.perms act.Share)
  pub received : IsTrue (receives g.members (seeker.User share.initiator) parent)
  pub under : Under g.nodes parent.node share.node

abbrev pub Stands : Ground → List ShareRow → Type 0
Stands g [] = Unit {0}
Stands g (share ∷ []) = share.ended ≡ false
Stands g (share ∷ parent ∷ up) = (share.ended ≡ false) × Follows g parent share × Stands g (parent ∷ up)

-- it stands, and no share of it has reached its end moment
pub record IsLive (g : Ground) (now : ℕ) (chain : List ShareRow) : Type 0 where
  pub stands : Stands g chain
  pub before : All (λ (share : ShareRow). IsTrue (is_before now share.until)) chain

-- a share that the seeker receives on the node has a live chain
pub record Reaches (g : Ground) (now : ℕ) (who : Seeker) (node : ℕ) (share : ShareRow) (up : List ShareRow) : Type 0 where
  pub on_node : share.node ≡ node
  pub received : IsTrue (receives g.members who share)
  pub chain : IsChain g.shares (share ∷ up)
  pub live : IsLive g now (share ∷ up)

-- and each link of it lets the next do the act
pub record Allows (g : Ground) (now : ℕ) (who : Seeker) (node : ℕ) (act : Act) (share : ShareRow) (up : List ShareRow) : Type 0 where
  pub reaches : Reaches g now who node share up
  pub allowed : All (λ (link : ShareRow). IsTrue (has link.perms act)) (share ∷ up)
