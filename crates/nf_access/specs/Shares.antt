-- Shares: who receives one, and the chain of shares that it stands on.
use Rattle.std.specs.Prelude.{ℕ, zero, suc, Bool, true, false, not, ◌&&◌, ◌==◌, bytes_eq, nat_lt, min, List, [], ◌∷◌, find, Option, Some, None, option_map, option_and_then, unwrap_or, bit_and, bit_or, if◌then◌else◌}
use Rattle.nf_base.specs.Perms.{bit_of, has}
use Rattle.nf_base.specs.declared.perms.Act.TheVariants as act
use Rattle.nf_base.specs.declared.rows.MemberRow.{MemberRow}
use Rattle.nf_base.specs.declared.rows.NodeKind.{NodeKind}
use Rattle.nf_base.specs.declared.rows.NodeKind.TheVariants as node
use Rattle.nf_base.specs.declared.rows.NodeRow.{NodeRow}
use Rattle.nf_base.specs.declared.rows.ShareRow.{ShareRow}
use Rattle.nf_base.specs.declared.rows.ShareKind.{ShareKind}
use Rattle.nf_base.specs.declared.rows.ShareKind.TheVariants as kind
use Rattle.nf_defs.specs.People.{is_member_of}
use Rattle.nf_base.specs.declared.limits.TheConstants.{MAX_CHAIN}
use Rattle.nf_defs.specs.Tables.{Tables}
use Rattle.nf_defs.specs.Tree.{is_under}
use Rattle.nf_defs.specs.declared.Seeker.{Seeker}
use Rattle.nf_defs.specs.declared.Seeker.TheVariants as seeker

-- the rows that access by shares rests on
pub record Ground : Type 0 where
  pub members : List MemberRow
  pub nodes : List NodeRow
  pub shares : List ShareRow

abbrev pub ground_of : Tables → Ground
ground_of t = record { members = t.members; nodes = t.nodes; shares = t.shares }

-- the row of a share
abbrev pub share_row : List ShareRow → ℕ → Option ShareRow
share_row shares id = find (λ row. row.id == id) shares

-- ---- permissions

-- all that a share of a file or a folder may allow: of a file neither create nor delete
abbrev pub most_of_node : NodeKind → ℕ
most_of_node node.File = 19
most_of_node node.Folder = 31

-- and all that one for such seekers may: a link isn't passed on
abbrev pub most_of_share : ShareKind → ℕ
most_of_share (kind.User user) = 31
most_of_share (kind.Group group) = 31
most_of_share (kind.Link token) = 15

-- the permissions of a share for which some are asked: of these what it may allow, and read always
abbrev pub perms_of_share : NodeKind → ShareKind → ℕ → ℕ
perms_of_share of to wanted = bit_or (bit_and wanted (bit_and (most_of_node of) (most_of_share to))) (bit_of act.Read)

-- ---- links

-- the share is the link of that token
abbrev pub is_link : List ℕ → ShareKind → Bool
is_link token (kind.User user) = false
is_link token (kind.Group group) = false
is_link token (kind.Link own) = bytes_eq own token

-- the row of the link of that token
abbrev pub link_row : List ShareRow → List ℕ → Option ShareRow
link_row shares token = find (λ row. is_link token row.kind) shares

-- a link, whatever its token is
abbrev pub is_link_kind : ShareKind → Bool
is_link_kind (kind.User user) = false
is_link_kind (kind.Group group) = false
is_link_kind (kind.Link token) = true

-- ---- receiving

-- a share names a user by itself or by a group
abbrev pub names : List MemberRow → ShareKind → ℕ → Bool
names members (kind.User named) user = named == user
names members (kind.Group group) user = is_member_of members group user
names members (kind.Link token) user = false

-- a user receives what names it, but nothing of its own; a link receives its own share
abbrev pub receives : List MemberRow → Seeker → ShareRow → Bool
receives members (seeker.User user) share = names members share.kind user && not (share.owner == user)
receives members (seeker.Link id) share = share.id == id

-- ---- chains, written from the share up to its first ancestor

-- the chain of a share, from the chains of the shares above
abbrev pub chain_up : ShareRow → Option ℕ → (ℕ → Option (List ShareRow)) → Option (List ShareRow)
chain_up share None above = if share.initiator == share.owner then Some (share ∷ []) else None
chain_up share (Some parent) above = option_map (λ up. share ∷ up) (above parent)

-- the chain of a share, where it has at most so many shares
unfoldable pub chain_within : ℕ → List ShareRow → ℕ → Option (List ShareRow)
chain_within zero shares id = None
chain_within (suc k) shares id = option_and_then (λ row. chain_up row row.parent (chain_within k shares)) (share_row shares id)

-- the chain of a share; no chain has more than `MAX_CHAIN` shares
unfoldable pub chain_of : List ShareRow → ℕ → List ShareRow
chain_of shares id = unwrap_or (chain_within MAX_CHAIN shares id) []

-- a share may follow its parent: the parent may be passed on, to whoever made the share, and has the share's node under its own
abbrev pub follows : Ground → ShareRow → ShareRow → Bool
follows g parent share =
    has parent.perms act.Share && receives g.members (seeker.User share.initiator) parent && is_under g.nodes share.node parent.node

-- a chain stands: none of its shares is ended, and each may follow the one above it
abbrev pub stands : Ground → List ShareRow → Bool
stands g [] = false
stands g (share ∷ []) = not share.ended
stands g (share ∷ parent ∷ up) = not share.ended && follows g parent share && stands g (parent ∷ up)

-- what every share of a chain allows
abbrev pub mask_of : List ShareRow → ℕ
mask_of [] = 0
mask_of (share ∷ []) = share.perms
mask_of (share ∷ parent ∷ up) = bit_and share.perms (mask_of (parent ∷ up))

-- before an end moment, where there is one
abbrev pub is_before : ℕ → Option ℕ → Bool
is_before now None = true
is_before now (Some end) = nat_lt now end

abbrev pub earlier : Option ℕ → Option ℕ → Option ℕ
earlier None b = b
earlier (Some a) None = Some a
earlier (Some a) (Some b) = Some (min a b)

-- the least end moment of a chain
abbrev pub end_of : List ShareRow → Option ℕ
end_of [] = None
end_of (share ∷ up) = earlier share.until (end_of up)
