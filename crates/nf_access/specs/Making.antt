-- A share that is to be made, beside those that are there.
use Rattle.std.specs.Prelude.{ℕ, Bool, false, not, ◌&&◌, ◌||◌, ◌==◌, bit_and, is_some, List}
use Rattle.nf_access.specs.Access.{allows}
use Rattle.nf_access.specs.Shares.{is_before, link_row}
use Rattle.nf_base.specs.declared.perms.Act.TheVariants as act
use Rattle.nf_base.specs.declared.rows.ShareKind.{ShareKind}
use Rattle.nf_base.specs.declared.rows.ShareKind.TheVariants as kind
use Rattle.nf_base.specs.declared.rows.ShareRow.{ShareRow}
use Rattle.nf_defs.specs.declared.Grant.{Grant}

-- a user share names its initiator or its node's owner
abbrev pub is_self_share : ShareRow → ShareKind → Bool
is_self_share row (kind.User user) = user == row.initiator || user == row.owner
is_self_share row (kind.Group group) = false
is_self_share row (kind.Link token) = false

-- the kinds name one recipient; links never do
abbrev pub is_same_recipient : ShareKind → ShareKind → Bool
is_same_recipient (kind.User a) (kind.User b) = a == b
is_same_recipient (kind.Group a) (kind.Group b) = a == b
is_same_recipient a b = false

-- a share that is neither ended nor expired gives the same recipient the same node by the same initiator
abbrev pub is_again : ShareRow → ℕ → ShareRow → Bool
is_again row now other =
    not other.ended && is_before now other.until && other.node == row.node && other.initiator == row.initiator
    && is_same_recipient other.kind row.kind

-- there is a link of that token already
abbrev pub is_token_taken : List ShareRow → ShareKind → Bool
is_token_taken shares (kind.User user) = false
is_token_taken shares (kind.Group group) = false
is_token_taken shares (kind.Link token) = is_some (link_row shares token)

-- ---- passing on

-- all of these permissions are among those
abbrev pub is_part : ℕ → ℕ → Bool
is_part perms all = bit_and perms all == perms

-- by a grant what it is on may be shared, with those permissions
abbrev pub passes_on : ℕ → ℕ → Grant → Bool
passes_on now perms grant = allows now act.Share grant && is_part perms grant.mask
