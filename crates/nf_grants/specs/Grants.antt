-- What shares grant, and what is told of a refusal.
use Rattle.std.specs.Prelude.{◌≡◌, ℕ, Bool, Option, Some, None, option_and_then, if◌then◌else◌}
use Rattle.nf_access.specs.Access.{allows, grant_by}
use Rattle.nf_access.specs.Broken.{broken_in}
use Rattle.nf_access.specs.Making.{passes_on}
use Rattle.nf_access.specs.Shares.{Ground, chain_of, receives, share_row}
use Rattle.nf_base.specs.declared.perms.Act.{Act}
use Rattle.nf_base.specs.declared.rows.ShareRow.{ShareRow}
use Rattle.nf_defs.specs.declared.Grant.{Grant}
use Rattle.nf_defs.specs.declared.Seeker.{Seeker}
use Rattle.nf_grants.specs.declared.breaking.Broken.{Broken}
use Rattle.nf_grants.specs.declared.breaking.Broken.TheVariants.{NoShare, Link}
use Rattle.nf_grants.specs.declared.grants.Purpose.{Purpose}
use Rattle.nf_grants.specs.declared.grants.Purpose.TheVariants.{Allow, PassOn}

-- what a share gives by its chain, where it is there and passes the test
abbrev pub grant_where : (ShareRow → Bool) → Ground → ℕ → Option Grant
grant_where test g id =
    option_and_then (λ share. if test share then grant_by g share.id (chain_of g.shares share.id) else None) (share_row g.shares id)

-- what a share gives a seeker, where it is there and the seeker receives it
abbrev pub grant_to : Ground → Seeker → ℕ → Option Grant
grant_to g who id = grant_where (receives g.members who) g id

-- a grant serves a purpose
abbrev pub serves : ℕ → Purpose → Grant → Bool
serves now (Allow act) = allows now act
serves now (PassOn perms) = passes_on now perms

-- what is told of a refusal, from the first share that is received: that there is none, or the first broken link of its chain
abbrev pub Tells : Ground → ℕ → Option Act → Option ShareRow → Broken → Type 0
Tells g now act received NoShare = received ≡ None
Tells g now act received (Link link cause) =
    (share : ShareRow) × (received ≡ Some share) × (broken_in g now act None (chain_of g.shares share.id) ≡ Some (link, cause))
