-- The first broken link of a chain.
use Rattle.std.specs.Prelude.{◌≡◌, ◌<◌, ◌++◌, true, false, ℕ, Bool, not, ◌&&◌, ◌==◌, List, [], ◌∷◌, find, Option, Some, None, option_map, if◌then◌else◌}
use Rattle.std.specs.Option.{option_or}
use Rattle.nf_base.specs.Perms.{has}
use Rattle.nf_base.specs.declared.perms.Act.{Act}
use Rattle.nf_base.specs.declared.perms.Act.TheVariants as acts
use Rattle.nf_base.specs.declared.rows.MemberRow.{MemberRow}
use Rattle.nf_base.specs.declared.rows.ShareRow.{ShareRow}
use Rattle.nf_access.specs.Access.{Under}
use Rattle.nf_access.specs.Shares.{Ground, receives, is_before}
use Rattle.nf_defs.specs.Tree.{is_under}
use Rattle.nf_access.specs.declared.Cause.{Cause}
use Rattle.nf_access.specs.declared.Cause.TheVariants.{Ended, Expired, NoReshare, NotMember, MovedOut, Narrowed}
use Rattle.nf_defs.specs.declared.Seeker.{Seeker}
use Rattle.nf_defs.specs.declared.Seeker.TheVariants as seeker

-- the share that a seeker receives on a node: the first, also where it is ended
abbrev pub first_received : List MemberRow → List ShareRow → Seeker → ℕ → Option ShareRow
first_received members shares who node = find (λ share. share.node == node && receives members who share) shares

-- what may be wrong with a share, in this order, where it is followed by another
abbrev pub passing_faults : Ground → ShareRow → Option ShareRow → List (Bool × Cause)
passing_faults g share None = []
passing_faults g share (Some next) =
    (not (has share.perms acts.Share), NoReshare)
    ∷ (not (receives g.members (seeker.User next.initiator) share), NotMember)
    ∷ (not (is_under g.nodes next.node share.node), MovedOut)
    ∷ []

-- where an act is asked for
abbrev pub act_faults : ShareRow → Option Act → List (Bool × Cause)
act_faults share None = []
act_faults share (Some act) = (not (has share.perms act), Narrowed) ∷ []

abbrev pub first_of : List (Bool × Cause) → Option Cause
first_of [] = None
first_of (fault ∷ faults) = if fault.0 then Some fault.1 else first_of faults

-- the first thing that is wrong with a share
abbrev pub cause_at : Ground → ℕ → Option Act → ShareRow → Option ShareRow → Option Cause
cause_at g now act share next =
    option_or (first_of ((share.ended, Ended) ∷ (not (is_before now share.until), Expired) ∷ []))
    (option_or (first_of (passing_faults g share next)) (first_of (act_faults share act)))

-- the first share of a chain, from its owner's end, with something wrong; next is the share that follows the chain
abbrev pub broken_in : Ground → ℕ → Option Act → Option ShareRow → List ShareRow → Option (ℕ × Cause)
broken_in g now act next [] = None
broken_in g now act next (share ∷ up) =
    option_or (broken_in g now act (Some share) up) (option_map (λ cause. (share.id, cause)) (cause_at g now act share next))

-- ---- as a derivation

-- what a cause says of a share, and of the share that follows it, if one does
abbrev pub IsBrokenBy : Ground → ℕ → Option Act → ShareRow → Option ShareRow → Cause → Type 0
IsBrokenBy g now act share next Ended = share.ended ≡ true
IsBrokenBy g now act share next Expired = is_before now share.until ≡ false
IsBrokenBy g now act share next NoReshare = (after : ShareRow) × (next ≡ Some after) × (has share.perms acts.Share ≡ false)
IsBrokenBy g now act share next NotMember =
    (after : ShareRow) × (next ≡ Some after) × (receives g.members (seeker.User after.initiator) share ≡ false)
IsBrokenBy g now act share next MovedOut = (after : ShareRow) × (next ≡ Some after) × (Under g.nodes share.node after.node → ⊥)
IsBrokenBy g now act share next Narrowed = (wanted : Act) × (act ≡ Some wanted) × (has share.perms wanted ≡ false)

-- the order in which causes are looked for
abbrev pub rank : Cause → ℕ
rank Ended = 0
rank Expired = 1
rank NoReshare = 2
rank NotMember = 3
rank MovedOut = 4
rank Narrowed = 5

-- no cause before that one holds
abbrev pub IsFirstCause : Ground → ℕ → Option Act → ShareRow → Option ShareRow → Cause → Type 0
IsFirstCause g now act share next cause =
    IsBrokenBy g now act share next cause × ((other : Cause) → rank other < rank cause → IsBrokenBy g now act share next other → ⊥)

-- no cause holds of a share, nor of those above it
abbrev pub AreUnbroken : Ground → ℕ → Option Act → Option ShareRow → List ShareRow → Type 0
AreUnbroken g now act next [] = Unit {0}
AreUnbroken g now act next (share ∷ up) =
    ((cause : Cause) → IsBrokenBy g now act share next cause → ⊥) × AreUnbroken g now act (Some share) up

-- the share that follows a place in a chain: the last of those below it
abbrev pub next_below : List ShareRow → Option ShareRow
next_below [] = None
next_below (share ∷ []) = Some share
next_below (share ∷ after ∷ below) = next_below (after ∷ below)

-- the chain, from the share that is received up to its first, has that link; the links above it are whole, and the cause is its first
pub record IsFirstBroken (g : Ground) (now : ℕ) (act : Option Act) (chain : List ShareRow) (link : ℕ) (cause : Cause) : Type 0 where
  pub below : List ShareRow
  pub share : ShareRow
  pub above : List ShareRow
  pub chain_is : chain ≡ below ++ share ∷ above
  pub number : share.id ≡ link
  pub whole : AreUnbroken g now act (Some share) above
  pub first : IsFirstCause g now act share (next_below below) cause
