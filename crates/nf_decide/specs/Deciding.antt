-- Tests that answer exactly as rules do.
use Rattle.std.specs.Option.{option_or}
use Rattle.std.specs.Prelude.{◌≡◌, ◌≢◌, true, List, [], ◌∷◌, Option, None, Some, IsSome, IfSome, option_map, Result, Ok, Err}
use Rattle.nf_access.specs.Shares.{ground_of}
use Rattle.nf_base.specs.declared.rows.ItemRow.{ItemRow}
use Rattle.nf_defs.specs.Access.{Access}
use Rattle.nf_defs.specs.Prelude.{item_row, node_row, Tables}
use Rattle.nf_reach.specs.Asking.{Asking}
use Rattle.nf_words.specs.Homes.{home_of, name_back}
use Rattle.nf_words.specs.Prelude.{asked_by, assembled_excess, Call, earlier_rules, exceeded, exists_rule, first_that_holds, is_mount_asked, key_in_way, later_rules, limited, overwrite_rule, places_of, root_of, Rule, seeker_of, sharing_rule, target_rule, touches, transfer_of, upload_rule, ways_of}
use Rattle.nf_words.specs.declared.answer.Denial.{Denial}
use Rattle.nf_words.specs.declared.answer.Denial.TheVariants as denial
use Rattle.nf_words.specs.declared.answer.Excess.{Excess}
use Rattle.nf_words.specs.declared.answer.Limit.{Limit}
use Rattle.nf_words.specs.declared.answer.LockKey.{LockKey}
use Rattle.nf_words.specs.declared.answer.LockKey.TheVariants.{Slot}
use Rattle.nf_words.specs.Sharing.{limit_by, offered}
use Rattle.nf_words.specs.declared.request.Making.{Making}
use Rattle.nf_words.specs.declared.request.Making.TheVariants as making
use Rattle.nf_words.specs.declared.request.Offer.{Offer}
use Rattle.nf_words.specs.declared.request.Places.{Places}
use Rattle.nf_words.specs.declared.request.ShareAsk.{ShareAsk}
use Rattle.nf_words.specs.declared.request.ShareAsk.TheVariants as ask
use Rattle.nf_words.specs.declared.request.Wanted.{Wanted}
use Rattle.nf_words.specs.declared.request.Wanted.TheVariants as wanted

-- the test refuses as the rule does, and passes where the rule is silent
abbrev pub Follows : {A : Type 0} → (Call → Option Denial) → Call → Result A Denial → Type 0
Follows rule call (Ok _) = rule call ≡ None
Follows rule call (Err refusal) = rule call ≡ Some refusal

-- the rules of what the paths lead to, once they are reached and allowed, of sharing and of uploads
abbrev pub place_rules : List Rule
place_rules = exists_rule ∷ target_rule ∷ overwrite_rule ∷ sharing_rule ∷ upload_rule ∷ []

abbrev pub place_refusal : Access → Call → Option Denial
place_refusal access call = first_that_holds place_rules access call

-- by the rules before those that take memory
abbrev pub early_refusal : Access → Call → Option Denial
early_refusal access call = first_that_holds earlier_rules access call

-- by those that take memory, which come behind the others
abbrev pub late_refusal : Access → Call → Option Denial
late_refusal access call = first_that_holds later_rules access call

-- that of the locks, by where the paths were found to lead
abbrev pub locked_at : Call → Places → Option Denial
locked_at call places =
    option_map denial.Locked
    (key_in_way call.state.tables.nodes call.seat (touches call.state.tables (asked_by call) places) call.state.tickets)

-- the name that an item takes where it comes back
abbrev pub slot_of : Tables → ItemRow → LockKey
slot_of t item = Slot (home_of t item) (name_back t item)

-- the one that what comes back takes, if something does
abbrev pub slot_back : Tables → Making → Option LockKey
slot_back t (making.Restored item) = option_map (slot_of t) (item_row t.items item)
slot_back t other = None

-- the limit that is passed, by where the paths were found to lead: of nodes and pieces, or else of shares, mounts and people
abbrev pub passed_at : Call → Places → Option Limit
passed_at call places = option_or (limited call.state.tables places (asked_by call).makes) (limit_by call call.request.wanted)

-- by how much the step would pass a quota
abbrev pub excess_in : Call → Places → Option Excess
excess_in call places =
    option_or (exceeded call.state.tables places (asked_by call).makes) (assembled_excess call call.request.wanted)

-- who asks, with the rows that access goes by
abbrev pub asking_of : Call → Asking
asking_of call = record {
  base = ground_of call.state.tables;
  mounts = call.state.tables.mounts;
  seeker = seeker_of call;
  root = root_of call;
  moment = call.now;
}

-- the path of the target has a name
abbrev pub IsTargetNamed : Call → Type 0
IsTargetNamed call = IfSome (asked_by call).target (λ spot. spot.path ≢ [])

-- what is moved or copied has a name to be put under, and so has a mount that is renamed
pub record IsNamed (call : Call) : Type 0 where
  pub moved : IsSome (transfer_of call.state.tables.nodes (places_of call)) → IsTargetNamed call
  pub renamed : is_mount_asked (asked_by call) (ways_of call).source ≡ true → IsTargetNamed call

-- ---- shares

-- the share that is asked for
abbrev pub offer_by : Call → ShareAsk → Option Offer
offer_by call (ask.New spot to perms until) = offered call spot to perms until
offer_by call other = None

abbrev pub offer_in : Call → Wanted → Option Offer
offer_in call (wanted.Share ask) = offer_by call ask
offer_in call other = None

-- its node is there
abbrev pub IsThere : Tables → Option Offer → Type 0
IsThere t offer = IfSome offer (λ offer. IsSome (node_row t.nodes offer.node))
