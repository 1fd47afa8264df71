-- What is asked about shares: what it names, the rules of sharing, and what is told.
use Rattle.std.specs.Prelude.{ℕ, ◌+◌, ◌==◌, ◌%◌, ◌&&◌, ◌||◌, nat_le, nat_lt, not, Bool, true, false, List, [], ◌∷◌, find, filter, filter_map, length, map, Option, None, Some, is_none, is_some, option_map, option_and_then, unwrap_or, if◌then◌else◌}
use Rattle.std.specs.List.{list_any}
use Rattle.std.specs.Option.{option_map_or}
use Rattle.nf_access.specs.Making.{is_again, is_part, is_self_share, is_token_taken, passes_on}
use Rattle.nf_access.specs.Mounts.{ensured_all}
use Rattle.nf_access.specs.Shares.{chain_of, is_before, mask_of, perms_of_share, receives, share_row}
use Rattle.nf_base.specs.Perms.{bit_of}
use Rattle.nf_base.specs.declared.limits.TheConstants.{MAX_CHAIN}
use Rattle.nf_base.specs.declared.perms.Act.TheVariants as act
use Rattle.nf_base.specs.declared.rows.MemberRow.{MemberRow}
use Rattle.nf_base.specs.declared.rows.MountRow.{MountRow}
use Rattle.nf_base.specs.declared.rows.NodeKind.{NodeKind}
use Rattle.nf_base.specs.declared.rows.NodeKind.TheVariants.{File}
use Rattle.nf_base.specs.declared.rows.NodeRow.{NodeRow}
use Rattle.nf_base.specs.declared.rows.ShareKind.{ShareKind}
use Rattle.nf_base.specs.declared.rows.ShareKind.TheVariants as kind
use Rattle.nf_base.specs.declared.rows.ShareRow.{ShareRow}
use Rattle.nf_defs.specs.Prelude.{Access, group_named, group_row, is_root, members_of, node_row, owner_of, Tables, user_named, user_row}
use Rattle.nf_defs.specs.declared.Seeker.TheVariants.{User}
use Rattle.nf_words.specs.Calls.{asker_of, Call, seeker_of, Way, way_of}
use Rattle.nf_words.specs.Limits.{count_of, last_number, mount_limit}
use Rattle.nf_words.specs.Listing.{all_permissions}
use Rattle.nf_words.specs.Needed.{is_owner}
use Rattle.nf_words.specs.People.{are_named, is_taken, people_limit}
use Rattle.nf_words.specs.Places.{node_found}
use Rattle.nf_words.specs.Tokens.{link_token}
use Rattle.nf_words.specs.declared.answer.Denial.{Denial}
use Rattle.nf_words.specs.declared.answer.Denial.TheVariants as denial
use Rattle.nf_words.specs.declared.answer.Limit.{Limit}
use Rattle.nf_words.specs.declared.answer.Limit.TheVariants as limit
use Rattle.nf_words.specs.declared.answer.Breach.{Breach}
use Rattle.nf_words.specs.declared.answer.Breach.TheVariants as rule
use Rattle.nf_words.specs.declared.request.Offer.{Offer}
use Rattle.nf_words.specs.declared.request.Receiver.{Receiver}
use Rattle.nf_words.specs.declared.request.Receiver.TheVariants as receiver
use Rattle.nf_words.specs.declared.request.ShareAsk.{ShareAsk}
use Rattle.nf_words.specs.declared.request.ShareAsk.TheVariants as ask
use Rattle.nf_words.specs.declared.request.Sharee.{Sharee}
use Rattle.nf_words.specs.declared.request.Sharee.TheVariants as sharee
use Rattle.nf_words.specs.declared.request.Spot.{Spot}
use Rattle.nf_words.specs.declared.request.Until.{Until}
use Rattle.nf_words.specs.declared.request.Until.TheVariants as until
use Rattle.nf_words.specs.declared.request.Wanted.{Wanted}
use Rattle.nf_words.specs.declared.request.Wanted.TheVariants as wanted
use Rattle.nf_words.specs.declared.sharing.Recipient.{Recipient}
use Rattle.nf_words.specs.declared.sharing.Recipient.TheVariants as recipient
use Rattle.nf_words.specs.declared.sharing.ShareLine.{ShareLine}
use Rattle.nf_words.specs.Trash.{untrashed}
use Rattle.nf_words.specs.Reached.{unversioned}
use Rattle.nf_words.specs.Uploading.{upload_limit}

-- the midnight after one of the days from 1970-01-01 to 9998-12-31, in UTC
abbrev pub is_end_moment : ℕ → Bool
is_end_moment moment = nat_lt 0 moment && moment % 86400 == 0 && not (nat_lt 253370764800 moment)

-- ---- a share that is asked for

abbrev pub kind_of : List NodeRow → ℕ → NodeKind
kind_of rows node = option_map_or (λ row. row.kind) (node_row rows node) File

-- a link has that token
abbrev pub kind_to : List ℕ → Receiver → ShareKind
kind_to token (receiver.User user) = kind.User user
kind_to token (receiver.Group group) = kind.Group group
kind_to token receiver.Link = kind.Link token

-- the user or the group of that name, or whoever will know a link
abbrev pub receiver_named : Tables → Sharee → Option Receiver
receiver_named t (sharee.User name) = option_map receiver.User (user_named t.users name)
receiver_named t (sharee.Group name) = option_map receiver.Group (group_named t.groups name)
receiver_named t sharee.Link = Some receiver.Link

-- the permissions that are asked for where none are named: all, and of a link to read alone
abbrev pub usual_perms : Receiver → ℕ
usual_perms (receiver.User user) = all_permissions
usual_perms (receiver.Group group) = all_permissions
usual_perms receiver.Link = bit_of act.Read

-- the permissions of a new share of a node
abbrev pub perms_to : List NodeRow → List ℕ → ℕ → Option ℕ → Receiver → ℕ
perms_to rows token node perms to = perms_of_share (kind_of rows node) (kind_to token to) (unwrap_or perms (usual_perms to))

-- of a node that is there
abbrev pub offer_of : List NodeRow → List ℕ → Option ℕ → Option ℕ → Option ℕ → ℕ → Receiver → Offer
offer_of rows token mount perms until node to = record {
  node = node;
  mount = mount;
  to = to;
  perms = perms_to rows token node perms to;
  until = until;
}

abbrev pub offered_by : Call → Way → Option ℕ → Option ℕ → Option Receiver → Option Offer
offered_by call way perms until to =
    option_and_then (λ node. option_map (offer_of call.state.tables.nodes (link_token call.words) way.mount perms until node) to)
    (node_found way.place)

-- where its path leads, for whom it names
abbrev pub offered : Call → Spot → Sharee → Option ℕ → Option ℕ → Option Offer
offered call spot to perms until = offered_by call (way_of call spot) perms until (receiver_named call.state.tables to)

-- ---- the share that it stands on

-- what is the caller's own stands on none. Else it is the first share that the caller receives on the mount's node whose chain lets it be
-- passed on so
abbrev pub parent_for : Access → Call → Offer → Option ℕ
parent_for access call offer =
    option_and_then (λ mount. option_map (λ grant. grant.share) (find (passes_on call.now offer.perms) (access (seeker_of call) mount))) offer.mount

abbrev pub is_own : Call → Offer → Bool
is_own call offer = is_owner call.state.tables.nodes (seeker_of call) offer.node

abbrev pub parent_by : Access → Call → Offer → Option ℕ
parent_by access call offer = if is_own call offer then None else parent_for access call offer

-- the row of the new share
abbrev pub new_share : Access → Call → Offer → ShareRow
new_share access call offer = record {
  id = call.state.tables.meta.next_share;
  kind = kind_to (link_token call.words) offer.to;
  node = offer.node;
  owner = owner_of call.state.tables.nodes offer.node;
  initiator = asker_of call;
  parent = parent_by access call offer;
  perms = offer.perms;
  until = offer.until;
  ended = false;
  made = call.now;
}

-- ---- a share that is named

-- who made a share, and the owner of its node, may change and end it; who receives it may see it, too
abbrev pub is_steered_by : ℕ → ShareRow → Bool
is_steered_by user row = row.initiator == user || row.owner == user

abbrev pub is_seen_by : List MemberRow → ℕ → ShareRow → Bool
is_seen_by members user row = is_steered_by user row || receives members (User user) row

-- the share of that number, where it passes a test and isn't ended
abbrev pub live_share : (ShareRow → Bool) → List ShareRow → ℕ → Option ShareRow
live_share test shares share =
    option_and_then (λ row. if not row.ended && test row then Some row else None) (share_row shares share)

abbrev pub share_steered : Call → ℕ → Option ShareRow
share_steered call share = live_share (is_steered_by (asker_of call)) call.state.tables.shares share

abbrev pub share_shown : Call → ℕ → Option ShareRow
share_shown call share = live_share (is_seen_by call.state.tables.members (asker_of call)) call.state.tables.shares share

-- ---- what isn't there

abbrev pub unnamed : Call → ShareAsk → Option Denial
unnamed call (ask.New spot to perms until) = if is_some (receiver_named call.state.tables to) then None else Some denial.NotFound
unnamed call (ask.List spot with_me) = None
unnamed call (ask.Show share) = if is_some (share_shown call share) then None else Some denial.NotFound
unnamed call (ask.Set share perms until) = if is_some (share_steered call share) then None else Some denial.NotFound
unnamed call (ask.End share) = if is_some (share_steered call share) then None else Some denial.NotFound

abbrev pub unnamed_by : Call → Wanted → Option Denial
unnamed_by call (wanted.Share ask) = unnamed call ask
unnamed_by call (wanted.People ask) = if are_named call.state.tables ask then None else Some denial.NotFound
unnamed_by call (wanted.Trash ask) = untrashed call ask
unnamed_by call (wanted.Version ask) = unversioned call ask
unnamed_by call other = None

-- `not-found`: the user, the group, the share, the item of the trash or the file that is named
unfoldable pub named_rule : Access → Call → Option Denial
named_rule access call = unnamed_by call call.request.wanted

-- ---- the rules of sharing

-- a chain on such a share would be too long
abbrev pub is_long : List ShareRow → Option ℕ → Bool
is_long shares parent = option_map_or (λ parent. nat_le MAX_CHAIN (length (chain_of shares parent))) parent false

-- what is another's is passed on by a share that allows that
abbrev pub is_widened : Access → Call → Offer → Bool
is_widened access call offer = not (is_own call offer) && is_none (parent_for access call offer)

-- it would have ended by now
abbrev pub is_past : ℕ → Option ℕ → Bool
is_past now until = not (is_before now until)

-- the first rule that a new share would break
abbrev pub offer_fault : Access → Call → Offer → Option Breach
offer_fault access call offer =
    let t = call.state.tables in
    let row = new_share access call offer in
    if is_root t.nodes offer.node then Some rule.Root
    else if is_self_share row row.kind then Some rule.SelfShare
    else if is_past call.now offer.until then Some rule.Past
    else if list_any (is_again row call.now) t.shares then Some rule.Already
    else if is_widened access call offer then Some rule.Widened
    else if is_long t.shares row.parent then Some rule.Chain
    else if is_token_taken t.shares row.kind then Some rule.TokenTaken
    else None

-- the permissions that a share has once some are asked for
abbrev pub perms_after : Tables → Option ℕ → ShareRow → ℕ
perms_after t perms row = option_map_or (perms_of_share (kind_of t.nodes row.node) row.kind) perms row.perms

-- a share with those permissions would allow more than the chain that it stands on
abbrev pub is_wider : List ShareRow → Option ℕ → ℕ → Bool
is_wider shares parent perms = option_map_or (λ parent. not (is_part perms (mask_of (chain_of shares parent)))) parent false

-- the end that a share has once one is asked for
abbrev pub until_after : Until → Option ℕ → Option ℕ
until_after until.Keep old = old
until_after until.Never old = None
until_after (until.At moment) old = Some moment

-- it is tested where an end is asked for
abbrev pub is_set_past : ℕ → Until → Bool
is_set_past now until.Keep = false
is_set_past now until.Never = false
is_set_past now (until.At moment) = is_past now (Some moment)

-- and this where permissions are
abbrev pub set_fault : Tables → ℕ → Option ℕ → Until → ShareRow → Option Breach
set_fault t now perms until row =
    if is_set_past now until then Some rule.Past
    else if is_some perms && is_wider t.shares row.parent (perms_after t perms row) then Some rule.Widened
    else None

abbrev pub fault_of_ask : Access → Call → ShareAsk → Option Breach
fault_of_ask access call (ask.New spot to perms until) = option_and_then (offer_fault access call) (offered call spot to perms until)
fault_of_ask access call (ask.Set share perms until) =
    option_and_then (set_fault call.state.tables call.now perms until) (share_steered call share)
fault_of_ask access call other = None

abbrev pub fault_by : Access → Call → Wanted → Option Breach
fault_by access call (wanted.Share ask) = fault_of_ask access call ask
fault_by access call (wanted.People ask) = if is_taken call.state.tables ask then Some rule.Taken else None
fault_by access call other = None

-- `rule`: one of sharing, or a name or a token is taken
unfoldable pub sharing_rule : Access → Call → Option Denial
sharing_rule access call = option_map denial.Rule (fault_by access call call.request.wanted)

-- ---- the limits of shares and mounts

-- the users who are to have a mount by a share: the one that it names, or the members of the group but for the owner; a link has none
abbrev pub users_for : List MemberRow → ℕ → Receiver → List ℕ
users_for members owner (receiver.User user) = user ∷ []
users_for members owner (receiver.Group group) = filter (λ user. not (user == owner)) (members_of members group)
users_for members owner receiver.Link = []

-- the mounts that they get
abbrev pub mounts_for : Tables → Offer → List MountRow
mounts_for t offer =
    ensured_all t.users t.nodes (map (λ user. (user, offer.node)) (users_for t.members (owner_of t.nodes offer.node) offer.to)) t.mounts

abbrev pub offer_limit : Tables → Offer → Option Limit
offer_limit t offer =
    if nat_lt (count_of limit.Shares) (length t.shares + 1) || nat_lt last_number (t.meta.next_share + 1) then Some limit.Shares
    else mount_limit t.mounts (mounts_for t offer)

abbrev pub limit_of_ask : Call → ShareAsk → Option Limit
limit_of_ask call (ask.New spot to perms until) = option_and_then (offer_limit call.state.tables) (offered call spot to perms until)
limit_of_ask call other = None

abbrev pub limit_by : Call → Wanted → Option Limit
limit_by call (wanted.Share ask) = limit_of_ask call ask
limit_by call (wanted.People ask) = people_limit call.state.tables ask
limit_by call (wanted.Upload ask) = upload_limit call ask
limit_by call other = None

-- `limit`: there would be too many shares, mounts, users, groups, tokens, members or uploads, or too much in chunks
unfoldable pub room_rule : Access → Call → Option Denial
room_rule access call = option_map denial.Limit (limit_by call call.request.wanted)

-- ---- what is told of shares

abbrev pub recipient_of : Tables → ShareKind → Option Recipient
recipient_of t (kind.User user) = option_map (λ row. recipient.User row.name) (user_row t.users user)
recipient_of t (kind.Group group) = option_map (λ row. recipient.Group row.name) (group_row t.groups group)
recipient_of t (kind.Link token) = Some (recipient.Link token)

-- where the rows of those whom it names are there
abbrev pub share_line : Tables → ShareRow → Option ShareLine
share_line t row =
    option_and_then (λ to. option_and_then (λ owner. option_map (λ initiator. record {
      id = row.id;
      node = row.node;
      parent = row.parent;
      permissions = row.perms;
      until = row.until;
      to = to;
      owner = owner.name;
      initiator = initiator.name;
    }) (user_row t.users row.initiator)) (user_row t.users row.owner)) (recipient_of t row.kind)

-- it is of that node, if one is named
abbrev pub is_on : Option ℕ → ShareRow → Bool
is_on None row = true
is_on (Some node) row = row.node == node

-- a share that isn't ended is listed for who made it, and on a node for its owner, too; or else for who receives it
abbrev pub is_listed_for : List MemberRow → ℕ → Option ℕ → Bool → ShareRow → Bool
is_listed_for members user node with_me row =
    not row.ended && is_on node row
    && (if with_me then receives members (User user) row else if is_some node then is_steered_by user row else row.initiator == user)

abbrev pub share_lines : Tables → ℕ → Option ℕ → Bool → List ShareLine
share_lines t user node with_me = filter_map (share_line t) (filter (is_listed_for t.members user node with_me) t.shares)
