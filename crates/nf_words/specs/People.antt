-- What is asked about users and groups: what it names, its rules, and what it changes.
use Rattle.std.specs.Prelude.{ℕ, ◌+◌, ◌==◌, ◌&&◌, ◌||◌, nat_lt, not, Bool, true, false, List, [], ◌∷◌, filter, length, map, Option, Some, None, is_some, option_and_then, option_map, if◌then◌else◌}
use Rattle.std.specs.Option.{option_map_or}
use Rattle.nf_access.specs.Mounts.{ensured_all}
use Rattle.nf_base.specs.declared.changes.Change.{Change}
use Rattle.nf_base.specs.declared.changes.Change.TheVariants.{Put, Drop}
use Rattle.nf_base.specs.declared.changes.RowKey.TheVariants as keys
use Rattle.nf_base.specs.declared.rows.MemberRow.{MemberRow}
use Rattle.nf_base.specs.declared.rows.MountRow.{MountRow}
use Rattle.nf_base.specs.declared.rows.NodeKind.TheVariants.{Folder}
use Rattle.nf_base.specs.declared.rows.NodeRow.{NodeRow}
use Rattle.nf_base.specs.declared.rows.Place.TheVariants.{Root}
use Rattle.nf_base.specs.declared.rows.Row.TheVariants as rows
use Rattle.nf_base.specs.declared.rows.ShareKind.{ShareKind}
use Rattle.nf_base.specs.declared.rows.ShareKind.TheVariants as kind
use Rattle.nf_base.specs.declared.rows.ShareRow.{ShareRow}
use Rattle.nf_base.specs.declared.rows.UserRow.{UserRow}
use Rattle.nf_defs.specs.Prelude.{group_named, holder_of, is_member_of, Tables, user_named, user_row}
use Rattle.nf_words.specs.Limits.{count_of, last_number, last_short, mount_limit}
use Rattle.nf_words.specs.declared.answer.Limit.{Limit}
use Rattle.nf_words.specs.declared.answer.Limit.TheVariants as limit
use Rattle.nf_words.specs.declared.request.PeopleAsk.{PeopleAsk}
use Rattle.nf_words.specs.declared.request.PeopleAsk.TheVariants as ask

-- ---- what is named

-- the row of a user in a group, by their names
abbrev pub membership : Tables → List ℕ → List ℕ → Option MemberRow
membership t user group =
    option_and_then (λ group. option_map (λ user. record { group = group; user = user }) (user_named t.users user)) (group_named t.groups group)

-- the row of the user of that name
abbrev pub row_named : Tables → List ℕ → Option UserRow
row_named t name = option_and_then (user_row t.users) (user_named t.users name)

-- the users and groups that are named are there
abbrev pub are_named : Tables → PeopleAsk → Bool
are_named t (ask.NewUser name token quota) = true
are_named t (ask.NewGroup name) = true
are_named t (ask.AddMember user group) = is_some (membership t user group)
are_named t (ask.DropMember user group) = is_some (membership t user group)
are_named t (ask.SetQuota user quota) = is_some (user_named t.users user)
are_named t (ask.AddToken user token) = is_some (user_named t.users user)

-- ---- what is taken

-- a new name is another's already, or a new token is
abbrev pub is_taken : Tables → PeopleAsk → Bool
is_taken t (ask.NewUser name token quota) = is_some (user_named t.users name) || is_some (holder_of t.tokens token)
is_taken t (ask.NewGroup name) = is_some (group_named t.groups name)
is_taken t (ask.AddMember user group) = false
is_taken t (ask.DropMember user group) = false
is_taken t (ask.SetQuota user quota) = false
is_taken t (ask.AddToken user token) = is_some (holder_of t.tokens token)

-- ---- members

abbrev pub is_member : Tables → MemberRow → Bool
is_member t row = is_member_of t.members row.group row.user

-- the share is for the group
abbrev pub is_for_group : ℕ → ShareKind → Bool
is_for_group group (kind.User user) = false
is_for_group group (kind.Group other) = other == group
is_for_group group (kind.Link token) = false

-- a share of the group that isn't ended, of what isn't the user's own
abbrev pub is_joined : MemberRow → ShareRow → Bool
is_joined row share = not share.ended && is_for_group row.group share.kind && not (share.owner == row.user)

-- the mounts that a new member gets: one for each such share
abbrev pub mounts_joined : Tables → MemberRow → List MountRow
mounts_joined t row =
    ensured_all t.users t.nodes (map (λ share. (row.user, share.node)) (filter (is_joined row) t.shares)) t.mounts

-- ---- limits

abbrev pub are_many_users : Tables → Bool
are_many_users t = nat_lt (count_of limit.Users) (length t.users + 1) || nat_lt last_short (t.meta.next_user + 1)

abbrev pub are_many_groups : Tables → Bool
are_many_groups t = nat_lt (count_of limit.Groups) (length t.groups + 1) || nat_lt last_short (t.meta.next_group + 1)

abbrev pub are_many_tokens : Tables → Bool
are_many_tokens t = nat_lt (count_of limit.Tokens) (length t.tokens + 1)

abbrev pub are_many_nodes : Tables → Bool
are_many_nodes t = nat_lt (count_of limit.Nodes) (length t.nodes + 1) || nat_lt last_number (t.meta.next_node + 1)

abbrev pub new_user_limit : Tables → Option Limit
new_user_limit t =
    if are_many_users t then Some limit.Users
    else if are_many_tokens t then Some limit.Tokens
    else if are_many_nodes t then Some limit.Nodes
    else None

-- a member is one more where it is none yet, and so are its mounts
abbrev pub join_limit : Tables → MemberRow → Option Limit
join_limit t row =
    if is_member t row then None
    else if nat_lt (count_of limit.Members) (length t.members + 1) then Some limit.Members
    else mount_limit t.mounts (mounts_joined t row)

abbrev pub people_limit : Tables → PeopleAsk → Option Limit
people_limit t (ask.NewUser name token quota) = new_user_limit t
people_limit t (ask.NewGroup name) = if are_many_groups t then Some limit.Groups else None
people_limit t (ask.AddMember user group) = option_and_then (join_limit t) (membership t user group)
people_limit t (ask.DropMember user group) = None
people_limit t (ask.SetQuota user quota) = None
people_limit t (ask.AddToken user token) = if are_many_tokens t then Some limit.Tokens else None

-- ---- what is changed

-- a new user, and its root
abbrev pub new_user : Tables → List ℕ → ℕ → UserRow
new_user t name quota = record { id = t.meta.next_user; name = name; quota = quota; root = t.meta.next_node }

abbrev pub new_root : Tables → ℕ → List ℕ → NodeRow
new_root t now name = record {
  id = t.meta.next_node;
  owner = t.meta.next_user;
  place = Root;
  name = name;
  kind = Folder;
  content = [];
  changed = now;
}

-- rows of mounts are put
abbrev pub put_mounts : List MountRow → List Change
put_mounts mounts = map (λ row. Put (rows.Mount row)) mounts

abbrev pub user_made : Tables → ℕ → List ℕ → List ℕ → ℕ → List Change
user_made t now name token quota =
    Put (rows.User (new_user t name quota))
    ∷ Put (rows.Node (new_root t now name))
    ∷ Put (rows.Token (record { digest = token; user = t.meta.next_user }))
    ∷ []

-- who is a member already, or is none, stays so
abbrev pub joined_by : Tables → MemberRow → List Change
joined_by t row = if is_member t row then [] else Put (rows.Member row) ∷ put_mounts (mounts_joined t row)

abbrev pub left_by : Tables → MemberRow → List Change
left_by t row = if is_member t row then Drop (keys.Member row.group row.user) ∷ [] else []

abbrev pub people_changed : Tables → ℕ → PeopleAsk → List Change
people_changed t now (ask.NewUser name token quota) = user_made t now name token quota
people_changed t now (ask.NewGroup name) = Put (rows.Group (record { id = t.meta.next_group; name = name })) ∷ []
people_changed t now (ask.AddMember user group) = option_map_or (joined_by t) (membership t user group) []
people_changed t now (ask.DropMember user group) = option_map_or (left_by t) (membership t user group) []
people_changed t now (ask.SetQuota user quota) = []
people_changed t now (ask.AddToken user token) =
    option_map_or (λ user. Put (rows.Token (record { digest = token; user = user })) ∷ []) (user_named t.users user) []
