-- The people of the site as contracts see them.
use Rattle.std.specs.Prelude.{ℕ, ◌+◌, ◌≤◌, List, ◌++◌, map, length}
use Rattle.nf_base.specs.declared.rows.Row.{Row}
use Rattle.nf_base.specs.declared.rows.Row.TheVariants.{User, Token, Group, Member}
use Rattle.nf_base.specs.declared.rows.UserRow.{UserRow}
use Rattle.nf_base.specs.declared.rows.TokenRow.{TokenRow}
use Rattle.nf_base.specs.declared.rows.GroupRow.{GroupRow}
use Rattle.nf_base.specs.declared.rows.MemberRow.{MemberRow}
use Rattle.nf_defs.specs.Prelude.{group_key, IsRising, member_key, token_key, user_key}
use Rattle.nf_people.specs.Names.{AreNamedApart}
use Rattle.nf_people.specs.declared.people.PeopleCounts.{PeopleCounts}

-- how many of each kind fit without more memory
pub record Room : Type 0 where
  pub users : ℕ
  pub tokens : ℕ
  pub groups : ℕ
  pub members : ℕ

-- the rows of each kind, and the room
pub record PeopleValue : Type 0 where
  pub users : List UserRow
  pub tokens : List TokenRow
  pub groups : List GroupRow
  pub members : List MemberRow
  pub room : Room

-- the rows of each kind rise by their keys, and no two users or groups have the same name
pub record ArePeople (users : List UserRow) (tokens : List TokenRow) (groups : List GroupRow) (members : List MemberRow) : Type 0 where
  pub users_rise : IsRising user_key users
  pub tokens_rise : IsRising token_key tokens
  pub groups_rise : IsRising group_key groups
  pub members_rise : IsRising member_key members
  pub user_names : AreNamedApart (λ (row : UserRow). row.name) users
  pub group_names : AreNamedApart (λ (row : GroupRow). row.name) groups

-- one more of a kind fits
abbrev pub FitsUser : PeopleValue → Type 0
FitsUser p = length p.users + 1 ≤ p.room.users

abbrev pub FitsToken : PeopleValue → Type 0
FitsToken p = length p.tokens + 1 ≤ p.room.tokens

abbrev pub FitsGroup : PeopleValue → Type 0
FitsGroup p = length p.groups + 1 ≤ p.room.groups

abbrev pub FitsMember : PeopleValue → Type 0
FitsMember p = length p.members + 1 ≤ p.room.members

-- so many more of each kind fit
pub record HasRoom (p : PeopleValue) (added : PeopleCounts) : Type 0 where
  pub users : length p.users + added.users ≤ p.room.users
  pub tokens : length p.tokens + added.tokens ≤ p.room.tokens
  pub groups : length p.groups + added.groups ≤ p.room.groups
  pub members : length p.members + added.members ≤ p.room.members

-- the rows that are there fit
abbrev pub IsHeld : PeopleValue → Type 0
IsHeld p = HasRoom p (record { users = 0; tokens = 0; groups = 0; members = 0 })

-- the rows of people, by rising kind and key
abbrev pub rows_of_people : PeopleValue → List Row
rows_of_people p = map User p.users ++ (map Token p.tokens ++ (map Group p.groups ++ map Member p.members))
