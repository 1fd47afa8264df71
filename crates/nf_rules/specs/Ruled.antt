-- What the rules say of tables.
use Rattle.std.specs.Prelude.{◌≡◌, ◌≢◌, ℕ, ◌<◌, ◌≤◌, All, List, true, length}
use Rattle.std.specs.List.{AllPairs}
use Rattle.nf_base.specs.declared.limits.TheConstants.{MAX_GROUPS, MAX_MEMBERS, MAX_QUOTA, MAX_TOKENS, MAX_USERS}
use Rattle.nf_base.specs.declared.rows.UserRow.{UserRow}
use Rattle.nf_base.specs.declared.rows.TokenRow.{TokenRow}
use Rattle.nf_base.specs.declared.rows.GroupRow.{GroupRow}
use Rattle.nf_base.specs.declared.rows.MemberRow.{MemberRow}
use Rattle.nf_base.specs.declared.rows.NodeRow.{NodeRow}
use Rattle.nf_base.specs.declared.rows.MountRow.{MountRow}
use Rattle.nf_base.specs.declared.rows.ItemRow.{ItemRow}
use Rattle.nf_base.specs.declared.rows.ShareKind.TheVariants as to
use Rattle.nf_base.specs.declared.rows.ShareRow.{ShareRow}
use Rattle.nf_defs.specs.Prelude.{AreRising, Tables}
use Rattle.nf_retention.specs.Budget.{trash_bound, versions_bound}
use Rattle.nf_words.specs.Charges.{charge_of, quota_of}
use Rattle.nf_words.specs.Sound.{AreSound}
use Rattle.nf_rules.specs.Rules.{are_share_names_there, are_share_numbers, held_bytes, is_from_kept, is_group, is_share_kept, is_user, trash_bytes}

-- the number was given, where that is the next
pub record IsGiven (next id : ℕ) : Type 0 where
  pub first : 1 ≤ id
  pub below : id < next

-- a user's number and its root's were given, and its quota isn't beyond the greatest
pub record IsUserRuled (t : Tables) (row : UserRow) : Type 0 where
  pub id : IsGiven t.meta.next_user row.id
  pub root : IsGiven t.meta.next_node row.root
  pub quota : row.quota ≤ MAX_QUOTA

-- a token's user was given and is there
pub record IsTokenRuled (t : Tables) (row : TokenRow) : Type 0 where
  pub given : IsGiven t.meta.next_user row.user
  pub user : is_user t row.user ≡ true

-- a group's number was given
pub record IsGroupRuled (t : Tables) (row : GroupRow) : Type 0 where
  pub id : IsGiven t.meta.next_group row.id

-- a member's group and user were given and are there
pub record IsMemberRuled (t : Tables) (row : MemberRow) : Type 0 where
  pub given_group : IsGiven t.meta.next_group row.group
  pub given_user : IsGiven t.meta.next_user row.user
  pub group : is_group t row.group ≡ true
  pub user : is_user t row.user ≡ true

-- a share keeps the rules of its numbers, of what it names, and of shares
pub record IsShareRuled (t : Tables) (row : ShareRow) : Type 0 where
  pub numbers : are_share_numbers t.meta row ≡ true
  pub names : are_share_names_there t row ≡ true
  pub kept : is_share_kept t row ≡ true

-- two links have different tokens
abbrev pub AreTokensApart : ShareRow → ShareRow → Type 0
AreTokensApart a b = (token : List ℕ) → a.kind ≡ to.Link token → b.kind ≢ to.Link token

-- a mount's user and node were given
pub record IsMountRuled (t : Tables) (row : MountRow) : Type 0 where
  pub user : IsGiven t.meta.next_user row.user
  pub node : IsGiven t.meta.next_node row.node

-- an item's node and owner were given, and so was the folder that it was in, which is one of the owner's where it is there
pub record IsItemRuled (t : Tables) (row : ItemRow) : Type 0 where
  pub node : IsGiven t.meta.next_node row.node
  pub owner : IsGiven t.meta.next_user row.owner
  pub from : IsGiven t.meta.next_node row.from
  pub kept : is_from_kept t row ≡ true

-- the versions of each user's files are within their bound
abbrev pub AreSettled : Tables → Type 0
AreSettled t = (user : ℕ) → held_bytes t user ≤ versions_bound (quota_of t user) (charge_of t user)

-- each user's trash is within its bound
abbrev pub AreTrashesBounded : Tables → Type 0
AreTrashesBounded t = (user : ℕ) → trash_bytes t user ≤ trash_bound (quota_of t user)

-- the tables of rows that break no rule, but for the bounds of versions and of trashes
pub record AreOrdered (t : Tables) : Type 0 where
  pub sound : AreSound t
  pub rising : AreRising t
  pub owners : All (λ (row : NodeRow). is_user t row.owner ≡ true) t.nodes
  pub users : All (IsUserRuled t) t.users
  pub tokens : All (IsTokenRuled t) t.tokens
  pub groups : All (IsGroupRuled t) t.groups
  pub members : All (IsMemberRuled t) t.members
  pub shares : All (IsShareRuled t) t.shares
  pub mounts : All (IsMountRuled t) t.mounts
  pub items : All (IsItemRuled t) t.items
  pub user_names : AllPairs (λ (a b : UserRow). a.name ≢ b.name) t.users
  pub group_names : AllPairs (λ (a b : GroupRow). a.name ≢ b.name) t.groups
  pub tokens_apart : AllPairs AreTokensApart t.shares
  pub few_users : length t.users ≤ MAX_USERS
  pub few_groups : length t.groups ≤ MAX_GROUPS
  pub few_tokens : length t.tokens ≤ MAX_TOKENS
  pub few_members : length t.members ≤ MAX_MEMBERS

-- and the versions of each user's files are within their bound, and so is each user's trash
pub record AreRuled (t : Tables) : Type 0 where
  pub ordered : AreOrdered t
  pub settled : AreSettled t
  pub bounded : AreTrashesBounded t
