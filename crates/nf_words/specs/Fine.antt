-- What a changed row keeps in the tables that it meets, by what becomes of it, whatever the act. The tables know its numbers already.
use Rattle.std.specs.Prelude.{◌≡◌, ◌≢◌, ◌⊎◌, List, ℕ, ◌+◌, ◌<◌, ◌≤◌, All, false, true, [], length, Option, None, Some, is_some}
use Rattle.nf_access.specs.Mounts.{mount_at, mount_row, root_folder}
use Rattle.nf_access.specs.Making.{is_token_taken}
use Rattle.nf_access.specs.Shares.{chain_of, share_row}
use Rattle.nf_base.specs.declared.limits.TheConstants.{MAX_CHAIN, MAX_DEPTH, MAX_GROUPS, MAX_MEMBERS, MAX_MOUNTS, MAX_NODES, MAX_PIECES, MAX_SHARES, MAX_STORED_PIECES, MAX_TOKENS, MAX_USERS, MAX_VERSIONS}
use Rattle.nf_base.specs.declared.changes.Change.{Change}
use Rattle.nf_base.specs.declared.changes.Change.TheVariants.{Put, Drop}
use Rattle.nf_base.specs.declared.changes.RowKey.TheVariants as keys
use Rattle.nf_base.specs.declared.rows.GroupRow.{GroupRow}
use Rattle.nf_base.specs.declared.rows.MemberRow.{MemberRow}
use Rattle.nf_base.specs.declared.rows.MountRow.{MountRow}
use Rattle.nf_base.specs.declared.rows.NodeRow.{NodeRow}
use Rattle.nf_base.specs.declared.rows.Place.TheVariants.{Inside, Root}
use Rattle.nf_base.specs.declared.rows.Row.TheVariants as rows
use Rattle.nf_base.specs.declared.rows.ShareRow.{ShareRow}
use Rattle.nf_base.specs.declared.rows.TokenRow.{TokenRow}
use Rattle.nf_base.specs.declared.rows.ChunkRow.{ChunkRow}
use Rattle.nf_base.specs.declared.rows.UploadRow.{UploadRow}
use Rattle.nf_base.specs.declared.rows.UserRow.{UserRow}
use Rattle.nf_base.specs.declared.rows.VersionRow.{VersionRow}
use Rattle.nf_defs.specs.Prelude.{child_of, depth, filled, group_named, group_row, holder_of, is_file, is_folder, is_folder_kind, is_member_of, is_root, node_row, owner_of, Tables, user_named, user_row}
use Rattle.nf_words.specs.Contents.{IsPieceSound, stored_pieces}
use Rattle.nf_words.specs.Others.{IsKindSound, IsOfNode}
use Rattle.nf_words.specs.Present.{LeadsToRoot}
use Rattle.nf_words.specs.Uploading.{pending_with}
use Rattle.nf_words.specs.Uploads.{upload_row, uploads_of}
use Rattle.nf_words.specs.Versions.{content_size}
use Rattle.nf_words.specs.declared.limits.TheConstants.{MAX_PENDING, MAX_UPLOADS}

-- where the folder is a user's root, no mount of the user has that name
abbrev pub IsUnmounted : Tables → ℕ → List ℕ → Type 0
IsUnmounted t folder name = is_root t.nodes folder ≡ true → mount_at t.mounts (owner_of t.nodes folder) name ≡ None

-- a new node: its number is above all others, also those of shares and mounts, and it is in a folder of its owner's that is present and
-- has no child of its name
pub record IsBorn (t : Tables) (row : NodeRow) : Type 0 where
  pub folder : ℕ
  pub place : row.place ≡ Inside folder
  pub in_folder : is_folder t.nodes folder ≡ true
  pub present : LeadsToRoot t.nodes folder
  pub owner : row.owner ≡ owner_of t.nodes folder
  pub free : child_of t.nodes folder row.name ≡ None
  pub unmounted : IsUnmounted t folder row.name
  pub newest : All (λ (old : NodeRow). old.id < row.id) t.nodes
  pub unshared : All (λ (share : ShareRow). share.node < row.id) t.shares
  pub unused : All (λ (mount : MountRow). mount.node < row.id) t.mounts
  pub given : row.id < t.meta.next_node
  pub changed : row.changed ≤ t.meta.last
  pub pieces : All (IsPieceSound t) row.content
  pub empty : is_folder_kind row.kind ≡ true → row.content ≡ []
  pub deep : depth t.nodes folder + 1 ≤ MAX_DEPTH
  pub few_nodes : length t.nodes + 1 ≤ MAX_NODES
  pub few_pieces : stored_pieces t + length row.content ≤ MAX_STORED_PIECES

-- a file that is present, with another content or another moment
pub record IsFilled (t : Tables) (row : NodeRow) : Type 0 where
  pub old : NodeRow
  pub there : node_row t.nodes row.id ≡ Some old
  pub file : is_folder_kind old.kind ≡ false
  pub present : LeadsToRoot t.nodes row.id
  pub same : row ≡ filled row.content row.changed old
  pub changed : row.changed ≤ t.meta.last
  pub pieces : All (IsPieceSound t) row.content
  pub few_pieces : (stored_pieces t + length row.content ≤ MAX_STORED_PIECES) ⊎ (row.content ≡ old.content)

-- a version of a file that is there, in the place of one of that moment or as one more
pub record IsNewVersion (t : Tables) (row : VersionRow) : Type 0 where
  pub file : is_file t.nodes row.node ≡ true
  pub some : row.content ≢ []
  pub pieces : All (IsPieceSound t) row.content
  pub few : length t.versions + 1 ≤ MAX_VERSIONS
  pub few_pieces : stored_pieces t + length row.content ≤ MAX_STORED_PIECES

-- a new upload of a user who is there and has room for it
pub record IsNewUpload (t : Tables) (row : UploadRow) : Type 0 where
  pub fresh : upload_row t.uploads row.user row.dir ≡ None
  pub user : is_some (user_row t.users row.user) ≡ true
  pub touched : row.touched ≤ t.meta.last
  pub few : length (uploads_of t.uploads row.user) + 1 ≤ MAX_UPLOADS

-- an upload that is there, of which a chunk was sent at another moment
pub record IsTouched (t : Tables) (row : UploadRow) : Type 0 where
  pub old : UploadRow
  pub there : upload_row t.uploads row.user row.dir ≡ Some old
  pub same : row ≡ record old { touched = row.touched }
  pub touched : row.touched ≤ t.meta.last
  pub other : row ≢ old

-- a chunk of an upload that is there, in the place of one of its number or as one more
pub record IsNewChunk (t : Tables) (row : ChunkRow) : Type 0 where
  pub upload : is_some (upload_row t.uploads row.user row.dir) ≡ true
  pub some : 1 ≤ row.number
  pub few : row.number ≤ MAX_PIECES
  pub one : length row.content ≤ 1
  pub pieces : All (IsPieceSound t) row.content
  pub few_pieces : stored_pieces t + length row.content ≤ MAX_STORED_PIECES
  pub few_pending : pending_with t row.user row.dir row.number (content_size row.content) ≤ MAX_PENDING

-- a mount that is there, and is left, or has a name that is free in its user's root
pub record IsRemounted (t : Tables) (row : MountRow) : Type 0 where
  pub old : MountRow
  pub there : mount_row t.mounts row.user row.node ≡ Some old
  pub same : row ≡ record old { name = row.name; left = row.left }
  pub other : row ≢ old
  pub free : row.left ≡ false → child_of t.nodes (root_folder t.users row.user) row.name ≡ None
  pub apart : row.left ≡ false → mount_at t.mounts row.user row.name ≡ None

-- a new mount, of a node that is there and another's, under a name that is free in its user's root
pub record IsNewMount (t : Tables) (row : MountRow) : Type 0 where
  pub fresh : mount_row t.mounts row.user row.node ≡ None
  pub stays : row.left ≡ false
  pub user : is_some (user_row t.users row.user) ≡ true
  pub node : NodeRow
  pub there : node_row t.nodes row.node ≡ Some node
  pub others : node.owner ≢ row.user
  pub free : child_of t.nodes (root_folder t.users row.user) row.name ≡ None
  pub apart : mount_at t.mounts row.user row.name ≡ None
  pub few : length t.mounts + 1 ≤ MAX_MOUNTS

-- what a new share stands on: nothing, where it is the owner's, or a share that is there, with room in its chain
abbrev pub StandsOn : Tables → ShareRow → Option ℕ → Type 0
StandsOn t row None = row.initiator ≡ row.owner
StandsOn t row (Some parent) = (is_some (share_row t.shares parent) ≡ true) × (length (chain_of t.shares parent) < MAX_CHAIN)

-- a new share of a node that is present, whose number is above all others; the token of a link is no other's
pub record IsNewShare (t : Tables) (row : ShareRow) : Type 0 where
  pub newest : All (λ (old : ShareRow). old.id < row.id) t.shares
  pub given : row.id < t.meta.next_share
  pub made : row.made ≤ t.meta.last
  pub live : row.ended ≡ false
  pub node : NodeRow
  pub there : node_row t.nodes row.node ≡ Some node
  pub present : LeadsToRoot t.nodes row.node
  pub of_node : IsOfNode row node
  pub initiator : is_some (user_row t.users row.initiator) ≡ true
  pub kind : IsKindSound t row.kind
  pub token : is_token_taken t.shares row.kind ≡ false
  pub on : StandsOn t row row.parent
  pub few : length t.shares + 1 ≤ MAX_SHARES

-- a share that is there, with other permissions or another end, or ended
pub record IsOtherShare (t : Tables) (row : ShareRow) : Type 0 where
  pub old : ShareRow
  pub there : share_row t.shares row.id ≡ Some old
  pub same : row ≡ record old { perms = row.perms; until = row.until; ended = row.ended }
  pub other : row ≢ old
  pub lasts : old.ended ≡ false
  pub of_node : (of : NodeRow) → node_row t.nodes row.node ≡ Some of → IsOfNode row of

-- ---- users and groups

-- a new user and its root: their numbers are above all others, also those of shares and mounts, and the name is nobody's
pub record IsNewUser (t : Tables) (row : UserRow) (root : NodeRow) : Type 0 where
  pub newest : All (λ (old : UserRow). old.id < row.id) t.users
  pub given : row.id < t.meta.next_user
  pub unnamed : user_named t.users row.name ≡ None
  pub few : length t.users + 1 ≤ MAX_USERS
  pub of_user : row.root ≡ root.id
  pub owner : root.owner ≡ row.id
  pub place : root.place ≡ Root
  pub name : root.name ≡ row.name
  pub folder : is_folder_kind root.kind ≡ true
  pub empty : root.content ≡ []
  pub newest_node : All (λ (old : NodeRow). old.id < root.id) t.nodes
  pub unshared : All (λ (share : ShareRow). share.node < root.id) t.shares
  pub unused : All (λ (mount : MountRow). mount.node < root.id) t.mounts
  pub given_node : root.id < t.meta.next_node
  pub changed : root.changed ≤ t.meta.last
  pub few_nodes : length t.nodes + 1 ≤ MAX_NODES

-- a user who is there, with another quota
pub record IsRequoted (t : Tables) (row : UserRow) : Type 0 where
  pub old : UserRow
  pub there : user_row t.users row.id ≡ Some old
  pub same : row ≡ record old { quota = row.quota }
  pub other : row ≢ old

pub record IsNewToken (t : Tables) (row : TokenRow) : Type 0 where
  pub fresh : holder_of t.tokens row.digest ≡ None
  pub user : is_some (user_row t.users row.user) ≡ true
  pub few : length t.tokens + 1 ≤ MAX_TOKENS

pub record IsNewGroup (t : Tables) (row : GroupRow) : Type 0 where
  pub newest : All (λ (old : GroupRow). old.id < row.id) t.groups
  pub given : row.id < t.meta.next_group
  pub unnamed : group_named t.groups row.name ≡ None
  pub few : length t.groups + 1 ≤ MAX_GROUPS

pub record IsNewMember (t : Tables) (row : MemberRow) : Type 0 where
  pub fresh : is_member_of t.members row.group row.user ≡ false
  pub group : is_some (group_row t.groups row.group) ≡ true
  pub user : is_some (user_row t.users row.user) ≡ true
  pub few : length t.members + 1 ≤ MAX_MEMBERS

-- a change of people alone: a user has another quota, a token, a group or a member is new, or somebody is a member no more
abbrev pub IsOfPeople : Tables → Change → Type 0
IsOfPeople t (Put (rows.User row)) = IsRequoted t row
IsOfPeople t (Put (rows.Token row)) = IsNewToken t row
IsOfPeople t (Put (rows.Group row)) = IsNewGroup t row
IsOfPeople t (Put (rows.Member row)) = IsNewMember t row
IsOfPeople t (Drop (keys.Member group user)) = is_member_of t.members group user ≡ true
IsOfPeople t other = ⊥
