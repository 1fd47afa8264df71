-- What the rows of shares, mounts, versions, the trash and uploads keep.
use Rattle.std.specs.Prelude.{◌≡◌, ◌≢◌, ℕ, ◌==◌, ◌<◌, ◌≤◌, All, false, true, length, [], None, Some, IfSome, is_some}
use Rattle.std.specs.List.{AllPairs, list_any}
use Rattle.nf_access.specs.Mounts.{root_folder}
use Rattle.nf_access.specs.Shares.{chain_within, perms_of_share}
use Rattle.nf_base.specs.declared.limits.TheConstants.{MAX_CHAIN, MAX_MOUNTS, MAX_PIECES, MAX_SHARES, MAX_VERSIONS}
use Rattle.nf_base.specs.declared.rows.ChunkRow.{ChunkRow}
use Rattle.nf_base.specs.declared.rows.ItemRow.{ItemRow}
use Rattle.nf_base.specs.declared.rows.MountRow.{MountRow}
use Rattle.nf_base.specs.declared.rows.NodeRow.{NodeRow}
use Rattle.nf_base.specs.declared.rows.Place.TheVariants.{Trash}
use Rattle.nf_base.specs.declared.rows.ShareKind.{ShareKind}
use Rattle.nf_base.specs.declared.rows.ShareKind.TheVariants as to
use Rattle.nf_base.specs.declared.rows.ShareRow.{ShareRow}
use Rattle.nf_base.specs.declared.rows.UploadRow.{UploadRow}
use Rattle.nf_base.specs.declared.rows.VersionRow.{VersionRow}
use Rattle.nf_defs.specs.Prelude.{child_of, is_file, is_root_place, chunk_key, IsRising, item_key, mount_key, node_row, share_key, Tables, upload_key, user_row, version_key}
use Rattle.nf_words.specs.Contents.{IsPieceSound}
use Rattle.nf_words.specs.declared.limits.TheConstants.{MAX_PENDING, MAX_UPLOADS}
use Rattle.nf_words.specs.Present.{LeadsToRoot}
use Rattle.nf_words.specs.Uploads.{pending_of, upload_row, uploads_of}

-- the share names a user or a group that is there, or is a link
abbrev pub IsKindSound : Tables → ShareKind → Type 0
IsKindSound t (to.User user) = is_some (user_row t.users user) ≡ true
IsKindSound t (to.Group group) = list_any (λ row. row.id == group) t.groups ≡ true
IsKindSound t (to.Link token) = Unit {0}

-- the share is its owner's node's, which is no root, and allows what a share of such a node may
pub record IsOfNode (row : ShareRow) (of : NodeRow) : Type 0 where
  pub owner : of.owner ≡ row.owner
  pub no_root : is_root_place of.place ≡ false
  pub perms : perms_of_share of.kind row.kind row.perms ≡ row.perms

-- a share's number was given, and so were its node's and its users'; it has a chain, and passes on an earlier share. Its node is present
-- where it isn't ended, and as long as it is there the share is of it
pub record IsShareSound (t : Tables) (row : ShareRow) : Type 0 where
  pub some : 1 ≤ row.id
  pub given : row.id < t.meta.next_share
  pub made : row.made ≤ t.meta.last
  pub node : row.node < t.meta.next_node
  pub owner : is_some (user_row t.users row.owner) ≡ true
  pub initiator : is_some (user_row t.users row.initiator) ≡ true
  pub kind : IsKindSound t row.kind
  pub chained : is_some (chain_within MAX_CHAIN t.shares row.id) ≡ true
  pub parent : IfSome row.parent (λ (id : ℕ). id < row.id)
  pub present : row.ended ≡ false → LeadsToRoot t.nodes row.node
  pub of_node : (of : NodeRow) → node_row t.nodes row.node ≡ Some of → IsOfNode row of

-- a mount is a user's who is there, and of nobody's own node. Where it wasn't left, no child of the user's root has its name
pub record IsMountSound (t : Tables) (row : MountRow) : Type 0 where
  pub user : is_some (user_row t.users row.user) ≡ true
  pub node : row.node < t.meta.next_node
  pub others : (of : NodeRow) → node_row t.nodes row.node ≡ Some of → of.owner ≢ row.user
  pub free : row.left ≡ false → child_of t.nodes (root_folder t.users row.user) row.name ≡ None

-- two mounts of one user that weren't left have different names
abbrev pub AreMountsApart : MountRow → MountRow → Type 0
AreMountsApart a b = a.user ≡ b.user → a.left ≡ false → b.left ≡ false → a.name ≢ b.name

-- a version is of a file, and has a content
pub record IsVersionSound (t : Tables) (row : VersionRow) : Type 0 where
  pub at : row.at ≤ t.meta.last
  pub file : is_file t.nodes row.node ≡ true
  pub some : row.content ≢ []
  pub pieces : All (IsPieceSound t) row.content

-- an item of the trash is of a node of its owner's that is there
pub record IsItemSound (t : Tables) (row : ItemRow) : Type 0 where
  pub at : row.at ≤ t.meta.last
  pub of : NodeRow
  pub there : node_row t.nodes row.node ≡ Some of
  pub owner : of.owner ≡ row.owner
  pub place : of.place ≡ Trash

-- an upload is a user's who is there
pub record IsUploadSound (t : Tables) (row : UploadRow) : Type 0 where
  pub user : is_some (user_row t.users row.user) ≡ true
  pub touched : row.touched ≤ t.meta.last

-- a chunk is of an upload that is there, under a number from 1 to `MAX_PIECES`
pub record IsChunkSound (t : Tables) (row : ChunkRow) : Type 0 where
  pub upload : is_some (upload_row t.uploads row.user row.dir) ≡ true
  pub some : 1 ≤ row.number
  pub few : row.number ≤ MAX_PIECES
  pub one : length row.content ≤ 1
  pub pieces : All (IsPieceSound t) row.content

pub record AreOthersSound (t : Tables) : Type 0 where
  pub shares : All (IsShareSound t) t.shares
  pub shares_rise : IsRising share_key t.shares
  pub few_shares : length t.shares ≤ MAX_SHARES
  pub mounts : All (IsMountSound t) t.mounts
  pub mounts_rise : IsRising mount_key t.mounts
  pub mounts_apart : AllPairs AreMountsApart t.mounts
  pub few_mounts : length t.mounts ≤ MAX_MOUNTS
  pub versions : All (IsVersionSound t) t.versions
  pub versions_rise : IsRising version_key t.versions
  pub few_versions : length t.versions ≤ MAX_VERSIONS
  pub items : All (IsItemSound t) t.items
  pub items_rise : IsRising item_key t.items
  pub uploads : All (IsUploadSound t) t.uploads
  pub uploads_rise : IsRising upload_key t.uploads
  pub few_uploads : (user : ℕ) → length (uploads_of t.uploads user) ≤ MAX_UPLOADS
  pub chunks : All (IsChunkSound t) t.chunks
  pub chunks_rise : IsRising chunk_key t.chunks
  pub few_pending : (user : ℕ) → pending_of t.chunks user ≤ MAX_PENDING
