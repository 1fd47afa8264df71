-- The keys of rows. The rows of a kind are ordered by the numbers of their keys, as the bytes of the spelled keys are:
-- a name by its length first, then by its bytes.
use Rattle.std.specs.Prelude.{ℕ, List, [], ◌∷◌, ◌++◌, length}
use Rattle.nf_base.specs.declared.rows.UserRow.{UserRow}
use Rattle.nf_base.specs.declared.rows.TokenRow.{TokenRow}
use Rattle.nf_base.specs.declared.rows.GroupRow.{GroupRow}
use Rattle.nf_base.specs.declared.rows.MemberRow.{MemberRow}
use Rattle.nf_base.specs.declared.rows.NodeRow.{NodeRow}
use Rattle.nf_base.specs.declared.rows.ShareRow.{ShareRow}
use Rattle.nf_base.specs.declared.rows.MountRow.{MountRow}
use Rattle.nf_base.specs.declared.rows.VersionRow.{VersionRow}
use Rattle.nf_base.specs.declared.rows.ItemRow.{ItemRow}
use Rattle.nf_base.specs.declared.rows.UploadRow.{UploadRow}
use Rattle.nf_base.specs.declared.rows.ChunkRow.{ChunkRow}

abbrev pub user_key : UserRow → List ℕ
user_key row = row.id ∷ []

abbrev pub token_key : TokenRow → List ℕ
token_key row = row.digest

abbrev pub group_key : GroupRow → List ℕ
group_key row = row.id ∷ []

abbrev pub member_key : MemberRow → List ℕ
member_key row = row.group ∷ row.user ∷ []

abbrev pub node_key : NodeRow → List ℕ
node_key row = row.id ∷ []

abbrev pub share_key : ShareRow → List ℕ
share_key row = row.id ∷ []

abbrev pub mount_key : MountRow → List ℕ
mount_key row = row.user ∷ row.node ∷ []

abbrev pub version_key : VersionRow → List ℕ
version_key row = row.node ∷ row.at ∷ []

abbrev pub item_key : ItemRow → List ℕ
item_key row = row.node ∷ []

abbrev pub upload_key : UploadRow → List ℕ
upload_key row = row.user ∷ length row.dir ∷ row.dir

abbrev pub chunk_key : ChunkRow → List ℕ
chunk_key row = row.user ∷ length row.dir ∷ row.dir ++ row.number ∷ []
