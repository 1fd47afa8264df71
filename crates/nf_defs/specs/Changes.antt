-- What a step changes, told as a list.
use Rattle.std.specs.Prelude.{◌≢◌, ℕ, List, [], ◌∷◌, ◌++◌, length}
use Rattle.nf_base.specs.declared.changes.Change.{Change}
use Rattle.nf_base.specs.declared.changes.Change.TheVariants.{Put, Drop}
use Rattle.nf_base.specs.declared.changes.RowKey.{RowKey}
use Rattle.nf_base.specs.declared.changes.RowKey.TheVariants as keys
use Rattle.nf_defs.specs.Keys.{user_key, token_key, group_key, member_key, node_key, share_key, mount_key, version_key, item_key, upload_key, chunk_key}
use Rattle.nf_defs.specs.Puts.{dropped}
use Rattle.nf_defs.specs.Tables.{Tables, put_row}

-- the numbers by which a key is ordered
abbrev pub numbers_of : RowKey → List ℕ
numbers_of keys.Meta = []
numbers_of (keys.User id) = id ∷ []
numbers_of (keys.Token digest) = digest
numbers_of (keys.Group id) = id ∷ []
numbers_of (keys.Member group user) = group ∷ user ∷ []
numbers_of (keys.Node id) = id ∷ []
numbers_of (keys.Share id) = id ∷ []
numbers_of (keys.Mount user node) = user ∷ node ∷ []
numbers_of (keys.Version node at) = node ∷ at ∷ []
numbers_of (keys.Item node) = node ∷ []
numbers_of (keys.Upload user dir) = user ∷ length dir ∷ dir
numbers_of (keys.Chunk user dir number) = user ∷ length dir ∷ dir ++ number ∷ []

abbrev drop_numbers : Tables → RowKey → List ℕ → Tables
drop_numbers t keys.Meta n = t
drop_numbers t (keys.User id) n = record t { users = dropped user_key n t.users }
drop_numbers t (keys.Token digest) n = record t { tokens = dropped token_key n t.tokens }
drop_numbers t (keys.Group id) n = record t { groups = dropped group_key n t.groups }
drop_numbers t (keys.Member group user) n = record t { members = dropped member_key n t.members }
drop_numbers t (keys.Node id) n = record t { nodes = dropped node_key n t.nodes }
drop_numbers t (keys.Share id) n = record t { shares = dropped share_key n t.shares }
drop_numbers t (keys.Mount user node) n = record t { mounts = dropped mount_key n t.mounts }
drop_numbers t (keys.Version node at) n = record t { versions = dropped version_key n t.versions }
drop_numbers t (keys.Item node) n = record t { items = dropped item_key n t.items }
drop_numbers t (keys.Upload user dir) n = record t { uploads = dropped upload_key n t.uploads }
drop_numbers t (keys.Chunk user dir number) n = record t { chunks = dropped chunk_key n t.chunks }

-- the tables without the row of that key; the meta row is never dropped
abbrev pub drop_row : Tables → RowKey → Tables
drop_row t key = drop_numbers t key (numbers_of key)

abbrev pub made : Tables → Change → Tables
made t (Put row) = put_row t row
made t (Drop key) = drop_row t key

-- the tables after some changes, one after the other
abbrev pub put_all : Tables → List Change → Tables
put_all t [] = t
put_all t (change ∷ changes) = put_all (made t change) changes

-- no drop of the meta row, since there always is one
abbrev pub IsDroppable : Change → Type 0
IsDroppable (Put row) = Unit {0}
IsDroppable (Drop key) = key ≢ keys.Meta
