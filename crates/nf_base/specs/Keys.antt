-- The key of a row.
use Rattle.nf_base.specs.declared.rows.Row.{Row}
use Rattle.nf_base.specs.declared.rows.Row.TheVariants as rows
use Rattle.nf_base.specs.declared.changes.RowKey.{RowKey}
use Rattle.nf_base.specs.declared.changes.RowKey.TheVariants as keys

-- the fields that tell a row from the others of its kind
abbrev pub key_of : Row → RowKey
key_of (rows.Meta row) = keys.Meta
key_of (rows.User row) = keys.User row.id
key_of (rows.Token row) = keys.Token row.digest
key_of (rows.Group row) = keys.Group row.id
key_of (rows.Member row) = keys.Member row.group row.user
key_of (rows.Node row) = keys.Node row.id
key_of (rows.Share row) = keys.Share row.id
key_of (rows.Mount row) = keys.Mount row.user row.node
key_of (rows.Version row) = keys.Version row.node row.at
key_of (rows.Item row) = keys.Item row.node
key_of (rows.Upload row) = keys.Upload row.user row.dir
key_of (rows.Chunk row) = keys.Chunk row.user row.dir row.number
