-- What users' files, trash and versions take up, in bytes, and how many grants shares give them.
use Rattle.std.specs.Prelude.{ℕ, ◌-◌, List, length, map, sum_by, Option, None, Some, if◌then◌else◌}
use Rattle.nf_access.specs.Access.{by_chains}
use Rattle.nf_access.specs.Shares.{Ground, ground_of}
use Rattle.nf_base.specs.declared.rows.NodeRow.{NodeRow}
use Rattle.nf_base.specs.declared.rows.Row.{Row}
use Rattle.nf_base.specs.declared.rows.Row.TheVariants as rows
use Rattle.nf_base.specs.declared.rows.UserRow.{UserRow}
use Rattle.nf_base.specs.declared.rows.VersionRow.{VersionRow}
use Rattle.nf_charge.specs.Sums.{bytes_under}
use Rattle.nf_charge.specs.Totals.{bytes_owned}
use Rattle.nf_defs.specs.Prelude.{Tables}
use Rattle.nf_defs.specs.declared.Seeker.TheVariants.{User}
use Rattle.nf_words.specs.Charges.{charge_of}
use Rattle.nf_words.specs.Trash.{item_size, items_of}
use Rattle.nf_words.specs.Versions.{content_size, is_held_by}
use Rattle.nf_site.specs.declared.totals.UserTotals.{UserTotals}

-- the bytes of a user's items of the trash
abbrev pub trash_of : Tables → ℕ → ℕ
trash_of t user = sum_by (item_size t) (items_of t user)

-- the bytes of a version, where it is one of the user's files, in the trash or not
abbrev pub held_bytes : List NodeRow → ℕ → VersionRow → ℕ
held_bytes nodes user row = if is_held_by nodes user row then content_size row.content else 0

-- the bytes of all of them
abbrev pub versions_in : List NodeRow → List VersionRow → ℕ → ℕ
versions_in nodes versions user = sum_by (held_bytes nodes user) versions

-- how many grants a user has on all nodes
abbrev pub grants_in : Ground → List NodeRow → ℕ → ℕ
grants_in base nodes user = sum_by (λ node. length (by_chains base (User user) node.id)) nodes

-- what a user's take up
abbrev pub totals_of : Tables → UserRow → UserTotals
totals_of t user = record {
  name = user.name;
  charge = charge_of t user.id;
  trash = trash_of t user.id;
  versions = versions_in t.nodes t.versions user.id;
}

-- those of all users
abbrev pub all_totals : Tables → List UserTotals
all_totals t = map (totals_of t) t.users

abbrev pub all_grants : Tables → ℕ
all_grants t = sum_by (λ user. grants_in (ground_of t) t.nodes user.id) t.users

-- ---- as they are counted: by what is under the root, and by what is the user's

abbrev pub counted : List NodeRow → List VersionRow → UserRow → UserTotals
counted nodes versions user = record {
  name = user.name;
  charge = bytes_under nodes user.root;
  trash = bytes_owned nodes user.id - bytes_under nodes user.root;
  versions = versions_in nodes versions user.id;
}

-- a row of another kind has none
abbrev pub counted_row : List NodeRow → List VersionRow → Row → Option UserTotals
counted_row nodes versions (rows.User user) = Some (counted nodes versions user)
counted_row nodes versions other = None

abbrev pub grants_by : Ground → List NodeRow → Row → ℕ
grants_by base nodes (rows.User user) = grants_in base nodes user.id
grants_by base nodes other = 0
