-- Keys that several rows share.
use Rattle.std.specs.Prelude.{ℕ, Bool, false, bytes_eq, nat_lt, count_by, List, ◌∷◌, Option, None, Some, if◌then◌else◌}
use Rattle.std.specs.Option.{option_map_or}
use Rattle.nf_access.specs.Mounts.{root_folder}
use Rattle.nf_base.specs.Keys.{key_of}
use Rattle.nf_base.specs.declared.rows.Row.{Row}
use Rattle.nf_base.specs.declared.rows.Row.TheVariants as rows
use Rattle.nf_base.specs.declared.rows.ShareKind.{ShareKind}
use Rattle.nf_base.specs.declared.rows.ShareKind.TheVariants as to
use Rattle.nf_base.specs.declared.rows.Place.{Place}
use Rattle.nf_base.specs.declared.rows.Place.TheVariants.{Root, Inside, Trash}
use Rattle.nf_defs.specs.Tables.{Tables}
use Rattle.nf_rows.specs.Spelling.{key_spelling}
use Rattle.nf_told.specs.Told.{numbers_of_key}

-- it is that key
abbrev pub has_key : List ℕ → Option (List ℕ) → Bool
has_key key other = option_map_or (bytes_eq key) other false

-- another of them has its key; what has none shares none
abbrev pub is_shared : List (Option (List ℕ)) → Option (List ℕ) → Bool
is_shared all key = option_map_or (λ k. nat_lt 1 (count_by (has_key k) all)) key false

-- the kind of a row and its key, as they are spelled
abbrev pub spelled_key : Row → Option (List ℕ)
spelled_key row = Some (numbers_of_key (key_spelling (key_of row)))

-- a child's folder and its name
abbrev pub child_key : Place → List ℕ → Option (List ℕ)
child_key Root name = None
child_key (Inside folder) name = Some (6 ∷ folder ∷ name)
child_key Trash name = None

-- the token of a link
abbrev pub link_key : ShareKind → Option (List ℕ)
link_key (to.User user) = None
link_key (to.Group group) = None
link_key (to.Link token) = Some (7 ∷ token)

-- what a name has to be alone in: the users, the groups, a folder with the mounts in it that weren't left, or the links
abbrev pub name_key : Tables → Row → Option (List ℕ)
name_key t (rows.User row) = Some (2 ∷ row.name)
name_key t (rows.Group row) = Some (4 ∷ row.name)
name_key t (rows.Node row) = child_key row.place row.name
name_key t (rows.Share row) = link_key row.kind
name_key t (rows.Mount row) = if row.left then None else child_key (Inside (root_folder t.users row.user)) row.name
name_key t other = None
