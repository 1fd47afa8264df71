-- The mounts as the program holds them.
use Rattle.std.specs.Prelude.{◌≡◌, ◌≤◌, ℕ, Bool, true, false, not, ◌&&◌, ◌==◌, bytes_eq, ◌+◌, List, [], ◌∷◌, ◌++◌, filter, length, map, Option, None, Some, Result, Ok, Err, if◌then◌else◌}
use Rattle.std.specs.Option.{option_map_or}
use Rattle.sha2.specs.Sha256.{sha256}
use Rattle.nf_access.specs.Mounts.{is_mounted, is_shown_to, mount_row, root_folder}
use Rattle.nf_base.specs.FreeNames.{is_taken}
use Rattle.nf_base.specs.declared.rows.MountRow.{MountRow}
use Rattle.nf_base.specs.declared.rows.NodeRow.{NodeRow}
use Rattle.nf_base.specs.declared.rows.UserRow.{UserRow}
use Rattle.nf_defs.specs.Prelude.{IsRising, mount_key, taken_names}
use Rattle.nf_mounts.specs.declared.names.NamedMount.{NamedMount}
use Rattle.nf_mounts.specs.declared.faults.RenameFault.{RenameFault}
use Rattle.nf_mounts.specs.declared.faults.RenameFault.TheVariants as fault
use Rattle.nf_table.specs.Rows.{TableValue, row_at}

-- the rows of mounts, and how many fit without more memory
pub record KeptMounts : Type 0 where
  pub rows : List MountRow
  pub room : ℕ

-- the row once its mount is left
abbrev pub left_row : MountRow → MountRow
left_row row = record row { left = true }

-- the row, if there is one
abbrev pub one_or_none : Option MountRow → List MountRow
one_or_none None = []
one_or_none (Some row) = row ∷ []

-- ---- mounts by their names

abbrev pub entry_key : NamedMount → List ℕ
entry_key entry = entry.user ∷ length entry.name ∷ entry.name ++ entry.node ∷ []

abbrev pub entry_of : MountRow → NamedMount
entry_of row = record { user = row.user; name = sha256 row.name; node = row.node }

-- the mount is there, wasn't left, and has a name of that digest
abbrev pub is_listed : List MountRow → NamedMount → Bool
is_listed rows entry =
    option_map_or (λ row. not row.left && bytes_eq (sha256 row.name) entry.name) (mount_row rows entry.user entry.node) false

-- both are by rising key; the entries are those of the mounts that weren't left, and as many
pub record IsNameIndex (index : List NamedMount) (rows : List MountRow) : Type 0 where
  pub entries_rise : IsRising entry_key index
  pub rows_rise : IsRising mount_key rows
  pub listed : (entry : NamedMount) → row_at entry_key (entry_key entry) index ≡ (if is_listed rows entry then Some entry else None)
  pub count : length index ≡ length (filter (λ row. not row.left) rows)

-- and the entries of all rows would fit
pub record AreNamed (index : TableValue NamedMount) (rows : List MountRow) : Type 0 where
  pub names : IsNameIndex index.rows rows
  pub fits : length rows ≤ index.room

-- the same but for the entry of the user's mount of a node, which isn't there
pub record AreCleared (index : List NamedMount) (rows : List MountRow) (user node : ℕ) : Type 0 where
  pub entries_rise : IsRising entry_key index
  pub listed : (entry : NamedMount)
      → row_at entry_key (entry_key entry) index ≡ (if is_listed rows entry && not (user == entry.user && node == entry.node) then Some entry else None)
  pub count : length index + (if is_mounted rows user node then 1 else 0) ≡ length (filter (λ row. not row.left) rows)

-- ---- the names of others

-- the mount of an entry has that name
abbrev pub has_name : List MountRow → List ℕ → NamedMount → Bool
has_name rows name entry = option_map_or (λ row. bytes_eq row.name name) (mount_row rows entry.user entry.node) false

-- the node is another than that one, if there is one
abbrev pub is_other : Option ℕ → ℕ → Bool
is_other None node = true
is_other (Some but) node = not (node == but)

-- the row is of a mount of that name that the user has, but for one
abbrev pub is_named : ℕ → List ℕ → Option ℕ → MountRow → Bool
is_named user name but row = is_shown_to user row && bytes_eq row.name name && is_other but row.node

-- the names in a user's root, but for that of the user's mount of a node
abbrev pub names_beside : List UserRow → List NodeRow → List MountRow → ℕ → ℕ → List (List ℕ)
names_beside users nodes mounts user node =
    taken_names nodes (root_folder users user)
    ++ map (λ row. row.name) (filter (λ row. is_shown_to user row && is_other (Some node) row.node) mounts)

-- the row of the user's mount of the node, under that name, where no other has it; or why there is none
abbrev pub Renames : MountRow → List (List ℕ) → Result MountRow RenameFault → Type 0
Renames wanted others (Ok row) = (is_taken wanted.name others ≡ false) × (row ≡ wanted)
Renames wanted others (Err fault.NameTaken) = is_taken wanted.name others ≡ true
Renames wanted others (Err fault.Memory) = is_taken wanted.name others ≡ false
