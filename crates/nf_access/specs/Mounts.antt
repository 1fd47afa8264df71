-- Mounts: shared nodes under names in the roots of those who receive them.
use Rattle.std.specs.Prelude.{ℕ, Bool, false, not, ◌&&◌, ◌==◌, bytes_eq, zero, suc, ◌+◌, List, [], ◌∷◌, ◌++◌, map, filter, find, length, Option, Some, None, option_map, if◌then◌else◌}
use Rattle.std.specs.List.{list_any}
use Rattle.std.specs.Option.{option_map_or}
use Rattle.nf_access.specs.Access.{is_open}
use Rattle.nf_base.specs.FreeNames.{candidate, is_taken}
use Rattle.nf_base.specs.declared.rows.MountRow.{MountRow}
use Rattle.nf_base.specs.declared.rows.NodeRow.{NodeRow}
use Rattle.nf_base.specs.declared.rows.UserRow.{UserRow}
use Rattle.nf_defs.specs.Access.{Access}
use Rattle.nf_defs.specs.declared.Seeker.TheVariants.{User}
use Rattle.nf_defs.specs.Prelude.{mount_key, node_row, put, taken_names, user_row}

-- the row is that of the user's mount of the node
abbrev pub is_mount_of : ℕ → ℕ → MountRow → Bool
is_mount_of user node row = row.user == user && row.node == node

abbrev pub mount_row : List MountRow → ℕ → ℕ → Option MountRow
mount_row mounts user node = find (is_mount_of user node) mounts

-- the row is of a mount of the user that wasn't left
abbrev pub is_shown_to : ℕ → MountRow → Bool
is_shown_to user row = row.user == user && not row.left

-- the node of the user's mount of that name
abbrev pub mount_at : List MountRow → ℕ → List ℕ → Option ℕ
mount_at mounts user name = option_map (λ row. row.node) (find (λ row. is_shown_to user row && bytes_eq row.name name) mounts)

-- the mounts of a user that are listed: those that weren't left and on whose node a grant is open
abbrev pub listed : Access → ℕ → List MountRow → ℕ → List MountRow
listed access now mounts user =
    filter (λ row. is_shown_to user row && list_any (is_open now) (access (User user) row.node)) mounts

-- the root of a user
abbrev pub root_folder : List UserRow → ℕ → ℕ
root_folder users user = option_map_or (λ row. row.root) (user_row users user) 0

-- the names that are taken in a user's root: those of its children, and of the user's mounts
abbrev pub names_in_root : List UserRow → List NodeRow → List MountRow → ℕ → List (List ℕ)
names_in_root users nodes mounts user =
    taken_names nodes (root_folder users user) ++ map (λ row. row.name) (filter (is_shown_to user) mounts)

-- the first number from k on, of so many, that gives a free name
unfoldable pub free_number : ℕ → List ℕ → List (List ℕ) → ℕ → ℕ
free_number zero name taken k = k
free_number (suc tries) name taken k = if is_taken (candidate name k) taken then free_number tries name taken (k + 1) else k

-- the free name of a name
abbrev pub free_name_of : List ℕ → List (List ℕ) → List ℕ
free_name_of name taken = if is_taken name taken then candidate name (free_number (length taken) name taken 2) else name

abbrev pub name_of : List NodeRow → ℕ → List ℕ
name_of nodes node = option_map_or (λ row. row.name) (node_row nodes node) []

-- the mount is there, and wasn't left
abbrev pub is_mounted : List MountRow → ℕ → ℕ → Bool
is_mounted mounts user node = option_map_or (λ row. not row.left) (mount_row mounts user node) false

-- what ensuring a mount writes: nothing where it is there, else its row, under the free name of the node's name
abbrev pub ensured : List UserRow → List NodeRow → List MountRow → ℕ → ℕ → Option MountRow
ensured users nodes mounts user node =
    if is_mounted mounts user node then None
    else Some (record {
      user = user;
      node = node;
      name = free_name_of (name_of nodes node) (names_in_root users nodes mounts user);
      left = false;
    })

-- the mounts with that row, if there is one
abbrev pub with_mount : List MountRow → Option MountRow → List MountRow
with_mount mounts row = option_map_or (λ row. put mount_key row mounts) row mounts

-- ---- several mounts

-- the row that an ensured mount writes, if it writes one, and what the rest writes behind it
abbrev pub then_ensured : Option MountRow → (List MountRow → List MountRow) → List MountRow → List MountRow
then_ensured None rest mounts = rest mounts
then_ensured (Some row) rest mounts = row ∷ rest (put mount_key row mounts)

-- what ensuring mounts writes, one after the other, each of a user and a node
abbrev pub ensured_all : List UserRow → List NodeRow → List (ℕ × ℕ) → List MountRow → List MountRow
ensured_all users nodes [] mounts = []
ensured_all users nodes (of ∷ others) mounts =
    then_ensured (ensured users nodes mounts of.0 of.1) (ensured_all users nodes others) mounts
