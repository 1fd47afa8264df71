-- Where an item of the trash comes back to.
use Rattle.std.specs.Prelude.{ℕ, ◌==◌, ◌&&◌, List, if◌then◌else◌}
use Rattle.nf_access.specs.Mounts.{free_name_of, names_in_root, root_folder}
use Rattle.nf_base.specs.declared.rows.ItemRow.{ItemRow}
use Rattle.nf_defs.specs.Prelude.{is_folder, is_under, taken_names, Tables}

-- the folder that it comes back to: the one that it came from, where that is under its owner's root, or else that root
abbrev pub home_of : Tables → ItemRow → ℕ
home_of t item =
    let root = root_folder t.users item.owner in
    if is_folder t.nodes item.from && is_under t.nodes item.from root then item.from else root

-- the names that are taken in a folder of a user's: those of its children, and in the root those of mounts too
abbrev pub names_taken_in : Tables → ℕ → ℕ → List (List ℕ)
names_taken_in t user folder =
    if folder == root_folder t.users user then names_in_root t.users t.nodes t.mounts user else taken_names t.nodes folder

-- the name under which it does
abbrev pub name_back : Tables → ItemRow → List ℕ
name_back t item = free_name_of item.name (names_taken_in t item.owner (home_of t item))
