-- The way up from a node.
use Rattle.std.specs.Prelude.{ℕ, ◌==◌, ◌&&◌, Bool, false, Option, None, Some, is_some, if◌then◌else◌}
use Rattle.std.specs.Option.{option_and_then}
use Rattle.nf_base.specs.declared.rows.NodeRow.{NodeRow}
use Rattle.nf_base.specs.declared.rows.Place.{Place}
use Rattle.nf_base.specs.declared.rows.Place.TheVariants.{Root, Inside, Trash}
use Rattle.nf_defs.specs.Prelude.{is_folder_kind, item_row, node_row, Tables}
use Rattle.nf_words.specs.Sound.{root_of_user}
use Rattle.nf_rules.specs.Rules.{is_user}

-- the row of a folder of that owner
abbrev pub folder_row : Tables → ℕ → ℕ → Option NodeRow
folder_row t owner folder =
    option_and_then (λ parent. if is_folder_kind parent.kind && parent.owner == owner then Some parent else None) (node_row t.nodes folder)

abbrev pub above_in : Tables → ℕ → Place → Option NodeRow
above_in t owner Root = None
above_in t owner (Inside folder) = folder_row t owner folder
above_in t owner Trash = None

-- the folder that a node is in, where it has the same owner
abbrev pub folder_above : Tables → NodeRow → Option NodeRow
folder_above t row = above_in t row.owner row.place

abbrev pub is_top_at : Tables → NodeRow → Place → Bool
is_top_at t row Root = row.id == root_of_user t row.owner
is_top_at t row (Inside folder) = false
is_top_at t row Trash = is_user t row.owner && is_some (item_row t.items row.id)

-- the node is its owner's root, or in the trash of a user, with its item
abbrev pub is_own_top : Tables → NodeRow → Bool
is_own_top t row = is_top_at t row row.place
