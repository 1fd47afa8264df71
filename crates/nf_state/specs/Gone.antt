-- What deeds do, told of the tables before all of them.
use Rattle.std.specs.Prelude.{◌≡◌, ℕ, List, [], ◌∷◌, ◌++◌, Option, None, Some, is_some, if◌then◌else◌}
use Rattle.std.specs.List.{flat_map}
use Rattle.std.specs.Option.{option_map_or}
use Rattle.nf_access.specs.Shares.{share_row}
use Rattle.nf_base.specs.declared.changes.Change.{Change}
use Rattle.nf_base.specs.declared.changes.Change.TheVariants.{Drop}
use Rattle.nf_base.specs.declared.changes.RowKey.TheVariants as keys
use Rattle.nf_defs.specs.Prelude.{item_row, Tables}
use Rattle.nf_words.specs.Deeds.{closed_under, dropped_under, gone_under, told_deed, told_deeds}
use Rattle.nf_words.specs.Versions.{forgotten_under}
use Rattle.nf_words.specs.declared.answer.Deed.{Deed}
use Rattle.nf_words.specs.declared.answer.Deed.TheVariants as deed

-- a node that goes, with the versions of all under it: of an item of the trash no share is left to end, and nothing else has an item
abbrev pub told_gone : Tables → ℕ → List Change
told_gone t node =
    forgotten_under t.nodes t.versions node
    ++ (if is_some (item_row t.items node) then dropped_under t.nodes node ++ Drop (keys.Item node) ∷ [] else gone_under t.nodes t.shares node)

-- the node of the item that a deed takes out for good, if it does
abbrev pub item_gone : Tables → Deed → Option ℕ
item_gone t (deed.Purge node) = if is_some (item_row t.items node) then Some node else None
item_gone t other = None

abbrev pub told_first : Tables → Deed → List Change
told_first t (deed.Purge node) = told_gone t node
told_first t other = told_deed t other

-- what is done one after the other is each told of the first tables
abbrev pub TellsDeeds : Tables → List Deed → Type 0
TellsDeeds t deeds = told_deeds t deeds ≡ flat_map (told_first t) deeds

-- the share of that number is ended, where it is of that node, in which nothing is
abbrev pub closed_entry : Tables → ℕ → ℕ → List Change
closed_entry t leaf id = option_map_or (λ share. closed_under t.nodes (share ∷ []) leaf) (share_row t.shares id) []
