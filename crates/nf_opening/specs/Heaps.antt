-- The bytes of owners' trashes.
use Rattle.std.specs.Prelude.{◌≡◌, ◌==◌, ℕ, zero, suc, All, List, None, filter, sum_by}
use Rattle.std.specs.Option.{option_map_or}
use Rattle.nf_base.specs.declared.limits.TheConstants.{MAX_DEPTH}
use Rattle.nf_base.specs.declared.rows.ItemRow.{ItemRow}
use Rattle.nf_base.specs.declared.rows.NodeRow.{NodeRow}
use Rattle.nf_defs.specs.Prelude.{parent_of, Tables}
use Rattle.nf_words.specs.Versions.{content_size}

-- so many folders up from a node at most, or as far as there are some
unfoldable pub top_within : ℕ → List NodeRow → ℕ → ℕ
top_within zero rows node = node
top_within (suc k) rows node = option_map_or (top_within k rows) (parent_of rows node) node

abbrev pub top_of : List NodeRow → ℕ → ℕ
top_of rows node = top_within MAX_DEPTH rows node

-- the bytes of all that leads to a top
abbrev pub topped_bytes : List NodeRow → ℕ → ℕ
topped_bytes rows top = sum_by (λ (row : NodeRow). content_size row.content) (filter (λ (row : NodeRow). top_of rows row.id == top) rows)

-- each item is of what is in no folder
abbrev pub AreTops : Tables → Type 0
AreTops t = All (λ (item : ItemRow). parent_of t.nodes item.node ≡ None) t.items
