-- Copies of a node and of all under it.
use Rattle.std.specs.Prelude.{ℕ, zero, suc, ◌+◌, List, [], ◌∷◌, ◌++◌, length}
use Rattle.std.specs.Option.{option_map_or}
use Rattle.nf_base.specs.declared.limits.TheConstants.{MAX_DEPTH}
use Rattle.nf_base.specs.declared.rows.NodeRow.{NodeRow}
use Rattle.nf_base.specs.declared.rows.Place.TheVariants.{Inside}
use Rattle.nf_defs.specs.Prelude.{children_of, node_row, owner_of, Tables}
use Rattle.nf_words.specs.declared.request.Transfer.{Transfer}

-- a row as that of its copy, with that number and in that folder
abbrev pub copied_row : ℕ → ℕ → ℕ → ℕ → NodeRow → NodeRow
copied_row owner now id folder row = record row { id = id; owner = owner; place = Inside folder; changed = now }

-- copies of some nodes in a folder, each with what is under it, numbered from the first on
abbrev pub copies_of_all : (ℕ → ℕ → ℕ → List NodeRow) → ℕ → ℕ → List ℕ → List NodeRow
copies_of_all copies first folder [] = []
copies_of_all copies first folder (node ∷ nodes) =
    let made = copies first folder node in made ++ copies_of_all copies (first + length made) folder nodes

-- copies of a node in a folder and of what is under it, so many folders down, numbered from the first on
unfoldable pub copies_within : ℕ → List NodeRow → ℕ → ℕ → ℕ → ℕ → ℕ → List NodeRow
copies_within zero rows owner now first folder node =
    option_map_or (λ row. copied_row owner now first folder row ∷ []) (node_row rows node) []
copies_within (suc k) rows owner now first folder node =
    option_map_or (λ row. copied_row owner now first folder row
    ∷ copies_of_all (copies_within k rows owner now) (first + 1) first (children_of rows node)) (node_row rows node) []

-- the same where the first has another name
abbrev pub renamed : List ℕ → List NodeRow → List NodeRow
renamed name [] = []
renamed name (row ∷ rows) = record row { name = name } ∷ rows

-- copies of a node and of all under it, under that name in the folder of its new place, of that folder's owner: each after the
-- folder that it is in, the children of a folder by name, with the next numbers
abbrev pub copies_to : Tables → ℕ → Transfer → List ℕ → List NodeRow
copies_to t now transfer name =
    renamed name (copies_within MAX_DEPTH t.nodes (owner_of t.nodes transfer.folder) now t.meta.next_node transfer.folder transfer.node)
