-- Numbers of nodes that were given, and new ones.
use Rattle.std.proofs.Common.{ℕ, ◌<◌, ◌≤◌, ◌≡◌, List, [], ◌∷◌, ◌++◌, length, slice_get, Some, refl, arith}
use Rattle.std.specs.List.{All}
use Rattle.std.proofs.lemmas.List.Elements.{All-weaker}
use Rattle.nf_base.specs.declared.rows.NodeRow.{NodeRow}

-- what is below a number is below a greater one
pub given_below : (rows : List NodeRow) (next id : ℕ) → next ≤ id → All (λ (row : NodeRow). row.id < next) rows → All (λ (row : NodeRow). row.id < id) rows
given_below rows next id more given = All-weaker (λ (row : NodeRow). row.id < next) (λ (row : NodeRow). row.id < id) (λ row below. omega arith) rows given

-- the row behind some others
pub row_behind : (front : List NodeRow) (row : NodeRow) (rest : List NodeRow) → slice_get (front ++ row ∷ rest) (length front) ≡ Some row
row_behind [] row rest = refl
row_behind (first ∷ front) row rest = row_behind front row rest
