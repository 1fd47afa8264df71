-- What the tree holds.
use Rattle.std.specs.Prelude.{ℕ, ◌≤◌, ◌≡◌, List, length, All}
use Rattle.nf_base.specs.declared.limits.TheConstants.{MAX_NODES, MAX_PIECES}
use Rattle.nf_base.specs.declared.rows.NodeRow.{NodeRow}
use Rattle.nf_defs.specs.Tree.{piece_count}
use Rattle.nf_tree.specs.Order.{AreRisingNodes, IsIndex}

-- the rows by rising number, and how many rows fit without more memory
pub record Held : Type 0 where
  pub rows : List NodeRow
  pub room : ℕ

abbrev pub AreSmall : List NodeRow → Type 0
AreSmall rows = All (λ (row : NodeRow). length row.content ≤ MAX_PIECES) rows

pub record IsTree (rows : List NodeRow) (order : List ℕ) (pieces room : ℕ) : Type 0 where
  pub rising : AreRisingNodes rows
  pub index : IsIndex rows order
  pub small : AreSmall rows
  pub counted : pieces ≡ piece_count rows
  pub fits : length rows ≤ room
  pub few : room ≤ MAX_NODES

-- so many rows have room in each list
pub record HaveRoom (room rows order fates sums : ℕ) : Type 0 where
  pub in_rows : room ≤ rows
  pub in_order : room ≤ order
  pub in_fates : room ≤ fates
  pub in_sums : room ≤ sums
