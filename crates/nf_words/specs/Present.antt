-- What is present, and what is in the trash.
use Rattle.std.specs.Prelude.{◌≡◌, ℕ, true, List, Some}
use Rattle.nf_base.specs.declared.rows.NodeRow.{NodeRow}
use Rattle.nf_defs.specs.Prelude.{climb, is_root}

-- a node is present: it leads up to a root, however many folders
pub record LeadsToRoot (rows : List NodeRow) (node : ℕ) : Type 0 where
  pub steps : ℕ
  pub top : ℕ
  pub climbs : climb rows steps node ≡ Some top
  pub root : is_root rows top ≡ true
