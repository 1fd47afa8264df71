-- Where a path leads: the walk against the derivation, folder by folder.
use Rattle.std.specs.Prelude.{◌≡◌, ◌↔◌, ◌⊎◌, ℕ, ◌+◌, ◌<◌, false, true, List, [], ◌∷◌, ◌++◌, length, take, get_or, None}
use Rattle.nf_base.specs.declared.rows.NodeRow.{NodeRow}
use Rattle.nf_defs.specs.Prelude.{child_of, found_from, is_folder, Leads, Tables}
use Rattle.nf_defs.specs.declared.Found.TheVariants.{At, Free, Missing}
use Rattle.nf_words.specs.Sound.{AreSound}

-- names but for the last lead to a folder that has no child of the last
pub record LeadsToFree (rows : List NodeRow) (from : ℕ) (names : List (List ℕ)) (folder : ℕ) : Type 0 where
  pub front : List (List ℕ)
  pub last : List ℕ
  pub parts : names ≡ front ++ last ∷ []
  pub led : Leads rows from front folder
  pub there : is_folder rows folder ≡ true
  pub free : child_of rows folder last ≡ None

-- so many names lead to a node, and no more do: it is no folder, or has no child of the next, which isn't the last
pub record LeadsNoFurther (rows : List NodeRow) (from : ℕ) (names : List (List ℕ)) (depth : ℕ) : Type 0 where
  pub node : ℕ
  pub within : depth < length names
  pub led : Leads rows from (take depth names) node
  pub stuck : (is_folder rows node ≡ false) ⊎ ((child_of rows node (get_or names depth []) ≡ None) × (depth + 1 < length names))

pub record WalkFollows : Type 0 where
  pub at : (t : Tables) (from : ℕ) (names : List (List ℕ)) (node : ℕ) → AreSound t
      → (found_from t.nodes 0 from names ≡ At node) ↔ Leads t.nodes from names node
  pub free : (t : Tables) (from : ℕ) (names : List (List ℕ)) (folder : ℕ) → AreSound t
      → (found_from t.nodes 0 from names ≡ Free folder) ↔ LeadsToFree t.nodes from names folder
  pub missing : (t : Tables) (from : ℕ) (names : List (List ℕ)) (depth : ℕ) → AreSound t
      → (found_from t.nodes 0 from names ≡ Missing depth) ↔ LeadsNoFurther t.nodes from names depth
