-- What a file's JSON lists.
use Rattle.std.specs.Prelude.{◌≡◌, ℕ, zero, suc, List, codes, Option, Some, option_and_then}
use Rattle.serde_json.specs.Data.{Data, Items, no_items, item}
use Rattle.serde_json.specs.Find.{as_array, get}
use Rattle.serde_json.specs.Read.{read}

-- how many there are
abbrev pub count_of : Items → ℕ
count_of no_items = zero
count_of (item d ds) = suc (count_of ds)

-- the list of that name
abbrev pub listed : List ℕ → Data → Option Items
listed name d = option_and_then as_array (get name d)

-- a case's file lists so many runs
pub record Lists (file : Data) (runs : ℕ) : Type 0 where
  pub list : Items
  pub lists : listed (codes "runs") file ≡ Some list
  pub all : count_of list ≡ runs

-- the text is that of a case with so many runs
pub record ListsRuns (text : List ℕ) (runs : ℕ) : Type 0 where
  pub file : Data
  pub reads : read text ≡ Some file
  pub lists : Lists file runs
