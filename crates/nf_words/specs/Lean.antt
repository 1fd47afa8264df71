-- Lean lists of changes: no more than has to be told.
use Rattle.std.specs.Prelude.{◌≢◌, All, List}
use Rattle.std.specs.List.{AllPairs}
use Rattle.nf_base.specs.Keys.{key_of}
use Rattle.nf_base.specs.declared.changes.Change.{Change}
use Rattle.nf_base.specs.declared.changes.Change.TheVariants.{Put, Drop}
use Rattle.nf_base.specs.declared.changes.RowKey.{RowKey}
use Rattle.nf_defs.specs.Prelude.{made, Tables}

-- the key of the row that a change is of
abbrev pub changed_key : Change → RowKey
changed_key (Put row) = key_of row
changed_key (Drop key) = key

-- each row is changed once, and each change alone would make other tables
pub record IsLean (t : Tables) (changes : List Change) : Type 0 where
  pub once : AllPairs (λ (a b : Change). changed_key a ≢ changed_key b) changes
  pub differ : All (λ (change : Change). made t change ≢ t) changes
