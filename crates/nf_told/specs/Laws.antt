-- What follows for what is told.
use Rattle.std.specs.Prelude.{◌≡◌, List, [], map}
use Rattle.std.specs.Ordering.{nat_cmp}
use Rattle.std.specs.Cmp.Lexicographic.{slice_cmp}
use Rattle.nf_base.specs.declared.changes.Change.{Change}
use Rattle.nf_base.specs.declared.changes.Change.TheVariants.{Put}
use Rattle.nf_base.specs.declared.changes.RowKey.{RowKey}
use Rattle.nf_base.specs.declared.rows.Row.{Row}
use Rattle.nf_defs.specs.Prelude.{AreRising, key_cmp, numbers_of, put_all, rows_of, Tables, tables_of}
use Rattle.nf_rows.specs.Spelling.{key_spelling, spelling_of}
use Rattle.nf_told.specs.Told.{AreFit, told_all, told_of}

-- the numbers of two keys are in the order of their spelled bytes
abbrev pub AreOrderedAlike : RowKey → RowKey → Type 0
AreOrderedAlike a b = key_cmp (numbers_of a) (numbers_of b) ≡ slice_cmp nat_cmp (key_spelling a).bytes (key_spelling b).bytes

-- what is told follows the tables through some changes, and they stay in order, with rows that can be spelled
pub record Follows (t : Tables) (changes : List Change) : Type 0 where
  pub told : told_of (put_all t changes) ≡ told_all (told_of t) changes
  pub rising : AreRising (put_all t changes)
  pub fit : AreFit (put_all t changes)

-- rows that are put where nothing is told make what is told of their tables
pub record Begin (rows : List Row) : Type 0 where
  pub told : told_all [] (map Put rows) ≡ told_of (tables_of rows)
  pub fit : AreFit (tables_of rows)

-- the rows are those of their tables, and spelled they are what is told of them
pub record AreTheirTables (rows : List Row) : Type 0 where
  pub told : map spelling_of rows ≡ told_of (tables_of rows)
  pub rows_are : rows ≡ rows_of (tables_of rows)
  pub fit : AreFit (tables_of rows)
