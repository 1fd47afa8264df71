-- Laws of the rules.
use Rattle.std.specs.Prelude.{◌≡◌, ℕ, ◌<◌, ◌≤◌, All, false, List, length, Some}
use Rattle.nf_base.specs.KeptRows.{IsKept}
use Rattle.nf_base.specs.declared.rows.Row.{Row}
use Rattle.nf_defs.specs.Tables.{Tables, rows_of, tables_of}
use Rattle.nf_told.specs.Told.{AreFit}
use Rattle.nf_words.specs.Prelude.{IsLegalFrom, IsSound, opened, replay, State}
use Rattle.nf_words.specs.declared.history.Entry.{Entry}
use Rattle.nf_rules.specs.Ruled.{AreRuled}
use Rattle.nf_rules.specs.Rules.{AreUnbroken, Broken, first_broken, lacks_meta, rules}

-- rows that break no rule make tables that keep the rules
abbrev pub UnbrokenAreRuled : Type 0
UnbrokenAreRuled = (all : List Row) → All IsKept all → AreUnbroken all → AreRuled (tables_of all)

-- and the rows of such tables, where they can be spelled, break none
abbrev pub RuledAreUnbroken : Type 0
RuledAreUnbroken = (t : Tables) → AreFit t → AreRuled t → AreUnbroken (rows_of t)

-- a run over rows whose tables keep the rules begins in a sound state
abbrev pub OpenedIsSound : Type 0
OpenedIsSound = (rows : List Row) → AreRuled (tables_of rows) → IsSound (opened rows)

-- over every history that is legal from a sound state, after whatever others, the tables keep the rules
abbrev pub StaysRuled : Type 0
StaysRuled =
    (n : ℕ) (s : State) (es : List Entry) → AreRuled s.tables → IsSound s → IsLegalFrom n s es → AreRuled (replay s es).tables

-- the row is there, or behind the last where there is no meta row
pub record IsThere (all : List Row) (index : ℕ) : Type 0 where
  pub at_most : index ≤ length all
  pub within : lacks_meta all ≡ false → index < length all

-- what is told of a broken rule is the place of a row
abbrev pub BrokenIsThere : Type 0
BrokenIsThere = (all : List Row) (broken : Broken) → first_broken rules all ≡ Some broken → IsThere all broken.index
