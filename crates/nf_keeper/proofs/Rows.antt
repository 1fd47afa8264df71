-- Rows that are put and dropped by their kind and key.
use Rattle.std.proofs.Common.{◌+◌, ◌≤◌, ◌≡◌, List, [], ◌∷◌, map, length, refl, arith}
use Rattle.nf_base.specs.declared.changes.Change.{Change}
use Rattle.nf_base.specs.declared.changes.Change.TheVariants.{Put, Drop}
use Rattle.nf_defs.proofs.Puts.{dropped_length, dropped_rising, put_length, put_rising}
use Rattle.nf_rows.specs.Spelling.{Raw}
use Rattle.nf_told.specs.Told.{AreRisingRaws, numbers_of_key, raw_key, told_all}
use Rattle.nf_keeper.specs.Spelled.{after, after_all, spelled_change}
use Rattle.nf_keeper.specs.declared.spelled.SpelledChange.{SpelledChange}
use Rattle.nf_keeper.specs.declared.spelled.SpelledChange.TheVariants as spelled

-- rows by rising kind and key stay so
pub after_rising : (raws : List Raw) (change : SpelledChange) → AreRisingRaws raws → AreRisingRaws (after raws change)
after_rising raws (spelled.Put row) rising = put_rising raw_key row raws rising
after_rising raws (spelled.Drop key) rising = dropped_rising raw_key (numbers_of_key key) raws rising

-- at most one more
pub after_length : (raws : List Raw) (change : SpelledChange) → length (after raws change) ≤ length raws + 1
after_length raws (spelled.Put row) = put_length raw_key row raws
after_length raws (spelled.Drop key) = let few = dropped_length raw_key (numbers_of_key key) raws in omega arith

-- the spelled changes make what is told
pub makes_told : (raws : List Raw) (changes : List Change) → after_all raws (map spelled_change changes) ≡ told_all raws changes
makes_told raws [] = refl
makes_told raws (Put row ∷ changes) = makes_told (after raws (spelled_change (Put row))) changes
makes_told raws (Drop key ∷ changes) = makes_told (after raws (spelled_change (Drop key))) changes
