-- What a keeper tells: rows as they are spelled, and the bytes of blobs.
use Rattle.std.specs.Prelude.{ℕ, List, [], ◌∷◌, map, All}
use Rattle.nf_base.specs.declared.changes.Change.{Change}
use Rattle.nf_base.specs.declared.changes.Change.TheVariants.{Put, Drop}
use Rattle.nf_defs.specs.Prelude.{Blobs, dropped, IsRising, put, rows_of, Tables}
use Rattle.nf_rows.specs.Spelling.{Fits, FitsKey, Keyed, Raw, key_spelling, spelling_of}

-- ---- rows

-- the kind and the bytes of a key, by which spelled rows are ordered
abbrev pub numbers_of_key : Keyed → List ℕ
numbers_of_key key = key.kind ∷ key.bytes

abbrev pub raw_key : Raw → List ℕ
raw_key raw = raw.kind ∷ raw.key

-- no key stands twice, and the rows are by rising kind and key
abbrev pub AreRisingRaws : List Raw → Type 0
AreRisingRaws raws = IsRising raw_key raws

-- the rows after a change
abbrev pub told_change : List Raw → Change → List Raw
told_change raws (Put row) = put raw_key (spelling_of row) raws
told_change raws (Drop key) = dropped raw_key (numbers_of_key (key_spelling key)) raws

-- the rows after some changes, one after the other
abbrev pub told_all : List Raw → List Change → List Raw
told_all raws [] = raws
told_all raws (change ∷ changes) = told_all (told_change raws change) changes

-- the rows of the tables, as they are spelled
abbrev pub told_of : Tables → List Raw
told_of t = map spelling_of (rows_of t)

-- ---- what has a spelling

abbrev pub FitsChange : Change → Type 0
FitsChange (Put row) = Fits row
FitsChange (Drop key) = FitsKey key

abbrev pub AreFit : Tables → Type 0
AreFit t = All Fits (rows_of t)

-- ---- rows and blobs

pub record Told : Type 0 where
  pub rows : List Raw
  pub blobs : Blobs
