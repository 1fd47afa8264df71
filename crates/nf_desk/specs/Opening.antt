-- How a site is opened over what a keeper has.
use Rattle.std.specs.Prelude.{◌≡◌, ℕ, All, List, [], ◌∷◌, map, take, Option, Some, Err, slice_get}
use Rattle.nf_base.specs.declared.rows.MetaRow.{MetaRow}
use Rattle.nf_base.specs.declared.rows.Row.{Row}
use Rattle.nf_base.specs.declared.rows.Row.TheVariants.{Meta}
use Rattle.nf_keeper.specs.Keeping.{AreTold}
use Rattle.nf_rows.specs.Faults.{reading}
use Rattle.nf_rows.specs.Spelling.{Fits, Raw, spelling_of}
use Rattle.nf_rows.specs.declared.fault.RowFault.{RowFault}
use Rattle.nf_told.specs.Told.{AreRisingRaws, Told}

-- these rows were loaded, by rising kind and key, and where the keeper tells, they are what it tells
pub record IsLoaded (keeper : Option Told) (raws : List Raw) : Type 0 where
  pub told : AreTold keeper raws
  pub rising : AreRisingRaws raws

-- the rows that are spelled so
pub record AreSpelled (raws : List Raw) (rows : List Row) : Type 0 where
  pub spelled : map spelling_of rows ≡ raws
  pub fit : All Fits rows

-- the first row that can't be read, and why: those before it can
pub record IsUnread (raws : List Raw) (index : ℕ) (fault : RowFault) : Type 0 where
  pub before : (rows : List Row) × AreSpelled (take index raws) rows
  pub raw : Raw
  pub at_index : slice_get raws index ≡ Some raw
  pub unread : reading raw.kind raw.key raw.body ≡ Err fault

-- rows that a store may begin with: the meta row is the first
abbrev pub BeginsWithMeta : List Row → Type 0
BeginsWithMeta rows = (meta : MetaRow) × (others : List Row) × (rows ≡ Meta meta ∷ others)

-- the rows that a site is opened over: those that were loaded, or the first ones where there are none
abbrev pub OpensTo : List Row → List Raw → List Row → Type 0
OpensTo first [] rows = rows ≡ first
OpensTo first (raw ∷ raws) rows = AreSpelled (raw ∷ raws) rows
