-- What an opening gives, or why it gives nothing.
use Rattle.std.specs.Prelude.{◌≡◌, ◌≢◌, ◌⊎◌, ℕ, ◌≤◌, List, [], ◌∷◌, map, Option, None, Some, option_map, Result, Ok, Err}
use Rattle.nf_base.specs.declared.changes.Change.TheVariants.{Put}
use Rattle.nf_base.specs.declared.rows.Row.{Row}
use Rattle.nf_keeper.specs.Keeping.{Stored, applied, one_more}
use Rattle.nf_outside.specs.Causes.{Rose}
use Rattle.nf_rows.specs.Faults.{reading}
use Rattle.nf_rows.specs.Spelling.{Fits, Raw, spelling_of}
use Rattle.nf_rules.specs.Rules.{AreUnbroken, first_broken, rules}
use Rattle.nf_site.specs.Kept.{opened_over}
use Rattle.nf_site.specs.Kept as site
use Rattle.nf_told.specs.Told.{Told}
use Rattle.nf_desk.specs.Opening.{AreSpelled, BeginsWithMeta, IsLoaded, IsUnread, OpensTo}
use Rattle.nf_desk.specs.declared.first.First.{First}
use Rattle.nf_desk.specs.declared.first.FirstBlob.{FirstBlob}
use Rattle.nf_desk.specs.declared.first.OpenFault.{OpenFault}
use Rattle.nf_desk.specs.declared.first.OpenFault.TheVariants as fault
use Rattle.nf_desk.specs.declared.first.Opening.{Opening}
use Rattle.nf_desk.specs.declared.first.Opening.TheVariants.{Fresh, Either, Kept}

-- ---- what is opened

abbrev pub first_of : Opening → First
first_of (Fresh first) = first
first_of (Either first) = first
first_of Kept = record { rows = []; blob = None }

-- a store may begin with these rows
pub record AreFirst (rows : List Row) : Type 0 where
  pub unbroken : AreUnbroken rows
  pub meta : BeginsWithMeta rows

abbrev pub MayBegin : Opening → Type 0
MayBegin (Fresh first) = AreFirst first.rows
MayBegin (Either first) = AreFirst first.rows
MayBegin Kept = Unit {0}

-- the keeper is to have no rows
abbrev pub IsFresh : Opening → Type 0
IsFresh (Fresh first) = Unit {0}
IsFresh (Either first) = ⊥
IsFresh Kept = ⊥

-- it may have rows
abbrev pub MayHaveRows : Opening → Type 0
MayHaveRows (Fresh first) = ⊥
MayHaveRows (Either first) = Unit {0}
MayHaveRows Kept = Unit {0}

-- it is to have some
abbrev pub IsKept : Opening → Type 0
IsKept (Fresh first) = ⊥
IsKept (Either first) = ⊥
IsKept Kept = Unit {0}

abbrev pub stored_first : Option FirstBlob → Option Stored
stored_first blob = option_map (λ blob. record { id = blob.id; bytes = blob.bytes.items }) blob

abbrev pub first_blob : First → Option Stored
first_blob first = stored_first first.blob

-- ---- a desk that is opened

-- what is told then: what was, or where no rows were loaded, each of the first rows put at once, and the blob with them
abbrev pub told_first : First → List Raw → Option Told → Option Told
told_first first [] told = option_map (applied (map Put first.rows) (first_blob first)) told
told_first first (raw ∷ raws) told = told

-- the site is over the rows that were loaded, or over the first ones where there are none
pub record Opens (opening : Opening) (before after : Option Told) (site : site.Kept) : Type 0 where
  pub raws : List Raw
  pub loaded : IsLoaded before raws
  pub fresh : IsFresh opening → raws ≡ []
  pub kept : IsKept opening → raws ≢ []
  pub rows : OpensTo (first_of opening).rows raws site.opening
  pub begun : site ≡ opened_over site.opening
  pub told : after ≡ told_first (first_of opening) raws before

-- ---- a desk that isn't

-- some rows were loaded, and that is the first rule that they break
pub record IsBroken (raws : List Raw) (broken : Rattle.nf_rules.specs.Rules.Broken) : Type 0 where
  pub some : raws ≢ []
  pub rows : List Row
  pub spelled : AreSpelled raws rows
  pub first : first_broken rules rows ≡ Some broken

-- some rows were loaded, of which that is true
abbrev pub Loads : Option Told → (List Raw → Type 0) → Type 0
Loads keeper P = (raws : List Raw) × IsLoaded keeper raws × P raws

-- why it isn't. Rows that were to be none are neither read nor judged; want of memory is free
abbrev pub IsFault : Opening → Option Told → OpenFault → Type 0
IsFault opening keeper fault.Failed = Unit {0}
IsFault opening keeper (fault.Unread index why) = MayHaveRows opening × Loads keeper (λ raws. IsUnread raws index why)
IsFault opening keeper (fault.Broken broken) = MayHaveRows opening × Loads keeper (λ raws. IsBroken raws broken)
IsFault opening keeper fault.Memory = Unit {0}
IsFault opening keeper fault.Found = IsFresh opening × Loads keeper (λ raws. raws ≢ [])
IsFault opening keeper fault.Missing = IsKept opening × Loads keeper (λ raws. raws ≡ [])

-- the count of faults rises by one where the keeper failed, and at no other time
abbrev pub CountsFault : ℕ → ℕ → OpenFault → Type 0
CountsFault before now fault.Failed = Rose before now × (before ≤ now)
CountsFault before now (fault.Unread index why) = now ≡ before
CountsFault before now (fault.Broken broken) = now ≡ before
CountsFault before now fault.Memory = now ≡ before
CountsFault before now fault.Found = now ≡ before
CountsFault before now fault.Missing = now ≡ before

abbrev pub CountsOpening : {T : Type 0} → ℕ → ℕ → Result T OpenFault → Type 0
CountsOpening before now (Ok site) = now ≡ before
CountsOpening before now (Err fault) = CountsFault before now fault

-- rows that break no rule are stored, or the keeper fails, or there is no memory
abbrev pub IsBegunFault : OpenFault → Type 0
IsBegunFault fault.Failed = Unit {0}
IsBegunFault fault.Memory = Unit {0}
IsBegunFault other = ⊥

-- the first rows may have been stored, or not, for a failure or for want of memory
abbrev pub MayHaveStored : Option OpenFault → Type 0
MayHaveStored None = Unit {0}
MayHaveStored (Some fault) = IsBegunFault fault

-- the keeper is asked for its rows once, and where it has none, at most once more: to store the first ones
abbrev pub AsksOnce : Option Told → Option ℕ → Option ℕ → Option OpenFault → Type 0
AsksOnce told before after why =
    (after ≡ one_more before) ⊎ ((after ≡ one_more (one_more before)) × IsLoaded told [] × MayHaveStored why)

-- it isn't asked, or once, to store the first rows
abbrev pub AsksToStore : Option ℕ → Option ℕ → Type 0
AsksToStore before after = (after ≡ before) ⊎ (after ≡ one_more before)

-- ---- its parts

-- the row is spelled so
pub record IsSpelled (raw : Raw) (row : Row) : Type 0 where
  pub fit : Fits row
  pub spelled : spelling_of row ≡ raw

-- why the row of that index isn't read
abbrev pub IsUnreadAt : Raw → ℕ → OpenFault → Type 0
IsUnreadAt raw index (fault.Unread at why) = (at ≡ index) × (reading raw.kind raw.key raw.body ≡ Err why)
IsUnreadAt raw index fault.Memory = Unit {0}
IsUnreadAt raw index other = ⊥

-- why some rows aren't read
abbrev pub AreUnread : List Raw → OpenFault → Type 0
AreUnread raws (fault.Unread index why) = IsUnread raws index why
AreUnread raws fault.Memory = Unit {0}
AreUnread raws other = ⊥

-- the rows that are spelled so, or why they aren't read
abbrev pub ReadsRows : List Raw → Result (List Row) OpenFault → Type 0
ReadsRows raws (Ok rows) = AreSpelled raws rows
ReadsRows raws (Err fault) = AreUnread raws fault
