-- What a run is opened over, or why it isn't.
use Rattle.std.specs.Prelude.{◌≡◌, ℕ, List, [], ◌∷◌, map, Option, None, Some, option_map}
use Rattle.nf_base.specs.declared.changes.Change.TheVariants.{Put}
use Rattle.nf_base.specs.declared.rows.Row.{Row}
use Rattle.nf_desk.specs.Opened.{IsFault}
use Rattle.nf_desk.specs.declared.first.First.{First}
use Rattle.nf_desk.specs.declared.first.OpenFault.{OpenFault}
use Rattle.nf_desk.specs.declared.first.OpenFault.TheVariants as fault
use Rattle.nf_desk.specs.declared.first.Opening.{Opening}
use Rattle.nf_desk.specs.declared.first.Opening.TheVariants.{Fresh, Either}
use Rattle.nf_keeper.specs.Keeping.{Stored, applied}
use Rattle.nf_outside.specs.Causes.{Rose}
use Rattle.nf_rows.specs.Spelling.{Raw}
use Rattle.nf_site.specs.Demo.{demo_rows, hello}
use Rattle.nf_told.specs.Told.{Told}
use Rattle.filesd.specs.Outside.{Outside, Untouched}
use Rattle.filesd.specs.declared.status.RowsFault.{RowsFault}
use Rattle.filesd.specs.declared.status.RowsFault.TheVariants as rows
use Rattle.filesd.specs.declared.status.Status.{Status}
use Rattle.filesd.specs.declared.status.Status.TheVariants as exit

-- the blob of the demonstration rows
abbrev pub demo_blob : Option Stored
demo_blob = Some (record { id = 1; bytes = hello })

-- what is told when the first rows were stored, with a blob if they have one
abbrev pub told_first : List Row → Option Stored → Option Told → Option Told
told_first first blob told = option_map (applied (map Put first) blob) told

-- what is told when a site was opened over what was loaded: where that is nothing, the demonstration rows were stored
abbrev pub told_opened : List Raw → Option Told → Option Told
told_opened [] told = told_first demo_rows demo_blob told
told_opened (raw ∷ raws) told = told

-- a run of `batch` is opened over any rows, and one of `init` where there are none
abbrev pub no_rows : First
no_rows = record { rows = []; blob = None }

abbrev pub over_any : Opening
over_any = Either no_rows

abbrev pub over_none : Opening
over_none = Fresh no_rows

-- no site is opened over what the keeper has
abbrev pub IsBad : Opening → Option Told → RowsFault → Type 0
IsBad opening told (rows.Unread index why) = IsFault opening told (fault.Unread index why)
IsBad opening told (rows.Broken index rule) = IsFault opening told (fault.Broken (record { rule = rule; index = index }))
IsBad opening told rows.Found = IsFault opening told fault.Found
IsBad opening told rows.Missing = IsFault opening told fault.Missing

-- the status of an opening that failed
abbrev pub status_of_fault : OpenFault → Status
status_of_fault fault.Failed = exit.StoreFault
status_of_fault (fault.Unread index why) = exit.BadRows (rows.Unread index why)
status_of_fault (fault.Broken broken) = exit.BadRows (rows.Broken broken.index broken.rule)
status_of_fault fault.Memory = exit.Memory
status_of_fault fault.Found = exit.BadRows rows.Found
status_of_fault fault.Missing = exit.BadRows rows.Missing

-- the keeper failed; or there was no memory; or what it has is bad
abbrev pub WhyUnopened : Opening → Option Told → ℕ → ℕ → Status → Type 0
WhyUnopened opening told before now exit.StoreFault = Rose before now
WhyUnopened opening told before now exit.Memory = now ≡ before
WhyUnopened opening told before now (exit.BadRows why) = (now ≡ before) × IsBad opening told why
WhyUnopened opening told before now other = ⊥

-- no site was opened, and nothing was done
pub record IsUnopened {C : Type 0} (opening : Opening) (a b : Outside C) (status : Status) : Type 0 where
  pub untouched : Untouched a b
  pub why : WhyUnopened opening a.told a.faults b.faults status
