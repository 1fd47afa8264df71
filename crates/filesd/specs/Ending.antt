-- How a run ends in which nothing of the outside fails, over a keeper whose store is as the words ask.
use Rattle.std.specs.Prelude.{◌≡◌, ◌⊎◌, ℕ, List, [], Option, Some}
use Rattle.nf_base.specs.declared.rows.Row.{Row}
use Rattle.nf_desk.specs.Opening.{AreSpelled}
use Rattle.nf_laws.specs.Wholes.{IsSafe}
use Rattle.nf_promises.specs.Complete.{IsUnrisen}
use Rattle.nf_rules.specs.Rules.{AreUnbroken}
use Rattle.nf_server.specs.declared.door.Door.{Ghosts as DoorOf}
use Rattle.nf_server.specs.declared.workers.Worker.{Worker}
use Rattle.nf_told.specs.Told.{Told}
use Rattle.filesd.specs.Doors.{OneRose}
use Rattle.filesd.specs.Outside.{Outside}
use Rattle.filesd.specs.declared.status.Status.{Status}
use Rattle.filesd.specs.declared.status.Status.TheVariants as exit

-- a keeper that tells that it has no rows
abbrev pub IsEmptyStore : Option Told → Type 0
IsEmptyStore told = (it : Told) × (told ≡ Some it) × (it.rows ≡ [])

-- a keeper that tells rows that can be read and break no rule, and has the bytes of each piece that they name
pub record IsSafeStore (told : Option Told) : Type 0 where
  pub it : Told
  pub tells : told ≡ Some it
  pub rows : List Row
  pub spelled : AreSpelled it.rows rows
  pub unbroken : AreUnbroken rows
  pub safe : IsSafe rows it.blobs

-- neither an end nor the keeper failed
pub record NothingFails {C : Type 0} (a b : Outside C) : Type 0 where
  pub keeper : IsUnrisen a.faults b.faults
  pub read : IsUnrisen a.read_faults b.read_faults
  pub write : IsUnrisen a.write_faults b.write_faults

-- what was asked was done, as far as it could be told from the input; or there was no memory
abbrev pub IsWell : Status → Type 0
IsWell exit.Done = Unit {0}
IsWell exit.BadMessage = Unit {0}
IsWell exit.Budget = Unit {0}
IsWell exit.Memory = Unit {0}
IsWell other = ⊥

-- a run of `batch`, over any rows
abbrev pub BatchEndsWell : {C : Type 0} → Outside C → Outside C → Status → Type 0
BatchEndsWell a b status = IsEmptyStore a.told ⊎ IsSafeStore a.told → NothingFails a b → IsWell status

-- or the run had no room for more entries
abbrev pub IsWellFilled : Status → Type 0
IsWellFilled status = IsWell status ⊎ (status ≡ exit.RunFull)

-- a run of `init`, where there are none
abbrev pub InitEndsWell : {C : Type 0} → Outside C → Outside C → Status → Type 0
InitEndsWell a b status = IsEmptyStore a.told → NothingFails a b → (status ≡ exit.Done) ⊎ (status ≡ exit.Memory)

-- a run of `generate`, where there are none, too
abbrev pub GenerateEndsWell : {C : Type 0} → Outside C → Outside C → Status → Type 0
GenerateEndsWell a b status = IsEmptyStore a.told → NothingFails a b → IsWellFilled status

-- a run of `sweep`, where there are some
abbrev pub SweepEndsWell : {C : Type 0} → Outside C → Outside C → Status → Type 0
SweepEndsWell a b status = IsSafeStore a.told → NothingFails a b → (status ≡ exit.Done) ⊎ (status ≡ exit.Memory)

-- a run of `serve`, where there are some, too: of a keeper that told that and failed so often before and after, and of the workers
abbrev pub ServeEndsWell : {I A C Q D : Type 0} → DoorOf D I A → Option Told → ℕ → ℕ → List (Worker D C Q) → List (Worker D C Q) → Status → Type 0
ServeEndsWell door told faults now before after status =
    IsSafeStore told → IsUnrisen faults now → (OneRose door before after → ⊥)
    → (status ≡ exit.Done) ⊎ (status ≡ exit.RunFull) ⊎ (status ≡ exit.Memory)
