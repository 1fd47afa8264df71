-- A run of `sweep`: one sweep of the first seat, and what is told of it.
use Rattle.std.specs.Prelude.{◌≡◌, ℕ, ◌++◌, List, Option, None, Some, Result, Ok, Err, codes, decimal}
use Rattle.std.specs.Option.{IfSome}
use Rattle.nf_desk.specs.Desk.{Shown, TellsSite, blobs_in}
use Rattle.nf_desk.specs.Opened.{Opens}
use Rattle.nf_desk.specs.Sweeping.{Sweeps as SweepsDesk}
use Rattle.nf_desk.specs.declared.first.Opening.TheVariants.{Kept as OverKept}
use Rattle.nf_desk.specs.declared.sweeping.Swept.{Swept}
use Rattle.nf_outside.specs.Lent.{Lent}
use Rattle.nf_rules.specs.Rules.{AreUnbroken}
use Rattle.nf_site.specs.Held.{Held}
use Rattle.nf_site.specs.Kept.{Kept}
use Rattle.nf_words.specs.declared.answer.Denial.{Denial}
use Rattle.nf_words.specs.declared.answer.Denial.TheVariants as denial
use Rattle.filesd.specs.Init.{Writes}
use Rattle.filesd.specs.Opening.{IsUnopened}
use Rattle.filesd.specs.Outside.{Outside}
use Rattle.filesd.specs.Seat.{seat}
use Rattle.filesd.specs.declared.status.Status.{Status}
use Rattle.filesd.specs.declared.status.Status.TheVariants as exit

-- what `sweep` writes: how many items of the trash and how many uploads went
abbrev pub gone_text : Swept → List ℕ
gone_text gone = codes "items " ++ (decimal gone.items ++ (codes " uploads " ++ (decimal gone.uploads ++ codes "\n")))

-- nothing was written
abbrev pub WritesNothing : {C : Type 0} → Outside C → Outside C → Type 0
WritesNothing a b = (b.written ≡ a.written) × (b.write_faults ≡ a.write_faults)

-- the status, and what was written: all was done, and that was said, but where there was no memory for the text; or the keeper failed, at
-- the step or behind it; or there was no memory for the sweep, since there is room for one in each run
abbrev pub TellsSwept : {C : Type 0} → Result Swept Denial → Outside C → Outside C → Status → Type 0
TellsSwept (Ok gone) a b exit.Memory = WritesNothing a b
TellsSwept (Ok gone) a b status = Writes (gone_text gone) a b status
TellsSwept (Err denial.Store) a b status = (status ≡ exit.StoreFault) × WritesNothing a b
TellsSwept (Err other) a b status = (status ≡ exit.Memory) × WritesNothing a b

-- a desk with that site beside what the keeper told and how often it had failed, and with those strikes, which was opened over the first
abbrev pub beside_keeper : {C : Type 0} → Outside C → Outside C → Kept → List ℕ → Shown
beside_keeper first a site strikes = record {
  site = site;
  told = a.told;
  faults = a.faults;
  strikes = strikes;
  start = record { told = first.told; faults = first.faults };
}

-- the site is opened over the rows that were loaded, of which there are some, and swept at one reading of the clock
pub record IsSwept {C : Type 0} (reads : C → ℕ → C → Type 0) (a b : Outside C) (status : Status) (site : Held) : Type 0 where
  pub opened : Kept
  pub opens : Opens OverKept a.told a.told opened
  pub unbroken : AreUnbroken opened.opening
  pub now : ℕ
  pub read : reads a.lent now b.lent
  pub result : Result Swept Denial
  -- the strikes before and after it
  pub before : List ℕ
  pub after : List ℕ
  pub sweeps : SweepsDesk seat (beside_keeper a a opened before) (beside_keeper a b site.kept after) now result
  pub tells : TellsSwept result a b status
  -- what rows name at the end is there, but for what was damaged at the start
  pub told : IfSome b.told (TellsSite (blobs_in a.told) site.kept)
  pub left : b.left ≡ a.left
  pub begun : b.begun ≡ a.begun
  pub read_faults : b.read_faults ≡ a.read_faults

abbrev pub Sweeps : {C : Type 0} → (C → ℕ → C → Type 0) → Outside C → Outside C → Status → Option Held → Type 0
Sweeps reads a b status None = IsUnopened OverKept a b status
Sweeps reads a b status (Some site) = IsSwept reads a b status site

-- of a clock and dice the clock alone is read
abbrev pub reads_clock : {C D : Type 0} → (C → ℕ → C → Type 0) → Lent C D → ℕ → Lent C D → Type 0
reads_clock reads a moment b = reads a.clock moment b.clock × (b.dice ≡ a.dice)
