-- A run in which nothing of the outside fails.
use Rattle.std.proofs.Common.{◌≡◌, ◌≢◌, ◌⊎◌, ℕ, List, [], refl, sym, ◌∙◌, subst, inl, inr, arith}
use Rattle.std.specs.Prelude.{Option, None, Some, Result, Ok, Err}
use Rattle.std.proofs.lemmas.List.Elements.{All-nil}
use Rattle.nf_base.specs.declared.rows.Row.{Row}
use Rattle.nf_desk.specs.Opened.{CountsFault, IsBroken, IsFault}
use Rattle.nf_desk.specs.Opening.{IsLoaded, IsUnread}
use Rattle.nf_desk.specs.Sweeping.{Sweeps as SweepsDesk}
use Rattle.nf_desk.specs.declared.sweeping.Swept.{Swept}
use Rattle.nf_words.specs.declared.answer.Denial.{Denial}
use Rattle.nf_words.specs.declared.answer.Denial.TheVariants as denial
use Rattle.nf_desk.specs.declared.first.OpenFault.{OpenFault}
use Rattle.nf_desk.specs.declared.first.OpenFault.TheVariants as fault
use Rattle.nf_desk.specs.declared.first.Opening.TheVariants.{Kept}
use Rattle.nf_keeper.specs.declared.keeper.Keeper.{Ghosts as KeeperOf}
use Rattle.nf_outside.specs.Causes.{Rose}
use Rattle.nf_outside.specs.Lent.{Lent, Taken}
use Rattle.nf_outside.specs.declared.traits.Ends.{Ghosts as EndsOf}
use Rattle.nf_promises.proofs.Unfailing.{ends_well}
use Rattle.nf_promises.specs.Complete.{IsUnrisen}
use Rattle.nf_promises.specs.Complete as session
use Rattle.nf_rows.specs.Spelling.{Fits, Raw}
use Rattle.nf_rows.specs.declared.fault.RowFault.{RowFault}
use Rattle.nf_rules.specs.Rules.{Broken}
use Rattle.nf_server.specs.declared.door.Door.{Ghosts as DoorOf}
use Rattle.nf_server.specs.declared.workers.Worked.{Worked}
use Rattle.nf_server.specs.declared.workers.Worked.TheVariants as worked
use Rattle.nf_server.specs.declared.workers.Worker.{Worker}
use Rattle.nf_session.specs.declared.ended.Ended.{Ended}
use Rattle.nf_session.specs.declared.ended.Ended.TheVariants as ended
use Rattle.nf_site.specs.Held.{Held}
use Rattle.nf_told.specs.Told.{Told}
use Rattle.filesd.specs.Doors.{OneRose, RunsDoors, ServesDesk, status_of_work}
use Rattle.filesd.specs.Ending.{BatchEndsWell, InitEndsWell, IsEmptyStore, IsSafeStore, IsWell, NothingFails, ServeEndsWell, SweepEndsWell}
use Rattle.filesd.specs.Init.{Inits, Writes, ready}
use Rattle.filesd.specs.Opening.{IsBad, WhyUnopened, over_any, over_none, status_of_fault, told_opened}
use Rattle.filesd.specs.Outside.{Outside}
use Rattle.filesd.specs.Seat.{book_of, seat}
use Rattle.filesd.specs.Session.{Runs, first_book, scene_of, status_of}
use Rattle.filesd.specs.Sweep.{Sweeps, TellsSwept, beside_keeper}
use Rattle.filesd.specs.declared.status.RowsFault.{RowsFault}
use Rattle.filesd.specs.declared.status.RowsFault.TheVariants as bad
use Rattle.filesd.specs.declared.status.Status.{Status}
use Rattle.filesd.specs.declared.status.Status.TheVariants as exit
use Rattle.filesd.proofs.Spelled.{broken_never, loaded_is, missing_never, unread_never}
use Rattle.filesd.proofs.Safe.{batch_begins}
use Rattle.filesd.proofs.Swept.{sweep_rose}
use Rattle.filesd.proofs.Whole.{stays_whole}
use Rattle.filesd.proofs.Working.{Says, runs_say}

-- ---- what isn't opened

module _ (told : Option Told) (fits : IsEmptyStore told ⊎ IsSafeStore told) where
  not_unread : (raws : List Raw) (index : ℕ) (why : RowFault) → IsLoaded told raws → IsUnread raws index why → ⊥
  not_unread raws index why loaded unread = here fits
    where
      here : IsEmptyStore told ⊎ IsSafeStore told → ⊥
      here (inl (it, tells, none)) =
          unread_never told it [] tells (record { spelled = sym none; fit = All-nil Fits }) raws index why loaded unread
      here (inr good) = unread_never told good.it good.rows good.tells good.spelled raws index why loaded unread

  not_broken : (raws : List Raw) (broken : Broken) → IsLoaded told raws → IsBroken raws broken → ⊥
  not_broken raws broken loaded is = here fits
    where
      here : IsEmptyStore told ⊎ IsSafeStore told → ⊥
      here (inl (it, tells, none)) = is.some (loaded_is told it raws tells loaded ∙ none)
      here (inr good) = broken_never told good.it good.rows good.tells good.spelled good.unbroken raws broken loaded is

  not_bad : (why : RowsFault) → IsBad over_any told why → ⊥
  not_bad (bad.Unread index why) (may, (raws, loaded, is)) = not_unread raws index why loaded is
  not_bad (bad.Broken index rule) (may, (raws, loaded, is)) = not_broken raws (record { rule = rule; index = index }) loaded is
  not_bad bad.Found (fresh, is) = fresh
  not_bad bad.Missing (kept, is) = kept

pub unrisen : (before now : ℕ) → IsUnrisen before now → Rose before now → ⊥
unrisen before now same rose = omega (arith, same.0, same.1, rose)

unopened_well : {C : Type 0} (a b : Outside C) (status : Status) → IsEmptyStore a.told ⊎ IsSafeStore a.told → IsUnrisen a.faults b.faults
    → WhyUnopened over_any a.told a.faults b.faults status → IsWell status
unopened_well a b exit.StoreFault fits unrose why = absurd (unrisen a.faults b.faults unrose why)
unopened_well a b exit.Memory fits unrose why = tt
unopened_well a b (exit.BadRows why) fits unrose is = absurd (not_bad a.told fits why is.1)
unopened_well a b other fits unrose why = absurd why

-- ---- how a run ends

end_well : (end : Option Ended) → session.IsWell end → status_of end ≢ exit.RunFull → IsWell (status_of end)
end_well None is room = tt
end_well (Some ended.Closed) is room = tt
end_well (Some ended.BadMessage) is room = tt
end_well (Some ended.RunFull) is room = absurd (room refl)
end_well (Some ended.Memory) is room = tt
end_well (Some other) is room = absurd is

pub batch_well : {C : Type 0} (reads : C → Taken → C → Type 0) (a b : Outside C) (status : Status) (site : Option Held)
    → Runs reads a b status site → status ≢ exit.RunFull → BatchEndsWell a b status
batch_well reads a b status None unopened room = λ fits nothing. unopened_well a b status fits nothing.keeper unopened.why
batch_well {C} reads a b status (Some site) serves room = λ fits nothing.
    let first = first_book serves.rows (told_opened serves.raws a.told) a.faults in
    let last = book_of site.kept (told_opened serves.raws a.told) b.told b.faults in
    let ends = ends_well reads (scene_of a [] first) (scene_of b serves.kept last) serves.end serves.session
    (record { store = nothing.keeper; read = nothing.read; write = nothing.write })
    (stays_whole first (batch_begins reads a b status site serves fits)) in
    subst (λ (s : Status). IsWell s) (sym serves.ended)
    (end_well serves.end ends (subst (λ (s : Status). s ≢ exit.RunFull) serves.ended room))

-- a run over no rows that wasn't opened
pub unopened_done : {C : Type 0} (a b : Outside C) (status : Status) → IsEmptyStore a.told → WhyUnopened over_none a.told a.faults b.faults status
    → NothingFails a b → (status ≡ exit.Done) ⊎ (status ≡ exit.Memory)
unopened_done a b exit.StoreFault empty rose nothing = absurd (unrisen a.faults b.faults nothing.keeper rose)
unopened_done a b exit.Memory empty is nothing = inr refl
unopened_done a b (exit.BadRows (bad.Unread index why)) empty (same, (may, is)) nothing = absurd may
unopened_done a b (exit.BadRows (bad.Broken index rule)) empty (same, (may, is)) nothing = absurd may
unopened_done a b (exit.BadRows bad.Found) (it, tells, none) (same, (fresh, (raws, loaded, some))) nothing =
    absurd (some (loaded_is a.told it raws tells loaded ∙ none))
unopened_done a b (exit.BadRows bad.Missing) empty (same, (kept, is)) nothing = absurd kept
unopened_done a b other empty never nothing = absurd never

pub init_well : {C : Type 0} (rows : List Row) (a b : Outside C) (status : Status) (site : Option Held) → Inits rows a b status site
    → InitEndsWell a b status
init_well rows a b status None unopened = λ empty nothing. unopened_done a b status empty unopened.why nothing
init_well rows a b status (Some site) begins = λ empty nothing. here status begins.writes nothing
  where
    here : (s : Status) → Writes ready a b s → NothingFails a b → (s ≡ exit.Done) ⊎ (s ≡ exit.Memory)
    here exit.Done is nothing = inl refl
    here exit.WriteFault (rose, part) nothing = absurd (unrisen a.write_faults b.write_faults nothing.write rose)
    here other never nothing = absurd never

pub sweep_well : {C : Type 0} (reads : C → ℕ → C → Type 0) (a b : Outside C) (status : Status) (site : Option Held)
    → Sweeps reads a b status site → SweepEndsWell a b status
sweep_well reads a b status None unopened = λ good nothing. here good status unopened.why nothing
  where
    here : IsSafeStore a.told → (s : Status) → WhyUnopened Kept a.told a.faults b.faults s → NothingFails a b
        → (s ≡ exit.Done) ⊎ (s ≡ exit.Memory)
    here good exit.StoreFault rose nothing = absurd (unrisen a.faults b.faults nothing.keeper rose)
    here good exit.Memory is nothing = inr refl
    here good (exit.BadRows (bad.Unread index why)) (same, (may, (raws, loaded, is))) nothing =
        absurd (not_unread a.told (inr good) raws index why loaded is)
    here good (exit.BadRows (bad.Broken index rule)) (same, (may, (raws, loaded, is))) nothing =
        absurd (not_broken a.told (inr good) raws (record { rule = rule; index = index }) loaded is)
    here good (exit.BadRows bad.Found) (same, (fresh, is)) nothing = absurd fresh
    here good (exit.BadRows bad.Missing) (same, (kept, (raws, loaded, none))) nothing =
        absurd (missing_never a.told good.it good.rows good.tells good.spelled good.unbroken raws loaded none)
    here good other never nothing = absurd never
sweep_well reads a b status (Some site) swept = λ good nothing. here swept.result swept.sweeps status swept.tells nothing
  where
    here : (result : Result Swept Denial) → SweepsDesk seat (beside_keeper a a swept.opened swept.before) (beside_keeper a b site.kept swept.after) swept.now result
        → (s : Status) → TellsSwept result a b s → NothingFails a b → (s ≡ exit.Done) ⊎ (s ≡ exit.Memory)
    here (Ok gone) sweeps exit.Done tells nothing = inl refl
    here (Ok gone) sweeps exit.Memory tells nothing = inr refl
    here (Ok gone) sweeps exit.WriteFault tells nothing = absurd (unrisen a.write_faults b.write_faults nothing.write tells.0)
    here (Ok gone) sweeps other tells nothing = absurd tells
    here (Err denial.Store) sweeps s tells nothing = absurd (unrisen a.faults b.faults nothing.keeper
        (sweep_rose seat (beside_keeper a a swept.opened swept.before) (beside_keeper a b site.kept swept.after) swept.now (Err denial.Store) sweeps refl))
    here (Err other) sweeps s tells nothing = inr tells.0

module _ {K I A C Q D : Type 0} (k : KeeperOf K) (i : EndsOf I) (a : EndsOf A) (reads : Lent C Q → Taken → Lent C Q → Type 0) (door : DoorOf D I A) where
  serve_status : (keeper left : K) (before after : List (Worker D C Q)) (status : Status) (site : Option Held) (connections : ℕ)
      → RunsDoors k i a reads door connections keeper left before after status site
      → Says k i a reads door keeper left before after status → ServeEndsWell door (k.told keeper) (k.faults keeper) (k.faults left) before after status
  serve_status keeper left before after status None connections shut says = λ good unrose quiet.
      subst (λ (s : Status). (s ≡ exit.Done) ⊎ (s ≡ exit.RunFull) ⊎ (s ≡ exit.Memory)) (sym shut.status_is)
      (here good unrose shut.fault shut.why shut.counted)
    where
      here : IsSafeStore (k.told keeper) → IsUnrisen (k.faults keeper) (k.faults left) → (why : OpenFault) → IsFault Kept (k.told keeper) why
          → CountsFault (k.faults keeper) (k.faults left) why
          → (status_of_fault why ≡ exit.Done) ⊎ (status_of_fault why ≡ exit.RunFull) ⊎ (status_of_fault why ≡ exit.Memory)
      here good unrose fault.Failed is counts = absurd (unrisen (k.faults keeper) (k.faults left) unrose counts.0)
      here good unrose (fault.Unread index why) (may, (raws, loaded, is)) counts =
          absurd (not_unread (k.told keeper) (inr good) raws index why loaded is)
      here good unrose (fault.Broken broken) (may, (raws, loaded, is)) counts =
          absurd (not_broken (k.told keeper) (inr good) raws broken loaded is)
      here good unrose fault.Memory is counts = inr (inr refl)
      here good unrose fault.Found (fresh, is) counts = absurd fresh
      here good unrose fault.Missing (kept, (raws, loaded, none)) counts = absurd (missing_never (k.told keeper) good.it good.rows good.tells good.spelled good.unbroken raws loaded none)
  serve_status keeper left before after status (Some site) connections serves says = λ good unrose quiet.
      here serves.serves quiet
    where
      here : ServesDesk k i a reads door connections serves.desk left before after status (Some site) → (OneRose door before after → ⊥)
          → (status ≡ exit.Done) ⊎ (status ≡ exit.RunFull) ⊎ (status ≡ exit.Memory)
      here (inl none) quiet = inr (inr none.status_is)
      here (inr served) quiet = of served.result served.status_is
        where
          of : (result : Worked) → status ≡ status_of_work result → (status ≡ exit.Done) ⊎ (status ≡ exit.RunFull) ⊎ (status ≡ exit.Memory)
          of worked.All is = inl is
          of worked.DoorFault is = absurd (quiet (subst (λ (s : Status). Says k i a reads door keeper left before after s) is says))
          of worked.RunFull is = inr (inl is)
          of worked.Memory is = inr (inr is)

  pub serve_well : (keeper left : K) (before after : List (Worker D C Q)) (status : Status) (site : Option Held) (connections : ℕ)
      → RunsDoors k i a reads door connections keeper left before after status site
      → ServeEndsWell door (k.told keeper) (k.faults keeper) (k.faults left) before after status
  serve_well keeper left before after status site connections runs =
      serve_status keeper left before after status site connections runs
      (runs_say k i a reads door connections keeper left before after status site runs)
