-- A run of `serve`, from what its parts say.
use Rattle.std.proofs.Common.{◌≡◌, ◌⊎◌, ⊎_elim, ℕ, ◌<◌, ◌≤◌, ◌-◌, List, [], ◌∷◌, refl, sym, ◌∙◌, ap, subst, inl, inr, arith}
use Rattle.std.specs.Prelude.{Option, None, Some}
use Rattle.std.specs.declared.snapshot.Snapshot.{Snapshot}
use Rattle.nf_base.specs.declared.limits.TheConstants.{MAX_SEATS}
use Rattle.nf_base.specs.declared.rows.Row.{Row}
use Rattle.nf_desk.specs.Desk.{Served, meanings}
use Rattle.nf_desk.specs.Opened.{CountsFault, Opens}
use Rattle.nf_desk.specs.declared.first.OpenFault.{OpenFault}
use Rattle.nf_desk.specs.declared.first.OpenFault.TheVariants as fault
use Rattle.nf_desk.specs.declared.first.Opening.TheVariants.{Kept}
use Rattle.nf_hub.specs.Seats.{memory_of}
use Rattle.nf_hub.specs.declared.hub.HubOf.{HubOf}
use Rattle.nf_hub.specs.declared.seat.SeatOf.{SeatOf}
use Rattle.nf_keeper.specs.declared.keeper.Keeper.{Ghosts as KeeperOf}
use Rattle.nf_outside.specs.Causes.{Rose}
use Rattle.nf_outside.specs.Lent.{Lent, Taken}
use Rattle.nf_outside.specs.declared.traits.Ends.{Ghosts as EndsOf}
use Rattle.nf_rules.specs.Rules.{AreUnbroken}
use Rattle.nf_server.specs.Work.{EndsWork, WorkBeside, Works, both}
use Rattle.nf_server.specs.declared.door.Door.{Ghosts as DoorOf}
use Rattle.nf_server.specs.declared.workers.Worked.{Worked}
use Rattle.nf_server.specs.declared.workers.Worked.TheVariants as worked
use Rattle.nf_server.specs.declared.workers.Worker.{Worker}
use Rattle.nf_site.specs.Held.{Held}
use Rattle.nf_turn.proofs.Poses.{numbers_known}
use Rattle.nf_turn.specs.Prelude.{having_split, IsFresh, longer, Numbers, numbers, numbers_of, of_the_first}
use Rattle.nf_turn.specs.declared.view.Memory.{Memory}
use Rattle.nf_words.specs.declared.history.Entry.{Entry}
use Rattle.filesd.specs.Doors.{OneRose, RunsDoors, ServesDesk, status_of_work}
use Rattle.filesd.specs.Opening.{status_of_fault}
use Rattle.filesd.specs.declared.status.Status.{Status}
use Rattle.filesd.specs.declared.status.Status.TheVariants as exit

both_door : (one rest : Worked) → both one rest ≡ worked.DoorFault → (one ≡ worked.DoorFault) ⊎ (rest ≡ worked.DoorFault)
both_door worked.DoorFault rest is = inl refl
both_door worked.RunFull worked.DoorFault is = inr refl
both_door worked.RunFull worked.All is = absurd (cc)
both_door worked.RunFull worked.RunFull is = absurd (cc)
both_door worked.RunFull worked.Memory is = absurd (cc)
both_door worked.Memory worked.DoorFault is = inr refl
both_door worked.Memory worked.RunFull is = absurd (cc)
both_door worked.Memory worked.All is = absurd (cc)
both_door worked.Memory worked.Memory is = absurd (cc)
both_door worked.All other is = inr is

module _ {K I A C Q D : Type 0} (k : KeeperOf K) (i : EndsOf I) (a : EndsOf A) (reads : Lent C Q → Taken → Lent C Q → Type 0) (door : DoorOf D I A) where
  -- a site was opened over the rows that are kept, and what was done over its desk
  pub opened_runs : (connections : ℕ) (keeper left : K) (before after : List (Worker D C Q)) (status : Status) (site : Option Held)
      (desk : Served K) → Opens Kept (k.told keeper) (k.told desk.keeper) desk.site.kept → AreUnbroken desk.site.kept.opening
      → k.faults desk.keeper ≡ k.faults keeper → IsFresh (meanings k) desk → desk.start.value ≡ desk.keeper
      → ServesDesk k i a reads door connections desk left before after status site
      → RunsDoors k i a reads door connections keeper left before after status site
  opened_runs connections keeper left before after status None desk opens unbroken faults fresh start never = absurd never
  opened_runs connections keeper left before after status (Some site) desk opens unbroken faults fresh start serves = record {
    desk = desk;
    opens = opens;
    unbroken = unbroken;
    faults = faults;
    fresh = fresh;
    start = start;
    serves = serves;
  }

  module _ (keeper left : K) (before after : List (Worker D C Q)) where
    -- what a status says of the keeper and the doors; no run of `serve` has the others
    abbrev pub Says : Status → Type 0
    Says exit.StoreFault = Rose (k.faults keeper) (k.faults left)
    Says exit.DoorFault = OneRose door before after
    Says exit.Words = ⊥
    Says exit.ReadFault = ⊥
    Says exit.WriteFault = ⊥
    Says other = Unit {0}

    fault_says : (why : OpenFault) → CountsFault (k.faults keeper) (k.faults left) why → Says (status_of_fault why)
    fault_says fault.Failed counts = counts.0
    fault_says (fault.Unread index why) counts = tt
    fault_says (fault.Broken broken) counts = tt
    fault_says fault.Memory counts = tt
    fault_says fault.Found counts = tt
    fault_says fault.Missing counts = tt

    work_says : (result : Worked) → (result ≡ worked.DoorFault → OneRose door before after) → Says (status_of_work result)
    work_says worked.All rose = tt
    work_says worked.DoorFault rose = rose refl
    work_says worked.RunFull rose = tt
    work_says worked.Memory rose = tt

  work_rose : (connections : ℕ) (m n : Memory (Served K)) (before after : List (Worker D C Q)) (result : Worked)
      → WorkBeside (longer (meanings k)) (Works k i a reads door connections) m n before after result → result ≡ worked.DoorFault
      → OneRose door before after
  work_rose connections m n [] [] result so is = let all = so.1 in absurd (cc)
  work_rose connections m n [] (w ∷ after) result so is = absurd so
  work_rose connections m n (v ∷ before) [] result so is = absurd so
  work_rose connections m n (v ∷ before) (w ∷ after) result (mine, others, one, rest, works, beside, knows, ends) is =
      ⊎_elim
      (λ (its : one ≡ worked.DoorFault).
      inl (subst (λ (r : Worked). EndsWork k i a reads door connections v.door w.door works.visits r) its works.ends).1)
      (λ (theirs : rest ≡ worked.DoorFault). inr (work_rose connections (having_split m) others before after rest beside theirs))
      (both_door one rest (sym ends ∙ is))

  pub runs_say : (connections : ℕ) (keeper left : K) (before after : List (Worker D C Q)) (status : Status) (site : Option Held)
      → RunsDoors k i a reads door connections keeper left before after status site → Says keeper left before after status
  runs_say connections keeper left before after status None shut =
      subst (λ (s : Status). Says keeper left before after s) (sym shut.status_is)
      (fault_says keeper left before after shut.fault shut.counted)
  runs_say connections keeper left before after status (Some site) runs = here runs.serves
    where
      here : ServesDesk k i a reads door connections runs.desk left before after status (Some site) → Says keeper left before after status
      here (inl none) = subst (λ (s : Status). Says keeper left before after s) (sym none.status_is) tt
      here (inr served) =
          subst (λ (s : Status). Says keeper left before after s) (sym served.status_is)
          (work_says keeper left before after served.result
          (work_rose connections (of_the_first MAX_SEATS runs.desk) served.memory before after served.result served.work))

  -- the work that began with the first seat
  pub work_of : (connections : ℕ) (m n : Memory (Served K)) (desk : Served K) (before after : List (Worker D C Q)) (result : Worked)
      → m ≡ of_the_first MAX_SEATS desk → WorkBeside (longer (meanings k)) (Works k i a reads door connections) m n before after result
      → WorkBeside (longer (meanings k)) (Works k i a reads door connections) (of_the_first MAX_SEATS desk) n before after result
  work_of connections m n desk before after result first work =
      subst (λ (x : Memory (Served K)). WorkBeside (longer (meanings k)) (Works k i a reads door connections) x n before after result) first work

-- the first seat has numbers left for all workers
pub has_left : {K : Type 0} (k : KeeperOf K) (hub : HubOf (Served K) Entry (List Row × Snapshot K))
    (seat : SeatOf (Served K) Entry (List Row × Snapshot K)) (desk : Served K) (count : ℕ) → count < MAX_SEATS
    → memory_of k hub seat ≡ of_the_first MAX_SEATS desk → count ≤ (numbers seat.turns).left
has_left {K} k hub seat desk count few first =
    let left : (numbers seat.turns).left ≡ MAX_SEATS - 1 =
    ap (λ (n : Numbers (Served K)). n.left)
    (sym (numbers_known _ seat.turns.place.me) ∙ ap (λ (m : Memory (Served K)). numbers_of m) first) in
    omega (arith, few, left)
