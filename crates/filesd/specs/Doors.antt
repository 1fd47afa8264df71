-- A run of `serve`: workers serve the connections of their doors over the rows that the keeper has.
use Rattle.std.specs.Prelude.{◌≡◌, ◌⊎◌, ℕ, List, [], ◌∷◌, Option, None, Some}
use Rattle.nf_base.specs.declared.limits.TheConstants.{MAX_SEATS}
use Rattle.nf_desk.specs.Desk.{Served, meanings}
use Rattle.nf_desk.specs.Opened.{CountsFault, IsFault, Opens}
use Rattle.nf_desk.specs.declared.first.OpenFault.{OpenFault}
use Rattle.nf_desk.specs.declared.first.Opening.TheVariants.{Kept}
use Rattle.nf_hub.specs.Closing.{Closes}
use Rattle.nf_keeper.specs.declared.keeper.Keeper.{Ghosts as KeeperOf}
use Rattle.nf_outside.specs.Causes.{Rose}
use Rattle.nf_outside.specs.Lent.{Lent, Taken}
use Rattle.nf_outside.specs.declared.traits.Ends.{Ghosts as EndsOf}
use Rattle.nf_rules.specs.Rules.{AreUnbroken}
use Rattle.nf_server.specs.Work.{WorkBeside, Works}
use Rattle.nf_server.specs.declared.door.Door.{Ghosts as DoorOf}
use Rattle.nf_server.specs.declared.workers.Worked.{Worked}
use Rattle.nf_server.specs.declared.workers.Worked.TheVariants as worked
use Rattle.nf_server.specs.declared.workers.Worker.{Worker}
use Rattle.nf_site.specs.Held.{Held}
use Rattle.nf_turn.specs.Prelude.{HasHeard, IsFresh, longer, of_the_first}
use Rattle.nf_turn.specs.declared.view.Memory.{Memory}
use Rattle.filesd.specs.Opening.{status_of_fault}
use Rattle.filesd.specs.declared.status.Status.{Status}
use Rattle.filesd.specs.declared.status.Status.TheVariants as exit

-- the status of the workers' end
abbrev pub status_of_work : Worked → Status
status_of_work worked.All = exit.Done
status_of_work worked.DoorFault = exit.DoorFault
status_of_work worked.RunFull = exit.RunFull
status_of_work worked.Memory = exit.Memory

module _ {K I A C Q D : Type 0} (k : KeeperOf K) (i : EndsOf I) (a : EndsOf A) (reads : Lent C Q → Taken → Lent C Q → Type 0) (door : DoorOf D I A) where
  -- no site was opened, and no worker did anything
  pub record IsShut (keeper left : K) (before after : List (Worker D C Q)) (status : Status) : Type 0 where
    pub workers : after ≡ before
    pub told : k.told left ≡ k.told keeper
    pub fault : OpenFault
    pub status_is : status ≡ status_of_fault fault
    pub why : IsFault Kept (k.told keeper) fault
    pub counted : CountsFault (k.faults keeper) (k.faults left) fault

  -- there was no memory to serve a desk
  pub record IsUnserved (desk : Served K) (left : K) (before after : List (Worker D C Q)) (status : Status) (site : Held) : Type 0 where
    pub workers : after ≡ before
    pub site_is : site ≡ desk.site
    pub keeper_is : left ≡ desk.keeper
    pub status_is : status ≡ exit.Memory

  -- it was served by the workers, whose seats were split from the first of `MAX_SEATS`, and joined into it again
  pub record IsServed (connections : ℕ) (desk : Served K) (left : K) (before after : List (Worker D C Q)) (status : Status) (site : Held) : Type 0 where
    pub memory : Memory (Served K)
    pub result : Worked
    pub work : WorkBeside (longer (meanings k)) (Works k i a reads door connections) (of_the_first MAX_SEATS desk)
        memory before after result
    -- what it knows of begins with what each worker's seat knew of
    pub heard : HasHeard (meanings k) memory
    pub closes : Closes k memory site left
    pub status_is : status ≡ status_of_work result

  abbrev pub ServesDesk : ℕ → Served K → K → List (Worker D C Q) → List (Worker D C Q) → Status → Option Held → Type 0
  ServesDesk connections desk left before after status None = ⊥
  ServesDesk connections desk left before after status (Some site) =
      IsUnserved desk left before after status site ⊎ IsServed connections desk left before after status site

  -- a desk was opened over the rows that were loaded, of which there are some
  pub record ServesDoors (connections : ℕ) (keeper left : K) (before after : List (Worker D C Q)) (status : Status) (site : Held) : Type 0 where
    pub desk : Served K
    pub opens : Opens Kept (k.told keeper) (k.told desk.keeper) desk.site.kept
    pub unbroken : AreUnbroken desk.site.kept.opening
    pub faults : k.faults desk.keeper ≡ k.faults keeper
    pub fresh : IsFresh (meanings k) desk
    pub start : desk.start.value ≡ desk.keeper
    pub serves : ServesDesk connections desk left before after status (Some site)

  abbrev pub RunsDoors : ℕ → K → K → List (Worker D C Q) → List (Worker D C Q) → Status → Option Held → Type 0
  RunsDoors connections keeper left before after status None = IsShut keeper left before after status
  RunsDoors connections keeper left before after status (Some site) = ServesDoors connections keeper left before after status site

-- one of the doors counted a fault
abbrev pub OneRose : {I A C Q D : Type 0} → DoorOf D I A → List (Worker D C Q) → List (Worker D C Q) → Type 0
OneRose door [] after = ⊥
OneRose door (a ∷ before) [] = ⊥
OneRose door (a ∷ before) (b ∷ after) = Rose (door.faults a.door) (door.faults b.door) ⊎ OneRose door before after
