-- What the sessions of a run of `serve` have in common: the history of the site that it hands out.
use Rattle.std.specs.Prelude.{◌≡◌, ℕ, ◌+◌, ◌<◌, ◌≤◌, All, List, length}
use Rattle.nf_base.specs.declared.limits.TheConstants.{MAX_ENTRIES, MAX_SEATS}
use Rattle.nf_keeper.specs.declared.keeper.Keeper.{Ghosts as KeeperOf}
use Rattle.nf_outside.specs.Lent.{Lent, Taken}
use Rattle.nf_outside.specs.declared.traits.Ends.{Ghosts as EndsOf}
use Rattle.nf_server.specs.Together.{AllStand}
use Rattle.nf_server.specs.declared.door.Door.{Ghosts as DoorOf}
use Rattle.nf_server.specs.declared.workers.Worker.{Worker}
use Rattle.nf_site.specs.Held.{Held}
use Rattle.nf_turn.specs.Prelude.{of_the_first}
use Rattle.nf_words.specs.declared.history.Entry.{Entry}
use Rattle.filesd.specs.Doors.{IsServed, ServesDoors}
use Rattle.filesd.specs.declared.status.Status.{Status}
use Rattle.filesd.specs.declared.status.Status.TheVariants as exit

-- an entry of one of so many seats, whose numbers are from that one on
abbrev pub IsOfSeats : ℕ → ℕ → Entry → Type 0
IsOfSeats first count e = (first ≤ e.seat) × (e.seat < first + count)

module _ {K I A C Q D : Type 0} (k : KeeperOf K) (i : EndsOf I) (a : EndsOf A) (reads : Lent C Q → Taken → Lent C Q → Type 0) (door : DoorOf D I A) where
  -- the sessions of all workers stand in the history of the site, with the answers that they were given; the workers' seats have the
  -- numbers from 2 on, and no other seat has an entry there. Where the run was full, that history has 262,143 entries at least
  pub record StandTogether (connections : ℕ) (keeper left : K) (before after : List (Worker D C Q)) (status : Status) (site : Held)
      (runs : ServesDoors k i a reads door connections keeper left before after status site)
      (served : IsServed k i a reads door connections runs.desk left before after status site) : Type 0 where
    pub stand : AllStand k i a reads door connections site.kept.opening site.kept.history 2 (of_the_first MAX_SEATS runs.desk) served.memory
        before after served.result served.work
    pub whose : All (IsOfSeats 2 (length before)) site.kept.history
    pub full : status ≡ exit.RunFull → MAX_ENTRIES ≤ length site.kept.history + 1

  -- so it is of each run of `serve` that was served
  abbrev pub ShareOneHistory : Type 0
  ShareOneHistory =
      (connections : ℕ) (keeper left : K) (before after : List (Worker D C Q)) (status : Status) (site : Held)
      (runs : ServesDoors k i a reads door connections keeper left before after status site)
      (served : IsServed k i a reads door connections runs.desk left before after status site)
      → length before < MAX_SEATS → StandTogether connections keeper left before after status site runs served
