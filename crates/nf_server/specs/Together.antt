-- Many workers, one history: where the sessions of each stand in the history of the site.
use Rattle.std.specs.Prelude.{◌≡◌, ℕ, ◌+◌, ◌<◌, ◌≤◌, List, [], ◌∷◌, ◌++◌, length, Some}
use Rattle.nf_base.specs.declared.limits.TheConstants.{MAX_ENTRIES}
use Rattle.nf_base.specs.declared.rows.Row.{Row}
use Rattle.nf_desk.specs.Desk.{Served, meanings}
use Rattle.nf_hub.specs.Seats.{book_in}
use Rattle.nf_keeper.specs.declared.keeper.Keeper.{Ghosts as KeeperOf}
use Rattle.nf_outside.specs.Lent.{Lent, Taken}
use Rattle.nf_outside.specs.declared.traits.Ends.{Ghosts as EndsOf}
use Rattle.nf_session.specs.Prelude.{Book, entries_wanted, own_from, state_of}
use Rattle.nf_session.specs.declared.ended.Ended.TheVariants.{RunFull as EndedFull}
use Rattle.nf_turn.specs.Prelude.{having_split, longer, split_from}
use Rattle.nf_turn.specs.declared.view.Memory.{Memory}
use Rattle.nf_words.specs.Prelude.{opened}
use Rattle.nf_words.specs.declared.history.Entry.{Entry}
use Rattle.nf_server.specs.Work.{Visited, WorkBeside, Works}
use Rattle.nf_server.specs.declared.door.Door.{Ghosts as DoorOf}
use Rattle.nf_server.specs.declared.workers.Worked.{Worked}
use Rattle.nf_server.specs.declared.workers.Worker.{Worker}

-- a session stands in a history over these rows, by what its seat knew before it and after it. Behind all that the seat had seen comes a
-- piece of the history, and then what came later. The entries that the session made, with the answers that it was given, are those of its
-- seat in that piece, in their order, with their answers there
pub record StandsIn (rows : List Row) (history : List Entry) (a b : Book) : Type 0 where
  pub opening : a.opening ≡ rows
  pub seat : b.seat ≡ a.seat
  pub piece : List Entry
  pub later : List Entry
  pub known : b.known ≡ a.known ++ piece
  pub history_is : history ≡ b.known ++ later
  pub own : b.own ≡ a.own ++ own_from a.seat (state_of a) piece

-- a session that ended because the run is full: what its seat had seen at its end, a front of the history, has no room for two entries
-- more; and the history has 262,143 entries at least
pub record SawFull (history : List Entry) (b : Book) : Type 0 where
  pub seen : MAX_ENTRIES < entries_wanted b
  pub long : MAX_ENTRIES ≤ length history + 1

-- the seat of a worker when it begins: it has that number, and has seen nothing but the rows
pub record IsNewSeat (number : ℕ) (a : Book) : Type 0 where
  pub seat : a.seat ≡ number
  pub known : a.known ≡ []

module _ {K S O C Q : Type 0} (k : KeeperOf K) where
  -- the sessions of a worker stand there one behind the other, each behind all that the worker had seen before it; and the history has no
  -- other entry of its seat
  abbrev pub StandInTurn : List Row → List Entry → Book → List (Visited K S O C Q) → Type 0
  StandInTurn rows history a [] = own_from a.seat (opened rows) history ≡ a.own
  StandInTurn rows history a (v ∷ visits) =
      StandsIn rows history a (book_in k v.memory) × (v.ended ≡ Some EndedFull → SawFull history (book_in k v.memory))
      × StandInTurn rows history (book_in k v.memory) visits

module _ {K S O C Q D : Type 0} (k : KeeperOf K) (s : EndsOf S) (o : EndsOf O) (reads : Lent C Q → Taken → Lent C Q → Type 0) (door : DoorOf D S O)
    (connections : ℕ) where
  -- so do those of all workers, whose seats have the numbers from this one on
  abbrev pub AllStand : List Row → List Entry → ℕ → (m n : Memory (Served K)) (before after : List (Worker D C Q)) (result : Worked)
      → WorkBeside (longer (meanings k)) (Works k s o reads door connections) m n before after result → Type 0
  AllStand rows history number m n [] [] result work = Unit {0}
  AllStand rows history number m n [] (b ∷ after) result work = ⊥
  AllStand rows history number m n (a ∷ before) [] result work = ⊥
  AllStand rows history number m n (a ∷ before) (b ∷ after) result (mine, others, one, rest, works, beside, knows, ends) =
      IsNewSeat number (book_in k (split_from m)) × StandInTurn k rows history (book_in k (split_from m)) works.visits
      × AllStand rows history (number + 1) (having_split m) others before after rest beside
