-- One run after the other: the next is opened over what this one left.
use Rattle.std.specs.Prelude.{◌≡◌, ◌⊎◌, ℕ, All, List, [], ◌∷◌, ◌++◌, Option, Some, IsSome}
use Rattle.nf_base.specs.declared.limits.TheConstants.{MAX_SEATS}
use Rattle.nf_base.specs.declared.content.Piece.{Piece}
use Rattle.nf_base.specs.declared.rows.Row.{Row}
use Rattle.nf_defs.specs.Prelude.{Blobs, rows_of, Tables}
use Rattle.nf_desk.specs.Desk.{Served, meanings}
use Rattle.nf_desk.specs.Opened.{IsFault, Opens}
use Rattle.nf_desk.specs.declared.first.OpenFault.TheVariants as fault
use Rattle.nf_desk.specs.declared.first.Opening.{Opening}
use Rattle.nf_hub.specs.Seats.{book_in}
use Rattle.nf_keeper.specs.declared.keeper.Keeper.{Ghosts as KeeperOf}
use Rattle.nf_laws.specs.Wholes.{IsDamaged, IsNamed, IsThere}
use Rattle.nf_outside.specs.Lent.{Lent, Taken}
use Rattle.nf_outside.specs.declared.traits.Ends.{Ghosts as EndsOf}
use Rattle.nf_promises.specs.Complete.{StaysWhole}
use Rattle.nf_rows.specs.Spelling.{Fits}
use Rattle.nf_rows.specs.declared.fault.RowFault.{RowFault}
use Rattle.nf_rules.specs.Rules.{AreUnbroken, Broken}
use Rattle.nf_server.specs.Work.{Visited, WorkBeside, Works}
use Rattle.nf_server.specs.declared.door.Door.{Ghosts as DoorOf}
use Rattle.nf_server.specs.declared.workers.Worked.{Worked}
use Rattle.nf_server.specs.declared.workers.Worker.{Worker}
use Rattle.nf_session.specs.Prelude.{Book, Scene, Session, TellsRows, Through, state_of}
use Rattle.nf_session.specs.declared.ended.Ended.{Ended}
use Rattle.nf_site.specs.Held.{Held}
use Rattle.nf_site.specs.Kept.{IsHistory, Kept}
use Rattle.nf_told.specs.Told.{Told}
use Rattle.nf_turn.specs.Prelude.{having_split, longer, of_the_first, split_from}
use Rattle.nf_turn.specs.declared.view.Memory.{Memory}
use Rattle.nf_words.specs.Prelude.{opened, replay}
use Rattle.nf_words.specs.declared.history.Entry.{Entry}
use Rattle.filesd.specs.Doors.{IsServed, ServesDoors}
use Rattle.filesd.specs.Ending.{IsEmptyStore, IsSafeStore}
use Rattle.filesd.specs.Opening.{told_opened}
use Rattle.filesd.specs.Outside.{Outside}
use Rattle.filesd.specs.Reopening.{Leaves}
use Rattle.filesd.specs.Session.{Serves, first_book}
use Rattle.filesd.specs.declared.status.Status.{Status}

-- ---- the rows

-- an opening over a keeper that tells that: no row is found that can't be read or that breaks a rule, and there are some; and a site that
-- is opened has these very tables, and leaves what is told
pub record OpensTables (t : Tables) (told : Option Told) : Type 0 where
  pub read : (opening : Opening) (index : ℕ) (why : RowFault) → IsFault opening told (fault.Unread index why) → ⊥
  pub unbroken : (opening : Opening) (broken : Broken) → IsFault opening told (fault.Broken broken) → ⊥
  pub there : (opening : Opening) → IsFault opening told fault.Missing → ⊥
  pub rows : (opening : Opening) (after : Option Told) (site : Kept) → Opens opening told after site → site.opening ≡ rows_of t
  pub tables : (opening : Opening) (after : Option Told) (site : Kept) → Opens opening told after site → site.state.tables ≡ t
  pub same : (opening : Opening) (after : Option Told) (site : Kept) → Opens opening told after site → after ≡ told

-- so it is over a keeper that tells, behind a run: the tables are those that its last entry left
abbrev pub OpensOnward : Type 0
OpensOnward =
    (k : Kept) (told : Option Told) → Leaves k told → IsSome told → OpensTables (replay (opened k.opening) k.history).tables told

-- so it is over a keeper that tells the rows that a seat knew at an answer, where what it had seen is a front of a run's history: also of a
-- run that was cut off behind that answer
abbrev pub OpensBehindAnswers : Type 0
OpensBehindAnswers =
    (k : Kept) (b : Book) (later : List Entry) (it : Told) → IsHistory k → AreUnbroken k.opening → All Fits k.opening
    → b.opening ≡ k.opening → k.history ≡ b.known ++ later → TellsRows b → b.rows ≡ Some it.rows → OpensTables (state_of b).tables (Some it)

-- ---- the bytes

-- rows that break no rule, and a store that tells, in which none of the pieces that they name is damaged
pub record AreUndamaged (rows : List Row) (told : Option Blobs) : Type 0 where
  pub shelf : Blobs
  pub tells : told ≡ Some shelf
  pub unbroken : AreUnbroken rows
  pub none : (piece : Piece) → IsDamaged rows shelf piece → ⊥

-- the store that a seat knows tells, and was so for the rows of the opening when the run began
pub record IsUndamaged (b : Book) : Type 0 where
  pub tells : IsSome b.told
  pub start : AreUndamaged b.opening b.start

-- where a session begins so, nothing that is named is damaged at any message of it, however many were answered before; and it ends so
abbrev pub StayWhole : {C : Type 0} → (C → Taken → C → Type 0) → Type 0
StayWhole {C} reads =
    ((a x : Scene C) (front : List (Scene C)) → Through reads a front x → IsUndamaged a.book → StaysWhole x.book)
    × ((a b : Scene C) (end : Option Ended) → Session reads a b end → IsUndamaged a.book → IsUndamaged b.book)

-- a store with rows that can be read again, or one without rows
abbrev pub IsGoodStore : Option Told → Type 0
IsGoodStore told = IsEmptyStore told ⊎ IsSafeStore told

-- a safe store is left safe, and one without rows is left so or safe
pub record KeepsSafe (before after : Option Told) : Type 0 where
  pub safe : IsSafeStore before → IsSafeStore after
  pub empty : IsEmptyStore before → IsGoodStore after

-- ---- both

-- the rows of what is opened are the tables that a run's last entry left, and the bytes of each piece that they name are there
pub record IsThereAgain (k site : Kept) (told : Option Told) : Type 0 where
  pub rows : site.opening ≡ rows_of (replay (opened k.opening) k.history).tables
  pub it : Told
  pub tells : told ≡ Some it
  pub pieces : (piece : Piece) → IsNamed site.opening piece → IsThere it.blobs piece

-- so it is, whatever is opened over what a run left of a safe store
abbrev pub LeftIsThere : Type 0
LeftIsThere =
    (k site : Kept) (told after : Option Told) (opening : Opening) → Leaves k told → IsSafeStore told → Opens opening told after site
    → IsThereAgain k site after

-- ---- what a run begins with

-- a session of `batch` over such a store
abbrev pub BatchBeginsWhole : {C : Type 0} → (C → Taken → C → Type 0) → Type 0
BatchBeginsWhole {C} reads =
    (a b : Outside C) (status : Status) (site : Held) (serves : Serves reads a b status site) → IsGoodStore a.told
    → IsUndamaged (first_book serves.rows (told_opened serves.raws a.told) a.faults)

module _ {K I A C Q D : Type 0} (k : KeeperOf K) (i : EndsOf I) (a : EndsOf A) (reads : Lent C Q → Taken → Lent C Q → Type 0) (door : DoorOf D I A) where
  -- a worker's sessions, of which the first finds this
  abbrev pub VisitsBeginWhole : Book → List (Visited K I A C Q) → Type 0
  VisitsBeginWhole book [] = Unit {0}
  VisitsBeginWhole book (v ∷ visits) = IsUndamaged book × VisitsBeginWhole (book_in k v.memory) visits

  -- those of all workers
  abbrev pub WorkBeginsWhole : (connections : ℕ) (m n : Memory (Served K)) (before after : List (Worker D C Q)) (result : Worked)
      → WorkBeside (longer (meanings k)) (Works k i a reads door connections) m n before after result → Type 0
  WorkBeginsWhole connections m n [] [] result work = Unit {0}
  WorkBeginsWhole connections m n [] (b ∷ after) result work = ⊥
  WorkBeginsWhole connections m n (a ∷ before) [] result work = ⊥
  WorkBeginsWhole connections m n (a ∷ before) (b ∷ after) result (mine, others, one, rest, works, beside, knows, ends) =
      VisitsBeginWhole (book_in k (split_from m)) works.visits × WorkBeginsWhole connections (having_split m) others before after rest beside

  -- in a run of `serve` over such a store
  abbrev pub ServeBeginsWhole : Type 0
  ServeBeginsWhole =
      (connections : ℕ) (keeper left : K) (before after : List (Worker D C Q)) (status : Status) (site : Held)
      (runs : ServesDoors k i a reads door connections keeper left before after status site)
      (served : IsServed k i a reads door connections runs.desk left before after status site) → IsSafeStore (k.told keeper)
      → WorkBeginsWhole connections (of_the_first MAX_SEATS runs.desk) served.memory before after served.result served.work
