-- What the calls of a hub do.
use Rattle.std.specs.Prelude.{◌≡◌, ◌⊎◌, ℕ, ◌<◌, List, [], ◌∷◌, ◌++◌, length, Option, None, Some, Result, Ok, Err, OnOk, slice_get, Vec}
use Rattle.std.specs.Option.{IfSome}
use Rattle.std.specs.declared.alloc.Global.{Global}
use Rattle.nf_base.specs.declared.content.Piece.{Piece}
use Rattle.nf_base.specs.declared.rows.Row.{Row}
use Rattle.nf_defs.specs.Blobs.{Blobs}
use Rattle.nf_laws.specs.Wholes.{IsDamaged}
use Rattle.nf_desk.specs.Desk.{Served, meanings}
use Rattle.nf_desk.specs.Opened.{Opens}
use Rattle.nf_desk.specs.declared.first.OpenFault.{OpenFault}
use Rattle.nf_desk.specs.declared.first.OpenFault.TheVariants.{Memory}
use Rattle.nf_desk.specs.declared.first.Opening.{Opening}
use Rattle.nf_keeper.specs.declared.keeper.Keeper.{Ghosts as KeeperOf}
use Rattle.nf_session.specs.Book.{Answer, Book, GivesPiece, Struck, granted, state_of}
use Rattle.nf_session.specs.declared.backend.Ending.{Ending}
use Rattle.nf_session.specs.declared.backend.Ending.TheVariants as ending
use Rattle.nf_session.specs.declared.backend.PieceFault.{PieceFault}
use Rattle.nf_session.specs.declared.backend.PieceFault.TheVariants as fault
use Rattle.nf_site.specs.Kept.{Kept}
use Rattle.nf_told.specs.Told.{Told}
use Rattle.nf_turn.specs.Prelude.{seen_shelf}
use Rattle.nf_turn.specs.declared.view.Memory.{Memory as MemoryOf}
use Rattle.nf_words.specs.declared.answer.Goal.{Goal}
use Rattle.nf_words.specs.declared.answer.Goal.TheVariants.{Chunk, Serve, Store}
use Rattle.nf_words.specs.declared.answer.Reply.TheVariants.{Granted}
use Rattle.nf_words.specs.Prelude.{blob_to, goal_at, opened, replay}
use Rattle.nf_words.specs.declared.history.Entry.{Entry}
use Rattle.nf_hub.specs.declared.seat.Began.{Began}
use Rattle.nf_hub.specs.declared.seat.Began.TheVariants as began
use Rattle.nf_hub.specs.Seats.{blobs_at_start, strikes_in}

-- ---- asking

abbrev pub answer_of : Began → Answer
answer_of (began.Done reply) = Ok reply
answer_of (began.Granted ticket) = Ok (Granted ticket.goal)
answer_of (began.Refused refusal) = Err refusal

-- what is granted comes with its ticket
abbrev pub IsBegan : Began → Type 0
IsBegan (began.Done reply) = granted (Ok reply) ≡ None
IsBegan (began.Granted ticket) = Unit {0}
IsBegan (began.Refused refusal) = Unit {0}

-- ---- pieces

-- the goal is a GET, whose content has a piece at that index
abbrev pub HasPiece : Goal → ℕ → Type 0
HasPiece goal index = (content : List Piece) × (goal ≡ Serve content) × (index < length content)

-- the seat's ticket stands in the replay of what it has seen
abbrev pub HasTicket : Book → Goal → Type 0
HasTicket b goal = goal_at (state_of b) b.seat ≡ Some goal

-- the keeper's failure is a strike of the seat, and nothing else is
abbrev pub StrikesPiece : ℕ → ℕ → Result (Vec ℕ Global) PieceFault → Type 0
StrikesPiece before now (Err fault.Store) = Struck before now
StrikesPiece before now other = now ≡ before

-- what is damaged was so at the start
abbrev pub WasDamaged : List Row → Option Blobs → Piece → Result (Vec ℕ Global) PieceFault → Type 0
WasDamaged rows start piece (Err (fault.Damaged damage)) = IfSome start (λ blobs. IsDamaged rows blobs piece)
WasDamaged rows start piece other = Unit {0}

-- the seat's shelf has the bytes under the number, and had no others there
pub record Shelves {K : Type 0} (k : KeeperOf K) (a b : MemoryOf (Served K)) (blob : ℕ) (bytes : List ℕ) : Type 0 where
  pub has : seen_shelf (meanings k) b blob ≡ Some bytes
  pub had : (before : List ℕ) → seen_shelf (meanings k) a blob ≡ Some before → before ≡ bytes

-- where the keeper tells, the bytes of a piece are on the shelf
abbrev pub ShelvesPiece : {K : Type 0} → KeeperOf K → MemoryOf (Served K) → MemoryOf (Served K) → Piece → Result (Vec ℕ Global) PieceFault → Type 0
ShelvesPiece k a b piece (Ok bytes) = IfSome (blobs_at_start k a) (λ _. Shelves k a b piece.blob bytes.items)
ShelvesPiece k a b piece (Err why) = Unit {0}

-- what a call for a piece does beside what it gives
pub record AsksPiece {K : Type 0} (k : KeeperOf K) (a b : MemoryOf (Served K)) (content : List Piece) (index : ℕ)
    (result : Result (Vec ℕ Global) PieceFault) : Type 0 where
  pub piece : Piece
  pub at_index : slice_get content index ≡ Some piece
  pub strikes : StrikesPiece (strikes_in a) (strikes_in b) result
  pub damaged : WasDamaged a.first.site.kept.opening (blobs_at_start k a) piece result
  pub shelved : ShelvesPiece k a b piece result

-- the same of what was granted, which is a GET
abbrev pub AsksGoal : {K : Type 0} → KeeperOf K → MemoryOf (Served K) → MemoryOf (Served K) → Goal → ℕ → Result (Vec ℕ Global) PieceFault → Type 0
AsksGoal k a b (Serve content) index result = AsksPiece k a b content index result
AsksGoal k a b (Store by key length) index result = ⊥
AsksGoal k a b (Chunk user dir number length) index result = ⊥

abbrev pub GivesGoal : Book → Book → Goal → ℕ → Result (Vec ℕ Global) PieceFault → Type 0
GivesGoal a b (Serve content) index result = GivesPiece a b content index result
GivesGoal a b (Store by key length) index result = ⊥
GivesGoal a b (Chunk user dir number length) index result = ⊥

-- ---- the End

-- where the keeper tells, the body is on the shelf, under the number of the blob that the step stores
abbrev pub ShelvesBody : {K : Type 0} → KeeperOf K → MemoryOf (Served K) → MemoryOf (Served K) → List ℕ → Answer → Type 0
ShelvesBody k a b body answer = OnOk answer (IfSome (blobs_at_start k a) (λ _.
    (others : List Entry) (e : Entry) (id : ℕ) → b.known.site.kept.history ≡ (a.known.site.kept.history ++ others) ++ e ∷ []
    → blob_to (replay (opened a.first.site.kept.opening) (a.known.site.kept.history ++ others)) e.seat e.moment e.event ≡ Some id
    → seen_shelf (meanings k) b id ≡ Some body))

abbrev pub ShelvesEnding : {K : Type 0} → KeeperOf K → MemoryOf (Served K) → MemoryOf (Served K) → Ending → Answer → Type 0
ShelvesEnding k a b ending.Sent answer = Unit {0}
ShelvesEnding k a b ending.Gone answer = Unit {0}
ShelvesEnding k a b (ending.Body bytes) answer = ShelvesBody k a b bytes.items answer

-- ---- the start

-- a hub that isn't started leaves what the keeper tells; or it was opened over that, and then there was no memory
abbrev pub LeavesKeeper : Opening → Option Told → Option Told → OpenFault → Type 0
LeavesKeeper opening before after why = (after ≡ before) ⊎ ((why ≡ Memory) × ((site : Kept) × Opens opening before after site))
