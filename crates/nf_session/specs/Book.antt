-- What a seat knows of the site: the history that it has seen, its own entries with their answers, and the blobs.
use Rattle.std.specs.Prelude.{◌≡◌, ◌≢◌, ◌⊎◌, ℕ, Bool, true, false, max, min, ◌+◌, ◌-◌, ◌^◌, ◌<◌, ◌≤◌, ◌==◌, List, [], ◌∷◌, ◌++◌, length, Option, None, Some, Result, Ok, Err, OnOk, if◌then◌else◌, slice_get, IfSome, MatchBool, Vec, option_map}
use Rattle.std.specs.declared.alloc.Global.{Global}
use Rattle.sha2.specs.Sha256.{sha256}
use Rattle.nf_base.specs.declared.content.Piece.{Piece}
use Rattle.nf_base.specs.declared.limits.TheConstants.{MAX_BODY, MAX_ENTRIES}
use Rattle.nf_base.specs.declared.rows.Row.{Row}
use Rattle.nf_defs.specs.Blobs.{Blobs, blob_at}
use Rattle.nf_laws.specs.Wholes.{IsDamaged}
use Rattle.nf_rows.specs.Spelling.{Raw}
use Rattle.nf_told.specs.Told.{AreFit, told_of}
use Rattle.nf_words.specs.Prelude.{after, answer_at, blob_to, IsLegal, MayBring, MayCome, opened, replay, State}
use Rattle.nf_words.specs.declared.answer.Damage.{Damage}
use Rattle.nf_words.specs.declared.answer.Denial.{Denial}
use Rattle.nf_words.specs.declared.answer.Measure.{Measure}
use Rattle.nf_words.specs.declared.answer.Denial.TheVariants as denial
use Rattle.nf_words.specs.declared.answer.Goal.{Goal}
use Rattle.nf_words.specs.declared.answer.Goal.TheVariants.{Chunk, Serve, Store}
use Rattle.nf_words.specs.declared.answer.Reply.{Reply}
use Rattle.nf_words.specs.declared.answer.Reply.TheVariants as reply
use Rattle.nf_words.specs.declared.history.Entry.{Entry}
use Rattle.nf_words.specs.declared.history.Event.{Event}
use Rattle.nf_words.specs.declared.history.Event.TheVariants.{Begin, End}
use Rattle.nf_words.specs.declared.history.Mark.{Mark}
use Rattle.nf_words.specs.declared.history.Mark.TheVariants as mark
use Rattle.nf_words.specs.declared.history.Outcome.{Outcome}
use Rattle.nf_words.specs.declared.history.Outcome.TheVariants.{Sent, Gone, Body}
use Rattle.nf_words.specs.declared.request.Request.{Request}
use Rattle.nf_words.specs.declared.request.Words.{Words}
use Rattle.nf_session.specs.declared.backend.Ending.{Ending}
use Rattle.nf_session.specs.declared.backend.Ending.TheVariants as ending
use Rattle.nf_session.specs.declared.backend.PieceFault.{PieceFault}
use Rattle.nf_session.specs.declared.backend.PieceFault.TheVariants as fault

abbrev pub Answer : Type 0
Answer = Result Reply Denial

-- the rows that the run was opened with, the seat's number, the history that it has seen, its own entries with their
-- answers, how often the store failed it, and what the store tells, where it does: its blobs at the start of the run, its blobs now, and
-- its rows now, as they are spelled
pub record Book : Type 0 where
  pub opening : List Row
  pub seat : ℕ
  pub known : List Entry
  pub own : List (Entry × Answer)
  pub strikes : ℕ
  pub start : Option Blobs
  pub told : Option Blobs
  pub rows : Option (List Raw)

-- the state after what the seat has seen, and more
abbrev pub state_after : Book → List Entry → State
state_after b others = replay (opened b.opening) (b.known ++ others)

abbrev pub state_of : Book → State
state_of b = replay (opened b.opening) b.known

-- ---- what a form keeps

-- the entries of a seat, each with its answer in the state that those before it made
abbrev pub own_from : ℕ → State → List Entry → List (Entry × Answer)
own_from seat s [] = []
own_from seat s (e ∷ es) =
    if e.seat == seat then (e, answer_at s e e.mark) ∷ own_from seat (after s e) es else own_from seat (after s e) es

-- what was seen is one legal history, and the seat's own entries are those of its number there, with their answers
pub record IsBook (b : Book) : Type 0 where
  pub legal : IsLegal (opened b.opening) b.known
  pub own : b.own ≡ own_from b.seat (opened b.opening) b.known

-- ---- what is granted: by the last of the seat's own entries

abbrev pub granted : Answer → Option Goal
granted (Ok (reply.Granted goal)) = Some goal
granted (Ok reply.Made) = None
granted (Ok reply.Done) = None
granted (Ok reply.Closed) = None
granted (Ok (reply.Listing lines)) = None
granted (Ok (reply.Share line)) = None
granted (Ok (reply.Shares lines)) = None
granted (Ok (reply.Items lines)) = None
granted (Ok (reply.Versions lines)) = None
granted (Ok reply.Plain) = None
granted (Err refusal) = None

abbrev pub held_after : Option Goal → List (Entry × Answer) → Option Goal
held_after goal [] = goal
held_after goal (e ∷ es) = held_after (granted e.1) es

abbrev pub held : Book → Option Goal
held b = held_after None b.own

-- ---- how a book goes on

-- the number of the next blob, by what the seat has seen
abbrev pub next_blob_of : Book → ℕ
next_blob_of b = (state_of b).tables.meta.next_blob

-- more entries came than the seat's own: another seat made some
abbrev pub OthersCame : Book → Book → Type 0
OthersCame a b = length a.known + length b.own < length a.own + length b.known

-- what was told stays, or goes, for which there is some cause
abbrev pub IsStill : Type 0 → Option (List ℕ) → Option (List ℕ) → Type 0
IsStill cause old new = (new ≡ old) ⊎ ((new ≡ None) × cause)

-- whether the store tells stays, and under each number that was given it tells what it told, or nothing
abbrev pub TellsStill : Type 0 → ℕ → Option Blobs → Option Blobs → Type 0
TellsStill cause next None new = new ≡ None
TellsStill cause next (Some old) None = ⊥
TellsStill cause next (Some old) (Some new) = (id : ℕ) → id < next → IsStill cause (blob_at old id) (blob_at new id)

-- one strike more, or as many as are counted
abbrev pub Struck : ℕ → ℕ → Type 0
Struck before now = now ≡ min (before + 1) (2 ^ 64 - 1)

-- a step whose store failed is a strike, and no other is
abbrev pub Strikes : Mark → ℕ → ℕ → Type 0
Strikes mark.Answered before now = now ≡ before
Strikes mark.Store before now = Struck before now
Strikes mark.Memory before now = now ≡ before

-- what every call keeps
pub record Lasts (a b : Book) : Type 0 where
  pub opening : b.opening ≡ a.opening
  pub seat : b.seat ≡ a.seat
  pub strikes : a.strikes ≤ b.strikes
  pub next_blob : next_blob_of a ≤ next_blob_of b
  -- the seat's own entries are among those that came
  pub entries : length a.known + length b.own ≤ length a.own + length b.known
  pub start : b.start ≡ a.start
  -- no Begin, piece or End of the seat takes bytes away
  pub told : TellsStill (OthersCame a b) (next_blob_of a) a.told b.told

-- the seat makes no entry; others' may have come
pub record Waits (a b : Book) : Type 0 where
  pub lasts : Lasts a b
  pub own : b.own ≡ a.own
  pub known : (others : List Entry) × (b.known ≡ a.known ++ others)

-- the rows that the store tells are those of all that the seat has seen, and each has a spelling
pub record TellsRows (b : Book) : Type 0 where
  pub are : b.rows ≡ Some (told_of (state_of b).tables)
  pub fit : AreFit (state_of b).tables

-- others' entries may have come, and then one of the seat's own, which may come there: of that event, at the later of a
-- reading of the clock and the last moment seen, and with its answer there. Where the store tells, it has its rows then
pub record Enters (a b : Book) (now : ℕ) (event : Event) (answer : Answer) : Type 0 where
  pub lasts : Lasts a b
  pub others : List Entry
  pub entry : Entry
  pub own : b.own ≡ a.own ++ (entry, answer) ∷ []
  pub known : b.known ≡ (a.known ++ others) ++ entry ∷ []
  pub seat_is : entry.seat ≡ a.seat
  pub event_is : entry.event ≡ event
  pub moment_is : entry.moment ≡ max (state_after a others).seen now
  pub answer_is : answer ≡ answer_at (state_after a others) entry entry.mark
  pub strikes : Strikes entry.mark a.strikes b.strikes
  pub may_come : MayCome (length (a.known ++ others)) (state_after a others) entry
  pub rows : IfSome b.told (λ _. TellsRows b)

-- ---- the Begin

-- the entries and tickets that the seat knows, and a Begin with its End
abbrev pub entries_wanted : Book → ℕ
entries_wanted b = length b.known + length (state_of b).tickets + 2

-- a Begin that finds no room or no memory makes no entry
abbrev pub is_unmade_by : Denial → Bool
is_unmade_by denial.RunFull = true
is_unmade_by denial.Memory = true
is_unmade_by other = false

abbrev pub is_unmade : Answer → Bool
is_unmade (Ok answered) = false
is_unmade (Err refusal) = is_unmade_by refusal

-- a Begin isn't answered as an End is, and grants no body that is too long
abbrev pub IsOfBegin : Answer → Type 0
IsOfBegin (Ok (reply.Granted (Store by key length))) = length ≤ MAX_BODY
IsOfBegin (Ok (reply.Granted (Chunk user dir number length))) = length ≤ MAX_BODY
IsOfBegin (Ok (reply.Granted (Serve content))) = Unit {0}
IsOfBegin (Ok reply.Made) = Unit {0}
IsOfBegin (Ok reply.Done) = Unit {0}
IsOfBegin (Ok (reply.Listing lines)) = Unit {0}
IsOfBegin (Ok (reply.Share line)) = Unit {0}
IsOfBegin (Ok (reply.Shares lines)) = Unit {0}
IsOfBegin (Ok (reply.Items lines)) = Unit {0}
IsOfBegin (Ok (reply.Versions lines)) = Unit {0}
IsOfBegin (Ok reply.Plain) = Unit {0}
IsOfBegin (Ok reply.Closed) = ⊥
IsOfBegin (Err refusal) = Unit {0}

-- nothing was done
pub record Passes (a b : Book) : Type 0 where
  pub waits : Waits a b
  pub unstruck : b.strikes ≡ a.strikes

-- it finds the run full exactly where there is no room: an entry that is made may come, and so had room
pub record Begins (a b : Book) (now : ℕ) (words : Words) (request : Request) (answer : Answer) : Type 0 where
  pub entry : MatchBool (is_unmade answer) (Passes a b) (Enters a b now (Begin words request) answer)
  pub answered : IsOfBegin answer
  pub full : answer ≡ Err denial.RunFull → MAX_ENTRIES < entries_wanted b
  pub room : answer ≡ Err denial.Memory → entries_wanted b ≤ MAX_ENTRIES

-- ---- pieces

-- the store tells these bytes under a number that was given
pub record TellsPiece (b : Book) (piece : Piece) (bytes : List ℕ) (shelf : Blobs) : Type 0 where
  pub given : piece.blob < next_blob_of b
  pub there : blob_at shelf piece.blob ≡ Some bytes

-- bytes of the piece's size and digest, and where the store tells, those under its number
pub record IsPiece (b : Book) (piece : Piece) (bytes : List ℕ) : Type 0 where
  pub size : length bytes ≡ piece.size
  pub digest : sha256 bytes ≡ piece.digest
  pub told : IfSome b.told (TellsPiece b piece bytes)

-- what the store has of a blob isn't what the piece says: it has none, or bytes of another length or digest
abbrev pub Differs : Piece → Damage → Type 0
Differs piece damage =
    (damage.blob ≡ piece.blob) × (damage.wanted.length ≡ piece.size) × (damage.wanted.digest ≡ piece.digest)
    × (damage.found ≢ Some damage.wanted)

abbrev pub measured : Option (List ℕ) → Option Measure
measured bytes = option_map (λ bytes. record { length = length bytes; digest = sha256 bytes }) bytes

-- what was found isn't what the piece says, and is named by its length and digest
pub record IsDamage (piece : Piece) (found : Option (List ℕ)) (damage : Damage) : Type 0 where
  pub differs : Differs piece damage
  pub found_is : damage.found ≡ measured found

-- something was found, or nothing, also where the store tells nothing
abbrev pub NamesFound : Piece → Damage → Type 0
NamesFound piece damage = (found : Option (List ℕ)) × IsDamage piece found damage

-- the piece was damaged at the start
pub record WasDamaged (b : Book) (piece : Piece) : Type 0 where
  pub begun : Blobs
  pub tells : b.start ≡ Some begun
  pub damaged : IsDamaged b.opening begun piece

-- it was, and that was found of it
pub record TellsDamage (b : Book) (piece : Piece) (damage : Damage) (shelf : Blobs) : Type 0 where
  pub damaged : WasDamaged b piece
  pub found : damage.found ≡ measured (blob_at shelf piece.blob)

-- why a piece isn't given: the store failed, which is a strike; or it has other bytes, which are named, and where it tells, the
-- piece was damaged at the start; want of memory is free
abbrev pub FailsPiece : Book → Book → Piece → PieceFault → Type 0
FailsPiece a b piece fault.Store = Struck a.strikes b.strikes
FailsPiece a b piece (fault.Damaged damage) =
    (b.strikes ≡ a.strikes) × NamesFound piece damage × IfSome b.told (TellsDamage b piece damage)
FailsPiece a b piece fault.Memory = b.strikes ≡ a.strikes

abbrev pub GivesOrFails : Book → Book → Piece → Result (Vec ℕ Global) PieceFault → Type 0
GivesOrFails a b piece (Ok bytes) = IsPiece b piece bytes.items × (b.strikes ≡ a.strikes)
GivesOrFails a b piece (Err fault) = FailsPiece a b piece fault

pub record GivesPiece (a b : Book) (content : List Piece) (index : ℕ)
    (result : Result (Vec ℕ Global) PieceFault) : Type 0 where
  pub waits : Waits a b
  pub piece : Piece
  pub at_index : slice_get content index ≡ Some piece
  pub given : GivesOrFails a b piece result

-- the denial of a piece that isn't given
abbrev pub denial_of_piece : PieceFault → Denial
denial_of_piece fault.Store = denial.Store
denial_of_piece (fault.Damaged damage) = denial.Damaged damage
denial_of_piece fault.Memory = denial.Memory

-- ---- the End

-- what an ending brings
abbrev pub outcome_of : Ending → Outcome
outcome_of ending.Sent = Sent
outcome_of ending.Gone = Gone
outcome_of (ending.Body bytes) = Body (sha256 bytes.items) (length bytes.items)

-- something is granted that may end so
abbrev pub MayEnd : Option Goal → Ending → Type 0
MayEnd None how = ⊥
MayEnd (Some goal) how = MayBring goal (outcome_of how)

-- the End of a body is answered that it was made or done, or refused
abbrev pub IsOfBody : Answer → Type 0
IsOfBody (Ok reply.Made) = Unit {0}
IsOfBody (Ok reply.Done) = Unit {0}
IsOfBody (Ok reply.Closed) = ⊥
IsOfBody (Ok (reply.Granted goal)) = ⊥
IsOfBody (Ok (reply.Listing lines)) = ⊥
IsOfBody (Ok (reply.Share line)) = ⊥
IsOfBody (Ok (reply.Shares lines)) = ⊥
IsOfBody (Ok (reply.Items lines)) = ⊥
IsOfBody (Ok (reply.Versions lines)) = ⊥
IsOfBody (Ok reply.Plain) = ⊥
IsOfBody (Err refusal) = Unit {0}

-- where the entry's step stores a blob, the body is told under its number, which is given then
abbrev pub Stores : State → Entry → List ℕ → Blobs → Type 0
Stores s e body shelf =
    (id : ℕ) → blob_to s e.seat e.moment e.event ≡ Some id
    → (id < (after s e).tables.meta.next_blob) × (blob_at shelf id ≡ Some body)

abbrev pub event_of_body : List ℕ → Event
event_of_body body = End (Body (sha256 body) (length body))

pub record EndsBody (a b : Book) (now : ℕ) (body : List ℕ) (answer : Answer) : Type 0 where
  pub enters : Enters a b now (event_of_body body) answer
  pub answered : IsOfBody answer
  pub stored : OnOk answer (IfSome b.told (Stores (state_after a enters.others) enters.entry body))

-- an End that brings nothing is answered that it was closed
pub record EndsEmpty (a b : Book) (now : ℕ) (how : Outcome) (answer : Answer) : Type 0 where
  pub enters : Enters a b now (End how) answer
  pub answered : answer ≡ Ok reply.Closed

abbrev pub Ends : Book → Book → ℕ → Ending → Answer → Type 0
Ends a b now ending.Sent answer = EndsEmpty a b now Sent answer
Ends a b now ending.Gone answer = EndsEmpty a b now Gone answer
Ends a b now (ending.Body bytes) answer = EndsBody a b now bytes.items answer
