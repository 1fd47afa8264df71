-- What a message gets while nothing fails: the bytes of its step's answer, or that there was no memory.
use Rattle.std.specs.Prelude.{◌≡◌, ◌⊎◌, ℕ, ◌-◌, ◌^◌, ◌<◌, Bool, true, ◌||◌, List, ◌∷◌, ◌++◌, length, Option, None, Some, IsSome, Ok, Err}
use Rattle.std.specs.List.{concat}
use Rattle.std.specs.Io.KnownBytes.{Appends}
use Rattle.sha2.specs.Sha256.{sha256}
use Rattle.nf_base.specs.declared.limits.TheConstants.{MAX_ENTRIES}
use Rattle.nf_base.specs.Content.{size_of}
use Rattle.nf_base.specs.declared.content.Piece.{Piece}
use Rattle.nf_dav.specs.Asked.{request_of}
use Rattle.nf_dav.specs.Reply.{done_reply, file_head, items_reply, listing_reply, made_reply, plain_reply, refusal_reply, share_reply, shares_reply, versions_reply}
use Rattle.nf_dav.specs.declared.replies.Manner.{Manner}
use Rattle.nf_http.specs.Bodies.{TakesBody}
use Rattle.nf_http.specs.Head.{Head, closes_session}
use Rattle.nf_outside.specs.Lent.{Taken}
use Rattle.nf_session.specs.Prelude.{Answer, AreGiven, Book, entries_wanted, Heads, is_early, Meets, Scene, Session, state_after, TakesEarly, WasDamaged}
use Rattle.nf_session.specs.declared.ended.Ended.{Ended}
use Rattle.nf_session.specs.declared.ended.Ended.TheVariants as ended
use Rattle.nf_words.specs.Prelude.{answer_to}
use Rattle.nf_words.specs.declared.answer.Denial.TheVariants as denial
use Rattle.nf_words.specs.declared.answer.Goal.TheVariants.{Chunk, Serve, Store}
use Rattle.nf_words.specs.declared.answer.Reply.TheVariants as reply
use Rattle.nf_words.specs.declared.history.Entry.{Entry}
use Rattle.nf_words.specs.declared.history.Event.{Event}
use Rattle.nf_words.specs.declared.history.Event.TheVariants.{Begin, End}
use Rattle.nf_words.specs.declared.history.Outcome.TheVariants.{Body}
use Rattle.nf_words.specs.declared.request.Request.{Request}
use Rattle.nf_words.specs.declared.request.Words.{Words}
use Rattle.nf_promises.specs.Kept.{invitation}

-- ---- nothing fails

-- a count didn't rise, and isn't at its last value
abbrev pub IsUnrisen : ℕ → ℕ → Type 0
IsUnrisen before now = (now ≡ before) × (before < 2 ^ 64 - 1)

-- neither the store nor an end failed
pub record NothingFails {C : Type 0} (a b : Scene C) : Type 0 where
  pub store : IsUnrisen a.book.strikes b.book.strikes
  pub read : IsUnrisen a.read_faults b.read_faults
  pub write : IsUnrisen a.write_faults b.write_faults

-- the store tells, and nothing was damaged at the start, so nothing that is named is damaged at any moment
pub record StaysWhole (b : Book) : Type 0 where
  pub tells : IsSome b.told
  pub whole : (piece : Piece) → WasDamaged b piece → ⊥

-- ---- what is written

-- that is the answer of the seat's step of that event, at its place: the step of an entry that the seat knows by then, behind what it
-- knew before
pub record IsAnswerOf (a b : Book) (event : Event) (answer : Answer) : Type 0 where
  pub others : List Entry
  pub entry : Entry
  pub more : List Entry
  pub known : b.known ≡ (a.known ++ others) ++ entry ∷ more
  pub seat_is : entry.seat ≡ a.seat
  pub event_is : entry.event ≡ event
  pub answer_is : answer ≡ answer_to (state_after a others) entry.seat entry.moment entry.event

-- what is written of the answer of an End with a body, behind the invitation to send it; a refusal is written as such
abbrev pub SaysEnd : {C : Type 0} → Head → Bool → Answer → Scene C → Scene C → Type 0
SaysEnd head close (Ok reply.Made) a b = Appends a.output b.output (invitation head ++ made_reply close)
SaysEnd head close (Ok reply.Done) a b = Appends a.output b.output (invitation head ++ done_reply close)
SaysEnd head close (Ok other) a b = ⊥
SaysEnd head close (Err refusal) a b = (manner : Manner) × Appends a.output b.output (invitation head ++ refusal_reply manner refusal)

-- a body of the length that was granted was taken from the front of the input, and its End answered
pub record SaysStored {C : Type 0} (head : Head) (close : Bool) (size : ℕ) (a b : Scene C) : Type 0 where
  pub body : List ℕ
  pub taken : TakesBody a.input b.input size body
  pub answer : Answer
  pub answers : IsAnswerOf a.book b.book (End (Body (sha256 body) (length body))) answer
  pub says : SaysEnd head close answer a b

-- all pieces of a content were given, and written behind its head
pub record SaysFile {C : Type 0} (close : Bool) (content : List Piece) (a b : Scene C) : Type 0 where
  pub given : List (List ℕ)
  pub are_given : AreGiven a.book b.book content given
  pub all : length given ≡ length content
  pub bytes : Appends a.output b.output (file_head close (size_of content) ++ concat given)

-- what is written of the answer of a Begin
abbrev pub Says : {C : Type 0} → Head → Bool → Answer → Scene C → Scene C → Type 0
Says head close (Ok reply.Made) a b = Appends a.output b.output (made_reply close)
Says head close (Ok reply.Done) a b = Appends a.output b.output (done_reply close)
Says head close (Ok (reply.Listing lines)) a b = Appends a.output b.output (listing_reply close lines)
Says head close (Ok (reply.Share line)) a b = Appends a.output b.output (share_reply close line)
Says head close (Ok (reply.Shares lines)) a b = Appends a.output b.output (shares_reply close lines)
Says head close (Ok (reply.Items lines)) a b = Appends a.output b.output (items_reply close lines)
Says head close (Ok (reply.Versions lines)) a b = Appends a.output b.output (versions_reply close lines)
Says head close (Ok reply.Plain) a b = Appends a.output b.output (plain_reply close)
Says head close (Ok (reply.Granted (Serve content))) a b = SaysFile close content a b
Says head close (Ok (reply.Granted (Store by key size))) a b = SaysStored head close size a b
Says head close (Ok (reply.Granted (Chunk user dir number size))) a b = SaysStored head close size a b
Says head close (Ok reply.Closed) a b = ⊥
Says head close (Err refusal) a b = (manner : Manner) × Appends a.output b.output (refusal_reply manner refusal)

-- there was no memory: the session ended so, or the message was refused so, maybe behind the invitation to send its body
abbrev pub IsWanting : {C : Type 0} → Head → Scene C → Scene C → Option Ended → Type 0
IsWanting head a b end =
    (end ≡ Some ended.Memory)
    ⊎ ((manner : Manner) × (Appends a.output b.output (refusal_reply manner denial.Memory)
    ⊎ Appends a.output b.output (invitation head ++ refusal_reply manner denial.Memory)))

-- ---- the law

-- a message with that request is answered what its step is, at its place, and that is written; or there was no memory; or the session
-- ended there because the run is full, and it is; or because the body was cut
abbrev pub IsMet : {C : Type 0} → Bool → Head → Request → Scene C → Scene C → Option Ended → Type 0
IsMet last head r a b end =
    IsWanting head a b end ⊎ ((end ≡ Some ended.RunFull) × (MAX_ENTRIES < entries_wanted b.book)) ⊎ (end ≡ Some ended.BadMessage)
    ⊎ ((answer : Answer) × (words : Words) × IsAnswerOf a.book b.book (Begin words r) answer × Says head (last || closes_session head) answer a b)

-- the body that its request may go by was taken, if it has one, and by that its request is met
pub record IsMetBy {C : Type 0} (last : Bool) (head : Head) (a b : Scene C) (end : Option Ended) : Type 0 where
  pub body : List ℕ
  pub taken : Scene C
  pub takes : TakesEarly head a taken (Ok body)
  pub met : (r : Request) → request_of head body ≡ Ok r → IsMet last head r taken b end

-- or such a body was cut, or there was no memory for it: then the session ended so
abbrev pub IsCutEarly : Head → Option Ended → Type 0
IsCutEarly head end = (is_early head ≡ true) × ((end ≡ Some ended.Memory) ⊎ (end ≡ Some ended.BadMessage))

-- each message with a request is, at which nothing fails
abbrev pub Completes : {C : Type 0} → (C → Taken → C → Type 0) → Type 0
Completes {C} reads =
    (last : Bool) (a m b : Scene C) (head : Head) (end : Option Ended)
    → Heads a m (Ok (Some head)) → Meets reads last head m b end → NothingFails a b → StaysWhole a.book
    → IsMetBy last head m b end ⊎ IsCutEarly head end

-- how a session may end in which nothing fails
abbrev pub IsWell : Option Ended → Type 0
IsWell None = Unit {0}
IsWell (Some ended.Closed) = Unit {0}
IsWell (Some ended.BadMessage) = Unit {0}
IsWell (Some ended.RunFull) = Unit {0}
IsWell (Some ended.Memory) = Unit {0}
IsWell (Some other) = ⊥

-- each session does, in which nothing fails
abbrev pub EndsWell : {C : Type 0} → (C → Taken → C → Type 0) → Type 0
EndsWell {C} reads =
    (a b : Scene C) (end : Option Ended) → Session reads a b end → NothingFails a b → StaysWhole a.book → IsWell end
