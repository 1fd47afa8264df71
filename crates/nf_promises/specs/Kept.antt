-- What is put is what is got.
use Rattle.std.specs.Prelude.{◌≡◌, ◌⊎◌, ℕ, ◌+◌, ◌-◌, ◌^◌, ◌≤◌, min, Bool, false, ◌||◌, ◌&&◌, nat_lt, if◌then◌else◌, List, [], ◌++◌, length, Option, None, Some, IsSome, Ok}
use Rattle.std.specs.Io.KnownBytes.{Appends}
use Rattle.sha2.specs.Sha256.{sha256}
use Rattle.nf_base.specs.declared.limits.TheConstants.{MAX_HEAD}
use Rattle.nf_defs.specs.Blobs.{Blobs}
use Rattle.nf_dav.specs.Asked.{request_of}
use Rattle.nf_dav.specs.Reply.{continue_reply, done_reply, file_head, made_reply, refusal_reply}
use Rattle.nf_dav.specs.declared.replies.Manner.{Manner}
use Rattle.httparse.specs.Grammar.{IsRequestHead, RequestHead, print_request}
use Rattle.nf_http.specs.Head.{Head, closes_session, expects_continue, head_fault, head_of, length_of}
use Rattle.nf_outside.specs.Lent.{Taken}
use Rattle.nf_session.specs.Prelude.{Answers, Book, Heads, Invites, Judges, Meets, Scene, state_of, Turn}
use Rattle.nf_session.specs.declared.begun.Begun.{Begun}
use Rattle.nf_session.specs.declared.ended.Ended.{Ended}
use Rattle.nf_session.specs.declared.ended.Ended.TheVariants as ended
use Rattle.nf_session.specs.declared.response.Response.{Response}
use Rattle.nf_session.specs.declared.response.Response.TheVariants as response
use Rattle.nf_words.specs.Prelude.{call_of, IsSound, mount_of, State}
use Rattle.nf_words.specs.declared.answer.Damage.{Damage}
use Rattle.nf_words.specs.declared.answer.Denial.TheVariants as denial
use Rattle.nf_words.specs.declared.request.Caller.{Caller}
use Rattle.nf_words.specs.declared.request.Request.{Request}
use Rattle.nf_words.specs.declared.request.Words.{Words}
use Rattle.nf_words.specs.declared.request.Spot.{Spot}
use Rattle.nf_words.specs.declared.request.Wanted.TheVariants.{Get, Put}

-- ---- the two messages

abbrev pub put_of : Caller → Spot → ℕ → Request
put_of caller spot n = record { caller = caller; wanted = Put spot n }

abbrev pub get_of : Caller → Spot → Request
get_of caller spot = record { caller = caller; wanted = Get spot }

-- the answer that it was made or done
abbrev pub SaysStored : Response → Type 0
SaysStored response.Made = Unit {0}
SaysStored response.Done = Unit {0}
SaysStored (response.Listing lines) = ⊥
SaysStored (response.Share line) = ⊥
SaysStored (response.Shares lines) = ⊥
SaysStored (response.Items lines) = ⊥
SaysStored (response.Versions lines) = ⊥
SaysStored response.Plain = ⊥
SaysStored (response.Denied refusal) = ⊥
SaysStored (response.Lost fault) = ⊥
SaysStored (response.File content first) = ⊥

-- a turn took a head that asks for a PUT, by no body that is taken before it is looked for, and this body from the input, and answered that it was made or done
pub record Puts {C : Type 0} (reads : C → Taken → C → Type 0) (last : Bool) (caller : Caller) (spot : Spot) (body : List ℕ)
    (a b : Scene C) (end : Option Ended) : Type 0 where
  pub head : Head
  pub behind : Scene C
  pub heads : Heads a behind (Ok (Some head))
  pub asked : request_of head [] ≡ Ok (put_of caller spot (length body))
  pub judged : Scene C
  pub begun : Begun
  pub judges : Judges reads head [] behind judged begun
  pub invited : Scene C
  pub invites : Invites {T = Unit {0}} head begun judged invited (Ok tt)
  pub answers : Answers reads last head begun invited b end
  pub body_is : answers.takes.1 ≡ body
  pub stored : SaysStored answers.response

-- a turn took a head that asks for a GET, and met it
pub record Gets {C : Type 0} (reads : C → Taken → C → Type 0) (last : Bool) (caller : Caller) (spot : Spot)
    (a b : Scene C) (end : Option Ended) : Type 0 where
  pub head : Head
  pub behind : Scene C
  pub heads : Heads a behind (Ok (Some head))
  pub asked : request_of head [] ≡ Ok (get_of caller spot)
  pub meets : Meets reads last head behind b end

-- the answer was written whole, and is none that ends the session by itself
abbrev pub IsWritten : Option Ended → Type 0
IsWritten None = Unit {0}
IsWritten (Some ended.Closed) = Unit {0}
IsWritten (Some other) = ⊥

-- its sender waits before it sends a body
abbrev pub waits : Head → Bool
waits head = expects_continue head && nat_lt 0 (length_of head)

-- ---- the promise

-- no entry of another seat came between
abbrev pub OnlyOwn : Book → Book → Type 0
OnlyOwn a b = length b.known + length a.own ≡ length a.known + length b.own

-- the store failed, which it counted: the strikes rose, or stand at their last value
abbrev pub FailsStore : Book → Book → Type 0
FailsStore a b = min (a.strikes + 1) (2 ^ 64 - 1) ≤ b.strikes

-- the very bytes of a body, where the store tells; and where it tells nothing, bytes of its length and SHA-256 digest (FIPS
-- 180-4)
abbrev pub AreOfBody : Option Blobs → List ℕ → List ℕ → Type 0
AreOfBody None body bytes = (length bytes ≡ length body) × (sha256 bytes ≡ sha256 body)
AreOfBody (Some shelf) body bytes = bytes ≡ body

-- how the GET of a file is refused: it is no OCS request, and its answer has a body
abbrev pub plainly : Bool → Manner
plainly close = record { close = close; ocs = false; head_only = false }

-- that they are damaged, only where the store tells nothing: while no other's entry comes, it tells what it told
abbrev pub ShowsDamage : {C : Type 0} → Option Blobs → Bool → Scene C → Scene C → Type 0
ShowsDamage None close a b = (damage : Damage) × Appends a.output b.output (refusal_reply (plainly close) (denial.Damaged damage))
ShowsDamage (Some shelf) close a b = ⊥

-- a file of a body's bytes was written; or that there is no memory, at the Begin or later; or that the store failed; or that they are damaged
abbrev pub ShowsFile : {C : Type 0} → Bool → Bool → List ℕ → Scene C → Scene C → Type 0
ShowsFile close unsent body a b =
    ((bytes : List ℕ) × AreOfBody a.book.told body bytes
    × Appends a.output b.output (file_head close (length body) ++ bytes))
    ⊎ Appends a.output b.output (refusal_reply (plainly close) denial.Memory)
    ⊎ Appends a.output b.output (refusal_reply (plainly (close || unsent)) denial.Memory)
    ⊎ (Appends a.output b.output (refusal_reply (plainly close) denial.Store) × FailsStore a.book b.book)
    ⊎ ShowsDamage a.book.told close a b

-- words of chance; no path leads anywhere by them
abbrev pub no_words : Words
no_words = record { first = 0; second = 0 }

-- the path goes by no mount: it leads on in the caller's own root
abbrev pub GoesByNoMount : State → Caller → Spot → Type 0
GoesByNoMount s caller spot = mount_of (call_of s 0 0 no_words (get_of caller spot)) spot ≡ None

-- the body of a PUT that was made or done is what the next turn's GET of its path by the same caller is answered, where
-- the answer is written whole: over a sound state, in the caller's own root, and byte for byte over a store that tells its bytes
abbrev pub PutThenGet : {C : Type 0} → (C → Taken → C → Type 0) → Type 0
PutThenGet {C} reads =
    (caller : Caller) (spot : Spot) (body : List ℕ)
    (a b c : Scene C) (first last : Bool) (end done : Option Ended)
    → Puts reads first caller spot body a b end → (get : Gets reads last caller spot b c done)
    → IsSound (state_of a.book) → GoesByNoMount (state_of a.book) caller spot → OnlyOwn a.book c.book → IsWritten done
    → ShowsFile (last || closes_session get.head) (waits get.head) body b c

-- ---- the same of bytes

-- the bytes of a head that has no fault, and asks for that
pub record Prints (h : RequestHead) (request : Request) : Type 0 where
  pub is_head : IsRequestHead h
  pub short : length (print_request h) ≤ MAX_HEAD
  pub sound : head_fault (head_of h) ≡ None
  pub asks : request_of (head_of h) [] ≡ Ok request

-- what whoever waits for it is told first
abbrev pub invitation : Head → List ℕ
invitation head = if expects_continue head then continue_reply else []

-- what was written is the answer that something was made or done
abbrev pub SaysDone : {C : Type 0} → Head → Scene C → Scene C → Type 0
SaysDone head a b =
    (close : Bool)
    × (Appends a.output b.output (invitation head ++ made_reply close)
    ⊎ Appends a.output b.output (invitation head ++ done_reply close))

-- two turns over an input that begins with a PUT, its body and a GET of its path by the same caller, and ends that tell
-- their bytes
abbrev pub PutThenGetOfBytes : {C : Type 0} → (C → Taken → C → Type 0) → Type 0
PutThenGetOfBytes {C} reads =
    (caller : Caller) (spot : Spot) (put get : RequestHead) (body rest : List ℕ)
    (a b c : Scene C) (first last : Bool) (end done : Option Ended)
    → Prints put (put_of caller spot (length body)) → Prints get (get_of caller spot)
    → a.input ≡ Some (print_request put ++ body ++ print_request get ++ rest) → IsSome a.output
    → Turn reads first a b end → SaysDone (head_of put) a b → Turn reads last b c done → IsWritten done
    → IsSound (state_of a.book) → GoesByNoMount (state_of a.book) caller spot → OnlyOwn a.book c.book
    → ShowsFile (last || closes_session (head_of get)) (waits (head_of get)) body b c
