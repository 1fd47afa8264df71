-- Scenes, and the steps of a turn, each from one scene to the next.
use Rattle.std.specs.Prelude.{◌≡◌, ◌⊎◌, ℕ, ◌<◌, Bool, true, false, ◌&&◌, MatchBool, nat_le, nat_lt, List, [], ◌∷◌, ◌++◌, length, take, if◌then◌else◌, Option, None, Some, Result, Ok, Err, IfSome, IsOk}
use Rattle.std.specs.Io.KnownBytes.{Appends}
use Rattle.nf_outside.specs.Begun.{with_answer}
use Rattle.nf_outside.specs.Causes.{Rose}
use Rattle.nf_base.specs.declared.content.Piece.{Piece}
use Rattle.nf_http.specs.Bodies.{TakesBody, CutsBody, CutsRead}
use Rattle.nf_http.specs.Filling.{HasReadCause}
use Rattle.nf_http.specs.Head.{Head, length_of, expects_continue}
use Rattle.nf_http.specs.Next.{IsNext, IsShownBy}
use Rattle.nf_http.specs.declared.wire.WireFault.{WireFault}
use Rattle.nf_http.specs.declared.wire.WireFault.TheVariants as wire
use Rattle.nf_outside.specs.Lent.{Taken, a_reading, two_words}
use Rattle.nf_words.specs.declared.answer.Denial.{Denial}
use Rattle.nf_words.specs.declared.answer.Denial.TheVariants as denial
use Rattle.nf_words.specs.declared.answer.Goal.{Goal}
use Rattle.nf_words.specs.declared.answer.Goal.TheVariants as goal
use Rattle.nf_words.specs.declared.answer.Reply.TheVariants as reply
use Rattle.nf_words.specs.declared.request.Request.{Request}
use Rattle.nf_words.specs.declared.request.Words.{Words}
use Rattle.nf_dav.specs.Asked.{request_of, wants_body}
use Rattle.nf_dav.specs.Reply.{continue_reply, last_manner, refusal_reply}
use Rattle.nf_session.specs.Book.{Answer, Book, Begins, Ends, EndsBody, FailsPiece, IsOfBegin, IsPiece, Waits, granted, held}
use Rattle.nf_session.specs.declared.backend.Ending.{Ending}
use Rattle.nf_session.specs.declared.backend.Ending.TheVariants as ending
use Rattle.nf_session.specs.declared.begun.Begun.{Begun}
use Rattle.nf_session.specs.declared.begun.Begun.TheVariants as begun
use Rattle.nf_session.specs.declared.ended.Ended.{Ended}
use Rattle.nf_session.specs.declared.ended.Ended.TheVariants as ended
use Rattle.nf_session.specs.declared.response.Response.{Response}
use Rattle.nf_session.specs.declared.response.Response.TheVariants as response

-- all that a session touches: the bytes that are left to read and those that were written, where they are told, what the
-- seat knows, the clock and the dice, and how often each end failed; of the bytes that are left, those that were read and not yet taken; and
-- the method and target of each answer that the output was told of, where it tells them
pub record Scene (C : Type 0) : Type 0 where
  pub input : Option (List ℕ)
  pub kept : List ℕ
  pub output : Option (List ℕ)
  pub answers : Option (List (List ℕ × List ℕ))
  pub book : Book
  pub lent : C
  pub read_faults : ℕ
  pub write_faults : ℕ

-- nothing was touched but the input, and what the output was told of answers
abbrev pub OnlyReads : {C : Type 0} → Scene C → Scene C → Type 0
OnlyReads a b = b ≡ record a { input = b.input; kept = b.kept; answers = b.answers; read_faults = b.read_faults }

abbrev pub OnlyWrites : {C : Type 0} → Scene C → Scene C → Type 0
OnlyWrites a b = b ≡ record a { output = b.output; write_faults = b.write_faults }

abbrev pub OnlyAsks : {C : Type 0} → Scene C → Scene C → Type 0
OnlyAsks a b = b ≡ record a { book = b.book; lent = b.lent }

-- ---- reading

-- the output is told of the answer to a head that was taken, and of nothing else
abbrev pub TellsHead : Option (List (List ℕ × List ℕ)) → Option (List (List ℕ × List ℕ))
    → Result (Option Head) WireFault → Type 0
TellsHead before now (Ok (Some head)) = now ≡ with_answer head.method head.target before
TellsHead before now other = now ≡ before

-- the bytes begin with those
abbrev pub IsFront : List ℕ → List ℕ → Type 0
IsFront front bytes = (rest : List ℕ) × (bytes ≡ front ++ rest)

-- what stands at the front of the input was taken, or told; what is kept then is at its front, and shows a fault, also where the
-- input isn't told
pub record Heads {C : Type 0} (a b : Scene C) (result : Result (Option Head) WireFault) : Type 0 where
  pub only : OnlyReads a b
  pub next : IsNext a.input b.input result
  pub front : IfSome b.input (IsFront b.kept)
  pub shown : IsShownBy b.kept result
  pub told : TellsHead a.answers b.answers result
  pub cause : HasReadCause a.read_faults b.read_faults result

-- a body of n bytes was taken
pub record Bodies {C : Type 0} (a b : Scene C) (n : ℕ) (body : List ℕ) : Type 0 where
  pub only : b ≡ record a { input = b.input; kept = b.kept }
  pub taken : TakesBody a.input b.input n body

abbrev pub Skips : {C : Type 0} → Scene C → Scene C → ℕ → Type 0
Skips a b n = (body : List ℕ) × Bodies a b n body

-- or cut
pub record Cuts {C : Type 0} (cuts : Option (List ℕ) → Option (List ℕ) → ℕ → WireFault → Type 0)
    (a b : Scene C) (n : ℕ) (fault : WireFault) : Type 0 where
  pub only : OnlyReads a b
  pub told : b.answers ≡ a.answers
  pub cut : cuts a.input b.input n fault
  pub cause : HasReadCause {T = ℕ} a.read_faults b.read_faults (Err fault)

-- ---- writing

pub record Wrote {C : Type 0} (a b : Scene C) (bytes : List ℕ) : Type 0 where
  pub only : b ≡ record a { output = b.output }
  pub bytes_are : Appends a.output b.output bytes

-- a front of the bytes, and not all of them, at a fault of the output
pub record WrotePart {C : Type 0} (a b : Scene C) (bytes : List ℕ) : Type 0 where
  pub only : OnlyWrites a b
  pub count : ℕ
  pub less : count < length bytes
  pub bytes_are : Appends a.output b.output (take count bytes)
  pub cause : Rose a.write_faults b.write_faults

abbrev pub Sends : {C T : Type 0} → Scene C → Scene C → List ℕ → Result T Ended → Type 0
Sends a b bytes (Ok sent) = Wrote a b bytes
Sends a b bytes (Err ended.WriteFault) = WrotePart a b bytes
Sends a b bytes (Err end) = ⊥

-- the same, where there may be no memory for the bytes
abbrev pub Says : {C T : Type 0} → Scene C → Scene C → List ℕ → Result T Ended → Type 0
Says a b bytes (Err ended.Memory) = b ≡ a
Says a b bytes result = Sends a b bytes result

-- ---- a body that is taken before the request is looked for

-- there is one, and it is short enough
abbrev pub is_early : Head → Bool
is_early head = nat_lt 0 (length_of head) && nat_le (length_of head) (wants_body head)

-- how much of a body isn't taken then
abbrev pub left_length : Head → ℕ
left_length head = if is_early head then 0 else length_of head

-- it was taken whole, or cut, also by want of memory; and where none is taken so, nothing was done
abbrev pub TakesEarly : {C : Type 0} → Head → Scene C → Scene C → Result (List ℕ) WireFault → Type 0
TakesEarly head a b (Ok body) = MatchBool (is_early head) (Bodies a b (length_of head) body) ((body ≡ []) × (b ≡ a))
TakesEarly head a b (Err fault) = (is_early head ≡ true) × Cuts CutsBody a b (length_of head) fault

-- ---- the Begin

-- the denial of a message without a request, or for which there is no memory
abbrev pub IsUnasked : Head → List ℕ → Denial → Type 0
IsUnasked head body refusal = (request_of head body ≡ Err refusal) ⊎ (refusal ≡ denial.Memory)

-- a message is judged by its head, and the body that was taken before, at a reading of the clock and with two words of the dice
abbrev pub Judges : {C : Type 0} → (C → Taken → C → Type 0) → Head → List ℕ → Scene C → Scene C → Begun → Type 0
Judges reads head body a b (begun.Unasked refusal) = IsUnasked head body refusal × (b ≡ a)
Judges {C} reads head body a b (begun.Asked answer) =
    (r : Request) × (now : ℕ) × (words : Words) × (request_of head body ≡ Ok r)
    × ((m : C) × reads a.lent (a_reading now) m × reads m (two_words words.first words.second) b.lent)
    × Begins a.book b.book now words r answer × OnlyAsks a b

-- something is granted, until it is ended
abbrev pub is_granted : Begun → Bool
is_granted (begun.Unasked refusal) = false
is_granted (begun.Asked (Ok (reply.Granted goal))) = true
is_granted (begun.Asked (Ok reply.Made)) = false
is_granted (begun.Asked (Ok reply.Done)) = false
is_granted (begun.Asked (Ok reply.Closed)) = false
is_granted (begun.Asked (Ok (reply.Listing lines))) = false
is_granted (begun.Asked (Ok (reply.Share line))) = false
is_granted (begun.Asked (Ok (reply.Shares lines))) = false
is_granted (begun.Asked (Ok (reply.Items lines))) = false
is_granted (begun.Asked (Ok (reply.Versions lines))) = false
is_granted (begun.Asked (Ok reply.Plain)) = false
is_granted (begun.Asked (Err refusal)) = false

-- what the seat holds after that
abbrev pub granted_by : Begun → Option Goal
granted_by (begun.Unasked refusal) = None
granted_by (begun.Asked answer) = granted answer

abbrev pub IsOfAsking : Begun → Type 0
IsOfAsking (begun.Unasked refusal) = Unit {0}
IsOfAsking (begun.Asked answer) = IsOfBegin answer

pub record IsBegun (b : Book) (begun : Begun) : Type 0 where
  pub held_is : held b ≡ granted_by begun
  pub answered : IsOfAsking begun

-- ---- the invitation

-- whoever waits for it is told to send the body that was granted (RFC 9110, section 10.1.1)
abbrev pub is_invited : Head → Begun → Bool
is_invited head (begun.Asked (Ok (reply.Granted (goal.Store by key length)))) = expects_continue head
is_invited head (begun.Asked (Ok (reply.Granted (goal.Chunk user dir number length)))) = expects_continue head
is_invited head other = false

abbrev pub Invites : {C T : Type 0} → Head → Begun → Scene C → Scene C → Result T Ended → Type 0
Invites head begun a b result = MatchBool (is_invited head begun) (Sends a b continue_reply result) (IsOk result × (b ≡ a))

-- ---- the body

abbrev pub is_refused : Begun → Bool
is_refused (begun.Unasked refusal) = true
is_refused (begun.Asked (Ok answered)) = false
is_refused (begun.Asked (Err refusal)) = true

-- the sender waits for an answer with a body that isn't taken before the request is looked for
abbrev pub holds_back : Head → Bool
holds_back head = expects_continue head && nat_lt (wants_body head) (length_of head)

-- so of a refused message the body hasn't been sent
abbrev pub is_unsent : Head → Begun → Bool
is_unsent head begun = is_refused begun && holds_back head

abbrev pub skipped_length : Head → Begun → ℕ
skipped_length head begun = if is_unsent head begun then 0 else left_length head

-- how long the body is that is to be stored
abbrev pub stored_length : Begun → Option ℕ
stored_length (begun.Asked (Ok (reply.Granted (goal.Store by key length)))) = Some length
stored_length (begun.Asked (Ok (reply.Granted (goal.Chunk user dir number length)))) = Some length
stored_length other = None

-- the bytes of the body that are taken then: a granted body whole, and of any other what is left is skipped, where it was sent
abbrev pub taken_length : Head → Begun → ℕ
taken_length head (begun.Asked (Ok (reply.Granted (goal.Store by key length)))) = length
taken_length head (begun.Asked (Ok (reply.Granted (goal.Chunk user dir number length)))) = length
taken_length head other = skipped_length head other

-- what may cut it: want of memory only a body that is kept
abbrev pub cutting : Begun → Option (List ℕ) → Option (List ℕ) → ℕ → WireFault → Type 0
cutting (begun.Asked (Ok (reply.Granted (goal.Store by key length)))) = CutsBody
cutting (begun.Asked (Ok (reply.Granted (goal.Chunk user dir number length)))) = CutsBody
cutting other = CutsRead

-- how an answer that grants nothing is responded to
abbrev pub IsResponse : Answer → Response → Type 0
IsResponse (Ok reply.Made) v = v ≡ response.Made
IsResponse (Ok reply.Done) v = v ≡ response.Done
IsResponse (Ok reply.Closed) v = ⊥
IsResponse (Ok (reply.Granted goal)) v = ⊥
IsResponse (Ok (reply.Listing lines)) v = v ≡ response.Listing lines
IsResponse (Ok (reply.Share line)) v = v ≡ response.Share line
IsResponse (Ok (reply.Shares lines)) v = v ≡ response.Shares lines
IsResponse (Ok (reply.Items lines)) v = v ≡ response.Items lines
IsResponse (Ok (reply.Versions lines)) v = v ≡ response.Versions lines
IsResponse (Ok reply.Plain) v = v ≡ response.Plain
IsResponse (Err refusal) v = v ≡ response.Denied refusal

-- the first piece of a content is taken before anything is written
abbrev pub Starts : Book → Book → List Piece → Response → Type 0
Starts a b [] (response.File content None) = (content ≡ []) × (b ≡ a)
Starts a b (piece ∷ pieces) (response.File content (Some first)) =
    (content ≡ piece ∷ pieces) × Waits a b × IsPiece b piece first.items × (b.strikes ≡ a.strikes)
Starts a b (piece ∷ pieces) (response.Lost fault) = Waits a b × FailsPiece a b piece fault
Starts a b content other = ⊥

pub record StartsFile {C : Type 0} (a b : Scene C) (content : List Piece) (v : Response) : Type 0 where
  pub only : b ≡ record a { book = b.book }
  pub starts : Starts a.book b.book content v

-- a body that was taken is brought to its End
abbrev pub StoresBody : {C : Type 0} → (C → Taken → C → Type 0) → List ℕ → Scene C → Scene C → Response → Type 0
StoresBody reads body a b v =
    (now : ℕ) × (answer : Answer) × reads a.lent (a_reading now) b.lent × EndsBody a.book b.book now body answer
    × IsResponse answer v × OnlyAsks a b

-- what the body makes of what was begun
abbrev pub Passes : {C : Type 0} → (C → Taken → C → Type 0) → List ℕ → Scene C → Scene C → Begun → Response → Type 0
Passes reads body a b (begun.Unasked refusal) v = (v ≡ response.Denied refusal) × (b ≡ a)
Passes reads body a b (begun.Asked (Ok (reply.Granted (goal.Serve content)))) v = StartsFile a b content v
Passes reads body a b (begun.Asked (Ok (reply.Granted (goal.Store by key length)))) v = StoresBody reads body a b v
Passes reads body a b (begun.Asked (Ok (reply.Granted (goal.Chunk user dir number length)))) v = StoresBody reads body a b v
Passes reads body a b (begun.Asked answer) v = IsResponse answer v × (b ≡ a)

abbrev pub TakesIn : {C : Type 0} → (C → Taken → C → Type 0) → Head → Scene C → Scene C → Begun
    → Result Response WireFault → Type 0
TakesIn {C} reads head a b begun (Ok v) =
    (m : Scene C) × (body : List ℕ) × Bodies a m (taken_length head begun) body × Passes reads body m b begun v
TakesIn reads head a b begun (Err fault) = Cuts (cutting begun) a b (taken_length head begun) fault

-- ---- the End of what is still granted

-- an ending that brings no body
abbrev pub IsClosing : Ending → Type 0
IsClosing ending.Sent = Unit {0}
IsClosing ending.Gone = Unit {0}
IsClosing (ending.Body bytes) = ⊥

abbrev pub Closes : {C : Type 0} → (C → Taken → C → Type 0) → Ending → Bool → Scene C → Scene C → Type 0
Closes reads how true a b =
    (now : ℕ) × reads a.lent (a_reading now) b.lent × Ends a.book b.book now how (Ok reply.Closed) × OnlyAsks a b
Closes reads how false a b = b ≡ a

-- ---- no message

-- the denial of a fault of the input's bytes
abbrev pub denial_of : WireFault → Denial
denial_of wire.Bad = denial.BadMessage
denial_of wire.HeadLong = denial.Head
denial_of wire.Coding = denial.Coding
denial_of (wire.TooLarge n) = denial.TooLarge
denial_of wire.Truncated = denial.BadMessage
denial_of wire.ReadFault = denial.BadMessage
denial_of wire.Memory = denial.Memory

-- how a denial of bytes ends the session, and what is written of it
abbrev pub EndsSo : {C : Type 0} → Denial → Scene C → Scene C → Ended → Type 0
EndsSo refusal a b ended.BadMessage = Wrote a b (refusal_reply last_manner refusal)
EndsSo refusal a b ended.WriteFault = WrotePart a b (refusal_reply last_manner refusal)
EndsSo refusal a b ended.Memory = b ≡ a
EndsSo refusal a b end = ⊥

abbrev pub EndsBy : {C : Type 0} → WireFault → Scene C → Scene C → Ended → Type 0
EndsBy wire.ReadFault a b end = (end ≡ ended.ReadFault) × (b ≡ a)
EndsBy wire.Memory a b end = (end ≡ ended.Memory) × (b ≡ a)
EndsBy fault a b end = EndsSo (denial_of fault) a b end
