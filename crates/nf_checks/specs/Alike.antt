-- What makes two sessions end the same: the bytes that they read, what is known, the readings of the clock, and that
-- nothing failed.
use Rattle.std.specs.Prelude.{◌≡◌, ◌≢◌, ◌⊎◌, ℕ, ◌+◌, ◌-◌, ◌==◌, Bool, false, List, [], ◌∷◌, ◌++◌, length, Option, None, Some, Ok, Err}
use mathlib.Core.Logic.{inl, inr}
use Rattle.nf_base.specs.declared.limits.TheConstants.{MAX_MESSAGES}
use Rattle.nf_base.specs.declared.content.Piece.{Piece}
use Rattle.nf_defs.specs.Blobs.{Blobs, blob_at}
use Rattle.nf_outside.specs.Lent.{Taken, a_reading, two_words}
use Rattle.nf_words.specs.declared.answer.Denial.{Denial}
use Rattle.nf_words.specs.declared.answer.Denial.TheVariants as denial
use Rattle.nf_session.specs.Prelude.{Answer, Book, IsPiece, Scene, Session, Through, Turn}
use Rattle.nf_session.specs.declared.begun.Begun.{Begun}
use Rattle.nf_session.specs.declared.begun.Begun.TheVariants as begun
use Rattle.nf_session.specs.declared.ended.Ended.{Ended}
use Rattle.nf_session.specs.declared.ended.Ended.TheVariants as ended
use Rattle.nf_session.specs.declared.response.Response.{Response}
use Rattle.nf_session.specs.declared.response.Response.TheVariants as response

-- ---- what is the same in two scenes

-- both are told, and are the same bytes
abbrev pub TellSame : Option (List ℕ) → Option (List ℕ) → Type 0
TellSame one other = (bytes : List ℕ) × (one ≡ Some bytes) × (other ≡ Some bytes)

-- the same rows at the opening, the same seat, and the same entries with the same answers
pub record KnowSame (a b : Book) : Type 0 where
  pub opening : b.opening ≡ a.opening
  pub seat : b.seat ≡ a.seat
  pub known : b.known ≡ a.known
  pub own : b.own ≡ a.own

-- the same is left to read, was written, is known, and will be taken of the clock and the dice
pub record AreSame {C : Type 0} (a b : Scene C) : Type 0 where
  pub input : TellSame a.input b.input
  pub output : TellSame a.output b.output
  pub book : KnowSame a.book b.book
  pub lent : b.lent ≡ a.lent

-- ---- sessions in which nothing failed

-- a clock has one reading, and dice have two words, and they are one clock and one pair of dice after it
pub record IsSteady {C : Type 0} (reads : C → Taken → C → Type 0) : Type 0 where
  pub readings : (c : C) (n m : ℕ) (d e : C) → reads c (a_reading n) d → reads c (a_reading m) e → (n ≡ m) × (d ≡ e)
  pub words : (c : C) (n m i j : ℕ) (d e : C) → reads c (two_words n m) d → reads c (two_words i j) e → (n ≡ i) × (m ≡ j) × (d ≡ e)

-- a denial that tells of no failure of the store, no damage and no want of memory
abbrev pub IsCalmDenial : Denial → Type 0
IsCalmDenial denial.Store = ⊥
IsCalmDenial (denial.Damaged damage) = ⊥
IsCalmDenial denial.Memory = ⊥
IsCalmDenial other = Unit {0}

abbrev pub IsCalmAnswer : Answer → Type 0
IsCalmAnswer (Ok reply) = Unit {0}
IsCalmAnswer (Err refusal) = IsCalmDenial refusal

abbrev pub IsCalmBegun : Begun → Type 0
IsCalmBegun (begun.Unasked refusal) = IsCalmDenial refusal
IsCalmBegun (begun.Asked answer) = IsCalmAnswer answer

abbrev pub IsCalmResponse : Response → Type 0
IsCalmResponse (response.Denied refusal) = IsCalmDenial refusal
IsCalmResponse (response.Lost fault) = ⊥
IsCalmResponse (response.File content first) = Unit {0}
IsCalmResponse response.Made = Unit {0}
IsCalmResponse response.Done = Unit {0}
IsCalmResponse (response.Listing lines) = Unit {0}
IsCalmResponse (response.Share line) = Unit {0}
IsCalmResponse (response.Shares lines) = Unit {0}
IsCalmResponse (response.Items lines) = Unit {0}
IsCalmResponse (response.Versions lines) = Unit {0}
IsCalmResponse response.Plain = Unit {0}

-- an end that comes of no fault of reading or writing, no piece that isn't given, and no want of memory
abbrev pub IsCalmEnded : Ended → Type 0
IsCalmEnded ended.Closed = Unit {0}
IsCalmEnded ended.BadMessage = Unit {0}
IsCalmEnded ended.RunFull = Unit {0}
IsCalmEnded (ended.Cut fault) = ⊥
IsCalmEnded ended.ReadFault = ⊥
IsCalmEnded ended.WriteFault = ⊥
IsCalmEnded ended.Memory = ⊥

abbrev pub IsCalmEnd : Option Ended → Type 0
IsCalmEnd None = Unit {0}
IsCalmEnd (Some by) = IsCalmEnded by

-- a turn in which neither the Begin of a message nor its response tells of one
abbrev pub IsCalmTurn : {C : Type 0} (reads : C → Taken → C → Type 0) (last : Bool) (a b : Scene C)
    (end : Option Ended)
    → Turn reads last a b end → Type 0
IsCalmTurn reads last a b end (inl ended) = Unit {0}
IsCalmTurn reads last a b end (inr (inl refused)) = Unit {0}
IsCalmTurn reads last a b end (inr (inr (m, head, heads, inl cut))) = Unit {0}
IsCalmTurn reads last a b end (inr (inr (m, head, heads, inr (t, body, takes, (n, begun, judges, inl stopped))))) = IsCalmBegun begun
IsCalmTurn reads last a b end (inr (inr (
  m,
  head,
  heads,
  inr (
    t,
    body,
    takes,
    (n, begun, judges, inr (invited, invites, inl answers)),
  ),
))) = IsCalmBegun begun × IsCalmResponse answers.response
IsCalmTurn reads last a b end (inr (inr (
  m,
  head,
  heads,
  inr (
    t,
    body,
    takes,
    (n, begun, judges, inr (invited, invites, inr cut)),
  ),
))) = IsCalmBegun begun

-- turns that all are
abbrev pub AreCalmTurns : {C : Type 0} (reads : C → Taken → C → Type 0) (a : Scene C) (scenes : List (Scene C))
    (b : Scene C)
    → Through reads a scenes b → Type 0
AreCalmTurns reads a [] b through = Unit {0}
AreCalmTurns reads a (m ∷ scenes) b through =
    IsCalmTurn reads false a m None through.0 × AreCalmTurns reads m scenes b through.1

-- as many entries came as are the seat's own: no other seat made any
abbrev pub IsAlone : Book → Book → Type 0
IsAlone a b = length b.known + length a.own ≡ length a.known + length b.own

-- nothing of the outside failed, memory didn't want, and no other seat made an entry
pub record IsUndisturbed {C : Type 0} (reads : C → Taken → C → Type 0) (a b : Scene C) (end : Option Ended)
    (session : Session reads a b end) : Type 0 where
  pub turns : AreCalmTurns reads a session.scenes session.before session.through
  pub turn : IsCalmTurn reads (length session.scenes == MAX_MESSAGES - 1) session.before b end session.turn
  pub end_is : IsCalmEnd end
  pub alone : IsAlone a.book b.book

-- ---- the laws

-- the outputs are the same up to a piece of which different bytes were written: both have its size and SHA-256 digest
-- (FIPS 180-4), and each is what its store tells under the piece's number, if it tells
pub record Clash {C : Type 0} (b d : Scene C) : Type 0 where
  pub piece : Piece
  pub one : List ℕ
  pub other : List ℕ
  pub given : IsPiece b.book piece one
  pub also : IsPiece d.book piece other
  pub differ : one ≢ other
  pub front : List ℕ
  pub rest : List ℕ
  pub more : List ℕ
  pub wrote : b.output ≡ Some (front ++ one ++ rest)
  pub wrote_also : d.output ≡ Some (front ++ other ++ more)

-- two such sessions, begun in scenes that are the same, end so too, and in the same way; or pieces of one digest are
-- shown in what they wrote
abbrev pub SessionsEndAlike : {C : Type 0} → (C → Taken → C → Type 0) → Type 0
SessionsEndAlike {C} reads =
    (a b c d : Scene C) (end also : Option Ended) (one : Session reads a b end) (other : Session reads c d also)
    → IsSteady reads → AreSame a c → IsUndisturbed reads a b end one → IsUndisturbed reads c d also other
    → ((also ≡ end) × AreSame b d) ⊎ Clash b d

-- both stores tell, and wherever both tell a blob of a number, it is the same
abbrev pub StoresAgree : Book → Book → Type 0
StoresAgree b d =
    (one : Blobs) × (other : Blobs) × (b.told ≡ Some one) × (d.told ≡ Some other)
    × ((id : ℕ) (x y : List ℕ) → blob_at one id ≡ Some x → blob_at other id ≡ Some y → x ≡ y)

-- no piece clashes where the stores agree at the end
abbrev pub ToldSessionsEndAlike : {C : Type 0} → (C → Taken → C → Type 0) → Type 0
ToldSessionsEndAlike {C} reads =
    (a b c d : Scene C) (end also : Option Ended) (one : Session reads a b end) (other : Session reads c d also)
    → IsSteady reads → AreSame a c → IsUndisturbed reads a b end one → IsUndisturbed reads c d also other
    → StoresAgree b.book d.book → (also ≡ end) × AreSame b d
