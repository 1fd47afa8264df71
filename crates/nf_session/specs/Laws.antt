-- What follows from the relation of a turn, and from a book that is one legal history.
use Rattle.std.specs.Prelude.{◌≡◌, ◌⊎◌, ℕ, ◌+◌, ◌-◌, ◌^◌, ◌≤◌, ◌==◌, Bool, true, false, List, [], ◌∷◌, ◌++◌, length, count_by, Option, None, Some, Result, Ok, Err, if◌then◌else◌}
use mathlib.Core.Logic.{inl, inr}
use Rattle.nf_base.specs.declared.limits.TheConstants.{MAX_MESSAGES}
use Rattle.nf_http.specs.Head.{Head}
use Rattle.nf_http.specs.declared.wire.WireFault.{WireFault}
use Rattle.nf_http.specs.declared.wire.WireFault.TheVariants as wire
use Rattle.nf_outside.specs.Lent.{Taken}
use Rattle.nf_words.specs.Prelude.{answer_at, goal_at, replay, State}
use Rattle.nf_words.specs.declared.answer.Denial.TheVariants as denial
use Rattle.nf_words.specs.declared.history.Entry.{Entry}
use Rattle.nf_outside.specs.Causes.{Rose}
use Rattle.nf_session.specs.Book.{Answer, Book, IsBook, Lasts, held, own_from, state_of}
use Rattle.nf_session.specs.Steps.{Scene, Heads, Cuts, Invites, Judges, Closes, TakesEarly, cutting, is_granted, taken_length}
use Rattle.nf_session.specs.Session.{Session, Through}
use Rattle.nf_session.specs.Turn.{Turn}
use Rattle.nf_session.specs.declared.backend.Ending.TheVariants as ending
use Rattle.nf_session.specs.declared.backend.PieceFault.TheVariants as fault
use Rattle.nf_session.specs.declared.begun.Begun.{Begun}
use Rattle.nf_session.specs.declared.ended.Ended.{Ended}
use Rattle.nf_session.specs.declared.ended.Ended.TheVariants as ended
use Rattle.nf_session.specs.declared.response.Response.{Response}
use Rattle.nf_session.specs.declared.response.Response.TheVariants as response

-- a head was taken, and less than the body that its request may go by: nothing was granted
pub record LosesEarly {C : Type 0} (a b : Scene C) (fault : WireFault) : Type 0 where
  pub headed : Scene C
  pub head : Head
  pub heads : Heads a headed (Ok (Some head))
  pub cuts : TakesEarly head headed b (Err fault)

-- a head was taken and less than its body, and what was granted is gone
pub record LosesBody {C : Type 0} (reads : C → Taken → C → Type 0) (a b : Scene C) (fault : WireFault) : Type 0 where
  pub headed : Scene C
  pub head : Head
  pub taken : Scene C
  pub early : List ℕ
  pub asked : Scene C
  pub begun : Begun
  pub invited : Scene C
  pub cut : Scene C
  pub heads : Heads a headed (Ok (Some head))
  pub takes : TakesEarly head headed taken (Ok early)
  pub judged : Judges reads head early taken asked begun
  pub invites : Invites {T = Unit {0}} head begun asked invited (Ok tt)
  pub cuts : Cuts (cutting begun) invited cut (taken_length head begun) fault
  pub closed : Closes reads ending.Gone (is_granted begun) cut b

-- at a fault of reading no head was taken and nothing was done, or less than a body was, and that is gone: nothing is stored
abbrev pub ReadFaultsStoreNothing : {C : Type 0} → (C → Taken → C → Type 0) → Type 0
ReadFaultsStoreNothing {C} reads =
    (last : Bool) (a b : Scene C) → Turn reads last a b (Some ended.ReadFault)
    → Heads a b (Err wire.ReadFault) ⊎ LosesEarly a b wire.ReadFault ⊎ LosesBody reads a b wire.ReadFault

-- how often an input and an output failed, before and after: that by whose fault it ended once more, and none else
abbrev pub CountsFault : Option Ended → ℕ → ℕ → ℕ → ℕ → Type 0
CountsFault (Some ended.ReadFault) read read_then write write_then = Rose read read_then × (write_then ≡ write)
CountsFault (Some ended.WriteFault) read read_then write write_then = (read_then ≡ read) × Rose write write_then
CountsFault end read read_then write write_then = (read_then ≡ read) × (write_then ≡ write)

-- what a seat knows goes on, and a fault of an end is counted where it is named
pub record Follows {C : Type 0} (a b : Scene C) (end : Option Ended) : Type 0 where
  pub lasts : Lasts a.book b.book
  pub counts : CountsFault end a.read_faults b.read_faults a.write_faults b.write_faults

abbrev pub SessionsFollow : {C : Type 0} → (C → Taken → C → Type 0) → Type 0
SessionsFollow {C} reads = (a b : Scene C) (end : Option Ended) → Session reads a b end → Follows a b end

-- ---- strikes

-- the answer of an entry whose store failed
abbrev pub is_failed : Answer → Bool
is_failed (Err denial.Store) = true
is_failed answer = false

-- how many of these entries are answered so
abbrev pub failed_entries : List (Entry × Answer) → ℕ
failed_entries entries = count_by (λ made. is_failed made.1) entries

-- the first piece of a file, where the store failed at it
abbrev pub failed_first : Response → ℕ
failed_first (response.Lost fault.Store) = 1
failed_first other = 0

-- a piece behind it, at which the writing ended so
abbrev pub failed_by : Ended → ℕ
failed_by (ended.Cut fault.Store) = 1
failed_by other = 0

abbrev pub failed_behind : Result (Option Ended) Ended → ℕ
failed_behind (Ok end) = 0
failed_behind (Err by) = failed_by by

-- how many pieces the store failed at in a turn
abbrev pub failed_pieces : {C : Type 0} (reads : C → Taken → C → Type 0) (last : Bool) (a b : Scene C)
    (end : Option Ended)
    → Turn reads last a b end → ℕ
failed_pieces reads last a b end (inl ended) = 0
failed_pieces reads last a b end (inr (inl refused)) = 0
failed_pieces reads last a b end (inr (inr (m, head, heads, inl cut))) = 0
failed_pieces reads last a b end (inr (inr (m, head, heads, inr (n, body, takes, (asked, begun, judged, inl stopped))))) = 0
failed_pieces reads last a b end (inr (inr (
  m,
  head,
  heads,
  inr (
    n,
    body,
    takes,
    (asked, begun, judged, inr (invited, invites, inl answers)),
  ),
))) = failed_first answers.response + failed_behind answers.result
failed_pieces reads last a b end (inr (inr (
  m,
  head,
  heads,
  inr (
    n,
    body,
    takes,
    (asked, begun, judged, inr (invited, invites, inr cut)),
  ),
))) = 0

-- in some turns
abbrev pub failed_through : {C : Type 0} (reads : C → Taken → C → Type 0) (a : Scene C) (scenes : List (Scene C))
    (b : Scene C)
    → Through reads a scenes b → ℕ
failed_through reads a [] b through = 0
failed_through reads a (m ∷ scenes) b through =
    failed_pieces reads false a m None through.0 + failed_through reads m scenes b through.1

-- and in a session
abbrev pub failed_in : {C : Type 0} (reads : C → Taken → C → Type 0) (a b : Scene C) (end : Option Ended)
    → Session reads a b end → ℕ
failed_in reads a b end session =
    failed_through reads a session.scenes session.before session.through
    + failed_pieces reads (length session.scenes == MAX_MESSAGES - 1) session.before b end session.turn

-- as many more; or fewer, and the last value
abbrev pub Counted : ℕ → ℕ → ℕ → Type 0
Counted before n now = (now ≡ before + n) ⊎ ((now ≡ 2 ^ 64 - 1) × (now ≤ before + n))

-- each of the seat's new entries at which the store failed, and each of so many pieces, is a strike, and nothing else is
pub record CountsStrikes (a b : Book) (pieces : ℕ) : Type 0 where
  pub entries : List (Entry × Answer)
  pub own : b.own ≡ a.own ++ entries
  pub counted : Counted a.strikes (failed_entries entries + pieces) b.strikes

-- a session tells every failure of the store that was met in it
abbrev pub StrikesCount : {C : Type 0} → (C → Taken → C → Type 0) → Type 0
StrikesCount {C} reads =
    (a b : Scene C) (end : Option Ended) (session : Session reads a b end)
    → CountsStrikes a.book b.book (failed_in reads a b end session)

-- ---- what is held

-- what a seat holds by its own entries is what it was granted in the state of all that it has seen
abbrev pub HeldIsTicket : Type 0
HeldIsTicket = (b : Book) → IsBook b → held b ≡ goal_at (state_of b) b.seat

-- the entry with its answer, where it is the seat's
abbrev pub own_at : ℕ → State → Entry → List (Entry × Answer)
own_at seat s e = if e.seat == seat then (e, answer_at s e e.mark) ∷ [] else []

-- with an entry more a seat's own are those before, and that one where it is the seat's
abbrev pub OwnGrows : Type 0
OwnGrows =
    (seat : ℕ) (s : State) (es : List Entry) (e : Entry)
    → own_from seat s (es ++ e ∷ []) ≡ own_from seat s es ++ own_at seat (replay s es) e
