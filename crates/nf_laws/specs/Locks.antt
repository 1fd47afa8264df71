-- Locks: what a seat holds stays as it is until the seat's End, and whoever would touch it is told so.
use Rattle.std.specs.Prelude.{◌≡◌, ◌≢◌, ◌↔◌, ℕ, ◌≤◌, All, Contains, true, List, None, Some, Err}
use Rattle.std.specs.List.{Any}
use Rattle.std.specs.Option.{IfSome}
use Rattle.nf_base.specs.declared.rows.NodeRow.{NodeRow}
use Rattle.nf_defs.specs.Prelude.{child_of, node_row, Tables}
use Rattle.nf_words.specs.Prelude.{access_of, after, answer_to, AreApartHolds, asked_by, Call, call_of, clashes, earlier_rules, HoldsFor, IsHeld, IsSound, MayCome, node_of_key, Pass, places_of, State, ticket_of, Touch, touches}
use Rattle.nf_words.specs.declared.answer.Denial.TheVariants as denial
use Rattle.nf_words.specs.declared.answer.Hold.{Hold}
use Rattle.nf_words.specs.declared.answer.LockKey.{LockKey}
use Rattle.nf_words.specs.declared.answer.LockKey.TheVariants.{Node, Slot}
use Rattle.nf_words.specs.declared.history.Entry.{Entry}
use Rattle.nf_words.specs.declared.history.Event.TheVariants.{Begin}
use Rattle.nf_words.specs.declared.history.Ticket.{Ticket}
use Rattle.nf_words.specs.declared.request.Request.{Request}
use Rattle.nf_words.specs.declared.request.Words.{Words}

-- ---- what is held

-- what a seat holds is there: a file, or a folder that has no child of that name
abbrev pub HeldIsThere : Type 0
HeldIsThere =
    (s : State) (seat : ℕ) (ticket : Ticket) → IsSound s → ticket_of s seat ≡ Some ticket
    → IfSome ticket.hold (λ (hold : Hold). IsHeld s.tables hold.key)

-- for what a seat was granted it holds the file that is sent, beside others who read, or alone the file or the free name that is stored
-- over; so it has what it was granted as long as it holds it
abbrev pub GrantedIsHeld : Type 0
GrantedIsHeld =
    (s : State) (seat : ℕ) (ticket : Ticket) → IsSound s → ticket_of s seat ≡ Some ticket → HoldsFor ticket.goal ticket.hold

-- two seats that hold the same key both read
abbrev pub HoldsAgree : Type 0
HoldsAgree =
    (s : State) (seat other : ℕ) (ticket another : Ticket) → IsSound s → seat ≢ other
    → ticket_of s seat ≡ Some ticket → ticket_of s other ≡ Some another → AreApartHolds ticket.hold another.hold

-- the folder has no child of that name
abbrev pub IsFree : List NodeRow → LockKey → Type 0
IsFree rows (Node node) = Unit {0}
IsFree rows (Slot folder name) = child_of rows folder name ≡ None

-- a file that is held keeps its content, name, folder, owner and moment; and a folder in which a free name is held keeps its own, and gets
-- no child of that name
pub record KeyStays (before after : Tables) (key : LockKey) : Type 0 where
  pub row : node_row after.nodes (node_of_key key) ≡ node_row before.nodes (node_of_key key)
  pub free : IsFree after.nodes key

-- no entry of another seat changes what a seat holds
abbrev pub OthersSpare : Type 0
OthersSpare =
    (n : ℕ) (s : State) (e : Entry) (seat : ℕ) (ticket : Ticket) → IsSound s → MayCome n s e → seat ≢ e.seat
    → ticket_of s seat ≡ Some ticket → IfSome ticket.hold (λ (hold : Hold). KeyStays s.tables (after s e).tables hold.key)

-- ---- who is refused

-- a seat's ticket holds a key that clashes with what the call touches
pub record IsBlocked (call : Call) (ticket : Ticket) (hold : Hold) : Type 0 where
  pub holds : ticket.hold ≡ Some hold
  pub clash : Any (λ (touch : Touch). clashes call.state.tables.nodes touch hold ≡ true)
      (touches call.state.tables (asked_by call) (places_of call))

-- the key is held by another seat and clashes with what the call touches, and no lesser seat's does
pub record IsInWay (call : Call) (key : LockKey) : Type 0 where
  pub ticket : Ticket
  pub there : Contains call.state.tickets ticket
  pub other : ticket.seat ≢ call.seat
  pub hold : Hold
  pub key_is : hold.key ≡ key
  pub blocked : IsBlocked call ticket hold
  pub least : All (λ (another : Ticket). (held : Hold) → another.seat ≢ call.seat → IsBlocked call another held → ticket.seat ≤ another.seat)
      call.state.tickets

-- a request is refused as locked exactly where no earlier rule refuses it and that key is in its way
abbrev pub LockedExactly : Type 0
LockedExactly =
    (s : State) (seat now : ℕ) (words : Words) (request : Request) (key : LockKey) → IsSound s
    → (answer_to s seat now (Begin words request) ≡ Err (denial.Locked key))
    ↔ (Pass earlier_rules (access_of s) (call_of s seat now words request) × IsInWay (call_of s seat now words request) key)
