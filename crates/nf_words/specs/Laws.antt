-- What every step keeps, and the order of the refusals.
use Rattle.std.specs.Prelude.{◌≡◌, ◌≢◌, ◌↔◌, ℕ, List, [], ◌∷◌, ◌++◌, None, Some, IsNone, Ok, Err}
use Rattle.std.specs.List.{AllPairs}
use Rattle.nf_base.specs.declared.rows.Row.{Row}
use Rattle.nf_defs.specs.Access.{Access}
use Rattle.nf_words.specs.State.{State, goal_at, opened, ticket_of, without_ticket}
use Rattle.nf_words.specs.Calls.{Call}
use Rattle.nf_words.specs.Rules.{Rule, rules, refusal_of}
use Rattle.nf_words.specs.Step.{decision_of, step, answer_to}
use Rattle.nf_words.specs.History.{IsLegal, after, answer_at, failed, replay}
use Rattle.nf_words.specs.declared.answer.Denial.{Denial}
use Rattle.nf_words.specs.declared.answer.Denial.TheVariants as denial
use Rattle.nf_words.specs.declared.answer.Goal.{Goal}
use Rattle.nf_words.specs.declared.answer.Reply.TheVariants.{Granted}
use Rattle.nf_words.specs.declared.request.Request.{Request}
use Rattle.nf_words.specs.declared.request.Words.{Words}
use Rattle.nf_words.specs.declared.history.Entry.{Entry}
use Rattle.nf_words.specs.declared.history.Event.{Event}
use Rattle.nf_words.specs.declared.history.Event.TheVariants.{Begin, End}
use Rattle.nf_words.specs.declared.history.Mark.TheVariants as mark
use Rattle.nf_words.specs.declared.history.Outcome.{Outcome}
use Rattle.nf_words.specs.declared.history.Ticket.{Ticket}

-- a Begin that is refused changes no row and no ticket
abbrev pub RefusedBeginsKeep : Type 0
RefusedBeginsKeep =
    (s : State) (seat now : ℕ) (words : Words) (request : Request) (refusal : Denial)
    → decision_of s seat now (Begin words request) ≡ Err refusal
    → step s seat now (Begin words request) ≡ record s { seen = now }

-- an End that is refused changes no row and takes its seat's ticket alone
abbrev pub RefusedEndsKeep : Type 0
RefusedEndsKeep =
    (s : State) (seat now : ℕ) (outcome : Outcome) (refusal : Denial)
    → decision_of s seat now (End outcome) ≡ Err refusal
    → step s seat now (End outcome) ≡ record (without_ticket s seat) { seen = now }

-- so does a step whose store failed or that found no memory
abbrev pub FailuresKeep : Type 0
FailuresKeep = (s : State) (seat now : ℕ) (event : Event) → (failed s seat now event).tables ≡ s.tables

-- and an End that stores nothing
abbrev pub ClosingsKeep : Outcome → Type 0
ClosingsKeep outcome = (s : State) (seat now : ℕ) → (step s seat now (End outcome)).tables ≡ s.tables

-- an End leaves its seat no ticket, whatever it answers
abbrev pub EndsFree : Type 0
EndsFree = (s : State) (seat now : ℕ) (outcome : Outcome) → ticket_of (step s seat now (End outcome)) seat ≡ None

-- nor does one that failed
abbrev pub FailedEndsFree : Type 0
FailedEndsFree = (s : State) (seat now : ℕ) (outcome : Outcome) → ticket_of (failed s seat now (End outcome)) seat ≡ None

-- a step that is granted leaves its seat, which had no ticket, one of its goal
abbrev pub GrantsTicket : Type 0
GrantsTicket =
    (s : State) (seat now : ℕ) (event : Event) (goal : Goal)
    → IsNone (ticket_of s seat) → answer_to s seat now event ≡ Ok (Granted goal)
    → goal_at (step s seat now event) seat ≡ Some goal

-- an entry, however marked, leaves every other seat its ticket
abbrev pub OthersKeep : Type 0
OthersKeep = (s : State) (e : Entry) (seat : ℕ) → seat ≢ e.seat → ticket_of (after s e) seat ≡ ticket_of s seat

-- an entry's answer is `store` or `memory` exactly where it is marked so
pub record MarksAnswer : Type 0 where
  pub store : (s : State) (e : Entry) → (answer_at s e e.mark ≡ Err denial.Store) ↔ (e.mark ≡ mark.Store)
  pub memory : (s : State) (e : Entry) → (answer_at s e e.mark ≡ Err denial.Memory) ↔ (e.mark ≡ mark.Memory)

-- some rules pass a call
abbrev pub Pass : List Rule → Access → Call → Type 0
Pass [] access call = Unit {0}
Pass (rule ∷ others) access call = (rule access call ≡ None) × Pass others access call

-- a rule refuses where all before it pass, whatever those behind it say
abbrev pub FirstRuleRefuses : Type 0
FirstRuleRefuses =
    (before : List Rule) (rule : Rule) (behind : List Rule) (access : Access) (call : Call) (refusal : Denial)
    → rules ≡ before ++ rule ∷ behind → Pass before access call → rule access call ≡ Some refusal
    → refusal_of access call ≡ Some refusal

-- and a call that all pass is refused by none
abbrev pub AllowedByAll : Type 0
AllowedByAll = (access : Access) (call : Call) → Pass rules access call → refusal_of access call ≡ None

-- over a legal history no seat has two tickets
abbrev pub SeatsDiffer : Type 0
SeatsDiffer =
    (rows : List Row) (es : List Entry) → IsLegal (opened rows) es
    → AllPairs (λ (a b : Ticket). a.seat ≢ b.seat) (replay (opened rows) es).tickets
