-- One step of the site: a Begin is refused by the first rule that holds, or allowed; an End frees the seat's ticket, whatever it answers.
use Rattle.std.specs.Prelude.{ℕ, List, [], Option, None, Result, Ok, Err}
use Rattle.nf_base.specs.declared.changes.Change.{Change}
use Rattle.nf_defs.specs.Prelude.{Tables}
use Rattle.nf_words.specs.State.{State, access_of, without_ticket}
use Rattle.nf_words.specs.Calls.{Call}
use Rattle.nf_words.specs.Rules.{refusal_of}
use Rattle.nf_words.specs.Changes.{allowed_of, applied, blob_of, changes_of, reply_to, swept}
use Rattle.nf_words.specs.Endings.{unless_refused, end_decision}
use Rattle.nf_words.specs.declared.request.Request.{Request}
use Rattle.nf_words.specs.declared.request.Words.{Words}
use Rattle.nf_words.specs.declared.answer.Allowed.{Allowed}
use Rattle.nf_words.specs.declared.answer.Denial.{Denial}
use Rattle.nf_words.specs.declared.answer.Reply.{Reply}
use Rattle.nf_words.specs.declared.history.Event.{Event}
use Rattle.nf_words.specs.declared.history.Event.TheVariants.{Begin, End, Sweep}

abbrev pub call_of : State → ℕ → ℕ → Words → Request → Call
call_of s seat now words request = record { state = s; seat = seat; now = now; words = words; request = request }

-- what a call may do
abbrev pub call_decision : Call → Result Allowed Denial
call_decision call =
    let access = access_of call.state in unless_refused (refusal_of access call) (allowed_of access call)

-- what a seat's event at a moment may do
abbrev pub decision_of : State → ℕ → ℕ → Event → Result Allowed Denial
decision_of s seat now (Begin words request) = call_decision (call_of s seat now words request)
decision_of s seat now (End outcome) = end_decision (access_of s) s seat now outcome
decision_of s seat now Sweep = Ok (swept s.tables now)

-- the state without what an event takes, whatever it answers
abbrev pub without : State → ℕ → Event → State
without s seat (Begin words request) = s
without s seat (End outcome) = without_ticket s seat
without s seat Sweep = s

-- a refusal changes nothing more
abbrev pub decided : State → ℕ → ℕ → Result Allowed Denial → State
decided s seat now (Ok act) = applied s seat now act
decided s seat now (Err refusal) = s

abbrev pub answered_by : Result Allowed Denial → Result Reply Denial
answered_by (Ok act) = Ok (reply_to act)
answered_by (Err refusal) = Err refusal

-- the blob that a decision stores
abbrev pub blob_by : Result Allowed Denial → Option ℕ
blob_by (Ok act) = blob_of act
blob_by (Err refusal) = None

-- what a decision changes
abbrev pub changes_by : Tables → ℕ → Result Allowed Denial → List Change
changes_by t now (Ok act) = changes_of t now act
changes_by t now (Err refusal) = []

-- the state after a decision
abbrev pub stepped_by : State → ℕ → ℕ → Event → Result Allowed Denial → State
stepped_by s seat now event decision = record (decided (without s seat event) seat now decision) { seen = now }

-- the state after the step, and its answer
abbrev pub step : State → ℕ → ℕ → Event → State
step s seat now event = stepped_by s seat now event (decision_of s seat now event)

abbrev pub answer_to : State → ℕ → ℕ → Event → Result Reply Denial
answer_to s seat now event = answered_by (decision_of s seat now event)

-- the blob that the step stores
abbrev pub blob_to : State → ℕ → ℕ → Event → Option ℕ
blob_to s seat now event = blob_by (decision_of s seat now event)

-- the rows that the step changes, told as a list
abbrev pub changes_to : State → ℕ → ℕ → Event → List Change
changes_to s seat now event = changes_by s.tables now (decision_of s seat now event)
