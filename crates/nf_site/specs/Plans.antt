-- Plans: a step before it is made.
use Rattle.std.specs.Prelude.{◌≡◌, ℕ, ◌≤◌, List, Result, IsOk, ⊤}
use Rattle.nf_base.specs.declared.changes.Change.{Change}
use Rattle.nf_words.specs.Prelude.{changes_to, decision_of, MayAsk, State}
use Rattle.nf_words.specs.declared.answer.Allowed.{Allowed}
use Rattle.nf_words.specs.declared.answer.Denial.{Denial}
use Rattle.nf_words.specs.declared.history.Event.{Event}
use Rattle.nf_words.specs.declared.history.Event.TheVariants.{Begin, End, Sweep}
use Rattle.nf_words.specs.declared.history.Outcome.TheVariants.{Sent, Gone, Body}
use Rattle.nf_site.specs.Held.{Held, FitsDecision, HasEntryRoom}
use Rattle.nf_site.specs.Kept.{moment_of}

-- a seat's event at a moment, what it may do, and the rows that it changes
pub record Planned : Type 0 where
  pub seat : ℕ
  pub moment : ℕ
  pub event : Event
  pub decision : Result Allowed Denial
  pub changes : List Change

-- the step of a seat's event at a moment
abbrev pub plan_at : State → ℕ → ℕ → Event → Planned
plan_at s seat moment event = record {
  seat = seat;
  moment = moment;
  event = event;
  decision = decision_of s seat moment event;
  changes = changes_to s seat moment event;
}

-- the same by a clock's reading
abbrev pub plan_of : State → ℕ → ℕ → Event → Planned
plan_of s seat now event = plan_at s seat (moment_of s now) event

-- a plan that the site may adopt: it is the step of its event, which may come now, and it fits
pub record IsReady (site : Held) (plan : Planned) : Type 0 where
  pub planned : plan ≡ plan_at site.kept.state plan.seat plan.moment plan.event
  pub not_before : site.kept.state.seen ≤ plan.moment
  pub asked : MayAsk site.kept.state plan.seat plan.event
  pub room : HasEntryRoom site plan.event
  pub rows : FitsDecision site plan.decision

-- an End that brings no body is always planned
abbrev pub IsPlannedAtEnd : {P E : Type 0} → Event → Result P E → Type 0
IsPlannedAtEnd (Begin words request) result = ⊤
IsPlannedAtEnd (End Sent) result = IsOk result
IsPlannedAtEnd (End Gone) result = IsOk result
IsPlannedAtEnd (End (Body digest length)) result = ⊤
IsPlannedAtEnd Sweep result = ⊤
