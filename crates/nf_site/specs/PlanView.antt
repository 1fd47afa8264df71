-- What a plan's fields say of it.
use Rattle.std.specs.Prelude.{Result, Ok, Err}
use Rattle.nf_words.specs.declared.answer.Allowed.{Allowed}
use Rattle.nf_words.specs.declared.answer.Denial.{Denial}
use Rattle.nf_site.specs.Plans.{Planned}
use Rattle.nf_site.specs.declared.plan.Deed.{Deed}
use Rattle.nf_site.specs.declared.plan.Plan.TheInside.{Inside}

-- the act that is done, or the refusal
abbrev pub decision_in : Result Deed Denial → Result Allowed Denial
decision_in (Ok deed) = Ok deed.act
decision_in (Err refusal) = Err refusal

abbrev pub planned_in : Inside → Planned
planned_in plan = record {
  seat = plan.seat;
  moment = plan.moment;
  event = plan.event;
  decision = decision_in plan.decided;
  changes = plan.changes;
}
