use Rattle.std.proofs.Common.{◌∙◌, Bool, refl, subst}
use Rattle.nf_trial.specs.Single.{Judges}
use Rattle.nf_trial.proofs.Steps.{begins_at, serves_by}
use Rattle.nf_trial.proofs.trials.try_one.Goals as goal

pub returns-clause-tries : goal.returns-clause-tries
returns-clause-tries g c = record {
  output = c.bytes.result.now;
  end = c.serve_session-ended.result;
  serves = serves_by _ _ _ _ _ _ _ _
      (begins_at _ _ _ _ _ _ _ _ _ c.new-input.ensures.left c.new-output.ensures.written c.new-clock.ensures c.new-dice.ensures
      c.new-input.ensures.faults c.new-output.ensures.faults) refl c.bytes.ensures c.serve_session-ended.ensures.session.2;
  judged = subst (λ (failed : Bool). Judges failed c.serve_session-ended.result c.bytes.result.now c.judged.result) c.has_failed.ensures.is
      c.judged.ensures;
  risen = λ failed. c.has_failed.ensures.risen (c.has_failed.ensures.is ∙ failed);
}
