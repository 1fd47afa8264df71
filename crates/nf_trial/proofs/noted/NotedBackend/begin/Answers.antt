use Rattle.std.proofs.Common.{Bool, subst, sym}
use Rattle.nf_session.specs.Laws.{is_failed}
use Rattle.nf_trial.specs.Noted.{IsNoted, Watched}
use Rattle.nf_trial.proofs.Struck.{begins_lasts, begins_struck, still_noted}
use Rattle.nf_trial.proofs.noted.NotedBackend.begin.Goals as goal

pub invariant_of-self : goal.invariant_of-self
invariant_of-self g c =
    let old : Watched _ = record {
      backend = c.self.inside.backend;
      start = c.self.inside.start;
      has_failed = c.self.inside.has_failed;
    } in
    let after = c.begin-answer.new.self in
    subst (λ (failed : Bool). IsNoted g.B.Backend (record old { backend = after; has_failed = failed })) (sym c.with_answer-self-inside.ensures)
    (still_noted g.B.Backend old after (is_failed c.begin-answer.result) c.self.invariant (begins_lasts _ _ _ _ _ _ c.begin-answer.ensures.begins)
    (begins_struck _ _ _ _ _ _ c.begin-answer.ensures.begins))
