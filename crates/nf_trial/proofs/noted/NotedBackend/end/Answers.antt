use Rattle.std.proofs.Common.{Bool, subst, sym}
use Rattle.nf_session.specs.Laws.{is_failed}
use Rattle.nf_trial.specs.Noted.{IsNoted, Watched}
use Rattle.nf_trial.proofs.Struck.{ends_lasts, ends_struck, still_noted}
use Rattle.nf_trial.proofs.noted.NotedBackend.end.Goals as goal

pub invariant_of-self : goal.invariant_of-self
invariant_of-self g c =
    let old : Watched _ = record {
      backend = c.self.inside.backend;
      start = c.self.inside.start;
      has_failed = c.self.inside.has_failed;
    } in
    let after = c.end-answer.new.self in
    subst (λ (failed : Bool). IsNoted g.B.Backend (record old { backend = after; has_failed = failed })) (sym c.with_answer-self-inside.ensures)
    (still_noted g.B.Backend old after (is_failed c.end-answer.result) c.self.invariant (ends_lasts _ _ _ _ _ c.end-answer.ensures.ends)
    (ends_struck _ _ _ _ _ c.end-answer.ensures.ends))
