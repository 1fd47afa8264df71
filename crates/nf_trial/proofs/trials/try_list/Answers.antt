use Rattle.std.proofs.Common.{ap, subst, sym}
use Rattle.nf_session.specs.Book.{Book}
use Rattle.nf_trial.specs.Trials.{Concludes}
use Rattle.nf_trial.proofs.trials.try_list.Goals as goal

pub returns-clause-concludes : goal.returns-clause-concludes
returns-clause-concludes g c =
    let k = g.B.Backend in
    let tried = c.try_all-tried.result in
    let seed = c.args.seed in
    let count = c.args.count in
    subst (λ (a : Book). Concludes seed count a (k.book c.into_inner.result) tried) (ap k.book c.new-noted.ensures.backend)
    (subst (λ (b : Book). Concludes seed count (k.book c.new-noted.result.backend) b tried) (sym (ap k.book c.into_inner.ensures))
    c.try_all-tried.ensures.concludes)
