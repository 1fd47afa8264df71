use Rattle.std.proofs.Common.{◌≡◌, ◌≤◌}
use Rattle.std.specs.Prelude.{None}
use Rattle.nf_session.specs.Book.{held}
use Rattle.nf_trial.specs.Trials.{Answers, state_at}
use Rattle.nf_trial.proofs.trials.try_all.Given as goal

abbrev pub invariant-loop-at : goal.invariant-loop-at
invariant-loop-at g l =
    (l.messages ≡ record { index = l.at; state = state_at l.seed l.at })
    × Answers l.seed (g.B.Backend.book l.fn.backend.backend) l.at (g.B.Backend.book l.backend.backend) l.granted
    × (l.granted ≤ l.at)
    × (held (g.B.Backend.book l.backend.backend) ≡ None)
    × (g.B.Backend.lent l.backend.backend ≡ g.B.Backend.lent l.fn.backend.backend)
    × (l.backend.start ≡ l.fn.backend.start)
