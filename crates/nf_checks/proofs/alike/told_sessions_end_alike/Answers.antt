use Rattle.nf_outside.specs.Lent.{takes}
use Rattle.nf_checks.proofs.Sessions.{told_sessions_same}
use Rattle.nf_checks.proofs.alike.told_sessions_end_alike.Goals as goal

pub returns : goal.returns
returns g c = told_sessions_same (takes g.C.Clock.reads g.D.Dice.draws)
