use Rattle.nf_outside.specs.Lent.{takes}
use Rattle.nf_session.proofs.Causes.{session_follows}
use Rattle.nf_session.proofs.laws.sessions_follow.Goals as goal

pub returns : goal.returns
returns g c = session_follows (takes g.C.Clock.reads g.D.Dice.draws)
