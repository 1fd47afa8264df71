use Rattle.nf_outside.specs.Lent.{takes}
use Rattle.nf_session.proofs.Strikes.{session_counts}
use Rattle.nf_session.proofs.laws.strikes_count.Goals as goal

pub returns : goal.returns
returns g c = session_counts (takes g.C.Clock.reads g.D.Dice.draws)
