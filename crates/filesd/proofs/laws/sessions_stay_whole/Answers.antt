use Rattle.nf_outside.specs.Lent.{takes}
use Rattle.filesd.proofs.Whole.{stay_whole}
use Rattle.filesd.proofs.laws.sessions_stay_whole.Goals as goal

pub returns : goal.returns
returns g c = stay_whole (takes g.C.Clock.reads g.Q.Dice.draws)
