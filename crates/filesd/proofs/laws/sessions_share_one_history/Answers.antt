use Rattle.nf_outside.specs.Lent.{takes}
use Rattle.filesd.proofs.Together.{share_one}
use Rattle.filesd.proofs.laws.sessions_share_one_history.Goals as goal

pub returns : goal.returns
returns g c = share_one g.K.Keeper g.D.Source.Ends g.D.Sink.Ends (takes g.C.Clock.reads g.Q.Dice.draws) g.D.Door
