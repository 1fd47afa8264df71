use Rattle.nf_outside.specs.Lent.{takes}
use Rattle.filesd.proofs.Safe.{serve_begins}
use Rattle.filesd.proofs.laws.serve_begins_whole.Goals as goal

pub returns : goal.returns
returns g c = serve_begins g.K.Keeper g.D.Source.Ends g.D.Sink.Ends (takes g.C.Clock.reads g.Q.Dice.draws) g.D.Door
