use Rattle.nf_outside.specs.Lent.{takes}
use Rattle.filesd.proofs.Safe.{batch_begins}
use Rattle.filesd.proofs.laws.batch_begins_whole.Goals as goal

pub returns : goal.returns
returns g c = batch_begins (takes g.C.Clock.reads g.Q.Dice.draws)
