use Rattle.nf_outside.specs.Lent.{takes}
use Rattle.nf_promises.proofs.Full.{never_full}
use Rattle.nf_promises.proofs.room.never_full.Goals as goal

pub returns : goal.returns
returns g c = never_full (takes g.C.Clock.reads g.D.Dice.draws)
