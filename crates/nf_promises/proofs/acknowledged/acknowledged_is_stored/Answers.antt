use Rattle.nf_outside.specs.Lent.{takes}
use Rattle.nf_promises.proofs.Stored.{acknowledged}
use Rattle.nf_promises.proofs.acknowledged.acknowledged_is_stored.Goals as goal

pub returns : goal.returns
returns g c = acknowledged (takes g.C.Clock.reads g.D.Dice.draws)
