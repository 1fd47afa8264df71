use Rattle.nf_outside.specs.Lent.{takes}
use Rattle.nf_promises.proofs.Completing.{completes}
use Rattle.nf_promises.proofs.complete.messages_are_answered.Goals as goal

pub returns : goal.returns
returns g c = completes (takes g.C.Clock.reads g.D.Dice.draws)
