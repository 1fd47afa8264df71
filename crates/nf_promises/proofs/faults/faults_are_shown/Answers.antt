use Rattle.nf_outside.specs.Lent.{takes}
use Rattle.nf_promises.proofs.Shown.{faults_shown}
use Rattle.nf_promises.proofs.faults.faults_are_shown.Goals as goal

pub returns : goal.returns
returns g c = faults_shown (takes g.C.Clock.reads g.D.Dice.draws)
