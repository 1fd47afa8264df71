use Rattle.nf_outside.specs.Lent.{takes}
use Rattle.nf_session.proofs.Faults.{read_fault}
use Rattle.nf_session.proofs.laws.read_faults_store_nothing.Goals as goal

pub returns : goal.returns
returns g c = read_fault (takes g.C.Clock.reads g.D.Dice.draws)
