use Rattle.nf_outside.specs.Lent.{takes}
use Rattle.nf_promises.proofs.Unfailing.{ends_well}
use Rattle.nf_promises.proofs.complete.sessions_end_well.Goals as goal

pub returns : goal.returns
returns g c = ends_well (takes g.C.Clock.reads g.D.Dice.draws)
