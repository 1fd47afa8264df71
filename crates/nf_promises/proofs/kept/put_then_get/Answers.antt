use Rattle.nf_outside.specs.Lent.{takes}
use Rattle.nf_promises.proofs.Returning.{put_then_get}
use Rattle.nf_promises.proofs.kept.put_then_get.Goals as goal

pub returns : goal.returns
returns g c = put_then_get (takes g.C.Clock.reads g.D.Dice.draws)
