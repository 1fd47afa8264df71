use Rattle.nf_outside.specs.Lent.{takes}
use Rattle.nf_promises.proofs.Bytes.{put_then_get_of_bytes}
use Rattle.nf_promises.proofs.kept.put_then_get_of_bytes.Goals as goal

pub returns : goal.returns
returns g c = put_then_get_of_bytes (takes g.C.Clock.reads g.D.Dice.draws)
