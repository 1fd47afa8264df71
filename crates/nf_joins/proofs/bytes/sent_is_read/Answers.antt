use Rattle.nf_outside.specs.Lent.{takes}
use Rattle.nf_joins.proofs.Whole.{sent_read}
use Rattle.nf_joins.proofs.bytes.sent_is_read.Goals as goal

pub returns : goal.returns
returns g c = sent_read (takes g.C.Clock.reads g.D.Dice.draws)
