use Rattle.nf_outside.specs.Lent.{takes}
use Rattle.nf_joins.proofs.Turned.{turns_read}
use Rattle.nf_joins.proofs.turns.turns_read.Goals as goal

pub returns : goal.returns
returns g c = turns_read (takes g.C.Clock.reads g.D.Dice.draws)
