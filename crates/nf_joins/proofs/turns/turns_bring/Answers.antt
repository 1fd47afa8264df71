use Rattle.nf_outside.specs.Lent.{takes}
use Rattle.nf_joins.proofs.Turned.{turns_bring}
use Rattle.nf_joins.proofs.turns.turns_bring.Goals as goal

pub returns : goal.returns
returns g c = turns_bring (takes g.C.Clock.reads g.D.Dice.draws)
