use Rattle.nf_outside.specs.Lent.{takes}
use Rattle.nf_promises.proofs.Full.{full_is_seen}
use Rattle.nf_promises.proofs.room.full_is_seen.Goals as goal

pub returns : goal.returns
returns g c = full_is_seen (takes g.C.Clock.reads g.D.Dice.draws)
