use Rattle.nf_laws.proofs.Locking.{others_spare}
use Rattle.nf_laws.proofs.locks.others_spare.Goals as goal

pub returns : goal.returns
returns c = others_spare
