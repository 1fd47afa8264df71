use Rattle.nf_laws.proofs.Locking.{locked_exactly}
use Rattle.nf_laws.proofs.locks.locked_exactly.Goals as goal

pub returns : goal.returns
returns c = locked_exactly
