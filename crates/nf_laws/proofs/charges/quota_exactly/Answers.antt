use Rattle.nf_laws.proofs.Exceeding.{exceeds_exactly}
use Rattle.nf_laws.proofs.charges.quota_exactly.Goals as goal

pub returns : goal.returns
returns c = exceeds_exactly
