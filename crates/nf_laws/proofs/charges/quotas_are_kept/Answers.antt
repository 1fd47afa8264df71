use Rattle.nf_laws.proofs.Quotas.{quotas_kept}
use Rattle.nf_laws.proofs.charges.quotas_are_kept.Goals as goal

pub returns : goal.returns
returns c = quotas_kept
