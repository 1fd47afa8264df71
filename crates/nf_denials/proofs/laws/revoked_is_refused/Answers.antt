use Rattle.nf_denials.proofs.Ends.{revoked_refused}
use Rattle.nf_denials.proofs.laws.revoked_is_refused.Goals as goal

pub returns : goal.returns
returns c = revoked_refused
