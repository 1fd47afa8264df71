use Rattle.nf_denials.proofs.Begins.{unreached_refused}
use Rattle.nf_denials.proofs.laws.unreached_is_refused.Goals as goal

pub returns : goal.returns
returns c = unreached_refused
