use Rattle.nf_denials.proofs.Own.{own_unrefused}
use Rattle.nf_denials.proofs.laws.own_is_not_refused.Goals as goal

pub returns : goal.returns
returns c = own_unrefused
