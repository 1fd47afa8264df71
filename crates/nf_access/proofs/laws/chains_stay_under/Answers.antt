use Rattle.nf_access.proofs.Unders.{chains_stay_under_lem}
use Rattle.nf_access.proofs.laws.chains_stay_under.Goals as goal

pub returns : goal.returns
returns c = chains_stay_under_lem
