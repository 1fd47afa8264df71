use Rattle.nf_access.proofs.Places.{grants_stay_lem}
use Rattle.nf_access.proofs.laws.grants_stay.Goals as goal

pub returns : goal.returns
returns c = grants_stay_lem
