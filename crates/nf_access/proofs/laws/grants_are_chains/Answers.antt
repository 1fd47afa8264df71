use Rattle.nf_access.proofs.Granted.{grants_are_chains_lem}
use Rattle.nf_access.proofs.laws.grants_are_chains.Goals as goal

pub returns : goal.returns
returns c = grants_are_chains_lem
