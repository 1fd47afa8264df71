use Rattle.nf_access.proofs.Granted.{reach_is_a_chain_lem}
use Rattle.nf_access.proofs.laws.reach_is_a_chain.Goals as goal

pub returns : goal.returns
returns c = reach_is_a_chain_lem
