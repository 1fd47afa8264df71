use Rattle.nf_denials.proofs.Linked.{links_tell}
use Rattle.nf_denials.proofs.laws.links_tell_their_chain.Goals as goal

pub returns : goal.returns
returns c = links_tell
