use Rattle.nf_laws.proofs.Opening.{opens_whole}
use Rattle.nf_laws.proofs.wholes.opens_whole.Goals as goal

pub returns : goal.returns
returns c = opens_whole
