use Rattle.nf_told.proofs.Follows as follows
use Rattle.nf_told.proofs.laws.told_follows.Goals as goal

pub returns : goal.returns
returns c = follows.told_follows
