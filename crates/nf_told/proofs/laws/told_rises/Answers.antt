use Rattle.nf_told.proofs.Follows as follows
use Rattle.nf_told.proofs.laws.told_rises.Goals as goal

pub returns : goal.returns
returns c = follows.told_rises
