use Rattle.nf_denials.proofs.Ends.{reads_on}
use Rattle.nf_denials.proofs.laws.reads_go_on.Goals as goal

pub returns : goal.returns
returns c = reads_on
