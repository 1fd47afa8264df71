use Rattle.nf_words.proofs.Steps.{other_after}
use Rattle.nf_words.proofs.laws.others_keep.Goals as goal

pub returns : goal.returns
returns c = other_after
