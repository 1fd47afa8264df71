use Rattle.nf_retention.proofs.Walks.{kept_right}
use Rattle.nf_retention.proofs.laws.kept_is_right.Goals as goal

pub returns : goal.returns
returns c = kept_right
