use Rattle.nf_retention.proofs.Newest.{newest_right}
use Rattle.nf_retention.proofs.laws.newest_is_right.Goals as goal

pub returns : goal.returns
returns c = newest_right
