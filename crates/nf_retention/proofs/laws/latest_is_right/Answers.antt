use Rattle.nf_retention.proofs.Latest.{latest_right}
use Rattle.nf_retention.proofs.laws.latest_is_right.Goals as goal

pub returns : goal.returns
returns c = latest_right
