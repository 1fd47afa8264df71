use Rattle.nf_laws.proofs.Upwards.{depth_climbed}
use Rattle.nf_laws.proofs.tree.depth_is_climbed.Goals as goal

pub returns : goal.returns
returns c = depth_climbed
