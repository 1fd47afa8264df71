use Rattle.nf_access.proofs.Kept.{chained_is_bounded_lem}
use Rattle.nf_access.proofs.laws.chained_is_bounded.Goals as goal

pub returns : goal.returns
returns c = chained_is_bounded_lem
