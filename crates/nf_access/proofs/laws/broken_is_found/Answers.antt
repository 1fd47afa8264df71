use Rattle.nf_access.proofs.Breaks.{broken_is_found_lem}
use Rattle.nf_access.proofs.laws.broken_is_found.Goals as goal

pub returns : goal.returns
returns c = broken_is_found_lem
