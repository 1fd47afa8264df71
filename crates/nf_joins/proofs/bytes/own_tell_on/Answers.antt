use Rattle.nf_joins.proofs.Whole.{own_tell_on}
use Rattle.nf_joins.proofs.bytes.own_tell_on.Goals as goal

pub returns : goal.returns
returns c = own_tell_on
