use Rattle.nf_joins.proofs.Reading.{joined_read}
use Rattle.nf_joins.proofs.joined.joined_is_read.Goals as goal

pub returns : goal.returns
returns c = joined_read
