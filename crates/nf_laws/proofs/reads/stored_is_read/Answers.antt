use Rattle.nf_laws.proofs.Reading.{stored_is_read}
use Rattle.nf_laws.proofs.reads.stored_is_read.Goals as goal

pub returns : goal.returns
returns c = stored_is_read
