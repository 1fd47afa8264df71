use Rattle.nf_command.proofs.Readings.{batch_is_read}
use Rattle.nf_command.proofs.laws.batch_is_read.Goals as goal

pub returns : goal.returns
returns c = batch_is_read
