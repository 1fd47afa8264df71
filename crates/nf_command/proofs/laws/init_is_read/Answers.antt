use Rattle.nf_command.proofs.Readings.{init_is_read}
use Rattle.nf_command.proofs.laws.init_is_read.Goals as goal

pub returns : goal.returns
returns c = init_is_read
