use Rattle.nf_command.proofs.Readings.{sweep_is_read}
use Rattle.nf_command.proofs.laws.sweep_is_read.Goals as goal

pub returns : goal.returns
returns c = sweep_is_read
