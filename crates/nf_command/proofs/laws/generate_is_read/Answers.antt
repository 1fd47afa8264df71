use Rattle.nf_command.proofs.Readings.{generate_is_read}
use Rattle.nf_command.proofs.laws.generate_is_read.Goals as goal

pub returns : goal.returns
returns c = generate_is_read
