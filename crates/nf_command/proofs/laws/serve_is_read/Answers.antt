use Rattle.nf_command.proofs.Readings.{serve_is_read}
use Rattle.nf_command.proofs.laws.serve_is_read.Goals as goal

pub returns : goal.returns
returns c = serve_is_read
