use Rattle.nf_command.proofs.Readings.{others_are_refused}
use Rattle.nf_command.proofs.laws.others_are_refused.Goals as goal

pub returns : goal.returns
returns c = others_are_refused
