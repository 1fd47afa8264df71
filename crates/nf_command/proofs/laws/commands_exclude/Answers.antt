use Rattle.nf_command.proofs.Readings.{commands_exclude}
use Rattle.nf_command.proofs.laws.commands_exclude.Goals as goal

pub returns : goal.returns
returns c = commands_exclude
