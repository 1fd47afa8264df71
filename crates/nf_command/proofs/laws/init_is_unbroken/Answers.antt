use Rattle.nf_command.proofs.Unbroken.{init_unbroken}
use Rattle.nf_command.proofs.laws.init_is_unbroken.Goals as goal

pub returns : goal.returns
returns c = init_unbroken
