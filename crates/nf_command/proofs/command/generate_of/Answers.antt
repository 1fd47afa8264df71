use Rattle.nf_command.proofs.Listed.{only_generate}
use Rattle.nf_command.proofs.command.generate_of.Goals as goal

pub returns-in-None : goal.returns-in-None
returns-in-None c = only_generate _ (rw c.in-None.is at c.list_of.ensures)
