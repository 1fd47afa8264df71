use Rattle.nf_command.proofs.Numbered.{only_serve}
use Rattle.nf_command.proofs.command.serve_of.Goals as goal

pub returns-in-None : goal.returns-in-None
returns-in-None c = only_serve _ (rw c.in-None.is at c.in_ok-connections.ensures)
