use Rattle.nf_command.proofs.Three.{init_are_operands, only_init}
use Rattle.nf_command.proofs.command.init_of.Goals as goal

pub returns-in-Ok-None : goal.returns-in-Ok-None
returns-in-Ok-None c = λ is.
    let init = only_init _ is in
    let none = rw c.in-Ok-None.field-0-is at c.in-Ok-None.ensures in
    none _ _ _ (init_are_operands _ _ _ _ init.3)
