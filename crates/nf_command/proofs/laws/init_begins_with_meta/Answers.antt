use Rattle.std.proofs.Common.{refl}
use Rattle.nf_command.proofs.laws.init_begins_with_meta.Goals as goal

pub returns : goal.returns
returns c = λ name token quota. (_, _, refl)
