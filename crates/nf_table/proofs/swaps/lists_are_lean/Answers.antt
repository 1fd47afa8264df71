use Rattle.nf_table.proofs.Leans.{lists_lean}
use Rattle.nf_table.proofs.swaps.lists_are_lean.Goals as goal

pub returns : goal.returns
returns g c = lists_lean
