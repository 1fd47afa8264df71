use Rattle.nf_table.proofs.Backs.{go_back}
use Rattle.nf_table.proofs.swaps.swaps_go_back.Goals as goal

pub returns : goal.returns
returns g c = go_back
