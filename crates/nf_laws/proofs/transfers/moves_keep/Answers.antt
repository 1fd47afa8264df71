use Rattle.nf_laws.proofs.Transferred.{moves_keep}
use Rattle.nf_laws.proofs.transfers.moves_keep.Goals as goal

pub returns : goal.returns
returns c = moves_keep
