use Rattle.nf_laws.proofs.Transferred.{copies_mirror}
use Rattle.nf_laws.proofs.transfers.copies_mirror.Goals as goal

pub returns : goal.returns
returns c = copies_mirror
