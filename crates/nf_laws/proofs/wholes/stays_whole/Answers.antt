use Rattle.nf_laws.proofs.Blobs.{stays_whole}
use Rattle.nf_laws.proofs.wholes.stays_whole.Goals as goal

pub returns : goal.returns
returns c = stays_whole
