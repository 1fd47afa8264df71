use Rattle.nf_laws.proofs.Acting.{mounts_renamed}
use Rattle.nf_laws.proofs.acts.mounts_are_renamed.Goals as goal

pub returns : goal.returns
returns c = mounts_renamed
