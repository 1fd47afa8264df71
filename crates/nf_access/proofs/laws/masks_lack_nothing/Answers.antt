use Rattle.nf_access.proofs.Standing.{mask_is}
use Rattle.nf_access.proofs.laws.masks_lack_nothing.Goals as goal

pub returns : goal.returns
returns c = mask_is
