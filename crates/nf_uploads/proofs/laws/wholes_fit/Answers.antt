use Rattle.nf_uploads.proofs.laws.wholes_fit.Goals as goal
use Rattle.nf_uploads.proofs.Wholes.{wholes_fit}

pub returns : goal.returns
returns c = wholes_fit
