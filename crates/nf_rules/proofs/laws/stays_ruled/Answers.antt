use Rattle.nf_rules.proofs.Stays as stays
use Rattle.nf_rules.proofs.laws.stays_ruled.Goals as goal

pub returns : goal.returns
returns c = stays.stays_ruled
