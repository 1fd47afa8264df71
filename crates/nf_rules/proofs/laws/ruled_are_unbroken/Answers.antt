use Rattle.nf_rules.proofs.Ruled as ruled
use Rattle.nf_rules.proofs.laws.ruled_are_unbroken.Goals as goal

pub returns : goal.returns
returns c = ruled.ruled_are_unbroken
