use Rattle.nf_rules.proofs.Unbroken as unbroken
use Rattle.nf_rules.proofs.laws.unbroken_are_ruled.Goals as goal

pub returns : goal.returns
returns c = unbroken.unbroken_are_ruled
