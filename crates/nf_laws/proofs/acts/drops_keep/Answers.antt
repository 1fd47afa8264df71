use Rattle.nf_laws.proofs.Acting.{drops_keep, emptying_keeps}
use Rattle.nf_laws.proofs.acts.drops_keep.Goals as goal

pub returns-clause-one : goal.returns-clause-one
returns-clause-one c = drops_keep

pub returns-clause-all : goal.returns-clause-all
returns-clause-all c = emptying_keeps
