use Rattle.nf_denials.proofs.Told.{acts_told, unreached_told}
use Rattle.nf_denials.proofs.laws.breaks_are_told.Goals as goal

pub returns-clause-reach : goal.returns-clause-reach
returns-clause-reach c = unreached_told

pub returns-clause-acts : goal.returns-clause-acts
returns-clause-acts c = acts_told
