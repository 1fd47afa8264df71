use Rattle.nf_laws.proofs.acts.sweeps_take.Goals as goal
use Rattle.nf_laws.proofs.Acting.{sweeps_take}

-- src/acts.rt:33:1
pub returns : goal.returns
returns c = sweeps_take
