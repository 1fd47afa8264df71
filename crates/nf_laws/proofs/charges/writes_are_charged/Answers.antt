use Rattle.nf_laws.proofs.Stored.{writes_charged}
use Rattle.nf_laws.proofs.charges.writes_are_charged.Goals as goal

pub returns : goal.returns
returns c = writes_charged
