use Rattle.nf_laws.proofs.Uploaded.{joins_charged}
use Rattle.nf_laws.proofs.joins.joins_are_charged.Goals as goal

pub returns : goal.returns
returns c = joins_charged
