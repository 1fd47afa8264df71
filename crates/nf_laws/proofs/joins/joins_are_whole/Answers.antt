use Rattle.nf_laws.proofs.Uploaded.{joins_whole, refused_keep}
use Rattle.nf_laws.proofs.joins.joins_are_whole.Goals as goal

pub returns-clause-joined : goal.returns-clause-joined
returns-clause-joined c = joins_whole

pub returns-clause-refused : goal.returns-clause-refused
returns-clause-refused c = refused_keep
