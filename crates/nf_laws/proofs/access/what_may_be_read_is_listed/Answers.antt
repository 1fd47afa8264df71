use Rattle.nf_laws.proofs.Reaching.{readable_listed}
use Rattle.nf_laws.proofs.access.what_may_be_read_is_listed.Goals as goal

pub returns : goal.returns
returns c = readable_listed
