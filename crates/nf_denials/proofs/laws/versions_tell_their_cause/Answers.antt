use Rattle.nf_denials.proofs.Versions.{versions_tell}
use Rattle.nf_denials.proofs.laws.versions_tell_their_cause.Goals as goal

pub returns : goal.returns
returns c = versions_tell
