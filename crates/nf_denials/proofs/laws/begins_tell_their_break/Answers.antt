use Rattle.nf_denials.proofs.Begins.{begins_tell}
use Rattle.nf_denials.proofs.laws.begins_tell_their_break.Goals as goal

pub returns : goal.returns
returns c = begins_tell
