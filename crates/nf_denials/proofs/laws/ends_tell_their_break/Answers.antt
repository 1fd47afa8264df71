use Rattle.nf_denials.proofs.Ends.{chunks_tell, ends_tell}
use Rattle.nf_denials.proofs.laws.ends_tell_their_break.Goals as goal

pub returns-clause-stored : goal.returns-clause-stored
returns-clause-stored c = ends_tell

pub returns-clause-chunks : goal.returns-clause-chunks
returns-clause-chunks c = chunks_tell
