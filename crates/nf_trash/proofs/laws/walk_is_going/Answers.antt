use Rattle.nf_trash.proofs.Walks.{walk_going}
use Rattle.nf_trash.proofs.laws.walk_is_going.Goals as goal

pub returns : goal.returns
returns c = walk_going
