use Rattle.filesd.proofs.Whole.{left_is_there}
use Rattle.filesd.proofs.laws.what_is_left_is_there.Goals as goal

pub returns : goal.returns
returns c = left_is_there
