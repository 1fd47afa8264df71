use Rattle.nf_joins.proofs.Going.{were_sent}
use Rattle.nf_joins.proofs.sent.chunks_were_sent.Goals as goal

pub returns : goal.returns
returns c = were_sent
