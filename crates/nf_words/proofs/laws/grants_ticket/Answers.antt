use Rattle.nf_words.proofs.Steps.{granted_step}
use Rattle.nf_words.proofs.laws.grants_ticket.Goals as goal

pub returns : goal.returns
returns c = granted_step
