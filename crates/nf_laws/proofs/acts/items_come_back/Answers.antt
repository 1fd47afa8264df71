use Rattle.nf_laws.proofs.Acting.{items_come_back}
use Rattle.nf_laws.proofs.acts.items_come_back.Goals as goal

pub returns : goal.returns
returns c = items_come_back
