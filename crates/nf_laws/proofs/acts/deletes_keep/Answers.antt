use Rattle.nf_laws.proofs.Acting.{deletes_keep}
use Rattle.nf_laws.proofs.acts.deletes_keep.Goals as goal

pub returns-clause-nodes : goal.returns-clause-nodes
returns-clause-nodes c = deletes_keep
