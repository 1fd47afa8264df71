use Rattle.nf_laws.proofs.Allowing.{changes_allowed}
use Rattle.nf_laws.proofs.access.changes_what_may_be_changed.Goals as goal

pub returns : goal.returns
returns c = changes_allowed
