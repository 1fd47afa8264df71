use Rattle.nf_laws.proofs.Lines.{lines_by_name}
use Rattle.nf_laws.proofs.listings.lines_are_by_name.Goals as goal

pub returns : goal.returns
returns c = lines_by_name
