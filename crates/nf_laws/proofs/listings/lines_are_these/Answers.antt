use Rattle.nf_laws.proofs.Lines.{lines_these}
use Rattle.nf_laws.proofs.listings.lines_are_these.Goals as goal

pub returns : goal.returns
returns c = lines_these
