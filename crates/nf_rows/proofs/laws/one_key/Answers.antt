use Rattle.nf_rows.proofs.Whole as whole
use Rattle.nf_rows.proofs.laws.one_key.Goals as goal

pub returns : goal.returns
returns c = whole.one_key
