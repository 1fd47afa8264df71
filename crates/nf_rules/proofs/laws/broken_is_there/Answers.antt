use Rattle.nf_rules.proofs.Firsts as firsts
use Rattle.nf_rules.proofs.laws.broken_is_there.Goals as goal

pub returns : goal.returns
returns c = firsts.broken_is_there
