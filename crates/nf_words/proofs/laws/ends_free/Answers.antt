use Rattle.nf_words.proofs.Steps.{end_frees, freed, sent_keeps, gone_keeps}
use Rattle.nf_words.proofs.laws.ends_free.Goals as goal

pub returns-clause-ticket : goal.returns-clause-ticket
returns-clause-ticket c = end_frees

pub returns-clause-failed : goal.returns-clause-failed
returns-clause-failed c = λ s seat now outcome. freed s seat

pub returns-clause-sent : goal.returns-clause-sent
returns-clause-sent c = sent_keeps

pub returns-clause-gone : goal.returns-clause-gone
returns-clause-gone c = gone_keeps
