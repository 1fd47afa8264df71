use Rattle.nf_defs.proofs.Tables as tables
use Rattle.nf_told.proofs.laws.tables_again.Goals as goal

pub returns-clause-again : goal.returns-clause-again
returns-clause-again c = tables.tables_again

pub returns-clause-rise : goal.returns-clause-rise
returns-clause-rise c = tables.tables_rise
