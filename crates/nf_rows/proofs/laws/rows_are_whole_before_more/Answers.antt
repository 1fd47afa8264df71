use Rattle.nf_rows.specs.declared.fault.RowFault.TheVariants.{Long}
use Rattle.nf_rows.proofs.Rows.{faulty_is}
use Rattle.nf_rows.proofs.laws.rows_are_whole_before_more.Goals as goal

pub returns-clause-row : goal.returns-clause-row
returns-clause-row c = λ kind at key body key_fits body_fits past e. (faulty_is kind key body (Long at) key_fits body_fits e).0 past

pub returns-clause-key : goal.returns-clause-key
returns-clause-key c = λ kind at key body key_fits body_fits inside e. (faulty_is kind key body (Long at) key_fits body_fits e).1 inside
