use Rattle.nf_rows.specs.declared.fault.RowFault.TheVariants.{Value}
use Rattle.nf_rows.proofs.Rows.{faulty_is}
use Rattle.nf_rows.proofs.laws.bad_values_begin_there.Goals as goal

pub returns : goal.returns
returns c = λ kind at key body. faulty_is kind key body (Value at)
