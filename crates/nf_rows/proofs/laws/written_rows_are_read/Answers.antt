use Rattle.std.proofs.Common.{sym}
use Rattle.nf_rows.proofs.Whole.{is_only}
use Rattle.nf_rows.proofs.laws.written_rows_are_read.Goals as goal

pub returns : goal.returns
returns c = λ row raw read spelled fits given. is_only raw.kind raw.key raw.body read row given fits (sym spelled)
