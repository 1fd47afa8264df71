use Rattle.std.proofs.Common.{take}
use Rattle.std.specs.List.{All}
use Rattle.nf_told.specs.Told.{FitsChange}
use Rattle.nf_keeper_sql.proofs.rows.make_all.Given as goal

abbrev pub invariant-loop-change : goal.invariant-loop-change
invariant-loop-change g l = All FitsChange (take l.change-index l.changes)
