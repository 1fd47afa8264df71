use Rattle.nf_told.specs.Told.{AreRisingRaws}
use Rattle.nf_keeper_sql.proofs.rows.rows_of.Given as goal

abbrev pub invariant-loop : goal.invariant-loop
invariant-loop g l = AreRisingRaws l.raws
