use Rattle.std.proofs.Common.{subst, arith}
use Rattle.std.proofs.lemmas.List.Elements.{All-more}
use Rattle.nf_told.specs.Told.{FitsChange}
use Rattle.nf_keeper_sql.proofs.rows.make_all.Goals as goal

pub loop-change-preserved : goal.loop-change-preserved
loop-change-preserved g c =
    All-more FitsChange c.args.changes.now c.loop-change.change-index c.change-item.result (omega arith) c.loop-change.invariant
    (subst FitsChange c.change-item.is c.in_ok-make.ensures)
