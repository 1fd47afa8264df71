use Rattle.nf_extents.specs.Keeping.{SparesUsed}
use Rattle.nf_keeper_sql.proofs.placing.write_all.Given as goal

abbrev pub invariant-loop-id : goal.invariant-loop-id
invariant-loop-id g l =
    SparesUsed g.D.Disk.seen g.D.Disk.may_leave l.initial.pieces l.pieces
