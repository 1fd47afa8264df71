use Rattle.nf_extents.proofs.Sparing.{spares_on}
use Rattle.nf_keeper_sql.proofs.placing.write_all.Goals as goal
use Rattle.nf_keeper_sql.proofs.placing.write_all.Goals.{in-Some+in_ok-extent+in_ok-push, in_default}

pub returns-in_err-extent : goal.returns-in_err-extent
returns-in_err-extent g c = record { spares = spares_on c.loop-id.invariant (record { kept = c.write.ensures.kept; crash = c.write.ensures.crash; frees_none = c.write.ensures.frees_none }) }

pub returns-in_err-push : goal.returns-in_err-push
returns-in_err-push g c = record { spares = spares_on c.loop-id.invariant (record { kept = c.write.ensures.kept; crash = c.write.ensures.crash; frees_none = c.write.ensures.frees_none }) }

pub loop-id-preserved : goal.loop-id-preserved
loop-id-preserved g c =
    elim c.match-branch-2.branch [
      | in-Some+in_ok-extent+in_ok-push w ↦
          rw w.pieces-is (spares_on c.loop-id.invariant (record { kept = w.write.ensures.kept; crash = w.write.ensures.crash; frees_none = w.write.ensures.frees_none }))
      | in_default w ↦ rw w.pieces-is c.loop-id.invariant
    ]
