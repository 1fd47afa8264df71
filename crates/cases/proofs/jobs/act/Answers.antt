-- The hub may be shared with the thread that sweeps, and its seat sent there.
use denote.Ref.{NamedLft}
use denote.RattleType.{RattleType}
use denote.Param.Send.{IsSend, sendable}
use Rattle.std.proofs.Crossing.{crosses}
use Rattle.nf_hub.proofs.Sending.{hub_sendable}
use Rattle.nf_keeper.specs.declared.keeper.Keeper.{Ghosts}
use Rattle.cases.specs.contracts.jobs.Sweeping as Sweeping
use Rattle.cases.proofs.jobs.act.Goals as goal

-- what sweeps may be sent to a thread, where its seat may be
sweeping_send : (l : NamedLft) (K : RattleType) (k : Ghosts K.Denot) → IsSend K → IsSend (Sweeping.the_row l K k)
sweeping_send l K k sends = search (hub_sendable, sendable, crosses) depth 60 fits 20000

pub do_beside-requires-send-J : goal.do_beside-requires-send-J
do_beside-requires-send-J g c κs within = search (sweeping_send, sendable) depth 20

pub do_beside-requires-sync-H : goal.do_beside-requires-sync-H
do_beside-requires-sync-H g c κs within = search (hub_sendable, sendable, crosses) depth 60 fits 20000
