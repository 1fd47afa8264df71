use denote.RattleType.{RattleType}
use denote.Param.Send.{IsSend, IsSync, sendable}
use Rattle.std.proofs.Crossing.{crosses}
use Rattle.nf_keeper.specs.declared.keeper.Keeper.{Ghosts}
use Rattle.vectors_seats.specs.contracts.seats.Shared as Shared
use Rattle.nf_hub.proofs.Sending.{hub_field_sync, seat_send}
use Rattle.vectors_seats.proofs.seats.put_amid.Goals as goal

shared_sync : (K : RattleType) (k : Ghosts K.Denot) → IsSend K → IsSync (Shared.the_row K k)
shared_sync K k sends = search (hub_field_sync, sendable, crosses) depth 20

pub join_mut-requires-send-F : goal.join_mut-requires-send-F
join_mut-requires-send-F g c κs within = search (shared_sync, seat_send, sendable) depth 20
