-- A hub may be shared by threads, and a seat sent to one, where the keeper may be sent. Rattle's own search doesn't get so far, since it makes
-- no such proof for a desk, by its snapshot.
use denote.RattleType.{RattleType}
use denote.Param.Send.{IsSend, IsSync, sendable}
use Rattle.std.proofs.Crossing.{crosses}
use Rattle.nf_desk.specs.contracts.desk.Desk as Desk
use Rattle.nf_keeper.specs.declared.keeper.Keeper.{Ghosts}
use Rattle.nf_site.proofs.site.Site.TheSendSync as site
use Rattle.nf_turn.specs.declared.book.Book as book
use Rattle.nf_hub.specs.contracts.hub.HubOf as HubOf
use Rattle.nf_hub.specs.contracts.seat.SeatOf as SeatOf
use Rattle.nf_hub.proofs.hub.HubOf.TheSendSync as hub
use Rattle.nf_hub.proofs.seat.SeatOf.TheSendSync as seat

module _ (K : RattleType) (k : Ghosts K.Denot) (sends : IsSend K) where
  pub desk_send : IsSend (Desk.the_row K k)
  desk_send = search (site.the_send, sendable, crosses) depth 60 fits 20000

  module _ (E O : RattleType) where
    module _ (b : book.Ghosts (Desk.the_row K k).Denot E.Denot O.Denot) where
      pub hub_sync : IsSync (HubOf.the_row (Desk.the_row K k) E O b)
      hub_sync = hub.the_sync (Desk.the_row K k) E O b desk_send

      pub hub_field_sync : IsSync (HubOf.the_field (Desk.the_row K k) E O b).row
      hub_field_sync = hub.the_field_sync (Desk.the_row K k) E O b desk_send

    pub seat_send : IsSend (SeatOf.the_row (Desk.the_row K k) E O)
    seat_send = seat.the_send (Desk.the_row K k) E O desk_send

    pub seat_field_send : IsSend (SeatOf.the_field (Desk.the_row K k) E O).row
    seat_field_send = seat.the_field_send (Desk.the_row K k) E O desk_send

-- a set for `search`, beside `sendable`; those of a field are for a struct that has one
pub ruleset hub_sendable = (hub_sync, hub_field_sync, seat_send, seat_field_send, desk_send)
