-- What a visit has.
use Rattle.std.specs.Borrow.{Bor}
use Rattle.std.specs.Prelude.{List}
use Rattle.std.specs.declared.snapshot.Snapshot.{Snapshot}
use Rattle.nf_base.specs.declared.rows.Row.{Row}
use Rattle.nf_desk.specs.Desk.{Served}
use Rattle.nf_words.specs.declared.history.Entry.{Entry}
use Rattle.nf_hub.specs.declared.hub.HubOf.{HubOf}
use Rattle.nf_hub.specs.declared.seat.SeatOf.{SeatOf}

-- the hub that it was lent, and the seat that is its own
pub record Visiting (K : Type 0) : Type 0 where
  pub hub : Bor (HubOf (Served K) Entry (List Row × Snapshot K))
  pub seat : SeatOf (Served K) Entry (List Row × Snapshot K)
