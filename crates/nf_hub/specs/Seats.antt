-- What a seat of a hub knows.
use Rattle.std.specs.Prelude.{◌≡◌, ℕ, ◌+◌, ◌≤◌, List, [], ◌∷◌, Option, None, is_none}
use Rattle.std.specs.declared.snapshot.Snapshot.{Snapshot}
use Rattle.nf_base.specs.declared.limits.TheConstants.{MAX_SEATS}
use Rattle.nf_base.specs.declared.rows.Row.{Row}
use Rattle.nf_defs.specs.Blobs.{Blobs}
use Rattle.nf_desk.specs.Desk.{Served, blobs_in, book_at, entries_by, failed_marks, meanings, risen, shown, strikes_of}
use Rattle.nf_desk.specs.Opened.{AsksOnce, Opens}
use Rattle.nf_desk.specs.declared.first.Opening.{Opening}
use Rattle.nf_keeper.specs.declared.keeper.Keeper.{Ghosts as KeeperOf}
use Rattle.nf_rules.specs.Rules.{AreUnbroken}
use Rattle.nf_session.specs.Book.{Book, IsBook, held}
use Rattle.nf_turn.specs.Prelude.{HasHeard, IsIdle, IsSeatOf, memory, numbers, of_the_first}
use Rattle.nf_turn.specs.declared.view.Memory.{Memory}
use Rattle.nf_words.specs.declared.history.Entry.{Entry}
use Rattle.nf_hub.specs.declared.hub.HubOf.{HubOf}
use Rattle.nf_hub.specs.declared.seat.SeatOf.{SeatOf}

-- ---- what the seat's memory shows

-- how often the keeper failed the seat at what makes no entry
abbrev pub strikes_in : {K : Type 0} → Memory (Served K) → ℕ
strikes_in m = strikes_of m.last.strikes m.number

-- what the seat knows: the longest history that it has seen with its entries there, and the failures that it met
abbrev pub book_in : {K : Type 0} → KeeperOf K → Memory (Served K) → Book
book_in k m = record (book_at m.number (shown k m.known)) {
  strikes = risen (k.faults m.known.start.value) (failed_marks (entries_by m.number m.known.site.kept.history) + strikes_in m);
}

-- the blobs that were told when the hub was started
abbrev pub blobs_at_start : {K : Type 0} → KeeperOf K → Memory (Served K) → Option Blobs
blobs_at_start k m = blobs_in (k.told m.first.start.value)

-- what no call for a request changes
abbrev pub steady : {K : Type 0} → Memory (Served K) → Memory (Served K)
steady m = record m { known = m.first; last = m.first; passed = [] }

-- each of these seats held nothing when it was joined
abbrev pub AllWereIdle : {K : Type 0} → KeeperOf K → List (ℕ × Served K) → Type 0
AllWereIdle k [] = Unit {0}
AllWereIdle k (seat ∷ seats) = (held (book_at seat.0 (shown k seat.1)) ≡ None) × AllWereIdle k seats

-- ---- the seat itself

module _ {K : Type 0} (k : KeeperOf K) (hub : HubOf (Served K) Entry (List Row × Snapshot K)) where
  abbrev pub memory_of : SeatOf (Served K) Entry (List Row × Snapshot K) → Memory (Served K)
  memory_of seat = memory hub.lock seat.turns

  abbrev pub book : SeatOf (Served K) Entry (List Row × Snapshot K) → Book
  book seat = book_in k (memory_of seat)

-- a seat of this hub: what it has seen is one legal history, in which its entries are those of its number
pub record IsSeat {K : Type 0} (k : KeeperOf K) (hub : HubOf (Served K) Entry (List Row × Snapshot K))
    (seat : SeatOf (Served K) Entry (List Row × Snapshot K)) : Type 0 where
  pub its : IsSeatOf hub.lock seat.turns
  pub rests : IsIdle hub.lock seat.turns
  pub few : (numbers seat.turns).seats ≤ MAX_SEATS
  -- the first value is as it was opened, and what the seat passed on last is of the same opening
  pub opened : (memory_of k hub seat).first.start.value ≡ (memory_of k hub seat).first.keeper
  pub last : (meanings k).opening (memory_of k hub seat).last ≡ (meanings k).opening (memory_of k hub seat).first
  pub told : HasHeard (meanings k) (memory_of k hub seat)
  pub book_is : IsBook (book k hub seat)
  pub flag : seat.is_idle ≡ is_none (held (book k hub seat))
  pub joined : AllWereIdle k (memory_of k hub seat).joined

-- a seat of this hub that holds nothing
abbrev pub IsIdleSeat : {K : Type 0} → KeeperOf K → HubOf (Served K) Entry (List Row × Snapshot K)
    → SeatOf (Served K) Entry (List Row × Snapshot K) → Type 0
IsIdleSeat k hub seat = IsSeat k hub seat × (held (book k hub seat) ≡ None)

-- ---- the start

-- what the first seat knows of a hub that was started over what a keeper had
pub record Starts {K : Type 0} (k : KeeperOf K) (opening : Opening) (keeper : K) (seats : ℕ) (m : Memory (Served K)) : Type 0 where
  pub desk : Served K
  pub memory_is : m ≡ of_the_first seats desk
  pub opens : Opens opening (k.told keeper) (k.told desk.keeper) desk.site.kept
  pub unbroken : AreUnbroken desk.site.kept.opening
  pub faults : k.faults desk.keeper ≡ k.faults keeper
  pub start : desk.start.value ≡ desk.keeper
  pub asked : AsksOnce (k.told keeper) (k.calls keeper) (k.calls desk.keeper) None
