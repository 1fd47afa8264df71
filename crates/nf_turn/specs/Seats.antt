-- What contracts say of a seat and its lock.
use Rattle.std.specs.Prelude.{◌≡◌}
use Rattle.nf_turn.specs.declared.lock.TurnLock.{TurnLock}
use Rattle.nf_turn.specs.declared.seat.Seat.{Seat}
use Rattle.nf_turn.specs.declared.view.Memory.{Memory}
use Rattle.nf_turn.specs.Numbers.{Numbers}
use Rattle.nf_turn.specs.Views.{numbers_in, memory_in, taken_in, Rests, Holds}

-- the numbers that the seat has
abbrev pub numbers : {W : Type 0} → Seat W → Numbers W
numbers seat = numbers_in seat.place.me

module _ {W E O : Type 0} (lock : TurnLock W E O) where
  -- it is a seat of this lock
  abbrev pub IsSeatOf : Seat W → Type 0
  IsSeatOf seat = seat.place.table_id ≡ lock.table.shared.table_id

  -- what the holder of the seat knows
  abbrev pub memory : Seat W → Memory W
  memory seat = memory_in lock.table.shared.key.first.value seat.place.me

  -- the value that it has in its turn
  abbrev pub taken : Seat W → W
  taken seat = taken_in lock.table.shared.key.first.value seat.place.me

  -- it doesn't have the turn
  abbrev pub IsIdle : Seat W → Type 0
  IsIdle seat = Rests lock.table.shared.key.first.value seat.place.me

  abbrev pub HasTurn : Seat W → Type 0
  HasTurn seat = Holds lock.table.shared.key.first.value seat.place.me
