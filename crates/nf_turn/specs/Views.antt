-- What the seat of the table shows.
use Rattle.std.specs.Prelude.{◌≡◌, [], ◌∷◌, None}
use Rattle.nf_turn.specs.declared.view.Memory.{Memory}
use Rattle.nf_turn.specs.declared.view.View.TheVariants.{Spent, Idle, Waiting, Holding}
use Rattle.nf_turn.specs.Numbers.{Numbers, numbers_of}
use Rattle.nf_turn.specs.Memory.{newcomer}
use Rattle.nf_turn.specs.Steps.{Place}

-- the numbers of the seat; a spent seat, which nobody has, has none
abbrev pub numbers_in : {W : Type 0} → Place W → Numbers W
numbers_in (Spent, slots) = record { seats = 0; number = 0; next = 0; left = 0; joined = [] }
numbers_in (Idle k, slots) = numbers_of k
numbers_in (Waiting turn k, slots) = numbers_of k
numbers_in (Holding taken k, slots) = numbers_of k

module _ {W : Type 0} (value : W) where
  -- what the holder knows; of a spent seat, which nobody has, it is made up from the value
  abbrev pub memory_in : Place W → Memory W
  memory_in (Spent, slots) = newcomer 0 0 value value []
  memory_in (Idle k, slots) = k
  memory_in (Waiting turn k, slots) = k
  memory_in (Holding taken k, slots) = k

  -- the value that was taken
  abbrev pub taken_in : Place W → W
  taken_in (Spent, slots) = value
  taken_in (Idle k, slots) = value
  taken_in (Waiting turn k, slots) = value
  taken_in (Holding taken k, slots) = taken

  -- the seat doesn't have the turn
  abbrev pub Rests : Place W → Type 0
  Rests place = place ≡ (Idle (memory_in place), [])

  -- it has the turn, and the value is out of the slot
  abbrev pub Holds : Place W → Type 0
  Holds place = place ≡ (Holding (taken_in place) (memory_in place), (0, None) ∷ [])
