-- The rule of the table.
-- Word 0 is how many turn numbers were drawn, word 1 how many turns were passed on, each modulo 2 ^ 64. The others are bells, of which nothing is said. Slot 0 has the value.
use Rattle.std.specs.Prelude.{◌≡◌, ◌≢◌, ◌⊎◌, ℕ, zero, suc, ◌+◌, ◌%◌, ◌^◌, ◌<◌, ◌≤◌, List, [], ◌∷◌, Option, Some}
use mathlib.Core.Option.{some, none}
use mathlib.Core.Option as maybe
use lib.ListN.{get_elem?}
use Rattle.atomic_table.specs.Table.{State}
use Rattle.nf_turn.specs.declared.view.Memory.{Memory}
use Rattle.nf_turn.specs.declared.view.View.{View}
use Rattle.nf_turn.specs.declared.view.View.TheVariants.{Spent, Idle, Waiting, Holding}
use Rattle.nf_turn.specs.Numbers.{IsOther}
use Rattle.nf_turn.specs.Book.{Meanings, IsFresh, Grows, GrowsWithout, Precedes, AllPrecede}

-- f 1 + .. + f k
abbrev pub total : (ℕ → ℕ) → ℕ → ℕ
total f zero = 0
total f (suc k) = total f k + f (suc k)

-- how the line of those that wait stands
pub record Line (W : Type 0) : Type 0 where
  pub drawn : ℕ
  pub passed_on : ℕ
  -- of each seat number: 1 from drawing a turn number to passing on, that turn number, and the table's seat that has it
  pub waits : ℕ → ℕ
  pub turn : ℕ → ℕ
  pub place : ℕ → ℕ
  -- the least seat number not given yet, and the table's seat that has it and those above left
  pub fresh : ℕ
  pub giver : ℕ
  -- the seat number that has the turn, or 0
  pub holder : ℕ
  -- the value as it was at home last
  pub value : W

-- the slot is empty only while a seat has the turn
abbrev pub home_of : {W : Type 0} → ℕ → W → List (maybe.Option (Option W))
home_of zero value = some (Some value) ∷ []
home_of (suc n) value = none ∷ []

module _ {E O W : Type 0} (book : Meanings E O W) where
  -- the value grew from each of these
  abbrev pub GrewFrom : W → List W → Type 0
  GrewFrom value [] = Unit {0}
  GrewFrom value (old ∷ olds) = Grows book old value × GrewFrom value olds

  -- the number was joined into the seat with the number n: it is another one, doesn't wait, is of the same seat of the table, and nothing was done under it since
  abbrev pub IsJoined : Line W → ℕ → ℕ → ℕ × W → Type 0
  IsJoined line id n seat = (seat.0 ≢ n) × (0 < seat.0) × (seat.0 < line.fresh) × (line.waits seat.0 ≡ 0) × (line.place seat.0 ≡ id) × GrowsWithout book seat.0 seat.1 line.value

  abbrev pub AreJoined : Line W → ℕ → ℕ → List (ℕ × W) → Type 0
  AreJoined line id n [] = Unit {0}
  AreJoined line id n (seat ∷ seats) = IsJoined line id n seat × IsOther seat.0 seats × AreJoined line id n seats

-- what a seat of the table knows is so
pub record IsKnown {E O W : Type 0} (book : Meanings E O W) (seats : ℕ) (origin : W) (line : Line W) (id : ℕ) (k : Memory W) : Type 0 where
  pub low : 0 < k.number
  pub given : k.number < line.fresh
  pub its : line.place k.number ≡ id
  pub all : k.seats ≡ seats
  pub first : k.first ≡ origin
  pub known : Grows book k.known line.value
  pub own : GrowsWithout book k.number k.last line.value
  pub passed : GrewFrom book line.value k.passed
  pub told : GrewFrom book line.value k.told
  pub left : 0 < k.left → (id ≡ line.giver) × (line.fresh ≡ k.next) × (k.next + k.left ≡ seats + 1)
  pub joined : AreJoined book line id k.number k.joined
  -- what it passed on last came before what it knows of, and so did what it knew of before others were joined into it
  pub last : Precedes book k.last k.known
  pub heard : AllPrecede book k.heard k.known
  -- where no other seat was ever split off, what it knows of and what it passed on last are the value
  pub sole : line.fresh ≡ 2 → (k.known ≡ line.value) × (k.last ≡ line.value)

module _ {E O W : Type 0} (book : Meanings E O W) (seats : ℕ) (origin : W) (line : Line W) (id : ℕ) where
  abbrev pub Knows : View W → Type 0
  Knows Spent = Unit {0}
  Knows (Idle k) = IsKnown book seats origin line id k × (line.waits k.number ≡ 0)
  Knows (Waiting turn k) = IsKnown book seats origin line id k × (line.waits k.number ≡ 1) × (turn ≡ line.turn k.number % 2 ^ 64) × (line.holder ≢ k.number)
  Knows (Holding value k) = IsKnown book seats origin line id k × (line.holder ≡ k.number) × (value ≡ line.value)

pub record InOrder {E O W : Type 0} (book : Meanings E O W) (seats : ℕ) (origin : W) (line : Line W) : Type 0 where
  pub few : (seats < 2 ^ 63) × (0 < line.fresh) × (line.fresh ≤ seats + 1)
  -- those that wait have the turn numbers from the one that is served to the last one drawn, each once
  pub count : line.passed_on + total line.waits seats ≡ line.drawn
  pub once : (n : ℕ) → line.waits n ≤ 1
  pub within : (n : ℕ) → 0 < line.waits n → (0 < n) × (n < line.fresh) × (line.passed_on ≤ line.turn n) × (line.turn n < line.drawn)
  pub apart : (n m : ℕ) → 0 < line.waits n → 0 < line.waits m → line.turn n ≡ line.turn m → n ≡ m
  pub served : 0 < line.holder → (0 < line.waits line.holder) × (line.turn line.holder ≡ line.passed_on)
  -- under a number that no seat has, nothing was done since the lock was made
  pub unused : (n : ℕ) → (n ≡ 0) ⊎ (line.fresh ≤ n) → GrowsWithout book n origin line.value

pub record IsInTurn {E O W : Type 0} (book : Meanings E O W) (seats : ℕ) (origin : W) (s : State (Option W) (View W)) : Type 0 where
  pub fresh : IsFresh book origin
  pub line : Line W
  pub bells : List ℕ
  pub words : s.words ≡ line.drawn % 2 ^ 64 ∷ line.passed_on % 2 ^ 64 ∷ bells
  pub home : s.homes ≡ home_of line.holder line.value
  pub order : InOrder book seats origin line
  pub views : (id : ℕ) (view : View W) → get_elem? s.views id ≡ some view → Knows book seats origin line id view
