-- What the holder of a seat knows, in the words of the book, and what is then known of a value.
use Rattle.std.specs.Prelude.{◌≡◌, ◌⊎◌, ℕ, ◌+◌, ◌<◌, ◌≤◌, nat_lt, if◌then◌else◌, List, [], ◌∷◌, ◌++◌, Option, Some, None, is_some, IsTrue}
use Rattle.std.specs.Option.{option_or}
use Rattle.nf_turn.specs.Book.{Shelf, Meanings, Grows, GrowsWithout, IsFresh, Precedes, AllPrecede, entries_of, HasNothing}
use Rattle.nf_turn.specs.declared.view.Memory.{Memory}
use Rattle.nf_turn.specs.Numbers.{numbers_of, is_left}

-- the bytes under the number m, where it is below the next one
abbrev pub bytes_under : Option Shelf → ℕ → Option (List ℕ)
bytes_under None m = None
bytes_under (Some shelf) m = if nat_lt m shelf.next then shelf.bytes m else None

-- the number m was given, and nothing is under it any more
abbrev pub Lacks : Option Shelf → ℕ → Type 0
Lacks None m = ⊥
Lacks (Some shelf) m = (m < shelf.next) × (shelf.bytes m ≡ None)

-- the number m was given, and these bytes are under it or it is gone
abbrev pub HasOrLacks : Option Shelf → ℕ → List ℕ → Type 0
HasOrLacks shelf m bytes = (bytes_under shelf m ≡ Some bytes) ⊎ Lacks shelf m

module _ {E O W : Type 0} (book : Meanings E O W) where
  -- the entries that the seat has seen
  abbrev pub known : Memory W → List E
  known k = book.entries k.known

  -- the entries that it made, and its strikes
  abbrev pub own : Memory W → List E
  own k = entries_of book k.number (book.entries k.last)

  abbrev pub strikes : Memory W → ℕ
  strikes k = book.strikes k.last k.number

  abbrev pub opening : Memory W → O
  opening k = book.opening k.first

  -- the last bytes that one of the values had under m
  abbrev pub last_bytes : List W → ℕ → Option (List ℕ)
  last_bytes [] m = None
  last_bytes (value ∷ values) m = option_or (bytes_under (book.shelf value) m) (last_bytes values m)

  -- one of the values had nothing under m any more
  abbrev pub OneLacks : List W → ℕ → Type 0
  OneLacks [] m = ⊥
  OneLacks (value ∷ values) m = Lacks (book.shelf value) m ⊎ OneLacks values m

  -- the shelf as the seat saw it: at the values that it passed on, at those that it was told of when it was split off, and at the first one
  abbrev pub seen_shelf : Memory W → ℕ → Option (List ℕ)
  seen_shelf k m = last_bytes (k.passed ++ k.told) m

  -- the number m was gone when the seat passed the turn on
  abbrev pub IsGone : Memory W → ℕ → Type 0
  IsGone k m = OneLacks k.passed m

  -- the value grew from what was kept with each of these seats, and nothing was done under its number since
  abbrev pub AllAreKept : W → List (ℕ × W) → Type 0
  AllAreKept value [] = Unit {0}
  AllAreKept value (seat ∷ seats) = GrowsWithout book seat.0 seat.1 value × AllAreKept value seats

-- what the holder of a seat knows of a value that it takes, or that the lock ends with
pub record Agrees {E O W : Type 0} (book : Meanings E O W) (k : Memory W) (value : W) : Type 0 where
  pub within : (0 < k.number) × (k.number ≤ k.seats)
  -- it grew from the longest that the seat knows of, by no entry of the seat
  pub known : Grows book k.known value
  pub others : entries_of book k.number known.added ≡ []
  -- under the seat's number stand its own entries and strikes, and no others
  pub own : entries_of book k.number (book.entries value) ≡ own book k
  pub strikes : book.strikes value k.number ≡ strikes book k
  -- under each number that was joined into the seat stands what was kept with it
  pub joined : AllAreKept book value k.joined
  -- nothing stands under the numbers that the seat has left, nor outside 1 to the number of seats
  pub left : (n : ℕ) → IsTrue (is_left (numbers_of k) n) → HasNothing book n value
  pub outside : (n : ℕ) → (n ≡ 0) ⊎ (k.seats < n) → HasNothing book n value
  pub opening : book.opening value ≡ opening book k
  -- it tells a shelf exactly where the first value did; under each number that the seat saw it has the same bytes or none
  pub tells : is_some (book.shelf value) ≡ is_some (book.shelf k.first)
  pub shelf : (m : ℕ) (bytes : List ℕ) → seen_shelf book k m ≡ Some bytes → HasOrLacks (book.shelf value) m bytes
  pub gone : (m : ℕ) → IsGone book k m → Lacks (book.shelf value) m
  -- where the seat has all other numbers left, what it knows of and what it passed on last are the value itself
  pub sole : k.left + 1 ≡ k.seats → (k.known ≡ value) × (k.last ≡ value)

-- what the holder of a seat knows without a value
pub record HasHeard {E O W : Type 0} (book : Meanings E O W) (k : Memory W) : Type 0 where
  pub fresh : IsFresh book k.first
  pub opening : book.opening k.known ≡ opening book k
  -- what the seat knows of begins with what it passed on last, and with what was known before others were joined into it
  pub last : Precedes book k.last k.known
  pub heard : AllPrecede book k.heard k.known
  -- and has no further entry of the seat
  pub own : entries_of book k.number (book.entries k.known) ≡ own book k
