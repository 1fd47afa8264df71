-- What a value under the lock is to a proof, and how it may change.
use Rattle.std.specs.Prelude.{◌≡◌, ◌≢◌, ◌⊎◌, ℕ, ◌<◌, ◌≤◌, ◌==◌, List, [], ◌∷◌, ◌++◌, Option, Some, None, All, filter}

-- the bytes under each number below the next one to be given, and how often some were dropped
pub record Shelf : Type 0 where
  pub next : ℕ
  pub drops : ℕ
  pub bytes : ℕ → Option (List ℕ)

-- E is the type of its entries, O that of its opening, and W its own
pub record Meanings (E O W : Type 0) : Type 0 where
  -- the number of the seat that made the entry
  pub seat_of : E → ℕ
  pub entries : W → List E
  -- of each seat number
  pub strikes : W → ℕ → ℕ
  pub opening : W → O
  -- none where the value doesn't tell it
  pub shelf : W → Option Shelf

-- the bytes under the number m stay, or some were dropped and these with them
abbrev pub StayOrGo : Shelf → Shelf → ℕ → Type 0
StayOrGo shelf later m = (later.bytes m ≡ shelf.bytes m) ⊎ ((later.bytes m ≡ None) × (shelf.drops < later.drops))

-- what stood on a shelf, below its next number, stays or goes
abbrev pub KeepsShelf : Option Shelf → Option Shelf → Type 0
KeepsShelf None None = Unit {0}
KeepsShelf None (Some later) = ⊥
KeepsShelf (Some shelf) None = ⊥
KeepsShelf (Some shelf) (Some later) =
    (shelf.next ≤ later.next) × (shelf.drops ≤ later.drops) × ((m : ℕ) → m < shelf.next → StayOrGo shelf later m)

-- the entries of the seat with the number n
abbrev pub entries_of : {E O W : Type 0} → Meanings E O W → ℕ → List E → List E
entries_of book n entries = filter (λ e. book.seat_of e == n) entries

-- no entry and no strike stands under the number n
abbrev pub HasNothing : {E O W : Type 0} → Meanings E O W → ℕ → W → Type 0
HasNothing book n value = (entries_of book n (book.entries value) ≡ []) × (book.strikes value n ≡ 0)

-- no seat has done anything yet
pub record IsFresh {E O W : Type 0} (book : Meanings E O W) (value : W) : Type 0 where
  pub no_entries : book.entries value ≡ []
  pub no_strikes : (n : ℕ) → book.strikes value n ≡ 0

-- what no turn changes
pub record Keeps {E O W : Type 0} (book : Meanings E O W) (old new : W) : Type 0 where
  pub opening : book.opening new ≡ book.opening old
  pub shelf : KeepsShelf (book.shelf old) (book.shelf new)

-- in between no seat, or only the seat with the number n, did something
pub record AddsAlone {E O W : Type 0} (book : Meanings E O W) (n : ℕ) (old new : W) : Type 0 where
  pub added : List E
  pub entries : book.entries new ≡ book.entries old ++ added
  pub alone : All (λ e. book.seat_of e ≡ n) added
  pub others : (m : ℕ) → m ≢ n → book.strikes new m ≡ book.strikes old m
  pub strikes : book.strikes old n ≤ book.strikes new n
  pub keeps : Keeps book old new

-- in between any seats did something
pub record Grows {E O W : Type 0} (book : Meanings E O W) (old new : W) : Type 0 where
  pub added : List E
  pub entries : book.entries new ≡ book.entries old ++ added
  pub keeps : Keeps book old new

-- in between others than the seat with the number n did something
pub record GrowsWithout {E O W : Type 0} (book : Meanings E O W) (n : ℕ) (old new : W) : Type 0 where
  pub grows : Grows book old new
  pub none : entries_of book n grows.added ≡ []
  pub strikes : book.strikes new n ≡ book.strikes old n

-- the entries of the one begin with those of the other
abbrev pub Precedes : {E O W : Type 0} → Meanings E O W → W → W → Type 0
Precedes {E} book old new = (more : List E) × (book.entries new ≡ book.entries old ++ more)

abbrev pub AllPrecede : {E O W : Type 0} → Meanings E O W → List W → W → Type 0
AllPrecede book [] new = Unit {0}
AllPrecede book (old ∷ olds) new = Precedes book old new × AllPrecede book olds new
