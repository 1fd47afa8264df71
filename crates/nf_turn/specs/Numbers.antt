-- The numbers that a seat has.
use Rattle.std.specs.Prelude.{◌≡◌, ◌≢◌, ℕ, ◌+◌, ◌^◌, ◌<◌, ◌≤◌, ◌==◌, ◌||◌, ◌&&◌, nat_lt, nat_le, List, [], ◌∷◌, Bool, false, IsTrue}
use Rattle.nf_turn.specs.declared.view.Memory.{Memory}

-- its own; those that it has left to give, which are so many from `next` on; and those of the seats that were joined into it, each with the value that it passed on last
pub record Numbers (W : Type 0) : Type 0 where
  -- how many the lock has
  pub seats : ℕ
  pub number : ℕ
  pub next : ℕ
  pub left : ℕ
  pub joined : List (ℕ × W)

-- the number is none of these seats'
abbrev pub IsOther : {W : Type 0} → ℕ → List (ℕ × W) → Type 0
IsOther n [] = Unit {0}
IsOther n (seat ∷ seats) = (n ≢ seat.0) × IsOther n seats

-- each is another one than n, and than those after it, and is from 1 to `top`
abbrev pub AreApart : {W : Type 0} → ℕ → ℕ → List (ℕ × W) → Type 0
AreApart n top [] = Unit {0}
AreApart n top (seat ∷ seats) = (seat.0 ≢ n) × (0 < seat.0) × (seat.0 ≤ top) × IsOther seat.0 seats × AreApart n top seats

module _ {W : Type 0} where
  abbrev pub numbers_of : Memory W → Numbers W
  numbers_of k = record { seats = k.seats; number = k.number; next = k.next; left = k.left; joined = k.joined }

  -- n is one of the numbers that the seat has left
  abbrev pub is_left : Numbers W → ℕ → Bool
  is_left k n = nat_le k.next n && nat_lt n (k.next + k.left)

  -- n was the number of a seat that was joined into this one, or into one that was
  abbrev pub is_joined : ℕ → List (ℕ × W) → Bool
  is_joined n [] = false
  is_joined n (seat ∷ seats) = (seat.0 == n) || is_joined n seats

  -- n is the seat's own number, is left with it, or was joined into it
  abbrev pub has_number : Numbers W → ℕ → Bool
  has_number k n = (n == k.number) || (is_left k n || is_joined n k.joined)

  -- no number of the lock is with another seat
  abbrev pub IsWhole : Numbers W → Type 0
  IsWhole k = (n : ℕ) → 0 < n → n ≤ k.seats → IsTrue (has_number k n)

-- all its numbers are distinct and from 1 to the number of seats, and no number is left below one that was given
pub record AreSound {W : Type 0} (k : Numbers W) : Type 0 where
  pub few : k.seats < 2 ^ 63
  -- the greatest number that was given
  pub top : ℕ
  pub within : (0 < k.number) × (k.number ≤ top) × (top ≤ k.seats)
  pub apart : AreApart k.number top k.joined
  pub left : 0 < k.left → (k.next ≡ top + 1) × (k.next + k.left ≡ k.seats + 1)
