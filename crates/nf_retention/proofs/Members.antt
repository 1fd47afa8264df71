-- What a list has that begins with an element, and lists of falling moments.
use Rattle.std.proofs.Common.{◌≡◌, ◌<◌, ◌≤◌, ◌-◌, ◌⊎◌, ℕ, zero, suc, Bool, true, false, List, [], ◌∷◌, length, get_or, if◌then◌else◌, refl, inl, inr, arith, Contains}
use Rattle.std.specs.Prelude.{nat_lt}
use Rattle.nf_retention.specs.Thinning.{AreApart, AreFalling, step}

-- ---- what a list has

pub head_in : (x : ℕ) (xs : List ℕ) → Contains (x ∷ xs) x
head_in x xs = (0, omega arith, refl)

pub rest_in : (x y : ℕ) (xs : List ℕ) → Contains xs y → Contains (x ∷ xs) y
rest_in x y xs has = (suc has.0, omega (arith, has.1), has.2)

pub none_in : (y : ℕ) → Contains [] y → ⊥
none_in y has = omega (arith, has.1)

-- the first, or one behind it
pub in_cases : (x y : ℕ) (xs : List ℕ) → Contains (x ∷ xs) y → (y ≡ x) ⊎ Contains xs y
in_cases x y xs has = by_place has.0 has.1 has.2
  where
    by_place : (k : ℕ) → k < suc (length xs) → get_or (x ∷ xs) k y ≡ y → (y ≡ x) ⊎ Contains xs y
    by_place zero within found = inl (cc)
    by_place (suc k) within found = inr (k, omega arith, found)

-- what is in one list is in another, also with the same first
pub both_in : (x : ℕ) (xs ys : List ℕ) → ((y : ℕ) → Contains xs y → Contains ys y) → (y : ℕ) → Contains (x ∷ xs) y → Contains (x ∷ ys) y
both_in x xs ys each y has = elim (in_cases x y xs has) [
  | inl is ↦ rw is (head_in x ys)
  | inr behind ↦ rest_in x y ys (each y behind)
]

-- and without it, where it isn't in the one
pub behind_first : (x : ℕ) (xs ys : List ℕ) → ((y : ℕ) → Contains ys y → Contains (x ∷ xs) y) → ((y : ℕ) → Contains ys y → y ≡ x → ⊥)
    → (y : ℕ) → Contains ys y → Contains xs y
behind_first x xs ys each differs y has = elim (in_cases x y xs (each y has)) [
  | inl is ↦ absurd (differs y has is)
  | inr behind ↦ behind
]

-- ---- falling moments

-- all are below that moment, and they fall
abbrev pub Fall : ℕ → List ℕ → Type 0
Fall last [] = Unit {0}
Fall last (version ∷ older) = (version < last) × Fall version older

pub fall_from : (newest : ℕ) (older : List ℕ) → AreFalling (newest ∷ older) → Fall newest older
fall_from newest [] falling = tt
fall_from newest (version ∷ older) falling =
    (falling 0 1 0 (omega arith) (omega arith), fall_from version older (λ i j d less within. falling (suc i) (suc j) d (omega arith) (omega arith)))

pub fall_wider : (last higher : ℕ) (versions : List ℕ) → last ≤ higher → Fall last versions → Fall higher versions
fall_wider last higher [] lower fall = tt
fall_wider last higher (version ∷ older) lower fall = (omega (arith, fall.0), fall.1)

pub fall_below : (last : ℕ) (versions : List ℕ) (x : ℕ) → Fall last versions → Contains versions x → x < last
fall_below last [] x fall has = absurd (none_in x has)
fall_below last (version ∷ older) x fall has = elim (in_cases version x older has) [
  | inl is ↦ omega (arith, fall.0)
  | inr behind ↦ omega (arith, fall.0, fall_below version older x fall.1 behind)
]

pub fall_at_most : (newest : ℕ) (older : List ℕ) (x : ℕ) → Fall newest older → Contains (newest ∷ older) x → x ≤ newest
fall_at_most newest older x fall has = elim (in_cases newest x older has) [
  | inl is ↦ omega arith
  | inr behind ↦ omega (arith, fall_below newest older x fall behind)
]

-- ---- moments that are steps apart

-- no step is shorter than two seconds
pub two_seconds : (age : ℕ) → 2 ≤ step age
two_seconds age =
    either (nat_lt age 10) 2 _ (omega arith) (
    either (nat_lt age 60) 10 _ (omega arith) (
    either (nat_lt age 3600) 60 _ (omega arith) (
    either (nat_lt age 86400) 3600 _ (omega arith) (either (nat_lt age 2592000) 86400 604800 (omega arith) (omega arith))
    )
    )
    )
  where
    either : (b : Bool) (m n : ℕ) → 2 ≤ m → 2 ≤ n → 2 ≤ (if b then m else n)
    either true m n first second = first
    either false m n first second = second

-- whatever stands behind a moment is a step below it
pub apart_step : (now last : ℕ) (those : List ℕ) (x : ℕ) → AreApart now (last ∷ those) → Contains those x → step (now - last) ≤ last - x
apart_step now last [] x apart has = absurd (none_in x has)
apart_step now last (next ∷ those) x apart has = elim (in_cases next x those has) [
  | inl is ↦ omega (arith, apart.0)
  | inr behind ↦ omega (arith, apart.0, two_seconds (now - next), apart_step now next those x apart.1 behind)
]

-- and so below it
pub apart_below : (now last : ℕ) (those : List ℕ) (x : ℕ) → AreApart now (last ∷ those) → Contains those x → x < last
apart_below now last those x apart has = omega (arith, two_seconds (now - last), apart_step now last those x apart has)

pub apart_at_most : (now first : ℕ) (those : List ℕ) (x : ℕ) → AreApart now (first ∷ those) → Contains (first ∷ those) x → x ≤ first
apart_at_most now first those x apart has = elim (in_cases first x those has) [
  | inl is ↦ omega arith
  | inr behind ↦ omega (arith, apart_below now first those x apart behind)
]
