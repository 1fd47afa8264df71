-- What a session takes of a clock and of dice.
use Rattle.std.specs.Prelude.{◌≡◌, ℕ}

-- a clock and dice
pub record Lent (C D : Type 0) : Type 0 where
  pub clock : C
  pub dice : D

-- both are lent
abbrev pub lent : {C D : Type 0} → C → D → Lent C D
lent clock dice = record { clock = clock; dice = dice }

-- a reading of the clock, or two words of the dice
pub data Taken : Type 0 where
  a_reading : ℕ → Taken
  two_words : ℕ → ℕ → Taken

-- what may be taken, by what the clock reads and what the dice draw, and what is lent after it. The words are drawn one after the other
abbrev pub takes : {C D : Type 0} → (C → ℕ → C → Type 0) → (D → ℕ → D → Type 0) → Lent C D → Taken → Lent C D → Type 0
takes reads draws a (a_reading moment) b = reads a.clock moment b.clock × (b.dice ≡ a.dice)
takes {D = D} reads draws a (two_words first second) b =
    (m : D) × draws a.dice first m × draws m second b.dice × (b.clock ≡ a.clock)
