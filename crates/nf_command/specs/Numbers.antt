-- How a number is written in decimal digits.
use Rattle.std.specs.Prelude.{◌≡◌, ◌≢◌, ℕ, List, length, slice_index}

-- no plus sign stands before it, and no zero but the number 0 itself
pub record IsBare (word : List ℕ) : Type 0 where
  pub no_sign : slice_index word 0 ≢ 43
  pub no_zero : slice_index word 0 ≡ 48 → length word ≡ 1
