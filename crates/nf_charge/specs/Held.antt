-- What the sums are to callers.
use Rattle.std.specs.Prelude.{ℕ, List}

-- a sum for each row, by its place, and for how many there is room
pub record Held : Type 0 where
  pub sums : List ℕ
  pub room : ℕ
