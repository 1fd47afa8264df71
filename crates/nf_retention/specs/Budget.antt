-- What stays within a bound of bytes, and how long the trash is kept.
use Rattle.std.specs.Prelude.{◌≤◌, ℕ, suc, ◌+◌, ◌-◌, ◌/◌, List, [], ◌∷◌, if◌then◌else◌, length, nat_le, sum, take}

-- the longest front whose sizes sum to at most the bound has so many
pub record IsLongestWithin (bound : ℕ) (sizes : List ℕ) (count : ℕ) : Type 0 where
  pub front : count ≤ length sizes
  pub within : sum (take count sizes) ≤ bound
  pub longest : (more : ℕ) → more ≤ length sizes → sum (take more sizes) ≤ bound → more ≤ count

-- the same as a walk
abbrev pub fitting : ℕ → List ℕ → ℕ
fitting bound [] = 0
fitting bound (size ∷ older) = if nat_le size bound then suc (fitting (bound - size) older) else 0

-- what a user's trash may have: half of the quota, rounded down
abbrev pub trash_bound : ℕ → ℕ
trash_bound quota = quota / 2

-- what a user's old versions may have: half of what the charge leaves of the quota, rounded down, and nothing where it leaves none
abbrev pub versions_bound : ℕ → ℕ → ℕ
versions_bound quota charge = (quota - charge) / 2

-- what came to the trash then goes for good: it has been there for 30 days
abbrev pub IsExpired : ℕ → ℕ → Type 0
IsExpired at now = at + 2592000 ≤ now
