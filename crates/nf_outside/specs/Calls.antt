-- What the calls of an object in memory do, by number from 1.
use Rattle.std.specs.Prelude.{◌≡◌, ℕ, Bool, ◌+◌, ◌-◌, ◌==◌, ◌^◌, List, length, min, max, slice_get}
use Rattle.std.specs.List.{list_any}
use Rattle.std.specs.Option.{option_map_or, option_or}

-- the numbers of those that fail; how many were made, and how many failed
pub record Calls : Type 0 where
  pub failing : List ℕ
  pub made : ℕ
  pub faults : ℕ

-- before any call
abbrev pub first_calls : List ℕ → Calls
first_calls failing = record { failing = failing; made = 0; faults = 0 }

-- one more call was made, of which at most 2^64 - 1 are counted; the list stays
pub record IsNextCall (before now : Calls) : Type 0 where
  pub made : now.made ≡ min (before.made + 1) (2 ^ 64 - 1)
  pub failing : now.failing ≡ before.failing

-- the last call that was made is one of those that fail
abbrev pub is_failing : Calls → Bool
is_failing calls = list_any (λ call. call == calls.made) calls.failing

-- how many bytes the call after so many passes at most: its piece, or the last one, and at least one; with no piece any number
abbrev pub most_passed : List ℕ → ℕ → ℕ
most_passed pieces made =
    option_map_or (λ piece. max piece 1) (option_or (slice_get pieces made) (slice_get pieces (length pieces - 1))) (2 ^ 64 - 1)
