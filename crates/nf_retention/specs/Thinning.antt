-- Which versions of a file are kept as they age. A version is a moment, in whole seconds, and the newest stands first.
use Rattle.std.specs.Prelude.{◌≡◌, ◌<◌, ◌≤◌, ◌↔◌, ◌⊎◌, ℕ, ◌-◌, List, [], ◌∷◌, if◌then◌else◌, nat_le, nat_lt, slice_get, AllPairs, Contains}

-- how far below a kept version of this age the next one is kept, in seconds: below 10 seconds 2, below a minute 10, below an hour a minute,
-- below a day an hour, below 30 days a day, and above a week
abbrev pub step : ℕ → ℕ
step age =
    if nat_lt age 10 then 2
    else if nat_lt age 60 then 10
    else if nat_lt age 3600 then 60
    else if nat_lt age 86400 then 3600
    else if nat_lt age 2592000 then 86400
    else 604800

-- the newest stands first, and no two are of one moment
abbrev pub AreFalling : List ℕ → Type 0
AreFalling moments = AllPairs (λ newer older. older < newer) moments

-- ---- what is kept, without a walk

-- each is at least a step below the one before it, by that one's age
abbrev pub AreApart : ℕ → List ℕ → Type 0
AreApart now [] = Unit {0}
AreApart now (newer ∷ []) = Unit {0}
AreApart now (newer ∷ older ∷ rest) = (step (now - newer) ≤ newer - older) × AreApart now (older ∷ rest)

-- version is left out: it is below that kept moment, and the next one that is kept, if there is one, is below it
pub record IsBetween (those : List ℕ) (moment version : ℕ) : Type 0 where
  pub above : Contains those moment
  pub below : version < moment
  pub next : (other : ℕ) → Contains those other → other < moment → other < version

-- those are the versions that are kept: the newest; versions alone; neighbours a step apart; and each that is left out is less than a step
-- below the kept one above it
pub record AreKept (now : ℕ) (versions those : List ℕ) : Type 0 where
  pub newest : slice_get those 0 ≡ slice_get versions 0
  pub members : (version : ℕ) → Contains those version → Contains versions version
  pub apart : AreApart now those
  pub others : (moment version : ℕ) → Contains versions version → IsBetween those moment version → moment - version < step (now - moment)

-- ---- the same as a walk

-- of the versions below the last one kept, those that are kept: a version is, where it is a step or more below the last one
abbrev pub kept_below : ℕ → ℕ → List ℕ → List ℕ
kept_below now last [] = []
kept_below now last (version ∷ older) =
    if nat_le (step (now - last)) (last - version) then version ∷ kept_below now version older else kept_below now last older

-- of all versions, those that are kept
abbrev pub kept : ℕ → List ℕ → List ℕ
kept now [] = []
kept now (newest ∷ older) = newest ∷ kept_below now newest older

-- of the versions below the last one kept, those that go
abbrev pub thinned_below : ℕ → ℕ → List ℕ → List ℕ
thinned_below now last [] = []
thinned_below now last (version ∷ older) =
    if nat_le (step (now - last)) (last - version) then thinned_below now version older else version ∷ thinned_below now last older

-- of all versions, those that go
abbrev pub thinned : ℕ → List ℕ → List ℕ
thinned now [] = []
thinned now (newest ∷ older) = thinned_below now newest older

-- each version stays or goes, and none does both
pub record AreParted (versions stay go : List ℕ) : Type 0 where
  pub each : (version : ℕ) → Contains versions version ↔ (Contains stay version ⊎ Contains go version)
  pub once : (version : ℕ) → Contains stay version → Contains go version → ⊥
