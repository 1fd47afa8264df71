-- What each of some users has, in sums.
use Rattle.std.specs.Prelude.{ℕ, unwrap_or}
use Rattle.std.specs.BTreeMap.{BTreeMap, get}
use Rattle.std.specs.Ordering.{nat_cmp}

-- what an owner has, none where nothing was added
abbrev pub total_of : BTreeMap ℕ ℕ → ℕ → ℕ
total_of totals owner = unwrap_or (get nat_cmp totals owner) 0
