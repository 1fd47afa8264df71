-- Keys that come again in a list.
use Rattle.std.specs.Prelude.{ℕ, suc, Bool, false, List, [], ◌∷◌, Option, None, Some, option_map, if◌then◌else◌}
use Rattle.std.specs.List.{list_any}
use Rattle.std.specs.Option.{option_map_or}

-- the other has that key
abbrev pub ties : {K : Type 0} → (K → K → Bool) → K → Option K → Bool
ties eq key other = option_map_or (eq key) other false

-- one of the later ones has its key; what has none shares none
abbrev pub comes_again : {K : Type 0} → (K → K → Bool) → List (Option K) → Option K → Bool
comes_again eq later key = option_map_or (λ k. list_any (ties eq k) later) key false

-- the first index whose key comes again
unfoldable pub first_again : {K : Type 0} → (K → K → Bool) → List (Option K) → Option ℕ
first_again eq [] = None
first_again eq (key ∷ keys) = if comes_again eq keys key then Some 0 else option_map suc (first_again eq keys)
