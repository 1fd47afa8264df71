-- What is asked of a place that a request names.
use Rattle.std.specs.Prelude.{ℕ, Bool, true, false, bytes_eq, List, Option}
use Rattle.std.specs.Option.{option_map_or}
use Rattle.nf_base.specs.declared.rows.UserRow.{UserRow}
use Rattle.nf_words.specs.Places.{has_forbidden}
use Rattle.nf_words.specs.declared.request.Spot.{Spot}

-- the caller has that name
abbrev pub is_called : Option UserRow → List ℕ → Bool
is_called caller name = option_map_or (λ row. bytes_eq row.name name) caller false

-- a place names no other user than the caller
abbrev pub names_caller : Option UserRow → Option Spot → Bool
names_caller caller spot = option_map_or (λ spot. option_map_or (is_called caller) spot.user true) spot true

-- the path of a place has a name that is forbidden
abbrev pub is_forbidden : Option Spot → Bool
is_forbidden spot = option_map_or (λ spot. has_forbidden spot.path) spot false
