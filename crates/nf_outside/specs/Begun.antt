-- The answers that a sink was told of.
use Rattle.std.specs.Prelude.{ℕ, List, [], ◌∷◌, ◌++◌, Option, option_map}

-- one more answer was begun, to a request of that method for that target
abbrev pub with_answer : List ℕ → List ℕ → Option (List (List ℕ × List ℕ)) → Option (List (List ℕ × List ℕ))
with_answer method target begun = option_map (λ (answers : List (List ℕ × List ℕ)). answers ++ (method, target) ∷ []) begun
