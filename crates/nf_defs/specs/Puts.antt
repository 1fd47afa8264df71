-- A row put among the rows of its kind, by rising key, and rows dropped.
use Rattle.std.specs.Prelude.{ℕ, not, bytes_eq, List, [], ◌∷◌, filter}
use Rattle.std.specs.Ordering.{nat_cmp}
use Rattle.std.specs.Cmp.Lexicographic.{slice_cmp}
use Rattle.std.specs.declared.cmp.Ordering.{Ordering}
use Rattle.std.specs.declared.cmp.Ordering.TheVariants.{Less, Equal, Greater}

abbrev pub by_order : {A : Type 0} → Ordering → A → A → A → A
by_order Less less equal greater = less
by_order Equal less equal greater = equal
by_order Greater less equal greater = greater

-- the order of keys
abbrev pub key_cmp : List ℕ → List ℕ → Ordering
key_cmp a b = slice_cmp nat_cmp a b

-- a row at its place among rows by rising key, for the one with its key if there is one
abbrev pub put : {R : Type 0} → (R → List ℕ) → R → List R → List R
put key row [] = row ∷ []
put key row (other ∷ rows) =
    by_order (key_cmp (key row) (key other)) (row ∷ other ∷ rows) (row ∷ rows) (other ∷ put key row rows)

-- the rows without that key
abbrev pub dropped : {R : Type 0} → (R → List ℕ) → List ℕ → List R → List R
dropped key numbers rows = filter (λ row. not (bytes_eq numbers (key row))) rows
