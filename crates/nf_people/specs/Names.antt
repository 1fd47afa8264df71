-- Rows that are found by their names too.
use Rattle.std.specs.Prelude.{◌≡◌, ℕ, ◌<◌, ◌≢◌, All, Contains, List, [], length}
use Rattle.std.specs.List.{AllPairs, slice_get}
use Rattle.std.specs.List.Sorted.{IsPartitionPoint}
use Rattle.std.specs.Option.{option_map_or}
use Rattle.std.specs.declared.cmp.Ordering.TheVariants.{Less, Greater}
use Rattle.nf_defs.specs.Prelude.{IsRising, key_cmp}

-- rows, and how many of them fit without more memory
pub record NamedValue (R : Type 0) : Type 0 where
  pub rows : List R
  pub room : ℕ

-- no two have the same name
abbrev pub AreNamedApart : {R : Type 0} → (R → List ℕ) → List R → Type 0
AreNamedApart {R} name rows = AllPairs (λ (a b : R). name a ≢ name b) rows

-- the key of the row is above those of all these
abbrev pub IsAbove : {R : Type 0} → (R → List ℕ) → R → List R → Type 0
IsAbove key row rows = All (λ other. key_cmp (key other) (key row) ≡ Less) rows

-- the name of the row at that place, and no byte past the end
abbrev pub name_at : {R : Type 0} → (R → List ℕ) → List R → ℕ → List ℕ
name_at name rows at = option_map_or name (slice_get rows at) []

-- the places of all rows, each once, by their names
pub record IsNameIndex {R : Type 0} (name : R → List ℕ) (rows : List R) (places : List ℕ) : Type 0 where
  pub count : length places ≡ length rows
  pub within : All (λ at. at < length rows) places
  pub rising : IsRising (name_at name rows) places
  pub whole : (at : ℕ) → at < length rows → Contains places at

-- up to there the places have names below that one, and from there on above it
abbrev pub PartsAt : {R : Type 0} → (R → List ℕ) → List R → List ℕ → List ℕ → ℕ → Type 0
PartsAt name rows places wanted i =
    IsPartitionPoint (λ at. key_cmp (name_at name rows at) wanted ≡ Less) (λ at. key_cmp (name_at name rows at) wanted ≡ Greater) places i
