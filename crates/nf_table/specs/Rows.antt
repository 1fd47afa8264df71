-- Rows of one kind as a table holds them, and what is looked up in them.
use Rattle.std.specs.Prelude.{◌≡◌, ◌≢◌, ℕ, ◌≤◌, AllPairs, Bool, List, [], ◌∷◌, length, take, Option, MatchOption, find, bytes_eq}
use Rattle.std.specs.declared.cmp.Ordering.{Ordering}
use Rattle.std.specs.declared.cmp.Ordering.TheVariants.{Greater}
use Rattle.nf_defs.specs.Prelude.{dropped, IsRising, key_cmp, put}

-- rows, and how many of them fit without more memory
pub record TableValue (R : Type 0) : Type 0 where
  pub rows : List R
  pub room : ℕ

-- they are by rising key, and fit
pub record IsTable {R : Type 0} (key : R → List ℕ) (rows : List R) (room : ℕ) : Type 0 where
  pub rising : IsRising key rows
  pub within : length rows ≤ room

-- the row with that key
abbrev pub row_at : {R : Type 0} → (R → List ℕ) → List ℕ → List R → Option R
row_at key numbers rows = find (λ row. bytes_eq (key row) numbers) rows

-- the row with that key is what may become of it, and the others stay; without that row all stay
abbrev pub Changes : {R : Type 0} → (R → List ℕ) → List ℕ → (R → R → Type 0) → List R → List R → Type 0
Changes {R} key numbers Becomes rows rows' =
    MatchOption (row_at key numbers rows) (rows' ≡ rows) (λ (row : R). (row' : R) × Becomes row row' × (rows' ≡ put key row' rows))

-- no key is above those after it
abbrev pub AreSorted : {K : Type 0} → (K → List ℕ) → List K → Type 0
AreSorted {K} numbers keys = AllPairs (λ (a b : K). key_cmp (numbers a) (numbers b) ≢ Greater) keys

-- the rows without some keys, which go one after the other
abbrev pub all_dropped : {R : Type 0} → (R → List ℕ) → List (List ℕ) → List R → List R
all_dropped key [] rows = rows
all_dropped key (numbers ∷ more) rows = all_dropped key more (dropped key numbers rows)

-- how a key, as far as a front is long, stands to that front
abbrev pub front_cmp : List ℕ → List ℕ → Ordering
front_cmp numbers front = key_cmp (take (length front) numbers) front

-- the key begins with that front
abbrev pub begins : List ℕ → List ℕ → Bool
begins numbers front = bytes_eq (take (length front) numbers) front
