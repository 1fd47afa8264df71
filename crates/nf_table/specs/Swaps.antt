-- Swaps of rows. Each gives a key the row that it is to have, or none, and holds the row that the key had once it is made. So swaps that
-- were made are the way back: made again in the other order, they leave the rows and themselves as they were.
use Rattle.std.specs.Prelude.{◌≡◌, ◌≢◌, ℕ, Bool, ◌||◌, List, [], ◌∷◌, reverse, Option, IfSome, All, AllPairs, bytes_eq, fold, if◌then◌else◌}
use Rattle.std.specs.Bool.{Decides}
use Rattle.std.specs.List.{list_any}
use Rattle.std.specs.Option.{option_map_or}
use Rattle.nf_defs.specs.Prelude.{dropped, IsRising, put}
use Rattle.nf_table.specs.Rows.{row_at}
use Rattle.nf_table.specs.declared.swaps.Swap.{Swap}

-- the row that it gives has its key
abbrev pub IsOwn : {R K : Type 0} → (R → List ℕ) → (K → List ℕ) → Swap K R → Type 0
IsOwn key numbers swap = IfSome swap.row (λ row. key row ≡ numbers swap.key)

abbrev pub AreOwn : {R K : Type 0} → (R → List ℕ) → (K → List ℕ) → List (Swap K R) → Type 0
AreOwn key numbers swaps = All (IsOwn key numbers) swaps

-- the rows where its key has the row that it gives
abbrev pub swapped : {R K : Type 0} → (R → List ℕ) → (K → List ℕ) → List R → Swap K R → List R
swapped key numbers rows swap = option_map_or (λ row. put key row rows) swap.row (dropped key (numbers swap.key) rows)

-- the swap turned round: it gives its key the row that it had
abbrev pub turned : {R K : Type 0} → (R → List ℕ) → (K → List ℕ) → List R → Swap K R → Swap K R
turned key numbers rows swap = record swap { row = row_at key (numbers swap.key) rows }

-- the rows after some swaps, one after the other
abbrev pub tried : {R K : Type 0} → (R → List ℕ) → (K → List ℕ) → List R → List (Swap K R) → List R
tried key numbers rows swaps = fold (swapped key numbers) rows swaps

-- the swaps once they are made, each turned round
abbrev pub taken : {R K : Type 0} → (R → List ℕ) → (K → List ℕ) → List R → List (Swap K R) → List (Swap K R)
taken key numbers rows [] = []
taken key numbers rows (swap ∷ swaps) = turned key numbers rows swap ∷ taken key numbers (swapped key numbers rows swap) swaps

-- made and taken back, they leave the rows and themselves as they were
pub record GoBack {R K : Type 0} (key : R → List ℕ) (numbers : K → List ℕ) (rows : List R) (swaps : List (Swap K R)) : Type 0 where
  pub all_back : tried key numbers (tried key numbers rows swaps) (reverse (taken key numbers rows swaps)) ≡ rows
  pub all_returned : reverse (taken key numbers (tried key numbers rows swaps) (reverse (taken key numbers rows swaps))) ≡ swaps

abbrev pub SwapsGoBack : (R K : Type 0) → Type 0
SwapsGoBack R K =
    (key : R → List ℕ) (numbers : K → List ℕ) (rows : List R) (swaps : List (Swap K R)) → IsRising key rows → AreOwn key numbers swaps
    → GoBack key numbers rows swaps

-- ---- lean lists

-- a key stands in these
abbrev pub stands : {R K : Type 0} → (K → List ℕ) → List ℕ → List (Swap K R) → Bool
stands numbers n swaps = list_any (λ swap. bytes_eq (numbers swap.key) n) swaps

-- of each key the last swap, and only where it gives another row than is there
abbrev pub lean : {R K : Type 0} → (R → List ℕ) → (K → List ℕ) → (Option R → Option R → Bool) → List R → List (Swap K R) → List (Swap K R)
lean key numbers alike rows [] = []
lean key numbers alike rows (swap ∷ swaps) =
    if stands numbers (numbers swap.key) swaps || alike (row_at key (numbers swap.key) rows) swap.row
    then lean key numbers alike rows swaps
    else swap ∷ lean key numbers alike rows swaps

-- the lean swaps make the same rows, are none where no row changes, have each key once, and each gives another row than is there
pub record IsLean {R K : Type 0} (key : R → List ℕ) (numbers : K → List ℕ) (rows : List R) (swaps few : List (Swap K R)) : Type 0 where
  pub same_tried : tried key numbers rows few ≡ tried key numbers rows swaps
  pub none_lean : tried key numbers rows swaps ≡ rows → few ≡ []
  pub once : AllPairs (λ (a b : Swap K R). numbers a.key ≢ numbers b.key) few
  pub unlike : All (λ (swap : Swap K R). row_at key (numbers swap.key) rows ≢ swap.row) few

abbrev pub ListsAreLean : (R K : Type 0) → Type 0
ListsAreLean R K =
    (key : R → List ℕ) (numbers : K → List ℕ) (alike : Option R → Option R → Bool) → ((a b : Option R) → Decides (alike a b) (a ≡ b))
    → (rows : List R) (swaps : List (Swap K R)) → IsRising key rows → AreOwn key numbers swaps
    → IsLean key numbers rows swaps (lean key numbers alike rows swaps)
