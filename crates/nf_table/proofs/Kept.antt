-- What a test leaves of the rows of a table, whatever the test is.
use Rattle.std.proofs.Common.{◌≡◌, ◌≤◌, ℕ, suc, Bool, true, false, List, [], ◌∷◌, length, arith}
use Rattle.std.specs.List.{All, AllPairs, items_where_true}
use Rattle.std.specs.declared.cmp.Ordering.TheVariants.{Less}
use Rattle.std.proofs.lemmas.List.Elements.{All-cons, All-head, All-nil, All-tail}
use Rattle.std.proofs.lemmas.List.Kept.{AllPairs-cons}
use Rattle.nf_defs.specs.Prelude.{key_cmp}
use Rattle.nf_table.specs.Rows.{IsTable}

where_all : {X : Type 0} (P : X → Type 0) (bs : List Bool) (xs : List X) → All P xs → All P (items_where_true bs xs)
where_all P [] xs all = All-nil P
where_all P (b ∷ bs) [] all = All-nil P
where_all P (true ∷ bs) (x ∷ xs) all = All-cons P x (items_where_true bs xs) (All-head P x xs all) (where_all P bs xs (All-tail P x xs all))
where_all P (false ∷ bs) (x ∷ xs) all = where_all P bs xs (All-tail P x xs all)

heads : {X : Type 0} (R : X → X → Type 0) (x : X) (xs : List X) → AllPairs R (x ∷ xs) → All (R x) xs
heads R x xs pairs k d within = pairs 0 (suc k) d (omega arith) (omega (arith, within))

tails : {X : Type 0} (R : X → X → Type 0) (x : X) (xs : List X) → AllPairs R (x ∷ xs) → AllPairs R xs
tails R x xs pairs i j d before within = pairs (suc i) (suc j) d (omega (arith, before)) (omega (arith, within))

where_pairs : {X : Type 0} (R : X → X → Type 0) (bs : List Bool) (xs : List X) → AllPairs R xs → AllPairs R (items_where_true bs xs)
where_pairs R [] xs pairs = λ i j d before within. absurd (omega (arith, within))
where_pairs R (b ∷ bs) [] pairs = λ i j d before within. absurd (omega (arith, within))
where_pairs R (true ∷ bs) (x ∷ xs) pairs =
    AllPairs-cons R x (items_where_true bs xs) (where_all (R x) bs xs (heads R x xs pairs)) (where_pairs R bs xs (tails R x xs pairs))
where_pairs R (false ∷ bs) (x ∷ xs) pairs = where_pairs R bs xs (tails R x xs pairs)

where_few : {X : Type 0} (bs : List Bool) (xs : List X) → length (items_where_true bs xs) ≤ length xs
where_few [] xs = omega arith
where_few (b ∷ bs) [] = omega arith
where_few (true ∷ bs) (x ∷ xs) = omega (arith, where_few bs xs)
where_few (false ∷ bs) (x ∷ xs) = omega (arith, where_few bs xs)

pub where_table : {R : Type 0} (key : R → List ℕ) (bs : List Bool) (rows : List R) (room : ℕ) → IsTable key rows room
    → IsTable key (items_where_true bs rows) room
where_table key bs rows room table = record {
  rising = where_pairs (λ a b. key_cmp (key a) (key b) ≡ Less) bs rows table.rising;
  within = omega (arith, where_few bs rows, table.within);
}
