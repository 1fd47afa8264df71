-- What is among rows is among them by name, and by name they stay apart.
use Rattle.std.proofs.Common.{◌⊎◌, zero, suc, ◌≡◌, Bool, true, false, List, [], ◌∷◌, filter, map, refl, sym, ap, ◌∙◌, inl, inr, arith}
use Rattle.std.specs.List.{All, AllPairs, Contains}
use Rattle.std.proofs.lemmas.Bool.{both_ways}
use Rattle.std.proofs.lemmas.List.{get_or-map, length-map}
use Rattle.std.proofs.lemmas.List.Elements.{All-cons, All-head, All-tail}
use Rattle.std.proofs.lemmas.List.Kept.{AllPairs-cons}
use Rattle.nf_base.specs.declared.rows.NodeRow.{NodeRow}
use Rattle.nf_defs.specs.Tree.{by_name, comes_before, put_by_name}

-- ---- members of a list

pub Contains-here : {X : Type 0} (x : X) (xs : List X) → Contains (x ∷ xs) x
Contains-here x xs = (0, omega arith, refl)

pub Contains-later : {X : Type 0} (x y : X) (xs : List X) → Contains xs y → Contains (x ∷ xs) y
Contains-later x y xs (k, within, is) = (suc k, omega arith, is)

pub Contains-cases : {X : Type 0} (x y : X) (xs : List X) → Contains (x ∷ xs) y → (x ≡ y) ⊎ Contains xs y
Contains-cases x y xs (zero, within, is) = inl is
Contains-cases x y xs (suc k, within, is) = inr (k, omega arith, is)

pub Contains-from : {X : Type 0} (x y : X) (xs : List X) → (x ≡ y) ⊎ Contains xs y → Contains (x ∷ xs) y
Contains-from x y xs (inl same) = (0, omega arith, same)
Contains-from x y xs (inr later) = Contains-later x y xs later

pub Contains-none : {X : Type 0} (y : X) → Contains [] y → ⊥
Contains-none y (k, within, is) = absurd (omega arith)

pub Contains-map : {X Y : Type 0} (f : X → Y) (xs : List X) (x : X) → Contains xs x → Contains (map f xs) (f x)
Contains-map f xs x (k, within, is) = (k, omega (arith, length-map xs f), get_or-map f xs k x (f x) within ∙ ap f is)

pub Contains-filter : {X : Type 0} (p : X → Bool) (xs : List X) (x : X) → Contains xs x → p x ≡ true → Contains (filter p xs) x
Contains-filter p [] x h is = absurd (Contains-none x h)
Contains-filter p (y ∷ ys) x h is = here (p y) refl (λ later. Contains-filter p ys x later is) (Contains-cases y x ys h)
  where
    here : (b : Bool) → p y ≡ b → (Contains ys x → Contains (filter p ys) x) → (y ≡ x) ⊎ Contains ys x → Contains (filter p (y ∷ ys)) x
    here true e rest (inl same) = rw e (Contains-from y x (filter p ys) (inl same))
    here true e rest (inr later) = rw e (Contains-later y x (filter p ys) (rest later))
    here false e rest (inl same) = absurd (both_ways (p x) (sym (ap p same) ∙ e) is)
    here false e rest (inr later) = rw e (rest later)

-- ---- by name

Contains-put : (row : NodeRow) (rows : List NodeRow) (y : NodeRow) → (row ≡ y) ⊎ Contains rows y → Contains (put_by_name row rows) y
Contains-put row [] y h = Contains-from row y [] h
Contains-put row (first ∷ rows) y h = here (comes_before first row) refl (λ h. Contains-put row rows y h) h
  where
    later : ((row ≡ y) ⊎ Contains rows y → Contains (put_by_name row rows) y)
        → (row ≡ y) ⊎ Contains (first ∷ rows) y → (first ≡ y) ⊎ Contains (put_by_name row rows) y
    later rest (inl same) = inr (rest (inl same))
    later rest (inr h) = elim (Contains-cases first y rows h) [ inl same ↦ inl same | inr further ↦ inr (rest (inr further)) ]

    here : (b : Bool) → comes_before first row ≡ b → ((row ≡ y) ⊎ Contains rows y → Contains (put_by_name row rows) y)
        → (row ≡ y) ⊎ Contains (first ∷ rows) y → Contains (put_by_name row (first ∷ rows)) y
    here true e rest h = rw e (Contains-from first y (put_by_name row rows) (later rest h))
    here false e rest h = rw e (Contains-from row y (first ∷ rows) h)

pub Contains-by_name : (rows : List NodeRow) (y : NodeRow) → Contains rows y → Contains (by_name rows) y
Contains-by_name [] y h = h
Contains-by_name (row ∷ rows) y h =
    Contains-put row (by_name rows) y
    (elim (Contains-cases row y rows h) [ inl same ↦ inl same | inr later ↦ inr (Contains-by_name rows y later) ])

-- what all rows have, all have by name
pub All-put : (P : NodeRow → Type 0) (row : NodeRow) (rows : List NodeRow) → P row → All P rows → All P (put_by_name row rows)
All-put P row [] one all = All-cons P row [] one all
All-put P row (first ∷ rows) one all = here (comes_before first row) refl (All-put P row rows one (All-tail P first rows all))
  where
    here : (b : Bool) → comes_before first row ≡ b → All P (put_by_name row rows) → All P (put_by_name row (first ∷ rows))
    here true e rest = rw e (All-cons P first (put_by_name row rows) (All-head P first rows all) rest)
    here false e rest = rw e (All-cons P row (first ∷ rows) one all)

pub All-by_name : (P : NodeRow → Type 0) (rows : List NodeRow) → All P rows → All P (by_name rows)
All-by_name P [] all = all
All-by_name P (row ∷ rows) all =
    All-put P row (by_name rows) (All-head P row rows all) (All-by_name P rows (All-tail P row rows all))

-- what two rows have of each other in either order, any two have by name
module _ (R : NodeRow → NodeRow → Type 0) (turned : (a b : NodeRow) → R a b → R b a) where
  AllPairs-put : (row : NodeRow) (rows : List NodeRow) → All (R row) rows → AllPairs R rows → AllPairs R (put_by_name row rows)
  AllPairs-put row [] one pairs = AllPairs-cons R row [] one pairs
  AllPairs-put row (first ∷ rows) one pairs =
      here (comes_before first row) refl
      (AllPairs-put row rows (All-tail (R row) first rows one) (λ i j d before within. pairs (suc i) (suc j) d (omega arith) (omega arith)))
    where
      here : (b : Bool) → comes_before first row ≡ b → AllPairs R (put_by_name row rows) → AllPairs R (put_by_name row (first ∷ rows))
      here true e rest =
          rw e (AllPairs-cons R first (put_by_name row rows)
          (All-put (R first) row rows (turned row first (All-head (R row) first rows one))
          (λ k d within. pairs 0 (suc k) d (omega arith) (omega arith))) rest)
      here false e rest = rw e (AllPairs-cons R row (first ∷ rows) one pairs)

  pub AllPairs-by_name : (rows : List NodeRow) → AllPairs R rows → AllPairs R (by_name rows)
  AllPairs-by_name [] pairs = pairs
  AllPairs-by_name (row ∷ rows) pairs =
      AllPairs-put row (by_name rows)
      (All-by_name (R row) rows (λ k d within. pairs 0 (suc k) d (omega arith) (omega arith)))
      (AllPairs-by_name rows (λ i j d before within. pairs (suc i) (suc j) d (omega arith) (omega arith)))
