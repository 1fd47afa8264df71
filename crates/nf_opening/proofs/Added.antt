-- One row more in the totals of owners.
use Rattle.std.proofs.Common.{◌≡◌, ◌<◌, ◌≤◌, ℕ, ◌+◌, ◌*◌, ◌==◌, Bool, true, false, List, [], ◌∷◌, ◌++◌, filter, get_or, length, take, if◌then◌else◌, refl, sym, ap, ◌∙◌, arith}
use Rattle.std.specs.Prelude.{sum_by}
use Rattle.std.proofs.lemmas.Bool.{eqb-true}
use Rattle.std.proofs.lemmas.List.{take_more}
use Rattle.std.proofs.lemmas.List.Elements.{filter-append}
use Rattle.std.proofs.lemmas.List.Sums.{sum_by-append, sum_by-cons}

-- an owner has so many bytes more
abbrev pub IsMore : ℕ → ℕ → (ℕ → ℕ) → (ℕ → ℕ) → Type 0
IsMore owner bytes old new = (other : ℕ) → new other ≡ (if owner == other then old owner + bytes else old other)

added : (owner bytes : ℕ) (old new : ℕ → ℕ) → IsMore owner bytes old new → (other : ℕ)
    → new other ≡ old other + (if owner == other then bytes else 0)
added owner bytes old new adds other = adds other ∙ here (owner == other) refl
  where
    here : (a : Bool) → (owner == other) ≡ a → (if a then old owner + bytes else old other) ≡ old other + (if a then bytes else 0)
    here true e = ap (λ (n : ℕ). old n + bytes) (eqb-true owner other e)
    here false e = omega arith

-- no total is beyond so many bytes for each row
pub few_more : (most owner bytes i : ℕ) (old new : ℕ → ℕ) → IsMore owner bytes old new → bytes ≤ most → ((other : ℕ) → old other ≤ most * i)
    → (other : ℕ) → new other ≤ most * (i + 1)
few_more most owner bytes i old new adds few so_far other =
    let product : most * (i + 1) ≡ most * i + most = grind arith in
    omega (arith, product, added owner bytes old new adds other, so_far other, here (owner == other))
  where
    here : (a : Bool) → (if a then bytes else 0) ≤ bytes
    here true = omega arith
    here false = omega arith

-- the sum of those that pass
passing_more : {X : Type 0} (f : X → ℕ) (p : X → Bool) (xs : List X) (i : ℕ) (x : X) → i < length xs → x ≡ get_or xs i x
    → sum_by f (filter p (take (i + 1) xs)) ≡ sum_by f (filter p (take i xs)) + (if p x then f x else 0)
passing_more f p xs i x less is =
    ap (λ (ys : List _). sum_by f (filter p ys)) (take_more xs i x less)
    ∙ ap (λ (y : _). sum_by f (filter p (take i xs ++ y ∷ []))) (sym is)
    ∙ ap (sum_by f) (filter-append p (take i xs) (x ∷ []))
    ∙ sum_by-append f (filter p (take i xs)) (filter p (x ∷ []))
    ∙ ap (λ (n : ℕ). sum_by f (filter p (take i xs)) + n) (here (p x))
  where
    here : (a : Bool) → sum_by f (if a then x ∷ [] else []) ≡ (if a then f x else 0)
    here true = omega (arith, sum_by-cons f x [])
    here false = refl

-- the totals are those of one row more
pub owned_more : {X : Type 0} (f owner_at : X → ℕ) (xs : List X) (i : ℕ) (x : X) (owner bytes : ℕ) (old new : ℕ → ℕ) → i < length xs
    → x ≡ get_or xs i x → owner ≡ owner_at x → bytes ≡ f x → IsMore owner bytes old new
    → ((user : ℕ) → old user ≡ sum_by f (filter (λ y. owner_at y == user) (take i xs)))
    → (user : ℕ) → new user ≡ sum_by f (filter (λ y. owner_at y == user) (take (i + 1) xs))
owned_more f owner_at xs i x owner bytes old new less is its sized adds so_far user =
    added owner bytes old new adds user
    ∙ ap (λ (n : ℕ). n + (if owner == user then bytes else 0)) (so_far user)
    ∙ ap (λ (n : ℕ). sum_by f (filter (λ y. owner_at y == user) (take i xs)) + (if n == user then bytes else 0)) its
    ∙ ap (λ (n : ℕ). sum_by f (filter (λ y. owner_at y == user) (take i xs)) + (if owner_at x == user then n else 0)) sized
    ∙ sym (passing_more f (λ y. owner_at y == user) xs i x less is)

-- a list has as many as there are, one for each
pub one_each : {X : Type 0} (xs : List X) → length xs ≡ sum_by (λ x. 1) xs
one_each [] = refl
one_each (x ∷ xs) = omega (arith, sum_by-cons (λ x. 1) x xs, one_each xs)
