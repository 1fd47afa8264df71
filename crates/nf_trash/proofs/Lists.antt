-- Pairs along lists that are put together and turned round, and sums over lists of which a part is left out.
use Rattle.std.proofs.Common.{◌≡◌, ◌∙◌, ℕ, suc, cond, Bool, true, false, List, [], ◌∷◌, ◌++◌, length, get_or, map, reverse, refl, ap, arith}
use Rattle.std.specs.List.{All, AllPairs, filter, sum_by}
use Rattle.std.proofs.lemmas.List.{reverse-append}
use Rattle.std.proofs.lemmas.List.Elements.{All-append, All-cons, All-head, All-map, All-nil, All-tail}
use Rattle.std.proofs.lemmas.List.Kept.{AllPairs-cons}
use Rattle.std.proofs.lemmas.List.Sorted.{All-permutation, IsPermutation-reverse}
use Rattle.std.proofs.lemmas.List.Sums.{sum_by-cons}

-- ---- pairs

module _ {X : Type 0} (R : X → X → Type 0) where
  -- the first stands before all behind it
  pub pairs_head : (x : X) (xs : List X) → AllPairs R (x ∷ xs) → All (R x) xs
  pairs_head x xs pairs k d within = pairs 0 (suc k) d (omega arith) (omega arith)

  -- and those stand as before
  pub pairs_tail : (x : X) (xs : List X) → AllPairs R (x ∷ xs) → AllPairs R xs
  pairs_tail x xs pairs i j d before within = pairs (suc i) (suc j) d (omega arith) (omega arith)

  -- none has no pairs
  pub no_pairs : AllPairs R []
  no_pairs i j d before within = absurd (omega arith)

  -- two lists, each of the first before each of the second
  pub pairs_joined : (xs ys : List X) → AllPairs R xs → AllPairs R ys → All (λ x. All (R x) ys) xs → AllPairs R (xs ++ ys)
  pairs_joined [] ys first second between = second
  pairs_joined (x ∷ xs) ys first second between =
      AllPairs-cons R x (xs ++ ys)
      (All-append (R x) xs ys (pairs_head x xs first) (All-head (λ x. All (R x) ys) x xs between))
      (pairs_joined xs ys (pairs_tail x xs first) second (All-tail (λ x. All (R x) ys) x xs between))

-- what is made of them
pub pairs_map : {X Y : Type 0} (R : Y → Y → Type 0) (f : X → Y) (xs : List X) → AllPairs (λ a b. R (f a) (f b)) xs → AllPairs R (map f xs)
pairs_map R f [] pairs = no_pairs R
pairs_map R f (x ∷ xs) pairs =
    AllPairs-cons R (f x) (map f xs) (All-map (R (f x)) f xs (pairs_head (λ a b. R (f a) (f b)) x xs pairs))
    (pairs_map R f xs (pairs_tail (λ a b. R (f a) (f b)) x xs pairs))

-- turned round
pub pairs_reverse : {X : Type 0} (R : X → X → Type 0) (xs : List X) → AllPairs (λ a b. R b a) xs → AllPairs R (reverse xs)
pairs_reverse R [] pairs = no_pairs R
pairs_reverse {X} R (x ∷ xs) pairs =
    rw (reverse-append (x ∷ []) xs)
    (pairs_joined R (reverse xs) (x ∷ []) (pairs_reverse R xs (pairs_tail (λ a b. R b a) x xs pairs)) (λ i j d before within. absurd (omega arith))
    (All-permutation (λ y. All (R y) (x ∷ [])) xs (reverse xs) (IsPermutation-reverse xs)
    (λ k d within. All-cons (R (get_or xs k d)) x [] (pairs_head (λ a b. R b a) x xs pairs k d within) (All-nil (R (get_or xs k d))))))

-- ---- sums

-- of what passes a test
pub sum_passed : {X : Type 0} (f : X → ℕ) (p : X → Bool) (xs : List X) → sum_by f (filter p xs) ≡ sum_by (λ x. cond (p x) (f x) 0) xs
sum_passed f p [] = refl
sum_passed f p (x ∷ xs) = here (p x) refl (sum_passed f p xs)
  where
    here : (b : Bool) → p x ≡ b → sum_by f (filter p xs) ≡ sum_by (λ x. cond (p x) (f x) 0) xs
        → sum_by f (cond b (x ∷ filter p xs) (filter p xs)) ≡ sum_by (λ x. cond (p x) (f x) 0) (x ∷ xs)
    here true e rest = sum_by-cons f x (filter p xs) ∙ rw (sum_by-cons (λ x. cond (p x) (f x) 0) x xs, e, rest) refl
    here false e rest = rw (sum_by-cons (λ x. cond (p x) (f x) 0) x xs, e) (omega (arith, rest))

-- by numbers that are the same at each
pub sum_agree : {X : Type 0} (f g : X → ℕ) (xs : List X) → All (λ x. f x ≡ g x) xs → sum_by f xs ≡ sum_by g xs
sum_agree f g [] same = refl
sum_agree f g (x ∷ xs) same =
    omega (arith, sum_by-cons f x xs, sum_by-cons g x xs, All-head (λ x. f x ≡ g x) x xs same, sum_agree f g xs (All-tail (λ x. f x ≡ g x) x xs same))

-- by none
pub sum_none : {X : Type 0} (f : X → ℕ) (xs : List X) → All (λ x. f x ≡ 0) xs → sum_by f xs ≡ 0
sum_none f [] none = refl
sum_none f (x ∷ xs) none =
    omega (arith, sum_by-cons f x xs, All-head (λ x. f x ≡ 0) x xs none, sum_none f xs (All-tail (λ x. f x ≡ 0) x xs none))

-- by one each
pub sum_ones : {X : Type 0} (xs : List X) → sum_by (λ (x : X). 1) xs ≡ length xs
sum_ones [] = refl
sum_ones {X} (x ∷ xs) = omega (arith, sum_by-cons (λ (x : X). 1) x xs, sum_ones xs)

-- over what is made of them
pub sum_made : {X Y : Type 0} (f : Y → ℕ) (g : X → Y) (xs : List X) → sum_by f (map g xs) ≡ sum_by (λ x. f (g x)) xs
sum_made f g [] = refl
sum_made f g (x ∷ xs) = omega (arith, sum_by-cons f (g x) (map g xs), sum_by-cons (λ x. f (g x)) x xs, sum_made f g xs)

-- ---- what passes

-- two tests, in either order
pub passed_twice : {X : Type 0} (p q : X → Bool) (xs : List X) → filter p (filter q xs) ≡ filter q (filter p xs)
passed_twice p q [] = refl
passed_twice p q (x ∷ xs) = here (p x) (q x) refl refl (passed_twice p q xs)
  where
    here : (a b : Bool) → p x ≡ a → q x ≡ b → filter p (filter q xs) ≡ filter q (filter p xs)
        → filter p (cond b (x ∷ filter q xs) (filter q xs)) ≡ filter q (cond a (x ∷ filter p xs) (filter p xs))
    here true true e f rest = rw (e, f) (ap (λ l. x ∷ l) rest)
    here true false e f rest = rw f rest
    here false true e f rest = rw e rest
    here false false e f rest = rest

-- all do
pub each_passed : {X : Type 0} (p : X → Bool) (xs : List X) → All (λ x. p x ≡ true) xs → filter p xs ≡ xs
each_passed p [] all = refl
each_passed p (x ∷ xs) all =
    rw (All-head (λ x. p x ≡ true) x xs all) (ap (λ l. x ∷ l) (each_passed p xs (All-tail (λ x. p x ≡ true) x xs all)))

-- none does
pub none_passed : {X : Type 0} (p : X → Bool) (xs : List X) → All (λ x. p x ≡ false) xs → filter p xs ≡ []
none_passed p [] none = refl
none_passed p (x ∷ xs) none =
    rw (All-head (λ x. p x ≡ false) x xs none) (none_passed p xs (All-tail (λ x. p x ≡ false) x xs none))
