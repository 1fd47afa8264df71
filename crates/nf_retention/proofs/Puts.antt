-- What a stable sort makes of a list is what its elements make, put one after the other at their places.
use Rattle.std.proofs.Common.{suc, cond, sym, ◌≡◌, Bool, true, false, List, [], ◌∷◌, get_or, map, refl, ap, ◌∙◌, arith}
use Rattle.std.specs.Cmp.{IsStrictWeakOrder}
use Rattle.std.specs.List.{All, AllPairs, Contains, filter}
use Rattle.std.specs.List.Sorted.{IsPermutation, IsSortedBy, IsStableBy, ties}
use Rattle.std.specs.Prelude.{if◌then◌else◌}
use Rattle.std.proofs.lemmas.List.Elements.{All-cons, All-contains, All-filter, All-head, All-nil, All-tail}
use Rattle.std.proofs.lemmas.List.Kept.{AllPairs-cons}
use Rattle.std.proofs.lemmas.List.Sorted.{IsPermutation-cons, IsPermutation-refl, IsPermutation-swap, IsPermutation-trans, sorted_far}

module _ {X : Type 0} (lt : X → X → Bool) where
  -- at its place, before those that tie with it
  abbrev pub put : X → List X → List X
  put x [] = x ∷ []
  put x (y ∷ ys) = if lt y x then y ∷ put x ys else x ∷ y ∷ ys

  abbrev pub puts : List X → List X
  puts [] = []
  puts (x ∷ xs) = put x (puts xs)

  -- none is less than one before it
  abbrev pub IsAscending : List X → Type 0
  IsAscending xs = AllPairs (λ x y. lt y x ≡ false) xs

  -- they are the same elements
  turned : (x y : X) (ys : List X) → IsPermutation (x ∷ y ∷ ys) (y ∷ x ∷ ys)
  turned x y ys = IsPermutation-swap (x ∷ y ∷ ys) (y ∷ x ∷ ys) 0 1 (omega arith) (omega arith) refl

  put_same : (x : X) (ys : List X) → IsPermutation (x ∷ ys) (put x ys)
  put_same x [] = IsPermutation-refl (x ∷ [])
  put_same x (y ∷ ys) = here (lt y x) (put_same x ys)
    where
      here : (b : Bool) → IsPermutation (x ∷ ys) (put x ys) → IsPermutation (x ∷ y ∷ ys) (if b then y ∷ put x ys else x ∷ y ∷ ys)
      here true rest = IsPermutation-trans (x ∷ y ∷ ys) (y ∷ x ∷ ys) (y ∷ put x ys) (turned x y ys) (IsPermutation-cons y (x ∷ ys) (put x ys) rest)
      here false rest = IsPermutation-refl (x ∷ y ∷ ys)

  pub puts_same : (xs : List X) → IsPermutation xs (puts xs)
  puts_same [] = IsPermutation-refl []
  puts_same (x ∷ xs) =
      IsPermutation-trans (x ∷ xs) (x ∷ puts xs) (put x (puts xs)) (IsPermutation-cons x xs (puts xs) (puts_same xs)) (put_same x (puts xs))

  all_put : (P : X → Type 0) (x : X) (ys : List X) → P x → All P ys → All P (put x ys)
  all_put P x [] one all = All-cons P x [] one all
  all_put P x (y ∷ ys) one all = here (lt y x) (all_put P x ys one (All-tail P y ys all))
    where
      here : (b : Bool) → All P (put x ys) → All P (if b then y ∷ put x ys else x ∷ y ∷ ys)
      here true rest = All-cons P y (put x ys) (All-head P y ys all) rest
      here false rest = All-cons P x (y ∷ ys) one all

-- what gives the elements of one list from those of another puts them at the same places
pub map_put : {X Y : Type 0} (lt : X → X → Bool) (lt' : Y → Y → Bool) (f : X → Y) → ((x y : X) → lt' (f x) (f y) ≡ lt x y)
    → (x : X) (ys : List X) → put lt' (f x) (map f ys) ≡ map f (put lt x ys)
map_put lt lt' f same x [] = refl
map_put lt lt' f same x (y ∷ ys) = rw (same y x) (here (lt y x) (map_put lt lt' f same x ys))
  where
    here : (b : Bool) → put lt' (f x) (map f ys) ≡ map f (put lt x ys)
        → (if b then f y ∷ put lt' (f x) (map f ys) else f x ∷ f y ∷ map f ys) ≡ map f (if b then y ∷ put lt x ys else x ∷ y ∷ ys)
    here true rest = ap (λ l. f y ∷ l) rest
    here false rest = refl

pub map_puts : {X Y : Type 0} (lt : X → X → Bool) (lt' : Y → Y → Bool) (f : X → Y) → ((x y : X) → lt' (f x) (f y) ≡ lt x y)
    → (xs : List X) → puts lt' (map f xs) ≡ map f (puts lt xs)
map_puts lt lt' f same [] = refl
map_puts lt lt' f same (x ∷ xs) = ap (put lt' (f x)) (map_puts lt lt' f same xs) ∙ map_put lt lt' f same x (puts lt xs)

module _ {X : Type 0} (lt : X → X → Bool) (order : IsStrictWeakOrder lt) where
  -- in order
  put_ascends : (x : X) (ys : List X) → IsAscending lt ys → IsAscending lt (put lt x ys)
  put_ascends x [] up = AllPairs-cons (λ x y. lt y x ≡ false) x [] (All-nil (λ y. lt y x ≡ false)) up
  put_ascends x (y ∷ ys) up = here (lt y x) refl (put_ascends x ys (λ i j d before within. up (suc i) (suc j) d (omega arith) (omega arith)))
    where
      first : All (λ z. lt z y ≡ false) ys
      first k d within = up 0 (suc k) d (omega arith) (omega arith)

      here : (b : Bool) → lt y x ≡ b → IsAscending lt (put lt x ys) → IsAscending lt (if b then y ∷ put lt x ys else x ∷ y ∷ ys)
      here true less rest =
          AllPairs-cons (λ x y. lt y x ≡ false) y (put lt x ys) (all_put lt (λ z. lt z y ≡ false) x ys (order.one_way y x less) first) rest
      here false not_less rest =
          AllPairs-cons (λ x y. lt y x ≡ false) x (y ∷ ys)
          (All-cons (λ z. lt z x ≡ false) y ys not_less (λ k d within. order.chain (get_or ys k d) y x (first k d within) not_less)) up

  pub puts_ascend : (xs : List X) → IsAscending lt (puts lt xs)
  puts_ascend [] = λ i j d before within. absurd (omega (arith, within))
  puts_ascend (x ∷ xs) = put_ascends x (puts lt xs) (puts_ascend xs)

  -- and those that tie stay as they are
  put_stable : (x : X) (ys : List X) → IsStableBy lt (x ∷ ys) (put lt x ys)
  put_stable x [] z = refl
  put_stable x (y ∷ ys) z = here (lt y x) refl (put_stable x ys z)
    where
      apart : lt y x ≡ true → ties lt z x ≡ true → ties lt z y ≡ true → ⊥
      apart less tie tie' = let chain = order.chain y z x in grind arith

      swap : (b c : Bool) (l : List X) → (b ≡ true → c ≡ true → ⊥)
          → cond c (y ∷ cond b (x ∷ l) l) (cond b (x ∷ l) l) ≡ cond b (x ∷ cond c (y ∷ l) l) (cond c (y ∷ l) l)
      swap true true l both = absurd (both refl refl)
      swap true false l both = refl
      swap false c l both = refl

      here : (b : Bool) → lt y x ≡ b → filter (ties lt z) (put lt x ys) ≡ filter (ties lt z) (x ∷ ys)
          → filter (ties lt z) (if b then y ∷ put lt x ys else x ∷ y ∷ ys) ≡ filter (ties lt z) (x ∷ y ∷ ys)
      here true less rest =
          ap (λ l. cond (ties lt z y) (y ∷ l) l) rest ∙ swap (ties lt z x) (ties lt z y) (filter (ties lt z) ys) (apart less)
      here false less rest = refl

  puts_stable : (xs : List X) → IsStableBy lt xs (puts lt xs)
  puts_stable [] z = refl
  puts_stable (x ∷ xs) z = put_stable x (puts lt xs) z ∙ ap (λ l. cond (ties lt z x) (x ∷ l) l) (puts_stable xs z)

  -- ---- lists in order in which ties stand alike are one list

  itself : (x : X) → lt x x ≡ false
  itself x = here (lt x x) refl
    where
      here : (b : Bool) → lt x x ≡ b → lt x x ≡ false
      here true e = order.one_way x x e
      here false e = e

  -- the first is no greater than any
  least : (x : X) (p : X → Bool) (y : X) (ys : List X) → IsAscending lt (y ∷ ys) → Contains (filter p (y ∷ ys)) x → lt x y ≡ false
  least x p y ys up =
      All-contains (λ x. lt x y ≡ false) (filter p (y ∷ ys)) x
      (All-filter p (λ x. lt x y ≡ false) (y ∷ ys)
      (All-cons (λ x. lt x y ≡ false) y ys (itself y) (λ k d within. up 0 (suc k) d (omega arith) (omega arith))))

  one_list : (xs ys : List X) → IsAscending lt xs → IsAscending lt ys → IsStableBy lt xs ys → xs ≡ ys
  one_list [] [] up up' same = refl
  one_list [] (y ∷ ys) up up' same = let h = rw (itself y) at (same y) in absurd (cc)
  one_list (x ∷ xs) [] up up' same = let h = rw (itself x) at (same x) in absurd (cc)
  one_list (x ∷ xs) (y ∷ ys) up up' same =
      let mine : Contains (filter (ties lt x) (x ∷ xs)) x = rw (itself x) (0, omega arith, refl) in
      let its : Contains (filter (ties lt y) (y ∷ ys)) y = rw (itself y) (0, omega arith, refl) in
      let low = least x (ties lt x) y ys up' (rw (same x) mine) in
      let high = least y (ties lt y) x xs up (rw (← same y) its) in
      let firsts = rw (itself x, low, high) at (same x) in
      let first : y ≡ x = cc in
      let rest = one_list xs ys (λ i j d before within. up (suc i) (suc j) d (omega arith) (omega arith))
      (λ i j d before within. up' (suc i) (suc j) d (omega arith) (omega arith))
      (λ z. behind (ties lt z x) (filter (ties lt z) ys) (filter (ties lt z) xs)
      (ap (λ (y : X). filter (ties lt z) (y ∷ ys)) (sym first) ∙ same z)) in
      cc
    where
      behind : (b : Bool) (p q : List X) → cond b (x ∷ p) p ≡ cond b (x ∷ q) q → p ≡ q
      behind true p q e = cc
      behind false p q e = e

  -- so the stable sort's list is theirs
  pub stable_sort : (xs zs : List X) → IsSortedBy lt zs → IsStableBy lt xs zs → zs ≡ puts lt xs
  stable_sort xs zs sorted stable =
      one_list zs (puts lt xs) (λ i j d before within. sorted_far lt order zs sorted i j d (omega arith) within)
      (puts_ascend xs) (λ z. puts_stable xs z ∙ sym (stable z))
