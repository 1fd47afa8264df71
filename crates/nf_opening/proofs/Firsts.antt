-- First indices, and keys that are shared.
use Rattle.std.proofs.Common.{◌≡◌, ℕ, zero, suc, ◌+◌, ◌≤◌, Bool, true, false, cond, ◌||◌, List, [], ◌∷◌, Option, None, Some, option_map, map, drop, get_or, length, ◌<◌, refl, sym, ap, subst, ◌∙◌, add-one, drop-cons, arith}
use Rattle.std.specs.Prelude.{bytes_eq, count_by, find, is_some, nat_lt}
use Rattle.std.specs.List.{list_any, AllByRecursion}
use Rattle.std.specs.Cmp.{IsEquivalence}
use Rattle.std.specs.Cmp.Lexicographic.{slice_cmp}
use Rattle.std.specs.Ordering.{eq_by_cmp, nat_cmp}
use Rattle.std.proofs.lemmas.Bool.{lt-ltb}
use Rattle.std.proofs.Math.ListN.{drop_of_length-le}
use Rattle.std.proofs.lemmas.Cmp.{eq_by_cmp_equiv, nat_list_cmp_total}
use Rattle.std.proofs.lemmas.List.Sums.{sum_by-cons}
use Rattle.std.proofs.lemmas.Map.Text.{is_eq-slice_cmp}
use Rattle.nf_rules.specs.Keys.{has_key, is_shared}
use Rattle.nf_rules.specs.Rules.{first_index}
use Rattle.nf_opening.specs.Again.{first_again, ties, comes_again}

-- ---- first indices

pub zero_more : (o : Option ℕ) → option_map (λ k. 0 + k) o ≡ o
zero_more None = refl
zero_more (Some k) = ap Some (omega arith)

-- before the first row
pub first_begins : {X : Type 0} (p : X → Bool) (xs : List X) → first_index p xs ≡ option_map (λ k. 0 + k) (first_index p (drop 0 xs))
first_begins p xs = sym (zero_more (first_index p (drop 0 xs)))

-- the row at an index passes, and none before it does
pub first_passes : {X : Type 0} (p : X → Bool) (xs : List X) (i : ℕ) (x : X) → i < length xs → x ≡ get_or xs i x → p x ≡ true
    → first_index p xs ≡ option_map (λ k. i + k) (first_index p (drop i xs)) → Some i ≡ first_index p xs
first_passes p xs i x within at passes so_far =
    sym (so_far ∙ ap (λ (rest : List _). option_map (λ k. i + k) (first_index p rest)) (drop-cons xs i x within)
    ∙ ap (λ (y : _). option_map (λ k. i + k) (first_index p (y ∷ drop (suc i) xs))) (sym at)
    ∙ rw passes (ap Some (omega arith)))

-- it doesn't either
pub first_fails : {X : Type 0} (p : X → Bool) (xs : List X) (i : ℕ) (x : X) → i < length xs → x ≡ get_or xs i x → p x ≡ false
    → first_index p xs ≡ option_map (λ k. i + k) (first_index p (drop i xs))
    → first_index p xs ≡ option_map (λ k. i + 1 + k) (first_index p (drop (i + 1) xs))
first_fails p xs i x within at fails so_far =
    so_far ∙ ap (λ (rest : List _). option_map (λ k. i + k) (first_index p rest)) (drop-cons xs i x within)
    ∙ ap (λ (y : _). option_map (λ k. i + k) (first_index p (y ∷ drop (suc i) xs))) (sym at)
    ∙ rw fails (moved (first_index p (drop (suc i) xs)))
    ∙ ap (λ (n : ℕ). option_map (λ k. i + 1 + k) (first_index p (drop n xs))) (sym (add-one i))
  where
    moved : (o : Option ℕ) → option_map (λ k. i + k) (option_map suc o) ≡ option_map (λ k. i + 1 + k) o
    moved None = refl
    moved (Some k) = ap Some (omega arith)

-- none does
pub first_ends : {X : Type 0} (p : X → Bool) (xs : List X) (i : ℕ) → length xs ≤ i
    → first_index p xs ≡ option_map (λ k. i + k) (first_index p (drop i xs)) → None ≡ first_index p xs
first_ends p xs i end so_far = sym (so_far ∙ ap (λ (rest : List _). option_map (λ k. i + k) (first_index p rest)) (drop_of_length-le xs end))

-- the same tests find the same index
pub same_first : {X : Type 0} (p q : X → Bool) (xs : List X) → AllByRecursion (λ x. p x ≡ q x) xs → first_index p xs ≡ first_index q xs
same_first p q [] same = refl
same_first p q (x ∷ xs) same = rw (same.0, same_first p q xs same.1) refl

-- first indices of tests of the mapped elements
first_map : {X Y : Type 0} (f : X → Y) (p : Y → Bool) (xs : List X) → first_index (λ x. p (f x)) xs ≡ first_index p (map f xs)
first_map f p [] = refl
first_map f p (x ∷ xs) = rw (first_map f p xs) refl

-- ---- some and none

-- some passes where one is found
pub any_found : {X : Type 0} (p : X → Bool) (xs : List X) → is_some (find p xs) ≡ list_any p xs
any_found p [] = refl
any_found p (x ∷ xs) = here (p x) refl (any_found p xs)
  where
    here : (a : Bool) → p x ≡ a → is_some (find p xs) ≡ list_any p xs → is_some (find p (x ∷ xs)) ≡ (p x || list_any p xs)
    here true e rest = rw e refl
    here false e rest = rw e rest

none_any : {X : Type 0} (p : X → Bool) (xs : List X) → list_any p xs ≡ false → AllByRecursion (λ x. p x ≡ false) xs
none_any p [] e = tt
none_any p (x ∷ xs) e = here (p x) refl e (λ e. none_any p xs e)
  where
    here : (a : Bool) → p x ≡ a → (a || list_any p xs) ≡ false → (list_any p xs ≡ false → AllByRecursion (λ x. p x ≡ false) xs)
        → AllByRecursion (λ x. p x ≡ false) (x ∷ xs)
    here true f e rest = absurd cc
    here false f e rest = (f, rest e)

-- some passes where the count isn't zero
any_counted : {X : Type 0} (p : X → Bool) (xs : List X) → nat_lt 0 (count_by p xs) ≡ list_any p xs
any_counted p [] = refl
any_counted p (x ∷ xs) = here (p x) refl (any_counted p xs)
  where
    counts : count_by p (x ∷ xs) ≡ cond (p x) 1 0 + count_by p xs
    counts = sum_by-cons (λ y. cond (p y) 1 0) x xs

    here : (a : Bool) → p x ≡ a → nat_lt 0 (count_by p xs) ≡ list_any p xs → nat_lt 0 (count_by p (x ∷ xs)) ≡ (p x || list_any p xs)
    here true e rest = let more : count_by p (x ∷ xs) ≡ suc (count_by p xs) = counts ∙ rw e (omega arith) in rw (more, e) (lt-ltb _ _ (omega arith))
    here false e rest = let more : count_by p (x ∷ xs) ≡ count_by p xs = counts ∙ rw e (omega arith) in rw (more, e) rest

-- ---- shared keys

bytes_eq_equiv : IsEquivalence bytes_eq
bytes_eq_equiv =
    let same : eq_by_cmp (slice_cmp nat_cmp) ≡ bytes_eq = λ i a b. is_eq-slice_cmp a b i in
    subst (λ (e : List ℕ → List ℕ → Bool). IsEquivalence e) same (eq_by_cmp_equiv nat_list_cmp_total)

-- at the front a key is shared where it comes again
shared_here : (key : Option (List ℕ)) (keys : List (Option (List ℕ))) → is_shared (key ∷ keys) key ≡ comes_again bytes_eq keys key
shared_here None keys = refl
shared_here (Some k) keys =
    let more : count_by (has_key k) (Some k ∷ keys) ≡ suc (count_by (has_key k) keys) =
    sum_by-cons (λ y. cond (has_key k y) 1 0) (Some k) keys ∙ rw (bytes_eq_equiv.refl k) (omega arith) in
    rw more (shifted (count_by (has_key k) keys) ∙ any_counted (has_key k) keys)
  where
    shifted : (n : ℕ) → nat_lt 1 (suc n) ≡ nat_lt 0 n
    shifted zero = refl
    shifted (suc n) = lt-ltb _ _ (omega arith) ∙ sym (lt-ltb _ _ (omega arith))

-- a key that doesn't come again is in no other's count
others : (key : Option (List ℕ)) (keys all : List (Option (List ℕ))) → comes_again bytes_eq keys key ≡ false
    → AllByRecursion (λ other. is_shared (key ∷ all) other ≡ is_shared all other) keys
others None keys all e = each keys
  where
    one : (other : Option (List ℕ)) → is_shared (None ∷ all) other ≡ is_shared all other
    one None = refl
    one (Some q) = rw (sum_by-cons (λ y. cond (has_key q y) 1 0) None all) (ap (nat_lt 1) (omega arith))

    each : (keys : List (Option (List ℕ))) → AllByRecursion (λ other. is_shared (None ∷ all) other ≡ is_shared all other) keys
    each [] = tt
    each (x ∷ xs) = (one x, each xs)
others (Some k) keys all e = each keys (none_any (has_key k) keys e)
  where
    one : (other : Option (List ℕ)) → has_key k other ≡ false → is_shared (Some k ∷ all) other ≡ is_shared all other
    one None e = refl
    one (Some q) e =
        let apart : bytes_eq q k ≡ false = bytes_eq_equiv.symm q k ∙ e in
        rw (sum_by-cons (λ y. cond (has_key q y) 1 0) (Some k) all, apart) (ap (nat_lt 1) (omega arith))

    each : (keys : List (Option (List ℕ))) → AllByRecursion (λ other. has_key k other ≡ false) keys
        → AllByRecursion (λ other. is_shared (Some k ∷ all) other ≡ is_shared all other) keys
    each [] h = tt
    each (x ∷ xs) h = (one x h.0, each xs h.1)

-- the first key that is shared is the first that comes again
first_shared : (keys : List (Option (List ℕ))) → first_index (is_shared keys) keys ≡ first_again bytes_eq keys
unfolding first_again
first_shared [] = refl
first_shared (key ∷ keys) = here (comes_again bytes_eq keys key) refl (first_shared keys)
  where
    here : (a : Bool) → comes_again bytes_eq keys key ≡ a → first_index (is_shared keys) keys ≡ first_again bytes_eq keys
        → first_index (is_shared (key ∷ keys)) (key ∷ keys) ≡ cond (comes_again bytes_eq keys key) (Some 0) (option_map suc (first_again bytes_eq keys))
    here true e rest = rw (shared_here key keys, e) refl
    here false e rest = rw (shared_here key keys, e)
        (ap (option_map suc) (same_first (is_shared (key ∷ keys)) (is_shared keys) keys (others key keys keys e) ∙ rest))

-- ---- keys of a type of their own, by their numbers

module _ {K : Type 0} (E : K → K → Bool) (numbers : K → List ℕ) (same : (a b : K) → E a b ≡ bytes_eq (numbers a) (numbers b)) where
  ties_as : (k : K) (keys : List (Option K)) → list_any (ties E k) keys ≡ list_any (ties bytes_eq (numbers k)) (map (option_map numbers) keys)
  ties_as k [] = refl
  ties_as k (None ∷ keys) = ties_as k keys
  ties_as k (Some q ∷ keys) = rw (same k q, ties_as k keys) refl

  comes_as : (key : Option K) (keys : List (Option K))
      → comes_again E keys key ≡ comes_again bytes_eq (map (option_map numbers) keys) (option_map numbers key)
  comes_as None keys = refl
  comes_as (Some k) keys = ties_as k keys

  again_as : (keys : List (Option K)) → first_again E keys ≡ first_again bytes_eq (map (option_map numbers) keys)
  unfolding first_again
  again_as [] = refl
  again_as (key ∷ keys) = rw (comes_as key keys, again_as keys) refl

  -- the first row whose key is shared, where these are the keys of the rows
  pub shared_by : {R : Type 0} (key : R → Option (List ℕ)) (rows : List R) (keys : List (Option K)) → map (option_map numbers) keys ≡ map key rows
      → first_again E keys ≡ first_index (λ row. is_shared (map key rows) (key row)) rows
  shared_by key rows keys are =
      again_as keys ∙ ap (first_again bytes_eq) are ∙ sym (first_shared (map key rows)) ∙ sym (first_map key (is_shared (map key rows)) rows)
