-- Keys that no two rows share.
use Rattle.std.proofs.Common.{◌≡◌, ℕ, zero, suc, ◌+◌, ◌<◌, ◌≤◌, Bool, true, false, cond, List, [], ◌∷◌, map, length, get_or, Option, None, Some, refl, sym, ap, subst, ◌∙◌, arith}
use Rattle.std.specs.Prelude.{count_by}
use Rattle.std.specs.List.{All, AllPairs}
use Rattle.std.proofs.lemmas.Bool.{false_from_ne_true, false≢true, le-ltb, ltb-false}
use Rattle.std.proofs.lemmas.List.Elements.{All-contains_itself, All-head, All-tail, at_from_Contains}
use Rattle.std.proofs.lemmas.List.Sums.{sum_by-cons}
use Rattle.std.proofs.lemmas.Slice.Eq.{bytes_eq-Decides}
use Rattle.nf_rules.specs.Keys.{has_key, is_shared}

-- the element is one of the list's
abbrev pub IsAmong : {X : Type 0} → List X → X → Type 0
IsAmong {X} all x = (i : ℕ) × (i < length all) × ((d : X) → get_or all i d ≡ x)

pub each_among : {X : Type 0} (all : List X) → All (IsAmong all) all
each_among all k d within = at_from_Contains all _ (All-contains_itself all k d within)

pub of_among : {X : Type 0} (P : X → Type 0) (all : List X) (x : X) → All P all → IsAmong all x → P x
of_among P all x each among = subst P (among.2 x) (each among.0 x among.1)

-- ---- keys

it_has : (key : List ℕ) (other : Option (List ℕ)) → other ≡ Some key → has_key key other ≡ true
it_has key other is = ap (has_key key) is ∙ (bytes_eq-Decides key key).1 refl

it_is : (key : List ℕ) (other : Option (List ℕ)) → has_key key other ≡ true → other ≡ Some key
it_is key None has = absurd (false≢true has)
it_is key (Some other) has = ap Some (sym ((bytes_eq-Decides key other).0 has))

module _ {X : Type 0} (key_of : X → Option (List ℕ)) where
  abbrev pub count : List ℕ → List X → ℕ
  count key xs = count_by (has_key key) (map key_of xs)

  one_more : (key : List ℕ) (x : X) (xs : List X) → count key (x ∷ xs) ≡ cond (has_key key (key_of x)) 1 0 + count key xs
  one_more key x xs = sum_by-cons (λ other. cond (has_key key other) 1 0) (key_of x) (map key_of xs)

  with_it : (key : List ℕ) (x : X) (xs : List X) → key_of x ≡ Some key → count key (x ∷ xs) ≡ suc (count key xs)
  with_it key x xs is = one_more key x xs ∙ rw (it_has key (key_of x) is) (omega arith)

  at_least : (key : List ℕ) (x : X) (xs : List X) → count key xs ≤ count key (x ∷ xs)
  at_least key x xs = omega (arith, one_more key x xs)

  counted : (key : List ℕ) (xs : List X) (i : ℕ) (d : X) → i < length xs → key_of (get_or xs i d) ≡ Some key → 1 ≤ count key xs
  counted key [] i d within is = absurd (omega arith)
  counted key (x ∷ xs) zero d within is = omega (arith, with_it key x xs is)
  counted key (x ∷ xs) (suc i) d within is = omega (arith, at_least key x xs, counted key xs i d (omega arith) is)

  -- a key that only one has is at one place
  one_place : (key : List ℕ) (xs : List X) (i j : ℕ) (d : X) → i < length xs → j < length xs
      → key_of (get_or xs i d) ≡ Some key → key_of (get_or xs j d) ≡ Some key → count key xs ≤ 1 → i ≡ j
  one_place key [] i j d within there is same few = absurd (omega arith)
  one_place key (x ∷ xs) zero zero d within there is same few = refl
  one_place key (x ∷ xs) zero (suc j) d within there is same few =
      absurd (omega (arith, with_it key x xs is, counted key xs j d (omega arith) same))
  one_place key (x ∷ xs) (suc i) zero d within there is same few =
      absurd (omega (arith, with_it key x xs same, counted key xs i d (omega arith) is))
  one_place key (x ∷ xs) (suc i) (suc j) d within there is same few =
      ap suc (one_place key xs i j d (omega arith) (omega arith) is same (omega (arith, at_least key x xs)))

  -- nobody shares a key
  abbrev pub AreUnshared : List X → Type 0
  AreUnshared all = All (λ x. is_shared (map key_of all) (key_of x) ≡ false) all

  few_have : (all : List X) (x : X) (key : List ℕ) → AreUnshared all → IsAmong all x → key_of x ≡ Some key → count key all ≤ 1
  few_have all x key unshared among is =
      ltb-false 1 (count key all)
      (subst (λ (o : Option (List ℕ)). is_shared (map key_of all) o ≡ false) is
      (of_among (λ x. is_shared (map key_of all) (key_of x) ≡ false) all x unshared among))

  -- so what has one key is one element
  pub one_has : (all : List X) (x y : X) (key : List ℕ) → AreUnshared all → IsAmong all x → IsAmong all y
      → key_of x ≡ Some key → key_of y ≡ Some key → x ≡ y
  one_has all x y key unshared first second is same =
      let place : first.0 ≡ second.0 =
      one_place key all first.0 second.0 x first.1 second.1 (ap key_of (first.2 x) ∙ is) (ap key_of (second.2 x) ∙ same)
      (few_have all x key unshared first is) in
      sym (first.2 x) ∙ ap (λ (i : ℕ). get_or all i x) place ∙ second.2 x

  -- ---- where each two have different keys

  abbrev pub AreApart : X → X → Type 0
  AreApart x y = (key : List ℕ) → key_of x ≡ Some key → key_of y ≡ Some key → ⊥

  none_has : (key : List ℕ) (xs : List X) → All (λ x. has_key key (key_of x) ≡ false) xs → count key xs ≡ 0
  none_has key [] fail = refl
  none_has key (x ∷ xs) fail =
      one_more key x xs
      ∙ rw (All-head (λ x. has_key key (key_of x) ≡ false) x xs fail)
      (ap (λ (n : ℕ). 0 + n) (none_has key xs (All-tail (λ x. has_key key (key_of x) ≡ false) x xs fail)))

  one_at_most : (key : List ℕ) (xs : List X) → AllPairs AreApart xs → count key xs ≤ 1
  one_at_most key [] apart = omega arith
  one_at_most key (x ∷ xs) apart =
      here (has_key key (key_of x)) refl
      (one_at_most key xs (λ i j d before within. apart (suc i) (suc j) d (omega arith) (omega arith)))
    where
      here : (a : Bool) → has_key key (key_of x) ≡ a → count key xs ≤ 1 → count key (x ∷ xs) ≤ 1
      here true e few =
          let rest : count key xs ≡ 0 =
          none_has key xs (λ k d within. false_from_ne_true _ (λ has.
          apart 0 (suc k) d (omega arith) (omega arith) key (it_is key (key_of x) e) (it_is key _ has))) in
          omega (arith, with_it key x xs (it_is key (key_of x) e))
      here false e few =
          let same : count key (x ∷ xs) ≡ 0 + count key xs = one_more key x xs ∙ rw e refl in
          omega arith

  pub unshared : (all : List X) → AllPairs AreApart all → AreUnshared all
  unshared all apart k d within = here (key_of (get_or all k d))
    where
      here : (o : Option (List ℕ)) → is_shared (map key_of all) o ≡ false
      here None = refl
      here (Some key) = le-ltb 1 (count key all) (one_at_most key all apart)
