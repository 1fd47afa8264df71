-- Whether a seat has all numbers.
use Rattle.std.proofs.Common.{◌≡◌, ◌⊎◌, ⊎_elim, inl, inr, ℕ, ◌+◌, ◌<◌, ◌≤◌, true, true≢false, ◌||◌, ◌↔◌, ◌==◌, List, [], ◌∷◌, length, sym, arith}
use mathlib.Core.Logic.{dite}
use Rattle.std.proofs.Math.Logic.{∥∥₁_elim}
use mathlib.Core.Bool.{Bool-set}
use native.Mathlib.Nat.{ℕ_set}
use native.Mathlib.Decide.{ℕ_discrete}
use Rattle.std.proofs.lemmas.Bool.{eqb-true, eq-eqb, or_cases, or_left, or_right, cases_lt}
use Rattle.nf_turn.specs.Numbers.{Numbers, IsWhole, is_left, has_number, is_joined, AreApart, AreSound}
use Rattle.nf_turn.proofs.Left.{IsLeft, left_test, left_tests}
use Rattle.nf_turn.proofs.Numbers.{count, count_le, count_all, all_pass}
use Rattle.nf_turn.proofs.Sounding.{was_given, given_count}

module _ {W : Type 0} where
  -- the three ways to have a number
  pub ways : (k : Numbers W) (n : ℕ) → has_number k n ≡ true → (n ≡ k.number) ⊎ (IsLeft k n ⊎ (is_joined n k.joined ≡ true))
  ways k n h = ⊎_elim (λ (e : (n == k.number) ≡ true). inl (eqb-true n k.number e))
      (λ (e : (is_left k n || is_joined n k.joined) ≡ true). inr (⊎_elim
      (λ (f : is_left k n ≡ true). inl (left_test k n f))
      (λ (f : is_joined n k.joined ≡ true). inr f)
      (or_cases (is_left k n) (is_joined n k.joined) e)))
      (or_cases (n == k.number) (is_left k n || is_joined n k.joined) h)

  pub has_so : (k : Numbers W) (n : ℕ) → (n ≡ k.number) ⊎ (IsLeft k n ⊎ (is_joined n k.joined ≡ true)) → has_number k n ≡ true
  has_so k n (inl own) = or_left (n == k.number) (is_left k n || is_joined n k.joined) (eq-eqb n k.number own)
  has_so k n (inr (inl left)) = or_right (n == k.number) (is_left k n || is_joined n k.joined) (or_left (is_left k n) (is_joined n k.joined) (left_tests k n left))
  has_so k n (inr (inr joined)) = or_right (n == k.number) (is_left k n || is_joined n k.joined) (or_right (is_left k n) (is_joined n k.joined) joined)

  joined_below : (n top m : ℕ) (joined : List (ℕ × W)) → AreApart n top joined → is_joined m joined ≡ true → m ≤ top
  joined_below n top m [] h e = absurd (true≢false (sym e))
  joined_below n top m (seat ∷ seats) h e = ⊎_elim (λ (f : (seat.0 == m) ≡ true). let same = eqb-true seat.0 m f in let up = h.2 in omega arith) (λ (f : is_joined m seats ≡ true). joined_below n top m seats h.4 f)
      (or_cases (seat.0 == m) (is_joined m seats) e)

  given_is_had : (k : Numbers W) (n : ℕ) → was_given k n ≡ true → has_number k n ≡ true
  given_is_had k n h = has_so k n (⊎_elim (λ (e : (k.number == n) ≡ true). inl (sym (eqb-true k.number n e)))
      (λ (e : is_joined n k.joined ≡ true). inr (inr e))
      (or_cases (k.number == n) (is_joined n k.joined) h))

  whole_by_count : (k : Numbers W) → AreSound k → 1 + k.left + length k.joined ≡ k.seats → IsWhole k
  whole_by_count k sound sum_is n low up =
      let given = given_count k sound in let most = count_le (was_given k) sound.top in let top = sound.within.2 in
      let all : count (was_given k) sound.top ≡ sound.top = dite (ℕ_discrete k.left 0) (λ none_left. omega arith) (λ some_left. let left = sound.left (omega arith) in let next = left.0 in let sum = left.1 in omega arith) in
      ⊎_elim
      (λ (above : sound.top < n). let left = sound.left (omega arith) in let next = left.0 in let sum = left.1 in has_so k n (inr (inl (omega arith, omega arith))))
      (λ (below : n ≤ sound.top). given_is_had k n (all_pass (was_given k) sound.top n all low below))
      (cases_lt sound.top n)

  -- a number that was given isn't left
  all_are_given : (k : Numbers W) (sound : AreSound k) → IsWhole k → (n : ℕ) → 0 < n → n ≤ sound.top → was_given k n ≡ true
  all_are_given k sound whole n low up = ⊎_elim (λ (e : n ≡ k.number). or_left (k.number == n) (is_joined n k.joined) (eq-eqb k.number n (sym e)))
      (λ (e : IsLeft k n ⊎ (is_joined n k.joined ≡ true)). or_right (k.number == n) (is_joined n k.joined) (⊎_elim
      (λ (f : IsLeft k n). let low' = f.0 in let up' = f.1 in let next = (sound.left (omega arith)).0 in absurd (omega arith))
      (λ (f : is_joined n k.joined ≡ true). f)
      e))
      (ways k n (whole n low (let top = sound.within.2 in omega arith)))

  -- where none is left, the greatest number was given
  none_above : (k : Numbers W) (sound : AreSound k) → IsWhole k → k.left ≡ 0 → sound.top ≡ k.seats
  none_above k sound whole none_left = let within = sound.within in let w₀ = within.0 in let w₁ = within.1 in let w₂ = within.2 in ⊎_elim (λ (e : k.seats ≡ k.number). omega arith)
      (λ (e : IsLeft k k.seats ⊎ (is_joined k.seats k.joined ≡ true)). ⊎_elim
      (λ (f : IsLeft k k.seats). let low = f.0 in let up = f.1 in absurd (omega arith))
      (λ (f : is_joined k.seats k.joined ≡ true). let below = joined_below k.number sound.top k.seats k.joined sound.apart f in omega arith)
      e)
      (ways k k.seats (whole k.seats (omega arith) (omega arith)))

  count_of_whole : (k : Numbers W) → AreSound k → IsWhole k → 1 + k.left + length k.joined ≡ k.seats
  count_of_whole k sound whole =
      let given = given_count k sound in
      let all = count_all (was_given k) sound.top (all_are_given k sound whole) in
      dite (ℕ_discrete k.left 0) (λ none_left. let top = none_above k sound whole none_left in omega arith) (λ some_left. let left = sound.left (omega arith) in let next = left.0 in let sum = left.1 in omega arith)

  pub whole_is_counted : (k : Numbers W) → ∥ AreSound k ∥₁ → (1 + k.left + length k.joined ≡ k.seats) ↔ IsWhole k
  whole_is_counted k sound = (
    λ sum n low up. ∥∥₁_elim sound (Bool-set (has_number k n) true) (λ h. whole_by_count k h sum n low up),
    λ whole. ∥∥₁_elim sound (ℕ_set (1 + k.left + length k.joined) k.seats) (λ h. count_of_whole k h whole),
  )
