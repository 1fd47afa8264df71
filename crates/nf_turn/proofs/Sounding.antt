-- The numbers of a seat are distinct, and how many there are tells whether they are all.
use Rattle.std.proofs.Common.{◌≡◌, ℕ, ◌+◌, ◌-◌, ◌<◌, ◌≤◌, Bool, false, ◌||◌, ◌==◌, List, [], ◌∷◌, length, refl, sym, ap, subst, arith}
use Rattle.std.proofs.lemmas.Bool.{ne_eqb, or_from}
use mathlib.Core.Logic.{dite}
use mathlib.Core.Option.{none}
use native.Mathlib.Decide.{ℕ_discrete}
use Rattle.atomic_table.specs.Table.{step, keeps, Allows}
use Rattle.nf_turn.specs.Prelude.{AreApart, AreJoined, AreSound, HasHeard, InOrder, is_joined, IsInTurn, IsKnown, IsOther, Line, Meanings, memory_in, Numbers, numbers_of, Place}
use Rattle.nf_turn.specs.Steps.{Counts}
use Rattle.nf_turn.specs.declared.view.Memory.{Memory}
use Rattle.nf_turn.specs.declared.view.View.TheVariants.{Idle}
use Rattle.nf_turn.proofs.Numbers.{total_zero, count, count_le, count_more}
use Rattle.nf_turn.proofs.Agreed.{has_heard}
use Rattle.nf_turn.proofs.Staying.{reads}

module _ {E O W : Type 0} (book : Meanings E O W) (seats : ℕ) (origin : W) where
  apart : (line : Line W) (id n : ℕ) (joined : List (ℕ × W)) → 0 < line.fresh → AreJoined book line id n joined → AreApart n (line.fresh - 1) joined
  apart line id n [] low h = tt
  apart line id n (seat ∷ others) low h = let j = h.0 in let below = j.2 in (j.0, j.1, omega arith, h.1, apart line id n others low h.2)

  pub is_sound : (line : Line W) (id : ℕ) (k : Memory W) → InOrder book seats origin line → IsKnown book seats origin line id k → AreSound (numbers_of k)
  is_sound line id k order h = let few = order.few in let few₀ = few.0 in let few₁ = few.1 in let few₂ = few.2 in let all = h.all in let given = h.given in record {
    few = omega arith;
    top = line.fresh - 1;
    within = (h.low, omega arith, omega arith);
    apart = apart line id k.number k.joined few₁ h.joined;
    left = λ some_left. let has = h.left some_left in let next = has.1 in let sum = has.2 in (omega arith, omega arith);
  }

  counts : (slots id : ℕ) (k : Memory W) → Allows (IsInTurn book seats origin) slots id (Idle k, []) 0 (λ x. x) (Counts book (step slots 0 0 0 none) (Idle k, []))
  counts slots id k s rule _ at _ =
      let h = (rule.views id (Idle k) at).0 in
      let known : AreSound (numbers_of k) × HasHeard book k = (is_sound rule.line id k rule.order h, has_heard book seats origin rule.line id k rule.fresh rule.order h) in (
        Idle k,
        keeps,
        tt,
        reads book seats origin s rule 0 id (Idle k) at,
        (refl, λ k' is. subst (λ (z : Memory W). AreSound (numbers_of z) × HasHeard book z) (ap (λ (m : Place W). memory_in origin m) is) known),
      )

  -- an idle seat may be counted
  pub may_count : (slots id : ℕ) (me : Place W) (k : Memory W) → me ≡ (Idle k, []) → Allows (IsInTurn book seats origin) slots id me 0 (λ x. x) (Counts book (step slots 0 0 0 none) me)
  may_count slots id me k is = subst (λ (m : Place W). Allows (IsInTurn book seats origin) slots id m 0 (λ x. x) (Counts book (step slots 0 0 0 none) m)) (sym is) (counts slots id k)

module _ {W : Type 0} where
  not_joined : (m : ℕ) (joined : List (ℕ × W)) → IsOther m joined → is_joined m joined ≡ false
  not_joined m [] h = refl
  not_joined m (seat ∷ seats) h = or_from (seat.0 == m) (is_joined m seats) (ne_eqb seat.0 m (λ e. h.0 (sym e))) (not_joined m seats h.1)

  own_not_joined : (n top : ℕ) (joined : List (ℕ × W)) → AreApart n top joined → is_joined n joined ≡ false
  own_not_joined n top [] h = refl
  own_not_joined n top (seat ∷ seats) h = or_from (seat.0 == n) (is_joined n seats) (ne_eqb seat.0 n h.0) (own_not_joined n top seats h.4)

  joined_count : (n top : ℕ) (joined : List (ℕ × W)) → AreApart n top joined → count (λ m. is_joined m joined) top ≡ length joined
  joined_count n top [] h = total_zero top
  joined_count n top (seat ∷ seats) h =
      let one = count_more (λ m. is_joined m seats) seat.0 top (not_joined seat.0 seats h.3) h.1 h.2 in let more = joined_count n top seats h.4 in omega arith

  -- n is the seat's own number, or was joined into it
  abbrev pub was_given : Numbers W → ℕ → Bool
  was_given k n = (k.number == n) || is_joined n k.joined

  pub given_count : (k : Numbers W) (sound : AreSound k) → count (was_given k) sound.top ≡ length k.joined + 1
  given_count k sound =
      let within = sound.within in
      let one = count_more (λ m. is_joined m k.joined) k.number sound.top (own_not_joined k.number sound.top k.joined sound.apart) within.0 within.1 in
      let joined = joined_count k.number sound.top k.joined sound.apart in
      omega arith

  pub few_numbers : (k : Numbers W) → AreSound k → 1 + k.left + length k.joined ≤ k.seats
  few_numbers k sound =
      let given = given_count k sound in let most = count_le (was_given k) sound.top in let top = sound.within.2 in
      dite (ℕ_discrete k.left 0) (λ none_left. omega arith) (λ some_left. let left = sound.left (omega arith) in let next = left.0 in let sum = left.1 in omega arith)
