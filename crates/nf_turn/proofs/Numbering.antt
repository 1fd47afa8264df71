-- The numbers of a seat stay distinct through the calls.
use Rattle.std.proofs.Common.{ℕ, ◌+◌, ◌-◌, ◌^◌, ◌<◌, true, ltb, List, [], ◌∷◌, arith}
use mathlib.Core.Bool.{Bool-set}
use Rattle.std.proofs.Math.Logic.{∥∥₁_elim}
use Rattle.std.proofs.lemmas.Bool.{ltb-true, lt-ltb}
use Rattle.nf_turn.specs.Numbers.{Numbers, AreApart, AreSound}

module _ {W : Type 0} where
  apart_below_more : (n top : ℕ) (joined : List (ℕ × W)) → AreApart n top joined → AreApart n (top + 1) joined
  apart_below_more n top [] h = tt
  apart_below_more n top (seat ∷ seats) h = let up = h.2 in (h.0, h.1, omega arith, h.3, apart_below_more n top seats h.4)

  -- the numbers of a seat from which another was split off, and of that one
  abbrev pub after_split : Numbers W → Numbers W
  after_split k = record k { next = k.next + 1; left = k.left - 1 }

  abbrev pub split_off : Numbers W → Numbers W
  split_off k = record { seats = k.seats; number = k.next; next = 0; left = 0; joined = [] }

  pub kept_is_sound : (k : Numbers W) → 0 < k.left → AreSound k → AreSound (after_split k)
  kept_is_sound k some_left h = let left = h.left some_left in let next = left.0 in let sum = left.1 in let within = h.within in let w₁ = within.1 in record {
    few = h.few;
    top = h.top + 1;
    within = (within.0, omega arith, omega arith);
    apart = apart_below_more k.number h.top k.joined h.apart;
    left = λ _. (omega arith, omega arith);
  }

  pub split_is_sound : (k : Numbers W) → 0 < k.left → AreSound k → AreSound (split_off k)
  split_is_sound k some_left h = let left = h.left some_left in let next = left.0 in let sum = left.1 in record {
    few = h.few;
    top = k.seats;
    within = (omega arith, omega arith, omega arith);
    apart = tt;
    left = λ none. absurd (omega arith);
  }

  -- a number that is left is small
  pub next_is_small : (k : Numbers W) → ∥ AreSound k ∥₁ → 0 < k.left → k.next < 2 ^ 63
  next_is_small k sound some_left = ltb-true k.next (2 ^ 63) (∥∥₁_elim sound (Bool-set (ltb k.next (2 ^ 63)) true)
      (λ h. let left = h.left some_left in let next = left.0 in let sum = left.1 in let few = h.few in lt-ltb k.next (2 ^ 63) (omega arith)))
