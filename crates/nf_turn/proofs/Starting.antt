-- Making the lock.
use Rattle.std.proofs.Common.{rules, ◌≡◌, ◌≢◌, ℕ, zero, suc, ◌%◌, ◌^◌, ◌<◌, ◌≤◌, List, [], ◌∷◌, Some, refl, sym, arith}
use mathlib.Core.Option.{some, some-ne-none}
use lib.ListN.{get_elem?}
use Rattle.atomic_table.specs.Table.{opening}
use Rattle.nf_turn.specs.Prelude.{IsFresh, IsInTurn, Knows, Line, Meanings, of_the_first}
use Rattle.nf_turn.specs.declared.view.View.{View}
use Rattle.nf_turn.specs.declared.view.View.TheVariants.{Idle}
use Rattle.nf_turn.proofs.Numbers.{total_zero}
use Rattle.nf_turn.proofs.Growing.{Grows-refl, GrowsWithout-refl}
use Rattle.nf_turn.proofs.Preceding.{Precedes-refl}
use Rattle.nf_turn.proofs.Staying.{views_stay}

none_beyond : {V : Type 0} (view : V) (j : ℕ) (v : V) → j ≢ 0 → get_elem? (view ∷ []) j ≡ some v → ⊥
none_beyond view zero v other e = other refl
none_beyond view (suc j) v other e = some-ne-none v (sym e)

module _ {E O W : Type 0} (book : Meanings E O W) (seats : ℕ) (origin : W) where
  abbrev opening_line : ℕ → Line W
  opening_line turn = record { drawn = turn; passed_on = turn; waits = λ _. 0; turn = λ _. 0; place = λ _. 0; fresh = 2; giver = 0; holder = 0; value = origin }

  first_knows : (turn : ℕ) → 0 < seats → Knows book seats origin (opening_line turn) 0 (Idle (of_the_first seats origin))
  first_knows turn low =
      let grows = Grows-refl book origin in let own = GrowsWithout-refl book 1 origin in let last = Precedes-refl book origin in
      search (rules, grows, own, last)

  pub starts : (turn : ℕ) (bells : List ℕ) → turn < 2 ^ 64 → IsFresh book origin → (0 < seats) × (seats ≤ 64) → IsInTurn book seats origin (opening (turn ∷ turn ∷ bells) (Some origin ∷ []) (Idle (of_the_first seats origin)))
  starts turn bells fits fresh few = let same : turn ≡ turn % 2 ^ 64 = omega arith in let low = few.0 in let up = few.1 in let first : View W = Idle (of_the_first seats origin) in record {
    fresh = fresh;
    line = opening_line turn;
    bells = bells;
    words = (λ i. same i ∷ same i ∷ bells);
    home = refl;
    order = (let none = total_zero seats in let unused = λ (n : ℕ). GrowsWithout-refl book n origin in search (rules, none, unused));
    views = views_stay (Knows book seats origin (opening_line turn)) (first ∷ []) 0 first (first_knows turn low) (λ j v other at. absurd (none_beyond first j v other at));
  }
