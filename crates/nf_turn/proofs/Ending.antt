-- Ending the lock with a seat that is whole.
use Rattle.std.proofs.Common.{◌≡◌, ◌⊎◌, ⊎_elim, ℕ, ◌==◌, true, true≢false, List, [], ◌∷◌, Option, Some, sym, ap, ◌∙◌, subst, arith}
use mathlib.Core.Logic.{dite}
use mathlib.Core.Option.{some}
use native.Mathlib.Decide.{ℕ_discrete}
use lib.ListN.{get_elem?}
use Rattle.std.proofs.lemmas.Bool.{eqb-true, or_cases}
use Rattle.atomic_table.specs.Table.{State}
use Rattle.nf_turn.specs.Prelude.{Agrees, AreJoined, is_joined, IsInTurn, IsWhole, Line, Meanings, memory_in, Numbers, numbers_in, numbers_of, Place}
use Rattle.nf_turn.specs.Views.{Rests}
use Rattle.nf_turn.specs.declared.view.Memory.{Memory}
use Rattle.nf_turn.specs.declared.view.View.{View}
use Rattle.nf_turn.specs.declared.view.View.TheVariants.{Idle}
use Rattle.nf_turn.proofs.Agreed.{agrees}
use Rattle.nf_turn.proofs.Left.{IsLeft}
use Rattle.nf_turn.proofs.Looking.{value_at_home}
use Rattle.nf_turn.proofs.Poses.{numbers_known}
use Rattle.nf_turn.proofs.Whole.{ways}

module _ {E O W : Type 0} (book : Meanings E O W) where
  joined_dont_wait : (line : Line W) (id n m : ℕ) (joined : List (ℕ × W)) → AreJoined book line id n joined → is_joined m joined ≡ true → line.waits m ≡ 0
  joined_dont_wait line id n m [] h e = absurd (true≢false (sym e))
  joined_dont_wait line id n m (seat ∷ seats) h e = ⊎_elim
      (λ (f : (seat.0 == m) ≡ true). ap line.waits (sym (eqb-true seat.0 m f)) ∙ h.0.3)
      (λ (f : is_joined m seats ≡ true). joined_dont_wait line id n m seats h.2 f)
      (or_cases (seat.0 == m) (is_joined m seats) e)

  module _ (seats : ℕ) (origin : W) where
    -- who has the turn waits, and no number of a whole seat that is idle does
    none_holds : (s : State (Option W) (View W)) (rule : IsInTurn book seats origin s) (id : ℕ) (k : Memory W) → get_elem? s.views id ≡ some (Idle k) → IsWhole (numbers_of k) → rule.line.holder ≡ 0
    none_holds s rule id k at whole =
        let line = rule.line in let mine = rule.views id (Idle k) at in let h = mine.0 in
        dite (ℕ_discrete line.holder 0) (λ e. e) (λ some_holder.
        let waits = (rule.order.served (omega arith)).0 in let within = rule.order.within line.holder waits in let low = within.0 in let given = within.1 in let few = rule.order.few.2 in let all = h.all in
        absurd (⊎_elim
        (λ (e : line.holder ≡ k.number). let none : line.waits line.holder ≡ 0 = ap line.waits e ∙ mine.1 in let no : ⊥ = omega arith in no)
        (λ (e : IsLeft (numbers_of k) line.holder ⊎ (is_joined line.holder k.joined ≡ true)). ⊎_elim
        (λ (f : IsLeft (numbers_of k) line.holder). let low' = f.0 in let up = f.1 in let next = (h.left (omega arith)).1 in let no : ⊥ = omega arith in no)
        (λ (f : is_joined line.holder k.joined ≡ true). let none = joined_dont_wait line id k.number line.holder k.joined h.joined f in let no : ⊥ = omega arith in no)
        e)
        (ways (numbers_of k) line.holder (whole line.holder low (omega arith)))))

    pub ends : (s : State (Option W) (View W)) (rule : IsInTurn book seats origin s) (id : ℕ) (place : Place W) → Rests origin place → get_elem? s.views id ≡ some place.0 → IsWhole (numbers_in place)
        → (value : W) × (get_elem? s.homes 0 ≡ some (some (Some value))) × Agrees book (memory_in origin place) value
    ends s rule id place idle at whole =
        let k = memory_in origin place in
        let at' : get_elem? s.views id ≡ some (Idle k) = at ∙ ap (λ (m : Place W). some m.0) idle in
        let whole' : IsWhole (numbers_of k) = subst (λ (m : Numbers W). IsWhole m) (sym (numbers_known origin place)) whole in
        (rule.line.value, value_at_home book seats origin s rule (none_holds s rule id k at' whole'), agrees book seats origin rule.line id k rule.fresh rule.order (rule.views id (Idle k) at').0)
