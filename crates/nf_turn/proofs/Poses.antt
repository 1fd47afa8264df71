-- Views with different values at hand for a spent seat.
use Rattle.std.proofs.Common.{◌≡◌, ℕ, List, [], ◌∷◌, length, Option, Some, sym, refl, ap, ◌∙◌}
use Rattle.atomic_table.specs.Table.{rest}
use Rattle.nf_turn.specs.Prelude.{memory_in, Numbers, numbers_in, numbers_of, Place}
use Rattle.nf_turn.specs.declared.seat.Seat.{Seat}
use Rattle.nf_turn.specs.declared.view.Memory.{Memory}
use Rattle.nf_turn.specs.declared.view.View.TheVariants.{Spent, Idle, Waiting, Holding}

abbrev first_out : {W : Type 0} → Option W → List (ℕ × Option W) → Option W
first_out found [] = found
first_out found (slot ∷ slots) = slot.1

-- the numbers of what the holder knows are the seat's, whatever value is at hand
pub numbers_known : {W : Type 0} (value : W) (place : Place W) → numbers_of (memory_in value place) ≡ numbers_in place
numbers_known value (Spent, slots) = refl
numbers_known value (Idle k, slots) = refl
numbers_known value (Waiting turn k, slots) = refl
numbers_known {W} value (Holding taken k, slots) = refl

module _ {W : Type 0} where
  -- what an exchange finds in the hand of the seat that took the value
  pub found_out : (value : W) (k : Memory W) (place : Place W) (found : Option W) → place ≡ (Holding value k, (0, Some value) ∷ []) → place.1 ≡ (0, found) ∷ rest place.1 → found ≡ Some value
  found_out value k place found is hand = ap (first_out found) (sym hand ∙ ap (λ (m : Place W). m.1) is)

  -- the numbers that stand in the seat are those of what its holder knows
  pub record Shows (seat : Seat W) (k : Memory W) : Type 0 where
    pub seats : seat.seats ≡ k.seats
    pub number : seat.number ≡ k.number
    pub next : seat.next ≡ k.next
    pub left : seat.left ≡ k.left
    pub joined : seat.joined ≡ length k.joined

  pub shows : (value : W) (seat : Seat W) → Shows seat (memory_in value seat.place.me)
  shows value seat = let k = numbers_known value seat.place.me in record {
    seats = seat.seats_is ∙ sym (ap (λ (m : Numbers W). m.seats) k);
    number = seat.number_is ∙ sym (ap (λ (m : Numbers W). m.number) k);
    next = seat.next_is ∙ sym (ap (λ (m : Numbers W). m.next) k);
    left = seat.left_is ∙ sym (ap (λ (m : Numbers W). m.left) k);
    joined = seat.joined_is ∙ sym (ap (λ (m : Numbers W). length m.joined) k);
  }
