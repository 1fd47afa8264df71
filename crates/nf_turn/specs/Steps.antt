-- What each step tells.
use Rattle.std.specs.Prelude.{◌≡◌, ◌≢◌, ℕ, [], ◌∷◌, Option, Some}
use Rattle.atomic_table.specs.Table.{Me, Step}
use Rattle.nf_turn.specs.declared.view.Memory.{Memory}
use Rattle.nf_turn.specs.declared.view.View.{View}
use Rattle.nf_turn.specs.declared.view.View.TheVariants.{Spent, Idle, Waiting, Holding}
use Rattle.nf_turn.specs.Book.{Meanings}
use Rattle.nf_turn.specs.Memory.{having_passed, having_split, split_from, having_joined}
use Rattle.nf_turn.specs.Agreeing.{Agrees, HasHeard}
use Rattle.nf_turn.specs.Numbers.{numbers_of, AreSound}

abbrev pub Place : Type 0 → Type 0
Place W = Me (Option W) (View W)

module _ {W : Type 0} where
  abbrev pub Draws : Step (Option W) → Place W → ℕ → Place W → Type 0
  Draws step old found new = (k : Memory W) → old ≡ (Idle k, []) → new ≡ (Waiting found k, [])

  abbrev pub PassesOn : Step (Option W) → Place W → ℕ → Place W → Type 0
  PassesOn step old found new = (k : Memory W) (taken value : W) → old ≡ (Holding taken k, (0, Some value) ∷ []) → new ≡ (Idle (having_passed value k), [])

  abbrev pub SetsBell : Step (Option W) → Place W → ℕ → Place W → Type 0
  SetsBell step old found new = new ≡ old

  abbrev pub after_split : View W → View W
  after_split (Idle k) = Idle (having_split k)
  after_split view = view

  abbrev pub split_off : View W → View W
  split_off (Idle k) = Idle (split_from k)
  split_off view = Spent

  abbrev pub after_join : (W → W → W) → View W → View W → View W
  after_join longer (Idle k) (Idle other) = Idle (having_joined longer k other)
  after_join longer view _ = view

module _ {E O W : Type 0} (book : Meanings E O W) where
  -- where the number is the seat's own, it has the turn and the value
  abbrev pub Looks : Step (Option W) → Place W → ℕ → Place W → Type 0
  Looks step old found new = (turn : ℕ) (k : Memory W) → old ≡ (Waiting turn k, [])
      → (found ≡ turn → (value : W) × (new ≡ (Holding value k, (0, Some value) ∷ [])) × Agrees book k value) × (found ≢ turn → new ≡ old)

  -- what the rule says of an idle seat
  abbrev pub Counts : Step (Option W) → Place W → ℕ → Place W → Type 0
  Counts step old found new = (new ≡ old) × ((k : Memory W) → old ≡ (Idle k, []) → AreSound (numbers_of k) × HasHeard book k)
