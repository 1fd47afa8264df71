-- A step's change told as a list, and the tables after it.
use Rattle.std.specs.Prelude.{◌≡◌, ◌≢◌, ◌↔◌, ℕ, All, []}
use Rattle.nf_base.specs.declared.changes.Change.{Change}
use Rattle.nf_defs.specs.Changes.{IsDroppable, made, put_all}
use Rattle.nf_words.specs.Prelude.{changes_to, IsSound, MayAsk, State, step}
use Rattle.nf_words.specs.declared.history.Event.{Event}

-- in sound states, where the event may come, at whatever moment
pub record ChangesTell : Type 0 where
  -- the tables after a step are those before it with its changes put into them
  pub put : (s : State) (seat now : ℕ) (event : Event) → IsSound s → MayAsk s seat event
      → put_all s.tables (changes_to s seat now event) ≡ (step s seat now event).tables
  -- each change is one: alone it makes other tables
  pub differ : (s : State) (seat now : ℕ) (event : Event) → IsSound s → MayAsk s seat event
      → All (λ (change : Change). made s.tables change ≢ s.tables) (changes_to s seat now event)
  -- a step tells nothing exactly where it changes nothing
  pub none : (s : State) (seat now : ℕ) (event : Event) → IsSound s → MayAsk s seat event
      → (changes_to s seat now event ≡ []) ↔ ((step s seat now event).tables ≡ s.tables)
  -- none of its changes drops the meta row, whether or not the state is sound
  pub droppable : (s : State) (seat now : ℕ) (event : Event) → All IsDroppable (changes_to s seat now event)
