-- What a site keeps: the rows that it was opened with, its state, and the entries that led there.
use Rattle.std.specs.Prelude.{◌≡◌, ℕ, max, List, [], ◌∷◌, ◌++◌}
use Rattle.nf_base.specs.declared.rows.Row.{Row}
use Rattle.nf_words.specs.Prelude.{after, IsLegal, opened, replay, State}
use Rattle.nf_words.specs.declared.history.Entry.{Entry}
use Rattle.nf_words.specs.declared.history.Event.{Event}
use Rattle.nf_words.specs.declared.history.Mark.{Mark}
use Rattle.nf_words.specs.declared.history.Mark.TheVariants.{Answered}

pub record Kept : Type 0 where
  pub opening : List Row
  pub state : State
  pub history : List Entry

-- a site that is opened over rows
abbrev pub opened_over : List Row → Kept
opened_over rows = record { opening = rows; state = opened rows; history = [] }

-- the history is legal, and the state is its replay
pub record IsHistory (k : Kept) : Type 0 where
  pub legal : IsLegal (opened k.opening) k.history
  pub replayed : k.state ≡ replay (opened k.opening) k.history

-- the moment of a step: the larger of the clock's reading and the greatest moment seen
abbrev pub moment_of : State → ℕ → ℕ
moment_of s now = max s.seen now

abbrev pub entry : ℕ → ℕ → Event → Mark → Entry
entry seat moment event mark = record { seat = seat; moment = moment; event = event; mark = mark }

abbrev pub answered : ℕ → ℕ → Event → Entry
answered seat moment event = entry seat moment event Answered

-- the same site after an entry
abbrev pub entered : Kept → Entry → Kept
entered k e = record k { state = after k.state e; history = k.history ++ e ∷ [] }

-- the same site after a step that was answered
abbrev pub stepped : Kept → ℕ → ℕ → Event → Kept
stepped k seat moment event = entered k (answered seat moment event)
