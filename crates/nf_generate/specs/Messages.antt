-- The list of messages of a seed.
use Rattle.std.specs.Prelude.{ℕ, ◌+◌, ◌*◌, zero, suc, List, [], ◌∷◌}
use Rattle.nf_generate.specs.Drawing.{drawing, state_behind}
use Rattle.nf_generate.specs.Writing.{message_bytes}
use Rattle.nf_generate.specs.declared.messages.Messages.{Messages}

-- the moment of a message: they come a minute after each other
abbrev pub moment_of : ℕ → ℕ
moment_of index = 1800000000 + 60 * index

-- so many, each with its moment, from a number and the state that it is drawn from on
abbrev pub messages_from : ℕ → ℕ → ℕ → List (List ℕ × ℕ)
messages_from index state zero = []
messages_from index state (suc n) = (message_bytes index (drawing state), moment_of index) ∷ messages_from (index + 1) (state_behind state) n

-- those of a seed
abbrev pub messages_of : ℕ → ℕ → List (List ℕ × ℕ)
messages_of seed count = messages_from 0 seed count

-- those that are left behind the next one
abbrev pub passed : Messages → Messages
passed m = record { index = m.index + 1; state = state_behind m.state }
