-- A sound state stays sound.
use Rattle.std.specs.Prelude.{ℕ, List}
use Rattle.nf_words.specs.Prelude.{IsLegalFrom, IsSound, replay, State}
use Rattle.nf_words.specs.declared.history.Entry.{Entry}

-- over every history that is legal from it, after whatever others
abbrev pub StaysSound : Type 0
StaysSound = (n : ℕ) (s : State) (es : List Entry) → IsSound s → IsLegalFrom n s es → IsSound (replay s es)
