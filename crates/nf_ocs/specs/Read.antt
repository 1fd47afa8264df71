-- What reading a part of a request gives.
use Rattle.std.specs.Prelude.{◌≡◌, ⊤, Result, Ok, Err}
use Rattle.nf_words.specs.declared.answer.Denial.{Denial}
use Rattle.nf_ocs.specs.declared.Unread.{Unread}
use Rattle.nf_ocs.specs.declared.Unread.TheVariants.{Refused, Memory}

-- it is what it has to be, or is refused so; want of memory is free
abbrev pub Gives : {A : Type 0} → Result A Denial → Result A Unread → Type 0
Gives due (Ok part) = due ≡ Ok part
Gives due (Err (Refused refusal)) = due ≡ Err refusal
Gives due (Err Memory) = ⊤

-- what comes next, unless this is refused
abbrev pub and_then : {A B : Type 0} → Result A Denial → (A → Result B Denial) → Result B Denial
and_then (Ok part) next = next part
and_then (Err refusal) next = Err refusal
