-- What a seat holds once it has begun something.
use Rattle.std.proofs.Common.{◌≡◌, ℕ, ◌∙◌, Ok, Err}
use Rattle.std.specs.Prelude.{None, Some, Option}
use Rattle.nf_session.proofs.Helds.{begins_begun}
use Rattle.nf_session.specs.Book.{Book, Begins, held}
use Rattle.nf_words.specs.declared.answer.Goal.{Goal}
use Rattle.nf_words.specs.declared.request.Request.{Request}
use Rattle.nf_words.specs.declared.request.Words.{Words}
use Rattle.nf_hub.specs.Calls.{IsBegan, answer_of}
use Rattle.nf_hub.specs.declared.seat.Began.{Began}
use Rattle.nf_hub.specs.declared.seat.Began.TheVariants as how

-- what a seat holds after its Begin, by what that returned
abbrev pub goal_of : Began → Option Goal
goal_of (how.Done reply) = None
goal_of (how.Granted ticket) = Some ticket.goal
goal_of (how.Refused refusal) = None

pub began_holds : (a b : Book) (now : ℕ) (words : Words) (request : Request) (result : Began) → held a ≡ None
    → Begins a b now words request (answer_of result) → IsBegan result → held b ≡ goal_of result
began_holds a b now words request (how.Done reply) idle begins done = (begins_begun a b now words request (Ok reply) idle begins).held_is ∙ done
began_holds a b now words request (how.Granted ticket) idle begins done = (begins_begun a b now words request _ idle begins).held_is
began_holds a b now words request (how.Refused refusal) idle begins done = (begins_begun a b now words request (Err refusal) idle begins).held_is
