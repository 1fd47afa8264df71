-- What a seat holds after a step.
use Rattle.std.proofs.Common.{◌≡◌, ℕ, List, [], ◌∷◌, ◌++◌, refl, sym, ◌∙◌, ap, subst, Ok, Err}
use Rattle.std.specs.Prelude.{Bool, true, false, Option, None, MatchBool}
use Rattle.nf_words.specs.declared.answer.Goal.{Goal}
use Rattle.nf_words.specs.declared.answer.Reply.TheVariants as reply
use Rattle.nf_words.specs.declared.history.Entry.{Entry}
use Rattle.nf_words.specs.declared.history.Event.{Event}
use Rattle.nf_words.specs.declared.history.Event.TheVariants.{Begin}
use Rattle.nf_words.specs.declared.request.Request.{Request}
use Rattle.nf_words.specs.declared.request.Words.{Words}
use Rattle.nf_session.specs.Prelude.{Answer, Begins, Book, Ends, EndsBody, Enters, granted, held, held_after, is_unmade, is_unmade_by, IsResponse, Waits}
use Rattle.nf_session.specs.Book.{Passes}
use Rattle.nf_session.specs.Steps.{IsBegun, IsClosing}
use Rattle.nf_session.specs.Files.{IsResponding}
use Rattle.nf_session.specs.declared.backend.Ending.{Ending}
use Rattle.nf_session.specs.declared.backend.Ending.TheVariants as ending
use Rattle.nf_session.specs.declared.begun.Begun.TheVariants as begun
use Rattle.nf_session.specs.declared.response.Response.{Response}

held_push : (before : Option Goal) (own : List (Entry × Answer)) (e : Entry × Answer) → held_after before (own ++ e ∷ []) ≡ granted e.1
held_push before [] e = refl
held_push before (x ∷ own) e = held_push (granted x.1) own e

-- others' entries change nothing
pub waits_holds : (a b : Book) → Waits a b → held b ≡ held a
waits_holds a b waits = ap (held_after None) waits.own

pub enters_holds : (a b : Book) (now : ℕ) (event : Event) (answer : Answer) → Enters a b now event answer → held b ≡ granted answer
enters_holds a b now event answer enters =
    ap (held_after None) enters.own ∙ held_push None a.own (enters.entry, answer)

begins_holds : (a b : Book) (now : ℕ) (event : Event) (answer : Answer) → held a ≡ None
    → MatchBool (is_unmade answer) (Passes a b) (Enters a b now event answer) → held b ≡ granted answer
begins_holds a b now event (Ok answered) idle enters = enters_holds a b now event (Ok answered) enters
begins_holds a b now event (Err refusal) idle enters = here (is_unmade_by refusal) enters
  where
    here : (unmade : Bool) → MatchBool unmade (Passes a b) (Enters a b now event (Err refusal)) → held b ≡ None
    here true passes = waits_holds a b passes.waits ∙ idle
    here false made = enters_holds a b now event (Err refusal) made

pub begins_begun : (a b : Book) (now : ℕ) (words : Words) (r : Request) (answer : Answer) → held a ≡ None
    → Begins a b now words r answer → IsBegun b (begun.Asked answer)
begins_begun a b now words r answer idle begins = record {
  held_is = begins_holds a b now (Begin words r) answer idle begins.entry;
  answered = begins.answered;
}

pub ends_idle : (a b : Book) (now : ℕ) (how : Ending) (answer : Answer) → IsClosing how → Ends a b now how answer → held b ≡ None
ends_idle a b now (ending.Body bytes) answer closing ends = absurd closing
ends_idle a b now other answer closing ends = enters_holds a b now _ answer ends.enters ∙ ap granted ends.answered

pub stored_responding : (a b : Book) (now : ℕ) (body : List ℕ) (answer : Answer) (v : Response) → EndsBody a b now body answer
    → IsResponse answer v → IsResponding b v
stored_responding a b now body (Ok reply.Closed) v ends is = absurd is
stored_responding a b now body (Ok (reply.Listing lines)) v ends is = absurd ends.answered
stored_responding a b now body (Ok (reply.Share line)) v ends is = absurd ends.answered
stored_responding a b now body (Ok (reply.Shares lines)) v ends is = absurd ends.answered
stored_responding a b now body (Ok (reply.Items lines)) v ends is = absurd ends.answered
stored_responding a b now body (Ok (reply.Versions lines)) v ends is = absurd ends.answered
stored_responding a b now body (Ok reply.Plain) v ends is = absurd ends.answered
stored_responding a b now body (Ok (reply.Granted goal)) v ends is = absurd is
stored_responding a b now body answer v ends is = subst (λ (z : Response). IsResponding b z) (sym is) (enters_holds a b now _ answer ends.enters)
