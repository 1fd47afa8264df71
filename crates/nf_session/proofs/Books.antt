-- Books that are one legal history: what is held is the ticket's goal.
use Rattle.std.proofs.Common.{◌≡◌, ℕ, ◌+◌, List, [], ◌∷◌, ◌++◌, refl, sym, ◌∙◌, ap, subst, Ok}
use Rattle.std.proofs.lemmas.Bool.{eqb-true, eqb-false}
use Rattle.std.specs.Prelude.{Bool, true, false, ◌==◌, if◌then◌else◌, Option, None, Some, IsNone, find, option_map}
use Rattle.nf_words.specs.Prelude.{after, after_mark, answer_at, answer_to, failed, goal_at, IsLegalFrom, MayAsk, opened, replay, State, step, ticket_of}
use Rattle.nf_words.specs.declared.answer.Goal.{Goal}
use Rattle.nf_words.specs.declared.answer.Reply.TheVariants as reply
use Rattle.nf_words.specs.declared.history.Entry.{Entry}
use Rattle.nf_words.specs.declared.history.Event.{Event}
use Rattle.nf_words.specs.declared.history.Event.TheVariants.{Begin, End, Sweep}
use Rattle.nf_words.specs.declared.history.Mark.{Mark}
use Rattle.nf_words.specs.declared.history.Mark.TheVariants as mark
use Rattle.nf_words.specs.declared.history.Ticket.{Ticket}
use Rattle.nf_words.specs.declared.request.Request.{Request}
use Rattle.nf_words.specs.declared.request.Words.{Words}
use Rattle.nf_words.proofs.Opens.{IsPlain, ends_grant_nothing, plain_keeps}
use Rattle.nf_words.proofs.Steps.{end_frees, freed, granted_step, other_after}
use Rattle.nf_session.specs.Book.{Answer, granted, held_after, own_from}
use Rattle.nf_session.specs.Laws.{HeldIsTicket, OwnGrows, own_at}

-- ---- the seat's own entries

pub own_grows : OwnGrows
own_grows seat s [] e = refl
own_grows seat s (x ∷ es) e = here (x.seat == seat) (own_grows seat (after s x) es e)
  where
    here : (own : Bool) → own_from seat (after s x) (es ++ e ∷ []) ≡ own_from seat (after s x) es ++ own_at seat (replay (after s x) es) e
        → (if own then (x, answer_at s x x.mark) ∷ own_from seat (after s x) (es ++ e ∷ []) else own_from seat (after s x) (es ++ e ∷ []))
        ≡ (if own then (x, answer_at s x x.mark) ∷ own_from seat (after s x) es else own_from seat (after s x) es)
        ++ own_at seat (replay (after s x) es) e
    here true rest = ap (λ (z : List (Entry × Answer)). (x, answer_at s x x.mark) ∷ z) rest
    here false rest = rest

-- ---- what is held

none_of : (ticket : Option Ticket) → IsNone ticket → ticket ≡ None
none_of None none = refl
none_of (Some ticket) none = absurd (cc)

-- where there is no ticket nothing is
none_held : (s : State) (seat : ℕ) → IsNone (ticket_of s seat) → None ≡ goal_at s seat
none_held s seat none = sym (ap (option_map (λ (t : Ticket). t.goal)) (none_of (ticket_of s seat) none))

plain_none : (answer : Answer) → IsPlain answer → granted answer ≡ None
plain_none (Ok (reply.Granted goal)) plain = absurd (plain goal refl)
plain_none other plain = refl

begin_holds : (s : State) (seat now : ℕ) (words : Words) (request : Request) → IsNone (ticket_of s seat) → (answer : Answer)
    → answer_to s seat now (Begin words request) ≡ answer → granted answer ≡ goal_at (step s seat now (Begin words request)) seat
begin_holds s seat now words request none answer is = here answer is
  where
    keeps : IsPlain (answer_to s seat now (Begin words request)) → None ≡ goal_at (step s seat now (Begin words request)) seat
    keeps plain =
        sym (ap (λ (z : List Ticket). option_map (λ (t : Ticket). t.goal) (find (λ ticket. ticket.seat == seat) z))
        (plain_keeps s seat now words request plain) ∙ ap (option_map (λ (t : Ticket). t.goal)) (none_of (ticket_of s seat) none))

    here : (answer : Answer) → answer_to s seat now (Begin words request) ≡ answer
        → granted answer ≡ goal_at (step s seat now (Begin words request)) seat
    here (Ok (reply.Granted goal)) is = sym (granted_step s seat now (Begin words request) goal none is)
    here other is = keeps (λ goal granted. cc)

step_holds : (s : State) (seat now : ℕ) (event : Event) → MayAsk s seat event
    → granted (answer_to s seat now event) ≡ goal_at (step s seat now event) seat
step_holds s seat now (Begin words request) asked = begin_holds s seat now words request asked.0 _ refl
step_holds s seat now (End outcome) asked =
    plain_none (answer_to s seat now (End outcome)) (ends_grant_nothing s seat now outcome)
    ∙ sym (ap (option_map (λ (t : Ticket). t.goal)) (end_frees s seat now outcome))
step_holds s seat now Sweep asked = none_held s seat asked

failed_holds : (s : State) (seat now : ℕ) (event : Event) → MayAsk s seat event → None ≡ goal_at (failed s seat now event) seat
failed_holds s seat now (Begin words request) asked = none_held s seat asked.0
failed_holds s seat now (End outcome) asked = sym (ap (option_map (λ (t : Ticket). t.goal)) (freed s seat))
failed_holds s seat now Sweep asked = none_held s seat asked

mark_holds : (s : State) (e : Entry) (m : Mark) → MayAsk s e.seat e.event → granted (answer_at s e m) ≡ goal_at (after_mark s e m) e.seat
mark_holds s e mark.Answered asked = step_holds s e.seat e.moment e.event asked
mark_holds s e mark.Store asked = failed_holds s e.seat e.moment e.event asked
mark_holds s e mark.Memory asked = failed_holds s e.seat e.moment e.event asked

held_from : (seat n : ℕ) (s : State) (es : List Entry) (before : Option Goal) → before ≡ goal_at s seat → IsLegalFrom n s es
    → held_after before (own_from seat s es) ≡ goal_at (replay s es) seat
held_from seat n s [] before is legal = is
held_from seat n s (e ∷ es) before is legal =
    here (e.seat == seat) refl (λ before is. held_from seat (n + 1) (after s e) es before is legal.1)
  where
    here : (own : Bool) → (e.seat == seat) ≡ own → ((before : Option Goal) → before ≡ goal_at (after s e) seat
        → held_after before (own_from seat (after s e) es) ≡ goal_at (replay (after s e) es) seat)
        → held_after before (if own then (e, answer_at s e e.mark) ∷ own_from seat (after s e) es else own_from seat (after s e) es)
        ≡ goal_at (replay (after s e) es) seat
    here true same rest =
        rest (granted (answer_at s e e.mark))
        (subst (λ z. granted (answer_at s e e.mark) ≡ goal_at (after s e) z) (eqb-true e.seat seat same) (mark_holds s e e.mark legal.0.asked))
    here false differ rest =
        rest before
        (is ∙ sym (ap (option_map (λ (t : Ticket). t.goal)) (other_after s e seat (λ same. eqb-false e.seat seat differ (sym same)))))

pub held_is_ticket : HeldIsTicket
held_is_ticket b book =
    ap (held_after None) book.own ∙ held_from b.seat 0 (opened b.opening) b.known None refl book.legal
