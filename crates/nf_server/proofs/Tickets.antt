-- Each ticket takes an entry of its own to end: of those that are left at some point, as many entries come at least until none is.
use Rattle.std.proofs.Common.{◌≡◌, ◌≢◌, ℕ, suc, ◌+◌, ◌<◌, ◌≤◌, ◌==◌, Bool, true, false, not, List, [], ◌∷◌, ◌++◌, length, Option, None, Some, Result, Ok, Err, refl, sym, ◌∙◌, ap, arith, length-append}
use Rattle.std.proofs.lemmas.Bool.{eqb-true, ne_eqb}
use Rattle.std.specs.List.{AllPairs}
use Rattle.std.specs.Prelude.{filter, get_or}
use Rattle.nf_words.proofs.Steps.{differ_replay, end_tickets}
use Rattle.nf_words.specs.Prelude.{after, after_mark, decided, decision_of, goal_of, hold_of, IsLegalFrom, replay, State, ticket_for, with_goal}
use Rattle.nf_words.specs.declared.answer.Allowed.{Allowed}
use Rattle.nf_words.specs.declared.answer.Denial.{Denial}
use Rattle.nf_words.specs.declared.answer.Goal.{Goal}
use Rattle.nf_words.specs.declared.answer.Hold.{Hold}
use Rattle.nf_words.specs.declared.history.Entry.{Entry}
use Rattle.nf_words.specs.declared.history.Event.{Event}
use Rattle.nf_words.specs.declared.history.Event.TheVariants.{Begin, End, Sweep}
use Rattle.nf_words.specs.declared.history.Mark.{Mark}
use Rattle.nf_words.specs.declared.history.Mark.TheVariants as mark
use Rattle.nf_words.specs.declared.history.Ticket.{Ticket}

-- no seat has two tickets
abbrev Differ : List Ticket → Type 0
Differ tickets = AllPairs (λ (a b : Ticket). a.seat ≢ b.seat) tickets

tail_differs : (ticket : Ticket) (tickets : List Ticket) → Differ (ticket ∷ tickets) → Differ tickets
tail_differs ticket tickets differ = λ i j d before within. differ (suc i) (suc j) d (omega (arith, before)) (omega (arith, within))

-- where the others' seats differ from one, none of theirs is taken away
none_taken : (seat : ℕ) (tickets : List Ticket) → ((j : ℕ) (d : Ticket) → j < length tickets → seat ≢ (get_or tickets j d).seat)
    → length (filter (λ (t : Ticket). not (t.seat == seat)) tickets) ≡ length tickets
none_taken seat [] other = refl
none_taken seat (t ∷ tickets) other =
    let first : (t.seat == seat) ≡ false = ne_eqb t.seat seat (λ same. other 0 t (omega arith) (sym same)) in
    let rest = none_taken seat tickets (λ j d within. other (suc j) d (omega (arith, within))) in
    rw first (omega (arith, rest))

-- so at most one is
one_taken : (seat : ℕ) (tickets : List Ticket) → Differ tickets
    → length tickets ≤ length (filter (λ (t : Ticket). not (t.seat == seat)) tickets) + 1
one_taken seat [] differ = omega arith
one_taken seat (t ∷ tickets) differ = here (t.seat == seat) refl (one_taken seat tickets (tail_differs t tickets differ))
  where
    here : (its : Bool) → (t.seat == seat) ≡ its
        → length tickets ≤ length (filter (λ (t : Ticket). not (t.seat == seat)) tickets) + 1
        → length (t ∷ tickets) ≤ length (filter (λ (t : Ticket). not (t.seat == seat)) (t ∷ tickets)) + 1
    here true is rest =
        let none = none_taken seat tickets (λ j d within same.
        differ 0 (suc j) d (omega arith) (omega (arith, within)) (eqb-true t.seat seat is ∙ same)) in
        rw is (omega (arith, none))
    here false is rest = rw is (omega (arith, rest))

more_with : (tickets : List Ticket) (seat : ℕ) (goal : Option Goal) (hold : Option Hold)
    → length tickets ≤ length (with_goal tickets seat goal hold)
more_with tickets seat None hold = omega arith
more_with tickets seat (Some goal) hold = omega (arith, length-append tickets (ticket_for seat goal hold ∷ []))

more_decided : (s : State) (seat now : ℕ) (decision : Result Allowed Denial) → length s.tickets ≤ length (decided s seat now decision).tickets
more_decided s seat now (Ok act) = more_with s.tickets seat (goal_of act) (hold_of act)
more_decided s seat now (Err refusal) = omega arith

-- an entry ends one ticket at most
one_ended : (s : State) (e : Entry) → Differ s.tickets → length s.tickets ≤ length (after s e).tickets + 1
one_ended s e differ = here e.event e.mark
  where
    here : (event : Event) (m : Mark) → length s.tickets ≤ length (after_mark s (record e { event = event }) m).tickets + 1
    here (Begin words request) mark.Answered = omega (arith, more_decided s e.seat e.moment (decision_of s e.seat e.moment (Begin words request)))
    here (Begin words request) other = omega arith
    here (End outcome) mark.Answered =
        omega (arith, one_taken e.seat s.tickets differ, ap (λ (ts : List Ticket). length ts) (end_tickets s e.seat e.moment outcome))
    here (End outcome) other = one_taken e.seat s.tickets differ
    here Sweep mark.Answered = omega arith
    here Sweep other = omega arith

ended_by : (n : ℕ) (s : State) (es : List Entry) → Differ s.tickets → IsLegalFrom n s es
    → length s.tickets ≤ length (replay s es).tickets + length es
ended_by n s [] differ legal = omega arith
ended_by n s (e ∷ es) differ legal =
    omega (arith, one_ended s e differ, ended_by (n + 1) (after s e) es (differ_replay n s (e ∷ []) differ (legal.0, tt)) legal.1)

-- of the tickets behind a front of a legal history
pub ended_behind : (n : ℕ) (s : State) (es more : List Entry) → Differ s.tickets → IsLegalFrom n s (es ++ more)
    → length (replay s es).tickets ≤ length (replay s (es ++ more)).tickets + length more
ended_behind n s [] more differ legal = ended_by n s more differ legal
ended_behind n s (e ∷ es) more differ legal =
    ended_behind (n + 1) (after s e) es more (differ_replay n s (e ∷ []) differ (legal.0, tt)) legal.1
