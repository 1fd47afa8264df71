-- How many tickets a history leaves: no more than it has entries.
use Rattle.std.proofs.Common.{ℕ, ◌+◌, ◌==◌, ◌≤◌, Bool, not, List, [], ◌∷◌, length, arith}
use Rattle.std.proofs.lemmas.List.Sums.{length-filter, count_by-le-length}
use Rattle.nf_words.proofs.Steps.{decided_tickets}
use Rattle.nf_words.specs.Prelude.{after, after_mark, decision_of, replay, State, without}
use Rattle.nf_words.specs.declared.history.Entry.{Entry}
use Rattle.nf_words.specs.declared.history.Event.{Event}
use Rattle.nf_words.specs.declared.history.Event.TheVariants.{Begin, End, Sweep}
use Rattle.nf_words.specs.declared.history.Mark.{Mark}
use Rattle.nf_words.specs.declared.history.Mark.TheVariants as mark
use Rattle.nf_words.specs.declared.history.Ticket.{Ticket}

few_without : (s : State) (seat : ℕ) (event : Event) → length (without s seat event).tickets ≤ length s.tickets
few_without s seat (Begin words request) = omega arith
few_without s seat (End outcome) =
    let test : (Ticket → Bool) = λ (ticket : Ticket). not (ticket.seat == seat) in
    omega (arith, length-filter test s.tickets, count_by-le-length test s.tickets)
few_without s seat Sweep = omega arith

few_after : (s : State) (e : Entry) → length (after s e).tickets ≤ length s.tickets + 1
few_after s e = here e.mark
  where
    less : length (without s e.seat e.event).tickets ≤ length s.tickets
    less = few_without s e.seat e.event

    here : (m : Mark) → length (after_mark s e m).tickets ≤ length s.tickets + 1
    here mark.Answered =
        omega (arith, decided_tickets (without s e.seat e.event) e.seat e.moment (decision_of s e.seat e.moment e.event), less)
    here mark.Store = omega (arith, less)
    here mark.Memory = omega (arith, less)

pub few_tickets : (s : State) (es : List Entry) → length (replay s es).tickets ≤ length s.tickets + length es
few_tickets s [] = omega arith
few_tickets s (e ∷ es) = omega (arith, few_after s e, few_tickets (after s e) es)
