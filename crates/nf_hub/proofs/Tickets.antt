-- Tickets, by what the seats hold.
use Rattle.std.proofs.Common.{◌≡◌, ℕ, List, [], ◌∷◌, refl, sym, ◌∙◌, eq-eqb}
use Rattle.std.specs.Prelude.{◌==◌, Option, None, Some, find, option_map}
use Rattle.nf_session.specs.Book.{Book, IsBook, held, state_of}
use Rattle.nf_session.proofs.Books.{held_is_ticket}
use Rattle.nf_words.specs.declared.answer.Goal.{Goal}
use Rattle.nf_words.specs.declared.history.Ticket.{Ticket}
use Rattle.nf_hub.specs.Calls.{HasTicket}

abbrev pub found_for : ℕ → List Ticket → Option Ticket
found_for seat tickets = find (λ (ticket : Ticket). ticket.seat == seat) tickets

-- what a seat holds is granted by its ticket
pub has_ticket : (b : Book) (goal : Goal) → IsBook b → held b ≡ Some goal → HasTicket b goal
has_ticket b goal book holds = sym (held_is_ticket b book) ∙ holds

not_found : (found : Option Ticket) → option_map (λ ticket. ticket.goal) found ≡ None → found ≡ None
not_found None none = refl
not_found (Some ticket) none = absurd (cc)

pub none_found : (b : Book) → IsBook b → held b ≡ None → found_for b.seat (state_of b).tickets ≡ None
none_found b book none = not_found (found_for b.seat (state_of b).tickets) (sym (held_is_ticket b book) ∙ none)

-- where none is found for any seat, there is none
pub no_tickets : (tickets : List Ticket) → ((seat : ℕ) → found_for seat tickets ≡ None) → tickets ≡ []
no_tickets [] none = refl
no_tickets (ticket ∷ tickets) none =
    let found : Some ticket ≡ None = simp (eq-eqb ticket.seat ticket.seat refl) at (none ticket.seat) in absurd (cc)
