-- The state of the site.
use Rattle.std.specs.Prelude.{ℕ, ◌==◌, not, List, [], Option, option_map, find, filter}
use Rattle.nf_base.specs.declared.rows.Row.{Row}
use Rattle.nf_access.specs.Access.{by_chains}
use Rattle.nf_access.specs.Shares.{ground_of}
use Rattle.nf_defs.specs.Access.{Access}
use Rattle.nf_defs.specs.Tables.{Tables, tables_of}
use Rattle.nf_words.specs.declared.answer.Goal.{Goal}
use Rattle.nf_words.specs.declared.answer.Hold.{Hold}
use Rattle.nf_words.specs.declared.history.Ticket.{Ticket}

-- the rows, the tickets in the order in which they were granted, and the greatest moment seen
pub record State : Type 0 where
  pub tables : Tables
  pub tickets : List Ticket
  pub seen : ℕ

-- the state in which a run over these rows begins
abbrev pub opened : List Row → State
opened rows = record { tables = tables_of rows; tickets = []; seen = (tables_of rows).meta.last }

-- what shares let their seekers do: what the chains grant that stand
abbrev pub access_of : State → Access
access_of s = by_chains (ground_of s.tables)

-- the ticket of a seat for what it was granted, with what it holds
abbrev pub ticket_for : ℕ → Goal → Option Hold → Ticket
ticket_for seat goal hold = record { seat = seat; goal = goal; hold = hold }

abbrev pub ticket_of : State → ℕ → Option Ticket
ticket_of s seat = find (λ ticket. ticket.seat == seat) s.tickets

-- what a seat was granted
abbrev pub goal_at : State → ℕ → Option Goal
goal_at s seat = option_map (λ ticket. ticket.goal) (ticket_of s seat)

abbrev pub without_ticket : State → ℕ → State
without_ticket s seat = record s { tickets = filter (λ ticket. not (ticket.seat == seat)) s.tickets }
