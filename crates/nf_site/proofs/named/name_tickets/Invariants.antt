use Rattle.std.proofs.Common.{◌≡◌, ◌++◌, take}
use Rattle.std.specs.List.{flat_map}
use Rattle.nf_laws.specs.Named.{goal_blobs}
use Rattle.nf_site.proofs.named.name_tickets.Given as goal

abbrev pub invariant-loop-ticket : goal.invariant-loop-ticket
invariant-loop-ticket l =
    l.blobs.items ≡ l.initial.blobs.items ++ flat_map (λ ticket. goal_blobs ticket.goal) (take l.ticket-index l.tickets)
