use Rattle.std.proofs.Common.{◌≡◌, filter, option_copied, take}
use Rattle.nf_words.specs.Holds.{blocks, least}
use Rattle.nf_locks.proofs.way.least_in_way.Given as goal

-- that of the tickets so far
abbrev pub invariant-loop-ticket : goal.invariant-loop-ticket
invariant-loop-ticket l = option_copied l.found ≡ least (filter (blocks l.tree.rows l.seat l.touches) (take l.ticket-index l.tickets))
