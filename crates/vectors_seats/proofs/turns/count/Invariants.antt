use Rattle.nf_turn.specs.Seats.{IsIdle, IsSeatOf}
use Rattle.vectors_seats.proofs.turns.count.Given as goal

abbrev pub invariant-loop : goal.invariant-loop
invariant-loop g l = IsSeatOf l.lock l.seat × IsIdle l.lock l.seat
