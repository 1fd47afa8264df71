use Rattle.nf_keeper.specs.contracts.memory.MemKeeperKeeper.TheImpl.{ghosts}
use Rattle.nf_hub.specs.Seats.{IsIdleSeat}
use Rattle.vectors_seats.proofs.seats.a_hub_becomes_full.Given as goal

abbrev pub invariant-loop-count : goal.invariant-loop-count
invariant-loop-count g l = IsIdleSeat ghosts l.shared.hub l.seat
