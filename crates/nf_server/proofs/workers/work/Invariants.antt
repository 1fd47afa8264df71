use Rattle.std.proofs.Common.{◌≡◌}
use Rattle.std.specs.Prelude.{None}
use Rattle.nf_hub.specs.Seats.{IsSeat, book, memory_of}
use Rattle.nf_outside.specs.Lent.{takes}
use Rattle.nf_session.specs.Book.{held}
use Rattle.nf_server.proofs.Working.{SoFar}
use Rattle.nf_server.proofs.workers.work.Given as goal

abbrev pub invariant-loop : goal.invariant-loop
invariant-loop g l = record {
  seat : IsSeat g.K.Keeper l.hub l.seat;
  idle : held (book g.K.Keeper l.hub l.seat) ≡ None;
  so_far : SoFar g.K.Keeper g.D.Source.Ends g.D.Sink.Ends (takes g.C.Clock.reads g.Q.Dice.draws) g.D.Door (memory_of g.K.Keeper l.hub l.fn.seat)
      (memory_of g.K.Keeper l.hub l.seat) l.fn.worker l.worker l.counter;
}
