-- The seat holds nothing.
use Rattle.std.specs.Prelude.{◌≡◌, None}
use Rattle.nf_hub.specs.Seats.{IsSeat, book}
use Rattle.nf_session.specs.Book.{held}
use Rattle.cases.proofs.jobs.sweep_in_turn.Given as goal

abbrev pub invariant-loop-sweep : goal.invariant-loop-sweep
invariant-loop-sweep g l = IsSeat g.K.Keeper l.hub l.seat × (held (book g.K.Keeper l.hub l.seat) ≡ None)
