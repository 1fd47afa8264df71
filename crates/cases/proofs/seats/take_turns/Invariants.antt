-- Both seats hold nothing.
use Rattle.std.specs.Prelude.{◌≡◌, None}
use Rattle.nf_hub.specs.Seats.{IsSeat, book}
use Rattle.nf_session.specs.Book.{held}
use Rattle.cases.proofs.seats.take_turns.Given as goal

abbrev pub invariant-loop-exchange : goal.invariant-loop-exchange
invariant-loop-exchange g l =
    IsSeat g.K.Keeper l.hub l.next × IsSeat g.K.Keeper l.hub l.last
    × (held (book g.K.Keeper l.hub l.next) ≡ None) × (held (book g.K.Keeper l.hub l.last) ≡ None)
