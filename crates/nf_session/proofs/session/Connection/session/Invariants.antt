use Rattle.std.proofs.Common.{◌≡◌}
use Rattle.std.specs.Prelude.{None}
use Rattle.nf_outside.specs.Lent.{takes}
use Rattle.nf_session.specs.Prelude.{held, IsSame, scene}
use Rattle.nf_session.proofs.Turns.{SoFar}
use Rattle.nf_session.proofs.session.Connection.session.Given as goal

abbrev pub invariant-loop-turn : goal.invariant-loop-turn
invariant-loop-turn g l =
    SoFar (takes g.C.Clock.reads g.D.Dice.draws) (scene g.S.Ends g.O.Ends g.B.Backend l.fn.self) (scene g.S.Ends g.O.Ends g.B.Backend l.self) l.turn
    × IsSame g.B.Backend l.fn.self l.self × (held (g.B.Backend.book l.self.backend.now) ≡ None)
