use Rattle.std.proofs.Common.{arith}
use Rattle.nf_outside.specs.Lent.{takes}
use Rattle.nf_session.specs.Connections.{scene}
use Rattle.nf_session.proofs.Same.{same_then}
use Rattle.nf_session.proofs.Turns.{so_far_more, session_ends, session_full}
use Rattle.nf_session.proofs.session.Connection.session.Goals as goal

pub returns-in-Some-clause-session : goal.returns-in-Some-clause-session
returns-in-Some-clause-session g c =
    session_ends (takes g.C.Clock.reads g.D.Dice.draws) (scene g.S.Ends g.O.Ends g.B.Backend c.args.self.now) (scene g.S.Ends g.O.Ends g.B.Backend c.loop-turn.self)
    (scene g.S.Ends g.O.Ends g.B.Backend c.exchange.new.self) c.loop-turn.turn c.in-Some.ended c.loop-turn.invariant.0 c.loop-turn-test.true
    c.in-Some.ensures.turn

pub returns-clause-session : goal.returns-clause-session
returns-clause-session g c =
    session_full (takes g.C.Clock.reads g.D.Dice.draws) (scene g.S.Ends g.O.Ends g.B.Backend c.args.self.now) (scene g.S.Ends g.O.Ends g.B.Backend c.loop-turn.self)
    (scene g.S.Ends g.O.Ends g.B.Backend c.exchange-2.new.self) c.loop-turn.turn c.exchange-2.result (omega arith) c.loop-turn.invariant.0
    c.exchange-2.ensures.turn

pub loop-turn-preserved : goal.loop-turn-preserved
loop-turn-preserved g c = (
  so_far_more (takes g.C.Clock.reads g.D.Dice.draws) (scene g.S.Ends g.O.Ends g.B.Backend c.args.self.now) (scene g.S.Ends g.O.Ends g.B.Backend c.loop-turn.self)
      (scene g.S.Ends g.O.Ends g.B.Backend c.exchange.new.self) c.loop-turn.turn c.loop-turn.invariant.0 c.in_default.ensures.turn,
  same_then g.B.Backend _ _ _ c.loop-turn.invariant.1 c.in_default.ensures.same,
  c.in_default.ensures.idle,
)
