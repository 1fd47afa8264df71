use Rattle.nf_outside.specs.Lent.{takes}
use Rattle.nf_session.specs.Connections.{scene}
use Rattle.nf_session.proofs.Turns.{turn_met, turn_failed}
use Rattle.nf_session.proofs.session.Connection.exchange.Goals as goal

pub returns-in-Ok-Some-clause-turn : goal.returns-in-Ok-Some-clause-turn
returns-in-Ok-Some-clause-turn g c =
    turn_met (takes g.C.Clock.reads g.D.Dice.draws) c.args.last (scene g.S.Ends g.O.Ends g.B.Backend c.args.self.now) (scene g.S.Ends g.O.Ends g.B.Backend c.next.new.self)
    (scene g.S.Ends g.O.Ends g.B.Backend c.answer-ended.new.self) (scene g.S.Ends g.O.Ends g.B.Backend c.end_answer.new.self) c.in-Ok-Some.message c.in-Ok-Some.field-0 c.answer-ended.result
    c.in-Ok-Some.field-0-is c.in-Ok-Some.ensures.heads c.answer-ended.ensures.meets c.end_answer.ensures.scene

pub returns-in-Err-clause-turn : goal.returns-in-Err-clause-turn
returns-in-Err-clause-turn g c =
    turn_failed (takes g.C.Clock.reads g.D.Dice.draws) c.args.last (scene g.S.Ends g.O.Ends g.B.Backend c.args.self.now) (scene g.S.Ends g.O.Ends g.B.Backend c.next.new.self)
    (scene g.S.Ends g.O.Ends g.B.Backend c.refuse-ended.new.self) (scene g.S.Ends g.O.Ends g.B.Backend c.end_answer-in-Err.new.self)
    c.in-Err.fault c.refuse-ended.result c.in-Err.ensures.heads c.refuse-ended.ensures.refuses c.end_answer-in-Err.ensures.scene
