use Rattle.nf_outside.specs.Lent.{takes}
use Rattle.nf_session.specs.Connections.{scene}
use Rattle.nf_session.proofs.Turns.{meets_answered, meets_cut, meets_stopped}
use Rattle.nf_session.proofs.session.Connection.answer_with.Goals as goal

pub returns-in-Ok-clause-meets : goal.returns-in-Ok-clause-meets
returns-in-Ok-clause-meets g c =
    meets_answered (takes g.C.Clock.reads g.D.Dice.draws) c.args.last c.args.message.now c.args.body.now (scene g.S.Ends g.O.Ends g.B.Backend c.args.self.now)
    (scene g.S.Ends g.O.Ends g.B.Backend c.begin-begun.new.self) (scene g.S.Ends g.O.Ends g.B.Backend c.invite.new.self)
    (scene g.S.Ends g.O.Ends g.B.Backend c.take_body.new.self) (scene g.S.Ends g.O.Ends g.B.Backend c.respond-written.new.self)
    (scene g.S.Ends g.O.Ends g.B.Backend c.close-in-Ok.new.self) c.begin-begun.result c.begin-begun.ensures.judges c.in_default.ensures.invites
    c.closes-closes.result c.in-Ok.response c.respond-written.result c.stays_granted.result c.ending.result c.end_by.result
    c.in-Ok.ensures.takes c.closes-closes.ensures c.respond-written.ensures.responds c.ending.ensures.ending c.stays_granted.ensures
    c.close-in-Ok.ensures.closes c.end_by.ensures

pub returns-in-Err-clause-meets : goal.returns-in-Err-clause-meets
returns-in-Err-clause-meets g c =
    meets_stopped (takes g.C.Clock.reads g.D.Dice.draws) c.args.last c.args.message.now c.args.body.now (scene g.S.Ends g.O.Ends g.B.Backend c.args.self.now)
    (scene g.S.Ends g.O.Ends g.B.Backend c.begin-begun.new.self) (scene g.S.Ends g.O.Ends g.B.Backend c.invite.new.self)
    (scene g.S.Ends g.O.Ends g.B.Backend c.close.new.self) c.begin-begun.result c.in-Err.ended c.is_granted-granted.result
    c.begin-begun.ensures.judges c.in-Err.ensures.invites c.is_granted-granted.ensures c.close.ensures.closes

pub returns-in-Err-take_body-clause-meets : goal.returns-in-Err-take_body-clause-meets
returns-in-Err-take_body-clause-meets g c =
    meets_cut (takes g.C.Clock.reads g.D.Dice.draws) c.args.last c.args.message.now c.args.body.now (scene g.S.Ends g.O.Ends g.B.Backend c.args.self.now)
    (scene g.S.Ends g.O.Ends g.B.Backend c.begin-begun.new.self) (scene g.S.Ends g.O.Ends g.B.Backend c.invite.new.self)
    (scene g.S.Ends g.O.Ends g.B.Backend c.take_body.new.self) (scene g.S.Ends g.O.Ends g.B.Backend c.refuse-ended.new.self)
    (scene g.S.Ends g.O.Ends g.B.Backend c.close-in-Err-take_body.new.self) c.begin-begun.result c.begin-begun.ensures.judges c.in_default.ensures.invites
    c.in-Err-take_body.fault c.refuse-ended.result c.is_granted-granted.result c.in-Err-take_body.ensures.takes
    c.refuse-ended.ensures.refuses c.is_granted-granted.ensures c.close-in-Err-take_body.ensures.closes
