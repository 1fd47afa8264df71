use Rattle.std.proofs.Common.{List, ℕ, subst}
use Rattle.nf_outside.specs.Lent.{takes}
use Rattle.nf_session.specs.Prelude.{MeetsWith, scene}
use Rattle.nf_session.proofs.Turns.{meets_early, meets_with}
use Rattle.nf_session.proofs.session.Connection.answer.Goals as goal

pub returns-in-Ok-clause-meets : goal.returns-in-Ok-clause-meets
returns-in-Ok-clause-meets g c =
    meets_with (takes g.C.Clock.reads g.D.Dice.draws) c.args.last c.args.message.now c.in-Ok.body.items (scene g.S.Ends g.O.Ends g.B.Backend c.args.self.now)
    (scene g.S.Ends g.O.Ends g.B.Backend c.early.new.self) (scene g.S.Ends g.O.Ends g.B.Backend c.answer_with.new.self) c.answer_with.result
    c.in-Ok.ensures.ok
    (subst (λ (z : List ℕ). MeetsWith (takes g.C.Clock.reads g.D.Dice.draws) c.args.last c.args.message.now z (scene g.S.Ends g.O.Ends g.B.Backend c.early.new.self)
    (scene g.S.Ends g.O.Ends g.B.Backend c.answer_with.new.self) c.answer_with.result) c.deref.ensures.value c.answer_with.ensures.meets)

pub returns-in-Err-clause-meets : goal.returns-in-Err-clause-meets
returns-in-Err-clause-meets g c =
    meets_early (takes g.C.Clock.reads g.D.Dice.draws) c.args.last c.args.message.now (scene g.S.Ends g.O.Ends g.B.Backend c.args.self.now)
    (scene g.S.Ends g.O.Ends g.B.Backend c.early.new.self) (scene g.S.Ends g.O.Ends g.B.Backend c.refuse.new.self) c.in-Err.fault c.refuse.result
    c.in-Err.ensures.err c.refuse.ensures.refuses
