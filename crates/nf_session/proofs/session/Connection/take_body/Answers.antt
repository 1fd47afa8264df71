use Rattle.std.proofs.Common.{sym}
use Rattle.nf_outside.specs.Lent.{takes}
use Rattle.nf_session.specs.Connections.{scene}
use Rattle.nf_session.proofs.Takes.{take_skipped, take_stored}
use Rattle.nf_session.proofs.session.Connection.take_body.Goals as goal

pub returns-in-Some-clause-takes : goal.returns-in-Some-clause-takes
returns-in-Some-clause-takes g c =
    take_stored (takes g.C.Clock.reads g.D.Dice.draws) c.args.message.now (scene g.S.Ends g.O.Ends g.B.Backend c.args.self.now)
    (scene g.S.Ends g.O.Ends g.B.Backend c.read.new.self) (scene g.S.Ends g.O.Ends g.B.Backend c.store.new.self) c.args.begun c.store.result
    c.in-Some.length _ (sym c.in-Some.ensures) c.in_ok-body.ensures.ok c.store.ensures.stores

pub returns-in-Ok-clause-takes : goal.returns-in-Ok-clause-takes
returns-in-Ok-clause-takes g c =
    take_skipped (takes g.C.Clock.reads g.D.Dice.draws) c.args.message.now (scene g.S.Ends g.O.Ends g.B.Backend c.args.self.now)
    (scene g.S.Ends g.O.Ends g.B.Backend c.skip.new.self) (scene g.S.Ends g.O.Ends g.B.Backend c.pass.new.self) c.args.begun c.pass.result
    c.args.skipped (sym c.in_default.ensures) c.requires.skipped c.in-Ok.ensures.ok c.pass.ensures.passes
