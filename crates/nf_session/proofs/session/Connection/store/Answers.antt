use Rattle.nf_session.proofs.Helds.{stored_responding}
use Rattle.nf_session.proofs.session.Connection.store.Goals as goal

pub returns-clause-responding : goal.returns-clause-responding
returns-clause-responding g c =
    stored_responding (g.B.Backend.book c.args.self.now.backend.now) (g.B.Backend.book c.end.new.self) c.new-now.result c.args.body.items c.end.result c.of.result c.end.ensures.ends c.of.ensures
