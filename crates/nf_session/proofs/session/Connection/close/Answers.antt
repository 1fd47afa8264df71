use Rattle.nf_session.proofs.Helds.{ends_idle}
use Rattle.nf_session.proofs.session.Connection.close.Goals as goal

pub returns-then-granted-clause-idle : goal.returns-then-granted-clause-idle
returns-then-granted-clause-idle g c =
    ends_idle (g.B.Backend.book c.args.self.now.backend.now) (g.B.Backend.book c.end.new.self) c.new-now.result c.args.ending c.end.result c.requires.closing c.end.ensures.ends
