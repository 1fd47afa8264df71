use Rattle.nf_grants.proofs.Lines.{own_row}
use Rattle.nf_grants.proofs.ground.Ground.share.Goals as goal

pub returns-clause-own : goal.returns-clause-own
returns-clause-own c = rw (c.row.ensures, ← c.self.view_is) (own_row c.self.inside.shares.now.rows c.args.id)
