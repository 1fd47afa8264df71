use Rattle.nf_mounts.proofs.Keys.{by_user}
use Rattle.nf_mounts.proofs.mounts.Mounts.of_user.Goals as goal

pub returns : goal.returns
returns c = rw (← c.self.view_is, c.front.ensures) (by_user c.self.inside.rows.rows c.args.user)
