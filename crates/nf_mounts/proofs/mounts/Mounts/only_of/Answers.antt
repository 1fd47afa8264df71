use Rattle.nf_mounts.proofs.Ensured.{own_rising}
use Rattle.nf_mounts.proofs.mounts.Mounts.only_of.Goals as goal

pub load-requires : goal.load-requires
load-requires c = rw (c.in_ok-copies.ensures, c.of_user.ensures) (own_rising c.args.user c.args.self.now.rows c.rows.ensures.rising)
