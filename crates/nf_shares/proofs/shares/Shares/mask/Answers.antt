use Rattle.nf_access.specs.Shares.{mask_of}
use Rattle.nf_shares.proofs.Along.{reach_all}
use Rattle.nf_shares.proofs.shares.Shares.mask.Goals as goal

pub returns : goal.returns
returns c =
    rw (c.unwrap_or.ensures, c.nothing.ensures, c.mask_within.ensures) (reach_all mask_of c.args.self.now.rows c.args.id)
