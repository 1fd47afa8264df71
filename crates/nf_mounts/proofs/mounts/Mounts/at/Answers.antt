use Rattle.std.proofs.Common.{◌∙◌}
use Rattle.nf_mounts.proofs.Found.{found_any}
use Rattle.nf_mounts.proofs.mounts.Mounts.at.Goals as goal

pub returns : goal.returns
returns c = c.at_but.ensures ∙ found_any c.args.self.now.rows c.args.user c.args.name.now
