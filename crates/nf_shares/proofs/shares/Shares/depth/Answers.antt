use Rattle.std.proofs.Common.{◌∙◌, length, ap, ℕ, Option}
use Rattle.std.specs.Prelude.{unwrap_or}
use Rattle.nf_shares.proofs.Along.{reach_all}
use Rattle.nf_shares.proofs.shares.Shares.depth.Goals as goal

pub returns : goal.returns
returns c = c.unwrap_or.ensures ∙ ap (λ (o : Option ℕ). unwrap_or o 0) c.depth_within.ensures.depth ∙ reach_all length c.args.self.now.rows c.args.id
