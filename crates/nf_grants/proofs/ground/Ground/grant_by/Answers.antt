use Rattle.std.proofs.Common.{refl, ◌∙◌}
use Rattle.nf_grants.proofs.Walks.{given_all}
use Rattle.nf_grants.proofs.ground.Ground.grant_by.Goals as goal

pub returns : goal.returns
returns c = c.standing.ensures ∙ given_all c.args.self.now 15 c.args.share.now refl c.requires
