use Rattle.std.proofs.Common.{◌≡◌, is_some, ap, ◌∙◌, rules}
use Rattle.nf_access.specs.Access.{allows, by_chains}
use Rattle.nf_defs.specs.declared.Grant.{Grant}
use Rattle.nf_reach.proofs.Refusals.{find_any}
use Rattle.nf_reach.proofs.asker.Asker.is_granted.Goals as goal

pub returns : goal.returns
returns c =
    let a = c.self.inside in
    let some : c.is_some.result ≡ is_some c.allows-share.result = search (rules) in
    rw (← c.self.view_is)
    (some ∙ ap is_some c.allows-share.ensures
    ∙ find_any (λ (grant : Grant). grant.share) (allows a.moment c.args.act) (by_chains a.base a.seeker c.args.mount))
