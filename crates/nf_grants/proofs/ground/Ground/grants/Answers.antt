use Rattle.std.proofs.Common.{ℕ, rules, tests}
use Rattle.std.proofs.lemmas.Iterator.{YieldsList-from_slice, items_from_collect}
use Rattle.std.proofs.lemmas.Iterator.Consumers.{YieldsList-from_filter_map}
use Rattle.nf_grants.proofs.ground.Ground.grants.Goals as goal
use Rattle.nf_grants.specs.Grants.{grant_to}
use Rattle.nf_shares.specs.declared.entries.Entry.{Entry}

pub returns : goal.returns
returns c =
    rw (← c.entries.ensures c.args.seeker)
    (items_from_collect _ c.collect.ensures.ran
    (YieldsList-from_filter_map _ (λ (entry : Entry ℕ). grant_to c.args.self.now c.args.seeker entry.share)
    (YieldsList-from_slice c.entries.result.now cc) c.filter_map.ensures.closure (λ x r q k. search (rules, tests))))
