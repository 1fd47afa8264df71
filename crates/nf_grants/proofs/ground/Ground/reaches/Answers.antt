use Rattle.std.proofs.Common.{ℕ, rules, tests}
use Rattle.std.proofs.lemmas.Iterator.{YieldsList-from_slice}
use Rattle.std.proofs.lemmas.Iterator.Consumers.{YieldsList-from_filter_map}
use Rattle.std.proofs.lemmas.Iterator.Search.{any_from_yields_List}
use Rattle.nf_access.specs.Access.{is_open}
use Rattle.nf_grants.proofs.ground.Ground.reaches.Goals as goal
use Rattle.nf_grants.specs.Grants.{grant_to}
use Rattle.nf_shares.specs.declared.entries.Entry.{Entry}

pub returns : goal.returns
returns c =
    rw (← c.entries.ensures c.args.seeker)
    (any_from_yields_List (is_open c.args.now) _ _ _ c.any.ensures.ran
    (YieldsList-from_filter_map _ (λ (entry : Entry ℕ). grant_to c.args.self.now c.args.seeker entry.share)
    (YieldsList-from_slice c.entries.result.now cc) c.filter_map.ensures.closure (λ x r q k. search (rules, tests)))
    (λ x b q k. search (rules, tests)))
