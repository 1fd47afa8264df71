use Rattle.std.proofs.Common.{ℕ, rules, tests, ◌≡◌, option_map, sym, ap, ◌∙◌}
use Rattle.std.proofs.lemmas.Iterator.{YieldsList-from_slice}
use Rattle.std.proofs.lemmas.Iterator.Adapters.{option_map_id}
use Rattle.std.proofs.lemmas.Iterator.Consumers.{YieldsList-from_filter_map}
use Rattle.std.proofs.lemmas.Iterator.Search.{find_from_yields_List}
use Rattle.nf_defs.specs.declared.Grant.{Grant}
use Rattle.nf_grants.proofs.ground.Ground.first_grant.Goals as goal
use Rattle.nf_grants.specs.Grants.{grant_to, serves}
use Rattle.nf_shares.specs.declared.entries.Entry.{Entry}

pub returns : goal.returns
returns c =
    let found =
    find_from_yields_List (serves c.args.now c.args.purpose) _ _ _ c.find.ensures.ran
    (YieldsList-from_filter_map _ (λ (entry : Entry ℕ). grant_to c.args.self.now c.args.seeker entry.share)
    (YieldsList-from_slice c.entries.result.now cc) c.filter_map.ensures.closure (λ x r q k. search (rules, tests)))
    (λ x b q k. search (rules, tests)) in
    let shown : c.map.result ≡ option_map (λ (grant : Grant). grant.share) c.find.result = search (rules, tests) in
    rw (← c.entries.ensures c.args.seeker)
    (shown ∙ ap (option_map (λ (grant : Grant). grant.share)) (sym (option_map_id c.find.result) ∙ found))
