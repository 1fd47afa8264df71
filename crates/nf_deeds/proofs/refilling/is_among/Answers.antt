use Rattle.std.proofs.Common.{rules, nat_cmp, ◌∙◌}
use Rattle.std.proofs.lemmas.Fn.{always_returns_same}
use Rattle.nf_deeds.proofs.Refills.{among}
use Rattle.nf_deeds.proofs.refilling.is_among.Goals as goal

pub returns : goal.returns
returns c =
    let found = c.binary_search_by.ensures.position (λ moment. nat_cmp c.args.at moment)
    (always_returns_same _ _ _ (λ a r f' called. (search rules, search rules))) in
    c.is_ok.ensures.value ∙ among c.args.at c.args.moments.now c.binary_search_by.result c.requires c.binary_search_by.ensures.bound found
