use Rattle.std.proofs.Common.{rules, ◌∙◌}
use Rattle.std.proofs.lemmas.Fn.{always_returns_same}
use Rattle.nf_table.proofs.Dropped.{found_among, turned_cmp}
use Rattle.nf_table.proofs.keys.has_key.Goals as goal

pub returns : goal.returns
returns g c =
    let numbers = g.R.FoundBy.numbers in
    let sought = g.R.Keyed.key c.args.row.now in
    let found = c.binary_search_by.ensures.position (turned_cmp numbers sought)
    (always_returns_same _ _ _ (λ a r f' called. (search rules, search rules))) in
    c.is_ok.ensures.value ∙ found_among numbers sought c.args.keys.now c.binary_search_by.result c.requires c.binary_search_by.ensures.bound found
