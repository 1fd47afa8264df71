use Rattle.std.proofs.Common.{◌∙◌, rules}
use Rattle.std.proofs.lemmas.Fn.{always_returns_same}
use Rattle.nf_defs.specs.Prelude.{key_cmp}
use Rattle.nf_defs.proofs.Lookups.{place_is}
use Rattle.nf_table.proofs.places.place_for.Goals as goal

pub returns : goal.returns
returns g c =
    let key = g.R.Keyed.key in
    let numbers = key c.args.row.now in
    let found = c.binary_search_by.ensures.position (λ row. key_cmp (key row) numbers)
    (always_returns_same _ _ _ (λ a r f' called. (search rules, search rules))) in
    c.ok.ensures.value ∙ place_is key numbers c.args.rows.now c.binary_search_by.result c.requires c.binary_search_by.ensures.bound found
