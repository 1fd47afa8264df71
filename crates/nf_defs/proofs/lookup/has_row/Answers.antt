use Rattle.std.proofs.Common.{◌∙◌}
use Rattle.nf_defs.proofs.Lookups.{any_is, is_sought}
use Rattle.nf_defs.proofs.lookup.has_row.Goals as goal

pub returns : goal.returns
returns g c =
    let test = is_sought g.R.Keyed.key (g.R.FoundBy.numbers c.args.sought.now) in
    c.is_some.ensures ∙ any_is test c.args.rows.now c.place_of.result c.place_of.ensures
