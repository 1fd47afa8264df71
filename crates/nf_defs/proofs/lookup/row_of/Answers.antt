use Rattle.std.proofs.Common.{sym, ◌∙◌}
use Rattle.nf_defs.proofs.Lookups.{find_nowhere, find_there, is_sought}
use Rattle.nf_defs.proofs.lookup.row_of.Goals as goal

pub returns-in_err-at : goal.returns-in_err-at
returns-in_err-at g c =
    let test = is_sought g.R.Keyed.key (g.R.FoundBy.numbers c.args.sought.now) in
    let none = find_nowhere test c.args.rows.now (sym c.in_err-at.was ∙ c.place_of.ensures) in
    cc

pub returns : goal.returns
returns g c =
    let test = is_sought g.R.Keyed.key (g.R.FoundBy.numbers c.args.sought.now) in
    find_there test c.args.rows.now c.in_ok-at.at c.index-rows-at.result (sym c.in_ok-at.was ∙ c.place_of.ensures) c.index-rows-at.is
