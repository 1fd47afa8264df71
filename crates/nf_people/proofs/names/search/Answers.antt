use Rattle.std.proofs.Common.{rules}
use Rattle.std.proofs.lemmas.Fn.{always_returns_same}
use Rattle.nf_defs.specs.Puts.{key_cmp}
use Rattle.nf_people.specs.Names.{name_at}
use Rattle.nf_people.proofs.names.search.Goals as goal

pub returns-clause-place : goal.returns-clause-place
returns-clause-place g c =
    c.binary_search_by.ensures.position (λ at. key_cmp (name_at g.R.Named.name_of c.args.rows.now at) c.args.name.now)
    (always_returns_same _ _ _ (λ a r f' called. (search rules, search rules)))
