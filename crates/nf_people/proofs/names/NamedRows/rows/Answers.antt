use Rattle.nf_people.proofs.NameIndex.{named_apart}
use Rattle.nf_people.proofs.names.NamedRows.rows.Goals as goal

pub returns-clause-apart : goal.returns-clause-apart
returns-clause-apart g c =
    rw (← c.self.view_is) (named_apart g.R.Named.name_of c.self.inside.rows.items c.self.inside.by_name.items c.self.invariant.1)
