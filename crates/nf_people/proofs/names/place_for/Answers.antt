use Rattle.nf_people.proofs.NameIndex.{never_found, parts_of_search}
use Rattle.nf_people.proofs.names.place_for.Goals as goal

pub returns-in-Ok-clause-parts : goal.returns-in-Ok-clause-parts
returns-in-Ok-clause-parts g c =
    absurd (never_found g.R.Named.name_of c.args.rows.now c.args.places.now c.requires.index c.args.name.now c.in-Ok.at
    c.in-Ok.ensures.bound c.in-Ok.ensures.place c.requires.free)

pub returns-in-Err-clause-parts : goal.returns-in-Err-clause-parts
returns-in-Err-clause-parts g c =
    parts_of_search g.R.Named.name_of c.args.rows.now c.args.places.now c.requires.index c.args.name.now c.in-Err.at c.in-Err.ensures.place
