use Rattle.std.proofs.Common.{rules}
use Rattle.nf_trash.proofs.Kept.{forgotten_none, forgotten_one}
use Rattle.nf_trash.proofs.trash.forget.Goals as goal

pub drop_row-requires : goal.drop_row-requires
drop_row-requires c = c.requires.rising

pub returns-in-Some-clause-aged : goal.returns-in-Some-clause-aged
returns-in-Some-clause-aged c =
    rw (c.drop_row.ensures.rows, c.aged_of.ensures)
    (forgotten_one c.in-Some.item.now c.args.node c.args.items.now.rows c.args.aged.now.items (search rules) c.requires)

pub returns-in_default-clause-aged : goal.returns-in_default-clause-aged
returns-in_default-clause-aged c = forgotten_none c.args.node c.args.items.now.rows c.args.aged.now.items (search rules) c.requires
