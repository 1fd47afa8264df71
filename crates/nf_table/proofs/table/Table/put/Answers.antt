use Rattle.std.proofs.Common.{sym, ◌∙◌}
use Rattle.nf_defs.proofs.Lookups.{find_nowhere, is_sought}
use Rattle.nf_table.proofs.table.Table.put.Goals as goal

pub put_at-requires-clause-room : goal.put_at-requires-clause-room
put_at-requires-clause-room g c none =
    let key = g.R.Keyed.key in
    let nowhere = rw c.deref.ensures.value at (sym none ∙ c.place_for-place.ensures) in
    (rw (← c.self.view_is) at c.requires) (sym (find_nowhere (is_sought key (key c.args.row)) c.self.inside.rows.items nowhere))
