use Rattle.std.proofs.Common.{◌≡◌, length}
use Rattle.nf_people.proofs.NameIndex.{index_pushed, pushed_is, pushed_rising}
use Rattle.nf_people.proofs.names.NamedRows.add.Goals as goal

pub invariant_of-self-2 : goal.invariant_of-self-2
invariant_of-self-2 g c =
    let key = g.R.Keyed.key in
    let name = g.R.Named.name_of in
    let rows = c.self.inside.rows.items in
    let places = c.self.inside.by_name.items in
    let row = c.args.row in
    let above = rw (← c.self.view_is) at c.requires.above in
    let parts = rw (c.deref.ensures.value, c.reserve.ensures.items, c.deref-2.ensures.value, c.as_bytes.ensures.bytes, c.name.ensures)
    at c.place_for-at.ensures.parts in
    let bound = rw c.deref-2.ensures.value at c.place_for-at.ensures.bound in
    let count : c.len.result ≡ length rows = cc in
    rw (c.push_reserved.ensures.items, c.reserve.ensures.items, c.in_ok-insert.ensures.items, count)
    (pushed_rising name key rows row c.self.invariant.0 above, index_pushed name rows row places c.self.invariant.1 c.place_for-at.result bound parts)

pub returns-clause-ok : goal.returns-clause-ok
returns-clause-ok g c =
    let key = g.R.Keyed.key in
    let rows = c.self.inside.rows.items in
    let above = rw (← c.self.view_is) at c.requires.above in
    rw (c.push_reserved.ensures.items, c.reserve.ensures.items, ← c.self.view_is)
    (pushed_is g.R.Named.name_of key rows c.args.row c.self.invariant.0 above)
