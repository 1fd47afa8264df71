use Rattle.std.proofs.Common.{[], ◌∷◌, arith}
use Rattle.nf_defs.specs.Prelude.{dropped, item_key}
use Rattle.nf_defs.proofs.Puts.{dropped_length}
use Rattle.nf_trash.proofs.Kept.{put_aged, same_length}
use Rattle.nf_trash.proofs.trash.Trash.put.Goals as goal

pub put_reserved-requires-clause-rising : goal.put_reserved-requires-clause-rising
put_reserved-requires-clause-rising c = c.forget.ensures.aged.rising

pub put_reserved-requires-clause-room : goal.put_reserved-requires-clause-room
put_reserved-requires-clause-room c =
    let node = c.args.item.node ∷ [] in
    let rows = c.self.inside.items.rows in
    let same = same_length (dropped item_key node rows) c.forget.new.aged.items c.forget.ensures.aged.same in
    let fewer = dropped_length item_key node rows in
    let room = rw (← c.self.view_is) at c.requires in
    omega (arith, c.forget.ensures.room)

pub invariant_of-self : goal.invariant_of-self
invariant_of-self c =
    rw (c.put.ensures.rows, c.put_reserved.ensures.items, c.aged_of.ensures)
    (put_aged c.args.item c.self.inside.items.rows c.forget.new.aged.items c.self.invariant.nodes c.forget.ensures.aged)
