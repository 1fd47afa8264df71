use Rattle.std.proofs.Common.{arith}
use Rattle.nf_trash.proofs.Kept.{same_length}
use Rattle.nf_trash.proofs.trash.Trash.count.Goals as goal

pub returns-clause-room : goal.returns-clause-room
returns-clause-room c =
    let same = same_length c.self.inside.items.rows c.self.inside.aged.items c.self.invariant.same in
    rw (← c.self.view_is) (omega (arith, c.count.ensures.room))
