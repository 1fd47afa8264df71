use Rattle.std.proofs.Common.{◌≡◌, length, ap, arith}
use Rattle.std.proofs.lemmas.Result.{on_ok_weaker}
use Rattle.nf_trash.proofs.Kept.{same_length}
use Rattle.nf_trash.proofs.trash.Trash.reserve.Goals as goal

pub returns-clause-room : goal.returns-clause-room
returns-clause-room c =
    let same = same_length c.self.inside.items.rows c.self.inside.aged.items c.self.invariant.same in
    let rows : length c.reserve.new.self.rows ≡ length c.self.inside.items.rows = ap length c.reserve.ensures.rows in
    let long = c.self.inside.aged.ok.0 in
    on_ok_weaker c.reserve-2.result (λ fits. omega (arith, c.reserve-2.ensures.len, c.in_ok-reserve.ensures.room)) c.reserve-2.ensures.ok
