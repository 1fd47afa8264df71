use Rattle.std.proofs.Common.{length, ap, arith}
use Rattle.nf_mounts.proofs.Puts.{few}
use Rattle.nf_mounts.proofs.mounts.Mounts.reserve.Goals as goal

pub overflow_sub-fewer : goal.overflow_sub-fewer
overflow_sub-fewer c =
    let less = few c.self.inside.by_name.rows c.self.inside.rows.rows c.self.invariant.names in
    let same = ap length c.in_ok-reserve.ensures.rows in
    omega arith
