use Rattle.std.proofs.Common.{length, ap, arith}
use Rattle.nf_mounts.proofs.Puts.{few}
use Rattle.nf_mounts.proofs.names.name_index.Goals as goal

pub overflow_sub-others : goal.overflow_sub-others
overflow_sub-others c =
    let less = few c.in_ok-sorted_entries.field-0.items c.args.rows.now c.in_ok-sorted_entries.ensures in
    let same = ap length c.of-index.ensures in
    omega arith
