use Rattle.std.proofs.Common.{rules}
use Rattle.std.proofs.lemmas.Fn.{always_returns_same}
use Rattle.nf_table.proofs.Fronts.{below, equal, equal_part, front_is, lower_part}
use Rattle.nf_table.proofs.keys.front_of.Goals as goal

pub returns : goal.returns
returns g c =
    let key = g.R.Keyed.key in
    let front = g.R.BegunBy.numbers c.args.front.now in
    let rows = c.args.rows.now in
    let from = c.partition_point-from.result in
    let first = c.partition_point-from.ensures.partitioned (below key front rows)
    (always_returns_same _ _ _ (λ a r f' called. (search rules, search rules))) (lower_part key front rows c.requires) in
    let second = (rw c.split_at.ensures.back at c.partition_point-count.ensures.partitioned) (equal key front rows)
    (always_returns_same _ _ _ (λ a r f' called. (search rules, search rules))) (equal_part key front rows c.requires from first.1) in
    rw c.split_at.ensures.back (front_is key front rows from c.partition_point-count.result first.0 second.0 second.1)
