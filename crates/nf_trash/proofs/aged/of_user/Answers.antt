use Rattle.std.proofs.Common.{rules}
use Rattle.std.proofs.lemmas.Fn.{always_returns_same}
use Rattle.nf_trash.proofs.Order.{rising_up}
use Rattle.nf_trash.proofs.Parts.{before, before_part, upto, upto_part, users_part}
use Rattle.nf_trash.proofs.aged.of_user.Goals as goal

pub returns : goal.returns
returns c =
    let user = c.args.user in
    let aged = c.args.aged.now in
    let up = rising_up aged c.requires in
    let from = c.partition_point-from.result in
    let first = c.partition_point-from.ensures.partitioned (before user aged up)
    (always_returns_same _ _ _ (λ a r f' called. (search rules, search rules))) (before_part user aged up) in
    let second = (rw c.split_at.ensures.back at c.partition_point-count.ensures.partitioned) (upto user aged up)
    (always_returns_same _ _ _ (λ a r f' called. (search rules, search rules))) (upto_part user aged up from) in
    let within = rw c.split_at.ensures.back at c.partition_point-count.ensures.bound in
    rw c.split_at.ensures.back (users_part user aged up from c.partition_point-count.result first.0 first.1 second.0 second.1 within)
