use Rattle.std.proofs.Common.{rules}
use Rattle.std.proofs.lemmas.Fn.{always_returns_same}
use Rattle.nf_trash.proofs.Order.{rising_up}
use Rattle.nf_trash.proofs.Parts.{newer_rest, no_newer, older_front, older_part}
use Rattle.nf_trash.proofs.aged.count_to.Goals as goal

pub returns-clause-older : goal.returns-clause-older
returns-clause-older c =
    let up = rising_up c.args.aged.now c.requires.rising in
    let parts = c.partition_point.ensures.partitioned (no_newer c.args.item.now c.args.aged.now up c.requires.own)
    (always_returns_same _ _ _ (λ a r f' called. (search rules, search rules))) (older_part c.args.item.now c.args.aged.now up c.requires.own) in
    older_front c.args.item.now c.args.aged.now up c.requires.own c.partition_point.result parts.0 parts.1

pub returns-clause-newer : goal.returns-clause-newer
returns-clause-newer c =
    let up = rising_up c.args.aged.now c.requires.rising in
    let parts = c.partition_point.ensures.partitioned (no_newer c.args.item.now c.args.aged.now up c.requires.own)
    (always_returns_same _ _ _ (λ a r f' called. (search rules, search rules))) (older_part c.args.item.now c.args.aged.now up c.requires.own) in
    newer_rest c.args.item.now c.args.aged.now up c.requires.own c.partition_point.result parts.0 parts.1
