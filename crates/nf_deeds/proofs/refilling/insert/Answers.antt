use Rattle.std.proofs.Common.{rules, ◌∙◌}
use Rattle.std.proofs.lemmas.Fn.{always_returns_same}
use Rattle.nf_deeds.proofs.Refills.{below, inserted, part_before}
use Rattle.nf_deeds.proofs.refilling.insert.Goals as goal

pub returns : goal.returns
returns c =
    let version = c.args.version in
    let others = c.args.held.now.items in
    let pair = (rw c.deref.ensures.value at c.partition_point-place.ensures.partitioned) (below version.at)
    (always_returns_same _ _ _ (λ a r f' called. (search rules, search rules))) (part_before version.at others c.requires) in
    c.in_ok-insert.ensures.items ∙ inserted version others c.partition_point-place.result pair.0 pair.1
