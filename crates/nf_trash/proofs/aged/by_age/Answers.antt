use Rattle.std.proofs.Common.{rules, subst}
use Rattle.std.specs.List.Sorted.{IsPermutation}
use Rattle.std.proofs.lemmas.Fn.{always_returns_same}
use Rattle.nf_trash.proofs.Kept.{below_order, is_below, sorted_aged}
use Rattle.nf_trash.proofs.aged.by_age.Goals as goal

pub returns : goal.returns
returns c =
    let aged = c.sort_by.new.self.items in
    let compares = always_returns_same _ _ _ (λ a r f called. (search rules, search rules)) in
    sorted_aged c.args.items.now aged c.requires (c.in_ok-sort_by.ensures.sorted is_below below_order compares)
    (subst (λ all. IsPermutation all aged) c.in_ok-aged.ensures c.sort_by.ensures.permutation)
