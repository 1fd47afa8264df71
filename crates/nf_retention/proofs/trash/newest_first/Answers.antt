use Rattle.std.proofs.Common.{◌≡◌, ap, rules, ◌∙◌}
use Rattle.std.specs.Ordering.{is_lt, nat_cmp, ordering_then}
use Rattle.std.proofs.lemmas.Fn.{always_returns_same}
use Rattle.nf_retention.proofs.Newest.{carried_first, compared, firsts_order, is_first}
use Rattle.nf_retention.proofs.Puts.{puts, stable_sort}
use Rattle.nf_retention.proofs.trash.newest_first.Goals as goal

pub returns : goal.returns
returns c = λ size items is.
    let compares = always_returns_same _ _ _ (λ a r f called.
    let e : r ≡ ordering_then (nat_cmp a.1.0.now.at a.0.now.at) (nat_cmp a.1.0.now.node a.0.now.node) = search rules in
    (ap is_lt e ∙ compared a.0.now.at a.0.now.node a.1.0.now.at a.1.0.now.node, search rules)) in
    stable_sort is_first firsts_order c.args.trashed.items c.sort_by.new.self.items
    (c.in_ok-sort_by.ensures.sorted is_first firsts_order compares)
    (c.in_ok-sort_by.ensures.stable is_first firsts_order compares)
    ∙ ap (puts is_first) is ∙ carried_first size items
