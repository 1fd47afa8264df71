use Rattle.std.proofs.Common.{◌≡◌, ap, rules, ◌∙◌}
use Rattle.std.specs.Ordering.{is_lt, nat_cmp, ordering_then}
use Rattle.std.proofs.lemmas.Fn.{always_returns_same}
use Rattle.nf_retention.proofs.Latest.{latest_order, puts_latest}
use Rattle.nf_retention.proofs.Newest.{compared}
use Rattle.nf_retention.proofs.Puts.{stable_sort}
use Rattle.nf_retention.specs.Versions.{is_later}
use Rattle.nf_retention.proofs.versions.latest_first.Goals as goal

pub returns : goal.returns
returns c =
    let compares = always_returns_same _ _ _ (λ a r f called.
    let e : r ≡ ordering_then (nat_cmp a.1.0.now.at a.0.now.at) (nat_cmp a.1.0.now.node a.0.now.node) = search rules in
    (ap is_lt e ∙ compared a.0.now.at a.0.now.node a.1.0.now.at a.1.0.now.node, search rules)) in
    stable_sort is_later latest_order c.args.versions.items c.sort_by.new.self.items
    (c.in_ok-sort_by.ensures.sorted is_later latest_order compares)
    (c.in_ok-sort_by.ensures.stable is_later latest_order compares)
    ∙ puts_latest c.args.versions.items
