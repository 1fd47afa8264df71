use Rattle.std.proofs.Common.{rules, ◌≡◌, ap, subst}
use Rattle.std.specs.List.Sorted.{IsPermutation}
use Rattle.std.specs.Ordering.{is_lt}
use Rattle.std.proofs.lemmas.Fn.{always_returns_same}
use Rattle.nf_tree.specs.Order.{key_lt, key_cmp, key_at}
use Rattle.nf_tree.proofs.Orders.{place_lt, places_weak, sorted_index}
use Rattle.nf_tree.proofs.order.sort.Goals as goal

pub returns-clause-index : goal.returns-clause-index
unfolding key_lt
returns-clause-index c =
    let places = subst (λ list. IsPermutation list c.sort_unstable_by.new.self.items) c.requires.all c.sort_unstable_by.ensures.permutation in
    let sorted = c.sort_unstable_by.ensures.sorted (place_lt c.args.rows.now) (places_weak c.args.rows.now) (always_returns_same _ _ _ (λ a r g called.
    let e : r ≡ key_cmp (key_at c.args.rows.now a.0.now) (key_at c.args.rows.now a.1.0.now) = search rules in
    (ap is_lt e, search rules))) in
    sorted_index c.args.rows.now c.sort_unstable_by.new.self.items c.requires.rising places sorted
