use Rattle.std.proofs.Common.{length, refl, rules, arith}
use Rattle.std.specs.Ordering.{is_lt}
use Rattle.std.proofs.lemmas.Cmp.{nat_list_cmp_total}
use Rattle.std.proofs.lemmas.Fn.{always_returns_same}
use Rattle.std.proofs.lemmas.Iterator.{YieldsList-from_range, items_from_collect}
use Rattle.std.proofs.lemmas.List.Sorted.{ranks_by}
use Rattle.nf_defs.specs.Puts.{key_cmp}
use Rattle.nf_people.specs.Names.{name_at}
use Rattle.nf_people.proofs.NameIndex.{index_sorted}
use Rattle.nf_people.proofs.names.places_by_name.Goals as goal

pub returns : goal.returns
returns g c =
    let name = g.R.Named.name_of in
    let rows = c.args.rows.now in
    let n = length rows in
    let all = items_from_collect c.collect.result c.collect.ensures.ran (YieldsList-from_range 0 n n refl (omega arith)) in
    let items = rw c.in_ok-places.was at all in
    let sorted = c.sort_unstable_by.ensures.sorted (λ a b. is_lt (key_cmp (name_at name rows a) (name_at name rows b)))
    (ranks_by nat_list_cmp_total (name_at name rows)) (always_returns_same _ _ _ (λ a r f' called. (search rules, search rules))) in
    let moved = rw items at c.sort_unstable_by.ensures.permutation in
    index_sorted name rows n c.sort_unstable_by.new.self.items refl c.requires moved sorted
