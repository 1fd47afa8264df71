use Rattle.std.proofs.Common.{rules}
use Rattle.std.specs.Ordering.{is_lt}
use Rattle.std.proofs.lemmas.Cmp.{nat_list_cmp_total}
use Rattle.std.proofs.lemmas.Fn.{always_returns_same}
use Rattle.std.proofs.lemmas.List.Sorted.{ranks_by}
use Rattle.nf_defs.specs.Puts.{key_cmp}
use Rattle.nf_mounts.specs.Kept.{entry_key}
use Rattle.nf_mounts.proofs.Loaded.{index_loaded}
use Rattle.nf_mounts.proofs.names.sorted_entries.Goals as goal

pub returns : goal.returns
returns c =
    let sorted = c.sort_unstable_by.ensures.sorted (λ a b. is_lt (key_cmp (entry_key a) (entry_key b)))
    (ranks_by nat_list_cmp_total entry_key) (always_returns_same _ _ _ (λ a r f' called. (search rules, search rules))) in
    let moved = rw c.in_ok-entries.ensures at c.sort_unstable_by.ensures.permutation in
    index_loaded c.args.rows.now c.sort_unstable_by.new.self.items c.requires moved sorted
