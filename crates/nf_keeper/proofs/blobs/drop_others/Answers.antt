use Rattle.std.proofs.Common.{◌≡◌, ◌==◌, ℕ, List, rules, sym, subst}
use Rattle.std.proofs.lemmas.Fn.{filter_same}
use Rattle.std.proofs.lemmas.List.Sorted.{list_any-IsPermutation}
use Rattle.std.proofs.lemmas.List.Kept.{AllPairs-filter}
use Rattle.std.specs.List.Sorted.{IsPermutation}
use Rattle.std.specs.declared.cmp.Ordering.TheVariants.{Less}
use Rattle.nf_defs.specs.Prelude.{blob_key, IsRising, key_cmp}
use Rattle.nf_keeper.specs.Keeping.{is_kept}
use Rattle.nf_keeper.proofs.blobs.drop_others.Goals as goal

pub returns-clause-kept : goal.returns-clause-kept
returns-clause-kept c =
    let sorted = c.as_slice-sorted.result.now in
    let same : c.in_ok-kept.kept.items ≡ c.args.keep.now = search rules in
    let moved : IsPermutation c.args.keep.now sorted =
    rw c.as_slice-sorted.ensures.value (subst (λ (ids : List ℕ). IsPermutation ids c.sort_unstable.new.self.items) same c.sort_unstable.ensures.permutation) in
    filter_same _ _ _ (λ x b f' k. let alike = list_any-IsPermutation (λ kept. kept == x.0) c.args.keep.now sorted moved in search (rules, alike)) _ _
    c.retain.ensures.filtered

pub returns-clause-rising : goal.returns-clause-rising
returns-clause-rising c =
    subst (λ (xs : List (ℕ × List ℕ)). IsRising blob_key xs) (sym (returns-clause-kept c))
    (AllPairs-filter (λ a b. key_cmp (blob_key a) (blob_key b) ≡ Less) (is_kept c.args.keep.now) c.args.blobs.now.items c.requires)
