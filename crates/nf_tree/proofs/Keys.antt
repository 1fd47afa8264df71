-- The order of the keys is total, and keys that tie are equal.
use Rattle.std.proofs.Common.{ℕ, ◌≡◌, false, List, Option, Some, None, refl, ap, ◌∙◌, nat_cmp, Less, Equal, Greater}
use Rattle.std.specs.Cmp.{IsTotalOrder, IsStrictWeakOrder}
use Rattle.std.specs.Cmp.Lexicographic.{slice_cmp, options_total}
use Rattle.std.specs.declared.cmp.Ordering.{Ordering}
use Rattle.std.specs.Option.{option_cmp}
use Rattle.std.specs.Ordering.{ordering_then, ordering_reverse, is_lt, is_gt}
use Rattle.std.proofs.lemmas.Cmp.{then_total, on_total, nat_list_cmp_total, nat_cmp_total}
use Rattle.std.proofs.lemmas.List.Sorted.{ranks_by}
use Rattle.nf_base.proofs.Naming.{slice_cmp-Equal}
use Rattle.nf_defs.proofs.Sorted.{nat_tie, then_equal}
use Rattle.nf_tree.specs.Order.{Key, key_cmp, key_lt}

pub key_total : IsTotalOrder key_cmp
key_total =
    then_total (on_total (λ (key : Key). key.folder) (options_total nat_cmp_total))
    (then_total (on_total (λ (key : Key). key.name) nat_list_cmp_total) (on_total (λ (key : Key). key.id) nat_cmp_total))

pub weak : IsStrictWeakOrder key_lt
unfolding key_lt
weak = ranks_by key_total (λ key. key)

-- ---- ties

pub option_tie : (x y : Option ℕ) → option_cmp nat_cmp x y ≡ Equal → x ≡ y
option_tie None None h = refl
option_tie None (Some y) h = absurd (cc)
option_tie (Some x) None h = absurd (cc)
option_tie (Some x) (Some y) h = ap Some (nat_tie x y h)

level : (o : Ordering) → is_lt o ≡ false → is_gt o ≡ false → o ≡ Equal
level Less h g = absurd (cc)
level Equal h g = refl
level Greater h g = absurd (cc)

is_gt_back : (a b : Key) → is_gt (key_cmp a b) ≡ key_lt b a
unfolding key_lt
is_gt_back a b = ap is_gt (key_total.antisymm a b) ∙ turned (key_cmp b a)
  where
    turned : (o : Ordering) → is_gt (ordering_reverse o) ≡ is_lt o
    turned Less = refl
    turned Equal = refl
    turned Greater = refl

-- neither comes before the other: they have one number
pub same_number : (a b : Key) → key_lt a b ≡ false → key_lt b a ≡ false → a.id ≡ b.id
unfolding key_lt
same_number a b low high =
    let tied = level (key_cmp a b) low (is_gt_back a b ∙ high) in
    let names = then_equal _ _ (then_equal _ _ tied).1 in
    nat_tie a.id b.id names.1

-- between two keys of one folder and one name there is no other folder or name
between : (o p c d : Ordering) → is_lt (ordering_then o (ordering_then p c)) ≡ false → is_gt (ordering_then o (ordering_then p d)) ≡ false
    → (o ≡ Equal) × (p ≡ Equal)
between Less p c d low high = absurd (cc)
between Greater p c d low high = absurd (cc)
between Equal Less c d low high = absurd (cc)
between Equal Greater c d low high = absurd (cc)
between Equal Equal c d low high = (refl, refl)

pub squeezed : (key : Key) (folder : Option ℕ) (name : List ℕ) (i j : ℕ)
    → key_lt key (record { folder = folder; name = name; id = i }) ≡ false
    → key_lt (record { folder = folder; name = name; id = j }) key ≡ false
    → (key.folder ≡ folder) × (key.name ≡ name)
unfolding key_lt
squeezed key folder name i j low high =
    let e = between (option_cmp nat_cmp key.folder folder) (slice_cmp nat_cmp key.name name) (nat_cmp key.id i) (nat_cmp key.id j) low
    (is_gt_back key (record { folder = folder; name = name; id = j }) ∙ high) in
    (option_tie _ _ e.0, (slice_cmp-Equal key.name name).0 e.1)

-- between two keys of one folder there is no other folder
between_folders : (o c d : Ordering) → is_lt (ordering_then o c) ≡ false → is_gt (ordering_then o d) ≡ false → o ≡ Equal
between_folders Less c d low high = absurd (cc)
between_folders Equal c d low high = refl
between_folders Greater c d low high = absurd (cc)

pub squeezed_folder : (key low high : Key) → low.folder ≡ high.folder → key_lt key low ≡ false → key_lt high key ≡ false → key.folder ≡ low.folder
unfolding key_lt
squeezed_folder key low high same below above =
    let top = is_gt_back key high ∙ above in
    let e = between_folders (option_cmp nat_cmp key.folder low.folder) (ordering_then (slice_cmp nat_cmp key.name low.name) (nat_cmp key.id low.id))
    (ordering_then (slice_cmp nat_cmp key.name high.name) (nat_cmp key.id high.id)) below (rw same top) in
    option_tie _ _ e
