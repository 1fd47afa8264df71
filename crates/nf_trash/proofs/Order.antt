-- The order of items by their owners and age: a list in that order is known by what is in it.
use Rattle.std.proofs.Common.{◌≡◌, ◌<◌, ◌≤◌, ◌+◌, ◌∙◌, ◌⊎◌, ℕ, cond, Bool, true, false, List, [], ◌∷◌, get_or, map, refl, sym, ap, subst, inl, inr, arith}
use Rattle.std.specs.List.{All, AllPairs, sum_by}
use Rattle.std.specs.Ordering.{is_lt}
use Rattle.std.specs.Prelude.{◌==◌, ◌&&◌, ◌||◌, nat_le, nat_lt}
use Rattle.std.specs.declared.cmp.Ordering.TheVariants.{Less}
use Rattle.std.proofs.lemmas.Bool.Decides.{nat_tests}
use Rattle.std.proofs.lemmas.List.Elements.{All-cons, All-head, All-tail}
use Rattle.std.proofs.lemmas.List.Sorted.{All-permutation, IsPermutation-reverse, sum_by-IsPermutation}
use Rattle.std.proofs.lemmas.List.Sums.{sum_by-cons}
use Rattle.nf_base.specs.declared.rows.ItemRow.{ItemRow}
use Rattle.nf_defs.specs.Prelude.{IsRising, key_cmp}
use Rattle.nf_retention.specs.Trash.{newest_first}
use Rattle.nf_retention.proofs.Newest.{newest_right}
use Rattle.nf_trash.specs.Aged.{age_key, aged_of, is_newer, oldest_first}
use Rattle.nf_trash.specs.declared.aged.Aged.{Aged}
use Rattle.nf_trash.proofs.Lists.{pairs_head, pairs_map, pairs_reverse, pairs_tail, sum_made}

-- ---- the order

-- of an earlier owner, or of the same and no newer
abbrev pub is_upto : Aged → Aged → Bool
is_upto a b = nat_lt a.owner b.owner || a.owner == b.owner && (nat_lt a.at b.at || a.at == b.at && nat_le a.node b.node)

-- the same, as a fact
abbrev pub UpTo : Aged → Aged → Type 0
UpTo a b = is_upto a b ≡ true

-- it is told of one and the same
abbrev pub is_same : Aged → Aged → Bool
is_same a b = a.owner == b.owner && (a.at == b.at && a.node == b.node)

-- what is told of an item is its owner, its moment and its node
same_is : (a b : Aged) → a.owner ≡ b.owner → a.at ≡ b.at → a.node ≡ b.node → a ≡ b
same_is a b p q r = λ i. record { owner = p i; at = q i; node = r i }

-- so the test tells
told_same : (a b : Aged) → is_same a b ≡ true → a ≡ b
told_same a b same = same_is a b (grind (arith, nat_tests)) (grind (arith, nat_tests)) (grind (arith, nat_tests))

-- one is the same as itself
same_itself : (a : Aged) → is_same a a ≡ true
same_itself a = grind (arith, nat_tests)

-- and no newer than itself
pub upto_itself : (a : Aged) → UpTo a a
upto_itself a = grind (arith, nat_tests)

-- two that are no newer than each other are one
pub upto_both : (a b : Aged) → UpTo a b → UpTo b a → a ≡ b
upto_both a b first second = same_is a b (grind (arith, nat_tests)) (grind (arith, nat_tests)) (grind (arith, nat_tests))

-- it goes on from one to the next
pub upto_on : (a b c : Aged) → UpTo a b → UpTo b c → UpTo a c
upto_on a b c first second = grind (arith, nat_tests)

-- as keys stand
pub below_upto : (a b : Aged) → key_cmp (age_key a) (age_key b) ≡ Less → UpTo a b
below_upto a b below = grind (arith, nat_tests)

-- the other way round
pub not_below_upto : (a b : Aged) → is_lt (key_cmp (age_key b) (age_key a)) ≡ false → UpTo a b
not_below_upto a b not_below = grind (arith, nat_tests)

-- and strictly, where they differ
pub upto_below : (a b : Aged) → UpTo a b → (a ≡ b → ⊥) → key_cmp (age_key a) (age_key b) ≡ Less
upto_below a b upto differ = here (is_same a b) refl
  where
    here : (same : Bool) → is_same a b ≡ same → key_cmp (age_key a) (age_key b) ≡ Less
    here true same = absurd (differ (told_same a b same))
    here false same = grind (arith, nat_tests)

-- as of one owner the newer and the older stand
pub older_upto : (one : Aged) (item : ItemRow) → one.owner ≡ item.owner → is_newer one item ≡ false → UpTo one (aged_of item)
older_upto one item own older = grind (arith, nat_tests)

-- and the newer
pub upto_newer : (one : Aged) (item : ItemRow) → one.owner ≡ item.owner → is_newer one item ≡ true → UpTo (aged_of item) one
upto_newer one item own newer = grind (arith, nat_tests)

-- ---- one list

-- what rises by its keys is in order
pub rising_up : (xs : List Aged) → IsRising age_key xs → AllPairs UpTo xs
rising_up xs rising i j d before within = below_upto (get_or xs i d) (get_or xs j d) (rising i j d before within)

-- what all have has one that counts among them
one_of : (P : Aged → Type 0) (x : Aged) (ys : List Aged) → All P ys → 1 ≤ sum_by (λ y. cond (is_same x y) 1 0) ys → P x
one_of P x [] all some = absurd (omega arith)
one_of P x (y ∷ ys) all some =
    here (is_same x y) refl (omega (arith, sum_by-cons (λ y. cond (is_same x y) 1 0) y ys)) (one_of P x ys (All-tail P y ys all))
  where
    here : (b : Bool) → is_same x y ≡ b → 1 ≤ cond (is_same x y) 1 0 + sum_by (λ y. cond (is_same x y) 1 0) ys
        → (1 ≤ sum_by (λ y. cond (is_same x y) 1 0) ys → P x) → P x
    here true same some rest = subst P (sym (told_same x y same)) (All-head P y ys all)
    here false other some rest = let more = rw other at some in rest (omega arith)

-- by the same numbers the same come first, and the rest
pub one_list : (xs ys : List Aged) → AllPairs UpTo xs → AllPairs UpTo ys → ((f : Aged → ℕ) → sum_by f xs ≡ sum_by f ys) → xs ≡ ys
one_list [] [] xs_up ys_up same = refl
one_list [] (y ∷ ys) xs_up ys_up same = absurd (omega (arith, sum_by-cons (λ (x : Aged). 1) y ys, same (λ x. 1)))
one_list (x ∷ xs) [] xs_up ys_up same = absurd (omega (arith, sum_by-cons (λ (x : Aged). 1) x xs, same (λ x. 1)))
one_list (x ∷ xs) (y ∷ ys) xs_up ys_up same =
    let low = one_of (UpTo y) x (y ∷ ys) (All-cons (UpTo y) y ys (upto_itself y) (pairs_head UpTo y ys ys_up)) (there x xs (y ∷ ys) same) in
    let high = one_of (UpTo x) y (x ∷ xs) (All-cons (UpTo x) x xs (upto_itself x) (pairs_head UpTo x xs xs_up)) (there y ys (x ∷ xs) (λ f. sym (same f))) in
    let first : x ≡ y = upto_both x y high low in
    let rest = one_list xs ys (pairs_tail UpTo x xs xs_up) (pairs_tail UpTo y ys ys_up)
    (λ f. omega (arith, sum_by-cons f x xs, sum_by-cons f y ys, same f, ap f first)) in
    cc
  where
    there : (a : Aged) (rest bs : List Aged) → ((f : Aged → ℕ) → sum_by f (a ∷ rest) ≡ sum_by f bs) → 1 ≤ sum_by (λ b. cond (is_same a b) 1 0) bs
    there a rest bs same =
        let one : cond {A = ℕ} (is_same a a) 1 0 ≡ 1 = rw (same_itself a) refl in
        omega (arith, sum_by-cons (λ b. cond (is_same a b) 1 0) a rest, same (λ b. cond (is_same a b) 1 0))

-- ---- from the oldest on

-- a user's items from the oldest on are in order
newest_up : (user : ℕ) (items : List ItemRow) → All (λ item. item.owner ≡ user) items → AllPairs UpTo (oldest_first items)
newest_up user items own =
    let newest = newest_right items in
    let owned = All-permutation (λ item. item.owner ≡ user) items (newest_first items) newest.1 own in
    pairs_reverse UpTo (map aged_of (newest_first items))
    (pairs_map (λ a b. UpTo b a) aged_of (newest_first items)
    (λ i j d before within.
    turned (get_or (newest_first items) i d) (get_or (newest_first items) j d) (owned i d (omega arith)) (owned j d within) (newest.0 i j d before within)))
  where
    turned : (newer older : ItemRow) → newer.owner ≡ user → older.owner ≡ user
        → (older.at < newer.at) ⊎ ((older.at ≡ newer.at) × (older.node ≤ newer.node)) → UpTo (aged_of older) (aged_of newer)
    turned newer older first second (inl before) = grind (arith, nat_tests)
    turned newer older first second (inr same) = let at = same.0 in let node = same.1 in grind (arith, nat_tests)

-- they are the items
newest_same : (items : List ItemRow) (f : Aged → ℕ) → sum_by f (oldest_first items) ≡ sum_by (λ item. f (aged_of item)) items
newest_same items f =
    sum_by-IsPermutation f (map aged_of (newest_first items)) (oldest_first items) (IsPermutation-reverse (map aged_of (newest_first items)))
    ∙ sum_made f aged_of (newest_first items)
    ∙ sum_by-IsPermutation (λ item. f (aged_of item)) items (newest_first items) (newest_right items).1

-- a user's items in order are they
pub oldest_is : (user : ℕ) (items : List ItemRow) (xs : List Aged) → All (λ item. item.owner ≡ user) items → AllPairs UpTo xs
    → ((f : Aged → ℕ) → sum_by f xs ≡ sum_by (λ item. f (aged_of item)) items) → xs ≡ oldest_first items
oldest_is user items xs own up same =
    one_list xs (oldest_first items) up (newest_up user items own) (λ f. same f ∙ sym (newest_same items f))
