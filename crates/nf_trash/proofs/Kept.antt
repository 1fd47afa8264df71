-- The index by age as items come and go.
use Rattle.std.proofs.Common.{◌≡◌, ◌≢◌, ◌≤◌, ◌+◌, ◌∙◌, ℕ, cond, Bool, true, false, bytes_eq, List, [], ◌∷◌, None, Some, length, get_or, map, not, refl, sym, ap, subst, arith}
use Rattle.std.specs.Cmp.{IsStrictWeakOrder}
use Rattle.std.specs.List.{All, AllPairs, filter, list_any, sum_by}
use Rattle.std.specs.List.Sorted.{IsPermutation, IsSortedBy}
use Rattle.std.specs.Ordering.{is_lt}
use Rattle.std.specs.Prelude.{◌==◌, ◌&&◌, find}
use Rattle.std.specs.declared.cmp.Ordering.{Ordering}
use Rattle.std.specs.declared.cmp.Ordering.TheVariants.{Less, Equal, Greater}
use Rattle.std.proofs.lemmas.Bool.{eqb-true}
use Rattle.std.proofs.lemmas.Bool.Decides.{nat_tests}
use Rattle.std.proofs.lemmas.List.Elements.{All-cons, All-head, All-nil, All-tail, filter_passes}
use Rattle.std.proofs.lemmas.List.Kept.{AllPairs-cons, AllPairs-filter}
use Rattle.std.proofs.lemmas.List.Sorted.{ranks_by, sorted_far, sum_by-IsPermutation}
use Rattle.std.proofs.lemmas.List.Sums.{get_or-le-sum_by, sum_by-cons}
use Rattle.nf_base.specs.declared.rows.ItemRow.{ItemRow}
use Rattle.nf_defs.specs.Prelude.{by_order, dropped, IsRising, item_key, key_cmp, put}
use Rattle.nf_defs.proofs.Lookups.{equal_bytes, none_dropped}
use Rattle.nf_defs.proofs.Puts.{Below, below_rest, key_total, put_rising, tail_rising}
use Rattle.nf_table.specs.Rows.{row_at}
use Rattle.nf_trash.specs.Aged.{IsAged, age_key, aged_of}
use Rattle.nf_trash.specs.declared.aged.Aged.{Aged}
use Rattle.nf_trash.proofs.Lists.{no_pairs, none_passed, pairs_head, pairs_tail, sum_agree, sum_made, sum_none, sum_ones, sum_passed}
use Rattle.nf_trash.proofs.Order.{UpTo, not_below_upto, upto_below}

-- ---- the same items

-- by whatever number each counts, they come to the same
abbrev pub AreSame : List ItemRow → List Aged → Type 0
AreSame items aged = (count : Aged → ℕ) → sum_by count aged ≡ sum_by (λ item. count (aged_of item)) items

-- so do those that pass tests that agree
pub same_passed : (items : List ItemRow) (aged : List Aged) (q : ItemRow → Bool) (p : Aged → Bool) → All (λ item. q item ≡ p (aged_of item)) items
    → AreSame items aged → AreSame (filter q items) (filter p aged)
same_passed items aged q p agree same count =
    sum_passed count p aged ∙ same (λ one. cond (p one) (count one) 0)
    ∙ sum_agree (λ item. cond (p (aged_of item)) (count (aged_of item)) 0) (λ item. cond (q item) (count (aged_of item)) 0) items
    (λ k d within. ap (λ b. cond b (count (aged_of (get_or items k d))) 0) (sym (agree k d within)))
    ∙ sym (sum_passed (λ item. count (aged_of item)) q items)

-- and there are as many
pub same_length : (items : List ItemRow) (aged : List Aged) → AreSame items aged → length aged ≡ length items
same_length items aged same = sym (sum_ones aged) ∙ same (λ one. 1) ∙ sum_ones items

-- what passes stays an index of what passes
pub aged_passed : (items : List ItemRow) (aged : List Aged) (q : ItemRow → Bool) (p : Aged → Bool) → All (λ item. q item ≡ p (aged_of item)) items
    → IsAged items aged → IsAged (filter q items) (filter p aged)
aged_passed items aged q p agree is = record {
  nodes = AllPairs-filter (Below item_key) q items is.nodes;
  rising = AllPairs-filter (Below age_key) p aged is.rising;
  same = same_passed items aged q p agree is.same;
}

-- ---- all of them, sorted

-- a node has at most one item
one_each : (node : ℕ) (items : List ItemRow) → IsRising item_key items → sum_by (λ item. cond (item.node == node) 1 0) items ≤ 1
one_each node [] rising = omega arith
one_each node (x ∷ xs) rising = here (x.node == node) refl (one_each node xs (tail_rising item_key x xs rising))
  where
    here : (b : Bool) → (x.node == node) ≡ b → sum_by (λ item. cond (item.node == node) 1 0) xs ≤ 1
        → sum_by (λ item. cond (item.node == node) 1 0) (x ∷ xs) ≤ 1
    here true e rest =
        let first : cond {A = ℕ} (x.node == node) 1 0 ≡ 1 = rw e refl in
        let none = sum_none (λ item. cond (item.node == node) 1 0) xs
        (λ k d within. let above = below_rest item_key x xs rising k d within in grind (arith, nat_tests)) in
        omega (arith, sum_by-cons (λ item. cond (item.node == node) 1 0) x xs)
    here false e rest =
        let first : cond {A = ℕ} (x.node == node) 1 0 ≡ 0 = rw e refl in
        omega (arith, sum_by-cons (λ item. cond (item.node == node) 1 0) x xs)

-- so they rise where they are in order
rises : (xs : List Aged) → AllPairs UpTo xs → ((node : ℕ) → sum_by (λ one. cond (one.node == node) 1 0) xs ≤ 1) → IsRising age_key xs
rises [] up few = no_pairs (Below age_key)
rises (x ∷ xs) up few =
    AllPairs-cons (Below age_key) x xs
    (λ k d within. upto_below x (get_or xs k d) (pairs_head UpTo x xs up k d within)
    (λ same.
    let mine : cond {A = ℕ} (x.node == x.node) 1 0 ≡ 1 = grind (arith, nat_tests) in
    let its : cond {A = ℕ} ((get_or xs k d).node == x.node) 1 0 ≡ 1 = rw (← same) mine in
    omega (
      arith,
      few x.node,
      sum_by-cons (λ one. cond (one.node == x.node) 1 0) x xs,
      get_or-le-sum_by (λ one. cond (one.node == x.node) 1 0) xs k d within,
    )))
    (rises xs (pairs_tail UpTo x xs up) (λ node. omega (arith, few node, sum_by-cons (λ one. cond (one.node == node) 1 0) x xs)))

-- the order that they are sorted by
abbrev pub is_below : Aged → Aged → Bool
is_below a b = is_lt (key_cmp (age_key a) (age_key b))

-- it is a strict order
pub below_order : IsStrictWeakOrder is_below
below_order = ranks_by key_total age_key

-- what is sorted of all items is their index
pub sorted_aged : (items : List ItemRow) (aged : List Aged) → IsRising item_key items → IsSortedBy is_below aged → IsPermutation (map aged_of items) aged
    → IsAged items aged
sorted_aged items aged rising sorted permuted = record {
  nodes = rising;
  rising = rises aged
      (λ i j d before within.
      not_below_upto (get_or aged i d) (get_or aged j d) (sorted_far is_below below_order aged sorted i j d (omega arith) within))
      (λ node. omega (arith, same (λ one. cond (one.node == node) 1 0), one_each node items rising));
  same = same;
}
  where
    same : AreSame items aged
    same count = sum_by-IsPermutation count (map aged_of items) aged permuted ∙ sum_made count aged_of items

-- ---- one goes

-- the items of a node, where there are none and where there is one
pub none_there : (node : ℕ) (items : List ItemRow) → row_at item_key (node ∷ []) items ≡ None → All (λ item. item.node ≢ node) items
none_there node [] none = All-nil (λ item. item.node ≢ node)
none_there node (x ∷ xs) none = here (x.node == node) refl none (none_there node xs)
  where
    here : (b : Bool) → (x.node == node) ≡ b → cond (b && true) (Some x) (row_at item_key (node ∷ []) xs) ≡ None
        → (row_at item_key (node ∷ []) xs ≡ None → All (λ item. item.node ≢ node) xs) → All (λ item. item.node ≢ node) (x ∷ xs)
    here true e none rest = absurd (cc)
    here false e none rest = All-cons (λ item. item.node ≢ node) x xs (λ same. grind (arith, nat_tests)) (rest none)

-- one that is found has the node, and no other item has it
pub one_there : (item : ItemRow) (node : ℕ) (items : List ItemRow) → IsRising item_key items → row_at item_key (node ∷ []) items ≡ Some item
    → (item.node ≡ node) × All (λ other. other.node ≡ node → other ≡ item) items
one_there item node [] rising found = absurd (cc)
one_there item node (x ∷ xs) rising found =
    here (x.node == node) refl found (one_there item node xs (tail_rising item_key x xs rising))
  where
    here : (b : Bool) → (x.node == node) ≡ b → cond (b && true) (Some x) (row_at item_key (node ∷ []) xs) ≡ Some item
        → (row_at item_key (node ∷ []) xs ≡ Some item → (item.node ≡ node) × All (λ other. other.node ≡ node → other ≡ item) xs)
        → (item.node ≡ node) × All (λ other. other.node ≡ node → other ≡ item) (x ∷ xs)
    here true e found rest =
        let first : x ≡ item = cc in
        let own : x.node ≡ node = eqb-true x.node node e in (
          sym (ap (λ (item : ItemRow). item.node) first) ∙ own,
          All-cons (λ other. other.node ≡ node → other ≡ item) x xs (λ _. first)
              (λ k d within same. absurd (let above = below_rest item_key x xs rising k d within in grind (arith, nat_tests))),
        )
    here false e found rest =
        let more = rest found in
        (more.0, All-cons (λ other. other.node ≡ node → other ≡ item) x xs (λ same. absurd (grind (arith, nat_tests))) more.1)

-- it is the only one of its node
pub one_only : (item : ItemRow) (items : List ItemRow) → IsRising item_key items → find (λ other. other.node == item.node) items ≡ Some item
    → filter (λ other. other.node == item.node) items ≡ item ∷ []
one_only item [] rising found = absurd (cc)
one_only item (x ∷ xs) rising found = here (x.node == item.node) refl found (one_only item xs (tail_rising item_key x xs rising))
  where
    here : (b : Bool) → (x.node == item.node) ≡ b → cond b (Some x) (find (λ other. other.node == item.node) xs) ≡ Some item
        → (find (λ other. other.node == item.node) xs ≡ Some item → filter (λ other. other.node == item.node) xs ≡ item ∷ [])
        → cond b (x ∷ filter (λ other. other.node == item.node) xs) (filter (λ other. other.node == item.node) xs) ≡ item ∷ []
    here true e found rest =
        let first : x ≡ item = cc in
        let none = none_passed (λ other. other.node == item.node) xs
        (λ k d within. let above = below_rest item_key x xs rising k d within in grind (arith, nat_tests)) in
        cc
    here false e found rest = rest found

-- without an item of the node there is nothing to forget
pub forgotten_none : (node : ℕ) (items : List ItemRow) (aged : List Aged) → row_at item_key (node ∷ []) items ≡ None → IsAged items aged
    → IsAged (dropped item_key (node ∷ []) items) aged
forgotten_none node items aged none is =
    subst (λ (items : List ItemRow). IsAged items aged)
    (none_dropped item_key (node ∷ []) items (λ k d within. let other = none_there node items none k d within in grind (arith, nat_tests))) is

-- without the entry of the item of the node it is the index of the others
pub forgotten_one : (item : ItemRow) (node : ℕ) (items : List ItemRow) (aged : List Aged) → row_at item_key (node ∷ []) items ≡ Some item → IsAged items aged
    → IsAged (dropped item_key (node ∷ []) items) (dropped age_key (age_key (aged_of item)) aged)
forgotten_one item node items aged found is =
    let one = one_there item node items is.nodes found in
    aged_passed items aged (λ other. not (bytes_eq (node ∷ []) (item_key other))) (λ other. not (bytes_eq (age_key (aged_of item)) (age_key other)))
    (λ k d within. agree (get_or items k d) one.0 (one.1 k d within)) is
  where
    agree : (other : ItemRow) → item.node ≡ node → (other.node ≡ node → other ≡ item)
        → not (bytes_eq (node ∷ []) (item_key other)) ≡ not (bytes_eq (age_key (aged_of item)) (age_key (aged_of other)))
    agree other own only = here (other.node == node) refl
      where
        here : (b : Bool) → (other.node == node) ≡ b
            → not (bytes_eq (node ∷ []) (item_key other)) ≡ not (bytes_eq (age_key (aged_of item)) (age_key (aged_of other)))
        here true e =
            let same = only (eqb-true other.node node e) in
            let owner = ap (λ (item : ItemRow). item.owner) same in
            let at = ap (λ (item : ItemRow). item.at) same in
            grind (arith, nat_tests)
        here false e = grind (arith, nat_tests)

-- ---- one comes

-- over those of other keys it counts besides them
put_sum : {X : Type 0} (key : X → List ℕ) (count : X → ℕ) (x : X) (xs : List X) → All (λ y. bytes_eq (key x) (key y) ≡ false) xs
    → sum_by count (put key x xs) ≡ count x + sum_by count xs
put_sum key count x [] differ = sum_by-cons count x []
put_sum {X} key count x (y ∷ ys) differ =
    here (key_cmp (key x) (key y)) refl (put_sum key count x ys (All-tail (λ y. bytes_eq (key x) (key y) ≡ false) y ys differ))
  where
    here : (r : Ordering) → key_cmp (key x) (key y) ≡ r → sum_by count (put key x ys) ≡ count x + sum_by count ys
        → sum_by count (by_order r (x ∷ y ∷ ys) (x ∷ ys) (y ∷ put key x ys)) ≡ count x + sum_by count (y ∷ ys)
    here Less e rest = sum_by-cons count x (y ∷ ys)
    here Equal e rest =
        let other = All-head (λ y. bytes_eq (key x) (key y) ≡ false) y ys differ in
        let same = equal_bytes (key x) (key y) Equal e in
        absurd (cc)
    here Greater e rest = omega (arith, sum_by-cons count y (put key x ys), sum_by-cons count y ys)

-- over those of its node it counts in place of theirs
put_over : (count : ItemRow → ℕ) (item : ItemRow) (items : List ItemRow) → IsRising item_key items
    → sum_by count (put item_key item items) ≡ count item + sum_by count (dropped item_key (item.node ∷ []) items)
put_over count item [] rising = sum_by-cons count item []
put_over count item (x ∷ xs) rising =
    here (key_cmp (item_key item) (item_key x)) refl (put_over count item xs (tail_rising item_key x xs rising))
  where
    rest_stays : (item.node ≤ x.node) → xs ≡ dropped item_key (item.node ∷ []) xs
    rest_stays upto =
        none_dropped item_key (item.node ∷ []) xs (λ k d within. let above = below_rest item_key x xs rising k d within in grind (arith, nat_tests))

    here : (r : Ordering) → key_cmp (item_key item) (item_key x) ≡ r
        → sum_by count (put item_key item xs) ≡ count item + sum_by count (dropped item_key (item.node ∷ []) xs)
        → sum_by count (by_order r (item ∷ x ∷ xs) (item ∷ xs) (x ∷ put item_key item xs)) ≡ count item + sum_by count (dropped item_key (item.node ∷ []) (x ∷ xs))
    here Less e rest =
        let other : (item.node == x.node) ≡ false = grind (arith, nat_tests) in
        rw (other, ← rest_stays (grind (arith, nat_tests))) (sum_by-cons count item (x ∷ xs))
    here Equal e rest =
        let same : (item.node == x.node) ≡ true = grind (arith, nat_tests) in
        rw (same, ← rest_stays (grind (arith, nat_tests))) (sum_by-cons count item xs)
    here Greater e rest =
        let other : (item.node == x.node) ≡ false = grind (arith, nat_tests) in
        rw other
        (omega (arith, sum_by-cons count x (put item_key item xs), sum_by-cons count x (dropped item_key (item.node ∷ []) xs)))

-- an item that is put over that of its node, which is forgotten
pub put_aged : (item : ItemRow) (items : List ItemRow) (aged : List Aged) → IsRising item_key items → IsAged (dropped item_key (item.node ∷ []) items) aged
    → IsAged (put item_key item items) (put age_key (aged_of item) aged)
put_aged item items aged rising is = record {
  nodes = put_rising item_key item items rising;
  rising = put_rising age_key (aged_of item) aged is.rising;
  same = λ count. omega (arith, put_sum age_key count (aged_of item) aged differ, is.same count, put_over (λ item. count (aged_of item)) item items rising);
}
  where
    left : List ItemRow
    left = dropped item_key (item.node ∷ []) items

    own : Aged → ℕ
    own one = cond (one.node == item.node) 1 0

    none : sum_by own aged ≡ 0
    none =
        is.same own
        ∙ sum_none (λ item. own (aged_of item)) left
        (λ k d within.
        let passes = filter_passes (λ row. not (bytes_eq (item.node ∷ []) (item_key row))) items k d within in
        grind (arith, nat_tests))

    differ : All (λ one. bytes_eq (age_key (aged_of item)) (age_key one) ≡ false) aged
    differ k d within =
        let few = get_or-le-sum_by own aged k d within in
        let all = none in
        let zero : own (get_or aged k d) ≡ 0 = omega arith in
        grind (arith, nat_tests)

-- ---- many go

-- those of some nodes
pub left_out : (nodes : List ℕ) (items : List ItemRow) (aged : List Aged) → IsAged items aged
    → IsAged (filter (λ item. not (list_any (λ node. bytes_eq (node ∷ []) (item_key item)) nodes)) items)
    (filter (λ one. not (list_any (λ node. node == one.node) nodes)) aged)
left_out nodes items aged is =
    aged_passed items aged (λ item. not (list_any (λ node. bytes_eq (node ∷ []) (item_key item)) nodes))
    (λ one. not (list_any (λ node. node == one.node) nodes))
    (λ k d within. ap (λ (test : ℕ → Bool). not (list_any test nodes)) (λ i node. and_true (node == (get_or items k d).node) i)) is
  where
    and_true : (b : Bool) → b && true ≡ b
    and_true true = refl
    and_true false = refl
