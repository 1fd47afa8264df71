-- A row put among rows by rising key.
use Rattle.std.proofs.Common.{ℕ, zero, suc, ◌<◌, ◌≤◌, ◌≡◌, List, [], ◌∷◌, ◌++◌, length, get_or, set, refl, sym, ap, subst, ◌+◌, ◌∙◌, inl, inr, arith, length-append, not, bytes_eq, Bool, true, false, cond}
use Rattle.std.specs.Cmp.{IsTotalOrder, nat_cmp_is, nat_cmp_total, alike_right}
use Rattle.std.proofs.lemmas.Cmp.{ranked}
use Rattle.std.proofs.lemmas.Bool.{cases_lt}
use Rattle.std.proofs.Math.Seq.{get_or-append_seam}
use Rattle.std.specs.Cmp.Lexicographic.{slice_cmp, lists_total}
use Rattle.std.specs.List.{All, HoldsAt, insert}
use Rattle.std.specs.List.Sorted.{IsNonDecreasingBy}
use Rattle.std.specs.Ordering.{MatchOrdering, nat_cmp, ordering_index, ordering_reverse, ordering_then}
use Rattle.std.specs.declared.cmp.Ordering.{Ordering}
use Rattle.std.specs.declared.cmp.Ordering.TheVariants.{Less, Equal, Greater}
use Rattle.std.proofs.lemmas.List.Elements.{All-cons, All-head, All-tail, All-weaker}
use Rattle.std.proofs.lemmas.List.Kept.{AllPairs-cons, AllPairs-filter}
use Rattle.nf_defs.specs.Prelude.{by_order, dropped, IsRising, key_cmp, put}

-- ---- the order of keys

pub key_total : IsTotalOrder key_cmp
key_total = lists_total nat_cmp_total

pub turned : (a b : List ℕ) (r : Ordering) → key_cmp a b ≡ r → key_cmp b a ≡ ordering_reverse r
turned a b r e = key_total.antisymm b a ∙ ap ordering_reverse e

-- what is below one key is no higher against another
pub rises : (a b k : List ℕ) → key_cmp a b ≡ Less → ordering_index (key_cmp a k) ≤ ordering_index (key_cmp b k)
rises a b k less = here (key_cmp b k) refl
  where
    few : (r : Ordering) → ordering_index r ≤ 2
    few Less = omega arith
    few Equal = omega arith
    few Greater = omega arith

    here : (r : Ordering) → key_cmp b k ≡ r → ordering_index (key_cmp a k) ≤ ordering_index r
    here Less e = rw (key_total.trans a b k less e) (omega arith)
    here Equal e = rw (sym (alike_right key_total b k a e) ∙ less) (omega arith)
    here Greater e = few (key_cmp a k)

-- ---- a row at its place

module _ {R : Type 0} (key : R → List ℕ) where
  abbrev pub Below : R → R → Type 0
  Below a b = key_cmp (key a) (key b) ≡ Less

  pub tail_rising : (x : R) (xs : List R) → IsRising key (x ∷ xs) → IsRising key xs
  tail_rising x xs rising i j d before within = rising (suc i) (suc j) d (omega arith) (omega arith)

  -- a row is below those after it
  pub below_rest : (x : R) (xs : List R) → IsRising key (x ∷ xs) → All (Below x) xs
  below_rest x xs rising k d within = rising zero (suc k) d (omega arith) (omega arith)

  -- what a search compares rises along the rows
  pub numbers_rise : (numbers : List ℕ) (rows : List R) → IsRising key rows
      → IsNonDecreasingBy (λ other. ordering_index (key_cmp (key other) numbers)) rows
  numbers_rise numbers rows rising i j d le within =
      elim (cases_lt i j) [
        | inl before ↦ rises (key (get_or rows i d)) (key (get_or rows j d)) numbers (rising i j d before within)
        | inr not_before ↦ let e : i ≡ j = omega arith in rw e (omega arith)
      ]

  pub comparisons_rise : (row : R) (rows : List R) → IsRising key rows
      → IsNonDecreasingBy (λ other. ordering_index (key_cmp (key other) (key row))) rows
  comparisons_rise row rows rising = numbers_rise (key row) rows rising

  -- over the row with its key
  pub put_over : (row : R) (rows : List R) (i : ℕ) → i < length rows
      → HoldsAt (λ other. key_cmp (key other) (key row) ≡ Equal) rows i → IsRising key rows → set rows i row ≡ put key row rows
  put_over row [] i within equal rising = absurd (omega arith)
  put_over row (x ∷ xs) zero within equal rising = rw (turned (key x) (key row) Equal (equal row)) refl
  put_over row (x ∷ xs) (suc i) within equal rising =
      let at = key (get_or xs i row) in
      let less : key_cmp (key x) at ≡ Less = rising zero (suc i) row (omega arith) within in
      let above = turned (key x) (key row) Less (sym (alike_right key_total at (key row) (key x) (equal row)) ∙ less) in
      rw above (ap (λ rest. x ∷ rest) (put_over row xs i (omega arith) (λ d. equal d) (tail_rising x xs rising)))

  -- between those below and those above it
  pub put_between : (row : R) (rows : List R) (i : ℕ) → i ≤ length rows
      → ((k : ℕ) (d : R) → k < i → key_cmp (key (get_or rows k d)) (key row) ≡ Less)
      → ((k : ℕ) (d : R) → i ≤ k → k < length rows → key_cmp (key (get_or rows k d)) (key row) ≡ Greater)
      → insert rows i row ≡ put key row rows
  put_between row [] zero within below above = refl
  put_between row [] (suc i) within below above = absurd (omega arith)
  put_between row (x ∷ xs) zero within below above =
      rw (turned (key x) (key row) Greater (above zero row (omega arith) (omega arith))) refl
  put_between row (x ∷ xs) (suc i) within below above =
      rw (turned (key x) (key row) Less (below zero row (omega arith)))
      (ap (λ rest. x ∷ rest) (put_between row xs i (omega arith)
      (λ k d less. below (suc k) d (omega arith)) (λ k d le less. above (suc k) d (omega arith) (omega arith))))

  -- above all of them
  pub put_last : (row : R) (rows : List R) → All (λ other. key_cmp (key other) (key row) ≡ Less) rows → put key row rows ≡ rows ++ row ∷ []
  put_last row [] below = refl
  put_last row (x ∷ xs) below =
      rw (turned (key x) (key row) Less (below 0 row (omega arith)))
      (ap (λ rest. x ∷ rest) (put_last row xs (λ k d within. below (suc k) d (omega arith))))

  -- behind those that are below it, where others follow
  pub put_next : (row : R) (rows more : List R) → IsRising key (rows ++ row ∷ more) → put key row rows ≡ rows ++ row ∷ []
  put_next row [] more rising = refl
  put_next row (x ∷ xs) more rising =
      let less : key_cmp (key x) (key row) ≡ Less =
      subst (λ (y : R). Below x y) (get_or-append_seam xs row more row)
      (below_rest x (xs ++ row ∷ more) rising (length xs) row (simp length-append (omega arith))) in
      rw (turned (key x) (key row) Less less) (ap (λ rest. x ∷ rest) (put_next row xs more (tail_rising x (xs ++ row ∷ more) rising)))

  -- what all rows have and the new one has, all have with it
  pub all_put : (P : R → Type 0) (row : R) (rows : List R) → P row → All P rows → All P (put key row rows)
  all_put P row [] one all = All-cons P row [] one all
  all_put P row (x ∷ xs) one all = here (key_cmp (key row) (key x)) (all_put P row xs one (All-tail P x xs all))
    where
      here : (r : Ordering) → All P (put key row xs) → All P (by_order r (row ∷ x ∷ xs) (row ∷ xs) (x ∷ put key row xs))
      here Less rest = All-cons P row (x ∷ xs) one all
      here Equal rest = All-cons P row xs one (All-tail P x xs all)
      here Greater rest = All-cons P x (put key row xs) (All-head P x xs all) rest

  -- rows by rising key stay so
  pub put_rising : (row : R) (rows : List R) → IsRising key rows → IsRising key (put key row rows)
  put_rising row [] rising = λ i j d before within. absurd (omega arith)
  put_rising row (x ∷ xs) rising = here (key_cmp (key row) (key x)) refl (put_rising row xs (tail_rising x xs rising))
    where
      rest_below : All (Below x) xs
      rest_below = below_rest x xs rising

      here : (r : Ordering) → key_cmp (key row) (key x) ≡ r → IsRising key (put key row xs)
          → IsRising key (by_order r (row ∷ x ∷ xs) (row ∷ xs) (x ∷ put key row xs))
      here Less e rest =
          AllPairs-cons Below row (x ∷ xs)
          (All-cons (Below row) x xs e (All-weaker (Below x) (Below row) (λ y. key_total.trans (key row) (key x) (key y) e) xs rest_below))
          rising
      here Equal e rest =
          AllPairs-cons Below row xs
          (All-weaker (Below x) (Below row) (λ y less. key_total.congr (key row) (key x) (key y) e ∙ less) xs rest_below)
          (tail_rising x xs rising)
      here Greater e rest =
          AllPairs-cons Below x (put key row xs)
          (all_put (Below x) row xs (turned (key row) (key x) Greater e) rest_below) rest

  pub dropped_rising : (numbers : List ℕ) (rows : List R) → IsRising key rows → IsRising key (dropped key numbers rows)
  dropped_rising numbers rows rising = AllPairs-filter Below (λ row. not (bytes_eq numbers (key row))) rows rising

  -- at most one more
  pub put_length : (row : R) (rows : List R) → length (put key row rows) ≤ length rows + 1
  put_length row [] = omega arith
  put_length row (x ∷ xs) = here (key_cmp (key row) (key x)) (put_length row xs)
    where
      here : (r : Ordering) → length (put key row xs) ≤ length xs + 1
          → length (by_order r (row ∷ x ∷ xs) (row ∷ xs) (x ∷ put key row xs)) ≤ length (x ∷ xs) + 1
      here Less rest = omega arith
      here Equal rest = omega arith
      here Greater rest = omega arith

  -- and no more
  pub dropped_length : (numbers : List ℕ) (rows : List R) → length (dropped key numbers rows) ≤ length rows
  dropped_length numbers [] = omega arith
  dropped_length numbers (x ∷ xs) = here (bytes_eq numbers (key x)) (dropped_length numbers xs)
    where
      here : (b : Bool) → length (dropped key numbers xs) ≤ length xs
          → length (cond (not b) (x ∷ dropped key numbers xs) (dropped key numbers xs)) ≤ length (x ∷ xs)
      here true rest = omega arith
      here false rest = omega arith

-- ---- names in keys

then_Equal : (r : Ordering) → ordering_then r Equal ≡ r
then_Equal Less = refl
then_Equal Equal = refl
then_Equal Greater = refl

-- two numbers, as keys
pub compared : (a b : ℕ) (o : Ordering) → MatchOrdering o (a < b) (a ≡ b) (b < a) → key_cmp (a ∷ []) (b ∷ []) ≡ o
compared a b o is = then_Equal (nat_cmp a b) ∙ sym (nat_cmp_is a b o is)

pub below_one : (a b : ℕ) → key_cmp (a ∷ []) (b ∷ []) ≡ Less → a < b
below_one a b less = ranked a b Less (sym less ∙ then_Equal (nat_cmp a b))

pub same_one : (a b : ℕ) → key_cmp (a ∷ []) (b ∷ []) ≡ Equal → a ≡ b
same_one a b equal = ranked a b Equal (sym equal ∙ then_Equal (nat_cmp a b))

pub then_then : (a b c : Ordering) → ordering_then (ordering_then a b) c ≡ ordering_then a (ordering_then b c)
then_then Less b c = refl
then_then Equal b c = refl
then_then Greater b c = refl

-- lists as long as each other, with a number more
cmp_more : (a b : List ℕ) (m n : ℕ) → length a ≡ length b
    → slice_cmp nat_cmp (a ++ m ∷ []) (b ++ n ∷ []) ≡ ordering_then (slice_cmp nat_cmp a b) (nat_cmp m n)
cmp_more [] [] m n same = then_Equal (nat_cmp m n)
cmp_more [] (y ∷ ys) m n same = absurd (omega arith)
cmp_more (x ∷ xs) [] m n same = absurd (omega arith)
cmp_more (x ∷ xs) (y ∷ ys) m n same =
    ap (λ (r : Ordering). ordering_then (nat_cmp x y) r) (cmp_more xs ys m n (omega arith))
    ∙ sym (then_then (nat_cmp x y) (slice_cmp nat_cmp xs ys) (nat_cmp m n))

-- a user's number, a name by its length and bytes, and another number
pub chunk_cmp : (u v : ℕ) (a b : List ℕ) (m n : ℕ)
    → ordering_then (ordering_then (nat_cmp u v) (key_cmp (length a ∷ a) (length b ∷ b))) (nat_cmp m n)
    ≡ key_cmp (u ∷ length a ∷ a ++ m ∷ []) (v ∷ length b ∷ b ++ n ∷ [])
chunk_cmp u v a b m n =
    then_then (nat_cmp u v) (key_cmp (length a ∷ a) (length b ∷ b)) (nat_cmp m n)
    ∙ ap (λ (r : Ordering). ordering_then (nat_cmp u v) r) (here (nat_cmp (length a) (length b)) (ranked (length a) (length b) _ refl))
  where
    here : (r : Ordering) → MatchOrdering r (length a < length b) (length a ≡ length b) (length b < length a)
        → ordering_then (ordering_then r (slice_cmp nat_cmp a b)) (nat_cmp m n) ≡ ordering_then r (slice_cmp nat_cmp (a ++ m ∷ []) (b ++ n ∷ []))
    here Less h = refl
    here Equal h = sym (cmp_more a b m n h)
    here Greater h = refl
