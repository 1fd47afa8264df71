-- Sums over rows with one that is put, over another or as one more, and over those that pass a test.
use Rattle.std.proofs.Common.{◌≡◌, ◌≤◌, ◌+◌, ℕ, Bool, true, false, List, [], ◌∷◌, filter, length, sum_by, find, Option, Some, if◌then◌else◌, refl, sym, ap, subst, ◌∙◌, arith}
use Rattle.std.specs.Option.{IfSome}
use Rattle.std.specs.declared.cmp.Ordering.{Ordering}
use Rattle.std.specs.declared.cmp.Ordering.TheVariants.{Equal, Greater, Less}
use Rattle.std.proofs.lemmas.Cmp.{tied_itself}
use Rattle.std.proofs.lemmas.List.Sums.{sum_by-cons}
use Rattle.std.proofs.lemmas.Option.{none-some, same_Some}
use Rattle.nf_defs.proofs.Puts.{below_rest, key_total, tail_rising, turned}
use Rattle.nf_defs.specs.Prelude.{by_order, IsRising, key_cmp, put}
use Rattle.nf_words.proofs.Found.{found_has, found_passes}

-- ---- a row that is put

-- it brings no more than its own
pub put_sum : {R : Type 0} (key : R → List ℕ) (count : R → ℕ) (row : R) (rows : List R) → sum_by count (put key row rows) ≤ sum_by count rows + count row
put_sum key count row [] = omega (arith, sum_by-cons count row [])
put_sum key count row (x ∷ rows) = here (key_cmp (key row) (key x)) (put_sum key count row rows)
  where
    here : (o : Ordering) → sum_by count (put key row rows) ≤ sum_by count rows + count row
        → sum_by count (by_order o (row ∷ x ∷ rows) (row ∷ rows) (x ∷ put key row rows)) ≤ sum_by count (x ∷ rows) + count row
    here Less rest = omega (arith, sum_by-cons count row (x ∷ rows), sum_by-cons count x rows)
    here Equal rest = omega (arith, sum_by-cons count row rows, sum_by-cons count x rows)
    here Greater rest = omega (arith, rest, sum_by-cons count x (put key row rows), sum_by-cons count x rows)

-- and takes what the one brought that it goes over
pub put_sum_over : {R : Type 0} (key : R → List ℕ) (sought : R → Bool) (count : R → ℕ) (row old : R) (rows : List R)
    → ((x : R) → sought x ≡ true → key x ≡ key row) → IsRising key rows → find sought rows ≡ Some old
    → sum_by count (put key row rows) + count old ≡ sum_by count rows + count row
put_sum_over key sought count row old [] keyed rising is = absurd (none-some old is)
put_sum_over {R = R} key sought count row old (x ∷ rows) keyed rising is =
    here (key_cmp (key row) (key x)) refl (sought x) refl (λ is. put_sum_over key sought count row old rows keyed (tail_rising key x rows rising) is)
  where
    Goal : Ordering → Type 0
    Goal o = sum_by count (by_order o (row ∷ x ∷ rows) (row ∷ rows) (x ∷ put key row rows)) + count old ≡ sum_by count (x ∷ rows) + count row

    itself : sought x ≡ true → key_cmp (key row) (key x) ≡ Equal
    itself passes = ap (key_cmp (key row)) (keyed x passes) ∙ tied_itself key_total (key row)

    -- what is found behind it is above it
    behind : find sought rows ≡ Some old → key_cmp (key x) (key row) ≡ Less
    behind found =
        ap (key_cmp (key x)) (sym (keyed old (found_passes sought rows old found)))
        ∙ subst (λ (o : Option R). IfSome o (λ (y : R). key_cmp (key x) (key y) ≡ Less)) found
        (found_has (λ (y : R). key_cmp (key x) (key y) ≡ Less) sought rows (below_rest key x rows rising))

    above : find sought rows ≡ Some old → key_cmp (key row) (key x) ≡ Greater
    above found = turned (key x) (key row) Less (behind found)

    here : (o : Ordering) → key_cmp (key row) (key x) ≡ o → (b : Bool) → sought x ≡ b
        → (find sought rows ≡ Some old → sum_by count (put key row rows) + count old ≡ sum_by count rows + count row) → Goal o
    here Less e true passes rest = let equal = itself passes in absurd (cc)
    here Less e false off rest = let greater = above (simp off at is) in absurd (cc)
    here Equal e true passes rest =
        omega (arith, sum_by-cons count row rows, sum_by-cons count x rows, ap count (same_Some x old (simp passes at is)))
    here Equal e false off rest = let greater = above (simp off at is) in absurd (cc)
    here Greater e true passes rest = let equal = itself passes in absurd (cc)
    here Greater e false off rest =
        omega (arith, rest (simp off at is), sum_by-cons count x (put key row rows), sum_by-cons count x rows)

-- ---- rows that pass a test

-- their sum is one over all rows
pub sum_passing : {X : Type 0} (test : X → Bool) (count : X → ℕ) (xs : List X)
    → sum_by count (filter test xs) ≡ sum_by (λ x. if test x then count x else 0) xs
sum_passing test count [] = refl
sum_passing {X = X} test count (x ∷ xs) = here (test x) (sum_passing test count xs) ∙ sym (sum_by-cons (λ x. if test x then count x else 0) x xs)
  where
    here : (b : Bool) → sum_by count (filter test xs) ≡ sum_by (λ x. if test x then count x else 0) xs
        → sum_by count (if b then x ∷ filter test xs else filter test xs)
        ≡ (if b then count x else 0) + sum_by (λ x. if test x then count x else 0) xs
    here true rest = omega (arith, sum_by-cons count x (filter test xs), rest)
    here false rest = omega (arith, rest)

-- and so is their number
pub number_passing : {X : Type 0} (test : X → Bool) (xs : List X) → length (filter test xs) ≡ sum_by (λ x. if test x then 1 else 0) xs
number_passing test [] = refl
number_passing {X = X} test (x ∷ xs) = here (test x) (number_passing test xs) ∙ sym (sum_by-cons (λ x. if test x then 1 else 0) x xs)
  where
    here : (b : Bool) → length (filter test xs) ≡ sum_by (λ x. if test x then 1 else 0) xs
        → length (if b then x ∷ filter test xs else filter test xs) ≡ (if b then 1 else 0) + sum_by (λ x. if test x then 1 else 0) xs
    here true rest = omega (arith, rest)
    here false rest = omega (arith, rest)
