-- Rows and changes that are sorted together by their keys make the same rows.
use Rattle.std.proofs.Common.{ℕ, ◌≡◌, Bool, true, false, cond, List, [], ◌∷◌, ◌++◌, Option, Some, None, refl, sym, ap, subst, ◌∙◌, arith, length-append}
use Rattle.std.specs.Cmp.{alike_right, tied_itself}
use Rattle.std.specs.List.{All, filter, find}
use Rattle.std.specs.List.Sorted.{IsStableBy, ties}
use Rattle.std.specs.Ordering.{is_eq, is_lt}
use Rattle.std.specs.declared.cmp.Ordering.{Ordering}
use Rattle.std.specs.declared.cmp.Ordering.TheVariants.{Less, Equal, Greater}
use Rattle.std.proofs.lemmas.List.{get_or_append_left}
use Rattle.std.proofs.lemmas.List.Elements.{All-tail, All-weaker}
use Rattle.nf_defs.specs.Prelude.{by_order, dropped, IsRising, key_cmp, put}
use Rattle.nf_defs.proofs.Lookups.{equal_bytes}
use Rattle.nf_defs.proofs.Puts.{below_rest, key_total, put_next, tail_rising, turned}
use Rattle.nf_rows.specs.Spelling.{Raw}
use Rattle.nf_told.specs.Told.{AreRisingRaws, raw_key}
use Rattle.nf_keeper.proofs.Rows.{after_rising}
use Rattle.nf_keeper.specs.Spelled.{after, after_all, change_key}
use Rattle.nf_keeper.specs.declared.spelled.SpelledChange.{SpelledChange}
use Rattle.nf_keeper.specs.declared.spelled.SpelledChange.TheVariants as spelled

-- ---- the row with a key

module _ {R : Type 0} (key : R → List ℕ) where
  abbrev pub has_key : List ℕ → R → Bool
  has_key k row = is_eq (key_cmp k (key row))

  abbrev pub row_at : List ℕ → List R → Option R
  row_at k rows = find (has_key k) rows

  put_there : (k : List ℕ) (row : R) (rows : List R) → key_cmp k (key row) ≡ Equal → row_at k (put key row rows) ≡ Some row
  put_there k row [] e = rw e refl
  put_there k row (x ∷ xs) e = here (key_cmp (key row) (key x)) refl (put_there k row xs e)
    where
      here : (r : Ordering) → key_cmp (key row) (key x) ≡ r → row_at k (put key row xs) ≡ Some row
          → row_at k (by_order r (row ∷ x ∷ xs) (row ∷ xs) (x ∷ put key row xs)) ≡ Some row
      here Less f rest = rw e refl
      here Equal f rest = rw e refl
      here Greater f rest = rw (key_total.congr k (key row) (key x) e ∙ f) rest

  put_elsewhere : (k : List ℕ) (row : R) (rows : List R) → has_key k row ≡ false → row_at k (put key row rows) ≡ row_at k rows
  put_elsewhere k row [] other = rw other refl
  put_elsewhere k row (x ∷ xs) other = here (key_cmp (key row) (key x)) refl (put_elsewhere k row xs other)
    where
      here : (r : Ordering) → key_cmp (key row) (key x) ≡ r → row_at k (put key row xs) ≡ row_at k xs
          → row_at k (by_order r (row ∷ x ∷ xs) (row ∷ xs) (x ∷ put key row xs)) ≡ row_at k (x ∷ xs)
      here Less f rest = rw other refl
      here Equal f rest =
          let same : has_key k x ≡ false = sym (ap is_eq (alike_right key_total (key row) (key x) k f)) ∙ other in
          rw (other, same) refl
      here Greater f rest = ap (λ found. cond (has_key k x) (Some x) found) rest

  dropped_there : (k numbers : List ℕ) (rows : List R) → key_cmp k numbers ≡ Equal → row_at k (dropped key numbers rows) ≡ None
  dropped_there k numbers [] e = refl
  dropped_there k numbers (x ∷ xs) e = here (key_cmp numbers (key x)) refl (dropped_there k numbers xs e)
    where
      here : (r : Ordering) → key_cmp numbers (key x) ≡ r → row_at k (dropped key numbers xs) ≡ None
          → row_at k (dropped key numbers (x ∷ xs)) ≡ None
      here Less f rest = rw (equal_bytes numbers (key x) Less f, key_total.congr k numbers (key x) e ∙ f) rest
      here Equal f rest = rw (equal_bytes numbers (key x) Equal f) rest
      here Greater f rest = rw (equal_bytes numbers (key x) Greater f, key_total.congr k numbers (key x) e ∙ f) rest

  dropped_elsewhere : (k numbers : List ℕ) (rows : List R) → is_eq (key_cmp k numbers) ≡ false
      → row_at k (dropped key numbers rows) ≡ row_at k rows
  dropped_elsewhere k numbers [] other = refl
  dropped_elsewhere k numbers (x ∷ xs) other = here (key_cmp numbers (key x)) refl (dropped_elsewhere k numbers xs other)
    where
      here : (r : Ordering) → key_cmp numbers (key x) ≡ r → row_at k (dropped key numbers xs) ≡ row_at k xs
          → row_at k (dropped key numbers (x ∷ xs)) ≡ row_at k (x ∷ xs)
      here Less f rest = rw (equal_bytes numbers (key x) Less f) (ap (λ found. cond (has_key k x) (Some x) found) rest)
      here Equal f rest =
          let same : has_key k x ≡ false = sym (ap is_eq (alike_right key_total numbers (key x) k f)) ∙ other in
          rw (equal_bytes numbers (key x) Equal f, same) rest
      here Greater f rest = rw (equal_bytes numbers (key x) Greater f) (ap (λ found. cond (has_key k x) (Some x) found) rest)

  none_above : (k : List ℕ) (rows : List R) → All (λ row. key_cmp k (key row) ≡ Less) rows → row_at k rows ≡ None
  none_above k [] above = refl
  none_above k (x ∷ xs) above = rw (above 0 x (omega arith)) (none_above k xs (All-tail (λ row. key_cmp k (key row) ≡ Less) x xs above))

  head_there : (x : R) (xs : List R) → row_at (key x) (x ∷ xs) ≡ Some x
  head_there x xs = rw (tied_itself key_total (key x)) refl

  -- a key at or below the first row's is at none of the others
  rest_above : (k : List ℕ) (x : R) (xs : List R) → IsRising key (x ∷ xs) → ((y : R) → key_cmp (key x) (key y) ≡ Less → key_cmp k (key y) ≡ Less)
      → row_at k xs ≡ None
  rest_above k x xs rising lower =
      none_above k xs (All-weaker (λ y. key_cmp (key x) (key y) ≡ Less) (λ y. key_cmp k (key y) ≡ Less) lower xs (below_rest key x xs rising))

  lower_nowhere : (k : List ℕ) (y : R) (ys : List R) → IsRising key (y ∷ ys) → key_cmp k (key y) ≡ Less → row_at k (y ∷ ys) ≡ None
  lower_nowhere k y ys rising less =
      rw less (rest_above k y ys rising (λ z above. key_total.trans k (key y) (key z) less above))

  -- where the first rows are one, the others have the same at each row's key
  same_behind : (x : R) (xs ys : List R) → IsRising key (x ∷ xs) → IsRising key (x ∷ ys) → (row : R)
      → row_at (key row) (x ∷ xs) ≡ row_at (key row) (x ∷ ys) → row_at (key row) xs ≡ row_at (key row) ys
  same_behind x xs ys up rises row same = here (key_cmp (key row) (key x)) refl
    where
      skipped : has_key (key row) x ≡ false → row_at (key row) xs ≡ row_at (key row) ys
      skipped other = let all : row_at (key row) (x ∷ xs) ≡ row_at (key row) (x ∷ ys) = same in cc

      here : (r : Ordering) → key_cmp (key row) (key x) ≡ r → row_at (key row) xs ≡ row_at (key row) ys
      here Less e = skipped (ap is_eq e)
      here Greater e = skipped (ap is_eq e)
      here Equal e =
          let above = λ (y : R) (less : key_cmp (key x) (key y) ≡ Less). key_total.congr (key row) (key x) (key y) e ∙ less in
          rest_above (key row) x xs up above ∙ sym (rest_above (key row) x ys rises above)

  -- rows by rising key are the same where they have the same at each row's key
  pub same_rows : (xs ys : List R) → IsRising key xs → IsRising key ys → ((row : R) → row_at (key row) xs ≡ row_at (key row) ys) → xs ≡ ys
  same_rows [] [] up rises same = refl
  same_rows [] (y ∷ ys) up rises same = let e = same y ∙ head_there y ys in absurd (cc)
  same_rows (x ∷ xs) [] up rises same = let e = sym (same x) ∙ head_there x xs in absurd (cc)
  same_rows (x ∷ xs) (y ∷ ys) up rises same =
      here (key_cmp (key x) (key y)) refl (same_rows xs ys (tail_rising key x xs up) (tail_rising key y ys rises))
    where
      here : (r : Ordering) → key_cmp (key x) (key y) ≡ r
          → (((row : R) → row_at (key row) xs ≡ row_at (key row) ys) → xs ≡ ys) → x ∷ xs ≡ y ∷ ys
      here Less less rest = let e = sym (head_there x xs) ∙ same x ∙ lower_nowhere (key x) y ys rises less in absurd (cc)
      here Greater more rest =
          let e = sym (head_there y ys) ∙ sym (same y) ∙ lower_nowhere (key y) x xs up (turned (key x) (key y) Greater more) in
          absurd (cc)
      here Equal equal rest =
          let there : row_at (key x) (y ∷ ys) ≡ Some y = rw equal refl in
          let first : Some x ≡ Some y = sym (head_there x xs) ∙ same x ∙ there in
          let is : y ≡ x = cc in
          let tails = rest (λ row. same_behind x xs ys up (subst (λ (z : R). IsRising key (z ∷ ys)) is rises) row
          (same row ∙ ap (λ (z : R). row_at (key row) (z ∷ ys)) is)) in
          cc

-- ---- changes

-- the row that it leaves under its key
abbrev made : SpelledChange → Option Raw
made (spelled.Put row) = Some row
made (spelled.Drop key) = None

after_there : (k : List ℕ) (change : SpelledChange) (rows : List Raw) → key_cmp k (change_key change) ≡ Equal
    → row_at raw_key k (after rows change) ≡ made change
after_there k (spelled.Put row) rows e = put_there raw_key k row rows e
after_there k (spelled.Drop key) rows e = dropped_there raw_key k (change_key (spelled.Drop key)) rows e

after_elsewhere : (k : List ℕ) (change : SpelledChange) (rows : List Raw) → is_eq (key_cmp k (change_key change)) ≡ false
    → row_at raw_key k (after rows change) ≡ row_at raw_key k rows
after_elsewhere k (spelled.Put row) rows other = put_elsewhere raw_key k row rows other
after_elsewhere k (spelled.Drop key) rows other = dropped_elsewhere raw_key k (change_key (spelled.Drop key)) rows other

-- by their keys
abbrev pub comes_before : SpelledChange → SpelledChange → Bool
comes_before a b = is_lt (key_cmp (change_key a) (change_key b))

-- the same row, or none, has the change's key
abbrev AreSameAt : SpelledChange → List Raw → List Raw → Type 0
AreSameAt x rows others = row_at raw_key (change_key x) rows ≡ row_at raw_key (change_key x) others

-- what stands under a change's key comes of the changes with that key
of_its_key : (x : SpelledChange) (rows others : List Raw) (changes : List SpelledChange) → AreSameAt x rows others
    → AreSameAt x (after_all rows changes) (after_all others (filter (ties comes_before x) changes))
of_its_key x rows others [] same = same
of_its_key x rows others (change ∷ changes) same =
    here (key_cmp (change_key x) (change_key change)) refl (λ others alike. of_its_key x (after rows change) others changes alike)
  where
    skips : is_eq (key_cmp (change_key x) (change_key change)) ≡ false → ties comes_before x change ≡ false
        → ((others : List Raw) → AreSameAt x (after rows change) others
        → AreSameAt x (after_all (after rows change) changes) (after_all others (filter (ties comes_before x) changes)))
        → AreSameAt x (after_all rows (change ∷ changes)) (after_all others (filter (ties comes_before x) (change ∷ changes)))
    skips other differ rest = rw differ (rest others (after_elsewhere (change_key x) change rows other ∙ same))

    here : (r : Ordering) → key_cmp (change_key x) (change_key change) ≡ r
        → ((others : List Raw) → AreSameAt x (after rows change) others
        → AreSameAt x (after_all (after rows change) changes) (after_all others (filter (ties comes_before x) changes)))
        → AreSameAt x (after_all rows (change ∷ changes)) (after_all others (filter (ties comes_before x) (change ∷ changes)))
    here Less e rest = skips (ap is_eq e) (rw e refl) rest
    here Greater e rest = skips (ap is_eq e) (rw (e, turned (change_key x) (change_key change) Greater e) refl) rest
    here Equal e rest =
        let tied : ties comes_before x change ≡ true = rw (e, turned (change_key x) (change_key change) Equal e) refl in
        rw tied (rest (after others change) (after_there (change_key x) change rows e ∙ sym (after_there (change_key x) change others e)))

all_rising : (rows : List Raw) (changes : List SpelledChange) → AreRisingRaws rows → AreRisingRaws (after_all rows changes)
all_rising rows [] rising = rising
all_rising rows (change ∷ changes) rising = all_rising (after rows change) changes (after_rising rows change rising)

-- changes in another order make the same, where those with one key keep theirs
pub sorted_alike : (rows : List Raw) (changes others : List SpelledChange) → AreRisingRaws rows → IsStableBy comes_before changes others
    → after_all rows others ≡ after_all rows changes
sorted_alike rows changes others rising stable =
    same_rows raw_key (after_all rows others) (after_all rows changes) (all_rising rows others rising) (all_rising rows changes rising)
    (λ row. of_its_key (spelled.Put row) rows rows others refl
    ∙ ap (λ (tied : List SpelledChange). row_at raw_key (raw_key row) (after_all rows tied)) (stable (spelled.Put row))
    ∙ sym (of_its_key (spelled.Put row) rows rows changes refl))

-- ---- rows as changes

-- without the last they rise too
pub front_rising : (rows : List Raw) (row : Raw) → AreRisingRaws (rows ++ row ∷ []) → AreRisingRaws rows
front_rising rows row rising =
    λ i j d before within.
    rw (← get_or_append_left rows (row ∷ []) d i (omega arith), ← get_or_append_left rows (row ∷ []) d j within)
    (rising i j d before (simp length-append (omega arith)))

-- the last row may be put in place
pub last_put : (rows : List Raw) (row : Raw) (changes : List SpelledChange) → AreRisingRaws (rows ++ row ∷ [])
    → after_all rows (spelled.Put row ∷ changes) ≡ after_all (rows ++ row ∷ []) changes
last_put rows row changes rising = ap (λ (made : List Raw). after_all made changes) (put_next raw_key row rows [] rising)
