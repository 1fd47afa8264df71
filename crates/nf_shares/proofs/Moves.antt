-- A row over that of the same share, which has another number in an index: the old entry goes, and the new one is put.
use Rattle.std.proofs.Common.{ℕ, ◌≡◌, ◌≢◌, ◌==◌, Bool, true, false, not, cond, List, [], ◌∷◌, length, bytes_eq, map, Some, refl, sym, ap, subst, ◌+◌, ◌≤◌, ◌∙◌, arith}
use Rattle.std.specs.List.{All, filter, list_any}
use Rattle.std.specs.declared.cmp.Ordering.{Ordering}
use Rattle.std.specs.declared.cmp.Ordering.TheVariants.{Less, Equal, Greater}
use Rattle.std.proofs.lemmas.Bool.{eqb-true}
use Rattle.std.proofs.lemmas.Bool.Decides.{nat_tests}
use Rattle.std.proofs.lemmas.List.Elements.{All-cons, All-head, All-nil, All-tail, All-weaker}
use Rattle.nf_access.proofs.LookUps.{find_among}
use Rattle.nf_access.specs.Shares.{share_row}
use Rattle.nf_base.specs.declared.rows.ShareRow.{ShareRow}
use Rattle.nf_defs.specs.Prelude.{by_order, dropped, IsRising, key_cmp, put, share_key}
use Rattle.nf_defs.proofs.Lookups.{equal_bytes, none_dropped}
use Rattle.nf_defs.proofs.Puts.{Below, below_one, below_rest, dropped_length, dropped_rising, key_total, tail_rising}
use Rattle.nf_shares.proofs.Indexes.{index_put}
use Rattle.nf_shares.specs.Kept.{IsIndex, entry_key, entry_of, ids_of}
use Rattle.nf_shares.specs.declared.entries.Entry.{Entry}

-- ---- a row that is put makes it no difference whether the one of its key is there

module _ {R : Type 0} (key : R → List ℕ) (row : R) where
  first_of_all : (rows : List R) → All (λ (y : R). key_cmp (key row) (key y) ≡ Less) rows → put key row rows ≡ row ∷ rows
  first_of_all [] below = refl
  first_of_all (x ∷ xs) below = rw (All-head (λ (y : R). key_cmp (key row) (key y) ≡ Less) x xs below) refl

  none_there : (rows : List R) → All (λ (y : R). key_cmp (key row) (key y) ≡ Less) rows → rows ≡ dropped key (key row) rows
  none_there rows below = none_dropped key (key row) rows
      (All-weaker (λ (y : R). key_cmp (key row) (key y) ≡ Less) (λ (y : R). bytes_eq (key row) (key y) ≡ false)
      (λ y less. equal_bytes (key row) (key y) Less less) rows below)

  put_anew : (rows : List R) → IsRising key rows → put key row (dropped key (key row) rows) ≡ put key row rows
  put_anew [] rising = refl
  put_anew (x ∷ xs) rising = here (key_cmp (key row) (key x)) refl (put_anew xs (tail_rising key x xs rising))
    where
      below : (r : Ordering) → r ≡ Less → key_cmp (key row) (key x) ≡ r → All (λ (y : R). key_cmp (key row) (key y) ≡ Less) xs
      below r is e =
          All-weaker (λ (y : R). key_cmp (key x) (key y) ≡ Less) (λ (y : R). key_cmp (key row) (key y) ≡ Less)
          (λ y. key_total.trans (key row) (key x) (key y) (e ∙ is)) xs (below_rest key x xs rising)

      alike : key_cmp (key row) (key x) ≡ Equal → All (λ (y : R). key_cmp (key row) (key y) ≡ Less) xs
      alike e =
          All-weaker (λ (y : R). key_cmp (key x) (key y) ≡ Less) (λ (y : R). key_cmp (key row) (key y) ≡ Less)
          (λ y less. key_total.congr (key row) (key x) (key y) e ∙ less) xs (below_rest key x xs rising)

      here : (r : Ordering) → key_cmp (key row) (key x) ≡ r → put key row (dropped key (key row) xs) ≡ put key row xs
          → put key row (cond (not (bytes_eq (key row) (key x))) (x ∷ dropped key (key row) xs) (dropped key (key row) xs))
          ≡ by_order r (row ∷ x ∷ xs) (row ∷ xs) (x ∷ put key row xs)
      here Less e rest =
          rw (equal_bytes (key row) (key x) Less e, e) (ap (λ rows. row ∷ x ∷ rows) (sym (none_there xs (below Less refl e))))
      here Equal e rest = rw (equal_bytes (key row) (key x) Equal e) (rest ∙ first_of_all xs (alike e))
      here Greater e rest = rw (equal_bytes (key row) (key x) Greater e, e) (ap (λ rows. x ∷ rows) rest)

-- ---- without the old entry and the old row

pub own_found : (rows : List ShareRow) (row old : ShareRow) → share_row rows row.id ≡ Some old → share_row rows old.id ≡ Some old
own_found rows row old found = ap (share_row rows) (eqb-true old.id row.id (find_among (λ other. other.id == row.id) rows old found).1) ∙ found

module _ {K : Type 0} (number : K → ℕ) (of_row : ShareRow → K) (old : ShareRow) where
  abbrev key : Entry K → List ℕ
  key = entry_key number

  abbrev own : ℕ
  own = number (of_row old)

  abbrev pub entries_left : List (Entry K) → List (Entry K)
  entries_left index = dropped key (key (entry_of of_row old)) index

  abbrev rows_left : List ShareRow → List ShareRow
  rows_left rows = dropped share_key (share_key old) rows

  abbrev found_by : ℕ → List (Entry K) → List ℕ
  found_by n index = map (λ entry. entry.share) (filter (λ entry. number entry.by == n) index)

  abbrev ids : ℕ → List ShareRow → List ℕ
  ids n rows = ids_of (λ row. number (of_row row) == n) rows

  abbrev others : List ℕ → List ℕ
  others list = filter (λ id. not (old.id == id)) list

  of_entries : (n : ℕ) (index : List (Entry K)) → found_by n (entries_left index) ≡ cond (own == n) (others (found_by n index)) (found_by n index)
  of_entries n [] = grind arith
  of_entries n (x ∷ xs) = let rest = of_entries n xs in grind (arith, nat_tests)

  of_rows : (n : ℕ) (rows : List ShareRow) → ids n (rows_left rows) ≡ others (ids n rows)
  of_rows n [] = refl
  of_rows n (x ∷ xs) = let rest = of_rows n xs in grind (arith, nat_tests)

  none_of : (n : ℕ) (rows : List ShareRow) → All (λ (y : ShareRow). old.id ≢ y.id) rows → others (ids n rows) ≡ ids n rows
  none_of n [] differ = refl
  none_of n (x ∷ xs) differ =
      let rest = none_of n xs (All-tail (λ (y : ShareRow). old.id ≢ y.id) x xs differ) in
      let first = All-head (λ (y : ShareRow). old.id ≢ y.id) x xs differ in
      grind (arith, nat_tests)

  differ_above : (x : ShareRow) (xs : List ShareRow) → IsRising share_key (x ∷ xs) → All (λ (y : ShareRow). x.id ≢ y.id) xs
  differ_above x xs rising =
      All-weaker (Below share_key x) (λ (y : ShareRow). x.id ≢ y.id)
      (λ y less same. let before = below_one x.id y.id less in absurd (omega arith)) xs (below_rest share_key x xs rising)

  of_others : (n : ℕ) (rows : List ShareRow) → IsRising share_key rows → share_row rows old.id ≡ Some old → (own == n) ≡ false → others (ids n rows) ≡ ids n rows
  of_others n [] rising found other = absurd (cc)
  of_others n (x ∷ xs) rising found other =
      here (x.id == old.id) refl found (λ later. of_others n xs (tail_rising share_key x xs rising) later other)
    where
      here : (b : Bool) → (x.id == old.id) ≡ b → cond b (Some x) (share_row xs old.id) ≡ Some old
          → (share_row xs old.id ≡ Some old → others (ids n xs) ≡ ids n xs) → others (ids n (x ∷ xs)) ≡ ids n (x ∷ xs)
      here true e first rest =
          let it : x ≡ old = cc in
          let fails : (number (of_row x) == n) ≡ false = ap (λ (row : ShareRow). number (of_row row) == n) it ∙ other in
          let none = none_of n xs (subst (λ (row : ShareRow). All (λ (y : ShareRow). row.id ≢ y.id) xs) it (differ_above x xs rising)) in
          rw fails none
      here false e later rest =
          let behind = rest later in
          grind (arith, nat_tests)

  left : (index : List (Entry K)) (rows : List ShareRow) → share_row rows old.id ≡ Some old → IsIndex number of_row index rows
      → IsIndex number of_row (entries_left index) (rows_left rows)
  left index rows found is = record {
    entries_rise = dropped_rising key (key (entry_of of_row old)) index is.entries_rise;
    rows_rise = dropped_rising share_key (share_key old) rows is.rows_rise;
    numbers = λ n. of_entries n index ∙ here n (own == n) refl ∙ sym (of_rows n rows);
  }
    where
      here : (n : ℕ) (b : Bool) → (own == n) ≡ b → cond b (others (found_by n index)) (found_by n index) ≡ others (ids n rows)
      here n true e = ap others (is.numbers n)
      here n false e = is.numbers n ∙ sym (of_others n rows is.rows_rise found e)

  differ_left : (rows : List ShareRow) → All (λ (y : ShareRow). old.id ≢ y.id) (rows_left rows)
  differ_left [] = All-nil (λ (y : ShareRow). old.id ≢ y.id)
  differ_left (x ∷ xs) = here (old.id == x.id) refl (differ_left xs)
    where
      here : (b : Bool) → (old.id == x.id) ≡ b → All (λ (y : ShareRow). old.id ≢ y.id) (rows_left xs)
          → All (λ (y : ShareRow). old.id ≢ y.id) (rows_left (x ∷ xs))
      here true e rest = rw e rest
      here false e rest = rw e (All-cons (λ (y : ShareRow). old.id ≢ y.id) x (rows_left xs) (λ same. grind (arith, nat_tests)) rest)

  -- ---- one entry fewer

  there : (rows : List ShareRow) → share_row rows old.id ≡ Some old → list_any (λ id. old.id == id) (ids own rows) ≡ true
  there [] found = absurd (cc)
  there (x ∷ xs) found = here (x.id == old.id) refl found (there xs)
    where
      here : (b : Bool) → (x.id == old.id) ≡ b → cond b (Some x) (share_row xs old.id) ≡ Some old
          → (share_row xs old.id ≡ Some old → list_any (λ id. old.id == id) (ids own xs) ≡ true) → list_any (λ id. old.id == id) (ids own (x ∷ xs)) ≡ true
      here true e first rest =
          let it : x ≡ old = cc in
          let passes : (number (of_row x) == own) ≡ true = rw it (grind (arith, nat_tests)) in
          grind (arith, nat_tests)
      here false e later rest =
          let behind = rest later in
          grind (arith, nat_tests)

  one_less : (index : List (Entry K)) → list_any (λ id. old.id == id) (found_by own index) ≡ true → length (entries_left index) + 1 ≤ length index
  one_less [] there = absurd (cc)
  one_less (x ∷ xs) there =
      let fewer = dropped_length key (key (entry_of of_row old)) xs in
      let rest = one_less xs in
      grind (arith, nat_tests)

  pub fewer_left : (index : List (Entry K)) (rows : List ShareRow) → share_row rows old.id ≡ Some old → IsIndex number of_row index rows
      → length (entries_left index) + 1 ≤ length index
  fewer_left index rows found is = one_less index (ap (list_any (λ id. old.id == id)) (is.numbers own) ∙ there rows found)

  pub index_moved : (index : List (Entry K)) (rows : List ShareRow) (row : ShareRow) → share_row rows row.id ≡ Some old → IsIndex number of_row index rows
      → IsIndex number of_row (put key (entry_of of_row row) (entries_left index)) (put share_key row rows)
  index_moved index rows row found is =
      let same : old.id ≡ row.id = eqb-true old.id row.id (find_among (λ other. other.id == row.id) rows old found).1 in
      let own_found : share_row rows old.id ≡ Some old = ap (share_row rows) same ∙ found in
      let differ = subst (λ (id : ℕ). All (λ (y : ShareRow). id ≢ y.id) (rows_left rows)) same (differ_left rows) in
      let anew : put share_key row (rows_left rows) ≡ put share_key row rows =
      ap (λ (id : ℕ). put share_key row (dropped share_key (id ∷ []) rows)) same ∙ put_anew share_key row rows is.rows_rise in
      subst (IsIndex number of_row (put key (entry_of of_row row) (entries_left index))) anew
      (index_put number of_row (entries_left index) (rows_left rows) row differ (left index rows own_found is))
