-- Indexes of shares: what is found there, and what a new share and a changed one leave.
use Rattle.std.proofs.Common.{ℕ, ◌≡◌, ◌≢◌, ◌==◌, ◌&&◌, Bool, true, false, cond, List, [], ◌∷◌, get_or, length, bytes_eq, suc, map, Option, Some, None, option_map, refl, sym, ap, subst, ◌+◌, ◌≤◌, ◌∙◌, arith}
use Rattle.std.specs.Cmp.{nat_cmp_total, tied_itself}
use Rattle.std.specs.List.{All, filter, find}
use Rattle.std.specs.Option.{IfSome, MatchOption, option_and_then, option_map_or}
use Rattle.std.specs.declared.cmp.Ordering.{Ordering}
use Rattle.std.specs.declared.cmp.Ordering.TheVariants.{Less, Equal, Greater}
use Rattle.std.proofs.lemmas.Bool.{cond_both, eqb-true}
use Rattle.std.proofs.lemmas.Bool.Decides.{nat_tests}
use Rattle.std.proofs.lemmas.List.Elements.{All-cons, All-head, All-nil, All-tail, All-weaker, filter_agree}
use Rattle.std.proofs.lemmas.Slice.Eq.{bytes_eq-Decides}
use Rattle.nf_access.proofs.Kept.{share_row_each}
use Rattle.nf_access.proofs.LookUps.{find_among}
use Rattle.nf_access.specs.Shares.{is_link, link_row, share_row}
use Rattle.nf_base.specs.declared.rows.ShareKind.{ShareKind}
use Rattle.nf_base.specs.declared.rows.ShareKind.TheVariants as kind
use Rattle.nf_base.specs.declared.rows.ShareRow.{ShareRow}
use Rattle.nf_defs.specs.Prelude.{by_order, IsRising, key_cmp, put, share_key}
use Rattle.nf_defs.proofs.Lookups.{bytes_turned, equal_bytes}
use Rattle.nf_defs.proofs.Puts.{below_rest, key_total, put_rising, tail_rising, turned}
use Rattle.nf_shares.specs.Kept.{IsIndex, entry_key, entry_of, front_of, front_of_kind, ids_of}
use Rattle.nf_access.specs.Making.{is_again}
use Rattle.nf_shares.specs.declared.entries.Entry.{Entry}
use Rattle.nf_table.specs.Rows.{Changes, begins, row_at}

tied : (a b : List ℕ) → key_cmp a b ≡ Equal → a ≡ b
tied a b e = (bytes_eq-Decides a b).0 (equal_bytes a b Equal e)

and_true : (b : Bool) → b && true ≡ b
and_true true = refl
and_true false = refl

-- ---- a row put among others, and the numbers of those that pass a test

abbrev numbered : ℕ → List ℕ
numbered n = n ∷ []

module _ {R : Type 0} (key : R → List ℕ) (number : R → ℕ) (p : R → Bool) (row : R) where
  -- a row of the same key passes as the new one does, and rows that pass stand as their numbers do
  record Agrees (y : R) : Type 0 where
    alike : key_cmp (key row) (key y) ≡ Equal → p y ≡ p row
    ordered : p row ≡ true → p y ≡ true → key_cmp (numbered (number row)) (numbered (number y)) ≡ key_cmp (key row) (key y)

  abbrev numbers : List R → List ℕ
  numbers rows = map number (filter p rows)

  put_below : (rows : List R) → p row ≡ true → All Agrees rows → All (λ (y : R). key_cmp (key row) (key y) ≡ Less) rows
      → put numbered (number row) (numbers rows) ≡ number row ∷ numbers rows
  put_below [] passes agree below = refl
  put_below (x ∷ xs) passes agree below =
      let rest = put_below xs passes (All-tail Agrees x xs agree) (All-tail (λ (y : R). key_cmp (key row) (key y) ≡ Less) x xs below) in
      let first = (All-head Agrees x xs agree).ordered passes in
      let less = All-head (λ (y : R). key_cmp (key row) (key y) ≡ Less) x xs below in
      here (p x) (λ e. first e ∙ less) rest
    where
      here : (b : Bool) → (b ≡ true → key_cmp (numbered (number row)) (numbered (number x)) ≡ Less)
          → put numbered (number row) (numbers xs) ≡ number row ∷ numbers xs
          → put numbered (number row) (map number (cond b (x ∷ filter p xs) (filter p xs))) ≡ number row ∷ map number (cond b (x ∷ filter p xs) (filter p xs))
      here true less rest = rw (less refl) refl
      here false less rest = rest

  put_numbers : (rows : List R) → IsRising key rows → All Agrees rows
      → numbers (put key row rows) ≡ cond (p row) (put numbered (number row) (numbers rows)) (numbers rows)
  put_numbers [] rising agree = grind arith
  put_numbers (x ∷ xs) rising agree =
      here (key_cmp (key row) (key x)) refl (put_numbers xs (tail_rising key x xs rising) (All-tail Agrees x xs agree))
    where
      first : Agrees x
      first = All-head Agrees x xs agree

      here : (r : Ordering) → key_cmp (key row) (key x) ≡ r
          → numbers (put key row xs) ≡ cond (p row) (put numbered (number row) (numbers xs)) (numbers xs)
          → numbers (by_order r (row ∷ x ∷ xs) (row ∷ xs) (x ∷ put key row xs))
          ≡ cond (p row) (put numbered (number row) (numbers (x ∷ xs))) (numbers (x ∷ xs))
      here Less e rest =
          let below : All (λ (y : R). key_cmp (key row) (key y) ≡ Less) (x ∷ xs) =
          All-cons (λ (y : R). key_cmp (key row) (key y) ≡ Less) x xs e
          (All-weaker (λ (y : R). key_cmp (key x) (key y) ≡ Less) (λ (y : R). key_cmp (key row) (key y) ≡ Less)
          (λ y. key_total.trans (key row) (key x) (key y) e) xs (below_rest key x xs rising)) in
          grind (arith, λ (passes : p row ≡ true). put_below (x ∷ xs) passes agree below)
      here Equal e rest = let same = first.alike e in let order = first.ordered in grind arith
      here Greater e rest = let order = first.ordered in grind arith

-- ---- how many there are with it

module _ {R : Type 0} (key : R → List ℕ) where
  pub no_fewer : (row : R) (rows : List R) → length rows ≤ length (put key row rows)
  no_fewer row [] = omega arith
  no_fewer row (x ∷ xs) = here (key_cmp (key row) (key x)) (no_fewer row xs)
    where
      here : (r : Ordering) → length xs ≤ length (put key row xs) → suc (length xs) ≤ length (by_order r (row ∷ x ∷ xs) (row ∷ xs) (x ∷ put key row xs))
      here Less rest = omega arith
      here Equal rest = omega arith
      here Greater rest = omega arith

  pub one_more : (row : R) (rows : List R) → row_at key (key row) rows ≡ None → length (put key row rows) ≡ length rows + 1
  one_more row [] none = refl
  one_more row (x ∷ xs) none = here (key_cmp (key row) (key x)) refl (bytes_eq (key x) (key row)) refl none (one_more row xs)
    where
      here : (r : Ordering) → key_cmp (key row) (key x) ≡ r → (b : Bool) → bytes_eq (key x) (key row) ≡ b → cond b (Some x) (row_at key (key row) xs) ≡ None
          → (row_at key (key row) xs ≡ None → length (put key row xs) ≡ length xs + 1)
          → length (by_order r (row ∷ x ∷ xs) (row ∷ xs) (x ∷ put key row xs)) ≡ suc (length xs) + 1
      here r e true same none rest = absurd (cc)
      here Less e false other none rest = omega arith
      here Equal e false other none rest = absurd (cc (bytes_turned (key x) (key row), equal_bytes (key row) (key x) Equal e))
      here Greater e false other none rest = let more = rest none in omega arith

-- ---- a new share

module _ {K : Type 0} (number : K → ℕ) (of_row : ShareRow → K) where
  abbrev key : Entry K → List ℕ
  key = entry_key number

  entries_agree : (index : List (Entry K)) (row : ShareRow) (n : ℕ)
      → All (Agrees key (λ e. e.share) (λ e. number e.by == n) (entry_of of_row row)) index
  entries_agree index row n k d within = record {
    alike = λ same. ap (λ (m : ℕ). m == n) (let e = tied (key (entry_of of_row row)) (key (get_or index k d)) same in cc);
    ordered = λ mine its.
        let same : number (of_row row) ≡ number (get_or index k d).by = grind (arith, nat_tests) in
        rw (same, tied_itself nat_cmp_total (number (get_or index k d).by)) refl;
  }

  rows_agree : (rows : List ShareRow) (row : ShareRow) (n : ℕ) → All (λ (y : ShareRow). row.id ≢ y.id) rows
      → All (Agrees share_key (λ r. r.id) (λ r. number (of_row r) == n) row) rows
  rows_agree rows row n differ k d within = record {
    alike = λ same. absurd (differ k d within (let e = tied (share_key row) (share_key (get_or rows k d)) same in cc));
    ordered = λ _ _. refl;
  }

  pub index_put : (index : List (Entry K)) (rows : List ShareRow) (row : ShareRow) → All (λ (y : ShareRow). row.id ≢ y.id) rows
      → IsIndex number of_row index rows → IsIndex number of_row (put key (entry_of of_row row) index) (put share_key row rows)
  index_put index rows row differ is = record {
    entries_rise = put_rising key (entry_of of_row row) index is.entries_rise;
    rows_rise = put_rising share_key row rows is.rows_rise;
    numbers = λ n.
        put_numbers key (λ e. e.share) (λ e. number e.by == n) (entry_of of_row row) index is.entries_rise (entries_agree index row n)
        ∙ ap (λ (ids : List ℕ). cond (number (of_row row) == n) (put numbered row.id ids) ids) (is.numbers n)
        ∙ sym (put_numbers share_key (λ r. r.id) (λ r. number (of_row r) == n) row rows is.rows_rise (rows_agree rows row n differ));
  }

-- ---- the entries of a number

pub front_numbers : {K : Type 0} (number : K → ℕ) (of_row : ShareRow → K) (index : List (Entry K)) (rows : List ShareRow) (n : ℕ) → IsIndex number of_row index rows
    → map (λ entry. entry.share) (filter (λ entry. begins (entry_key number entry) (n ∷ [])) index) ≡ ids_of (λ row. number (of_row row) == n) rows
front_numbers {K} number of_row index rows n is =
    ap (map (λ (entry : Entry K). entry.share))
    (filter_agree (λ entry. begins (entry_key number entry) (n ∷ [])) (λ entry. number entry.by == n) (λ entry. and_true (number entry.by == n)) index)
    ∙ is.numbers n

-- ---- rows that are found

found_has : {X : Type 0} (P : X → Type 0) (test : X → Bool) (xs : List X) → All P xs → IfSome (find test xs) P
found_has P test [] all = tt
found_has P test (x ∷ xs) all =
    cond_both (test x) (Some x) (find test xs) (λ (o : Option _). IfSome o P) (λ _. All-head P x xs all) (λ _. found_has P test xs (All-tail P x xs all))

pub none_has : (id : ℕ) (rows : List ShareRow) → share_row rows id ≡ None → All (λ (y : ShareRow). id ≢ y.id) rows
none_has id [] none = All-nil (λ (y : ShareRow). id ≢ y.id)
none_has id (x ∷ xs) none = here (x.id == id) refl none (none_has id xs)
  where
    here : (b : Bool) → (x.id == id) ≡ b → cond b (Some x) (share_row xs id) ≡ None
        → (share_row xs id ≡ None → All (λ (y : ShareRow). id ≢ y.id) xs) → All (λ (y : ShareRow). id ≢ y.id) (x ∷ xs)
    here true e none rest = absurd (cc)
    here false e none rest = All-cons (λ (y : ShareRow). id ≢ y.id) x xs (λ same. grind (arith, nat_tests)) (rest none)

-- ---- a changed share

module _ {K : Type 0} (number : K → ℕ) (of_row : ShareRow → K) (id : ℕ) (old new : ShareRow) (same_id : new.id ≡ old.id)
    (same_number : number (of_row new) ≡ number (of_row old)) where
  abbrev ids : ℕ → List ShareRow → List ℕ
  ids n rows = ids_of (λ row. number (of_row row) == n) rows

  kept : (n : ℕ) (rows : List ShareRow) → IsRising share_key rows → share_row rows id ≡ Some old → ids n (put share_key new rows) ≡ ids n rows
  kept n [] rising found = absurd (cc)
  kept n (x ∷ xs) rising found = here (x.id == id) found (kept n xs (tail_rising share_key x xs rising))
    where
      here : (b : Bool) → cond b (Some x) (share_row xs id) ≡ Some old
          → (share_row xs id ≡ Some old → ids n (put share_key new xs) ≡ ids n xs) → ids n (put share_key new (x ∷ xs)) ≡ ids n (x ∷ xs)
      here true first rest =
          let it : x ≡ old = cc in
          let tie : key_cmp (share_key new) (share_key x) ≡ Equal = rw (same_id, it) (tied_itself key_total (share_key old)) in
          let same : number (of_row new) ≡ number (of_row x) = same_number ∙ ap (λ (row : ShareRow). number (of_row row)) (sym it) in
          rw tie (grind arith)
      here false later rest =
          let below = subst (λ (o : Option ShareRow). IfSome o (λ y. key_cmp (share_key x) (share_key y) ≡ Less)) later
          (found_has (λ (y : ShareRow). key_cmp (share_key x) (share_key y) ≡ Less) (λ (y : ShareRow). y.id == id) xs (below_rest share_key x xs rising)) in
          let above : key_cmp (share_key new) (share_key x) ≡ Greater = rw same_id (turned (share_key x) (share_key old) Less below) in
          let behind = rest later in
          rw above (grind arith)

  index_kept : (index : List (Entry K)) (rows : List ShareRow) → share_row rows id ≡ Some old → IsIndex number of_row index rows
      → IsIndex number of_row index (put share_key new rows)
  index_kept index rows found is = record {
    entries_rise = is.entries_rise;
    rows_rise = put_rising share_key new rows is.rows_rise;
    numbers = λ n. is.numbers n ∙ sym (kept n rows is.rows_rise found);
  }

-- a row over that of the same share, which has the same number
pub index_over : {K : Type 0} (number : K → ℕ) (of_row : ShareRow → K) (index : List (Entry K)) (rows : List ShareRow) (row old : ShareRow)
    → share_row rows row.id ≡ Some old → number (of_row old) ≡ number (of_row row) → IsIndex number of_row index rows
    → IsIndex number of_row index (put share_key row rows)
index_over number of_row index rows row old found same is =
    let same_id = eqb-true old.id row.id (find_among (λ other. other.id == row.id) rows old found).1 in
    index_kept number of_row row.id old row (sym same_id) (sym same) index rows found is

-- the test of a share's number is that of its key
pub by_id : (rows : List ShareRow) (id : ℕ) → row_at share_key (id ∷ []) rows ≡ share_row rows id
by_id rows id = ap (λ (test : ShareRow → Bool). find test rows) (λ i row. and_true (row.id == id) i)

module _ (rows rows' : List ShareRow) (id : ℕ) (Becomes : ShareRow → ShareRow → Type 0) (changes : Changes share_key (id ∷ []) Becomes rows rows') where
  abbrev ChangesAt : Option ShareRow → Type 0
  ChangesAt o = MatchOption o (rows' ≡ rows) (λ (row : ShareRow). (row' : ShareRow) × Becomes row row' × (rows' ≡ put share_key row' rows))

  changes_at : ChangesAt (share_row rows id)
  changes_at = subst ChangesAt (by_id rows id) changes

  pub index_changed : {K : Type 0} (number : K → ℕ) (of_row : ShareRow → K) (index : List (Entry K))
      → ((row row' : ShareRow) → Becomes row row' → (row'.id ≡ row.id) × (number (of_row row') ≡ number (of_row row))) → IsIndex number of_row index rows
      → IsIndex number of_row index rows'
  index_changed number of_row index stays is = here (share_row rows id) refl changes_at
    where
      here : (o : Option ShareRow) → share_row rows id ≡ o → ChangesAt o → IsIndex number of_row index rows'
      here None found same = subst (IsIndex number of_row index) (sym same) is
      here (Some row) found (row', becomes, put_is) =
          let (same_id, same_number) = stays row row' becomes in
          subst (IsIndex number of_row index) (sym put_is) (index_kept number of_row id row row' same_id same_number index rows found is)

-- ---- the first share of a number that passes a test

find_map : {X : Type 0} (f : X → ℕ) (test : ℕ → Bool) (xs : List X) → find test (map f xs) ≡ option_map f (find (λ x. test (f x)) xs)
find_map f test [] = refl
find_map f test (x ∷ xs) = let rest = find_map f test xs in grind arith

find_filter : {X : Type 0} (p test : X → Bool) (xs : List X) → find test (filter p xs) ≡ find (λ x. p x && test x) xs
find_filter p test [] = refl
find_filter p test (x ∷ xs) = let rest = find_filter p test xs in grind arith

find_agree : {X : Type 0} (p q : X → Bool) (xs : List X) → All (λ x. p x ≡ q x) xs → find p xs ≡ find q xs
find_agree p q [] agree = refl
find_agree p q (x ∷ xs) agree =
    rw (All-head (λ x. p x ≡ q x) x xs agree) (ap (cond (q x) (Some x)) (find_agree p q xs (All-tail (λ x. p x ≡ q x) x xs agree)))

-- where the numbers of the rows that pass are asked for their rows
pub first_of : (rows : List ShareRow) (p test : ShareRow → Bool) → IsRising share_key rows
    → find (λ id. option_map_or test (share_row rows id) false) (ids_of p rows) ≡ option_map (λ row. row.id) (find (λ row. p row && test row) rows)
first_of rows p test rising =
    let passes : ℕ → Bool = λ id. option_map_or test (share_row rows id) false in
    find_map (λ row. row.id) passes (filter p rows)
    ∙ ap (option_map (λ (row : ShareRow). row.id))
    (find_filter p (λ row. passes row.id) rows
    ∙ find_agree (λ row. p row && passes row.id) (λ row. p row && test row) rows
    (λ k d within. ap (λ (o : Option ShareRow). p (get_or rows k d) && option_map_or test o false) (share_row_each rows rising k d within)))

-- a share that gives the same already is one of the same node
pub again_there : (rows : List ShareRow) (row : ShareRow) (now : ℕ) → find (λ other. other.node == row.node && is_again row now other) rows ≡ find (is_again row now) rows
again_there rows row now = find_agree (λ other. other.node == row.node && is_again row now other) (is_again row now) rows (λ k d within. grind arith)

-- the link of a token is one of those with the token's front
pub linked_there : (rows : List ShareRow) (token : List ℕ) → find (λ row. (front_of_kind row.kind == front_of token) && is_link token row.kind) rows ≡ link_row rows token
linked_there rows token =
    find_agree (λ row. (front_of_kind row.kind == front_of token) && is_link token row.kind) (λ row. is_link token row.kind) rows
    (λ k d within. here (get_or rows k d).kind)
  where
    here : (kind : ShareKind) → (front_of_kind kind == front_of token) && is_link token kind ≡ is_link token kind
    here (kind.User user) = grind arith
    here (kind.Group group) = grind arith
    here (kind.Link own) = narrowed (bytes_eq own token) refl
      where
        narrowed : (b : Bool) → bytes_eq own token ≡ b → (front_of own == front_of token) && b ≡ b
        narrowed true same = let is = (bytes_eq-Decides own token).0 same in rw is (grind (arith, nat_tests))
        narrowed false other = grind arith

-- what is found is there by its number
found_by_id : (rows : List ShareRow) (test : ShareRow → Bool) → IsRising share_key rows
    → option_and_then (λ id. share_row rows id) (option_map (λ row. row.id) (find test rows)) ≡ find test rows
found_by_id rows test rising = here (find test rows) (found_has (λ row. share_row rows row.id ≡ Some row) test rows (share_row_each rows rising))
  where
    here : (o : Option ShareRow) → IfSome o (λ row. share_row rows row.id ≡ Some row) → option_and_then (λ id. share_row rows id) (option_map (λ row. row.id) o) ≡ o
    here None own = refl
    here (Some row) own = own

first_linked : (rows : List ShareRow) (index : List (Entry ℕ)) (token : List ℕ) → IsIndex (λ front. front) (λ row. front_of_kind row.kind) index rows
    → find (λ id. option_map_or (λ row. is_link token row.kind) (share_row rows id) false)
    (map (λ entry. entry.share) (filter (λ entry. begins (entry_key (λ front. front) entry) (front_of token ∷ [])) index))
    ≡ option_map (λ row. row.id) (link_row rows token)
first_linked rows index token is =
    let test : ShareRow → Bool = λ row. is_link token row.kind in
    let passes : ℕ → Bool = λ id. option_map_or test (share_row rows id) false in
    ap (λ (ids : List ℕ). find passes ids) (front_numbers (λ front. front) (λ row. front_of_kind row.kind) index rows (front_of token) is)
    ∙ first_of rows (λ row. front_of_kind row.kind == front_of token) test is.rows_rise
    ∙ ap (option_map (λ (row : ShareRow). row.id)) (linked_there rows token)

-- its row is found by the number that is found first
pub linked_row : (rows : List ShareRow) (index : List (Entry ℕ)) (token : List ℕ) → IsIndex (λ front. front) (λ row. front_of_kind row.kind) index rows
    → (first : Option ℕ) → first ≡ find (λ id. option_map_or (λ row. is_link token row.kind) (share_row rows id) false)
    (map (λ entry. entry.share) (filter (λ entry. begins (entry_key (λ front. front) entry) (front_of token ∷ [])) index))
    → option_and_then (λ id. share_row rows id) first ≡ link_row rows token
linked_row rows index token is first found =
    ap (option_and_then (λ id. share_row rows id)) (found ∙ first_linked rows index token is)
    ∙ found_by_id rows (λ row. is_link token row.kind) is.rows_rise
