-- The keys of entries, and what is found by them.
use Rattle.std.proofs.Common.{ℕ, suc, ◌≡◌, ◌==◌, ◌&&◌, ◌+◌, Bool, true, false, cond, List, [], ◌∷◌, ◌++◌, length, Option, Some, None, bytes_eq, refl, sym, ap, ◌∙◌, length-append, arith}
use Rattle.std.specs.List.{All, filter, find}
use Rattle.std.specs.Option.{option_map_or}
use Rattle.std.specs.declared.cmp.Ordering.{Ordering}
use Rattle.std.specs.declared.cmp.Ordering.TheVariants.{Less, Equal, Greater}
use Rattle.std.proofs.lemmas.Bool.Decides.{nat_tests}
use Rattle.std.proofs.lemmas.List.Elements.{All-cons, All-head, All-tail, All-weaker}
use Rattle.std.proofs.lemmas.Slice.Eq.{bytes_eq-Decides}
use Rattle.nf_access.specs.Mounts.{mount_row}
use Rattle.nf_base.specs.declared.rows.MountRow.{MountRow}
use Rattle.nf_defs.specs.Prelude.{by_order, dropped, IsRising, key_cmp, mount_key, put}
use Rattle.nf_defs.proofs.Lookups.{bytes_turned, equal_bytes}
use Rattle.nf_defs.proofs.Puts.{below_rest, key_total, tail_rising}
use Rattle.nf_mounts.specs.Kept.{entry_key}
use Rattle.nf_mounts.specs.declared.names.NamedMount.{NamedMount}
use Rattle.nf_table.specs.Rows.{begins, row_at}
use Rattle.nf_table.specs.declared.swaps.Swap.{Swap}
use Rattle.nf_table.proofs.Looked.{at_swapped, same_bytes}

pub iff_same : (x y : Bool) → (x ≡ true → y ≡ true) → (y ≡ true → x ≡ true) → x ≡ y
iff_same true true f g = refl
iff_same true false f g = sym (f refl)
iff_same false true f g = g refl
iff_same false false f g = refl

and_true : (b : Bool) → b && true ≡ b
and_true true = refl
and_true false = refl

-- the test of a mount's user and node is that of its key
pub by_key : (rows : List MountRow) (user node : ℕ) → row_at mount_key (user ∷ node ∷ []) rows ≡ mount_row rows user node
by_key rows user node =
    ap (λ (test : MountRow → Bool). find test rows) (λ i row. ap (λ (b : Bool). (row.user == user) && b) (and_true (row.node == node)) i)

-- and that of its user is that of a front
pub by_user : (rows : List MountRow) (user : ℕ) → filter (λ row. begins (mount_key row) (user ∷ [])) rows ≡ filter (λ row. row.user == user) rows
by_user rows user = ap (λ (test : MountRow → Bool). filter test rows) (λ i row. and_true (row.user == user) i)

-- ---- entries of the same key

same_ends : (a b : List ℕ) (m n : ℕ) → a ++ m ∷ [] ≡ b ++ n ∷ [] → (a ≡ b) × (m ≡ n)
same_ends [] [] m n same = (refl, cc)
same_ends [] (y ∷ ys) m n same = let l = ap length same in let k = length-append ys (n ∷ []) in absurd (omega arith)
same_ends (x ∷ xs) [] m n same = let l = ap length same in let k = length-append xs (m ∷ []) in absurd (omega arith)
same_ends (x ∷ xs) (y ∷ ys) m n same =
    let first : x ≡ y = cc in
    let rest = same_ends xs ys m n (cc) in
    (let e = rest.0 in cc, rest.1)

abbrev entry : ℕ → List ℕ → ℕ → NamedMount
entry user name node = record { user = user; name = name; node = node }

pub same_entry : (a b : NamedMount) → entry_key a ≡ entry_key b → a ≡ b
same_entry a b same =
    let user : a.user ≡ b.user = cc in
    let ends = same_ends a.name b.name a.node b.node (cc) in
    ap (λ (u : ℕ). entry u a.name a.node) user ∙ ap (λ (n : List ℕ). entry b.user n a.node) ends.0 ∙ ap (entry b.user b.name) ends.1

pub key_same : (a b : NamedMount) → bytes_eq (entry_key a) (entry_key b) ≡ ((a.user == b.user && a.node == b.node) && bytes_eq a.name b.name)
key_same a b = iff_same _ _ there back
  where
    there : bytes_eq (entry_key a) (entry_key b) ≡ true → ((a.user == b.user && a.node == b.node) && bytes_eq a.name b.name) ≡ true
    there e =
        let same = same_entry a b ((bytes_eq-Decides (entry_key a) (entry_key b)).0 e) in
        let user : a.user ≡ b.user = ap (λ (x : NamedMount). x.user) same in
        let node : a.node ≡ b.node = ap (λ (x : NamedMount). x.node) same in
        let name = same_bytes a.name b.name (ap (λ (x : NamedMount). x.name) same) in
        grind (arith, nat_tests)

    back : ((a.user == b.user && a.node == b.node) && bytes_eq a.name b.name) ≡ true → bytes_eq (entry_key a) (entry_key b) ≡ true
    back e =
        let user : a.user ≡ b.user = grind (arith, nat_tests) in
        let node : a.node ≡ b.node = grind (arith, nat_tests) in
        let test : bytes_eq a.name b.name ≡ true = grind (arith, nat_tests) in
        let name = (bytes_eq-Decides a.name b.name).0 test in
        same_bytes (entry_key a) (entry_key b) (cc)

-- ---- rows that are found by their keys

module _ {R : Type 0} (key : R → List ℕ) where
  abbrev swap : List ℕ → Option R → Swap (List ℕ) R
  swap n o = record { key = n; row = o }

  pub at_put : (n : List ℕ) (row : R) (rows : List R) → row_at key n (put key row rows) ≡ cond (bytes_eq (key row) n) (Some row) (row_at key n rows)
  at_put n row rows = at_swapped key (λ (k : List ℕ). k) n rows (swap (key row) (Some row)) refl

  pub at_dropped : (n m : List ℕ) (rows : List R) → row_at key n (dropped key m rows) ≡ cond (bytes_eq m n) None (row_at key n rows)
  at_dropped n m rows = at_swapped key (λ (k : List ℕ). k) n rows (swap m None) tt

  pub none_below : (n : List ℕ) (rows : List R) → All (λ (x : R). key_cmp n (key x) ≡ Less) rows → row_at key n rows ≡ None
  none_below n [] below = refl
  none_below n (x ∷ xs) below =
      rw (bytes_turned (key x) n ∙ equal_bytes n (key x) Less (All-head (λ (x : R). key_cmp n (key x) ≡ Less) x xs below))
      (none_below n xs (All-tail (λ (x : R). key_cmp n (key x) ≡ Less) x xs below))

  none_lower : (row x : R) (xs : List R) → IsRising key (x ∷ xs) → key_cmp (key row) (key x) ≡ Less → row_at key (key row) (x ∷ xs) ≡ None
  none_lower row x xs rising less =
      none_below (key row) (x ∷ xs)
      (All-cons (λ (z : R). key_cmp (key row) (key z) ≡ Less) x xs less
      (All-weaker (λ (z : R). key_cmp (key x) (key z) ≡ Less) (λ (z : R). key_cmp (key row) (key z) ≡ Less)
      (λ z. key_total.trans (key row) (key x) (key z) less) xs (below_rest key x xs rising)))

  -- ---- how many there are

  abbrev pub one : Bool → ℕ
  one b = cond b 1 0

  abbrev pub passes : (R → Bool) → Option R → Bool
  passes p o = option_map_or p o false

  pub size_put : (p : R → Bool) (row : R) (rows : List R) → IsRising key rows
      → length (filter p (put key row rows)) + one (passes p (row_at key (key row) rows)) ≡ length (filter p rows) + one (p row)
  size_put p row [] rising = grind arith
  size_put p row (x ∷ xs) rising = here (key_cmp (key row) (key x)) refl (size_put p row xs (tail_rising key x xs rising))
    where
      here : (r : Ordering) → key_cmp (key row) (key x) ≡ r
          → length (filter p (put key row xs)) + one (passes p (row_at key (key row) xs)) ≡ length (filter p xs) + one (p row)
          → length (filter p (by_order r (row ∷ x ∷ xs) (row ∷ xs) (x ∷ put key row xs))) + one (passes p (row_at key (key row) (x ∷ xs)))
          ≡ length (filter p (x ∷ xs)) + one (p row)
      here Less e rest = let none = none_lower row x xs rising e in rw none (grind arith)
      here Equal e rest =
          let same : bytes_eq (key x) (key row) ≡ true = bytes_turned (key x) (key row) ∙ equal_bytes (key row) (key x) Equal e in
          rw same (grind arith)
      here Greater e rest =
          let differ : bytes_eq (key x) (key row) ≡ false = bytes_turned (key x) (key row) ∙ equal_bytes (key row) (key x) Greater e in
          rw differ (grind arith)

  all_kept : (rows : List R) → filter (λ _. true) rows ≡ rows
  all_kept [] = refl
  all_kept (x ∷ xs) = ap (λ rest. x ∷ rest) (all_kept xs)

  pub size_put_all : (row : R) (rows : List R) → IsRising key rows
      → length (put key row rows) + one (passes (λ _. true) (row_at key (key row) rows)) ≡ length rows + 1
  size_put_all row rows rising =
      let size = size_put (λ _. true) row rows rising in
      let a = ap length (all_kept rows) in
      let b = ap length (all_kept (put key row rows)) in
      omega arith

  pub size_dropped : (n : List ℕ) (rows : List R) → IsRising key rows
      → length (dropped key n rows) + one (passes (λ _. true) (row_at key n rows)) ≡ length rows
  size_dropped n [] rising = refl
  size_dropped n (x ∷ xs) rising = here (bytes_eq (key x) n) refl (size_dropped n xs (tail_rising key x xs rising))
    where
      here : (b : Bool) → bytes_eq (key x) n ≡ b → length (dropped key n xs) + one (passes (λ _. true) (row_at key n xs)) ≡ length xs
          → length (dropped key n (x ∷ xs)) + one (passes (λ _. true) (row_at key n (x ∷ xs))) ≡ suc (length xs)
      here true e rest =
          let is : key x ≡ n = (bytes_eq-Decides (key x) n).0 e in
          let none : row_at key n xs ≡ None = ap (λ (k : List ℕ). row_at key k xs) (sym is) ∙ none_below (key x) xs (below_rest key x xs rising) in
          let turn = bytes_turned n (key x) ∙ e in
          let behind = ap (λ (o : Option R). one (passes (λ _. true) o)) none in
          rw (turn, e) (omega arith)
      here false e rest =
          let turn = bytes_turned n (key x) ∙ e in
          rw (turn, e) (omega arith)
