-- Rows in segments, a kind each: where a row is put or dropped only its kind's segment changes.
use Rattle.std.proofs.Common.{◌≡◌, ◌≢◌, ℕ, zero, suc, ◌+◌, ◌<◌, Bool, true, false, List, [], ◌∷◌, ◌++◌, length, get_or, set, refl, sym, ap, ◌∙◌, arith}
use Rattle.std.specs.Prelude.{bytes_eq, not}
use Rattle.std.specs.List.{All, AllByRecursion}
use Rattle.std.specs.Cmp.{nat_cmp_is}
use Rattle.std.specs.declared.cmp.Ordering.{Ordering}
use Rattle.std.specs.declared.cmp.Ordering.TheVariants.{Less, Equal, Greater}
use Rattle.std.proofs.lemmas.List.Elements.{All-append, All-cons, All-head, All-nil, All-tail, All-weaker, filter-append}
use Rattle.std.proofs.lemmas.List.Kept.{AllPairs-cons}
use Rattle.std.proofs.lemmas.Slice.Eq.{bytes_eq-Decides}
use Rattle.nf_base.specs.Keys.{key_of}
use Rattle.nf_base.specs.declared.rows.Row.{Row}
use Rattle.nf_defs.specs.Prelude.{by_order, dropped, IsRising, key_cmp, put}
use Rattle.nf_defs.proofs.Puts.{below_rest, tail_rising}
use Rattle.nf_rows.specs.Spelling.{kind_of, spelling_of}
use Rattle.nf_told.specs.Told.{raw_key}

-- the kind of a row, and its spelled key with the kind before it
abbrev pub row_kind : Row → ℕ
row_kind row = kind_of (key_of row)

abbrev pub row_key : Row → List ℕ
row_key row = raw_key (spelling_of row)

abbrev pub Segments : Type 0
Segments = List (List Row)

-- all of them, one after the other
abbrev pub joined : Segments → List Row
joined [] = []
joined (seg ∷ segs) = seg ++ joined segs

-- the kinds are counted from this one
abbrev pub AreKinds : ℕ → Segments → Type 0
AreKinds k [] = Unit {0}
AreKinds k (seg ∷ segs) = All (λ row. row_kind row ≡ k) seg × AreKinds (suc k) segs

abbrev Above : ℕ → Row → Type 0
Above k row = k < row_kind row

abbrev Below : ℕ → Row → Type 0
Below k row = row_kind row < k

higher : (j k : ℕ) (segs : Segments) → j < k → AreKinds k segs → All (Above j) (joined segs)
higher j k [] less kinds = All-nil (Above j)
higher j k (seg ∷ segs) less kinds =
    All-append (Above j) seg (joined segs) (All-weaker (λ row. row_kind row ≡ k) (Above j) (λ row e. omega arith) seg kinds.0)
    (higher j (suc k) segs (omega arith) kinds.1)

lower_is : (a b : Row) → row_kind a < row_kind b → key_cmp (row_key a) (row_key b) ≡ Less
lower_is a b less = rw (sym (nat_cmp_is (row_kind a) (row_kind b) Less less)) refl

higher_is : (a b : Row) → row_kind b < row_kind a → key_cmp (row_key a) (row_key b) ≡ Greater
higher_is a b less = rw (sym (nat_cmp_is (row_kind a) (row_kind b) Greater less)) refl

-- ---- a row is put

put_behind : (row : Row) (before rest : List Row) → All (Below (row_kind row)) before
    → put row_key row (before ++ rest) ≡ before ++ put row_key row rest
put_behind row [] rest below = refl
put_behind row (x ∷ xs) rest below =
    ap (λ (o : Ordering). by_order o (row ∷ x ∷ xs ++ rest) (row ∷ xs ++ rest) (x ∷ put row_key row (xs ++ rest)))
    (higher_is row x (All-head (Below (row_kind row)) x xs below))
    ∙ ap (λ (ys : List Row). x ∷ ys) (put_behind row xs rest (All-tail (Below (row_kind row)) x xs below))

put_front : (row : Row) (rest : List Row) → All (Above (row_kind row)) rest → put row_key row rest ≡ row ∷ rest
put_front row [] above = refl
put_front row (x ∷ xs) above =
    ap (λ (o : Ordering). by_order o (row ∷ x ∷ xs) (row ∷ xs) (x ∷ put row_key row xs))
    (lower_is row x (All-head (Above (row_kind row)) x xs above))

put_before : (row : Row) (seg rest : List Row) → All (Above (row_kind row)) rest
    → put row_key row (seg ++ rest) ≡ put row_key row seg ++ rest
put_before row [] rest above = put_front row rest above
put_before row (x ∷ xs) rest above = here (key_cmp (row_key row) (row_key x)) (put_before row xs rest above)
  where
    here : (o : Ordering) → put row_key row (xs ++ rest) ≡ put row_key row xs ++ rest
        → by_order o (row ∷ x ∷ xs ++ rest) (row ∷ xs ++ rest) (x ∷ put row_key row (xs ++ rest))
        ≡ by_order o (row ∷ x ∷ xs) (row ∷ xs) (x ∷ put row_key row xs) ++ rest
    here Less more = refl
    here Equal more = refl
    here Greater more = ap (λ (ys : List Row). x ∷ ys) more

pub put_at : (row : Row) (k : ℕ) (segs : Segments) (i : ℕ) → AreKinds k segs → row_kind row ≡ k + i → i < length segs
    → put row_key row (joined segs) ≡ joined (set segs i (put row_key row (get_or segs i [])))
put_at row k [] i kinds of_kind within = absurd (omega arith)
put_at row k (seg ∷ segs) zero kinds of_kind within =
    put_before row seg (joined segs) (higher (row_kind row) (suc k) segs (omega arith) kinds.1)
put_at row k (seg ∷ segs) (suc i) kinds of_kind within =
    put_behind row seg (joined segs) (All-weaker (λ x. row_kind x ≡ k) (Below (row_kind row)) (λ x e. omega arith) seg kinds.0)
    ∙ ap (λ (ys : List Row). seg ++ ys) (put_at row (suc k) segs i kinds.1 (omega arith) (omega arith))

-- ---- a key is dropped

abbrev Apart : ℕ → Row → Type 0
Apart kind row = row_kind row ≢ kind

other_kind : (kind : ℕ) (bytes : List ℕ) (row : Row) → Apart kind row → bytes_eq (kind ∷ bytes) (row_key row) ≡ false
other_kind kind bytes row apart = here (bytes_eq (kind ∷ bytes) (row_key row)) refl
  where
    here : (b : Bool) → bytes_eq (kind ∷ bytes) (row_key row) ≡ b → b ≡ false
    here true e = absurd (apart (sym (ap (λ (xs : List ℕ). get_or xs 0 0) ((bytes_eq-Decides (kind ∷ bytes) (row_key row)).0 e))))
    here false e = refl

keep_apart : (kind : ℕ) (bytes : List ℕ) (rows : List Row) → All (Apart kind) rows → dropped row_key (kind ∷ bytes) rows ≡ rows
keep_apart kind bytes [] apart = refl
keep_apart kind bytes (x ∷ xs) apart =
    rw (other_kind kind bytes x (All-head (Apart kind) x xs apart))
    (ap (λ (ys : List Row). x ∷ ys) (keep_apart kind bytes xs (All-tail (Apart kind) x xs apart)))

pub dropped_at : (kind : ℕ) (bytes : List ℕ) (k : ℕ) (segs : Segments) (i : ℕ) → AreKinds k segs → kind ≡ k + i → i < length segs
    → dropped row_key (kind ∷ bytes) (joined segs) ≡ joined (set segs i (dropped row_key (kind ∷ bytes) (get_or segs i [])))
dropped_at kind bytes k [] i kinds of_kind within = absurd (omega arith)
dropped_at kind bytes k (seg ∷ segs) zero kinds of_kind within =
    filter-append (λ row. not (bytes_eq (kind ∷ bytes) (row_key row))) seg (joined segs)
    ∙ ap (λ (ys : List Row). dropped row_key (kind ∷ bytes) seg ++ ys)
    (keep_apart kind bytes (joined segs) (All-weaker (Above kind) (Apart kind) (λ x less e. omega arith) (joined segs) (higher kind (suc k) segs (omega arith) kinds.1)))
dropped_at kind bytes k (seg ∷ segs) (suc i) kinds of_kind within =
    filter-append (λ row. not (bytes_eq (kind ∷ bytes) (row_key row))) seg (joined segs)
    ∙ ap (λ (ys : List Row). ys ++ dropped row_key (kind ∷ bytes) (joined segs))
    (keep_apart kind bytes seg (All-weaker (λ x. row_kind x ≡ k) (Apart kind) (λ x e same. omega arith) seg kinds.0))
    ∙ ap (λ (ys : List Row). seg ++ ys) (dropped_at kind bytes (suc k) segs i kinds.1 (omega arith) (omega arith))

-- ---- the rows rise

abbrev BelowRow : Row → Row → Type 0
BelowRow a b = key_cmp (row_key a) (row_key b) ≡ Less

append_rising : (k : ℕ) (seg rest : List Row) → All (λ row. row_kind row ≡ k) seg → All (Above k) rest → IsRising row_key seg
    → IsRising row_key rest → IsRising row_key (seg ++ rest)
append_rising k [] rest kinds above seg_rises rest_rises = rest_rises
append_rising k (x ∷ xs) rest kinds above seg_rises rest_rises =
    let of_kind : row_kind x ≡ k = All-head (λ row. row_kind row ≡ k) x xs kinds in
    AllPairs-cons BelowRow x (xs ++ rest)
    (All-append (BelowRow x) xs rest (below_rest row_key x xs seg_rises)
    (All-weaker (Above k) (BelowRow x) (λ row less. lower_is x row (omega arith)) rest above))
    (append_rising k xs rest (All-tail (λ row. row_kind row ≡ k) x xs kinds) above (tail_rising row_key x xs seg_rises) rest_rises)

pub joined_rising : (k : ℕ) (segs : Segments) → AreKinds k segs → AllByRecursion (IsRising row_key) segs → IsRising row_key (joined segs)
joined_rising k [] kinds rising = λ i j d before within. absurd (omega arith)
joined_rising k (seg ∷ segs) kinds rising =
    append_rising k seg (joined segs) kinds.0 (higher k (suc k) segs (omega arith) kinds.1) rising.0 (joined_rising (suc k) segs kinds.1 rising.1)

-- ---- what holds of all rows holds of those of each segment

all_front : {R : Type 0} (P : R → Type 0) (xs ys : List R) → All P (xs ++ ys) → All P xs
all_front P [] ys all = All-nil P
all_front P (x ∷ xs) ys all = All-cons P x xs (All-head P x (xs ++ ys) all) (all_front P xs ys (All-tail P x (xs ++ ys) all))

all_behind : {R : Type 0} (P : R → Type 0) (xs ys : List R) → All P (xs ++ ys) → All P ys
all_behind P [] ys all = all
all_behind P (x ∷ xs) ys all = all_behind P xs ys (All-tail P x (xs ++ ys) all)

pub all_at : (P : Row → Type 0) (segs : Segments) (i : ℕ) → All P (joined segs) → All P (get_or segs i [])
all_at P [] i all = All-nil P
all_at P (seg ∷ segs) zero all = all_front P seg (joined segs) all
all_at P (seg ∷ segs) (suc i) all = all_at P segs i (all_behind P seg (joined segs) all)
