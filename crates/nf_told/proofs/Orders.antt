-- Keys keep their order when they are spelled.
use Rattle.std.proofs.Common.{◌≡◌, ℕ, zero, suc, ◌+◌, ◌*◌, ◌/◌, ◌%◌, ◌^◌, ◌<◌, List, [], ◌∷◌, ◌++◌, length, refl, sym, ap, ◌∙◌, arith}
use Rattle.std.specs.Int.{byte_at, bytes_high_first, w16, w32, w64, to_be_bytes}
use Rattle.std.specs.Ordering.{MatchOrdering, nat_cmp, ordering_then}
use Rattle.std.specs.Cmp.{nat_cmp_is}
use Rattle.std.specs.Cmp.Lexicographic.{slice_cmp}
use Rattle.std.specs.declared.cmp.Ordering.{Ordering}
use Rattle.std.specs.declared.cmp.Ordering.TheVariants.{Less, Equal, Greater}
use Rattle.std.proofs.lemmas.Cmp.{ranked}
use Rattle.std.proofs.lemmas.List.{append-nil}
use Rattle.std.proofs.lemmas.Nat.{mul-add-lt}
use Rattle.std.proofs.Math.Arith.{mod-mul}
use Rattle.std.proofs.Math.Nat.{div-one, mod-eq_of_lt, mod-lt, mod-one, mul_comm, pow-succ'}
use Rattle.nf_base.specs.declared.changes.RowKey.{RowKey}
use Rattle.nf_base.specs.declared.changes.RowKey.TheVariants as keys
use Rattle.nf_defs.proofs.Puts.{then_then}
use Rattle.nf_rows.specs.Spelling.{FitsKey, kind_of, spelled}
use Rattle.nf_told.specs.Laws.{AreOrderedAlike}

abbrev C : List ℕ → List ℕ → Ordering
C = slice_cmp nat_cmp

-- ---- digits

-- numbers that are as much above another keep their order
shifted : (k a b : ℕ) → nat_cmp (k + a) (k + b) ≡ nat_cmp a b
shifted k a b = sym (nat_cmp_is (k + a) (k + b) (nat_cmp a b) (here (nat_cmp a b) (ranked a b (nat_cmp a b) refl)))
  where
    here : (r : Ordering) → MatchOrdering r (a < b) (a ≡ b) (b < a) → MatchOrdering r (k + a < k + b) (k + a ≡ k + b) (k + b < k + a)
    here Less h = omega arith
    here Equal h = ap (λ (n : ℕ). k + n) h
    here Greater h = omega arith

-- the high digit goes first
digits_cmp : (p r q s w : ℕ) → q < w → s < w → nat_cmp (p * w + q) (r * w + s) ≡ ordering_then (nat_cmp p r) (nat_cmp q s)
digits_cmp p r q s w qw sw = here (nat_cmp p r) (ranked p r (nat_cmp p r) refl)
  where
    here : (o : Ordering) → MatchOrdering o (p < r) (p ≡ r) (r < p) → nat_cmp (p * w + q) (r * w + s) ≡ ordering_then o (nat_cmp q s)
    here Less h = sym (nat_cmp_is (p * w + q) (r * w + s) Less (omega (arith, mul-add-lt p w q r h qw, mul_comm r w)))
    here Equal h = ap (λ (n : ℕ). nat_cmp (n * w + q) (r * w + s)) h ∙ shifted (r * w) q s
    here Greater h = sym (nat_cmp_is (p * w + q) (r * w + s) Greater (omega (arith, mul-add-lt r w s p h sw, mul_comm p w)))

pow_some : (k : ℕ) → 0 < 256 ^ k
pow_some zero = omega arith
pow_some (suc k) = let some = pow_some k in rw (pow-succ' 256 k) (omega arith)

byte_is : (k n : ℕ) → byte_at k n ≡ n / 256 ^ k % 256
byte_is zero n = ap (λ (m : ℕ). m % 256) (sym (div-one n))
byte_is (suc k) n = refl

split : (k n : ℕ) → n % 256 ^ suc k ≡ byte_at k n * 256 ^ k + n % 256 ^ k
split k n =
    ap (λ (m : ℕ). n % m) (pow-succ' 256 k) ∙ mod-mul n {m = 256} {c = 256 ^ k} (omega arith) (pow_some k)
    ∙ ap (λ (m : ℕ). m * 256 ^ k + n % 256 ^ k) (sym (byte_is k n))

-- the lowest bytes of two numbers, the highest of them first, are in the order of what they spell
high_first_cmp : (k a b : ℕ) (xs ys : List ℕ)
    → C (bytes_high_first k a ++ xs) (bytes_high_first k b ++ ys) ≡ ordering_then (nat_cmp (a % 256 ^ k) (b % 256 ^ k)) (C xs ys)
high_first_cmp zero a b xs ys =
    sym (ap (λ (m : ℕ). ordering_then (nat_cmp m (b % 1)) (C xs ys)) (mod-one a) ∙ ap (λ (m : ℕ). ordering_then (nat_cmp 0 m) (C xs ys)) (mod-one b))
high_first_cmp (suc k) a b xs ys =
    ap (λ (o : Ordering). ordering_then (nat_cmp (byte_at k a) (byte_at k b)) o) (high_first_cmp k a b xs ys)
    ∙ sym (then_then (nat_cmp (byte_at k a) (byte_at k b)) (nat_cmp (a % 256 ^ k) (b % 256 ^ k)) (C xs ys))
    ∙ ap (λ (o : Ordering). ordering_then o (C xs ys))
    (sym (ap (λ (m : ℕ). nat_cmp m (b % 256 ^ suc k)) (split k a) ∙ ap (λ (m : ℕ). nat_cmp (byte_at k a * 256 ^ k + a % 256 ^ k) m) (split k b)
    ∙ digits_cmp (byte_at k a) (byte_at k b) (a % 256 ^ k) (b % 256 ^ k) (256 ^ k) (mod-lt a (pow_some k)) (mod-lt b (pow_some k))))

whole_cmp : (k a b : ℕ) (xs ys : List ℕ) → a < 256 ^ k → b < 256 ^ k
    → C (bytes_high_first k a ++ xs) (bytes_high_first k b ++ ys) ≡ ordering_then (nat_cmp a b) (C xs ys)
whole_cmp k a b xs ys a_fits b_fits =
    high_first_cmp k a b xs ys
    ∙ ap (λ (m : ℕ). ordering_then (nat_cmp m (b % 256 ^ k)) (C xs ys)) (mod-eq_of_lt {n = a} {m = 256 ^ k} a_fits)
    ∙ ap (λ (m : ℕ). ordering_then (nat_cmp a m) (C xs ys)) (mod-eq_of_lt {n = b} {m = 256 ^ k} b_fits)

cmp16 : (a b : ℕ) (xs ys : List ℕ) → a < 2 ^ 16 → b < 2 ^ 16
    → C (to_be_bytes w16 a ++ xs) (to_be_bytes w16 b ++ ys) ≡ ordering_then (nat_cmp a b) (C xs ys)
cmp16 a b xs ys a_fits b_fits = whole_cmp 2 a b xs ys a_fits b_fits

cmp32 : (a b : ℕ) (xs ys : List ℕ) → a < 2 ^ 32 → b < 2 ^ 32
    → C (to_be_bytes w32 a ++ xs) (to_be_bytes w32 b ++ ys) ≡ ordering_then (nat_cmp a b) (C xs ys)
cmp32 a b xs ys a_fits b_fits = whole_cmp 4 a b xs ys a_fits b_fits

cmp64 : (a b : ℕ) (xs ys : List ℕ) → a < 2 ^ 64 → b < 2 ^ 64
    → C (to_be_bytes w64 a ++ xs) (to_be_bytes w64 b ++ ys) ≡ ordering_then (nat_cmp a b) (C xs ys)
cmp64 a b xs ys a_fits b_fits = whole_cmp 8 a b xs ys a_fits b_fits

-- ---- names

-- lists as long as each other, with more behind them
cmp_append : (a b xs ys : List ℕ) → length a ≡ length b → C (a ++ xs) (b ++ ys) ≡ ordering_then (C a b) (C xs ys)
cmp_append [] [] xs ys same = refl
cmp_append [] (y ∷ b) xs ys same = absurd (omega arith)
cmp_append (x ∷ a) [] xs ys same = absurd (omega arith)
cmp_append (x ∷ a) (y ∷ b) xs ys same =
    ap (λ (o : Ordering). ordering_then (nat_cmp x y) o) (cmp_append a b xs ys (omega arith))
    ∙ sym (then_then (nat_cmp x y) (C a b) (C xs ys))

-- what is behind two names counts only where they are as long as each other
behind_names : (a b xs ys us vs : List ℕ) → C xs ys ≡ C us vs
    → C (length a ∷ a ++ xs) (length b ∷ b ++ ys) ≡ C (length a ∷ a ++ us) (length b ∷ b ++ vs)
behind_names a b xs ys us vs same = here (nat_cmp (length a) (length b)) (ranked (length a) (length b) (nat_cmp (length a) (length b)) refl)
  where
    here : (r : Ordering) → MatchOrdering r (length a < length b) (length a ≡ length b) (length b < length a)
        → ordering_then r (C (a ++ xs) (b ++ ys)) ≡ ordering_then r (C (a ++ us) (b ++ vs))
    here Less h = refl
    here Equal h =
        cmp_append a b xs ys h ∙ ap (λ (o : Ordering). ordering_then (C a b) o) same ∙ sym (cmp_append a b us vs h)
    here Greater h = refl

-- ---- keys

-- the numbers of keys of one kind are in the order of their bytes
pub keys_keep_order : (a b : RowKey) → kind_of a ≡ kind_of b → FitsKey a → FitsKey b → AreOrderedAlike a b
unfolding spelled
keys_keep_order keys.Meta keys.Meta same a b = refl
keys_keep_order (keys.User i) (keys.User j) same a b = sym (cmp32 i j [] [] a.0 b.0)
keys_keep_order (keys.Token d) (keys.Token e) same a b =
    sym (ap (λ (xs : List ℕ). C xs (e ++ [])) (append-nil d) ∙ ap (C d) (append-nil e))
keys_keep_order (keys.Group i) (keys.Group j) same a b = sym (cmp32 i j [] [] a.0 b.0)
keys_keep_order (keys.Member i k) (keys.Member j l) same a b =
    sym (cmp32 i j (to_be_bytes w32 k) (to_be_bytes w32 l) a.0 b.0 ∙ ap (ordering_then (nat_cmp i j)) (cmp32 k l [] [] a.1.0 b.1.0))
keys_keep_order (keys.Node i) (keys.Node j) same a b = sym (cmp64 i j [] [] a.0 b.0)
keys_keep_order (keys.Share i) (keys.Share j) same a b = sym (cmp64 i j [] [] a.0 b.0)
keys_keep_order (keys.Mount i k) (keys.Mount j l) same a b =
    sym (cmp32 i j (to_be_bytes w64 k) (to_be_bytes w64 l) a.0 b.0 ∙ ap (ordering_then (nat_cmp i j)) (cmp64 k l [] [] a.1.0 b.1.0))
keys_keep_order (keys.Version i k) (keys.Version j l) same a b =
    sym (cmp64 i j (to_be_bytes w64 k) (to_be_bytes w64 l) a.0 b.0 ∙ ap (ordering_then (nat_cmp i j)) (cmp64 k l [] [] a.1.0 b.1.0))
keys_keep_order (keys.Item i) (keys.Item j) same a b = sym (cmp64 i j [] [] a.0 b.0)
keys_keep_order (keys.Upload i d) (keys.Upload j e) same a b =
    sym (cmp32 i j (length d ∷ d ++ []) (length e ∷ e ++ []) a.0 b.0
    ∙ ap (λ (xs : List ℕ). ordering_then (nat_cmp i j) (C (length d ∷ xs) (length e ∷ e ++ []))) (append-nil d)
    ∙ ap (λ (xs : List ℕ). ordering_then (nat_cmp i j) (C (length d ∷ d) (length e ∷ xs))) (append-nil e))
keys_keep_order (keys.Chunk i d m) (keys.Chunk j e n) same a b =
    sym (cmp32 i j (length d ∷ d ++ to_be_bytes w16 m) (length e ∷ e ++ to_be_bytes w16 n) a.0 b.0
    ∙ ap (ordering_then (nat_cmp i j)) (behind_names d e (to_be_bytes w16 m) (to_be_bytes w16 n) (m ∷ []) (n ∷ []) (cmp16 m n [] [] a.1.1.0 b.1.1.0)))
keys_keep_order a b same a_fits b_fits = absurd (omega arith)
