-- Functions of a number that change at one place, and how they add up; numbers modulo 2 ^ 64.
use Rattle.std.proofs.Common.{◌≡◌, ◌≢◌, ⊎_elim, ℕ, zero, suc, ◌+◌, ◌%◌, ◌^◌, ◌<◌, ◌≤◌, ◌==◌, ◌||◌, cond, Bool, true, false, refl, sym, ap, arith}
use Rattle.std.proofs.lemmas.Bool.{eq-eqb, ne_eqb, cases_eq, cond-true, cond-false, cond_both, true_from_ne_false}
use Rattle.nf_turn.specs.Turns.{total}

-- f, with c at i
pub put : (ℕ → ℕ) → ℕ → ℕ → ℕ → ℕ
put f i c j = cond (j == i) c (f j)

pub put_at : (f : ℕ → ℕ) (i c j : ℕ) → j ≡ i → put f i c j ≡ c
unfolding put
put_at f i c j same = cond-true (j == i) c (f j) (eq-eqb j i same)

pub put_here : (f : ℕ → ℕ) (i c : ℕ) → put f i c i ≡ c
put_here f i c = put_at f i c i refl

pub put_else : (f : ℕ → ℕ) (i c j : ℕ) → j ≢ i → put f i c j ≡ f j
unfolding put
put_else f i c j other = cond-false (j == i) c (f j) (ne_eqb j i other)

pub put_small : (f : ℕ → ℕ) (i c : ℕ) → c ≤ 1 → ((m : ℕ) → f m ≤ 1) → (m : ℕ) → put f i c m ≤ 1
unfolding put
put_small f i c small h m = cond_both (m == i) c (f m) (λ n. n ≤ 1) (λ _. small) (λ _. h m)

-- two functions that differ at i alone
total_below : (f g : ℕ → ℕ) (i k : ℕ) → ((m : ℕ) → m ≢ i → f m ≡ g m) → k < i → total f k ≡ total g k
total_below f g i zero h below = refl
total_below f g i (suc k) h below = let e = total_below f g i k h (omega arith) in let o = h (suc k) (λ e. omega arith) in omega arith

total_else : (f g : ℕ → ℕ) (i k : ℕ) → ((m : ℕ) → m ≢ i → f m ≡ g m) → 0 < i → i ≤ k → total f k + g i ≡ total g k + f i
total_else f g i zero h low up = absurd (omega arith)
total_else f g i (suc k) h low up = ⊎_elim
    (λ (e : i ≡ suc k). let a = total_below f g i k h (omega arith) in let b = ap f e in let d = ap g e in omega arith)
    (λ (n : i ≢ suc k). let a = total_else f g i k h low (omega arith) in let b = h (suc k) (λ e. n (sym e)) in omega arith)
    (cases_eq i (suc k))

pub total_put : (f : ℕ → ℕ) (i c k : ℕ) → 0 < i → i ≤ k → total (put f i c) k + f i ≡ total f k + c
total_put f i c k low up = let sum = total_else (put f i c) f i k (put_else f i c) low up in let here = put_here f i c in omega arith

pub total_le : (f : ℕ → ℕ) (k : ℕ) → ((m : ℕ) → f m ≤ 1) → total f k ≤ k
total_le f zero h = omega arith
total_le f (suc k) h = let a = total_le f k h in let b = h (suc k) in omega arith

pub total_zero : (k : ℕ) → total (λ _. 0) k ≡ 0
total_zero zero = refl
total_zero (suc k) = let e = total_zero k in omega arith

abbrev mark : Bool → ℕ
mark passes = cond passes 1 0

-- how many of the numbers from 1 to k pass
abbrev pub count : (ℕ → Bool) → ℕ → ℕ
count test k = total (λ m. mark (test m)) k

pub count_le : (test : ℕ → Bool) (k : ℕ) → count test k ≤ k
count_le test k = total_le (λ m. mark (test m)) k (λ m. cond_both (test m) 1 0 (λ n. n ≤ 1) (λ _. omega arith) (λ _. omega arith))

pub count_all : (test : ℕ → Bool) (k : ℕ) → ((m : ℕ) → 0 < m → m ≤ k → test m ≡ true) → count test k ≡ k
count_all test zero h = refl
count_all test (suc k) h = let a = count_all test k (λ m low up. h m low (omega arith)) in let b = ap mark (h (suc k) (omega arith) (omega arith)) in omega arith

pub count_more : (test : ℕ → Bool) (i k : ℕ) → test i ≡ false → 0 < i → i ≤ k → count (λ m. (i == m) || test m) k ≡ count test k + 1
count_more test i k none low up =
    let more : ℕ → ℕ = λ m. mark ((i == m) || test m) in
    let sum = total_else more (λ m. mark (test m)) i k (λ m other. ap (λ t. mark (t || test m)) (ne_eqb i m (λ e. other (sym e)))) low up in
    let one : more i ≡ 1 = ap (λ t. mark (t || test i)) (eq-eqb i i refl) in
    let no = ap mark none in
    omega arith

-- where as many pass as there are, each does
pub all_pass : (test : ℕ → Bool) (k n : ℕ) → count test k ≡ k → 0 < n → n ≤ k → test n ≡ true
all_pass test k n all low up = true_from_ne_false (test n) (λ none. let more = count_more test n k none low up in let most = count_le (λ m. (n == m) || test m) k in absurd (omega arith))

pub next_modulo : (n : ℕ) → (n % 2 ^ 64 + 1) % 2 ^ 64 ≡ (n + 1) % 2 ^ 64
next_modulo n = omega arith
