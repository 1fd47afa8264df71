-- A router whose routes have no parameter finds the first row that fits, where no path fits two of them.
use Rattle.std.proofs.Common.{◌≡◌, ◌∙◌, ℕ, zero, suc, ◌-◌, ◌==◌, ltb, Bool, true, false, ◌&&◌, ◌||◌, not, cond, if◌then◌else◌, List, [], ◌∷◌, length, Option, Some, None, refl, sym, ap, arith}
use Rattle.std.proofs.lemmas.Bool.Decides.{nat_tests}
use Rattle.matchit.specs.Rows.{RowsOf, param_token, catch_all_token}
use Rattle.matchit.specs.Seek.{own, step, or_else, seek, first, param_step, has_slash}

-- the path is the pattern's bytes, and at least one more where it has a catch-all
abbrev pub fits : List ℕ → List ℕ → Bool
fits [] [] = true
fits [] (b ∷ path) = false
fits (x ∷ pattern) [] = false
fits (x ∷ pattern) (b ∷ path) = ((x == b) && fits pattern path) || (x == 257)

-- bytes, with a catch-all at most at the end
abbrev is_plain : List ℕ → Bool
is_plain [] = true
is_plain (x ∷ pattern) = if x == 257 then length pattern == 0 else ltb x 256 && is_plain pattern

-- no path fits both
abbrev apart : List ℕ → List ℕ → Bool
apart [] [] = false
apart [] (y ∷ other) = true
apart (x ∷ pattern) [] = true
apart (x ∷ pattern) (y ∷ other) = not (x == 257) && (not (y == 257) && (not (x == y) || apart pattern other))

plain_tail : (x : ℕ) (pattern : List ℕ) → is_plain (x ∷ pattern) ≡ true → is_plain pattern ≡ true
plain_tail x [] h = refl
plain_tail x (y ∷ pattern) h = by (x == 257) h
  where
    by : (w : Bool) → (if w then length (y ∷ pattern) == 0 else ltb x 256 && is_plain (y ∷ pattern)) ≡ true → is_plain (y ∷ pattern) ≡ true
    by true g = absurd (let bad : ⊥ = grind (arith, nat_tests) in bad)
    by false g = grind (arith, nat_tests)

-- nothing stands behind a catch-all
plain_end : (x : ℕ) (pattern : List ℕ) → is_plain (x ∷ pattern) ≡ true → (x == 257) ≡ true → pattern ≡ []
plain_end x [] h e = refl
plain_end x (y ∷ pattern) h e =
    absurd (let bad : (length (y ∷ pattern) == 0) ≡ true = rw e at h in let worse : ⊥ = grind (arith, nat_tests) in worse)

or_true : (v : Bool) → (v || true) ≡ true
or_true true = refl
or_true false = refl

-- behind the same byte
apart_tails : (x y b : ℕ) (pattern other : List ℕ) → apart (x ∷ pattern) (y ∷ other) ≡ true → (x == b) ≡ true → (y == b) ≡ true → apart pattern other ≡ true
apart_tails x y b pattern other h e f = let same : (x == y) ≡ true = grind (arith, nat_tests) in grind (arith, nat_tests)

module _ {K : Type 0} where
  -- the first row that fits
  abbrev pub find_row : RowsOf K → List ℕ → Option K
  find_row [] path = None
  find_row ((pattern, k) ∷ rows) path = if fits pattern path then Some k else find_row rows path

  abbrev pub are_plain : RowsOf K → Bool
  are_plain [] = true
  are_plain ((pattern, k) ∷ rows) = is_plain pattern && are_plain rows

  abbrev all_apart : List ℕ → RowsOf K → Bool
  all_apart pattern [] = true
  all_apart pattern ((other, k) ∷ rows) = apart pattern other && all_apart pattern rows

  abbrev pub are_apart : RowsOf K → Bool
  are_apart [] = true
  are_apart ((pattern, k) ∷ rows) = all_apart pattern rows && are_apart rows

  -- ---- where there is no parameter

  -- no row follows a parameter
  empty_step : (path : List ℕ) → (param_step {K = K} [] path).1 ≡ []
  unfolding param_step
  empty_step path =
      elim (has_slash path) as (λ v. (cond {A = ℕ × RowsOf K} v (0, []) (length path, [])).1 ≡ []) [
        | true ↦ refl
        | false ↦ refl
      ]

  seek_empty : (n : ℕ) (path : List ℕ) → seek {K = K} n [] path ≡ None
  unfolding seek
  seek_empty n [] = refl
  seek_empty (suc n) (b ∷ path) = seek_empty n path
  seek_empty zero (b ∷ path) =
      simp (seek_empty 0 path, empty_step (b ∷ path), seek_empty (((param_step {K = K} [] (b ∷ path)).0) - 1) path)

  no_param : (rows : RowsOf K) → are_plain rows ≡ true → step param_token rows ≡ []
  no_param [] h = refl
  no_param (([], k) ∷ rows) h = no_param rows h
  no_param ((x ∷ pattern, k) ∷ rows) h =
      let e : (x == 256) ≡ false = grind (arith, nat_tests) in
      let r : are_plain rows ≡ true = grind (arith, nat_tests) in
      rw e (no_param rows r)

  -- what a router does with one byte
  seek_plain : (rows : RowsOf K) (b : ℕ) (path : List ℕ) → are_plain rows ≡ true
      → seek 0 rows (b ∷ path) ≡ or_else (seek 0 (step b rows) path) (own (step catch_all_token rows))
  unfolding seek
  seek_plain rows b path h =
      rw (no_param rows h) (simp (empty_step (b ∷ path), seek_empty ((param_step {K = K} [] (b ∷ path)).0 - 1) path))

  -- ---- the rows that go on with a byte are plain and apart, too

  step_plain : (b : ℕ) (rows : RowsOf K) → are_plain rows ≡ true → are_plain (step b rows) ≡ true
  step_plain b [] h = refl
  step_plain b (([], k) ∷ rows) h = step_plain b rows h
  step_plain b ((x ∷ pattern, k) ∷ rows) h =
      let a : is_plain (x ∷ pattern) ≡ true = grind (arith, nat_tests) in
      by (x == b) (plain_tail x pattern a) (step_plain b rows (grind (arith, nat_tests)))
    where
      by : (v : Bool) → is_plain pattern ≡ true → are_plain (step b rows) ≡ true
          → are_plain (cond v ((pattern, k) ∷ step b rows) (step b rows)) ≡ true
      by true a r = rw (a, r) refl
      by false a r = r

  -- behind a byte that a pattern begins with
  step_all_apart : (x b : ℕ) (pattern : List ℕ) (rows : RowsOf K) → (x == b) ≡ true → all_apart (x ∷ pattern) rows ≡ true
      → all_apart pattern (step b rows) ≡ true
  step_all_apart x b pattern [] e h = refl
  step_all_apart x b pattern (([], k) ∷ rows) e h = step_all_apart x b pattern rows e h
  step_all_apart x b pattern ((y ∷ other, k) ∷ rows) e h =
      by (y == b) refl (grind (arith, nat_tests)) (step_all_apart x b pattern rows e (grind (arith, nat_tests)))
    where
      by : (v : Bool) → (y == b) ≡ v → apart (x ∷ pattern) (y ∷ other) ≡ true → all_apart pattern (step b rows) ≡ true
          → all_apart pattern (cond v ((other, k) ∷ step b rows) (step b rows)) ≡ true
      by true f a r = rw (apart_tails x y b pattern other a e f, r) refl
      by false f a r = r

  step_apart : (b : ℕ) (rows : RowsOf K) → are_apart rows ≡ true → are_apart (step b rows) ≡ true
  step_apart b [] h = refl
  step_apart b (([], k) ∷ rows) h = step_apart b rows (grind (arith, nat_tests))
  step_apart b ((x ∷ pattern, k) ∷ rows) h =
      by (x == b) refl (step_all_apart x b pattern rows) (grind (arith, nat_tests)) (step_apart b rows (grind (arith, nat_tests)))
    where
      by : (v : Bool) → (x == b) ≡ v
          → ((x == b) ≡ true → all_apart (x ∷ pattern) rows ≡ true → all_apart pattern (step b rows) ≡ true)
          → all_apart (x ∷ pattern) rows ≡ true → are_apart (step b rows) ≡ true
          → are_apart (cond v ((pattern, k) ∷ step b rows) (step b rows)) ≡ true
      by true e go a r = rw (go e a, r) refl
      by false e go a r = r

  -- ---- the first row that fits, by its first byte

  -- beside a catch-all no row goes on
  step_beside : (x b : ℕ) (pattern : List ℕ) (rows : RowsOf K) → (x == 257) ≡ true → all_apart (x ∷ pattern) rows ≡ true → step b rows ≡ []
  step_beside x b pattern [] e h = refl
  step_beside x b pattern (([], k) ∷ rows) e h = step_beside x b pattern rows e h
  step_beside x b pattern ((y ∷ other, k) ∷ rows) e h = absurd (let bad : ⊥ = grind (arith, nat_tests) in bad)

  -- a catch-all takes the byte only where no other row goes on
  row_step : (b : ℕ) (path : List ℕ) (rows : RowsOf K) → are_plain rows ≡ true → are_apart rows ≡ true
      → find_row rows (b ∷ path) ≡ or_else (find_row (step b rows) path) (own (step catch_all_token rows))
  row_step b path [] h a = refl
  row_step b path (([], k) ∷ rows) h a = row_step b path rows h (grind (arith, nat_tests))
  row_step b path ((x ∷ pattern, k) ∷ rows) h a =
      let p : is_plain (x ∷ pattern) ≡ true = grind (arith, nat_tests) in
      let q : all_apart (x ∷ pattern) rows ≡ true = grind (arith, nat_tests) in
      by (x == b) refl (x == 257) refl p q (row_step b path rows (grind (arith, nat_tests)) (grind (arith, nat_tests)))
    where
      catch_all : (v : Bool) → pattern ≡ [] → step b rows ≡ []
          → Some k ≡ or_else (find_row (cond v ((pattern, k) ∷ step b rows) (step b rows)) path) (own ((pattern, k) ∷ step catch_all_token rows))
      catch_all true e f = rw (e, f) (ends path)
        where
          ends : (path : List ℕ) → Some k ≡ or_else (find_row (([], k) ∷ []) path) (Some k)
          ends [] = refl
          ends (b ∷ path) = refl
      catch_all false e f = rw (e, f) refl

      fitted : (v : Bool) → find_row rows (b ∷ path) ≡ or_else (find_row (step b rows) path) (own (step catch_all_token rows))
          → (if v || false then Some k else find_row rows (b ∷ path))
          ≡ or_else (if v then Some k else find_row (step b rows) path) (own (step catch_all_token rows))
      fitted true go = refl
      fitted false go = go

      by : (v : Bool) → (x == b) ≡ v → (w : Bool) → (x == 257) ≡ w → is_plain (x ∷ pattern) ≡ true → all_apart (x ∷ pattern) rows ≡ true
          → find_row rows (b ∷ path) ≡ or_else (find_row (step b rows) path) (own (step catch_all_token rows))
          → (if (v && fits pattern path) || w then Some k else find_row rows (b ∷ path))
          ≡ or_else (find_row (cond v ((pattern, k) ∷ step b rows) (step b rows)) path) (own (cond w ((pattern, k) ∷ step catch_all_token rows) (step catch_all_token rows)))
      by v e true f p q go =
          rw (or_true (v && fits pattern path))
          (catch_all v (plain_end x pattern p f) (step_beside x b pattern rows f q))
      by true e false f p q go = fitted (fits pattern path) go
      by false e false f p q go = go

  -- at the end of the path
  own_row : (rows : RowsOf K) → own rows ≡ find_row rows []
  own_row [] = refl
  own_row (([], k) ∷ rows) = refl
  own_row ((x ∷ pattern, k) ∷ rows) = own_row rows

  -- the answer of a router with such rows
  pub first_row : (rows : RowsOf K) (path : List ℕ) → are_plain rows ≡ true → are_apart rows ≡ true → first rows path ≡ find_row rows path
  unfolding seek
  first_row rows [] h a = own_row rows
  first_row rows (b ∷ path) h a =
      seek_plain rows b path h
      ∙ (ap (λ found. or_else found (own (step catch_all_token rows))) (first_row (step b rows) path (step_plain b rows h) (step_apart b rows a))
      ∙ sym (row_step b path rows h a))
