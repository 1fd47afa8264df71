-- Lean swaps make the same rows, and none of them is in vain.
use Rattle.std.proofs.Common.{ℕ, zero, suc, ◌≡◌, ◌≢◌, Bool, false, cond, ◌||◌, List, [], ◌∷◌, Option, bytes_eq, refl, sym, ap, ◌∙◌, arith}
use Rattle.std.specs.Bool.{Decides}
use Rattle.std.specs.List.{All, AllPairs, fold}
use Rattle.std.proofs.lemmas.Bool.{both_ways, cond_both, false_from_ne_true, or_parts}
use Rattle.std.proofs.lemmas.List.Elements.{All-cons, All-head, All-nil, All-tail, All-weaker}
use Rattle.std.proofs.lemmas.List.Folds.{list_any_none}
use Rattle.std.proofs.lemmas.List.Kept.{AllPairs-cons}
use Rattle.std.proofs.lemmas.Slice.Eq.{bytes_eq-Decides}
use Rattle.nf_defs.specs.Prelude.{IsRising}
use Rattle.nf_table.specs.Rows.{row_at}
use Rattle.nf_table.specs.Swaps.{AreOwn, IsLean, IsOwn, lean, stands, swapped, tried}
use Rattle.nf_table.specs.declared.swaps.Swap.{Swap}
use Rattle.nf_table.proofs.Looked.{at_swapped, same_bytes, same_rows, swapped_rising}

module _ {R K : Type 0} (key : R → List ℕ) (numbers : K → List ℕ) where
  -- the row that a key has after swaps, where it had that one
  abbrev pub after : List (Swap K R) → List ℕ → Option R → Option R
  after ss n row = fold (λ (o : Option R) (s : Swap K R). cond (bytes_eq (numbers s.key) n) s.row o) row ss

  pub at_tried : (n : List ℕ) (rows : List R) (ss : List (Swap K R)) → AreOwn key numbers ss
      → row_at key n (tried key numbers rows ss) ≡ after ss n (row_at key n rows)
  at_tried n rows [] own = refl
  at_tried n rows (s ∷ ss) own =
      at_tried n (swapped key numbers rows s) ss (All-tail (IsOwn key numbers) s ss own)
      ∙ ap (after ss n) (at_swapped key numbers n rows s (All-head (IsOwn key numbers) s ss own))

  pub tried_rising : (rows : List R) (ss : List (Swap K R)) → IsRising key rows → IsRising key (tried key numbers rows ss)
  tried_rising rows [] rising = rising
  tried_rising rows (s ∷ ss) rising = tried_rising (swapped key numbers rows s) ss (swapped_rising key numbers rows s rising)

  -- what a key had before matters only where no swap has the key
  after_is : (ss : List (Swap K R)) (n : List ℕ) (a b : Option R) → after ss n a ≡ cond (stands numbers n ss) (after ss n b) a
  after_is [] n a b = refl
  after_is (s ∷ ss) n a b = let rest = after_is ss n a b in grind arith

  none_stands : (n : List ℕ) (ss : List (Swap K R)) → All (λ (s : Swap K R). n ≢ numbers s.key) ss → stands numbers n ss ≡ false
  none_stands n ss none =
      list_any_none (λ (s : Swap K R). bytes_eq (numbers s.key) n) ss
      (All-weaker (λ (s : Swap K R). n ≢ numbers s.key) (λ (s : Swap K R). bytes_eq (numbers s.key) n ≡ false)
      (λ s differ. false_from_ne_true _ (λ e. differ (sym ((bytes_eq-Decides (numbers s.key) n).0 e)))) ss none)

  all_differ : (n : List ℕ) (ss : List (Swap K R)) → stands numbers n ss ≡ false → All (λ (s : Swap K R). n ≢ numbers s.key) ss
  all_differ n [] none = All-nil (λ (s : Swap K R). n ≢ numbers s.key)
  all_differ n (s ∷ ss) none =
      let parts = or_parts (bytes_eq (numbers s.key) n) (stands numbers n ss) none in
      All-cons (λ (x : Swap K R). n ≢ numbers x.key) s ss (λ same. both_ways _ parts.0 (same_bytes (numbers s.key) n (sym same))) (all_differ n ss parts.1)

  module _ (alike : Option R → Option R → Bool) (decides : (a b : Option R) → Decides (alike a b) (a ≡ b)) (rows : List R) where
    abbrev few : List (Swap K R) → List (Swap K R)
    few ss = lean key numbers alike rows ss

    abbrev later : Swap K R → List (Swap K R) → Bool
    later s ss = stands numbers (numbers s.key) ss

    abbrev in_vain : Swap K R → Bool
    in_vain s = alike (row_at key (numbers s.key) rows) s.row

    all_few : (P : Swap K R → Type 0) (ss : List (Swap K R)) → All P ss → All P (few ss)
    all_few P [] all = all
    all_few P (s ∷ ss) all =
        let rest = all_few P ss (All-tail P s ss all) in
        cond_both (later s ss || in_vain s) (few ss) (s ∷ few ss) (All P) (λ _. rest) (λ _. All-cons P s (few ss) (All-head P s ss all) rest)

    abbrev Apart : Swap K R → Swap K R → Type 0
    Apart a b = numbers a.key ≢ numbers b.key

    once : (ss : List (Swap K R)) → AllPairs Apart (few ss)
    once [] = λ i j d before within. absurd (omega arith)
    once (s ∷ ss) =
        cond_both (later s ss || in_vain s) (few ss) (s ∷ few ss) (AllPairs Apart) (λ _. once ss)
        (λ none. AllPairs-cons Apart s (few ss) (all_few (Apart s) ss (all_differ (numbers s.key) ss (or_parts (later s ss) (in_vain s) none).0)) (once ss))

    abbrev Differs : Swap K R → Type 0
    Differs s = row_at key (numbers s.key) rows ≢ s.row

    unlike : (ss : List (Swap K R)) → All Differs (few ss)
    unlike [] = All-nil Differs
    unlike (s ∷ ss) =
        cond_both (later s ss || in_vain s) (few ss) (s ∷ few ss) (All Differs) (λ _. unlike ss)
        (λ none. All-cons Differs s (few ss) (λ same. both_ways (in_vain s) (or_parts (later s ss) (in_vain s) none).1 ((decides _ _).1 same)) (unlike ss))

    none_few : (n : List ℕ) (ss : List (Swap K R)) → stands numbers n ss ≡ false → stands numbers n (few ss) ≡ false
    none_few n ss none = none_stands n (few ss) (all_few (λ (s : Swap K R). n ≢ numbers s.key) ss (all_differ n ss none))

    -- a key has the same row in the end
    after_few : (n : List ℕ) (ss : List (Swap K R)) → after (few ss) n (row_at key n rows) ≡ after ss n (row_at key n rows)
    after_few n [] = refl
    after_few n (s ∷ ss) =
        let rest = after_few n ss in
        grind (
          arith,
          after_is ss n (row_at key n rows) s.row,
          after_is ss n s.row s.row,
          after_is (few ss) n s.row s.row,
          none_few n ss,
          (bytes_eq-Decides (numbers s.key) n).0,
          (decides (row_at key (numbers s.key) rows) s.row).0,
        )

    same_tried : (ss : List (Swap K R)) → IsRising key rows → AreOwn key numbers ss → tried key numbers rows (few ss) ≡ tried key numbers rows ss
    same_tried ss rising own =
        same_rows key (tried key numbers rows (few ss)) (tried key numbers rows ss) (tried_rising rows (few ss) rising) (tried_rising rows ss rising)
        (λ n. at_tried n rows (few ss) (all_few (IsOwn key numbers) ss own) ∙ after_few n ss ∙ sym (at_tried n rows ss own))

    -- where nothing changes there is no first swap
    nothing : (ts : List (Swap K R)) → AreOwn key numbers ts → AllPairs Apart ts → All Differs ts → tried key numbers rows ts ≡ rows → ts ≡ []
    nothing [] own apart differ same = refl
    nothing (t ∷ ts) own apart differ same =
        let n = numbers t.key in
        let others = none_stands n ts (λ k d within. apart zero (suc k) d (omega arith) (omega arith)) in
        let differs = All-head Differs t ts differ in
        absurd (differs (grind (arith, at_tried n rows (t ∷ ts) own, after_is ts n t.row t.row, same_bytes n n refl)))

    pub lists_lean : (ss : List (Swap K R)) → IsRising key rows → AreOwn key numbers ss → IsLean key numbers rows ss (few ss)
    lists_lean ss rising own =
        let same = same_tried ss rising own in
        record {
          same_tried = same;
          none_lean = λ unchanged. nothing (few ss) (all_few (IsOwn key numbers) ss own) (once ss) (unlike ss) (same ∙ unchanged);
          once = once ss;
          unlike = unlike ss;
        }
