-- Rows that are put, dropped and ordered as other rows are that stand for them.
use Rattle.std.proofs.Common.{◌≡◌, ℕ, Bool, true, false, cond, not, List, [], ◌∷◌, map, get_or, refl, sym, ap, ◌∙◌, arith}
use Rattle.std.specs.Prelude.{bytes_eq}
use Rattle.std.specs.List.{All}
use Rattle.std.specs.Ordering.{is_eq}
use Rattle.std.specs.declared.cmp.Ordering.{Ordering}
use Rattle.std.specs.declared.cmp.Ordering.TheVariants.{Less, Equal, Greater}
use Rattle.std.proofs.lemmas.List.Elements.{All-cons, All-head, All-map, All-nil, All-tail}
use Rattle.std.proofs.lemmas.List.Kept.{AllPairs-cons}
use Rattle.std.proofs.lemmas.Map.Text.{is_eq-slice_cmp}
use Rattle.nf_defs.specs.Prelude.{by_order, dropped, IsRising, key_cmp, put}
use Rattle.nf_defs.proofs.Puts.{below_rest, tail_rising}

-- what holds of all that stand for some rows holds of what each of these stands for
pub All-from_map : {R S : Type 0} (P : S → Type 0) (f : R → S) (rows : List R) → All P (map f rows) → All (λ row. P (f row)) rows
All-from_map P f [] all = All-nil (λ row. P (f row))
All-from_map P f (x ∷ xs) all =
    All-cons (λ row. P (f row)) x xs (All-head P (f x) (map f xs) all) (All-from_map P f xs (All-tail P (f x) (map f xs) all))

module _ {R S : Type 0} (f : R → S) (key : R → List ℕ) (other_key : S → List ℕ) where
  -- the order of two rows is that of what stands for them
  abbrev pub Agree : R → R → Type 0
  Agree a b = key_cmp (key a) (key b) ≡ key_cmp (other_key (f a)) (other_key (f b))

  pub put_map : (row : R) (rows : List R) → All (Agree row) rows → map f (put key row rows) ≡ put other_key (f row) (map f rows)
  put_map row [] agree = refl
  put_map row (x ∷ xs) agree =
      here (key_cmp (key row) (key x)) (put_map row xs (All-tail (Agree row) x xs agree))
      ∙ ap (λ (o : Ordering). by_order o (f row ∷ f x ∷ map f xs) (f row ∷ map f xs) (f x ∷ put other_key (f row) (map f xs)))
      (All-head (Agree row) x xs agree)
    where
      here : (o : Ordering) → map f (put key row xs) ≡ put other_key (f row) (map f xs)
          → map f (by_order o (row ∷ x ∷ xs) (row ∷ xs) (x ∷ put key row xs))
          ≡ by_order o (f row ∷ f x ∷ map f xs) (f row ∷ map f xs) (f x ∷ put other_key (f row) (map f xs))
      here Less rest = refl
      here Equal rest = refl
      here Greater rest = ap (λ (ys : List S). f x ∷ ys) rest

  -- a key stands to a row as another key to what stands for the row
  abbrev pub Alike : List ℕ → List ℕ → R → Type 0
  Alike numbers others row = key_cmp numbers (key row) ≡ key_cmp others (other_key (f row))

  pub dropped_map : (numbers others : List ℕ) (rows : List R) → All (Alike numbers others) rows
      → map f (dropped key numbers rows) ≡ dropped other_key others (map f rows)
  dropped_map numbers others [] alike = refl
  dropped_map numbers others (x ∷ xs) alike =
      here (bytes_eq numbers (key x)) (dropped_map numbers others xs (All-tail (Alike numbers others) x xs alike))
      ∙ ap (λ (b : Bool). cond (not b) (f x ∷ dropped other_key others (map f xs)) (dropped other_key others (map f xs)))
      (sym (is_eq-slice_cmp numbers (key x)) ∙ ap is_eq (All-head (Alike numbers others) x xs alike) ∙ is_eq-slice_cmp others (other_key (f x)))
    where
      here : (b : Bool) → map f (dropped key numbers xs) ≡ dropped other_key others (map f xs)
          → map f (cond (not b) (x ∷ dropped key numbers xs) (dropped key numbers xs))
          ≡ cond (not b) (f x ∷ dropped other_key others (map f xs)) (dropped other_key others (map f xs))
      here true rest = rest
      here false rest = ap (λ (ys : List S). f x ∷ ys) rest

  abbrev BelowOther : S → S → Type 0
  BelowOther a b = key_cmp (other_key a) (other_key b) ≡ Less

  -- what stands for rising rows rises
  pub map_rising : (Fit : R → Type 0) → ((a b : R) → Fit a → Fit b → Agree a b) → (rows : List R) → All Fit rows
      → IsRising key rows → IsRising other_key (map f rows)
  map_rising Fit agree [] fits rising = λ i j d before within. absurd (omega arith)
  map_rising Fit agree (x ∷ xs) fits rising =
      let rest_fits = All-tail Fit x xs fits in
      AllPairs-cons BelowOther (f x) (map f xs)
      (All-map (BelowOther (f x)) f xs (λ k d within.
      sym (agree x (get_or xs k d) (All-head Fit x xs fits) (rest_fits k d within)) ∙ below_rest key x xs rising k d within))
      (map_rising Fit agree xs rest_fits (tail_rising key x xs rising))
