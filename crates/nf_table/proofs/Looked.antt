-- What is looked up by its key after rows are put and dropped; and rows are what is looked up in them.
use Rattle.std.proofs.Common.{ℕ, ◌≡◌, true, cond, List, [], ◌∷◌, Option, None, Some, bytes_eq, refl, ap, ◌∙◌, arith}
use Rattle.std.specs.List.{All}
use Rattle.std.specs.Option.{IfSome}
use Rattle.std.specs.Ordering.{is_eq, is_lt}
use Rattle.std.specs.declared.cmp.Ordering.{Ordering}
use Rattle.std.specs.declared.cmp.Ordering.TheVariants.{Less, Equal, Greater}
use Rattle.std.proofs.lemmas.Bool.{cond_both}
use Rattle.std.proofs.lemmas.List.Elements.{All-cons, All-head, All-tail, All-weaker}
use Rattle.std.proofs.lemmas.Slice.Eq.{bytes_eq-Decides}
use Rattle.nf_defs.specs.Prelude.{by_order, dropped, IsRising, key_cmp, put}
use Rattle.nf_defs.proofs.Lookups.{bytes_turned, equal_bytes}
use Rattle.nf_defs.proofs.Puts.{below_rest, dropped_rising, key_total, put_rising, tail_rising, turned}
use Rattle.nf_table.specs.Rows.{row_at}
use Rattle.nf_table.specs.Swaps.{IsOwn, swapped}
use Rattle.nf_table.specs.declared.swaps.Swap.{Swap}

pub same_bytes : (a b : List ℕ) → a ≡ b → bytes_eq a b ≡ true
same_bytes a b = (bytes_eq-Decides a b).1

by_order_is : {A : Type 0} (r : Ordering) (less equal greater : A) → by_order r less equal greater ≡ cond (is_lt r) less (cond (is_eq r) equal greater)
by_order_is Less less equal greater = refl
by_order_is Equal less equal greater = refl
by_order_is Greater less equal greater = refl

module _ {R : Type 0} (key : R → List ℕ) where
  pub at_put : (n : List ℕ) (row : R) (rows : List R) → row_at key n (put key row rows) ≡ cond (bytes_eq (key row) n) (Some row) (row_at key n rows)
  at_put n row [] = refl
  at_put n row (x ∷ xs) =
      let rest = at_put n row xs in
      let order = by_order_is (key_cmp (key row) (key x)) (row ∷ x ∷ xs) (row ∷ xs) (x ∷ put key row xs) in
      let equal = equal_bytes (key row) (key x) (key_cmp (key row) (key x)) refl in
      grind (arith, (bytes_eq-Decides (key row) (key x)).0, (bytes_eq-Decides (key row) n).0, (bytes_eq-Decides (key x) n).0, (bytes_eq-Decides (key row) (key x)).1)

  at_dropped : (n m : List ℕ) (rows : List R) → row_at key n (dropped key m rows) ≡ cond (bytes_eq m n) None (row_at key n rows)
  at_dropped n m [] = grind arith
  at_dropped n m (x ∷ xs) =
      let rest = at_dropped n m xs in
      grind (arith, (bytes_eq-Decides m (key x)).0, (bytes_eq-Decides m n).0, (bytes_eq-Decides (key x) n).0, (bytes_eq-Decides m (key x)).1)

  -- what is found has the key
  pub own_found : (n : List ℕ) (rows : List R) → IfSome (row_at key n rows) (λ row. key row ≡ n)
  own_found n [] = tt
  own_found n (x ∷ xs) =
      cond_both (bytes_eq (key x) n) (Some x) (row_at key n xs) (λ (o : Option R). IfSome o (λ row. key row ≡ n))
      (λ e. (bytes_eq-Decides (key x) n).0 e) (λ _. own_found n xs)

  -- below all rows there is none
  none_below : (n : List ℕ) (rows : List R) → All (λ (x : R). key_cmp n (key x) ≡ Less) rows → row_at key n rows ≡ None
  none_below n [] below = refl
  none_below n (x ∷ xs) below =
      rw (bytes_turned (key x) n ∙ equal_bytes n (key x) Less (All-head (λ (x : R). key_cmp n (key x) ≡ Less) x xs below))
      (none_below n xs (All-tail (λ (x : R). key_cmp n (key x) ≡ Less) x xs below))

  -- nor is a lower key there
  none_lower : (x y : R) (ys : List R) → IsRising key (y ∷ ys) → key_cmp (key x) (key y) ≡ Less → row_at key (key x) (y ∷ ys) ≡ None
  none_lower x y ys rising less =
      none_below (key x) (y ∷ ys)
      (All-cons (λ (z : R). key_cmp (key x) (key z) ≡ Less) y ys less
      (All-weaker (λ (z : R). key_cmp (key y) (key z) ≡ Less) (λ (z : R). key_cmp (key x) (key z) ≡ Less)
      (λ z. key_total.trans (key x) (key y) (key z) less) ys (below_rest key y ys rising)))

  pub same_rows : (xs ys : List R) → IsRising key xs → IsRising key ys → ((n : List ℕ) → row_at key n xs ≡ row_at key n ys) → xs ≡ ys
  same_rows [] [] xs_rise ys_rise same = refl
  same_rows [] (y ∷ ys) xs_rise ys_rise same = grind (arith, same (key y), same_bytes (key y) (key y) refl)
  same_rows (x ∷ xs) [] xs_rise ys_rise same = grind (arith, same (key x), same_bytes (key x) (key x) refl)
  same_rows (x ∷ xs) (y ∷ ys) xs_rise ys_rise same =
      here (key_cmp (key x) (key y)) refl (λ rest. same_rows xs ys (tail_rising key x xs xs_rise) (tail_rising key y ys ys_rise) rest)
    where
      here : (r : Ordering) → key_cmp (key x) (key y) ≡ r → (((n : List ℕ) → row_at key n xs ≡ row_at key n ys) → xs ≡ ys) → x ∷ xs ≡ y ∷ ys
      here Less e rest = let none = none_lower x y ys ys_rise e in grind (arith, same (key x), same_bytes (key x) (key x) refl)
      here Greater e rest =
          let none = none_lower y x xs xs_rise (turned (key x) (key y) Greater e) in
          grind (arith, same (key y), same_bytes (key y) (key y) refl)
      here Equal e rest =
          let tied : key x ≡ key y = (bytes_eq-Decides (key x) (key y)).0 (equal_bytes (key x) (key y) Equal e) in
          let x_alone = none_below (key x) xs (below_rest key x xs xs_rise) in
          let y_alone = none_below (key y) ys (below_rest key y ys ys_rise) in
          let behind : xs ≡ ys = rest (λ n. grind (arith, same n, (bytes_eq-Decides (key x) n).0)) in
          let first : x ≡ y = grind (arith, same (key x), same_bytes (key x) (key x) refl) in
          cc

  module _ {K : Type 0} (numbers : K → List ℕ) where
    -- a key has the row that a swap gives it, and any other what it had
    pub at_swapped : (n : List ℕ) (rows : List R) (s : Swap K R) → IsOwn key numbers s
        → row_at key n (swapped key numbers rows s) ≡ cond (bytes_eq (numbers s.key) n) s.row (row_at key n rows)
    at_swapped n rows s own = here s.row own
      where
        here : (o : Option R) → IfSome o (λ row. key row ≡ numbers s.key)
            → row_at key n (swapped key numbers rows (record s { row = o })) ≡ cond (bytes_eq (numbers s.key) n) o (row_at key n rows)
        here None own = at_dropped n (numbers s.key) rows
        here (Some row) own = at_put n row rows ∙ ap (λ (k : List ℕ). cond (bytes_eq k n) (Some row) (row_at key n rows)) own

    pub swapped_rising : (rows : List R) (s : Swap K R) → IsRising key rows → IsRising key (swapped key numbers rows s)
    swapped_rising rows s rising = here s.row
      where
        here : (o : Option R) → IsRising key (swapped key numbers rows (record s { row = o }))
        here None = dropped_rising key (numbers s.key) rows rising
        here (Some row) = put_rising key row rows rising
