-- Swaps that are turned key numbers and taken back.
use Rattle.std.proofs.Common.{ℕ, ◌+◌, ◌<◌, ◌≡◌, List, [], ◌∷◌, ◌++◌, length, get_or, set, take, drop, reverse, refl, sym, ap, ◌∙◌, arith}
use Rattle.std.proofs.lemmas.List.{append_assoc, drop-set-lt, drop_more, reverse-append, take_more_set}
use Rattle.std.proofs.lemmas.List.Elements.{All-head, All-tail}
use Rattle.std.proofs.lemmas.List.Sums.{fold-append}
use Rattle.std.proofs.lemmas.Slice.Eq.{bytes_eq-Decides}
use Rattle.nf_defs.specs.Prelude.{IsRising}
use Rattle.nf_table.specs.Swaps.{AreOwn, GoBack, IsOwn, swapped, taken, tried, turned}
use Rattle.nf_table.specs.declared.swaps.Swap.{Swap}
use Rattle.nf_table.proofs.Looked.{at_swapped, own_found, same_bytes, same_rows, swapped_rising}

module _ {R K : Type 0} (key : R → List ℕ) (numbers : K → List ℕ) where
  -- ---- one swap further

  module _ (rows : List R) (ss : List (Swap K R)) (i : ℕ) (d : Swap K R) (within : i < length ss) where
    abbrev pub s : Swap K R
    s = get_or ss i d

    rest : drop (i + 1) (set ss i (turned key numbers rows s)) ≡ drop (i + 1) ss
    rest = drop-set-lt (i + 1) ss i (turned key numbers rows s) (omega arith)

    pub tried_more : tried key numbers (swapped key numbers rows s) (drop (i + 1) (set ss i (turned key numbers rows s))) ≡ tried key numbers rows (drop i ss)
    tried_more = ap (tried key numbers (swapped key numbers rows s)) rest ∙ ap (tried key numbers rows) (sym (drop_more ss i d within))

    pub taken_more : take (i + 1) (set ss i (turned key numbers rows s)) ++ taken key numbers (swapped key numbers rows s) (drop (i + 1) (set ss i (turned key numbers rows s)))
        ≡ take i ss ++ taken key numbers rows (drop i ss)
    taken_more =
        rw (take_more_set ss i (turned key numbers rows s) within, rest)
        (append_assoc (take i ss) (turned key numbers rows s ∷ []) (taken key numbers (swapped key numbers rows s) (drop (i + 1) ss))
        ∙ ap (λ (ts : List (Swap K R)). take i ss ++ taken key numbers rows ts) (sym (drop_more ss i d within)))

  -- ---- all of them back

  swap_back : (rows : List R) (s : Swap K R) → IsRising key rows → IsOwn key numbers s
      → swapped key numbers (swapped key numbers rows s) (turned key numbers rows s) ≡ rows
  swap_back rows s rising own =
      let next = swapped key numbers rows s in
      same_rows key (swapped key numbers next (turned key numbers rows s)) rows
      (swapped_rising key numbers next (turned key numbers rows s) (swapped_rising key numbers rows s rising)) rising
      (λ n. grind (
        arith,
        at_swapped key numbers n rows s own,
        at_swapped key numbers n next (turned key numbers rows s) (own_found key (numbers s.key) rows),
        (bytes_eq-Decides (numbers s.key) n).0,
      ))

  turned_back : (rows : List R) (s : Swap K R) → IsOwn key numbers s → turned key numbers (swapped key numbers rows s) (turned key numbers rows s) ≡ s
  turned_back rows s own = grind (arith, at_swapped key numbers (numbers s.key) rows s own, same_bytes (numbers s.key) (numbers s.key) refl)

  taken-append : (rows : List R) (ss ts : List (Swap K R))
      → taken key numbers rows (ss ++ ts) ≡ taken key numbers rows ss ++ taken key numbers (tried key numbers rows ss) ts
  taken-append rows [] ts = refl
  taken-append rows (s ∷ ss) ts = ap (λ rest. turned key numbers rows s ∷ rest) (taken-append (swapped key numbers rows s) ss ts)

  pub go_back : (rows : List R) (ss : List (Swap K R)) → IsRising key rows → AreOwn key numbers ss → GoBack key numbers rows ss
  go_back rows [] rising own = record { all_back = refl; all_returned = refl }
  go_back rows (s ∷ ss) rising own =
      let one = All-head (IsOwn key numbers) s ss own in
      let next = swapped key numbers rows s in
      let rest = go_back next ss (swapped_rising key numbers rows s rising) (All-tail (IsOwn key numbers) s ss own) in
      let last = tried key numbers next ss in
      let way = reverse (taken key numbers next ss) in
      let ends = reverse-append (turned key numbers rows s ∷ []) (taken key numbers next ss) in
      let all = taken-append last way (turned key numbers rows s ∷ []) in
      let first = reverse-append (taken key numbers last way) (turned key numbers (tried key numbers last way) (turned key numbers rows s) ∷ []) in
      let steps = fold-append (swapped key numbers) last way (turned key numbers rows s ∷ []) in
      let back = swap_back rows s rising one in
      let same = turned_back rows s one in
      record { all_back = cc; all_returned = cc }
