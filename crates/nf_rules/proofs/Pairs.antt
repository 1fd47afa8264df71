-- Rows with one put: what is so of each two of them.
use Rattle.std.proofs.Common.{◌≡◌, ◌≢◌, ℕ, zero, suc, ◌<◌, List, [], ◌∷◌, get_or, refl, arith}
use Rattle.std.specs.List.{All, AllPairs}
use Rattle.std.specs.declared.cmp.Ordering.{Ordering}
use Rattle.std.specs.declared.cmp.Ordering.TheVariants.{Less, Equal, Greater}
use Rattle.std.proofs.lemmas.List.Elements.{All-head, All-tail}
use Rattle.std.proofs.lemmas.List.Kept.{AllPairs-cons}
use Rattle.nf_defs.proofs.Puts.{all_put, below_one, same_one, turned}
use Rattle.nf_defs.specs.Prelude.{by_order, IsRising, key_cmp, put}

-- what is so of each two rows is so with one that is put, where it is so of that and of each other
pub pairs_put : {R : Type 0} (id : R → ℕ) (P : R → R → Type 0) → ((a b : R) → P a b → P b a) → (row : R) (rows : List R)
    → IsRising (λ x. id x ∷ []) rows → All (λ (other : R). id other ≢ id row → P row other) rows → AllPairs P rows
    → AllPairs P (put (λ x. id x ∷ []) row rows)
pairs_put id P back row [] rising one pairs = λ i j d before within. absurd (omega (arith, before, within))
pairs_put {R = R} id P back row (x ∷ rows) rising one pairs =
    here (key_cmp (key row) (key x)) refl
    (pairs_put id P back row rows (λ i j d before within. rising (suc i) (suc j) d (omega arith) (omega arith))
    (All-tail (λ (other : R). id other ≢ id row → P row other) x rows one) tails)
  where
    key : R → List ℕ
    key x = id x ∷ []

    tails : AllPairs P rows
    tails i j d before within = pairs (suc i) (suc j) d (omega arith) (omega arith)

    heads : All (P x) rows
    heads k d within = pairs 0 (suc k) d (omega arith) (omega arith)

    -- those behind the first have higher numbers
    behind : All (λ (other : R). id x < id other) rows
    behind k d within = below_one (id x) (id (get_or rows k d)) (rising 0 (suc k) d (omega arith) (omega arith))

    others : ((n : ℕ) → id x < n → n ≢ id row) → All (P row) rows
    others apart k d within =
        All-tail (λ (other : R). id other ≢ id row → P row other) x rows one k d within (apart (id (get_or rows k d)) (behind k d within))

    here : (o : Ordering) → key_cmp (key row) (key x) ≡ o → AllPairs P (put (λ x. id x ∷ []) row rows)
        → AllPairs P (by_order o (row ∷ x ∷ rows) (row ∷ rows) (x ∷ put (λ x. id x ∷ []) row rows))
    here Less e rest =
        let less = below_one (id row) (id x) e in
        AllPairs-cons P row (x ∷ rows) (λ k d within. first less k d within) pairs
      where
        first : id row < id x → All (P row) (x ∷ rows)
        first less zero d within =
            All-head (λ (other : R). id other ≢ id row → P row other) x rows one (λ same. absurd (omega (arith, less, same)))
        first less (suc k) d within = others (λ n above same. absurd (omega (arith, less, above, same))) k d (omega (arith, within))
    here Equal e rest =
        let equal = same_one (id row) (id x) e in
        AllPairs-cons P row rows (others (λ n above same. absurd (omega (arith, above, same, equal)))) tails
    here Greater e rest =
        let more = below_one (id x) (id row) (turned (key row) (key x) Greater e) in
        AllPairs-cons P x (put (λ x. id x ∷ []) row rows)
        (all_put (λ x. id x ∷ []) (P x) row rows
        (back row x (All-head (λ (other : R). id other ≢ id row → P row other) x rows one (λ same. absurd (omega (arith, more, same))))) heads) rest
