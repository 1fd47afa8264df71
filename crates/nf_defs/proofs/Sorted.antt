-- Rows by name rise strictly, and what follows of a strict order.
use Rattle.std.proofs.Common.{ℕ, suc, ◌<◌, ◌≡◌, Bool, true, false, List, [], ◌∷◌, refl, sym, ap, ◌∙◌, arith, get_or, nat_cmp, Less, Equal, Greater}
use Rattle.std.specs.declared.cmp.Ordering.{Ordering}
use Rattle.std.specs.Cmp.{IsStrictWeakOrder, IsTotalOrder}
use Rattle.std.specs.Cmp.Lexicographic.{slice_cmp}
use Rattle.std.specs.List.{All, AllPairs}
use Rattle.std.specs.Ordering.{is_lt, ordering_reverse, ordering_then}
use Rattle.std.proofs.lemmas.Bool.{both_ways, false_from_ne_true, true_from_ne_false}
use Rattle.std.proofs.lemmas.Cmp.{nat_cmp_total, nat_list_cmp_total, on_total, ranked, then_total}
use Rattle.std.proofs.lemmas.List.Elements.{All-cons, All-tail}
use Rattle.std.proofs.lemmas.List.Kept.{AllPairs-cons}
use Rattle.std.proofs.lemmas.List.Sorted.{ranks_by}
use Rattle.nf_base.specs.declared.rows.NodeRow.{NodeRow}
use Rattle.nf_defs.proofs.ByName.{All-by_name, All-put}
use Rattle.nf_defs.specs.Tree.{by_name, comes_before, put_by_name}

-- ---- what follows of a test that is a strict order

module _ {X : Type 0} {lt : X → X → Bool} (order : IsStrictWeakOrder lt) where
  pub lt_itself : (a : X) → lt a a ≡ false
  lt_itself a = false_from_ne_true (lt a a) (λ less. both_ways (lt a a) (order.one_way a a less) less)

  -- a < b and not c < b give a < c
  lt_upto : (a b c : X) → lt a b ≡ true → lt c b ≡ false → lt a c ≡ true
  lt_upto a b c less upto = true_from_ne_false (lt a c) (λ high. both_ways (lt a b) (order.chain a c b high upto) less)

  pub lt_trans : (a b c : X) → lt a b ≡ true → lt b c ≡ true → lt a c ≡ true
  lt_trans a b c less more = lt_upto a b c less (order.one_way b c more)

-- ---- ties

pub then_equal : (o p : Ordering) → ordering_then o p ≡ Equal → (o ≡ Equal) × (p ≡ Equal)
then_equal Less p h = absurd (cc)
then_equal Equal p h = (refl, h)
then_equal Greater p h = absurd (cc)

pub nat_tie : (x y : ℕ) → nat_cmp x y ≡ Equal → x ≡ y
nat_tie x y h = ranked x y Equal (sym h)

-- ---- the order of rows

abbrev row_cmp : NodeRow → NodeRow → Ordering
row_cmp a b = ordering_then (slice_cmp nat_cmp a.name b.name) (nat_cmp a.id b.id)

row_total : IsTotalOrder row_cmp
row_total = then_total (on_total (λ (row : NodeRow). row.name) nat_list_cmp_total) (on_total (λ (row : NodeRow). row.id) nat_cmp_total)

pub name_weak : IsStrictWeakOrder comes_before
name_weak = ranks_by row_total (λ (row : NodeRow). row)

pub not_itself : (a : NodeRow) → comes_before a a ≡ true → ⊥
not_itself a h = let g = lt_itself name_weak a in absurd (cc)

-- of rows with two numbers one comes first
strictly : (a b : NodeRow) → (a.id ≡ b.id → ⊥) → comes_before a b ≡ false → comes_before b a ≡ true
strictly a b differ low = here (row_cmp a b) refl low
  where
    here : (o : Ordering) → row_cmp a b ≡ o → is_lt o ≡ false → comes_before b a ≡ true
    here Less e h = absurd (cc)
    here Equal e h = absurd (differ (nat_tie a.id b.id (then_equal _ _ e).1))
    here Greater e h = ap is_lt (row_total.antisymm b a) ∙ ap (λ o. is_lt (ordering_reverse o)) e

-- one row comes before another
abbrev pub Before : NodeRow → NodeRow → Type 0
Before a b = comes_before a b ≡ true

pub pairs_head : (R : NodeRow → NodeRow → Type 0) (x : NodeRow) (xs : List NodeRow) → AllPairs R (x ∷ xs) → All (R x) xs
pairs_head R x xs pairs = λ k d within. pairs 0 (suc k) d (omega arith) (omega arith)

pub pairs_tail : (R : NodeRow → NodeRow → Type 0) (x : NodeRow) (xs : List NodeRow) → AllPairs R (x ∷ xs) → AllPairs R xs
pairs_tail R x xs pairs = λ i j d less within. pairs (suc i) (suc j) d (omega arith) (omega arith)

-- ---- by name

put_rises : (row : NodeRow) (rows : List NodeRow) → AllPairs Before rows → All (λ (other : NodeRow). row.id < other.id) rows
    → AllPairs Before (put_by_name row rows)
put_rises row [] up below = AllPairs-cons Before row [] (λ k d within. absurd (omega arith)) up
put_rises row (first ∷ rows) up below =
    here (comes_before first row) refl
    (put_rises row rows (pairs_tail Before first rows up) (All-tail (λ (other : NodeRow). row.id < other.id) first rows below))
  where
    here : (b : Bool) → comes_before first row ≡ b → AllPairs Before (put_by_name row rows) → AllPairs Before (put_by_name row (first ∷ rows))
    here true e rest =
        rw e (AllPairs-cons Before first (put_by_name row rows) (All-put (Before first) row rows e (pairs_head Before first rows up)) rest)
    here false e rest =
        let lower = below 0 first (omega arith) in
        let less = strictly first row (λ same. omega arith) e in
        rw e (AllPairs-cons Before row (first ∷ rows) (All-cons (Before row) first rows less
        (λ k d within. lt_trans name_weak row first (get_or rows k d) less (pairs_head Before first rows up k d within))) up)

-- by name they rise, where their numbers differ
pub by_name_rises : (rows : List NodeRow) → AllPairs (λ (a b : NodeRow). a.id < b.id) rows → AllPairs Before (by_name rows)
by_name_rises [] rising = λ i j d less within. absurd (omega arith)
by_name_rises (row ∷ rows) rising =
    let below = pairs_head (λ (a b : NodeRow). a.id < b.id) row rows rising in
    put_rises row (by_name rows) (by_name_rises rows (pairs_tail (λ (a b : NodeRow). a.id < b.id) row rows rising))
    (All-by_name (λ (other : NodeRow). row.id < other.id) rows below)
