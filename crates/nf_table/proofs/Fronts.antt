-- The rows whose keys begin with a front stand together.
use Rattle.std.proofs.Common.{ℕ, zero, suc, ◌+◌, ◌≤◌, ◌≡◌, ◌≢◌, Bool, true, false, List, [], ◌∷◌, length, get_or, take, drop, refl, sym, ap, ◌∙◌, inl, inr, length-drop, arith}
use Rattle.std.specs.List.{AllWithin, filter}
use Rattle.std.specs.List.Sorted.{IsNonDecreasingBy, IsPartitionedBy}
use Rattle.std.specs.Ordering.{is_eq, is_lt, ordering_index}
use Rattle.std.specs.declared.cmp.Ordering.{Ordering}
use Rattle.std.specs.declared.cmp.Ordering.TheVariants.{Less, Equal, Greater}
use Rattle.std.proofs.lemmas.Bool.{cases_lt}
use Rattle.std.proofs.lemmas.Bool.Decides.{nat_tests}
use Rattle.std.proofs.lemmas.Cmp.{is_eq_index, is_lt_index}
use Rattle.std.proofs.lemmas.List.{get_or-drop}
use Rattle.std.proofs.lemmas.List.Elements.{filter_agree}
use Rattle.nf_defs.specs.Prelude.{IsRising, key_cmp}
use Rattle.nf_defs.proofs.Lookups.{equal_bytes}
use Rattle.nf_defs.proofs.Puts.{key_total, rises}
use Rattle.nf_table.specs.Rows.{begins, front_cmp}

-- the fronts of keys rise as the keys do, or tie
cut : (k : ℕ) (a b : List ℕ) → key_cmp a b ≡ Less → key_cmp (take k a) (take k b) ≢ Greater
cut zero a b less above = absurd (cc)
cut (suc k) [] [] less above = absurd (cc)
cut (suc k) [] (y ∷ ys) less above = absurd (cc)
cut (suc k) (x ∷ xs) [] less above = absurd (cc)
cut (suc k) (x ∷ xs) (y ∷ ys) less above = let rest = cut k xs ys in grind (arith, nat_tests)

pub not_lower : (a b front : List ℕ) (r : Ordering) → key_cmp a b ≡ r → r ≢ Greater → ordering_index (key_cmp a front) ≤ ordering_index (key_cmp b front)
not_lower a b front Less e not_above = rises a b front e
not_lower a b front Equal e not_above = rw (key_total.congr a b front e) (omega arith)
not_lower a b front Greater e not_above = absurd (not_above refl)

-- what fails a test in front doesn't count
pub passed : {X : Type 0} (p : X → Bool) (xs : List X) (from : ℕ) → AllWithin (λ x. p x ≡ false) xs 0 from → filter p xs ≡ filter p (drop from xs)
passed p xs zero fail = refl
passed p [] (suc from) fail = refl
passed p (x ∷ xs) (suc from) fail =
    rw (fail 0 x (omega arith) (omega arith)) (passed p xs from (λ k d le less. fail (suc k) d (omega arith) (omega arith)))

-- nor what fails it behind
pub kept : {X : Type 0} (p : X → Bool) (xs : List X) (count : ℕ) → AllWithin (λ x. p x ≡ true) xs 0 count
    → AllWithin (λ x. p x ≡ false) xs count (length xs) → take count xs ≡ filter p xs
kept p [] zero pass fail = refl
kept p [] (suc count) pass fail = refl
kept p (x ∷ xs) zero pass fail =
    rw (fail 0 x (omega arith) (omega arith))
    (kept p xs zero (λ k d le less. absurd (omega arith)) (λ k d le less. fail (suc k) d (omega arith) (omega arith)))
kept p (x ∷ xs) (suc count) pass fail =
    rw (pass 0 x (omega arith) (omega arith))
    (ap (λ rest. x ∷ rest)
    (kept p xs count (λ k d le less. pass (suc k) d (omega arith) (omega arith)) (λ k d le less. fail (suc k) d (omega arith) (omega arith))))

module _ {R : Type 0} (key : R → List ℕ) (front : List ℕ) (rows : List R) where
  abbrev pub below : R → Bool
  below row = is_lt (front_cmp (key row) front)

  abbrev pub equal : R → Bool
  equal row = is_eq (front_cmp (key row) front)

  module _ (rising : IsRising key rows) where
    fronts_rise : IsNonDecreasingBy (λ row. ordering_index (front_cmp (key row) front)) rows
    fronts_rise i j d le within =
        elim (cases_lt i j) [
          | inl before ↦
              not_lower (take (length front) (key (get_or rows i d))) (take (length front) (key (get_or rows j d))) front _ refl
              (cut (length front) (key (get_or rows i d)) (key (get_or rows j d)) (rising i j d before within))
          | inr not_before ↦ let e : i ≡ j = omega arith in rw e (omega arith)
        ]

    pub lower_part : IsPartitionedBy below rows
    lower_part i j d le within less = let up = fronts_rise i j d le within in grind (arith, nat_tests, is_lt_index)

    pub equal_part : (from : ℕ) → AllWithin (λ row. below row ≡ false) rows from (length rows) → IsPartitionedBy equal (drop from rows)
    equal_part from none i j d le within is =
        let n = length-drop from rows in
        let up = fronts_rise (from + i) (from + j) d (omega arith) (omega arith) in
        let not_below = none (from + i) d (omega arith) (omega arith) in
        let last = rw (get_or-drop from rows j d) at is in
        rw (get_or-drop from rows i d) (grind (arith, nat_tests, is_lt_index, is_eq_index))

  pub front_is : (from count : ℕ) → AllWithin (λ row. below row ≡ true) rows 0 from → AllWithin (λ row. equal row ≡ true) (drop from rows) 0 count
      → AllWithin (λ row. equal row ≡ false) (drop from rows) count (length (drop from rows)) → take count (drop from rows) ≡ filter (λ row. begins (key row) front) rows
  front_is from count lower pass fail =
      kept equal (drop from rows) count pass fail
      ∙ sym (passed equal rows from (λ k d le less. let is = lower k d le less in grind (arith, nat_tests, is_lt_index, is_eq_index)))
      ∙ sym (filter_agree (λ row. begins (key row) front) equal (λ row. equal_bytes (take (length front) (key row)) front _ refl) rows)
