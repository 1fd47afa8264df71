-- The longest front of sizes within a bound.
use Rattle.std.proofs.Common.{◌≡◌, ◌<◌, ◌≤◌, ◌+◌, ◌-◌, ℕ, zero, suc, Bool, true, false, List, [], ◌∷◌, length, if◌then◌else◌, refl, arith, take, sum}
use Rattle.std.specs.Prelude.{nat_le}
use Rattle.std.proofs.lemmas.Bool.{leb-true, leb-false}
use Rattle.std.proofs.lemmas.List.Sums.{sum_by-cons}
use Rattle.nf_retention.specs.Budget.{IsLongestWithin, fitting}
use Rattle.nf_retention.specs.Laws.{FittingIsOnly, FittingIsRight}

sum-cons : (size : ℕ) (sizes : List ℕ) → sum (size ∷ sizes) ≡ size + sum sizes
sum-cons size sizes = sum_by-cons (λ x. x) size sizes

pub fitting_only : FittingIsOnly
fitting_only bound sizes m n first second =
    omega (arith, first.longest n second.front second.within, second.longest m first.front first.within)

-- one more, where it is within the bound
one_more : (bound size : ℕ) (older : List ℕ) (n : ℕ) → size ≤ bound → IsLongestWithin (bound - size) older n
    → IsLongestWithin bound (size ∷ older) (suc n)
one_more bound size older n small rest =
    record {
      front = omega (arith, rest.front);
      within = omega (arith, sum-cons size (take n older), rest.within);
      longest = longest;
    }
  where
    longest : (more : ℕ) → more ≤ suc (length older) → sum (take more (size ∷ older)) ≤ bound → more ≤ suc n
    longest zero there within = omega arith
    longest (suc more) there within =
        omega (arith, rest.longest more (omega arith) (omega (arith, sum-cons size (take more older))))

-- and none, where it isn't
none_fits : (bound size : ℕ) (older : List ℕ) → bound < size → IsLongestWithin bound (size ∷ older) 0
none_fits bound size older large = record { front = omega arith; within = omega arith; longest = longest }
  where
    longest : (more : ℕ) → more ≤ suc (length older) → sum (take more (size ∷ older)) ≤ bound → more ≤ 0
    longest zero there within = omega arith
    longest (suc more) there within = absurd (omega (arith, sum-cons size (take more older)))

fits_on : (bound size : ℕ) (older : List ℕ) (b : Bool) → nat_le size bound ≡ b
    → IsLongestWithin (bound - size) older (fitting (bound - size) older)
    → IsLongestWithin bound (size ∷ older) (if b then suc (fitting (bound - size) older) else 0)
fits_on bound size older true small rest = one_more bound size older _ (leb-true _ _ small) rest
fits_on bound size older false large rest = none_fits bound size older (leb-false _ _ large)

pub fitting_right : FittingIsRight
fitting_right bound [] = record { front = omega arith; within = omega arith; longest = λ more there within. there }
fitting_right bound (size ∷ older) = fits_on bound size older _ refl (fitting_right (bound - size) older)
