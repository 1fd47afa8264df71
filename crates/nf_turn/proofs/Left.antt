-- The test whether a seat has a number left, as a fact.
use Rattle.std.proofs.Common.{◌≡◌, ℕ, ◌+◌, ◌<◌, ◌≤◌, true, ◌&&◌, nat_le, nat_lt, arith}
use Rattle.std.proofs.lemmas.Bool.Decides.{nat_tests}
use Rattle.nf_turn.specs.Numbers.{Numbers, is_left}

module _ {W : Type 0} (k : Numbers W) (n : ℕ) where
  abbrev pub IsLeft : Type 0
  IsLeft = (k.next ≤ n) × (n < k.next + k.left)

  pub left_test : is_left k n ≡ true → IsLeft
  left_test h = let both : (nat_le k.next n && nat_lt n (k.next + k.left)) ≡ true = h in grind (arith, nat_tests)

  pub left_tests : IsLeft → is_left k n ≡ true
  left_tests h = let low = h.0 in let up = h.1 in let both : (nat_le k.next n && nat_lt n (k.next + k.left)) ≡ true = grind (arith, nat_tests) in both
