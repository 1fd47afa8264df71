-- A charge is the sum of the bytes of all that is the user's but for what is in the trash, and no more than can be told.
use Rattle.std.proofs.Common.{ℕ, ◌+◌, ◌==◌, ◌&&◌, ◌≡◌, ◌≤◌, Bool, true, false, not, List, [], ◌∷◌, if◌then◌else◌, refl, arith}
use Rattle.std.specs.Prelude.{sum_by}
use Rattle.std.specs.List.{All}
use Rattle.std.proofs.lemmas.List.Elements.{All-head, All-tail}
use Rattle.std.proofs.lemmas.List.Sums.{sum_by-cons}
use Rattle.nf_base.specs.declared.rows.NodeRow.{NodeRow}
use Rattle.nf_defs.specs.Prelude.{is_present}
use Rattle.nf_laws.proofs.Sizes.{few_all, few_each, weight}
use Rattle.nf_laws.specs.Charges.{ChargesAreFew, ChargesLeaveOutTrash, owned_bytes, trashed_bytes}
use Rattle.nf_words.specs.Prelude.{charge_of, counted_for}

-- ---- sums over some rows

-- equal in each, two numbers have equal sums
pub sums_agree : {X : Type 0} (f g : X → ℕ) (xs : List X) → All (λ (x : X). f x ≡ g x) xs → sum_by f xs ≡ sum_by g xs
sums_agree f g [] each = refl
sums_agree f g (x ∷ xs) each =
    omega (
      arith,
      sum_by-cons f x xs,
      sum_by-cons g x xs,
      All-head (λ x. f x ≡ g x) x xs each,
      sums_agree f g xs (All-tail (λ x. f x ≡ g x) x xs each),
    )

-- and a lesser one has no greater sum
pub sums_below : {X : Type 0} (f g : X → ℕ) (xs : List X) → ((x : X) → f x ≤ g x) → sum_by f xs ≤ sum_by g xs
sums_below f g [] each = omega arith
sums_below f g (x ∷ xs) each = omega (arith, sum_by-cons f x xs, sum_by-cons g x xs, each x, sums_below f g xs each)

-- where two numbers are a third in each, their sums are its
pub sums_join : {X : Type 0} (f g h : X → ℕ) (xs : List X) → ((x : X) → f x + g x ≡ h x) → sum_by f xs + sum_by g xs ≡ sum_by h xs
sums_join f g h [] each = omega arith
sums_join f g h (x ∷ xs) each =
    omega (arith, sum_by-cons f x xs, sum_by-cons g x xs, sum_by-cons h x xs, each x, sums_join f g h xs each)

-- what is the same either way
pub alike : (own : Bool) (n : ℕ) → (if own then n else n) ≡ n
alike true n = refl
alike false n = refl

-- ---- the laws

-- what counts of a row and what doesn't, as it isn't present, are its bytes
pub charge_beside : ChargesLeaveOutTrash
unfolding charge_of
charge_beside t user =
    sums_join (counted_for t user) (trashed_bytes t user) (owned_bytes user) t.nodes
    (λ row. parts (row.owner == user) (is_present t.users t.nodes row.id) (weight row))
  where
    parts : (own present : Bool) (n : ℕ)
        → (if own && present then n else 0) + (if own && not present then n else 0) ≡ (if own then n else 0)
    parts true true n = omega arith
    parts true false n = omega arith
    parts false present n = omega arith

-- whose it is, a row has at most its bytes
owned_below : (user : ℕ) (row : NodeRow) → owned_bytes user row ≤ weight row
owned_below user row = either (row.owner == user)
  where
    either : (own : Bool) → (if own then weight row else 0) ≤ weight row
    either true = omega arith
    either false = omega arith

pub charge_few : ChargesAreFew
charge_few t user sound =
    omega (
      arith,
      charge_beside t user,
      sums_below (owned_bytes user) weight t.nodes (owned_below user),
      few_all t.nodes (few_each t sound),
      sound.few_pieces,
    )
