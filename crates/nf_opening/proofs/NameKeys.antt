-- Keys of names, and their numbers.
use Rattle.std.proofs.Common.{◌≡◌, ℕ, ◌==◌, ◌<◌, ◌&&◌, Bool, refl, arith}
use Rattle.std.specs.Prelude.{bytes_eq}
use Rattle.std.specs.Cmp.Lexicographic.{slice_cmp}
use Rattle.std.specs.Ordering.{MatchOrdering, eq_by_cmp, is_eq, nat_cmp, ordering_then}
use Rattle.std.specs.declared.cmp.Ordering.{Ordering}
use Rattle.std.specs.declared.cmp.Ordering.TheVariants.{Less, Equal, Greater}
use Rattle.std.proofs.lemmas.Bool.{eq-eqb, ne_eqb}
use Rattle.std.proofs.lemmas.Cmp.{ranked}
use Rattle.std.proofs.lemmas.Map.Text.{is_eq-slice_cmp}
use Rattle.nf_opening.specs.Names.{name_numbers}
use Rattle.nf_opening.specs.contracts.names.NameKeyOrd.TheImpl.{ghosts}
use Rattle.nf_opening.specs.declared.names.NameKey.{NameKey}
use Rattle.nf_opening.specs.declared.names.NameKey.TheVariants.{User, Group, Child, Link}

-- a number, and what follows it
both : (a b : ℕ) (r : Ordering) (same : Bool) → is_eq r ≡ same → is_eq (ordering_then (nat_cmp a b) r) ≡ ((a == b) && same)
both a b r same e = here (nat_cmp a b) (ranked a b _ refl)
  where
    here : (o : Ordering) → MatchOrdering o (a < b) (a ≡ b) (b < a) → is_eq (ordering_then o r) ≡ ((a == b) && same)
    here Less h = rw (ne_eqb a b (λ s. absurd (omega arith))) refl
    here Equal h = rw (eq-eqb a b h) e
    here Greater h = rw (ne_eqb a b (λ s. absurd (omega arith))) refl

-- keys tie where their numbers are the same
pub same_names : (a b : NameKey) → eq_by_cmp ghosts.cmp a b ≡ bytes_eq (name_numbers a) (name_numbers b)
same_names (User a) (User b) = is_eq-slice_cmp a b
same_names (Group a) (Group b) = is_eq-slice_cmp a b
same_names (Child folder a) (Child other b) = both folder other (slice_cmp nat_cmp a b) (bytes_eq a b) (is_eq-slice_cmp a b)
same_names (Link a) (Link b) = is_eq-slice_cmp a b
same_names a b = refl
