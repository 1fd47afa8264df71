use Rattle.std.proofs.Common.{◌≡◌, ◌<◌, ◌≤◌, ℕ, Option, None, Some, bit_and, bit_or, inl, inr, refl, subst, sym, arith}
use Rattle.std.proofs.lemmas.Bool.{cases_lt}
use Rattle.std.proofs.lemmas.Nat.{and_le_l}
use Rattle.std.specs.Int.Bits.{or_add_and}
use Rattle.std.specs.Option.{IsSome}
use Rattle.std.specs.Prelude.{MatchOption}
use Rattle.nf_access.proofs.perms.perms_within.Goals as goal

few : (a : ℕ) → a < 32 → bit_or a 1 < 32
few a small = elim (cases_lt a 31) [
  | inl less ↦ let sum = or_add_and a 1 in omega arith
  | inr most ↦ let is : a ≡ 31 = omega arith in subst (λ (n : ℕ). bit_or n 1 < 32) (sym is) (omega arith)
]

there : (o : Option ℕ) (bits : ℕ) → MatchOption o (32 ≤ bits) (λ perms. (bits < 32) × (perms ≡ bits)) → bits < 32 → IsSome o
there None bits over small = absurd (omega arith)
there (Some perms) bits is small = refl

pub unwrap-requires : goal.unwrap-requires
unwrap-requires c =
    let most = bit_and c.most_of_node.result c.args.most in
    let less = and_le_l c.bits.result most in
    there c.read.result _ c.read.ensures (few (bit_and c.bits.result most) (let same = c.bits.ensures.bits in omega (arith, c.bits.ensures.few)))
