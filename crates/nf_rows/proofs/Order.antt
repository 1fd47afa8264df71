-- Only equal keys tie.
use Rattle.std.proofs.Common.{◌≡◌, ℕ, List, ap}
use Rattle.std.proofs.lemmas.Map.Lookups.{exact_bytes, exact_pairs, exact_unsigned}
use Rattle.std.specs.Ordering.{nat_cmp}
use Rattle.std.specs.Cmp.Lexicographic.{slice_cmp}
use Rattle.std.specs.declared.cmp.Ordering.TheVariants.{Equal}
use Rattle.nf_rows.specs.Spelling.{Keyed, key_cmp}

abbrev keyed : ℕ × List ℕ → Keyed
keyed key = record { kind = key.0; bytes = key.1 }

pub ties : (a b : Keyed) → key_cmp a b ≡ Equal → a ≡ b
ties a b e =
    ap keyed (exact_pairs nat_cmp (slice_cmp nat_cmp) exact_unsigned exact_bytes (a.kind, a.bytes) (b.kind, b.bytes) e)
