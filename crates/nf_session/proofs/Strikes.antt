-- What a session counts of the failures of its store.
use Rattle.std.proofs.Common.{◌≡◌, ◌⊎◌, ℕ, ◌+◌, ◌-◌, ◌^◌, ◌≤◌, inl, inr, arith}
use Rattle.std.specs.Prelude.{min}
use Rattle.nf_outside.specs.Lent.{Taken}
use Rattle.nf_session.specs.Laws.{Counted, StrikesCount, failed_entries, failed_in}
use Rattle.nf_session.proofs.Causes.{session_goes}
use Rattle.nf_session.proofs.Moving.{Rises}

counts : (a b n : ℕ) → Rises a n b → Counted a n b
counts a b n (inl p) = inl (omega (arith, p.0, p.1))
counts a b n (inr p) = here (a + n) p.1
  where
    here : (all : ℕ) → b ≡ min all (2 ^ 64 - 1) → (b ≡ all) ⊎ ((b ≡ 2 ^ 64 - 1) × (b ≤ all))
    here all is = grind arith

pub session_counts : {C : Type 0} (reads : C → Taken → C → Type 0) → StrikesCount reads
session_counts reads a b end session =
    let moves = (session_goes reads a b end session).book in
    record {
      entries = moves.entries;
      own = moves.own;
      counted = counts a.book.strikes b.book.strikes (failed_entries moves.entries + failed_in reads a b end session) moves.rises;
    }
