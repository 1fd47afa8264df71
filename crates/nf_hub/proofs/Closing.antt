-- At the end of a hub nothing is granted any more.
use Rattle.std.proofs.Common.{◌≡◌, ◌⊎◌, ⊎_elim, ℕ, zero, suc, ◌<◌, ◌≤◌, List, [], ◌∷◌, inl, inr, refl, sym, ap, ◌∙◌, subst, arith}
use Rattle.std.proofs.lemmas.Bool.{cases_lt, eqb-true, or_cases}
use Rattle.std.specs.Prelude.{true, ◌==◌, None}
use Rattle.nf_desk.specs.Desk.{Served, book_at, meanings, shown}
use Rattle.nf_keeper.specs.declared.keeper.Keeper.{Ghosts as KeeperOf}
use Rattle.nf_session.specs.Book.{held, held_after}
use Rattle.nf_site.specs.Kept.{IsHistory}
use Rattle.nf_turn.specs.Prelude.{Agrees, AllAreKept, HasNothing, is_joined, IsWhole, numbers_of}
use Rattle.nf_turn.specs.declared.view.Memory.{Memory}
use Rattle.nf_turn.proofs.Left.{IsLeft, left_tests}
use Rattle.nf_turn.proofs.Whole.{ways}
use Rattle.nf_words.specs.State.{State, opened}
use Rattle.nf_hub.specs.Seats.{AllWereIdle, book_in}
use Rattle.nf_hub.proofs.Owning.{none_own}
use Rattle.nf_hub.proofs.Seeing.{held_kept, held_seen}
use Rattle.nf_hub.proofs.Tickets.{found_for, no_tickets, none_found}

module _ {K : Type 0} (k : KeeperOf K) (desk : Served K) where
  -- the seat with the number n holds nothing
  abbrev HoldsNone : ℕ → Type 0
  HoldsNone n = held (book_at n (shown k desk)) ≡ None

  nothing_held : (n : ℕ) → HasNothing (meanings k) n desk → HoldsNone n
  nothing_held n nothing =
      ap (held_after None) (none_own n (opened desk.site.kept.opening) desk.site.kept.history nothing.0)

  joined_held : (n : ℕ) (seats : List (ℕ × Served K)) → AllWereIdle k seats → AllAreKept (meanings k) desk seats → is_joined n seats ≡ true
      → HoldsNone n
  joined_held n [] idle kept is = absurd (cc)
  joined_held n (seat ∷ seats) idle kept is = ⊎_elim
      (λ (same : (seat.0 == n) ≡ true). subst (λ (z : ℕ). HoldsNone z) (eqb-true seat.0 n same) (held_kept k seat.0 seat.1 desk kept.0.grows kept.0.none ∙ idle.0))
      (λ (rest : is_joined n seats ≡ true). joined_held n seats idle.1 kept.1 rest)
      (or_cases (seat.0 == n) (is_joined n seats) is)

  module _ (m : Memory (Served K)) (agrees : Agrees (meanings k) m desk) (idle : held (book_in k m) ≡ None) (joined : AllWereIdle k m.joined) where
    numbered_held : (n : ℕ) → (n ≡ m.number) ⊎ (IsLeft (numbers_of m) n ⊎ (is_joined n m.joined ≡ true)) → HoldsNone n
    numbered_held n (inl own) = subst (λ (z : ℕ). HoldsNone z) (sym own) (held_seen k m desk agrees ∙ idle)
    numbered_held n (inr (inl left)) = nothing_held n (agrees.left n (left_tests (numbers_of m) n left))
    numbered_held n (inr (inr is)) = joined_held n m.joined joined agrees.joined is

    all_held : IsWhole (numbers_of m) → (n : ℕ) → HoldsNone n
    all_held whole zero = nothing_held zero (agrees.outside zero (inl refl))
    all_held whole (suc n) = ⊎_elim
        (λ (out : m.seats < suc n). nothing_held (suc n) (agrees.outside (suc n) (inr out)))
        (λ (within : suc n ≤ m.seats). numbered_held (suc n) (ways (numbers_of m) (suc n) (whole (suc n) (omega arith) within)))
        (cases_lt m.seats (suc n))

    pub none_granted : IsWhole (numbers_of m) → IsHistory desk.site.kept → desk.site.kept.state.tickets ≡ []
    none_granted whole history =
        no_tickets desk.site.kept.state.tickets
        (λ n. subst (λ (s : State). found_for n s.tickets ≡ None) (sym history.replayed)
        (none_found (book_at n (shown k desk)) (record { legal = history.legal; own = refl }) (all_held whole n)))
