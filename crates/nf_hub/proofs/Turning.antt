-- One turn of a seat of the hub.
use Rattle.std.proofs.Common.{rules, ◌≡◌, ℕ, ◌≤◌, List, sym, ap, ◌∙◌, subst}
use Rattle.std.specs.Prelude.{is_none}
use Rattle.std.specs.declared.snapshot.Snapshot.{Snapshot}
use Rattle.nf_base.specs.declared.limits.TheConstants.{MAX_SEATS}
use Rattle.nf_base.specs.declared.rows.Row.{Row}
use Rattle.nf_desk.specs.Desk.{Served, TakesTurn, book_at, meanings, shown}
use Rattle.nf_keeper.specs.declared.keeper.Keeper.{Ghosts as KeeperOf}
use Rattle.nf_session.specs.Book.{Book, Passes, held}
use Rattle.nf_turn.specs.Prelude.{Agrees, having_passed, IsIdle, IsSeatOf, Numbers, numbers, numbers_of}
use Rattle.nf_turn.specs.declared.view.Memory.{Memory}
use Rattle.nf_turn.proofs.Poses.{numbers_known}
use Rattle.nf_words.specs.declared.history.Entry.{Entry}
use Rattle.nf_hub.specs.Seats.{IsSeat, book, book_in, memory_of}
use Rattle.nf_hub.specs.declared.hub.HubOf.{HubOf}
use Rattle.nf_hub.specs.declared.seat.SeatOf.{SeatOf}
use Rattle.nf_hub.proofs.Knowing.{Knows, Turns, knows_after}
use Rattle.nf_hub.proofs.Seeing.{held_seen, sees}

abbrev pub HubIn : Type 0 → Type 0
HubIn K = HubOf (Served K) Entry (List Row × Snapshot K)

abbrev pub SeatIn : Type 0 → Type 0
SeatIn K = SeatOf (Served K) Entry (List Row × Snapshot K)

module _ {K : Type 0} (k : KeeperOf K) (hub : HubIn K) (seat : SeatIn K) where
  -- the seat's numbers are those that its holder knows
  pub numbers_are : numbers_of (memory_of k hub seat) ≡ numbers seat.turns
  numbers_are = numbers_known hub.lock.table.shared.key.first.value seat.turns.place.me

  pub seat_knows : IsSeat k hub seat → Knows k seat.is_idle (memory_of k hub seat)
  seat_knows is = let few = subst (λ (n : Numbers (Served K)). n.seats ≤ MAX_SEATS) (sym numbers_are) is.few in search (rules, few)

  pub knows_seat : IsSeatOf hub.lock seat.turns → IsIdle hub.lock seat.turns → (m : Memory (Served K)) → memory_of k hub seat ≡ m
      → Knows k seat.is_idle m → IsSeat k hub seat
  knows_seat its rests m is known =
      let knows = subst (λ (m : Memory (Served K)). Knows k seat.is_idle m) (sym is) known in
      let few = subst (λ (n : Numbers (Served K)). n.seats ≤ MAX_SEATS) numbers_are knows.few in
      search (rules, few)

-- the number n is the seat's, and it took the desk in its turn and gave it back so
pub record TakesIn {K : Type 0} (k : KeeperOf K) (hub : HubIn K) (old new : SeatIn K) (n : ℕ) (taken given : Served K) : Type 0 where
  pub number : n ≡ (numbers old.turns).number
  pub agrees : Agrees (meanings k) (memory_of k hub old) taken
  pub turn : TakesTurn k n taken given
  pub passed : memory_of k hub new ≡ having_passed given (memory_of k hub old)
  pub its : IsSeatOf hub.lock new.turns
  pub rests : IsIdle hub.lock new.turns

module _ {K : Type 0} (k : KeeperOf K) (hub : HubIn K) (old : SeatIn K) (n : ℕ) (taken : Served K) (number : n ≡ (numbers old.turns).number)
    (agrees : Agrees (meanings k) (memory_of k hub old) taken) where
  number_known : n ≡ (memory_of k hub old).number
  number_known = number ∙ sym (ap (λ (m : Numbers (Served K)). m.number) (numbers_are k hub old))

  -- what the seat held before is what it holds of the desk that it takes
  pub held_taken : held (book_at n (shown k taken)) ≡ held (book k hub old)
  held_taken =
      ap (λ (z : ℕ). held (book_at z (shown k taken))) number_known ∙ held_seen k (memory_of k hub old) taken agrees

module _ {K : Type 0} {k : KeeperOf K} {hub : HubIn K} {old new : SeatIn K} {n : ℕ} {taken given : Served K}
    (takes : TakesIn k hub old new n taken given) where
  pub number : n ≡ (memory_of k hub old).number
  number = number_known k hub old n taken takes.number takes.agrees

  turns : Turns k (memory_of k hub old) taken given
  turns = record { agrees = takes.agrees; turn = subst (λ (z : ℕ). TakesTurn k z taken given) number takes.turn }

  -- what the seat knows then is the desk as it gave it back
  pub book_given : book k hub new ≡ book_at n (shown k given)
  book_given = ap (λ (m : Memory (Served K)). book_in k m) takes.passed ∙ sym (ap (λ (z : ℕ). book_at z (shown k given)) number)

  pub seat_after : IsSeat k hub old → new.is_idle ≡ is_none (held (book_at n (shown k given))) → IsSeat k hub new
  seat_after is flag =
      knows_seat k hub new takes.its takes.rests (having_passed given (memory_of k hub old)) takes.passed
      (knows_after k (memory_of k hub old) taken given turns old.is_idle new.is_idle (seat_knows k hub old is)
      (flag ∙ ap (λ (z : ℕ). is_none (held (book_at z (shown k given)))) number))

  -- what is so from the desk as it was taken to the desk as it was given back is so from what the seat knew to what it knows
  pub over_turn : (P : Book → Book → Type 0) → ((a b : Book) → Passes a (book_at n (shown k taken)) → P (book_at n (shown k taken)) b → P a b)
      → P (book_at n (shown k taken)) (book_at n (shown k given)) → P (book k hub old) (book k hub new)
  over_turn P after does =
      subst (λ (b : Book). P (book k hub old) b) (sym book_given)
      (after (book k hub old) (book_at n (shown k given))
      (subst (λ (z : ℕ). Passes (book k hub old) (book_at z (shown k taken))) (sym number) (sees k (memory_of k hub old) taken takes.agrees)) does)
