-- The one seat of a hub: all entries and strikes are its own, and what it knows is the desk.
use Rattle.std.proofs.Common.{◌≡◌, ◌≢◌, ℕ, zero, suc, ◌+◌, ◌-◌, ◌<◌, ◌≤◌, Bool, true, false, ◌==◌, ◌||◌, ◌&&◌, if◌then◌else◌, List, [], ◌∷◌, refl, sym, ◌∙◌, ap, subst, inl, inr, arith}
use Rattle.std.specs.Prelude.{None, get_or, nat_le, nat_lt, sum, IsTrue}
use Rattle.std.proofs.lemmas.Bool.{eqb-false, eqb-true, eq-eqb}
use Rattle.std.proofs.lemmas.Bool.Decides.{nat_tests}
use Rattle.std.proofs.lemmas.List.Elements.{All-cons, All-head, All-nil, All-tail}
use Rattle.std.proofs.lemmas.List.Sums.{sum_by-cons}
use Rattle.nf_base.specs.declared.limits.TheConstants.{MAX_SEATS}
use Rattle.nf_desk.specs.Desk.{IsDesk, Served, book_at, entries_by, failed_marks, meanings, risen, shown, strikes_of}
use Rattle.nf_hub.specs.Seats.{book_in}
use Rattle.nf_keeper.specs.declared.keeper.Keeper.{Ghosts as KeeperOf}
use Rattle.nf_session.specs.Book.{Book, held, held_after, own_from}
use Rattle.nf_turn.specs.Prelude.{Agrees, HasNothing, is_left, IsFresh, IsWhole, Numbers, numbers_of, of_the_first}
use Rattle.nf_turn.specs.declared.view.Memory.{Memory}
use Rattle.nf_words.specs.State.{opened}
use Rattle.nf_words.specs.declared.history.Entry.{Entry}
use Rattle.filesd.specs.Seat.{AreOwn, book_of, seat}

-- ---- entries

abbrev IsOwn : Entry → Type 0
IsOwn e = e.seat ≡ seat

pub its_entry : (e : Entry) (es : List Entry) → entries_by e.seat (e ∷ es) ≡ [] → ⊥
its_entry e es none =
    let some : e ∷ entries_by e.seat es ≡ [] = simp (eq-eqb e.seat e.seat refl) at none in cc

pub none_behind : (n : ℕ) (e : Entry) (es : List Entry) → entries_by n (e ∷ es) ≡ [] → entries_by n es ≡ []
none_behind n e es none = here (e.seat == n) none
  where
    here : (its : Bool) → (if its then e ∷ entries_by n es else entries_by n es) ≡ [] → entries_by n es ≡ []
    here true none = absurd (cc)
    here false none = none

first_own : (e : Entry) (es : List Entry) → ((n : ℕ) → n ≢ seat → entries_by n (e ∷ es) ≡ []) → e.seat ≡ seat
first_own e es none = here (e.seat == seat) refl
  where
    here : (its : Bool) → (e.seat == seat) ≡ its → e.seat ≡ seat
    here true is = eqb-true e.seat seat is
    here false is = absurd (its_entry e es (none e.seat (eqb-false e.seat seat is)))

-- where no other seat has an entry, all are its own
all_own : (es : List Entry) → ((n : ℕ) → n ≢ seat → entries_by n es ≡ []) → AreOwn es
all_own [] none = All-nil IsOwn
all_own (e ∷ es) none =
    All-cons IsOwn e es (first_own e es none) (all_own es (λ n other. none_behind n e es (none n other)))

own_all : (es : List Entry) → AreOwn es → entries_by seat es ≡ es
own_all [] own = refl
own_all (e ∷ es) own =
    simp (eq-eqb e.seat seat (All-head IsOwn e es own)) (ap (λ (z : List Entry). e ∷ z) (own_all es (All-tail IsOwn e es own)))

-- ---- strikes

sum_none : (xs : List ℕ) → ((n : ℕ) → get_or xs n 0 ≡ 0) → sum xs ≡ 0
sum_none [] none = refl
sum_none (x ∷ xs) none =
    let first : x ≡ 0 = none 0 in
    let rest : sum xs ≡ 0 = sum_none xs (λ n. none (suc n)) in
    omega (arith, sum_by-cons (λ (n : ℕ). n) x xs)

-- where none but the first number counts, the sum is that one
sum_first : (xs : List ℕ) → ((n : ℕ) → get_or xs (suc n) 0 ≡ 0) → sum xs ≡ get_or xs 0 0
sum_first [] none = refl
sum_first (x ∷ xs) none = let rest : sum xs ≡ 0 = sum_none xs none in omega (arith, sum_by-cons (λ (n : ℕ). n) x xs)

-- ---- numbers

-- those of a seat from which no other was split off
abbrev pub all_numbers : {K : Type 0} → Served K → Numbers (Served K)
all_numbers desk = numbers_of (of_the_first MAX_SEATS desk)

whole_by : (n : ℕ) → 0 < n → n ≤ MAX_SEATS → ((n == 1) || ((nat_le 2 n && nat_lt n (MAX_SEATS + 1)) || false)) ≡ true
whole_by n low high = grind (arith, nat_tests)

pub is_whole : {K : Type 0} (desk : Served K) → IsWhole (all_numbers desk)
is_whole desk n low high = whole_by n low high

left_by : (n : ℕ) → 0 < n → n ≢ seat → n ≤ MAX_SEATS → (nat_le 2 n && nat_lt n (MAX_SEATS + 1)) ≡ true
left_by n low other high = grind (arith, nat_tests)

-- ---- what the seat knows

module _ {K : Type 0} (k : KeeperOf K) where
  -- by what it knows of, and by what it passed on last
  abbrev book_by : ℕ → Served K → Served K → Book
  book_by n known last = record (book_at n (shown k known)) {
    strikes = risen (k.faults known.start.value) (failed_marks (entries_by n known.site.kept.history) + strikes_of last.strikes n);
  }

  abbrev book_with : Served K → ℕ → Book
  book_with desk strikes = book_of desk.site.kept (k.told desk.start.value) (k.told desk.keeper) strikes

  -- of a desk that was just opened
  pub first_book_is : (desk : Served K) → IsFresh (meanings k) desk → desk.start.value ≡ desk.keeper
      → book_in k (of_the_first MAX_SEATS desk) ≡ book_with desk (k.faults desk.keeper)
  first_book_is desk fresh start =
      let marks : failed_marks (entries_by seat desk.site.kept.history) ≡ 0 =
      ap (λ (es : List Entry). failed_marks (entries_by seat es)) fresh.no_entries in
      let strikes : strikes_of desk.strikes seat ≡ 0 = fresh.no_strikes seat in
      let none : failed_marks (entries_by seat desk.site.kept.history) + strikes_of desk.strikes seat ≡ 0 = omega arith in
      ap (λ (n : ℕ). book_with desk (risen (k.faults desk.start.value) n)) none ∙ ap (λ (z : K). book_with desk (k.faults z)) start

  pub first_idle : (seats : ℕ) (desk : Served K) → desk.site.kept.history ≡ [] → held (book_in k (of_the_first seats desk)) ≡ None
  first_idle seats desk none = ap (λ (es : List Entry). held_after None (own_from seat (opened desk.site.kept.opening) es)) none

  module _ (m : Memory (Served K)) (first desk : Served K) (numbers : numbers_of m ≡ all_numbers first)
      (agrees : Agrees (meanings k) m desk) where
    seats_are : m.seats ≡ MAX_SEATS
    seats_are = ap (λ (n : Numbers (Served K)). n.seats) numbers

    left_are : m.left ≡ MAX_SEATS - 1
    left_are = ap (λ (n : Numbers (Served K)). n.left) numbers

    number_is : m.number ≡ seat
    number_is = ap (λ (n : Numbers (Served K)). n.number) numbers

    same : (m.known ≡ desk) × (m.last ≡ desk)
    same = agrees.sole (omega (arith, seats_are, left_are))

    -- no other seat did anything
    others : (n : ℕ) → n ≢ seat → HasNothing (meanings k) n desk
    others zero other = agrees.outside zero (inl refl)
    others (suc n) other = here (nat_lt MAX_SEATS (suc n)) refl
      where
        here : (out : Bool) → nat_lt MAX_SEATS (suc n) ≡ out → HasNothing (meanings k) (suc n) desk
        here true is = agrees.outside (suc n) (inr (rw seats_are (grind (arith, nat_tests))))
        here false is =
            agrees.left (suc n) (subst (λ (numbers : Numbers (Served K)). IsTrue (is_left numbers (suc n))) (sym numbers)
            (left_by (suc n) (omega arith) other (grind (arith, nat_tests))))

    pub are_own : AreOwn desk.site.kept.history
    are_own = all_own desk.site.kept.history (λ n other. (others n other).0)

    -- so the keeper's faults are its own
    strikes_are : failed_marks (entries_by seat desk.site.kept.history) + strikes_of desk.strikes seat
        ≡ failed_marks desk.site.kept.history + sum desk.strikes
    strikes_are =
        let marks : failed_marks (entries_by seat desk.site.kept.history) ≡ failed_marks desk.site.kept.history =
        ap failed_marks (own_all desk.site.kept.history are_own) in
        let strikes : sum desk.strikes ≡ strikes_of desk.strikes seat =
        sum_first desk.strikes (λ n. (others (suc (suc n)) (omega arith)).1) in
        omega arith

    pub last_book_is : IsDesk (shown k desk) → book_in k m ≡ book_with desk (k.faults desk.keeper)
    last_book_is is_desk =
        ap (λ (n : ℕ). book_by n m.known m.last) number_is ∙ ap (λ (z : Served K). book_by seat z m.last) same.0
        ∙ ap (λ (z : Served K). book_by seat desk z) same.1
        ∙ ap (λ (n : ℕ). book_with desk (risen (k.faults desk.start.value) n)) strikes_are
        ∙ ap (λ (n : ℕ). book_with desk n) (sym is_desk.counted.is)
