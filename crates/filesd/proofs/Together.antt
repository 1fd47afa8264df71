-- The sessions of a run of `serve` stand in the history of the site that it hands out, and no other entry does.
use Rattle.std.proofs.Common.{◌≡◌, ◌⊎◌, ⊎_elim, ℕ, zero, suc, ◌+◌, ◌-◌, ◌<◌, ◌≤◌, List, [], ◌∷◌, refl, sym, ◌∙◌, ap, subst, inl, inr, arith, length}
use Rattle.std.proofs.lemmas.Bool.{cases_lt}
use Rattle.std.proofs.lemmas.List.Elements.{All-cons, All-nil}
use Rattle.std.specs.List.{All}
use Rattle.std.specs.declared.snapshot.Snapshot.{Snapshot}
use Rattle.nf_base.specs.declared.limits.TheConstants.{MAX_SEATS}
use Rattle.nf_base.specs.declared.rows.Row.{Row}
use Rattle.nf_desk.specs.Desk.{Served, entries_by, meanings}
use Rattle.nf_keeper.specs.declared.keeper.Keeper.{Ghosts as KeeperOf}
use Rattle.nf_outside.specs.Lent.{Lent, Taken}
use Rattle.nf_outside.specs.declared.traits.Ends.{Ghosts as EndsOf}
use Rattle.nf_server.proofs.Spanning.{Numbered, work_numbers, work_spans}
use Rattle.nf_server.proofs.Together.{all_stand, full_long}
use Rattle.nf_server.specs.declared.door.Door.{Ghosts as DoorOf}
use Rattle.nf_server.specs.declared.workers.Worked.{Worked}
use Rattle.nf_server.specs.declared.workers.Worked.TheVariants as worked
use Rattle.nf_site.specs.Held.{Held}
use Rattle.nf_turn.proofs.Left.{left_tests}
use Rattle.nf_turn.specs.Prelude.{Agrees, IsFresh, numbers_of, of_the_first}
use Rattle.nf_turn.specs.declared.view.Memory.{Memory}
use Rattle.nf_words.specs.Prelude.{IsLegal, opened, replay, State}
use Rattle.nf_words.specs.declared.history.Entry.{Entry}
use Rattle.filesd.specs.Doors.{status_of_work}
use Rattle.filesd.specs.Together.{IsOfSeats, ShareOneHistory}
use Rattle.filesd.specs.declared.status.Status.TheVariants as exit
use Rattle.filesd.proofs.Safe.{opening_same}
use Rattle.filesd.proofs.Sole.{its_entry, none_behind}

-- ---- whose entries there are

-- where no seat below the first of these numbers, or behind the last, has an entry, all are of these seats
all_of : (first count : ℕ) (es : List Entry) → ((n : ℕ) → (n < first) ⊎ (first + count ≤ n) → entries_by n es ≡ []) → All (IsOfSeats first count) es
all_of first count [] none = All-nil (IsOfSeats first count)
all_of first count (e ∷ es) none =
    All-cons (IsOfSeats first count) e es (low, high) (all_of first count es (λ n out. none_behind n e es (none n out)))
  where
    low : first ≤ e.seat
    low = ⊎_elim (λ (below : e.seat < first). absurd (its_entry e es (none e.seat (inl below)))) (λ (up : first ≤ e.seat). up) (cases_lt e.seat first)

    high : e.seat < first + count
    high = ⊎_elim (λ (below : e.seat < first + count). below) (λ (up : first + count ≤ e.seat). absurd (its_entry e es (none e.seat (inr up))))
        (cases_lt e.seat (first + count))

module _ {K : Type 0} (k : KeeperOf K) (m : Memory (Served K)) (first last : Served K) (count : ℕ) (few : count < MAX_SEATS)
    (fresh : IsFresh (meanings k) first) (seats : m.seats ≡ MAX_SEATS) (numbered : Numbered (of_the_first MAX_SEATS first) m count)
    (agrees : Agrees (meanings k) m last) where
  abbrev HasNone : ℕ → Type 0
  HasNone n = entries_by n last.site.kept.history ≡ []

  left_is : m.left + count ≡ MAX_SEATS - 1
  left_is = numbered.left

  none_left : (n : ℕ) → 2 + count ≤ n → n ≤ MAX_SEATS → HasNone n
  none_left n low up =
      let next : m.next ≡ 2 + count = numbered.next (omega (arith, left_is, low, up)) in
      (agrees.left n (left_tests (numbers_of m) n (omega (arith, next, low), omega (arith, next, left_is, up)))).0

  -- the first seat made no entry
  none_first : HasNone 1
  none_first =
      subst (λ (n : ℕ). HasNone n) numbered.number
      (agrees.own ∙ ap (λ (x : Served K). entries_by m.number x.site.kept.history) numbered.last ∙ ap (entries_by m.number) fresh.no_entries)

  none_else : (n : ℕ) → (n < 2) ⊎ (2 + count ≤ n) → HasNone n
  none_else zero out = (agrees.outside zero (inl refl)).0
  none_else (suc zero) out = none_first
  none_else (suc (suc n)) out = ⊎_elim
      (λ (above : MAX_SEATS < suc (suc n)). (agrees.outside (suc (suc n)) (inr (omega (arith, above, seats)))).0)
      (λ (within : suc (suc n) ≤ MAX_SEATS). none_left (suc (suc n)) (behind out) within)
      (cases_lt MAX_SEATS (suc (suc n)))
    where
      behind : (suc (suc n) < 2) ⊎ (2 + count ≤ suc (suc n)) → 2 + count ≤ suc (suc n)
      behind (inl below) = absurd (omega (arith, below))
      behind (inr up) = up

  pub whose_are : All (IsOfSeats 2 count) last.site.kept.history
  whose_are = all_of 2 count last.site.kept.history none_else

-- ---- all

was_full : (result : Worked) → status_of_work result ≡ exit.RunFull → result ≡ worked.RunFull
was_full worked.RunFull is = refl
was_full worked.All is = absurd (cc)
was_full worked.DoorFault is = absurd (cc)
was_full worked.Memory is = absurd (cc)

module _ {K I A C Q D : Type 0} (k : KeeperOf K) (i : EndsOf I) (a : EndsOf A) (reads : Lent C Q → Taken → Lent C Q → Type 0) (door : DoorOf D I A) where
  pub share_one : ShareOneHistory k i a reads door
  share_one connections keeper left before after status site runs served few =
      let desk = served.closes.desk in
      let same : site ≡ desk.site = served.closes.site_is in
      let rows : runs.desk.site.kept.opening ≡ site.kept.opening =
      sym (ap (λ (o : List Row × Snapshot K). o.0) (opening_same k i a reads door connections keeper left before after status site runs served))
      ∙ ap (λ (h : Held). h.kept.opening) (sym same) in
      let legal : IsLegal (opened site.kept.opening) site.kept.history =
      subst (λ (h : Held). IsLegal (opened h.kept.opening) h.kept.history) (sym same) served.closes.history.legal in
      let none : (replay (opened site.kept.opening) site.kept.history).tickets ≡ [] =
      subst (λ (h : Held). (replay (opened h.kept.opening) h.kept.history).tickets ≡ []) (sym same)
      (ap (λ (s : State). s.tickets) (sym served.closes.history.replayed) ∙ served.closes.idle) in
      let history = ap (λ (h : Held). h.kept.history) same in
      let all = all_stand k i a reads door connections site.kept.opening site.kept.history legal none runs.desk served.memory.known desk runs.fresh rows
      (served.closes.agrees.known.added, history ∙ served.closes.agrees.known.entries) (sym history) 2 (of_the_first MAX_SEATS runs.desk) served.memory
      before after served.result served.work refl refl refl served.heard.heard served.closes.agrees.joined in
      record {
        stand = all;
        whose = subst (λ (h : Held). All (IsOfSeats 2 (length before)) h.kept.history) (sym same)
            (whose_are k served.memory runs.desk desk (length before) few runs.fresh
            (work_spans k i a reads door connections (of_the_first MAX_SEATS runs.desk) served.memory before after served.result served.work).seats
            (work_numbers k i a reads door connections (of_the_first MAX_SEATS runs.desk)
            served.memory before after served.result served.work (omega (arith, few)))
            served.closes.agrees);
        full = λ is. full_long k i a reads door connections site.kept.opening site.kept.history 2 (of_the_first MAX_SEATS runs.desk) served.memory before after
            served.result served.work all (was_full served.result (sym served.status_is ∙ is));
      }
