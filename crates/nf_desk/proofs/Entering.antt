-- What a seat knows, and how it goes on by an entry of its own.
use Rattle.std.proofs.Common.{◌≡◌, ℕ, ◌≤◌, max, List, [], ◌∷◌, ◌++◌, length, refl, sym, ap, subst, ◌∙◌, append-nil, arith, length-append}
use Rattle.std.specs.Prelude.{Option, None, Some, IfSome}
use Rattle.std.proofs.lemmas.Bool.{eq-eqb}
use Rattle.nf_defs.specs.Prelude.{AreRising, Blobs}
use Rattle.nf_laws.proofs.Counters.{after_up}
use Rattle.nf_laws.specs.Wholes.{Brings}
use Rattle.nf_session.proofs.Books.{own_grows}
use Rattle.nf_session.proofs.Lasting.{tells_for, tells_refl}
use Rattle.nf_session.specs.Book.{Answer, Book, Enters, Lasts, OthersCame, Strikes, TellsRows, TellsStill, Waits, next_blob_of, own_from}
use Rattle.nf_site.specs.Kept.{Kept, IsHistory, entered}
use Rattle.nf_told.specs.Told.{AreFit, Told, told_of}
use Rattle.nf_words.proofs.Histories.{replay_more}
use Rattle.nf_words.specs.Prelude.{after, answer_at, IsSound, MayCome, opened, replay, State}
use Rattle.nf_words.specs.declared.history.Entry.{Entry}
use Rattle.nf_words.specs.declared.history.Event.{Event}
use Rattle.nf_desk.specs.Desk.{IsCounted, IsDesk, Shown, blobs_in, book_at, moved, rows_in, standing_in}
use Rattle.nf_desk.specs.Stepping.{Standing, Steps, entry_at, standing}
use Rattle.nf_desk.proofs.Counting.{marks}
use Rattle.nf_desk.proofs.Tellings.{IsTrueOf, steps_still, steps_true}

-- what a seat knows whose store failed it so often
abbrev pub book_with : ℕ → Kept → Option Blobs → Option Told → ℕ → Book
book_with seat k start told strikes = record {
  opening = k.opening;
  seat = seat;
  known = k.history;
  own = own_from seat (opened k.opening) k.history;
  strikes = strikes;
  start = start;
  told = blobs_in told;
  rows = rows_in told;
}

-- ---- the state that the seat knows

pub state_again : (k : Kept) → IsHistory k → replay (opened k.opening) (k.history ++ []) ≡ k.state
state_again k h = ap (replay (opened k.opening)) (append-nil k.history) ∙ sym h.replayed

pub next_again : (k : Kept) → IsHistory k → (replay (opened k.opening) k.history).tables.meta.next_blob ≡ k.state.tables.meta.next_blob
next_again k h = ap (λ (s : State). s.tables.meta.next_blob) (sym h.replayed)

next_more : (k : Kept) (e : Entry) → IsHistory k
    → (replay (opened k.opening) (k.history ++ e ∷ [])).tables.meta.next_blob ≡ (after k.state e).tables.meta.next_blob
next_more k e h =
    ap (λ (s : State). s.tables.meta.next_blob) (replay_more (opened k.opening) k.history e)
    ∙ ap (λ (s : State). (after s e).tables.meta.next_blob) (sym h.replayed)

-- ---- no entry is made

pub waits : (seat : ℕ) (k l : Kept) (start : Option Blobs) (told now : Option Told) (strikes more : ℕ) → l ≡ k → now ≡ told → strikes ≤ more
    → Waits (book_with seat k start told strikes) (book_with seat l start now more)
waits seat k l start told now strikes more site same rises =
    let before = book_with seat k start told strikes in
    subst (λ (z : Kept). Waits before (book_with seat z start now more)) (sym site)
    (subst (λ (o : Option Told). Waits before (book_with seat k start o more)) (sym same)
    (record {
      lasts = record {
        opening = refl;
        seat = refl;
        strikes = rises;
        next_blob = omega arith;
        entries = omega arith;
        start = refl;
        told = tells_refl (OthersCame before (book_with seat k start told more)) (next_blob_of before) (blobs_in told);
      };
      own = refl;
      known = ([], sym (append-nil k.history));
    }))

-- ---- an entry more

pub own_more : (seat : ℕ) (s : State) (es : List Entry) (e : Entry) → e.seat ≡ seat
    → own_from seat s (es ++ e ∷ []) ≡ own_from seat s es ++ (e, answer_at (replay s es) e e.mark) ∷ []
own_more seat s es e is = simp (eq-eqb e.seat seat is) at (own_grows seat s es e)

pub lasts : (seat : ℕ) (k : Kept) (e : Entry) (start : Option Blobs) (told now : Option Told) (strikes more : ℕ) → IsHistory k
    → e.seat ≡ seat
    → TellsStill ⊥ k.state.tables.meta.next_blob (blobs_in told) (blobs_in now) → strikes ≤ more
    → Lasts (book_with seat k start told strikes) (book_with seat (entered k e) start now more)
lasts seat k e start told now strikes more h its still rises =
    let next = next_again k h in
    let came = OthersCame (book_with seat k start told strikes) (book_with seat (entered k e) start now more) in
    let own = own_from seat (opened k.opening) k.history in
    let x : Entry × Answer = (e, answer_at (replay (opened k.opening) k.history) e e.mark) in
    let one = ap length (own_more seat (opened k.opening) k.history e its) in
    record {
      opening = refl;
      seat = refl;
      strikes = rises;
      next_blob = omega (arith, next, next_more k e h, (after_up k.state e e.mark).blobs);
      entries = omega (arith, one, length-append own (x ∷ []), length-append k.history (e ∷ []));
      start = refl;
      told = subst (λ (n : ℕ). TellsStill came n (blobs_in told) (blobs_in now)) (sym next)
          (tells_for ⊥ came k.state.tables.meta.next_blob (blobs_in told) (blobs_in now) (λ never. absurd never) still);
    }

-- what is told of a site that is the replay of its history are the rows that a seat knows then
pub rows_told : (seat : ℕ) (k : Kept) (start : Option Blobs) (told : Option Told) (strikes : ℕ) → k.state ≡ replay (opened k.opening) k.history
    → IsTrueOf start k told → IfSome (blobs_in told) (λ _. TellsRows (book_with seat k start told strikes))
rows_told seat k start None strikes replayed true_of = tt
rows_told seat k start (Some told) strikes replayed true_of = record {
  are = ap Some (true_of.told.rows ∙ ap (λ (s : State). told_of s.tables) replayed);
  fit = subst (λ (s : State). AreFit s.tables) replayed true_of.fit;
}

unfoldable pub enters : (seat : ℕ) (k : Kept) (e : Entry) (start : Option Blobs) (told later : Option Told) (strikes more now : ℕ)
    (event : Event) (answer : Answer)
    → IsHistory k → MayCome (length k.history) k.state e → e.seat ≡ seat → e.event ≡ event
    → e.moment ≡ max k.state.seen now → answer ≡ answer_at k.state e e.mark
    → TellsStill ⊥ k.state.tables.meta.next_blob (blobs_in told) (blobs_in later) → strikes ≤ more → Strikes e.mark strikes more
    → IsTrueOf start (entered k e) later
    → Enters (book_with seat k start told strikes) (book_with seat (entered k e) start later more) now event answer
enters seat k e start told later strikes more now event answer h may its is_event moment answers still rises struck true_of =
    let same = state_again k h in
    record {
      lasts = lasts seat k e start told later strikes more h its still rises;
      others = [];
      entry = e;
      own = own_more seat (opened k.opening) k.history e its
          ∙ ap (λ (x : Answer). own_from seat (opened k.opening) k.history ++ (e, x) ∷ [])
          (ap (λ (s : State). answer_at s e e.mark) (sym h.replayed) ∙ sym answers);
      known = ap (λ (es : List Entry). es ++ e ∷ []) (sym (append-nil k.history));
      seat_is = its;
      event_is = is_event;
      moment_is = moment ∙ ap (λ (s : State). max s.seen now) (sym same);
      answer_is = answers ∙ ap (λ (s : State). answer_at s e e.mark) (sym same);
      strikes = struck;
      may_come = subst (λ (es : List Entry). MayCome (length es) (replay (opened k.opening) (k.history ++ [])) e) (sym (append-nil k.history))
          (subst (λ (s : State). MayCome (length k.history) s e) (sym same) may);
      rows = rows_told seat (entered k e) start later more
          (ap (λ (s : State). after s e) h.replayed ∙ sym (replay_more (opened k.opening) k.history e)) true_of;
    }

module _ (seat : ℕ) (a : Shown) (b : Standing) (now : ℕ) (event : Event) (body : List ℕ) (answer : Answer)
    (steps : Steps seat (standing_in a) b now event body answer) where
  -- the desk after the entry of the step
  abbrev pub stepped : Shown
  stepped = moved a (standing (entered a.site (entry_at seat a.site now event steps.mark)) b.told b.faults)

  -- and that is the desk after the step
  pub by_step : (P : Shown → Type 0) → P stepped → P (moved a b)
  by_step P = subst (λ (k : Kept). P (moved a (standing k b.told b.faults))) (sym steps.makes.site)

  -- a step of the seat is an entry of its own
  pub step_lasts : IsHistory a.site → IsSound a.site.state → IsCounted a → Lasts (book_at seat a) (book_at seat stepped)
  step_lasts h sound counted =
      let e = entry_at seat a.site now event steps.mark in
      lasts seat a.site e (blobs_in a.start.told) a.told b.told (book_at seat a).strikes (book_at seat stepped).strikes h refl
      (steps_still seat (standing_in a) b now event body answer sound steps)
      (marks seat a e b.told b.faults counted refl steps.faults steps.rises).1.rises

  unfoldable pub step_enters : IsHistory a.site → IsSound a.site.state → AreRising a.site.state.tables → Brings body event → IsDesk a
      → Enters (book_at seat a) (book_at seat stepped) now event answer
  unfolding enters
  step_enters h sound rising brings desk =
      let e = entry_at seat a.site now event steps.mark in
      let is = marks seat a e b.told b.faults desk.counted refl steps.faults steps.rises in
      enters seat a.site e (blobs_in a.start.told) a.told b.told (book_at seat a).strikes (book_at seat stepped).strikes now event answer h
      steps.makes.may_come refl refl refl steps.makes.answered (steps_still seat (standing_in a) b now event body answer sound steps) is.1.rises is.0
      (steps_true (blobs_in a.start.told) seat (standing_in a) b now event body answer sound rising brings steps desk.fit desk.told)

  pub steps_enter : IsHistory a.site → IsSound a.site.state → AreRising a.site.state.tables → Brings body event → IsDesk a
      → Enters (book_at seat a) (book_at seat (moved a b)) now event answer
  steps_enter h sound rising brings desk =
      by_step (λ (c : Shown). Enters (book_at seat a) (book_at seat c) now event answer) (step_enters h sound rising brings desk)
