-- What a turn at the desk keeps, and what it is to the lock.
use Rattle.std.proofs.Common.{◌≡◌, ◌≢◌, inl, inr, ℕ, ◌<◌, ◌≤◌, List, [], ◌∷◌, ◌++◌, length, length-append, Result, Err, refl, sym, ap, subst, ◌∙◌, append-nil, arith}
use Rattle.std.specs.Prelude.{Option, None, Some, IfOk, option_map, slice_get, Vec}
use Rattle.std.specs.declared.alloc.Global.{Global}
use Rattle.std.specs.declared.snapshot.Snapshot.{Snapshot}
use Rattle.std.specs.List.{All}
use Rattle.std.proofs.lemmas.List.Elements.{All-cons, All-nil}
use Rattle.nf_base.specs.declared.limits.TheConstants.{MAX_SEATS}
use Rattle.nf_base.specs.declared.content.Piece.{Piece}
use Rattle.nf_defs.specs.Prelude.{AreRising}
use Rattle.nf_keeper.specs.Keeping.{Counts, IsTold}
use Rattle.nf_keeper.specs.Views.{bytes_in}
use Rattle.nf_keeper.specs.declared.keeper.KeepFault.{KeepFault}
use Rattle.nf_keeper.specs.declared.keeper.KeepFault.TheVariants.{Failed}
use Rattle.nf_keeper.specs.declared.keeper.Keeper.{Ghosts as KeeperOf}
use Rattle.nf_laws.proofs.Counters.{counters_rise}
use Rattle.nf_laws.specs.Wholes.{Brings}
use Rattle.nf_session.proofs.Lasting.{tells_for, tells_refl, tells_then}
use Rattle.nf_session.specs.Book.{Answer, Lasts, TellsStill, held}
use Rattle.nf_site.specs.Held.{HasEntryRoom, HasRoom, Held}
use Rattle.nf_site.specs.Kept.{IsHistory, Kept}
use Rattle.nf_told.specs.Told.{Told}
use Rattle.nf_turn.specs.Book.{KeepsShelf}
use Rattle.nf_words.specs.Prelude.{IsSound, opened}
use Rattle.nf_words.specs.declared.answer.Goal.TheVariants.{Serve}
use Rattle.nf_words.specs.declared.history.Entry.{Entry}
use Rattle.nf_words.specs.declared.history.Event.{Event}
use Rattle.nf_words.specs.declared.history.Event.TheVariants.{Begin, End, Sweep}
use Rattle.nf_desk.specs.Desk.{IsCounted, IsDesk, Served, Shown, TakesTurn, blobs_in, book_at, first_blob_of, moved, next_of, shelf_of, shown, strikes_of, standing_in}
use Rattle.nf_desk.specs.Pieces.{Reads, StrikesBy}
use Rattle.nf_desk.specs.Stepping.{Standing, Starts, Steps, entry_at, standing}
use Rattle.nf_desk.proofs.Counting.{marks, strike}
use Rattle.nf_desk.proofs.Entering.{by_step, next_again, step_lasts, stepped, waits}
use Rattle.nf_desk.proofs.Giving.{HasStrikes, counted_on, read_goes, reads}
use Rattle.nf_desk.proofs.Tellings.{steps_still, steps_true}

-- ---- the blobs of the opening

-- a step drops none
since_start : (seat : ℕ) (a : Shown) (b : Standing) (now : ℕ) (event : Event) (body : List ℕ) (answer : Answer) → IsHistory a.site
    → IsSound a.site.state → (steps : Steps seat (standing_in a) b now event body answer)
    → TellsStill (0 < length a.site.history) (first_blob_of a.site.opening) (blobs_in a.start.told) (blobs_in a.told)
    → TellsStill (0 < length (stepped seat a b now event body answer steps).site.history) (first_blob_of a.site.opening)
    (blobs_in a.start.told) (blobs_in b.told)
since_start seat a b now event body answer h sound steps since =
    let some = length-append a.site.history (entry_at seat a.site now event steps.mark ∷ []) in
    tells_then (0 < length a.site.history) ⊥ _ (first_blob_of a.site.opening) a.site.state.tables.meta.next_blob
    (blobs_in a.start.told) (blobs_in a.told) (blobs_in b.told)
    (λ before. omega (arith, before, some)) (λ never. absurd never)
    (omega (arith, (counters_rise (opened a.site.opening) a.site.history).blobs, next_again a.site h)) since
    (steps_still seat (standing_in a) b now event body answer sound steps)

-- ---- a step

pub steps_desk : (seat : ℕ) (a : Shown) (b : Standing) (now : ℕ) (event : Event) (body : List ℕ) (answer : Answer) → IsHistory a.site
    → IsSound a.site.state → AreRising a.site.state.tables → Brings body event → Steps seat (standing_in a) b now event body answer
    → IsDesk a → IsDesk (moved a b)
steps_desk seat a b now event body answer h sound rising brings steps desk =
    let true_of =
    steps_true (blobs_in a.start.told) seat (standing_in a) b now event body answer sound rising brings steps desk.fit desk.told in
    by_step seat a b now event body answer steps IsDesk
    (record {
      unbroken = desk.unbroken;
      fit = true_of.fit;
      told = true_of.told;
      since = since_start seat a b now event body answer h sound steps desk.since;
      seats = desk.seats;
      counted = (marks seat a (entry_at seat a.site now event steps.mark) b.told b.faults desk.counted refl steps.faults steps.rises).1.counted;
    })

pub starts_desk : (seat : ℕ) (a : Shown) (b : Standing) (now : ℕ) (event : Event) (answer : Answer) → Brings [] event → IsHistory a.site
    → IsSound a.site.state → AreRising a.site.state.tables → Starts seat (standing_in a) b now event answer → IsDesk a → IsDesk (moved a b)
starts_desk seat a b now event answer brings h sound rising (inl steps) desk = steps_desk seat a b now event [] answer h sound rising brings steps desk
starts_desk seat a b now event answer brings h sound rising (inr none) desk = subst (λ (z : Standing). IsDesk (moved a z)) (sym none.same) desk

-- what has room for two entries more has room for any event's
pub any_room : (site : Held) (event : Event) → HasRoom site → HasEntryRoom site event
any_room site (Begin words request) room = room
any_room site (End outcome) room = tt
any_room site Sweep room = room

-- ---- reading

abbrev pub IsSeatNumber : ℕ → Type 0
IsSeatNumber seat = (0 < seat) × (seat ≤ MAX_SEATS)

pub has_strikes : (seat : ℕ) (a : Shown) → IsSeatNumber seat → IsDesk a → HasStrikes seat a
has_strikes seat a is desk = (is.0, omega (arith, is.1, desk.seats))

-- what a call of the keeper does to the strikes of the seats
pub record StrikesAlone (seat : ℕ) (strikes more : List ℕ) : Type 0 where
  pub seats : length more ≡ length strikes
  pub rises : strikes_of strikes seat ≤ strikes_of more seat
  pub others : (m : ℕ) → m ≢ seat → strikes_of more m ≡ strikes_of strikes m

pub strikes_stay : (seat : ℕ) (strikes more : List ℕ) → more ≡ strikes → StrikesAlone seat strikes more
strikes_stay seat strikes more same = record {
  seats = ap (λ (z : List ℕ). length z) same;
  rises = let is : strikes_of more seat ≡ strikes_of strikes seat = ap (λ (z : List ℕ). strikes_of z seat) same in omega (arith, is);
  others = λ m differ. ap (λ (z : List ℕ). strikes_of z m) same;
}

pub strikes_alone : (seat : ℕ) (strikes more : List ℕ) (result : Result (Option (Vec ℕ Global)) KeepFault) → 0 < seat → seat ≤ length strikes
    → StrikesBy seat strikes more result → StrikesAlone seat strikes more
strikes_alone seat strikes more (Err Failed) some within by =
    let struck = strike seat strikes more some within by in record { seats = struck.seats; rises = by.rises; others = struck.others }
strikes_alone seat strikes more other some within by = strikes_stay seat strikes more by

pub read_desk : (seat : ℕ) (a : Shown) (faults : ℕ) (strikes : List ℕ) (result : Result (Option (Vec ℕ Global)) KeepFault)
    → IsSeatNumber seat → Counts a.faults faults result → StrikesBy seat a.strikes strikes result → IsDesk a
    → IsDesk (counted_on a faults strikes)
read_desk seat a faults strikes result is counts by desk =
    let has = has_strikes seat a is desk in record {
      unbroken = desk.unbroken;
      fit = desk.fit;
      told = desk.told;
      since = desk.since;
      seats = (strikes_alone seat a.strikes strikes result has.0 has.1 by).seats ∙ desk.seats;
      counted = (read_goes seat a faults strikes result has desk.counted counts by).counted;
    }

-- ---- a turn

stays : (seat : ℕ) (a : Shown) → Lasts (book_at seat a) (book_at seat a)
stays seat a =
    (waits seat a.site a.site (blobs_in a.start.told) a.told a.told (book_at seat a).strikes (book_at seat a).strikes refl refl
    (omega arith)).lasts

-- what stood on the shelf stands there still, or was dropped by an entry more
shelf_kept : (x y : Kept) (old new : Option Told) → next_of x ≤ next_of y → length x.history ≤ length y.history
    → TellsStill (length x.history < length y.history) (next_of x) (blobs_in old) (blobs_in new)
    → KeepsShelf (option_map (shelf_of x) old) (option_map (shelf_of y) new)
shelf_kept x y None None next more still = tt
shelf_kept x y None (Some new) next more still = absurd (cc)
shelf_kept x y (Some old) None next more still = absurd still
shelf_kept x y (Some old) (Some new) next more still = (next, more, still)

-- what a desk holds, of its fields
abbrev pub served : {K : Type 0} → Held → K → List ℕ → Snapshot K → Served K
served site keeper strikes start = record { site = site; keeper = keeper; strikes = strikes; start = start }

module _ {K : Type 0} (k : KeeperOf K) (seat : ℕ) (old : Served K) where
  pub turn_of : (new : Served K) (added : List Entry) → IsHistory old.site.kept → IsHistory new.site.kept
      → new.site.kept.history ≡ old.site.kept.history ++ added → All (λ (e : Entry). e.seat ≡ seat) added
      → StrikesAlone seat old.strikes new.strikes → new.start ≡ old.start
      → new.site.kept.opening ≡ old.site.kept.opening → next_of old.site.kept ≤ next_of new.site.kept
      → TellsStill (length old.site.kept.history < length new.site.kept.history) (next_of old.site.kept)
      (blobs_in (k.told old.keeper)) (blobs_in (k.told new.keeper)) → TakesTurn k seat old new
  turn_of new added before after entries alone strikes start rows next still = record {
    alone = record {
      added = added;
      entries = entries;
      alone = alone;
      others = strikes.others;
      strikes = strikes.rises;
      keeps = record {
        opening = λ i. (rows i, start i);
        shelf = shelf_kept old.site.kept new.site.kept (k.told old.keeper) (k.told new.keeper) next
            (omega (arith, ap length entries, length-append old.site.kept.history added)) still;
      };
    };
    before = before;
    after = after;
  }

  -- where no bytes go
  takes_turn : (new : Served K) (added : List Entry) → IsHistory old.site.kept → IsHistory new.site.kept
      → new.site.kept.history ≡ old.site.kept.history ++ added → All (λ (e : Entry). e.seat ≡ seat) added
      → StrikesAlone seat old.strikes new.strikes → new.start ≡ old.start
      → Lasts (book_at seat (shown k old)) (book_at seat (shown k new))
      → TellsStill ⊥ (next_of old.site.kept) (blobs_in (k.told old.keeper)) (blobs_in (k.told new.keeper)) → TakesTurn k seat old new
  takes_turn new added before after entries alone strikes start lasts still =
      turn_of new added before after entries alone strikes start lasts.opening lasts.next_blob
      (tells_for ⊥ _ (next_of old.site.kept) (blobs_in (k.told old.keeper)) (blobs_in (k.told new.keeper)) (λ never. absurd never) still)

  -- the desk after a step
  abbrev pub serving : Held → K → Served K
  serving site keeper = record old { site = site; keeper = keeper }

  abbrev pub standing_by : Held → K → Standing
  standing_by site keeper = standing site.kept (k.told keeper) (k.faults keeper)

  pub steps_turn : (site : Held) (keeper : K) (now : ℕ) (event : Event) (body : List ℕ) (answer : Answer) → IsHistory old.site.kept
      → IsHistory site.kept → IsSound old.site.kept.state → IsCounted (shown k old)
      → Steps seat (standing_by old.site old.keeper) (standing_by site keeper) now event body answer → TakesTurn k seat old (serving site keeper)
  steps_turn site keeper now event body answer before after sound counted steps =
      takes_turn (serving site keeper) (entry_at seat old.site.kept now event steps.mark ∷ []) before after
      (ap (λ (z : Kept). z.history) steps.makes.site)
      (All-cons (λ (e : Entry). e.seat ≡ seat) _ [] refl (All-nil (λ (e : Entry). e.seat ≡ seat)))
      (strikes_stay seat old.strikes old.strikes refl) refl
      (by_step seat (shown k old) (standing_by site keeper) now event body answer steps
      (λ (c : Shown). Lasts (book_at seat (shown k old)) (book_at seat c))
      (step_lasts seat (shown k old) (standing_by site keeper) now event body answer steps before sound counted))
      (subst (λ (n : ℕ). TellsStill ⊥ n (blobs_in (k.told old.keeper)) (blobs_in (k.told keeper))) (sym (next_again old.site.kept before))
      (steps_still seat (standing_by old.site old.keeper) (standing_by site keeper) now event body answer sound steps))

  pub starts_turn : (site : Held) (keeper : K) (now : ℕ) (event : Event) (answer : Answer) → IsHistory old.site.kept
      → IsHistory site.kept → IsSound old.site.kept.state → IsCounted (shown k old)
      → Starts seat (standing_by old.site old.keeper) (standing_by site keeper) now event answer → TakesTurn k seat old (serving site keeper)
  starts_turn site keeper now event answer before after sound counted (inl steps) =
      steps_turn site keeper now event [] answer before after sound counted steps
  starts_turn site keeper now event answer before after sound counted (inr none) =
      takes_turn (serving site keeper) [] before after
      (ap (λ (z : Standing). z.site.history) none.same ∙ sym (append-nil old.site.kept.history)) (All-nil (λ (e : Entry). e.seat ≡ seat))
      (strikes_stay seat old.strikes old.strikes refl) refl
      (subst (λ (z : Standing). Lasts (book_at seat (shown k old)) (book_at seat (moved (shown k old) z))) (sym none.same)
      (stays seat (shown k old)))
      (subst (λ (z : Standing). TellsStill ⊥ (next_of old.site.kept) (blobs_in (k.told old.keeper)) (blobs_in z.told)) (sym none.same)
      (tells_refl ⊥ (next_of old.site.kept) (blobs_in (k.told old.keeper))))

  -- the desk after a piece was read, or not
  abbrev pub having_read : K → List ℕ → Served K
  having_read keeper strikes = record old { keeper = keeper; strikes = strikes }

  pub reads_turn : (keeper : K) (strikes : List ℕ) (content : List Piece) (index : ℕ) (piece : Piece)
      (result : Result (Option (Vec ℕ Global)) KeepFault)
      → IsSeatNumber seat → IsHistory old.site.kept → IsSound old.site.kept.state → IsDesk (shown k old)
      → held (book_at seat (shown k old)) ≡ Some (Serve content) → slice_get content index ≡ Some piece → k.told keeper ≡ k.told old.keeper
      → IfOk result (λ bytes. IsTold (k.told old.keeper) piece.blob (bytes_in bytes)) → Counts (k.faults old.keeper) (k.faults keeper) result
      → StrikesBy seat old.strikes strikes result
      → Reads seat (shown k old) (shown k (having_read keeper strikes)) content index result × TakesTurn k seat old (having_read keeper strikes)
  reads_turn keeper strikes content index piece result is h sound desk holds at same told counts by =
      let has = has_strikes seat (shown k old) is desk in
      let read = subst (λ (o : Option Told). Reads seat (shown k old) (record (counted_on (shown k old) (k.faults keeper) strikes) { told = o }) content index result)
      (sym same)
      (reads seat (shown k old) (k.faults keeper) strikes content index piece result has h sound desk holds at told counts by) in (
        read,
        takes_turn (having_read keeper strikes) [] h h (sym (append-nil old.site.kept.history)) (All-nil (λ (e : Entry). e.seat ≡ seat))
            (strikes_alone seat old.strikes strikes result has.0 has.1 by) refl read.waits.lasts
            (subst (λ (o : Option Told). TellsStill ⊥ (next_of old.site.kept) (blobs_in (k.told old.keeper)) (blobs_in o)) (sym same)
            (tells_refl ⊥ (next_of old.site.kept) (blobs_in (k.told old.keeper)))),
      )
