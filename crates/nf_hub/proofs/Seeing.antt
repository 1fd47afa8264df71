-- What a seat knows of a desk that it takes: others may have come, and nothing was done under its number.
use Rattle.std.proofs.Common.{◌≡◌, ℕ, ◌+◌, ◌<◌, ◌≤◌, List, [], ◌++◌, length, length-append, refl, ap, ◌∙◌, arith}
use Rattle.std.specs.Prelude.{Option, None, Some, option_map}
use Rattle.std.specs.declared.snapshot.Snapshot.{Snapshot}
use Rattle.nf_base.specs.declared.rows.Row.{Row}
use Rattle.nf_desk.specs.Desk.{Served, blobs_in, book_at, entries_by, failed_marks, meanings, next_of, risen, shelf_of, shown}
use Rattle.nf_keeper.specs.declared.keeper.Keeper.{Ghosts as KeeperOf}
use Rattle.nf_laws.proofs.Counters.{counters_go_on}
use Rattle.nf_session.proofs.Lasting.{tells_for}
use Rattle.nf_session.specs.Book.{Passes, TellsStill, held, held_after, next_blob_of, own_from}
use Rattle.nf_site.specs.Kept.{Kept}
use Rattle.nf_told.specs.Told.{Told}
use Rattle.nf_turn.specs.Prelude.{Agrees, Grows, KeepsShelf}
use Rattle.nf_turn.specs.declared.view.Memory.{Memory}
use Rattle.nf_turn.proofs.Growing.{entries_of-more}
use Rattle.nf_words.specs.Prelude.{opened, replay, State}
use Rattle.nf_hub.specs.Seats.{book_in}
use Rattle.nf_hub.proofs.Owning.{own_stays}

-- a shelf that keeps what is on it tells still, but for what was dropped by some entry
keeps_tells : (old new : Option Told) (x y : Kept) → KeepsShelf (option_map (shelf_of x) old) (option_map (shelf_of y) new)
    → TellsStill (length x.history < length y.history) (next_of x) (blobs_in old) (blobs_in new)
keeps_tells None None x y keeps = refl
keeps_tells None (Some new) x y keeps = absurd keeps
keeps_tells (Some old) None x y keeps = absurd keeps
keeps_tells (Some old) (Some new) x y keeps = keeps.2

module _ {K : Type 0} (k : KeeperOf K) (n : ℕ) (x y : Served K) (grows : Grows (meanings k) x y) (none : entries_by n grows.added ≡ []) where
  rows_stay : y.site.kept.opening ≡ x.site.kept.opening
  rows_stay = ap (λ (o : List Row × Snapshot K). o.0) grows.keeps.opening

  -- the seat's own entries and answers stay
  pub own_kept : (book_at n (shown k y)).own ≡ (book_at n (shown k x)).own
  own_kept =
      (λ i. own_from n (opened (rows_stay i)) (grows.entries i))
      ∙ own_stays n (opened x.site.kept.opening) x.site.kept.history grows.added none

  pub held_kept : held (book_at n (shown k y)) ≡ held (book_at n (shown k x))
  held_kept = ap (held_after None) own_kept

  entries_kept : entries_by n y.site.kept.history ≡ entries_by n x.site.kept.history
  entries_kept =
      ap (entries_by n) grows.entries ∙ entries_of-more (meanings k) n x.site.kept.history grows.added none

  next_up : next_blob_of (book_at n (shown k x)) ≤ next_blob_of (book_at n (shown k y))
  next_up =
      let same : replay (opened y.site.kept.opening) y.site.kept.history ≡ replay (opened x.site.kept.opening) (x.site.kept.history ++ grows.added) =
      (λ i. replay (opened (rows_stay i)) (grows.entries i)) in
      omega (arith, (counters_go_on (opened x.site.kept.opening) x.site.kept.history grows.added).blobs, ap (λ (s : State). s.tables.meta.next_blob) same)

module _ {K : Type 0} (k : KeeperOf K) (m : Memory (Served K)) (a : Served K) (agrees : Agrees (meanings k) m a) where
  strikes_same : (book_at m.number (shown k a)).strikes ≡ (book_in k m).strikes
  strikes_same =
      let start = ap (λ (o : List Row × Snapshot K). o.1) agrees.known.keeps.opening in
      let entries = entries_kept k m.number m.known a agrees.known agrees.others in
      let struck = agrees.strikes in
      (λ i. risen (k.faults (start i).value) (failed_marks (entries i) + struck i))

  pub sees : Passes (book_in k m) (book_at m.number (shown k a))
  sees = record {
    waits = record {
      lasts = record {
        opening = rows_stay k m.number m.known a agrees.known agrees.others;
        seat = refl;
        strikes = omega (arith, strikes_same);
        next_blob = next_up k m.number m.known a agrees.known agrees.others;
        entries = omega (arith, own, ap length agrees.known.entries, length-append m.known.site.kept.history agrees.known.added);
        start = ap (λ (o : List Row × Snapshot K). blobs_in (k.told o.1.value)) agrees.known.keeps.opening;
        told = tells_for (length m.known.site.kept.history < length a.site.kept.history) _ (next_of m.known.site.kept)
            (blobs_in (k.told m.known.keeper)) (blobs_in (k.told a.keeper)) (λ grew. omega (arith, grew, own))
            (keeps_tells (k.told m.known.keeper) (k.told a.keeper) m.known.site.kept a.site.kept agrees.known.keeps.shelf);
      };
      own = own_kept k m.number m.known a agrees.known agrees.others;
      known = (agrees.known.added, agrees.known.entries);
    };
    unstruck = strikes_same;
  }
    where
      own : length (book_at m.number (shown k a)).own ≡ length (book_in k m).own
      own = ap length (own_kept k m.number m.known a agrees.known agrees.others)

  -- what the seat holds
  pub held_seen : held (book_at m.number (shown k a)) ≡ held (book_in k m)
  held_seen = held_kept k m.number m.known a agrees.known agrees.others
