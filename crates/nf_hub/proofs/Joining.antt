-- What is known of a seat that is split off, and of one that another was joined into.
use Rattle.std.proofs.Common.{◌≡◌, ℕ, List, [], ◌∷◌, ◌++◌, length, refl, sym, ap, ◌∙◌}
use Rattle.std.specs.Prelude.{Bool, true, false, None, nat_lt, is_none, if◌then◌else◌}
use Rattle.std.specs.declared.snapshot.Snapshot.{Snapshot}
use Rattle.nf_base.specs.declared.rows.Row.{Row}
use Rattle.nf_desk.specs.Desk.{Served, book_at, meanings, shown, entries_by}
use Rattle.nf_keeper.specs.declared.keeper.Keeper.{Ghosts as KeeperOf}
use Rattle.nf_session.specs.Book.{held, held_after}
use Rattle.nf_turn.specs.Prelude.{HasHeard, having_joined, longer, split_from}
use Rattle.nf_turn.specs.declared.view.Memory.{Memory}
use Rattle.nf_words.specs.Prelude.{IsLegal, opened}
use Rattle.nf_hub.specs.Seats.{AllWereIdle, book_in}
use Rattle.nf_hub.proofs.Knowing.{Knows}
use Rattle.nf_hub.proofs.Owning.{own_same, none_own}

module _ {K : Type 0} (k : KeeperOf K) where
  all_idle : (xs ys : List (ℕ × Served K)) → AllWereIdle k xs → AllWereIdle k ys → AllWereIdle k (xs ++ ys)
  all_idle [] ys h g = g
  all_idle (x ∷ xs) ys h g = (h.0, all_idle xs ys h.1 g)

  module _ (m : Memory (Served K)) (idle : Bool) (knows : Knows k idle m) where
    rows_known : m.known.site.kept.opening ≡ m.first.site.kept.opening
    rows_known = ap (λ (o : List Row × Snapshot K). o.0) knows.told.opening

    -- what the seat held by the desk that it passed on last
    last_held : held (book_in k m) ≡ held (book_at m.number (shown k m.last))
    last_held =
        ap (held_after None)
        (own_same m.number m.last.site.kept.opening m.known.site.kept.opening m.last.site.kept.history knows.told.last.0 m.known.site.kept.history
        (rows_known ∙ sym (ap (λ (o : List Row × Snapshot K). o.0) knows.last)) knows.told.last.1 knows.told.own)

    -- nothing stands under the number of a seat that is split off
    pub split_held : HasHeard (meanings k) (split_from m) → held (book_in k (split_from m)) ≡ None
    split_held told =
        ap (held_after None) (none_own m.next (opened m.known.site.kept.opening) m.known.site.kept.history (told.own ∙ ap (entries_by m.next) told.fresh.no_entries))

    pub split_knows : HasHeard (meanings k) (split_from m) → Knows k true (split_from m)
    split_knows told = record {
      few = knows.few;
      opened = knows.opened;
      last = refl;
      told = told;
      book_is = record { legal = knows.book_is.legal; own = refl };
      flag = sym (ap is_none (split_held told));
      joined = tt;
    }

  module _ (m other : Memory (Served K)) (idle others : Bool) (knows : Knows k idle m) (knows' : Knows k others other)
      (told : HasHeard (meanings k) (having_joined (longer (meanings k)) m other)) where
    abbrev both : Memory (Served K)
    both = having_joined (longer (meanings k)) m other

    pub joined_held : held (book_in k both) ≡ held (book_in k m)
    joined_held =
        ap (held_after None)
        (own_same m.number m.known.site.kept.opening both.known.site.kept.opening m.known.site.kept.history told.heard.0.0 both.known.site.kept.history
        (ap (λ (o : List Row × Snapshot K). o.0) (told.opening ∙ sym knows.told.opening)) told.heard.0.1 (told.own ∙ sym knows.told.own))

    joined_legal : IsLegal (opened both.known.site.kept.opening) both.known.site.kept.history
    joined_legal = here (nat_lt (length m.known.site.kept.history) (length other.known.site.kept.history))
      where
        here : (b : Bool) → IsLegal (opened (if b then other.known else m.known).site.kept.opening) (if b then other.known else m.known).site.kept.history
        here true = knows'.book_is.legal
        here false = knows.book_is.legal

    pub joined_knows : held (book_in k other) ≡ None → Knows k idle both
    joined_knows none = record {
      few = knows.few;
      opened = knows.opened;
      last = knows.last;
      told = told;
      book_is = record { legal = joined_legal; own = refl };
      flag = knows.flag ∙ sym (ap is_none joined_held);
      joined = (
        sym (last_held other others knows') ∙ none,
        all_idle other.joined m.joined knows'.joined knows.joined,
      );
    }
