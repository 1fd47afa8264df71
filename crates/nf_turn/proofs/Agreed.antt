-- What the rule says of a seat, in the words of `Agrees` and `HasHeard`.
use Rattle.std.proofs.Common.{◌≡◌, ⊎_elim, inl, inr, ℕ, ◌<◌, List, [], ◌∷◌, ◌++◌, append_assoc, refl, sym, ap, ◌∙◌, subst, arith}
use Rattle.std.proofs.lemmas.List.{append_cancel_left}
use mathlib.Core.Logic.{dite}
use native.Mathlib.Decide.{ℕ_discrete}
use Rattle.nf_turn.specs.Prelude.{Agrees, AllAreKept, AreJoined, entries_of, GrowsWithout, HasHeard, HasNothing, InOrder, IsFresh, IsKnown, Line, Meanings, numbers_of}
use Rattle.nf_turn.specs.Agreeing.{opening}
use Rattle.nf_turn.specs.declared.view.Memory.{Memory}
use Rattle.nf_turn.proofs.Growing.{none_in_parts, entries_of-more, entries_stay}
use Rattle.nf_turn.proofs.Left.{left_test}
use Rattle.nf_turn.proofs.Shelves.{tells_alike, grew_append, last_bytes_stay, gone_stays}

module _ {E O W : Type 0} (book : Meanings E O W) where
  -- where nothing was done since the start, nothing stands
  nothing : (n : ℕ) (origin value : W) → IsFresh book origin → GrowsWithout book n origin value → HasNothing book n value
  nothing n origin value fresh h = (entries_stay book n origin value h ∙ ap (entries_of book n) fresh.no_entries, h.strikes ∙ fresh.no_strikes n)

  joined_are_kept : (line : Line W) (id n : ℕ) (joined : List (ℕ × W)) → AreJoined book line id n joined → AllAreKept book line.value joined
  joined_are_kept line id n [] h = tt
  joined_are_kept line id n (seat ∷ seats) h = (h.0.5, joined_are_kept line id n seats h.2)

  -- the seat has no entry between what it passed on last and what it knows of, nor from there to the value
  no_more_own : (seats : ℕ) (origin : W) (line : Line W) (id : ℕ) (k : Memory W) (h : IsKnown book seats origin line id k) → (entries_of book k.number h.last.0 ≡ []) × (entries_of book k.number h.known.added ≡ [])
  no_more_own seats origin line id k h =
      let last = book.entries k.last in let between = h.last.0 in let since = h.known.added in
      let parts : h.own.grows.added ≡ between ++ since = append_cancel_left last h.own.grows.added (between ++ since) (sym h.own.grows.entries ∙ h.known.entries ∙ ap (λ l. l ++ since) h.last.1 ∙ append_assoc last between since) in
      none_in_parts book k.number between since (ap (entries_of book k.number) (sym parts) ∙ h.own.none)

  opens_alike : (seats : ℕ) (origin : W) (line : Line W) (id : ℕ) (k : Memory W) → InOrder book seats origin line → IsKnown book seats origin line id k → book.opening line.value ≡ opening book k
  opens_alike seats origin line id k order h = (order.unused 0 (inl refl)).grows.keeps.opening ∙ ap book.opening (sym h.first)

  pub has_heard : (seats : ℕ) (origin : W) (line : Line W) (id : ℕ) (k : Memory W) → IsFresh book origin → InOrder book seats origin line → IsKnown book seats origin line id k → HasHeard book k
  has_heard seats origin line id k fresh order h = record {
    fresh = subst (λ (w : W). IsFresh book w) (sym h.first) fresh;
    opening = sym h.known.keeps.opening ∙ opens_alike seats origin line id k order h;
    last = h.last;
    heard = h.heard;
    own = ap (entries_of book k.number) h.last.1 ∙ entries_of-more book k.number (book.entries k.last) h.last.0 (no_more_own seats origin line id k h).0;
  }

  pub agrees : (seats : ℕ) (origin : W) (line : Line W) (id : ℕ) (k : Memory W) → IsFresh book origin → InOrder book seats origin line → IsKnown book seats origin line id k → Agrees book k line.value
  agrees seats origin line id k fresh order h =
      let since_start = (order.unused 0 (inl refl)).grows in let low = h.low in let given = h.given in let few = order.few.2 in let all = h.all in record {
        within = (low, omega arith);
        known = h.known;
        others = (no_more_own seats origin line id k h).1;
        own = entries_stay book k.number k.last line.value h.own;
        strikes = h.own.strikes;
        joined = joined_are_kept line id k.number k.joined h.joined;
        left = λ n left.
            let is = left_test (numbers_of k) n left in let from = is.0 in let up = is.1 in
            let next = (h.left (omega arith)).1 in
            nothing n origin line.value fresh (order.unused n (inr (omega arith)));
        outside = λ n out. nothing n origin line.value fresh (order.unused n (⊎_elim (λ (z : n ≡ 0). inl z) (λ (z : k.seats < n). inr (omega arith)) out));
        opening = opens_alike seats origin line id k order h;
        tells = tells_alike (book.shelf origin) (book.shelf line.value) since_start.keeps.shelf ∙ ap (λ z. Rattle.std.specs.Prelude.is_some (book.shelf z)) (sym h.first);
        shelf = λ m bytes e. last_bytes_stay book line.value (k.passed ++ k.told) (grew_append book line.value k.passed k.told h.passed h.told) m bytes e;
        gone = λ m e. gone_stays book line.value k.passed h.passed m e;
        sole = λ all_left. h.sole (dite (ℕ_discrete k.left 0)
            (λ none_left. omega arith)
            (λ some_left. let left = h.left (omega arith) in let next = left.1 in let sum = left.2 in omega arith));
      }
