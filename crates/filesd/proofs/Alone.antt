-- The one seat of a run: all entries are its own.
use Rattle.std.proofs.Common.{◌≡◌, ℕ, List, [], ◌∷◌, length, refl}
use Rattle.std.specs.Prelude.{Option}
use Rattle.std.proofs.lemmas.Bool.{eq-eqb}
use Rattle.std.proofs.lemmas.List.Elements.{All-head, All-tail}
use Rattle.nf_promises.specs.Room.{IsAlone}
use Rattle.nf_session.specs.Book.{own_from}
use Rattle.nf_site.specs.Kept.{Kept}
use Rattle.nf_told.specs.Told.{Told}
use Rattle.nf_words.specs.Prelude.{after, opened, State}
use Rattle.nf_words.specs.declared.history.Entry.{Entry}
use Rattle.filesd.specs.Seat.{AreOwn, book_of, seat}

-- its own entries are as many as all
all_own : (s : State) (es : List Entry) → AreOwn es → length es ≡ length (own_from seat s es)
all_own s [] own = refl
all_own s (e ∷ es) own =
    simp (eq-eqb e.seat seat (All-head (λ (x : Entry). x.seat ≡ seat) e es own))
    (let rest = all_own (after s e) es (All-tail (λ (x : Entry). x.seat ≡ seat) e es own) in cc)

pub is_alone : (k : Kept) (start told : Option Told) (faults : ℕ) → AreOwn k.history → IsAlone (book_of k start told faults)
is_alone k start told faults own = all_own (opened k.opening) k.history own
