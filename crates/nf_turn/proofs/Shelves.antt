-- The shelf that a seat saw, against that of a value that grew since.
use Rattle.std.proofs.Common.{◌≡◌, ◌⊎◌, ⊎_elim, inl, inr, ℕ, ◌<◌, cond, List, [], ◌∷◌, ◌++◌, ◌≤◌, Option, Some, None, refl, sym, ap, ◌∙◌}
use Rattle.std.specs.Option.{option_or}
use Rattle.std.specs.Prelude.{is_some}
use Rattle.std.proofs.lemmas.Bool.{cases_lt, lt-ltb, le-ltb}
use Rattle.std.proofs.Common.{arith}
use Rattle.nf_turn.specs.Prelude.{bytes_under, GrewFrom, HasOrLacks, KeepsShelf, Meanings, Shelf}
use Rattle.nf_turn.specs.Agreeing.{Lacks, last_bytes, OneLacks}

pub tells_alike : (old new : Option Shelf) → KeepsShelf old new → is_some new ≡ is_some old
tells_alike None None h = refl
tells_alike None (Some new) h = absurd h
tells_alike (Some old) None h = absurd h
tells_alike (Some old) (Some new) h = refl

pub lacks_still : (old new : Option Shelf) (m : ℕ) → KeepsShelf old new → Lacks old m → Lacks new m
lacks_still None new m h l = absurd l
lacks_still (Some old) None m h l = absurd h
lacks_still (Some old) (Some new) m h l = let up = h.0 in let below = l.0 in (omega arith, ⊎_elim (λ (e : new.bytes m ≡ old.bytes m). e ∙ l.1) (λ (e : (new.bytes m ≡ None) × (old.drops < new.drops)). e.0) (h.2 m l.0))

under : (shelf : Shelf) (m : ℕ) → m < shelf.next → bytes_under (Some shelf) m ≡ shelf.bytes m
under shelf m below = ap (λ t. cond t (shelf.bytes m) None) (lt-ltb m shelf.next below)

beyond : (shelf : Shelf) (m : ℕ) → shelf.next ≤ m → bytes_under (Some shelf) m ≡ None
beyond shelf m up = ap (λ t. cond t (shelf.bytes m) None) (le-ltb m shelf.next up)

still_under : (old new : Option Shelf) (m : ℕ) (bytes : List ℕ) → KeepsShelf old new → bytes_under old m ≡ Some bytes → HasOrLacks new m bytes
still_under None new m bytes h e = absurd (cc)
still_under (Some old) None m bytes h e = absurd h
still_under (Some old) (Some new) m bytes h e = ⊎_elim
    (λ (below : m < old.next).
    let up = h.0 in
    let was : old.bytes m ≡ Some bytes = sym (under old m below) ∙ e in
    ⊎_elim (λ (same : new.bytes m ≡ old.bytes m). inl (under new m (omega arith) ∙ same ∙ was)) (λ (gone : (new.bytes m ≡ None) × (old.drops < new.drops)). inr (omega arith, gone.0)) (h.2 m below))
    (λ (above : old.next ≤ m). let none = beyond old m above in absurd (cc))
    (cases_lt m old.next)

one_of : {A : Type 0} (x y : Option A) (a : A) → option_or x y ≡ Some a → (x ≡ Some a) ⊎ (y ≡ Some a)
one_of None y a e = inr e
one_of (Some x) y a e = inl e

module _ {E O W : Type 0} (book : Meanings E O W) where
  pub grew_append : (value : W) (olds more : List W) → GrewFrom book value olds → GrewFrom book value more → GrewFrom book value (olds ++ more)
  grew_append value [] more h h' = h'
  grew_append value (old ∷ olds) more h h' = (h.0, grew_append value olds more h.1 h')

  pub last_bytes_stay : (value : W) (olds : List W) → GrewFrom book value olds → (m : ℕ) (bytes : List ℕ) → last_bytes book olds m ≡ Some bytes → HasOrLacks (book.shelf value) m bytes
  last_bytes_stay value [] h m bytes e = absurd (cc)
  last_bytes_stay value (old ∷ olds) h m bytes e = ⊎_elim
      (λ (here : bytes_under (book.shelf old) m ≡ Some bytes). still_under (book.shelf old) (book.shelf value) m bytes h.0.keeps.shelf here)
      (λ (there : last_bytes book olds m ≡ Some bytes). last_bytes_stay value olds h.1 m bytes there)
      (one_of (bytes_under (book.shelf old) m) (last_bytes book olds m) bytes e)

  pub gone_stays : (value : W) (olds : List W) → GrewFrom book value olds → (m : ℕ) → OneLacks book olds m → Lacks (book.shelf value) m
  gone_stays value [] h m gone = absurd gone
  gone_stays value (old ∷ olds) h m gone = ⊎_elim
      (λ (here : Lacks (book.shelf old) m). lacks_still (book.shelf old) (book.shelf value) m h.0.keeps.shelf here)
      (λ (there : OneLacks book olds m). gone_stays value olds h.1 m there)
      gone
