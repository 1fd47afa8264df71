-- What goes on from one book to the next: what every call keeps, and what a store tells.
use Rattle.std.proofs.Common.{◌≡◌, ℕ, ◌+◌, ◌≤◌, List, [], ◌++◌, length, inl, inr, refl, sym, ◌∙◌, ap, subst, arith, append-nil, append_assoc}
use Rattle.std.specs.Prelude.{Option, None, Some, IfSome}
use Rattle.nf_base.specs.declared.content.Piece.{Piece}
use Rattle.nf_defs.specs.Blobs.{Blobs, blob_at}
use Rattle.nf_laws.specs.Wholes.{IsThere}
use Rattle.nf_words.specs.declared.answer.Damage.{Damage}
use Rattle.nf_words.specs.declared.answer.Measure.{Measure}
use Rattle.nf_words.specs.declared.history.Entry.{Entry}
use Rattle.sha2.specs.Sha256.{sha256}
use Rattle.nf_session.specs.Book.{Book, Differs, IsPiece, IsStill, Lasts, OthersCame, TellsPiece, TellsStill, Waits, measured, next_blob_of}

-- ---- what a store tells

pub tells_refl : (cause : Type 0) (next : ℕ) (told : Option Blobs) → TellsStill cause next told told
tells_refl cause next None = refl
tells_refl cause next (Some shelf) = λ id less. inl refl

still_then : (p q r : Type 0) (a m b : Option (List ℕ)) → (p → r) → (q → r) → IsStill p a m → IsStill q m b → IsStill r a b
still_then p q r a m b first second (inl x) (inl y) = inl (y ∙ x)
still_then p q r a m b first second (inr x) (inl y) = inr (y ∙ x.0, first x.1)
still_then p q r a m b first second x (inr y) = inr (y.0, second y.1)

pub tells_then : (p q r : Type 0) (low high : ℕ) (a m b : Option Blobs) → (p → r) → (q → r) → low ≤ high → TellsStill p low a m
    → TellsStill q high m b → TellsStill r low a b
tells_then p q r low high None None b first second fits x y = y
tells_then p q r low high None (Some m) b first second fits x y = absurd (cc)
tells_then p q r low high (Some a) None b first second fits x y = absurd x
tells_then p q r low high (Some a) (Some m) None first second fits x y = absurd y
tells_then p q r low high (Some a) (Some m) (Some b) first second fits x y = λ id less.
    still_then p q r (blob_at a id) (blob_at m id) (blob_at b id) first second (x id less) (y id (omega (arith, less, fits)))

pub tells_for : (p q : Type 0) (next : ℕ) (old new : Option Blobs) → (p → q) → TellsStill p next old new → TellsStill q next old new
tells_for p q next old new so = tells_then p p q next next old old new so so (omega arith) (tells_refl p next old)

-- where no other's entry came, what was told is told later
pub still_alone : (a b : Book) (old new : Option (List ℕ)) → length b.known + length a.own ≡ length a.known + length b.own
    → IsStill (OthersCame a b) old new → new ≡ old
still_alone a b old new alone (inl same) = same
still_alone a b old new alone (inr gone) = absurd (omega (arith, alone, gone.1))

tells_piece : (a b : Book) (piece : Piece) (bytes : List ℕ) (old new : Option Blobs) → Lasts a b
    → length b.known + length a.own ≡ length a.known + length b.own → TellsStill (OthersCame a b) (next_blob_of a) old new
    → IfSome old (TellsPiece a piece bytes) → IfSome new (TellsPiece b piece bytes)
tells_piece a b piece bytes None None lasts alone tells told = tt
tells_piece a b piece bytes None (Some new) lasts alone tells told = absurd (cc)
tells_piece a b piece bytes (Some old) None lasts alone tells told = absurd tells
tells_piece a b piece bytes (Some old) (Some new) lasts alone tells told = record {
  given = omega (arith, told.given, lasts.next_blob);
  there = still_alone a b (blob_at old piece.blob) (blob_at new piece.blob) alone (tells piece.blob told.given) ∙ told.there;
}

pub piece_lasts : (a b : Book) (piece : Piece) (bytes : List ℕ) → Lasts a b → length b.known + length a.own ≡ length a.known + length b.own
    → IsPiece a piece bytes → IsPiece b piece bytes
piece_lasts a b piece bytes lasts alone is = record {
  size = is.size;
  digest = is.digest;
  told = tells_piece a b piece bytes a.told b.told lasts alone lasts.told is.told;
}

-- a piece that is there can't differ
pub there_differs : (blobs : Blobs) (piece : Piece) (damage : Damage) → damage.found ≡ measured (blob_at blobs piece.blob)
    → Differs piece damage
    → IsThere blobs piece → ⊥
there_differs blobs piece damage found differs there =
    differs.3
    (found ∙ ap measured there.there
    ∙ ap Some (measure_same (length there.bytes) damage.wanted.length (sha256 there.bytes) damage.wanted.digest
    (there.size ∙ sym differs.1) (there.digest ∙ sym differs.2)))
  where
    measure_same : (m n : ℕ) (d e : List ℕ) → m ≡ n → d ≡ e
        → ◌≡◌ {A = Measure} (record { length = m; digest = d }) (record { length = n; digest = e })
    measure_same m n d e size digest = cc

-- ---- what every call keeps

pub lasts_refl : (a : Book) → Lasts a a
lasts_refl a = record {
  opening = refl;
  seat = refl;
  strikes = omega arith;
  next_blob = omega arith;
  entries = omega arith;
  start = refl;
  told = tells_refl (OthersCame a a) (next_blob_of a) a.told;
}

pub lasts_same : (a b : Book) → b ≡ a → Lasts a b
lasts_same a b same = subst (λ (z : Book). Lasts a z) (sym same) (lasts_refl a)

pub lasts_then : (a m b : Book) → Lasts a m → Lasts m b → Lasts a b
lasts_then a m b p q = record {
  opening = q.opening ∙ p.opening;
  seat = q.seat ∙ p.seat;
  strikes = omega (arith, p.strikes, q.strikes);
  next_blob = omega (arith, p.next_blob, q.next_blob);
  entries = omega (arith, p.entries, q.entries);
  start = q.start ∙ p.start;
  told = tells_then (OthersCame a m) (OthersCame m b) (OthersCame a b) (next_blob_of a) (next_blob_of m) a.told m.told b.told
      (λ came. omega (arith, came, q.entries)) (λ came. omega (arith, came, p.entries)) p.next_blob p.told q.told;
}

-- ---- where others' entries come

pub waits_refl : (a : Book) → Waits a a
waits_refl a = record { lasts = lasts_refl a; own = refl; known = ([], sym (append-nil a.known)) }

pub waits_same : (a b : Book) → b ≡ a → Waits a b
waits_same a b same = subst (λ (z : Book). Waits a z) (sym same) (waits_refl a)

abbrev pub Later : List Entry → List Entry → Type 0
Later old new = (more : List Entry) × (new ≡ old ++ more)

pub known_then : (a m b : List Entry) → Later a m → Later m b → Later a b
known_then a m b (x, p) (y, q) = (x ++ y, q ∙ ap (λ (z : List Entry). z ++ y) p ∙ append_assoc a x y)

pub waits_then : (a m b : Book) → Waits a m → Waits m b → Waits a b
waits_then a m b p q = record {
  lasts = lasts_then a m b p.lasts q.lasts;
  own = q.own ∙ p.own;
  known = known_then a.known m.known b.known p.known q.known;
}
