-- The content of a body.
use Rattle.std.proofs.Common.{◌≡◌, ℕ, ◌+◌, ◌≤◌, ◌==◌, bytes_eq, sym, Bool, true, false, List, [], ◌∷◌, length, ◌∙◌, Option, if◌then◌else◌, refl, ap, subst, arith}
use Rattle.std.specs.Prelude.{nat_eq, None, Some}
use Rattle.std.specs.Bool.{Decides}
use Rattle.std.specs.List.{All}
use Rattle.std.proofs.lemmas.Bool.{and_from, and_parts, eq-eqb, eqb-true}
use Rattle.std.proofs.lemmas.Bool.Decides.{nat_tests}
use Rattle.std.proofs.lemmas.List.Elements.{All-cons, All-head, All-nil, All-weaker}
use Rattle.std.proofs.lemmas.List.Sums.{sum_by-cons}
use Rattle.std.proofs.lemmas.Slice.Eq.{bytes_eq-Decides, slice_eq-Decides}
use Rattle.nf_base.specs.Content.{content_eq, piece_eq}
use Rattle.nf_base.specs.declared.content.Piece.{Piece}
use Rattle.nf_base.specs.declared.limits.TheConstants.{MAX_BODY}
use Rattle.nf_base.specs.declared.rows.MetaRow.{MetaRow}
use Rattle.nf_base.specs.declared.rows.NodeRow.{NodeRow}
use Rattle.nf_defs.specs.Prelude.{Tables}
use Rattle.nf_words.specs.Prelude.{AreCounters, blob_after, blob_for, content_in, content_size, IsPieceSound, is_same, pieces_of}

-- none, or one piece in the next blob
abbrev pub IsOfBody : MetaRow → Option ℕ → List Piece → Type 0
IsOfBody meta None content = content ≡ []
IsOfBody meta (Some blob) content =
    (blob ≡ meta.next_blob)
    × ((size : ℕ) × (digest : List ℕ) × (1 ≤ size) × (size ≤ MAX_BODY)
    × (content ≡ record { blob = blob; size = size; digest = digest } ∷ []))

-- a blob that is stored has the next number
abbrev pub IsNext : ℕ → Option ℕ → Type 0
IsNext next None = Unit {0}
IsNext next (Some id) = id ≡ next

pub body_next : (meta : MetaRow) (blob : Option ℕ) (content : List Piece) → IsOfBody meta blob content → IsNext meta.next_blob blob
body_next meta None content of_body = tt
body_next meta (Some id) content of_body = of_body.0

pub none_next : (next : ℕ) (blob : Option ℕ) → blob ≡ None → IsNext next blob
none_next next blob none = subst (IsNext next) (sym none) tt

-- it has so many pieces, and its blob is counted once
pub record IsBody (meta : MetaRow) (size : ℕ) (blob : Option ℕ) (content : List Piece) : Type 0 where
  pub of_body : IsOfBody meta blob content
  pub pieces : length content ≡ pieces_of size
  pub counted : blob_after meta.next_blob blob ≡ meta.next_blob + pieces_of size

pub body_known : (meta : MetaRow) (digest : List ℕ) (size : ℕ) → size ≤ MAX_BODY
    → IsBody meta size (blob_for meta.next_blob size) (content_in (blob_for meta.next_blob size) digest size)
body_known meta digest size few = here (size == 0) refl
  where
    here : (empty : Bool) → (size == 0) ≡ empty
        → IsBody meta size (if empty then None else Some meta.next_blob) (content_in (if empty then None else Some meta.next_blob) digest size)
    here true is = record { of_body = refl; pieces = cc; counted = rw is (omega arith) }
    here false is = record { of_body = (refl, (size, digest, grind (arith, nat_tests), few, refl)); pieces = cc; counted = rw is (omega arith) }

-- it has so many bytes
pub body_sized : (next : ℕ) (digest : List ℕ) (size : ℕ) → content_size (content_in (blob_for next size) digest size) ≡ size
body_sized next digest size = here (size == 0) refl
  where
    here : (empty : Bool) → (size == 0) ≡ empty → content_size (content_in (if empty then None else Some next) digest size) ≡ size
    here true is = sym (eqb-true size 0 is)
    here false is = omega (arith, sum_by-cons (λ (piece : Piece). piece.size) (record { blob = next; size = size; digest = digest }) [])

-- its piece is sound, where its blob's number was given
pub body_sound : (meta : MetaRow) (t : Tables) (blob : Option ℕ) (content : List Piece) → AreCounters meta → IsOfBody meta blob content
    → blob_after meta.next_blob blob ≤ t.meta.next_blob → All (IsPieceSound t) content
body_sound meta t None content counters none given = subst (λ (c : List Piece). All (IsPieceSound t) c) (sym none) (All-nil (IsPieceSound t))
body_sound meta t (Some blob) content counters one given =
    subst (λ (c : List Piece). All (IsPieceSound t) c) (sym one.1.4)
    (All-cons (IsPieceSound t) (record { blob = blob; size = one.1.0; digest = one.1.1 }) []
    (record { some = one.1.2; few = one.1.3; first = omega (arith, counters.blobs, one.0); given = omega (arith, given, one.0) })
    (All-nil (IsPieceSound t)))

-- a blob that is stored raises the next one
pub next_le : (n : ℕ) (blob : Option ℕ) → n ≤ blob_after n blob
next_le n None = omega arith
next_le n (Some id) = omega arith

-- pieces are sound where more blobs were given
pub pieces_still : (t u : Tables) (pieces : List Piece) → t.meta.next_blob ≤ u.meta.next_blob → All (IsPieceSound t) pieces
    → All (IsPieceSound u) pieces
pieces_still t u pieces up all =
    All-weaker (IsPieceSound t) (IsPieceSound u)
    (λ piece s. record { some = s.some; few = s.few; first = s.first; given = omega (arith, s.given, up) }) pieces all

-- ---- whether a content is another

piece_decides : (a b : Piece) → Decides (piece_eq a b) (a ≡ b)
piece_decides a b = (
  λ is.
      let blobs = and_parts (nat_eq a.blob b.blob) _ is in
      let sizes = and_parts (nat_eq a.size b.size) (bytes_eq a.digest b.digest) blobs.1 in
      λ i. record {
        blob = eqb-true a.blob b.blob blobs.0 i;
        size = eqb-true a.size b.size sizes.0 i;
        digest = (bytes_eq-Decides a.digest b.digest).0 sizes.1 i;
      },
  λ same.
      and_from (nat_eq a.blob b.blob) _ (eq-eqb a.blob b.blob (ap (λ (p : Piece). p.blob) same))
      (and_from (nat_eq a.size b.size) (bytes_eq a.digest b.digest) (eq-eqb a.size b.size (ap (λ (p : Piece). p.size) same))
      ((bytes_eq-Decides a.digest b.digest).1 (ap (λ (p : Piece). p.digest) same))),
)

pub content_decides : (a b : List Piece) → Decides (content_eq a b) (a ≡ b)
content_decides a b = slice_eq-Decides piece_decides a b (content_eq a b) refl

-- no row names a blob that wasn't given, so a new blob makes another content
pub again_none : (t : Tables) (old content : List Piece) (blob : Option ℕ) → All (IsPieceSound t) old → IsOfBody t.meta blob content
    → old ≡ content → blob ≡ None
again_none t old content None sound of_body same = refl
again_none t old content (Some id) sound of_body same =
    let piece : Piece = record { blob = id; size = of_body.1.0; digest = of_body.1.1 } in
    let one = All-head (IsPieceSound t) piece [] (subst (λ (c : List Piece). All (IsPieceSound t) c) (same ∙ of_body.1.4) sound) in
    absurd (omega (arith, one.given, of_body.0))

pub refills_none : (t : Tables) (row : NodeRow) (now : ℕ) (content : List Piece) (blob : Option ℕ) → All (IsPieceSound t) row.content
    → IsOfBody t.meta blob content → is_same now content row ≡ true → blob ≡ None
refills_none t row now content blob sound of_body same =
    again_none t row.content content blob sound of_body
    ((content_decides row.content content).0 (and_parts (content_eq row.content content) (row.changed == now) same).0)
