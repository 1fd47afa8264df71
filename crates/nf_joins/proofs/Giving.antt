-- What is given of all chunks is the bodies that they came with, one after the other.
use Rattle.std.proofs.Common.{◌≡◌, ℕ, ◌+◌, ◌==◌, Bool, true, false, not, filter, List, [], ◌∷◌, ◌++◌, length, Option, None, Some, if◌then◌else◌, refl, sym, ap, subst, ◌∙◌, arith, length-append}
use Rattle.std.specs.Prelude.{IfSome}
use Rattle.std.specs.List.{concat, flat_map}
use Rattle.std.proofs.lemmas.Bool.{eqb-true}
use Rattle.std.proofs.lemmas.List.Sums.{sum_by-cons}
use Rattle.sha2.specs.Sha256.{sha256}
use Rattle.nf_base.specs.Content.{size_of}
use Rattle.nf_base.specs.declared.content.Piece.{Piece}
use Rattle.nf_base.specs.declared.rows.ChunkRow.{ChunkRow}
use Rattle.nf_base.specs.declared.rows.Row.{Row}
use Rattle.nf_defs.specs.Blobs.{Blobs}
use Rattle.nf_joins.proofs.Bodies.{both_told, content_is, next, piece_bytes}
use Rattle.nf_joins.specs.Bytes.{AreAlike, AreOfBodies, Came, CameWith}
use Rattle.nf_outside.specs.Lent.{Taken}
use Rattle.nf_session.specs.Prelude.{Book, HaveBytes, IsGiven, Lasts}
use Rattle.nf_words.specs.Prelude.{blob_for, content_in}
use Rattle.nf_words.specs.declared.history.Entry.{Entry}

-- ---- one body more

none_of : (bytes : List ℕ) → length bytes ≡ 0 → bytes ≡ []
none_of [] none = refl
none_of (byte ∷ bytes) none = absurd (omega (arith, none))

-- an empty one has no piece
skip : (told : Option Blobs) (body : List ℕ) (bodies given : List (List ℕ)) → body ≡ [] → AreOfBodies told bodies given
    → AreOfBodies told (body ∷ bodies) given
skip told body bodies given none rest =
    subst (λ (b : List ℕ). AreOfBodies told (b ∷ bodies) given) (sym none) (record { bytes = rest.bytes; alike = rest.alike })

more : (told : Option Blobs) (body bytes : List ℕ) (bodies given : List (List ℕ)) → (length body == 0) ≡ false → length bytes ≡ length body
    → sha256 bytes ≡ sha256 body → IfSome told (λ shelf. bytes ≡ body) → AreOfBodies told bodies given → AreOfBodies told (body ∷ bodies) (bytes ∷ given)
more told body bytes bodies given some size digest same rest = record {
  bytes = both_told told (λ one all i. one i ++ all i) same rest.bytes;
  alike =
      let tests = λ (b : List ℕ). not (length b == 0) in
      subst (λ (none : Bool). AreAlike (if not none then body ∷ filter tests bodies else filter tests bodies) (bytes ∷ given)) (sym some)
      (size, digest, rest.alike);
}

-- ---- all of them

module _ {C : Type 0} (reads : C → Taken → C → Type 0) (opening : List Row) (reader c d : Book) (es : List Entry) (same : reader.opening ≡ opening)
    (lasts : Lasts reader c) where
  abbrev Have : List Piece → List (List ℕ) → Type 0
  Have content given = HaveBytes (IsGiven c d) content given

  -- the first chunk, by whether its body has a blob
  one_more : (row : ChunkRow) (body : List ℕ) (rest : List Piece) (bodies : List (List ℕ)) (one : CameWith reads opening reader es row body)
      → ((given : List (List ℕ)) → Have rest given → length given ≡ length rest → AreOfBodies d.told bodies given)
      → (o : Option ℕ) → blob_for (next reads opening reader es row body same one) (length body) ≡ o
      → (given : List (List ℕ)) → Have (content_in o (sha256 body) (length body) ++ rest) given
      → length given ≡ length (content_in o (sha256 body) (length body) ++ rest) → AreOfBodies d.told (body ∷ bodies) given
  one_more row body rest bodies one others None is given have all =
      skip d.told body bodies given (empty (length body == 0) refl is) (others given have all)
    where
      empty : (b : Bool) → (length body == 0) ≡ b → (if b then None else Some (next reads opening reader es row body same one)) ≡ None → body ≡ []
      empty true e is = none_of body (eqb-true (length body) 0 e)
      empty false e is = absurd (cc)
  one_more row body rest bodies one others (Some id) is [] have all = absurd (omega (arith, all))
  one_more row body rest bodies one others (Some id) is (bytes ∷ given) have all =
      more d.told body bytes bodies given (some (length body == 0) refl is) have.0.3.size have.0.3.digest
      (piece_bytes reads opening reader es row body same one c d id (record { blob = id; size = length body; digest = sha256 body }) bytes lasts is refl have.0)
      (others given have.1 (omega (arith, all)))
    where
      some : (b : Bool) → (length body == 0) ≡ b → (if b then None else Some (next reads opening reader es row body same one)) ≡ Some id
          → (length body == 0) ≡ false
      some true e is = absurd (cc)
      some false e is = e

  pub all_given : (rows : List ChunkRow) (bodies given : List (List ℕ)) → Came reads opening reader es rows bodies
      → Have (flat_map (λ (row : ChunkRow). row.content) rows) given → length given ≡ length (flat_map (λ (row : ChunkRow). row.content) rows)
      → AreOfBodies d.told bodies given
  all_given [] [] [] came have all = record { bytes = nothing d.told; alike = tt }
    where
      nothing : (told : Option Blobs) → IfSome told (λ shelf. ◌≡◌ {A = List ℕ} [] [])
      nothing None = tt
      nothing (Some shelf) = refl
  all_given [] [] (bytes ∷ given) came have all = absurd have
  all_given [] (body ∷ bodies) given came have all = absurd came
  all_given (row ∷ rows) [] given came have all = absurd came
  all_given (row ∷ rows) (body ∷ bodies) given (one, others) have all =
      let rest : List Piece = flat_map (λ (row : ChunkRow). row.content) rows in
      let is = content_is reads opening reader es row body same one in
      one_more row body rest bodies one (λ given have all. all_given rows bodies given others have all)
      (blob_for (next reads opening reader es row body same one) (length body)) refl given
      (subst (λ (content : List Piece). Have (content ++ rest) given) is have)
      (all ∙ ap (λ (content : List Piece). length (content ++ rest)) is)

  -- they are as many bytes as the pieces say
  pub sizes : (content : List Piece) (given : List (List ℕ)) → Have content given → length given ≡ length content
      → size_of content ≡ length (concat given)
  sizes [] [] have all = refl
  sizes [] (bytes ∷ given) have all = absurd have
  sizes (piece ∷ content) [] have all = absurd (omega (arith, all))
  sizes (piece ∷ content) (bytes ∷ given) have all =
      sum_by-cons (λ (p : Piece). p.size) piece content ∙ ap (λ (n : ℕ). n + size_of content) (sym have.0.3.size) ∙ ap (λ (n : ℕ). length bytes + n) (sizes content given have.1 (omega (arith, all)))
      ∙ sym (length-append bytes (concat given))
