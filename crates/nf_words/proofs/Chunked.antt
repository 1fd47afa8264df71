-- What is known of a chunk that is stored: its row, if that is another, and that its upload is touched.
use Rattle.std.proofs.Common.{◌≡◌, ◌≢◌, ℕ, ◌≤◌, ◌==◌, ◌&&◌, inr, bytes_eq, Bool, true, false, List, [], ◌∷◌, ◌++◌, ◌∙◌, length, Option, if◌then◌else◌, refl, sym, ap, subst, arith, le_refl}
use Rattle.std.specs.Prelude.{None, Some, is_some, option_map}
use Rattle.std.specs.List.{All}
use Rattle.std.specs.Option.{IfSome, option_map_or, option_or}
use Rattle.std.proofs.lemmas.Bool.{and_from, and_parts, both_ways, eq-eqb, eqb-true, ltb-false}
use Rattle.std.proofs.lemmas.List.Elements.{All-cons, All-nil}
use Rattle.std.proofs.lemmas.Slice.Eq.{bytes_eq-Decides}
use Rattle.nf_base.specs.Content.{content_eq}
use Rattle.nf_base.specs.declared.changes.Change.{Change}
use Rattle.nf_base.specs.declared.changes.Change.TheVariants.{Put}
use Rattle.nf_base.specs.declared.content.Piece.{Piece}
use Rattle.nf_base.specs.declared.limits.TheConstants.{MAX_BODY, MAX_PIECES}
use Rattle.nf_base.specs.declared.rows.ChunkRow.{ChunkRow}
use Rattle.nf_base.specs.declared.rows.MetaRow.{MetaRow}
use Rattle.nf_base.specs.declared.rows.Row.TheVariants as rows
use Rattle.nf_base.specs.declared.rows.UploadRow.{UploadRow}
use Rattle.nf_defs.specs.Prelude.{chunk_key, made, put, Tables, upload_key}
use Rattle.nf_words.proofs.Bodies.{again_none, body_known, body_next, body_sized, body_sound, content_decides, IsBody}
use Rattle.nf_words.proofs.Fits.{AreApart, Differs, KnownChange, KnownChunk, KnownRows, lean_more, no_more, none_lean, one_more, Within, within}
use Rattle.nf_words.proofs.Found.{found_has, found_passes, put_is_found}
use Rattle.nf_words.proofs.Known.{Known}
use Rattle.nf_words.specs.Prelude.{AreSound, blob_for, chunk_limit, chunk_put, chunk_refusal, chunk_row, chunk_stored, content_in, counted, IsChunkSound, is_chunk_of, IsLean, limit_passed, pending_with, pieces_of, raised, touched_row, upload_row, upload_touched}
use Rattle.nf_words.specs.declared.answer.Denial.TheVariants as denial
use Rattle.nf_words.specs.declared.answer.Limit.{Limit}
use Rattle.nf_words.specs.declared.answer.Limit.TheVariants as limit
use Rattle.nf_words.specs.declared.limits.TheConstants.{MAX_PENDING}

-- ---- rows that are put are found

-- an upload is its user's, and has that name
pub upload_is : (uploads : List UploadRow) (user : ℕ) (dir : List ℕ) (row : UploadRow) → upload_row uploads user dir ≡ Some row
    → (row.user ≡ user) × (row.dir ≡ dir)
upload_is uploads user dir row is =
    let both = and_parts (row.user == user) (bytes_eq row.dir dir)
    (found_passes (λ (one : UploadRow). one.user == user && bytes_eq one.dir dir) uploads row is) in
    (eqb-true row.user user both.0, (bytes_eq-Decides row.dir dir).0 both.1)

pub upload_found : (row : UploadRow) (old : List UploadRow) → upload_row (put upload_key row old) row.user row.dir ≡ Some row
upload_found row old =
    put_is_found upload_key (λ (x : UploadRow). x.user == row.user && bytes_eq x.dir row.dir) row old
    (and_from (row.user == row.user) (bytes_eq row.dir row.dir) (eq-eqb row.user row.user refl) ((bytes_eq-Decides row.dir row.dir).1 refl))
    keyed
  where
    keyed : (x : UploadRow) → (x.user == row.user && bytes_eq x.dir row.dir) ≡ true → upload_key x ≡ upload_key row
    keyed x is =
        let both = and_parts (x.user == row.user) (bytes_eq x.dir row.dir) is in
        ap (λ (n : ℕ). n ∷ length x.dir ∷ x.dir) (eqb-true x.user row.user both.0)
        ∙ ap (λ (dir : List ℕ). row.user ∷ length dir ∷ dir) ((bytes_eq-Decides x.dir row.dir).0 both.1)

-- so one whose row isn't there makes other tables
pub upload_differs : (t : Tables) (row : UploadRow) → upload_row t.uploads row.user row.dir ≢ Some row → Differs t (Put (rows.Upload row))
upload_differs t row other = λ same.
    other (sym (ap (λ (u : Tables). upload_row u.uploads row.user row.dir) same) ∙ upload_found row t.uploads)

pub chunk_found : (row : ChunkRow) (old : List ChunkRow) → chunk_row (put chunk_key row old) row.user row.dir row.number ≡ Some row
chunk_found row old =
    put_is_found chunk_key (λ (x : ChunkRow). is_chunk_of row.user row.dir x && x.number == row.number) row old
    (and_from (is_chunk_of row.user row.dir row) (row.number == row.number)
    (and_from (row.user == row.user) (bytes_eq row.dir row.dir) (eq-eqb row.user row.user refl) ((bytes_eq-Decides row.dir row.dir).1 refl))
    (eq-eqb row.number row.number refl)) keyed
  where
    keyed : (x : ChunkRow) → (is_chunk_of row.user row.dir x && x.number == row.number) ≡ true → chunk_key x ≡ chunk_key row
    keyed x is =
        let both = and_parts (is_chunk_of row.user row.dir x) (x.number == row.number) is in
        let own = and_parts (x.user == row.user) (bytes_eq x.dir row.dir) both.0 in
        ap (λ (n : ℕ). n ∷ length x.dir ∷ x.dir ++ x.number ∷ []) (eqb-true x.user row.user own.0)
        ∙ ap (λ (dir : List ℕ). row.user ∷ length dir ∷ dir ++ x.number ∷ []) ((bytes_eq-Decides x.dir row.dir).0 own.1)
        ∙ ap (λ (n : ℕ). row.user ∷ length row.dir ∷ row.dir ++ n ∷ []) (eqb-true x.number row.number both.1)

pub chunk_differs : (t : Tables) (row : ChunkRow) → chunk_row t.chunks row.user row.dir row.number ≢ Some row → Differs t (Put (rows.Chunk row))
chunk_differs t row other = λ same.
    other (sym (ap (λ (u : Tables). chunk_row u.chunks row.user row.dir row.number) same) ∙ chunk_found row t.chunks)

-- ---- what isn't refused

-- the upload is there, and neither the pieces nor the bytes are too many
record Fits (t : Tables) (user : ℕ) (dir : List ℕ) (number size : ℕ) : Type 0 where
  upload : UploadRow
  there : upload_row t.uploads user dir ≡ Some upload
  within : Within t 0 0 0 (pieces_of size) (pieces_of size)
  pending : pending_with t user dir number size ≤ MAX_PENDING

chunk_fits : (t : Tables) (user : ℕ) (dir : List ℕ) (number size : ℕ) → chunk_refusal t user dir number size ≡ None → Fits t user dir number size
chunk_fits t user dir number size none = here (upload_row t.uploads user dir) refl none
  where
    no_limit : (o : Option Limit) → option_map denial.Limit o ≡ None → o ≡ None
    no_limit None none = refl
    no_limit (Some passed) none = absurd (cc)

    parts : (a b : Option Limit) → option_or a b ≡ None → (a ≡ None) × (b ≡ None)
    parts None b none = (refl, none)
    parts (Some passed) b none = absurd (cc)

    few : (b : Bool) → (if b then Some limit.Pending else None) ≡ None → b ≡ false
    few false none = refl
    few true none = absurd (cc)

    here : (o : Option UploadRow) → upload_row t.uploads user dir ≡ o
        → (if is_some o then option_map denial.Limit (chunk_limit t user dir size number) else Some denial.NotFound) ≡ None → Fits t user dir number size
    here None e none = absurd (cc)
    here (Some upload) e none =
        let both = parts (limit_passed t 0 0 0 (pieces_of size) (pieces_of size)) _ (no_limit (chunk_limit t user dir size number) none) in
        record {
          upload = upload;
          there = e;
          within = within t 0 0 0 (pieces_of size) (pieces_of size) both.0;
          pending = ltb-false _ _ (few _ both.1);
        }

-- ---- the step

module _ (t : Tables) (now user : ℕ) (dir : List ℕ) (number : ℕ) (digest : List ℕ) (size : ℕ) (sound : AreSound t) (short : size ≤ MAX_BODY)
    (some : 1 ≤ number) (few : number ≤ MAX_PIECES) (fits : Fits t user dir number size) where
  abbrev blob : Option ℕ
  blob = blob_for t.meta.next_blob size

  abbrev content : List Piece
  content = content_in blob digest size

  abbrev row : ChunkRow
  row = record { user = user; dir = dir; number = number; content = content }

  body : IsBody t.meta size blob content
  body = body_known t.meta digest size short

  one_piece : (size : ℕ) → pieces_of size ≤ 1
  one_piece size = here (size == 0)
    where
      here : (b : Bool) → (if b then 0 else 1) ≤ 1
      here true = omega arith
      here false = omega arith

  -- its number has that content already, or not
  abbrev is_again : Bool
  is_again = option_map_or (λ (old : ChunkRow). content_eq old.content content) (chunk_row t.chunks user dir number) false

  -- then no blob is stored
  again_stores : is_again ≡ true → blob ≡ None
  again_stores is =
      here (chunk_row t.chunks user dir number)
      (found_has (IsChunkSound t) (λ (one : ChunkRow). is_chunk_of user dir one && one.number == number) t.chunks sound.others.chunks) is
    where
      here : (o : Option ChunkRow) → IfSome o (IsChunkSound t) → option_map_or (λ (old : ChunkRow). content_eq old.content content) o false ≡ true
          → blob ≡ None
      here None s is = absurd (cc)
      here (Some old) s is = again_none t old.content content blob s.pieces body.of_body ((content_decides old.content content).0 is)

  other_row : is_again ≡ false → chunk_row t.chunks user dir number ≢ Some row
  other_row other = λ same.
      both_ways is_again other
      (ap (λ (o : Option ChunkRow). option_map_or (λ (old : ChunkRow). content_eq old.content content) o false) same ∙ (content_decides content content).1 refl)

  -- the upload, touched
  abbrev upload : UploadRow
  upload = fits.upload

  abbrev touched : UploadRow
  touched = touched_row now upload

  there : upload_row t.uploads upload.user upload.dir ≡ Some upload
  there =
      let is = upload_is t.uploads user dir upload fits.there in
      ap (λ (n : ℕ). upload_row t.uploads n upload.dir) is.0 ∙ ap (upload_row t.uploads user) is.1 ∙ fits.there

  touches : (upload.touched == now) ≡ false → touched ≢ upload
  touches other = λ same. both_ways (upload.touched == now) other (eq-eqb upload.touched now (sym (ap (λ (r : UploadRow). r.touched) same)))

  abbrev front : Bool → List Change
  front b = if b then [] else Put (rows.Chunk row) ∷ []

  abbrev back : Bool → List Change
  back b = if b then [] else Put (rows.Upload touched) ∷ []

  -- in tables that have these uploads, at this moment
  back_rows : (u : Tables) → u.uploads ≡ t.uploads → u.meta.last ≡ now → (b : Bool) → (upload.touched == now) ≡ b → KnownRows t blob u (back b)
  back_rows u same at true e = no_more u
  back_rows u same at false e =
      one_more u (Put (rows.Upload touched)) []
      (inr (record {
        old = upload;
        there = ap (λ (uploads : List UploadRow). upload_row uploads upload.user upload.dir) same ∙ there;
        same = refl;
        touched = omega (arith, at);
        other = touches e;
      })) (no_more (made u (Put (rows.Upload touched))))

  back_lean : (b : Bool) → (upload.touched == now) ≡ b → IsLean t (back b)
  back_lean true e = none_lean t
  back_lean false e =
      lean_more t (Put (rows.Upload touched)) []
      (upload_differs t touched (λ same. touches e (some_same (sym same ∙ there))))
      (All-nil (AreApart (Put (rows.Upload touched)))) (none_lean t)
    where
      some_same : {a b : UploadRow} → ◌≡◌ {A = Option UploadRow} (Some a) (Some b) → a ≡ b
      some_same same = cc

  back_apart : (b : Bool) → All (AreApart (Put (rows.Chunk row))) (back b)
  back_apart true = All-nil (AreApart (Put (rows.Chunk row)))
  back_apart false = All-cons (AreApart (Put (rows.Chunk row))) (Put (rows.Upload touched)) [] (λ same. cc) (All-nil (AreApart (Put (rows.Chunk row))))

  -- neither counts for anything
  count : (a b : Bool) → counted t.meta (front a ++ back b) ≡ t.meta
  count true true = refl
  count true false = refl
  count false true = refl
  count false false = refl

  rows_known : (u : Tables) → u.uploads ≡ t.uploads → u.meta.last ≡ now → KnownChunk t blob u row → (a b : Bool) → (upload.touched == now) ≡ b
      → KnownRows t blob u (front a ++ back b)
  rows_known u same at known true b e = back_rows u same at b e
  rows_known u same at known false b e =
      one_more u (Put (rows.Chunk row)) (back b) known (back_rows (made u (Put (rows.Chunk row))) same at b e)

  lean : (a b : Bool) → is_again ≡ a → (upload.touched == now) ≡ b → IsLean t (front a ++ back b)
  lean true b again e = back_lean b e
  lean false b again e =
      lean_more t (Put (rows.Chunk row)) (back b) (chunk_differs t row (other_row again)) (back_apart b) (back_lean b e)

  stored : (a b : Bool) → is_again ≡ a → front a ++ back b ≡ [] → blob ≡ None
  stored true b again none = again_stores again
  stored false b again none = absurd (cc)

  known : (a b : Bool) → is_again ≡ a → (upload.touched == now) ≡ b → KnownChange t now (front a ++ back b) blob
  known a b again e =
      let up = raised t now (front a ++ back b) blob in
      let counts = count a b in
      record {
        rows = rows_known up refl refl (record {
          chunk = record {
            upload = ap is_some fits.there;
            some = some;
            few = few;
            one = omega (arith, body.pieces, one_piece size);
            pieces = body_sound t.meta up blob content sound.counters body.of_body (le_refl _);
            few_pieces = omega (arith, body.pieces, fits.within.pieces);
            few_pending = subst (λ (n : ℕ). pending_with t user dir number n ≤ MAX_PENDING) (sym (body_sized t.meta.next_blob digest size)) fits.pending;
          };
          body = body.of_body;
        }) a b e;
        lean = lean a b again e;
        stored = stored a b again;
        next = body_next t.meta blob content body.of_body;
        next_user = omega (arith, ap (λ (meta : MetaRow). meta.next_user) counts);
        next_group = omega (arith, ap (λ (meta : MetaRow). meta.next_group) counts);
        next_node = omega (arith, ap (λ (meta : MetaRow). meta.next_node) counts);
        next_share = omega (arith, ap (λ (meta : MetaRow). meta.next_share) counts);
        next_blob = omega (arith, body.counted, fits.within.next_blob);
      }

  chunk_done : Known t now (chunk_stored t now user dir number digest size)
  chunk_done =
      subst (λ (o : Option UploadRow). KnownChange t now (chunk_put t row ++ option_map_or (upload_touched now) o []) blob) (sym fits.there)
      (known is_again (upload.touched == now) refl refl)

pub chunk_known : (t : Tables) (now user : ℕ) (dir : List ℕ) (number : ℕ) (digest : List ℕ) (size : ℕ) → AreSound t → size ≤ MAX_BODY → 1 ≤ number
    → number ≤ MAX_PIECES → chunk_refusal t user dir number size ≡ None → Known t now (chunk_stored t now user dir number digest size)
chunk_known t now user dir number digest size sound short some few none =
    chunk_done t now user dir number digest size sound short some few (chunk_fits t user dir number size none)
