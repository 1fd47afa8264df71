-- Uploads and their chunks: what the rules say of their rows, and what sound tables say of them.
use Rattle.std.proofs.Common.{◌≡◌, ℕ, ◌<◌, ◌≤◌, ◌==◌, ◌&&◌, Bool, true, false, not, List, [], ◌∷◌, length, filter, sum_by, Option, None, Some, refl, ap, subst, ⊎_elim, inl, inr, arith}
use Rattle.std.specs.Prelude.{bytes_eq, is_some, nat_le, nat_lt}
use Rattle.std.specs.List.{All}
use Rattle.std.proofs.lemmas.Bool.{and_cases, and_from, and_parts, and_right, cases_Bool, cases_lt, eqb-true, false≢true, le-leb, le-ltb, leb-true, ltb-false, not-false, not-true, not_from_false, not_from_true, or_from, or_parts}
use Rattle.std.proofs.lemmas.List.Elements.{All-head, All-tail, All-weaker}
use Rattle.std.proofs.lemmas.List.Sums.{sum_by-cons}
use Rattle.nf_base.specs.KeptRows.{IsKept}
use Rattle.nf_base.specs.declared.limits.TheConstants.{MAX_PIECES}
use Rattle.nf_base.specs.declared.rows.ChunkRow.{ChunkRow}
use Rattle.nf_base.specs.declared.rows.Row.TheVariants as rows
use Rattle.nf_base.specs.declared.rows.UploadRow.{UploadRow}
use Rattle.nf_defs.specs.Prelude.{Tables}
use Rattle.nf_laws.proofs.Rows.{found_is}
use Rattle.nf_words.specs.Others.{IsChunkSound, IsUploadSound}
use Rattle.nf_words.specs.Prelude.{content_size, count_of, pending_of, stored_pieces, upload_row, uploads_of}
use Rattle.nf_words.specs.declared.answer.Limit.TheVariants as limit
use Rattle.nf_words.specs.declared.limits.TheConstants.{MAX_PENDING, MAX_UPLOADS}
use Rattle.nf_rules.specs.Ruled.{IsGiven}
use Rattle.nf_rules.specs.Rules.{are_chunk_numbers, are_upload_numbers, has_ungiven_blob, is_beyond, is_chunk_beyond, is_chunk_number, is_upload, is_user}
use Rattle.nf_rules.proofs.Blobs.{blobs_given, none_ungiven}
use Rattle.nf_rules.proofs.Shares.{is_given_from}

-- ---- lists

-- a test that no element passes keeps none
pub none_kept : {X : Type 0} (test : X → Bool) (some : List X) → All (λ x. test x ≡ false) some → filter test some ≡ []
none_kept test [] none = refl
none_kept test (x ∷ some) none =
    simp (All-head (λ x. test x ≡ false) x some none) (none_kept test some (All-tail (λ x. test x ≡ false) x some none))

-- what is nothing at each is nothing together
pub no_sum : {X : Type 0} (f : X → ℕ) (some : List X) → All (λ x. f x ≡ 0) some → sum_by f some ≡ 0
no_sum f [] none = refl
no_sum f (x ∷ some) none =
    omega (arith, sum_by-cons f x some, All-head (λ x. f x ≡ 0) x some none, no_sum f some (All-tail (λ x. f x ≡ 0) x some none))

-- nor is there anything where each that passes a test has nothing
no_sum_kept : {X : Type 0} (f : X → ℕ) (test : X → Bool) (some : List X) → All (λ x. test x ≡ true → f x ≡ 0) some → sum_by f (filter test some) ≡ 0
no_sum_kept f test [] none = refl
no_sum_kept {X = X} f test (x ∷ some) none =
    elim (cases_Bool (test x)) [
      | inl passes ↦
          rw passes (omega (
            arith,
            sum_by-cons f x (filter test some),
            All-head (λ x. test x ≡ true → f x ≡ 0) x some none passes,
            no_sum_kept f test some (All-tail (λ x. test x ≡ true → f x ≡ 0) x some none),
          ))
      | inr fails ↦ rw fails (no_sum_kept f test some (All-tail (λ x. test x ≡ true → f x ≡ 0) x some none))
    ]

-- ---- what the rules say

-- a chunk that breaks no limit
pub record IsChunkWithin (t : Tables) (row : ChunkRow) : Type 0 where
  pub number : is_chunk_number row.number ≡ true
  pub pieces : (nat_lt 0 (length row.content) && nat_lt (count_of limit.Pieces) (stored_pieces t)) ≡ false
  pub pending : (nat_lt 0 (content_size row.content) && nat_lt MAX_PENDING (pending_of t.chunks row.user)) ≡ false

pub chunk_within : (t : Tables) (row : ChunkRow) → is_chunk_beyond t row ≡ false → IsChunkWithin t row
chunk_within t row within =
    let parts = or_parts _ _ within in
    let first = or_parts _ _ parts.0 in
    record { number = not-false (is_chunk_number row.number) first.0; pieces = first.1; pending = parts.1 }

-- where too many pieces are stored, it has none
pub chunk_without : (t : Tables) (row : ChunkRow) → is_chunk_beyond t row ≡ false → count_of limit.Pieces < stored_pieces t → length row.content ≡ 0
chunk_without t row within more =
    ⊎_elim
    (λ e. omega (arith, ltb-false 0 (length row.content) e))
    (λ e. absurd (omega (arith, more, ltb-false (count_of limit.Pieces) (stored_pieces t) e)))
    (and_cases (nat_lt 0 (length row.content)) (nat_lt (count_of limit.Pieces) (stored_pieces t)) (chunk_within t row within).pieces)

pub upload_sound : (t : Tables) (row : UploadRow) → are_upload_numbers t.meta row ≡ true → is_user t row.user ≡ true → IsUploadSound t row
upload_sound t row numbers there =
    record { user = there; touched = ltb-false t.meta.last row.touched (not-true (nat_lt t.meta.last row.touched) (and_parts _ _ numbers).1) }

pub chunk_sound : (t : Tables) (row : ChunkRow) → are_chunk_numbers t.meta row ≡ true → IsKept (rows.Chunk row) → is_upload t row.user row.dir ≡ true
    → is_chunk_beyond t row ≡ false → IsChunkSound t row
chunk_sound t row numbers kept there within =
    let number = and_parts _ _ (chunk_within t row within).number in
    let blob = none_ungiven t.meta.next_blob row.content (not-true (has_ungiven_blob t.meta.next_blob row.content) (and_parts _ _ numbers).1) in
    record {
      upload = there;
      some = leb-true 1 row.number number.0;
      few = leb-true row.number MAX_PIECES number.1;
      one = kept.1;
      pieces = λ k d less.
          let sized = kept.0.sized k d less in
          record { some = sized.some; few = sized.few; first = (blob k d less).first; given = (blob k d less).below };
    }

-- where no upload is one of too many, each user's are few
pub few_uploads : (t : Tables) → All (λ (row : UploadRow). is_beyond t (rows.Upload row) ≡ false) t.uploads → (user : ℕ)
    → length (uploads_of t.uploads user) ≤ MAX_UPLOADS
few_uploads t none user =
    ⊎_elim
    (λ more. absurd (omega (
      arith,
      more,
      ap (λ (some : List UploadRow). length some)
          (none_kept (λ (row : UploadRow). row.user == user) t.uploads
          (All-weaker (λ (row : UploadRow). is_beyond t (rows.Upload row) ≡ false) (λ (row : UploadRow). (row.user == user) ≡ false)
          (other more) t.uploads none)),
    )))
    (λ le. le)
    (cases_lt MAX_UPLOADS (length (uploads_of t.uploads user)))
  where
    other : MAX_UPLOADS < length (uploads_of t.uploads user) → (row : UploadRow) → is_beyond t (rows.Upload row) ≡ false → (row.user == user) ≡ false
    other more row within =
        elim (cases_Bool (row.user == user)) [
          | inl own ↦
              (let le = ltb-false MAX_UPLOADS (length (uploads_of t.uploads user))
              (subst (λ (u : ℕ). nat_lt MAX_UPLOADS (length (uploads_of t.uploads u)) ≡ false) (eqb-true row.user user own) within) in
              absurd (omega (arith, more, le)))
          | inr not ↦ not
        ]

-- where no chunk's bytes are among too many, each user's are few
pub few_pending : (t : Tables) → All (λ (row : ChunkRow). is_chunk_beyond t row ≡ false) t.chunks → (user : ℕ)
    → pending_of t.chunks user ≤ MAX_PENDING
few_pending t none user =
    ⊎_elim
    (λ more. absurd (omega (
      arith,
      more,
      no_sum_kept (λ (row : ChunkRow). content_size row.content) (λ (row : ChunkRow). row.user == user) t.chunks
          (All-weaker (λ (row : ChunkRow). is_chunk_beyond t row ≡ false)
          (λ (row : ChunkRow). (row.user == user) ≡ true → content_size row.content ≡ 0) (nothing more) t.chunks none),
    )))
    (λ le. le)
    (cases_lt MAX_PENDING (pending_of t.chunks user))
  where
    nothing : MAX_PENDING < pending_of t.chunks user → (row : ChunkRow) → is_chunk_beyond t row ≡ false → (row.user == user) ≡ true
        → content_size row.content ≡ 0
    nothing more row within own =
        ⊎_elim
        (λ e. omega (arith, ltb-false 0 (content_size row.content) e))
        (λ e. absurd (omega (
          arith,
          more,
          ltb-false MAX_PENDING (pending_of t.chunks user)
              (subst (λ (u : ℕ). nat_lt MAX_PENDING (pending_of t.chunks u) ≡ false) (eqb-true row.user user own) e),
        )))
        (and_cases (nat_lt 0 (content_size row.content)) (nat_lt MAX_PENDING (pending_of t.chunks row.user)) (chunk_within t row within).pending)

-- ---- and the other way round

pub upload_numbers : (t : Tables) (row : UploadRow) → IsUploadSound t row → IsGiven t.meta.next_user row.user → are_upload_numbers t.meta row ≡ true
upload_numbers t row sound user =
    and_from _ _ (is_given_from t.meta.next_user row.user user) (not_from_false _ (le-ltb t.meta.last row.touched sound.touched))

pub chunk_numbers : (t : Tables) (row : ChunkRow) → IsChunkSound t row → IsGiven t.meta.next_user row.user → are_chunk_numbers t.meta row ≡ true
chunk_numbers t row sound user =
    and_from _ _ (is_given_from t.meta.next_user row.user user) (not_from_false _ (blobs_given t row.content sound.pieces))

-- the user of a chunk is there, since its upload is
pub chunk_user : (t : Tables) (row : ChunkRow) → All (IsUploadSound t) t.uploads → IsChunkSound t row → is_user t row.user ≡ true
chunk_user t row uploads sound = here (upload_row t.uploads row.user row.dir) refl sound.upload
  where
    here : (o : Option UploadRow) → upload_row t.uploads row.user row.dir ≡ o → is_some o ≡ true → is_user t row.user ≡ true
    here None e is = absurd (false≢true is)
    here (Some upload) e is =
        let found = found_is (IsUploadSound t) (λ (of : UploadRow). of.user == row.user && bytes_eq of.dir row.dir) t.uploads upload uploads e in
        subst (λ (user : ℕ). is_user t user ≡ true) (eqb-true upload.user row.user (and_parts _ _ found.0).0) found.1.user

pub upload_fits : (t : Tables) (row : UploadRow) → ((user : ℕ) → length (uploads_of t.uploads user) ≤ MAX_UPLOADS)
    → is_beyond t (rows.Upload row) ≡ false
upload_fits t row few = le-ltb MAX_UPLOADS (length (uploads_of t.uploads row.user)) (few row.user)

pub chunk_fits : (t : Tables) (row : ChunkRow) → IsChunkSound t row → stored_pieces t ≤ count_of limit.Pieces
    → ((user : ℕ) → pending_of t.chunks user ≤ MAX_PENDING) → is_beyond t (rows.Chunk row) ≡ false
chunk_fits t row sound few_pieces few =
    or_from _ _
    (or_from _ _
    (not_from_true _ (and_from (nat_le 1 row.number) (nat_le row.number MAX_PIECES) (le-leb 1 row.number sound.some)
    (le-leb row.number MAX_PIECES sound.few)))
    (and_right (nat_lt 0 (length row.content)) _ (le-ltb (count_of limit.Pieces) (stored_pieces t) few_pieces)))
    (and_right (nat_lt 0 (content_size row.content)) _ (le-ltb MAX_PENDING (pending_of t.chunks row.user) (few row.user)))
