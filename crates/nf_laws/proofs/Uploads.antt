-- What the rows of uploads and of their chunks keep beside all else.
use Rattle.std.proofs.Common.{◌≡◌, ◌≤◌, ℕ, true, List, length, sym, ap, subst, ◌∙◌, arith}
use Rattle.std.specs.Prelude.{is_some}
use Rattle.std.specs.List.{All}
use Rattle.std.proofs.lemmas.List.Elements.{All-weaker}
use Rattle.nf_base.specs.declared.rows.ChunkRow.{ChunkRow}
use Rattle.nf_base.specs.declared.rows.MetaRow.{MetaRow}
use Rattle.nf_base.specs.declared.rows.UploadRow.{UploadRow}
use Rattle.nf_base.specs.declared.rows.UserRow.{UserRow}
use Rattle.nf_defs.specs.Prelude.{chunk_key, IsRising, Tables, upload_key, user_row}
use Rattle.nf_laws.proofs.Rows.{pieces_kept}
use Rattle.nf_words.specs.Prelude.{AreSound, IsChunkSound, IsUploadSound, pending_of, upload_row, uploads_of}
use Rattle.nf_words.specs.declared.limits.TheConstants.{MAX_PENDING, MAX_UPLOADS}

pub record AreUploadsSound (t : Tables) : Type 0 where
  pub uploads : All (IsUploadSound t) t.uploads
  pub uploads_rise : IsRising upload_key t.uploads
  pub few_uploads : (user : ℕ) → length (uploads_of t.uploads user) ≤ MAX_UPLOADS
  pub chunks : All (IsChunkSound t) t.chunks
  pub chunks_rise : IsRising chunk_key t.chunks
  pub few_pending : (user : ℕ) → pending_of t.chunks user ≤ MAX_PENDING

-- an upload stays sound where its user is there still
pub upload_still : (t made : Tables) → ((user : ℕ) → is_some (user_row t.users user) ≡ true → is_some (user_row made.users user) ≡ true)
    → t.meta.last ≤ made.meta.last → (row : UploadRow) → IsUploadSound t row → IsUploadSound made row
upload_still t made users later row is = record { user = users row.user is.user; touched = omega (arith, is.touched, later) }

-- and a chunk where its upload is
pub chunk_still : (t made : Tables) → t.meta.next_blob ≤ made.meta.next_blob → (row : ChunkRow)
    → is_some (upload_row made.uploads row.user row.dir) ≡ true → IsChunkSound t row → IsChunkSound made row
chunk_still t made blobs row there is = record {
  upload = there;
  some = is.some;
  few = is.few;
  one = is.one;
  pieces = pieces_kept t made row.content blobs is.pieces;
}

-- as they are in tables with the same of them
pub uploads_still : (t made : Tables) → made.uploads ≡ t.uploads → made.chunks ≡ t.chunks
    → ((user : ℕ) → is_some (user_row t.users user) ≡ true → is_some (user_row made.users user) ≡ true) → t.meta.last ≤ made.meta.last
    → t.meta.next_blob ≤ made.meta.next_blob → AreSound t → AreUploadsSound made
uploads_still t made uploads chunks users later blobs sound = record {
  uploads = subst (All (IsUploadSound made)) (sym uploads)
      (All-weaker (IsUploadSound t) (IsUploadSound made) (upload_still t made users later) t.uploads sound.others.uploads);
  uploads_rise = subst (IsRising upload_key) (sym uploads) sound.others.uploads_rise;
  few_uploads = λ user. omega (arith, sound.others.few_uploads user, ap (λ (rows : List UploadRow). length (uploads_of rows user)) uploads);
  chunks = subst (All (IsChunkSound made)) (sym chunks)
      (All-weaker (IsChunkSound t) (IsChunkSound made)
      (λ row is. chunk_still t made blobs row (ap (λ (rows : List UploadRow). is_some (upload_row rows row.user row.dir)) uploads ∙ is.upload) is)
      t.chunks sound.others.chunks);
  chunks_rise = subst (IsRising chunk_key) (sym chunks) sound.others.chunks_rise;
  few_pending = λ user. omega (arith, sound.others.few_pending user, ap (λ (rows : List ChunkRow). pending_of rows user) chunks);
}

-- where users and counters are the same, too
pub uploads_kept : (t made : Tables) → made.uploads ≡ t.uploads → made.chunks ≡ t.chunks → made.users ≡ t.users → made.meta ≡ t.meta → AreSound t
    → AreUploadsSound made
uploads_kept t made uploads chunks users meta sound =
    uploads_still t made uploads chunks (λ user is. ap (λ (rows : List UserRow). is_some (user_row rows user)) users ∙ is)
    (omega (arith, ap (λ (m : MetaRow). m.last) meta)) (omega (arith, ap (λ (m : MetaRow). m.next_blob) meta)) sound
