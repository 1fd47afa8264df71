-- Uploads as contracts see them.
use Rattle.std.specs.Prelude.{ℕ, List}
use Rattle.nf_base.specs.declared.rows.ChunkRow.{ChunkRow}
use Rattle.nf_base.specs.declared.rows.UploadRow.{UploadRow}

-- the uploads and their chunks, each by rising key, and how many of either fit without more memory
pub record UploadsValue : Type 0 where
  pub uploads : List UploadRow
  pub chunks : List ChunkRow
  pub upload_room : ℕ
  pub chunk_room : ℕ
