-- That what the chunks of an upload have is a content.
use Rattle.std.specs.Prelude.{ℕ, ◌≤◌, All, List, length}
use Rattle.nf_base.specs.declared.limits.TheConstants.{MAX_PIECES}
use Rattle.nf_base.specs.declared.rows.ChunkRow.{ChunkRow}
use Rattle.nf_defs.specs.Prelude.{IsRising, chunk_key}
use Rattle.nf_words.specs.Uploads.{whole_of}

-- a chunk has at most one piece, and a number that a name tells
pub record IsNumbered (row : ChunkRow) : Type 0 where
  pub piece : length row.content ≤ 1
  pub from : 1 ≤ row.number
  pub upto : row.number ≤ MAX_PIECES

-- so no upload has more pieces than a content may
abbrev pub WholesFit : Type 0
WholesFit =
    (chunks : List ChunkRow) (user : ℕ) (dir : List ℕ) → IsRising chunk_key chunks → All IsNumbered chunks
    → length (whole_of chunks user dir) ≤ MAX_PIECES
