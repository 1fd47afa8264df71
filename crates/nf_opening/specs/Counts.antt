-- What the limits count of several rows together.
use Rattle.std.specs.Prelude.{◌≡◌, ℕ, length}
use Rattle.nf_defs.specs.Tables.{Tables}
use Rattle.nf_words.specs.Prelude.{pending_of, stored_pieces, uploads_of}
use Rattle.nf_opening.specs.Totals.{total_of}
use Rattle.nf_opening.specs.declared.counts.Counts.{Counts}

-- the pieces of all rows, each user's uploads, and the bytes of each user's chunks
pub record AreCounts (t : Tables) (counts : Counts) : Type 0 where
  pub pieces : counts.pieces ≡ stored_pieces t
  pub uploads : (user : ℕ) → total_of counts.uploads user ≡ length (uploads_of t.uploads user)
  pub pending : (user : ℕ) → total_of counts.pending user ≡ pending_of t.chunks user
