use Rattle.std.proofs.Common.{◌∙◌}
use Rattle.nf_base.specs.declared.content.Piece.{Piece}
use Rattle.nf_base.specs.declared.rows.ChunkRow.{ChunkRow}
use Rattle.nf_uploads.proofs.Wholes.{sum_joined}
use Rattle.nf_uploads.proofs.uploads.Uploads.sum.Goals as goal

pub returns : goal.returns
returns c = c.bytes_of.ensures ∙ sum_joined (λ (piece : Piece). piece.size) (λ (row : ChunkRow). row.content) c.chunks_of.result.now ∙ rw c.chunks_of.ensures
