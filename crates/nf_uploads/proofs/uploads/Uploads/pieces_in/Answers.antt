use Rattle.std.proofs.Common.{length, sym, ◌∙◌}
use Rattle.std.proofs.lemmas.List.Concat.{length-flat_map}
use Rattle.nf_base.specs.declared.rows.ChunkRow.{ChunkRow}
use Rattle.nf_uploads.proofs.uploads.Uploads.pieces_in.Goals as goal

pub returns : goal.returns
returns c = c.pieces_of.ensures.count ∙ sym (length-flat_map (λ (row : ChunkRow). row.content) c.chunks_of.result.now) ∙ rw c.chunks_of.ensures
