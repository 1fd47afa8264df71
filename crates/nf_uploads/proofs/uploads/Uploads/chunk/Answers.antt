use Rattle.std.proofs.Common.{◌∙◌}
use Rattle.nf_uploads.proofs.Found.{found_chunk}
use Rattle.nf_uploads.proofs.uploads.Uploads.chunk.Goals as goal

pub returns : goal.returns
returns c = rw (← c.self.view_is) (c.find.ensures ∙ found_chunk c.self.inside.chunks.rows c.args.user c.args.dir.now c.args.number)
