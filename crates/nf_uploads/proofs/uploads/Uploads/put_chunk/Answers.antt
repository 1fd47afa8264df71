use Rattle.std.proofs.Common.{sym, ◌∙◌}
use Rattle.nf_uploads.proofs.Found.{found_chunk}
use Rattle.nf_uploads.proofs.uploads.Uploads.put_chunk.Goals as goal

pub put-requires : goal.put-requires
put-requires c none =
    let row = c.args.row in
    (rw (← c.self.view_is) at c.requires) (sym (found_chunk c.self.inside.chunks.rows row.user row.dir row.number) ∙ none)
