use Rattle.std.proofs.Common.{sym, ◌∙◌}
use Rattle.nf_uploads.proofs.Found.{found_upload}
use Rattle.nf_uploads.proofs.uploads.Uploads.put_upload.Goals as goal

pub put-requires : goal.put-requires
put-requires c none =
    let row = c.args.row in
    (rw (← c.self.view_is) at c.requires) (sym (found_upload c.self.inside.uploads.rows row.user row.dir) ∙ none)
