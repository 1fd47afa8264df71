use Rattle.std.proofs.Common.{rules, ◌≡◌, sym, ◌∙◌, ◌==◌, ◌&&◌, ◌∷◌, length}
use Rattle.std.specs.Prelude.{bytes_eq}
use Rattle.std.specs.List.{list_any}
use Rattle.nf_base.specs.declared.rows.UploadRow.{UploadRow}
use Rattle.nf_defs.specs.Prelude.{upload_key}
use Rattle.nf_opening.proofs.Firsts.{any_found}
use Rattle.nf_opening.proofs.UploadKeys.{same_upload}
use Rattle.nf_opening.proofs.loaded.Loaded.has_upload.Goals as goal

pub returns : goal.returns
returns c =
    let user = c.args.user in
    let dir = c.args.dir.now in
    let uploads = c.args.self.now.uploads in
    let told : c.has_row.result ≡ list_any (λ (row : UploadRow). bytes_eq (upload_key row) (user ∷ length dir ∷ dir)) uploads = search rules in
    told ∙ same_upload user dir uploads ∙ sym (any_found (λ (row : UploadRow). row.user == user && bytes_eq row.dir dir) uploads)
