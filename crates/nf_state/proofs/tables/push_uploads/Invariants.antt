use Rattle.std.proofs.Common.{◌≡◌, ◌++◌, map, take}
use Rattle.nf_base.specs.declared.rows.Row.TheVariants.{Upload}
use Rattle.nf_state.proofs.tables.push_uploads.Given as goal

-- those of the uploads so far
abbrev pub invariant-loop-upload : goal.invariant-loop-upload
invariant-loop-upload l = l.list ≡ l.initial.list ++ map Upload (take l.upload-index l.uploads)
