use Rattle.std.proofs.Common.{rules, ◌≡◌, ◌∙◌, ◌==◌}
use Rattle.std.specs.Prelude.{find, is_some}
use Rattle.nf_base.specs.declared.rows.GroupRow.{GroupRow}
use Rattle.nf_opening.proofs.Firsts.{any_found}
use Rattle.nf_opening.proofs.loaded.Loaded.has_group.Goals as goal

pub returns : goal.returns
returns c =
    let is_group = λ (row : GroupRow). row.id == c.args.id in
    let found : c.is_some.result ≡ is_some (find is_group c.args.self.now.groups) = search rules in
    found ∙ any_found is_group c.args.self.now.groups
