use Rattle.std.proofs.Common.{rules, ap, ◌∙◌, not}
use Rattle.nf_defs.specs.Tables.{Tables}
use Rattle.nf_rules.specs.Rules.{first_index, names_are_there}
use Rattle.nf_opening.proofs.present.first_dangling.Goals as goal

pub returns : goal.returns
returns c =
    c.first.ensures (λ row. not (names_are_there c.args.loaded.now row)) (λ row told called. search rules)
    ∙ ap (λ (t : Tables). first_index (λ row. not (names_are_there t row)) c.args.rows.now) c.requires.tables
