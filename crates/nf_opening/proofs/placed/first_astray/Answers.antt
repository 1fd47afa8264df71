use Rattle.std.proofs.Common.{rules, ap, ◌∙◌, not}
use Rattle.nf_defs.specs.Tables.{Tables}
use Rattle.nf_rules.specs.Rules.{first_index, is_placed}
use Rattle.nf_opening.proofs.placed.first_astray.Goals as goal

pub returns : goal.returns
returns c =
    c.first.ensures (λ row. not (is_placed c.args.loaded.now row)) (λ row told called. search rules)
    ∙ ap (λ (t : Tables). first_index (λ row. not (is_placed t row)) c.args.rows.now) c.requires.tables
