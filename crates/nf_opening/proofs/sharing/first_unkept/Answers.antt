use Rattle.std.proofs.Common.{rules, ap, ◌∙◌, not}
use Rattle.nf_defs.specs.Tables.{Tables}
use Rattle.nf_rules.specs.Rules.{first_index, is_shared_well}
use Rattle.nf_opening.proofs.sharing.first_unkept.Goals as goal

pub returns : goal.returns
returns c =
    c.first.ensures (λ row. not (is_shared_well c.args.loaded.now row)) (λ row told called. search rules)
    ∙ ap (λ (t : Tables). first_index (λ row. not (is_shared_well t row)) c.args.rows.now) c.requires.tables
