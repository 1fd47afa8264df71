use Rattle.std.proofs.Common.{rules, ap, ◌∙◌}
use Rattle.nf_defs.specs.Tables.{Tables}
use Rattle.nf_rules.specs.Rules.{first_index, is_beyond}
use Rattle.nf_opening.proofs.limits.first_beyond.Goals as goal

pub returns : goal.returns
returns c =
    c.first.ensures (is_beyond c.args.loaded.now) (λ row told called. search rules)
    ∙ ap (λ (t : Tables). first_index (is_beyond t) c.args.rows.now) c.requires
