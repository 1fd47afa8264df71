use Rattle.std.proofs.Common.{rules, ap, ◌∙◌, not}
use Rattle.nf_base.specs.declared.rows.MetaRow.{MetaRow}
use Rattle.nf_rules.specs.Rules.{are_numbers, first_index}
use Rattle.nf_opening.proofs.alone.first_ungiven.Goals as goal

pub returns : goal.returns
returns c =
    c.first.ensures (λ row. not (are_numbers c.args.meta.now row)) (λ row told called. search rules)
    ∙ ap (λ (meta : MetaRow). first_index (λ row. not (are_numbers meta row)) c.args.rows.now) c.requires
