use Rattle.std.proofs.Common.{rules, sym, ap, refl, ◌∙◌}
use Rattle.std.specs.Option.{option_copied}
use Rattle.nf_tree.proofs.Orders.{key_at_some, key_at_none}
use Rattle.nf_tree.proofs.order.key_at.Goals as goal

pub returns-in-Some : goal.returns-in-Some
returns-in-Some c =
    let there = key_at_some c.args.rows.now c.args.at c.in-Some.row.now (sym c.get_row.ensures ∙ ap option_copied c.in-Some.is) in
    rw (there, ← c.row.view_is, c.folder_of.ensures) (search rules)

pub returns-in-None : goal.returns-in-None
returns-in-None c =
    let there = key_at_none c.args.rows.now c.args.at (sym c.get_row.ensures ∙ ap option_copied c.in-None.is) in
    rw (there, c.new.ensures) refl
