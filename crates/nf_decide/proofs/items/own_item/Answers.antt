use Rattle.std.proofs.Common.{ap, sym, ◌∙◌}
use Rattle.std.specs.Prelude.{option_copied}
use Rattle.nf_deeds.proofs.Walks.{found_itself}
use Rattle.nf_decide.proofs.items.own_item.Goals as goal

pub returns-then-eq-clause-there : goal.returns-then-eq-clause-there
returns-then-eq-clause-there c =
    found_itself c.args.view.now.tables.items c.args.node c.in_ok-item.item.now (sym c.item_row.ensures ∙ ap option_copied c.in_ok-item.was)
