use Rattle.std.proofs.Common.{◌==◌, sym, ◌∙◌}
use Rattle.nf_base.specs.declared.rows.NodeRow.{NodeRow}
use Rattle.nf_defs.proofs.Lookups.{find_there, find_nowhere}
use Rattle.nf_tree.proofs.nodes.node_row.Goals as goal

pub returns-in-Some : goal.returns-in-Some
returns-in-Some c = find_there (λ (row : NodeRow). row.id == c.args.node) c.args.rows.now c.in-Some.at c.index-rows-at.result (sym c.in-Some.is ∙ c.index_of.ensures) c.index-rows-at.is

pub returns-in-None : goal.returns-in-None
returns-in-None c = find_nowhere (λ (row : NodeRow). row.id == c.args.node) c.args.rows.now (sym c.in-None.is ∙ c.index_of.ensures)
