use Rattle.std.proofs.Common.{◌==◌, List, ap, sym, ◌∙◌}
use Rattle.nf_base.specs.declared.rows.NodeRow.{NodeRow}
use Rattle.nf_defs.specs.Tree.{trashed, with_node}
use Rattle.nf_tree.proofs.Tops.{none_with}
use Rattle.nf_tree.proofs.Trees.{changed_rows}
use Rattle.nf_defs.proofs.Lookups.{fail_nowhere}
use Rattle.nf_tree.proofs.removal.lift.Goals as goal

pub returns-in-Some-clause-rows : goal.returns-in-Some-clause-rows
returns-in-Some-clause-rows c =
    let there = sym c.in-Some.is ∙ c.index_of.ensures in
    changed_rows c.deref.result.now c.args.rows.now.items c.in-Some.at c.args.top c.index_mut.result.now c.place.new.row trashed (sym c.deref.ensures.value) there
    c.index_mut.ensures.value c.place.ensures ∙ ap (λ (rows : List NodeRow). with_node rows c.args.top trashed) c.deref.ensures.value

pub returns-in_default-clause-rows : goal.returns-in_default-clause-rows
returns-in_default-clause-rows c =
    none_with c.args.rows.now.items c.args.top
    (fail_nowhere (λ (row : NodeRow). row.id == c.args.top) c.args.rows.now.items (rw c.deref.ensures.value at (sym c.in_default.is ∙ c.index_of.ensures)))
