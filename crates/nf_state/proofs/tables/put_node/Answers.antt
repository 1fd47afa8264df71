use Rattle.std.proofs.Common.{◌∙◌, List, ap, sym}
use Rattle.std.specs.Prelude.{is_some}
use Rattle.nf_base.specs.declared.rows.NodeRow.{NodeRow}
use Rattle.nf_defs.specs.Prelude.{filled, node_row, with_node}
use Rattle.nf_state.proofs.Putting.{file_there, is_new, is_refilled, new_put, refilled_put}
use Rattle.nf_state.proofs.tables.put_node.Goals as goal

pub replace-requires : goal.replace-requires
replace-requires c =
    let old = c.args.tree.now.rows in
    let id = ap (λ (r : NodeRow). r.id) c.row.view_is in
    let there = ap (λ n. is_some (node_row old n)) (sym id) ∙ sym c.has_node.ensures ∙ c.if-has_node.true in
    rw id (file_there old c.args.row (is_refilled old c.args.row there c.requires.borne))

pub returns-then-has_node : goal.returns-then-has_node
returns-then-has_node c =
    let old = c.args.tree.now.rows in
    let id = ap (λ (r : NodeRow). r.id) c.row.view_is in
    let there = ap (λ n. is_some (node_row old n)) (sym id) ∙ sym c.has_node.ensures ∙ c.if-has_node.true in
    let put = refilled_put old c.args.row c.nodes.ensures.rising (is_refilled old c.args.row there c.requires.borne) in
    c.replace.ensures.rows
    ∙ ap (λ (r : NodeRow). record c.args.tree.now { rows = with_node old r.id (filled r.content r.changed) }) c.row.view_is
    ∙ ap (λ (rows : List NodeRow). record c.args.tree.now { rows = rows }) (sym put)

pub returns-else-has_node : goal.returns-else-has_node
returns-else-has_node c =
    let old = c.args.tree.now.rows in
    let id = ap (λ (r : NodeRow). r.id) c.row.view_is in
    let there = ap (λ n. is_some (node_row old n)) (sym id) ∙ sym c.has_node.ensures ∙ c.if-has_node.false in
    c.add.ensures ∙ ap (λ (rows : List NodeRow). record c.args.tree.now { rows = rows }) (sym (new_put old c.args.row (is_new old c.args.row there c.requires.borne)))
