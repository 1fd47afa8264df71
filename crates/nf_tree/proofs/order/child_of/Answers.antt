use Rattle.std.proofs.Common.{rules, Some, ◌<◌, get_or, length, ◌∙◌, sym, ap}
use Rattle.nf_base.specs.NodeValue.{NodeValue}
use Rattle.nf_tree.proofs.Childs.{child_read, child_past, child_other}
use Rattle.nf_tree.proofs.order.child_of.Goals as goal
use Rattle.nf_tree.proofs.order.child_of.Goals.{then-at-order+else-is_child, else-at-order}

pub offset_bounds-rows-order : goal.offset_bounds-rows-order
offset_bounds-rows-order c =
    let there : get_or c.args.order.now c.cut-at.result 0 < length c.args.rows.now = c.requires.index.within c.cut-at.result 0 c.if-at-order.true in
    search rules

pub bounds-rows-order : goal.bounds-rows-order
bounds-rows-order c = c.requires.index.within c.cut-at.result 0 c.if-at-order.true

pub returns-then-is_child : goal.returns-then-is_child
returns-then-is_child c =
    ap (λ (row : NodeValue). Some row.id) c.row.view_is
    ∙ sym (child_read c.args.rows.now c.args.order.now c.args.folder c.args.name.now c.cut-at.result c.requires.rising c.requires.index (rw c.new.ensures at c.cut-at.ensures)
    c.index-rows-order.result c.if-at-order.true c.index-rows-order.is (sym c.is_child.ensures ∙ c.if-is_child.true))

pub returns : goal.returns
returns c = elim c.if-at-order.branch [
  | then-at-order+else-is_child w ↦
      sym (child_other c.args.rows.now c.args.order.now c.args.folder c.args.name.now c.cut-at.result c.requires.rising c.requires.index (rw c.new.ensures at c.cut-at.ensures)
      w.index-rows-order.result w.if-at-order.true w.index-rows-order.is (sym w.is_child.ensures ∙ w.if-is_child.false))
  | else-at-order w ↦ sym (child_past c.args.rows.now c.args.order.now c.args.folder c.args.name.now c.cut-at.result c.requires.rising c.requires.index (rw c.new.ensures at c.cut-at.ensures) w.if-at-order.false)
]
