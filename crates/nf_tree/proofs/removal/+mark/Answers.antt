use Rattle.std.proofs.Common.{◌-◌, ◌≡◌, false, subst, sym, ◌∙◌, arith}
use Rattle.nf_base.specs.NodeValue.{NodeValue}
use Rattle.nf_defs.specs.Tree.{is_in, walk_within}
use Rattle.nf_tree.specs.Order.{AreMarked}
use Rattle.nf_tree.proofs.Children.{all_more, children_all, row_read}
use Rattle.nf_tree.proofs.Marks.{all_marked, child_marked, none_under}
use Rattle.nf_tree.proofs.removal.+mark.Goals as goal

pub loop-at-preserved : goal.loop-at-preserved
loop-at-preserved t c =
    let rows = c.args.rows.now in
    let order = c.args.order.now in
    let from = c.first_in-at.result in
    let at = c.loop-at.at in
    let i = c.loop-at.invariant in
    let read = row_read rows order at c.index-rows-order.result c.requires.index c.loop-at-test.true c.index-rows-order.is in
    record {
      start = omega arith;
      end = omega arith;
      all = all_more rows order c.args.node from at c.index-rows-order.result i.start c.loop-at-test.true read (sym c.is_in.ensures ∙ c.if-not-is_in.false) i.all;
      marks = child_marked rows order c.args.node c.args.down from at c.index-rows-order.result c.args.marks.now.items c.loop-at.marks.items _ i.start c.loop-at-test.true read i.marks
          (subst (λ (r : NodeValue). AreMarked rows (walk_within (c.args.down - 1) rows r.id) c.loop-at.marks.items c.mark.new.marks.items) c.row.view_is c.mark.ensures.marks);
      room = c.mark.ensures.room ∙ i.room;
    }

pub returns-then-not-is_in-clause-marks : goal.returns-then-not-is_in-clause-marks
returns-then-not-is_in-clause-marks t c =
    let rows = c.args.rows.now in
    let order = c.args.order.now in
    let i = c.loop-at.invariant in
    let read = row_read rows order c.loop-at.at c.index-rows-order.result c.requires.index c.loop-at-test.true c.index-rows-order.is in
    let other = sym c.is_in.ensures ∙ c.if-not-is_in.true in
    all_marked rows order c.args.node c.args.down c.first_in-at.result c.loop-at.at c.args.marks.now.items c.loop-at.marks.items c.if-down-gt0.true
    (children_all rows order c.args.node c.first_in-at.result c.loop-at.at c.requires.rising c.requires.index c.first_in-at.ensures i.start i.end i.all
    (λ more. subst (λ row. is_in c.args.node row ≡ false) read other)) i.marks

pub returns-after-loop-at-clause-marks : goal.returns-after-loop-at-clause-marks
returns-after-loop-at-clause-marks t c =
    let rows = c.args.rows.now in
    let order = c.args.order.now in
    let i = c.loop-at.invariant in
    all_marked rows order c.args.node c.args.down c.first_in-at.result c.loop-at.at c.args.marks.now.items c.loop-at.marks.items c.if-down-gt0.true
    (children_all rows order c.args.node c.first_in-at.result c.loop-at.at c.requires.rising c.requires.index c.first_in-at.ensures i.start i.end i.all
    (λ more. absurd (omega (arith, c.loop-at-test.false)))) i.marks

pub returns-else-down-gt0-clause-marks : goal.returns-else-down-gt0-clause-marks
returns-else-down-gt0-clause-marks t c =
    none_under c.args.rows.now c.args.node c.args.down c.args.marks.now.items c.mark_row.new.marks.items (omega (arith, c.if-down-gt0.false)) c.mark_row.ensures.marks
