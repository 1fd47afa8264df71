use Rattle.std.proofs.Common.{rules, false, subst, [], ◌∷◌, ◌++◌, ◌<◌, ◌≡◌, get_or, length, ◌∙◌, sym, ap, arith}
use Rattle.nf_base.specs.NodeValue.{NodeValue}
use Rattle.nf_defs.specs.Tree.{is_in}
use Rattle.nf_tree.proofs.Children.{row_read, part_more, all_more, children_all}
use Rattle.nf_tree.proofs.order.children_of.Goals as goal

pub offset_bounds-rows-order : goal.offset_bounds-rows-order
offset_bounds-rows-order c =
    let there : get_or c.args.order.now c.loop-at.at 0 < length c.args.rows.now = c.requires.index.within c.loop-at.at 0 c.loop-at-test.true in
    search rules

pub bounds-rows-order : goal.bounds-rows-order
bounds-rows-order c = c.requires.index.within c.loop-at.at 0 c.loop-at-test.true

pub loop-at-preserved : goal.loop-at-preserved
loop-at-preserved c =
    let i = c.loop-at.invariant in
    let read = row_read c.args.rows.now c.args.order.now c.loop-at.at c.index-rows-order.result c.requires.index c.loop-at-test.true c.index-rows-order.is in
    record {
      start = omega arith;
      end = omega arith;
      all = all_more c.args.rows.now c.args.order.now c.args.folder c.first_in-at.result c.loop-at.at c.index-rows-order.result i.start c.loop-at-test.true read (sym c.is_in.ensures ∙ c.if-not-is_in.false) i.all;
      children = c.in_ok-push.ensures.items ∙ ap (λ (r : NodeValue). c.loop-at.children.items ++ r.id ∷ []) c.row.view_is
          ∙ ap (λ ids. ids ++ c.index-rows-order.result.id ∷ []) i.children
          ∙ sym (part_more c.args.rows.now c.args.order.now c.first_in-at.result c.loop-at.at c.index-rows-order.result i.start c.loop-at-test.true read);
    }

pub returns : goal.returns
returns c =
    let i = c.loop-at.invariant in
    i.children ∙ children_all c.args.rows.now c.args.order.now c.args.folder c.first_in-at.result c.loop-at.at c.requires.rising c.requires.index c.first_in-at.ensures i.start i.end i.all
    (λ more. absurd (omega (arith, c.loop-at-test.false)))

pub returns-then-not-is_in : goal.returns-then-not-is_in
returns-then-not-is_in c =
    let i = c.loop-at.invariant in
    let read = row_read c.args.rows.now c.args.order.now c.loop-at.at c.index-rows-order.result c.requires.index c.loop-at-test.true c.index-rows-order.is in
    let other = sym c.is_in.ensures ∙ c.if-not-is_in.true in
    i.children ∙ children_all c.args.rows.now c.args.order.now c.args.folder c.first_in-at.result c.loop-at.at c.requires.rising c.requires.index c.first_in-at.ensures i.start i.end i.all
    (λ more. subst (λ row. is_in c.args.folder row ≡ false) read other)
