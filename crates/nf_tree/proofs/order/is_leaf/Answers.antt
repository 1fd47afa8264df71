use Rattle.std.proofs.Common.{◌<◌, ◌≡◌, false, not, length, ap, sym, subst, ◌∙◌, inl, inr, arith}
use Rattle.std.proofs.lemmas.Bool.{cases_Bool, eq-eqb}
use Rattle.nf_defs.specs.Tree.{is_in}
use Rattle.nf_tree.proofs.Children.{has_child, no_child, row_read}
use Rattle.nf_tree.proofs.order.is_leaf.Goals as goal

pub returns-then-at-order : goal.returns-then-at-order
returns-then-at-order c =
    let all = no_child c.args.rows.now c.args.order.now c.args.node c.first_in-at.result c.requires.rising c.requires.index c.first_in-at.ensures (λ high. absurd (omega (arith, c.if-at-order.true))) in
    sym (all ∙ sym (eq-eqb c.first_in-at.result (length c.args.order.now) c.if-at-order.true))

pub returns-else-at-order : goal.returns-else-at-order
returns-else-at-order c =
    let rows = c.args.rows.now in
    let order = c.args.order.now in
    let at = c.first_in-at.result in
    let row = c.index-rows-order.result in
    let high : at < length order = omega (arith, c.first_in-at.ensures.bound, c.if-at-order.false) in
    let read = row_read rows order at row c.requires.index high c.index-rows-order.is in
    elim (cases_Bool (is_in c.args.node row)) [
      | inl child ↦ ap not (c.is_in.ensures ∙ child) ∙ sym (has_child rows order c.args.node at row c.requires.index high read child)
      | inr other ↦
          ap not (c.is_in.ensures ∙ other)
          ∙ sym (no_child rows order c.args.node at c.requires.rising c.requires.index c.first_in-at.ensures (λ more. subst (λ r. is_in c.args.node r ≡ false) read other))
    ]
