use Rattle.std.proofs.Common.{rules, ◌+◌, ◌<◌, ◌≤◌, ◌≡◌, length, get_or, take, subst, ◌∙◌, refl, arith}
use Rattle.std.proofs.lemmas.Grind.{get_or_default_zero}
use Rattle.std.proofs.lemmas.List.{length-take-le}
use Rattle.nf_tree.specs.Order.{outstays}
use Rattle.nf_tree.proofs.Fates.{fewer}
use Rattle.nf_tree.proofs.Marks.{all_settled, goes_next, none_settled, stays_next}
use Rattle.nf_tree.proofs.removal.settle.Goals as goal
use Rattle.nf_tree.proofs.removal.settle.Goals.{then-index-end, else-index-end}

pub loop-at-init : goal.loop-at-init
loop-at-init c = record {
  settled = none_settled c.args.rows.now c.args.tops.now c.mark_all.new.marks.items c.mark_all.ensures.marks;
  kept = refl;
  room = c.mark_all.ensures.room ∙ c.blank.ensures.room;
}

pub overflow_add-kept : goal.overflow_add-kept
overflow_add-kept c =
    let n = c.loop-at.at in
    let few = fewer (outstays c.args.rows.now c.args.tops.now) (take n c.args.rows.now) in
    let long = length-take-le n c.args.rows.now (omega (arith, c.loop-at-test.true)) in
    let less : c.loop-at.kept + 1 ≤ length c.args.rows.now = omega (arith, few, long, c.loop-at.invariant.kept, c.loop-at-test.true) in
    search rules

pub loop-at-preserved : goal.loop-at-preserved
loop-at-preserved c =
    let rows = c.args.rows.now in
    let p = outstays rows c.args.tops.now in
    let at = c.loop-at.at in
    let i = c.loop-at.invariant in
    let fates = c.loop-at.fates.items in
    let within : at < length rows = c.loop-at-test.true in
    let read : c.index.result.now ≡ get_or fates at 0 = c.index.ensures ∙ get_or_default_zero fates at c.index.result.now (omega (arith, i.settled.long, within)) in
    elim c.if-index-end.branch [
      | then-index-end w ↦ rw (w.fates-is, w.kept-is) (
          let next = stays_next p rows at fates i.settled within c.loop-at.kept (subst (λ fate. fate < length rows) read w.if-index-end.true) i.kept in
          record { settled = next.0; kept = next.1; room = i.room })
      | else-index-end w ↦ rw (w.fates-is, w.kept-is) (
          let next = goes_next p rows at fates i.settled within c.loop-at.kept (subst (λ fate. length rows ≤ fate) read w.if-index-end.false) i.kept in
          record { settled = next.0; kept = next.1; room = i.room })
    ]

pub returns-clause-fates : goal.returns-clause-fates
returns-clause-fates c = all_settled (outstays c.args.rows.now c.args.tops.now) c.args.rows.now c.loop-at.at c.loop-at.fates.items c.loop-at.invariant.settled
    (omega (arith, c.loop-at-test.false))
