use Rattle.std.proofs.Common.{◌+◌, ◌<◌, ◌≤◌, ◌≡◌, List, length, get_or, filter, refl, ap, sym, subst, ◌∙◌, arith}
use Rattle.std.proofs.lemmas.List.{get_or_default}
use Rattle.std.proofs.lemmas.List.Filters.{FiltersInPlace-all, FiltersInPlace-more_here, FiltersInPlace-more_no, FiltersInPlace-more_swap}
use Rattle.std.proofs.lemmas.List.Edits.{length-swap}
use Rattle.nf_base.specs.declared.rows.NodeRow.{NodeRow}
use Rattle.nf_charge.specs.Sums.{AreSums, AreWeighed}
use Rattle.nf_charge.specs.Totals.{AreTotals}
use Rattle.nf_defs.specs.Tree.{piece_count, without_all}
use Rattle.nf_tree.specs.Order.{AreFates, all_lifted, outstays}
use Rattle.nf_charge.proofs.Positions.{no_row}
use Rattle.nf_tree.proofs.Fates.{goes_by, gone_kept, gone_more, gone_rest, stays_by, still}
use Rattle.nf_tree.proofs.Weights.{weighed_swapped, weighed_taken}
use Rattle.nf_tree.proofs.Tops.{all_left, fates_lifted, lifted_left, pieces_lifted, sums_left_all}
use Rattle.nf_tree.proofs.removal.drop_under.Goals as goal
use Rattle.nf_tree.proofs.removal.drop_under.Goals.{then-index-end, then-kept-at, else-kept-at, else-index-end}

pub loop-at-init : goal.loop-at-init
loop-at-init c = record {
  filtered = record { front = refl; rest = refl; behind = omega arith; within = omega arith; long = refl };
  gone = refl;
  bound = omega arith;
  same = refl;
  room = c.lift_all.ensures.rows_room;
  sums_long = omega (arith, c.lift_all.ensures.sums.weighed.long, c.lift_all.new.rows.ok);
  weighed = λ all weighed. weighed;
  sums_room = c.lift_all.ensures.sums_room;
}

pub swap-requires-then-kept-at-clause-a : goal.swap-requires-then-kept-at-clause-a
swap-requires-then-kept-at-clause-a c = omega (arith, c.loop-at.invariant.sums_long, c.len-end.ensures, c.if-kept-at.true, c.loop-at-test.true)

pub swap-requires-then-kept-at-clause-b : goal.swap-requires-then-kept-at-clause-b
swap-requires-then-kept-at-clause-b c = omega (arith, c.loop-at.invariant.sums_long, c.len-end.ensures, c.loop-at-test.true)

pub loop-at-preserved : goal.loop-at-preserved
loop-at-preserved c =
    let rows = c.args.rows.now.items in
    let tops = c.args.tops.now in
    let xs = c.lift_all.new.rows.items in
    let ys = c.loop-at.rows.items in
    let p = outstays rows tops in
    let fates = c.settle.new.fates.items in
    let kept = c.loop-at.kept in
    let at = c.loop-at.at in
    let i = c.loop-at.invariant in
    let end : c.len-end.result ≡ length xs = omega (arith, c.len-end.ensures, c.lift_all.new.rows.ok) in
    let within : at < length xs = omega (arith, end, c.loop-at-test.true) in
    let high : at < length ys = omega (arith, i.filtered.long, within) in
    let first : AreFates p rows (length rows) fates = rw c.deref.ensures.value at c.settle.ensures.fates in
    let are : AreFates p xs (length xs) fates =
    subst (λ (list : List NodeRow). AreFates p list (length list) fates) (sym c.lift_all.ensures.rows) (fates_lifted tops rows fates c.requires.rising c.requires.leads first) in
    let read = get_or_default ys at no_row (get_or ys at no_row) high in
    let as_was : get_or ys at no_row ≡ get_or xs at no_row = still p xs ys kept at no_row i.filtered in
    elim c.if-index-end.branch [
      | then-index-end w ↦
          (let passes = stays_by p xs ys fates kept at c.index.result.now are i.filtered within c.index.ensures (omega (arith, end, w.if-index-end.true)) in
          let same = gone_kept p xs at no_row within (ap p (sym as_was) ∙ passes) in
          elim w.if-kept-at.branch [
            | then-kept-at v ↦ rw (
              w.rows-is,
              w.sums-is,
              w.kept-is,
              w.gone-is,
              v.rows-is,
              v.sums-is,
              v.swap-then-kept-at.ensures.sums,
              v.swap-then-kept-at.ensures.room,
            ) (record {
              filtered = FiltersInPlace-more_swap i.filtered high passes read v.swap.ensures.by_index;
              gone = i.gone ∙ sym same;
              bound = omega (arith, i.bound);
              same = v.swap.ensures.len ∙ i.same;
              room = v.swap.ensures.capacity ∙ i.room;
              sums_long = length-swap c.loop-at.sums.sums kept at ∙ i.sums_long;
              weighed = λ all weighed.
                  weighed_swapped all ys c.loop-at.sums.sums (i.weighed all weighed) _ kept at (omega arith) high
                  (omega (arith, v.swap.ensures.len)) v.swap.ensures.by_index;
              sums_room = i.sums_room;
            })
            | else-kept-at v ↦ rw (w.rows-is, w.sums-is, w.kept-is, w.gone-is, v.rows-is, v.sums-is) (record {
              filtered = FiltersInPlace-more_here i.filtered high passes read (omega (arith, i.filtered.behind, v.if-kept-at.false));
              gone = i.gone ∙ sym same;
              bound = omega (arith, i.bound);
              same = i.same;
              room = i.room;
              sums_long = i.sums_long;
              weighed = i.weighed;
              sums_room = i.sums_room;
            })
          ])
      | else-index-end w ↦
          (let fails = goes_by p xs ys fates kept at c.index.result.now are i.filtered within c.index.ensures (omega (arith, end, w.if-index-end.false)) in
          let more = gone_more p xs at no_row within (ap p (sym as_was) ∙ fails) in
          let row = w.index-else-index-end.result.now in
          let is = ap (λ (r : NodeRow). length r.content) (w.index-else-index-end.ensures ∙ get_or_default ys at row no_row high ∙ as_was) in
          rw (w.rows-is, w.sums-is, w.kept-is, w.gone-is) (record {
            filtered = FiltersInPlace-more_no i.filtered high fails read;
            gone = omega (arith, i.gone, w.pieces_of-gone.ensures.count, is, more);
            bound = omega (arith, i.bound, w.pieces_of-gone.ensures.few);
            same = i.same;
            room = i.room;
            sums_long = i.sums_long;
            weighed = i.weighed;
            sums_room = i.sums_room;
          }))
    ]

pub returns-clause-rows : goal.returns-clause-rows
returns-clause-rows c =
    let all : length c.lift_all.new.rows.items ≤ c.loop-at.at = omega (arith, c.len-end.ensures, c.lift_all.new.rows.ok, c.loop-at-test.false) in
    c.truncate.ensures.items ∙ FiltersInPlace-all c.loop-at.invariant.filtered all
    ∙ ap (filter (outstays c.args.rows.now.items c.args.tops.now)) c.lift_all.ensures.rows
    ∙ lifted_left c.args.tops.now c.args.rows.now.items c.requires.rising c.requires.leads

pub returns-clause-pieces : goal.returns-clause-pieces
returns-clause-pieces c =
    let rows = c.args.rows.now.items in
    let xs = c.lift_all.new.rows.items in
    let p = outstays rows c.args.tops.now in
    let i = c.loop-at.invariant in
    let all : length xs ≤ c.loop-at.at = omega (arith, c.len-end.ensures, c.lift_all.new.rows.ok, c.loop-at-test.false) in
    ap (λ list. c.loop-at.gone + piece_count list) (c.truncate.ensures.items ∙ FiltersInPlace-all i.filtered all)
    ∙ ap (λ n. n + piece_count (filter p xs)) i.gone ∙ gone_rest p xs c.loop-at.at all
    ∙ ap piece_count c.lift_all.ensures.rows ∙ pieces_lifted c.args.tops.now rows

pub returns-clause-sums : goal.returns-clause-sums
returns-clause-sums c =
    let rows = c.args.rows.now.items in
    let tops = c.args.tops.now in
    let xs = c.lift_all.new.rows.items in
    let p = outstays rows tops in
    let i = c.loop-at.invariant in
    let all : length xs ≤ c.loop-at.at = omega (arith, c.len-end.ensures, c.lift_all.new.rows.ok, c.loop-at-test.false) in
    let left = c.truncate-2.new.self.sums in
    let rest = c.truncate.ensures.items ∙ FiltersInPlace-all i.filtered all ∙ ap (filter p) c.lift_all.ensures.rows ∙ lifted_left tops rows c.requires.rising c.requires.leads in
    let kept = weighed_taken xs c.loop-at.rows.items c.loop-at.sums.sums (i.weighed xs c.lift_all.ensures.sums.weighed) c.loop-at.kept in
    let weighed : AreWeighed xs c.truncate.new.self.items left = rw (c.truncate-2.ensures.sums, c.truncate.ensures.items) kept in
    let all_weighed : AreWeighed (all_lifted rows tops) (without_all rows tops) left =
    subst (λ (list : List NodeRow). AreWeighed list (without_all rows tops) left) c.lift_all.ensures.rows
    (subst (λ (list : List NodeRow). AreWeighed xs list left) rest weighed) in
    subst (λ (list : List NodeRow). AreSums list left) (sym rest)
    (sums_left_all tops rows c.requires.rising c.requires.leads c.args.sums.now.sums left c.requires.sums all_weighed)

pub returns-clause-sums_room : goal.returns-clause-sums_room
returns-clause-sums_room c = c.truncate-2.ensures.room ∙ c.loop-at.invariant.sums_room

pub returns-clause-totals : goal.returns-clause-totals
returns-clause-totals c =
    let rows = c.args.rows.now.items in
    let tops = c.args.tops.now in
    let xs = c.lift_all.new.rows.items in
    let p = outstays rows tops in
    let all : length xs ≤ c.loop-at.at = omega (arith, c.len-end.ensures, c.lift_all.new.rows.ok, c.loop-at-test.false) in
    let rest = c.truncate.ensures.items ∙ FiltersInPlace-all c.loop-at.invariant.filtered all ∙ ap (filter p) c.lift_all.ensures.rows
    ∙ lifted_left tops rows c.requires.rising c.requires.leads ∙ all_left tops rows c.requires.rising c.requires.leads in
    let fates : AreFates p rows (length rows) c.settle.new.fates.items = rw c.deref.ensures.value at c.settle.ensures.fates in
    let taken = rw (c.deref-2.ensures.value, c.deref-3.ensures.value) at c.take_all.ensures in
    subst (λ (list : List NodeRow). AreTotals list c.take_all.new.totals) (sym rest) (taken p fates c.requires.totals)
