use Rattle.std.proofs.Common.{◌≡◌, ◌++◌, ◌∷◌, [], length, ap, sym, ◌∙◌, arith}
use Rattle.std.specs.List.{range_with_len}
use Rattle.nf_tree.proofs.Orders.{range_more}
use Rattle.nf_tree.proofs.order.of.Goals as goal

pub loop-at-init : goal.loop-at-init
loop-at-init c = record {
  places = c.in_ok-reserve.ensures.items ∙ c.new-order.ensures.items;
  long = omega (arith, c.in_ok-reserve.ensures.len, c.new-order.ensures.len);
  room = omega (arith, c.in_ok-reserve.ensures.ok, c.in_ok-reserve.ensures.len, c.new-order.ensures.len);
}

pub loop-at-preserved : goal.loop-at-preserved
loop-at-preserved c = record {
  places = c.push_reserved.ensures.items ∙ ap (λ list. list ++ c.loop-at.at ∷ []) c.loop-at.invariant.places ∙ sym (range_more c.loop-at.at);
  long = omega (arith, c.push_reserved.ensures.len, c.loop-at.invariant.long);
  room = omega (arith, c.push_reserved.ensures.capacity, c.loop-at.invariant.room);
}

pub sort-requires-clause-all : goal.sort-requires-clause-all
sort-requires-clause-all c =
    let all : c.loop-at.at ≡ length c.args.rows.now = omega arith in
    c.loop-at.invariant.places ∙ ap (range_with_len 0) all
