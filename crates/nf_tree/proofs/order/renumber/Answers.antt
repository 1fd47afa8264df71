use Rattle.std.proofs.Common.{rules, ◌≡◌, length, get_or, filter, nat_lt, ap, ◌∙◌, arith}
use Rattle.std.proofs.lemmas.List.Edits.{map_over_more}
use Rattle.std.proofs.lemmas.Fn.{filter_same}
use Rattle.nf_tree.proofs.Fates.{mapped}
use Rattle.nf_tree.proofs.order.renumber.Goals as goal

pub loop-at-preserved : goal.loop-at-preserved
loop-at-preserved c =
    let i = c.loop-at.invariant in
    record {
      places = map_over_more (λ at. get_or c.args.fates.now at 0) c.args.order.now.items c.loop-at.order.items c.loop-at.at c.index.result.now
          (omega (arith, c.loop-at-test.true, c.len-at-end.ensures, c.args.order.now.ok)) i.places c.index.ensures;
      long = i.long;
      room = i.room;
    }

pub returns-clause-order : goal.returns-clause-order
returns-clause-order c =
    let xs = c.args.order.now.items in
    let at = c.loop-at.at in
    let all : length xs ≡ at = omega (arith, c.loop-at-test.false, c.loop-at.auto.at-end, c.len-at-end.ensures, c.args.order.now.ok) in
    filter_same _ _ _ (λ x b f' k. search rules) _ _ c.retain.ensures.filtered
    ∙ ap (filter (λ to. nat_lt to (length c.args.fates.now))) (c.loop-at.invariant.places ∙ mapped (λ at. get_or c.args.fates.now at 0) xs at all)
