use Rattle.std.proofs.Common.{◌≡◌, length, ◌∙◌, arith}
use Rattle.std.proofs.lemmas.List.Edits.{map_over_more}
use Rattle.nf_tree.specs.Order.{lowered}
use Rattle.nf_tree.proofs.Fates.{mapped}
use Rattle.nf_tree.proofs.order.lower.Goals as goal

pub loop-at-preserved : goal.loop-at-preserved
loop-at-preserved c =
    let i = c.loop-at.invariant in
    record {
      places = rw c.lowered.ensures (map_over_more (lowered c.args.gone) c.args.order.now.items c.loop-at.order.items c.loop-at.at c.index.result.now
          (omega (arith, c.loop-at-test.true, c.len-at-end.ensures, c.args.order.now.ok)) i.places c.index.ensures);
      long = i.long;
      room = i.room;
    }

pub returns-clause-order : goal.returns-clause-order
returns-clause-order c =
    let xs = c.args.order.now.items in
    let at = c.loop-at.at in
    let all : length xs ≡ at = omega (arith, c.loop-at-test.false, c.loop-at.auto.at-end, c.len-at-end.ensures, c.args.order.now.ok) in
    c.loop-at.invariant.places ∙ mapped (lowered c.args.gone) xs at all
