use Rattle.std.proofs.Common.{◌≤◌, length, subst, arith}
use Rattle.std.proofs.lemmas.Grind.{common_steps}
use Rattle.std.proofs.lemmas.List.Elements.{All-more}
use Rattle.nf_base.specs.declared.limits.TheConstants.{MAX_PIECES}
use Rattle.nf_base.specs.declared.rows.NodeRow.{NodeRow}
use Rattle.nf_tree.proofs.nodes.piece_count.Goals as goal

pub loop-row-preserved : goal.loop-row-preserved
loop-row-preserved c =
    let few = subst (λ n. n ≤ MAX_PIECES) c.pieces_of-count.ensures.count c.pieces_of-count.ensures.few in
    let here = subst (λ (row : NodeRow). length row.content ≤ MAX_PIECES) c.row-item.is few in
    record {
      count = grind (arith, common_steps);
      bound = omega (arith, c.pieces_of-count.ensures.few, c.loop-row.invariant.bound);
      small = All-more (λ (row : NodeRow). length row.content ≤ MAX_PIECES) c.args.rows.now c.loop-row.row-index c.row-item.result c.loop-row-test.true c.loop-row.invariant.small here;
    }
