use Rattle.std.proofs.Common.{ap, subst, sym, take, ◌∙◌}
use Rattle.nf_base.specs.Content.{size_of}
use Rattle.nf_base.specs.declared.rows.NodeRow.{NodeRow}
use Rattle.nf_charge.specs.Totals.{AreTotals}
use Rattle.nf_charge.proofs.Totaling.{totals_more}
use Rattle.nf_charge.proofs.totals.Totals.of.Goals as goal

pub loop-row-preserved : goal.loop-row-preserved
loop-row-preserved c =
    let new = c.add.new.self in
    let rows = c.args.rows.now in
    let at = c.loop-row.row-index in
    let added = rw (ap (λ (row : NodeRow). row.owner) c.row.view_is, c.size.ensures ∙ ap (λ (row : NodeRow). size_of row.content) c.row.view_is) at c.add.ensures in
    totals_more rows at c.row-item.result c.reserve.new.self new c.loop-row-test.true c.row-item.is
    (subst (AreTotals (take at rows)) (sym c.in_ok-reserve.ensures) c.loop-row.invariant) added
