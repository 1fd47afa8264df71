use Rattle.std.proofs.Common.{Bool, length}
use Rattle.nf_base.specs.declared.rows.NodeRow.{NodeRow}
use Rattle.nf_charge.specs.Totals.{AreTotals}
use Rattle.nf_tree.specs.Order.{AreFates}
use Rattle.nf_tree.proofs.Totaled.{AreLess}
use Rattle.nf_tree.proofs.removal.take_all.Given as goal

-- the bytes of the rows so far that go are taken off
abbrev pub invariant-loop-at : goal.invariant-loop-at
invariant-loop-at l =
    (kept : NodeRow → Bool) → AreFates kept l.rows (length l.rows) l.fates → AreTotals l.rows l.fn.totals → AreLess kept l.rows l.at l.totals
