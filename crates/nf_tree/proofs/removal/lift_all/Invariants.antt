use Rattle.std.proofs.Common.{◌≡◌, drop, vec_len, vec_capacity}
use Rattle.nf_charge.specs.Sums.{AreSums, LeadUp}
use Rattle.nf_tree.specs.Order.{AreRisingNodes, all_lifted}
use Rattle.nf_tree.proofs.removal.lift_all.Given as goal

-- with the tops that are left to lift the rows are those that are wanted
abbrev pub invariant-loop-top : goal.invariant-loop-top
invariant-loop-top l = record {
  rising : AreRisingNodes l.rows.items;
  leads : LeadUp l.rows.items;
  sums : AreSums l.rows.items l.sums.sums;
  lifted : all_lifted l.rows.items (drop l.top-index l.tops) ≡ all_lifted l.fn.rows.items l.tops;
  long : vec_len l.rows ≡ vec_len l.fn.rows;
  rows_room : vec_capacity l.rows ≡ vec_capacity l.fn.rows;
  sums_room : l.sums.room ≡ l.fn.sums.room;
}
