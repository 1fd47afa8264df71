use Rattle.std.proofs.Common.{◌≡◌, ◌*◌, ◌≤◌, take}
use Rattle.std.specs.Prelude.{filter_map, sum_by}
use Rattle.nf_base.specs.declared.limits.TheConstants.{MAX_NODES, MAX_SHARES}
use Rattle.nf_site.specs.Totals.{counted_row, grants_by}
use Rattle.nf_site.proofs.totals.totals_in.Given as goal

abbrev pub invariant-loop-row : goal.invariant-loop-row
invariant-loop-row l =
    (l.totals.users.items ≡ filter_map (counted_row l.tree.rows l.versions) (take l.row-index l.rows))
    × (l.totals.grants ≡ sum_by (grants_by l.base l.tree.rows) (take l.row-index l.rows))
    × (l.totals.grants ≤ MAX_SHARES * MAX_NODES * l.row-index)
