use Rattle.nf_base.specs.declared.limits.TheConstants.{MAX_NODES, MAX_SHARES}
use Rattle.std.proofs.Common.{◌*◌}
use Rattle.nf_site.proofs.Counting.{more_row}
use Rattle.nf_site.proofs.totals.totals_in.Goals as goal

pub loop-row-preserved : goal.loop-row-preserved
loop-row-preserved c =
    more_row c.args.tree.now.rows c.args.versions.now c.args.base.now c.args.rows.now c.loop-row.row-index c.row-item.result
    c.loop-row.totals.users.items c.add.new.totals.users.items c.loop-row.totals.grants c.add.new.totals.grants (MAX_SHARES * MAX_NODES)
    c.loop-row-test.true c.row-item.is c.in_ok-add.ensures.users c.in_ok-add.ensures.grants c.in_ok-add.ensures.few c.loop-row.invariant
