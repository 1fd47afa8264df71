use Rattle.std.proofs.Common.{ap, not}
use Rattle.nf_mounts.proofs.Puts.{entry_fits, kept_left, kept_put}
use Rattle.nf_mounts.proofs.names.renew.Goals as goal

pub put-requires : goal.put-requires
put-requires c none =
    rw c.clear.ensures.room
    (entry_fits c.clear.new.index.rows c.args.rows.now.rows c.args.row.now c.requires.index.rows_rise c.clear.ensures.cleared c.args.index.now.room
    c.requires.room (ap not c.if-not-row.true))

pub returns-then-not-row-clause-index : goal.returns-then-not-row-clause-index
returns-then-not-row-clause-index c =
    rw (c.put.ensures.rows, c.of.ensures)
    (kept_put c.clear.new.index.rows c.args.rows.now.rows c.args.row.now c.requires.index.rows_rise c.clear.ensures.cleared (ap not c.if-not-row.true))

pub returns-else-not-row-clause-index : goal.returns-else-not-row-clause-index
returns-else-not-row-clause-index c =
    kept_left c.clear.new.index.rows c.args.rows.now.rows c.args.row.now c.requires.index.rows_rise c.clear.ensures.cleared (ap not c.if-not-row.false)
