use Rattle.std.proofs.lemmas.Result.{err_from_is_err_and}
use Rattle.nf_desk.proofs.Loadings.{spelled_more, unread_here}
use Rattle.nf_desk.proofs.loading.read_rows.Goals as goal

pub returns-in_err-row : goal.returns-in_err-row
returns-in_err-row c =
    let p = err_from_is_err_and c.from_residual.result c.from_residual.ensures.1 in
    rw (p.1, p.2)
    (unread_here c.args.raws.now c.loop-raw.raw-index c.raw-item.result c.loop-raw.rows c.in_err-row.field-0.0 c.loop-raw-test.true
    c.raw-item.is c.loop-raw.invariant (rw c.rows-in-loop-raw.ensures.rows at c.in_err-row.ensures.err))

pub loop-raw-preserved : goal.loop-raw-preserved
loop-raw-preserved c =
    spelled_more c.args.raws.now c.loop-raw.raw-index c.raw-item.result c.loop-raw.rows c.push.new.self c.in_ok-row.row
    c.loop-raw-test.true c.raw-item.is c.loop-raw.invariant c.in_ok-row.ensures.ok c.in_ok-push.ensures.ok
