use Rattle.std.proofs.Common.{sym, subst, ◌∙◌}
use Rattle.nf_defs.specs.Rising.{AreRising}
use Rattle.nf_defs.proofs.Loads.{rising_more, rows_more}
use Rattle.nf_opening.proofs.loaded.Loaded.of.Goals as goal

pub loop-row-preserved : goal.loop-row-preserved
loop-row-preserved c =
    let t = c.loop-row.loaded in
    let row = c.in_ok-copy.field-0 in
    record {
      left = rows_more t c.put.new.self c.args.rows.now c.loop-row.row-index row c.loop-row-test.true (cc (c.in_ok-copy.ensures, c.row-item.is)) c.in_ok-put.ensures
          ∙ c.loop-row.invariant.left;
      rising = subst AreRising (sym c.in_ok-put.ensures) (rising_more t row c.loop-row.invariant.rising);
    }
