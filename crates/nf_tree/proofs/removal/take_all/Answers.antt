use Rattle.std.proofs.Common.{◌<◌, length, get_or, ap, ◌∙◌, arith}
use Rattle.std.proofs.lemmas.List.{get_or_default, get_or_read}
use Rattle.nf_base.specs.Content.{size_of}
use Rattle.nf_base.specs.declared.rows.NodeRow.{NodeRow}
use Rattle.nf_charge.proofs.Positions.{no_row}
use Rattle.nf_tree.proofs.Fates.{goes_at, stays_at}
use Rattle.nf_tree.proofs.Totaled.{less_all, less_kept, less_none, less_taken}
use Rattle.nf_tree.proofs.removal.take_all.Goals as goal
use Rattle.nf_tree.proofs.removal.take_all.Goals.{then-fates-at, else-fates-at}

pub loop-at-init : goal.loop-at-init
loop-at-init c kept are totals = less_none kept c.args.rows.now c.args.totals.now totals

pub loop-at-preserved : goal.loop-at-preserved
loop-at-preserved c kept are totals =
    let rows = c.args.rows.now in
    let fates = c.args.fates.now in
    let at = c.loop-at.at in
    let within : at < length rows = c.loop-at-test.true in
    let less = c.loop-at.invariant kept are totals in
    elim c.if-fates-at.branch [
      | then-fates-at w ↦
          (let row = w.index-rows-at.result in
          let goes = ap kept (get_or_read rows at row within w.index-rows-at.is no_row) ∙ goes_at kept rows fates at are within w.if-fates-at.true in
          let taken = rw (ap (λ (row : NodeRow). row.owner) w.row.view_is, w.size.ensures ∙ ap (λ (row : NodeRow). size_of row.content) w.row.view_is) at w.take.ensures in
          rw w.totals-is (less_taken kept rows at row within w.index-rows-at.is c.loop-at.totals w.take.new.self goes taken less))
      | else-fates-at w ↦
          (let row = get_or rows at no_row in
          let stays = stays_at kept rows fates at are within (λ same. let low = w.if-fates-at.false in absurd (omega arith)) in
          rw w.totals-is (less_kept kept rows at row within (get_or_default rows at no_row row within) c.loop-at.totals stays less))
    ]

pub returns : goal.returns
returns c kept are totals = less_all kept c.args.rows.now c.loop-at.at c.loop-at.totals c.loop-at-test.false (c.loop-at.invariant kept are totals)
