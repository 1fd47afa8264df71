use Rattle.std.proofs.Common.{option_copied, sym, ◌∙◌, ap, Some, true, false}
use Rattle.nf_words.specs.Holds.{blocks}
use Rattle.nf_locks.proofs.Least.{least_more}
use Rattle.nf_locks.specs.Touches.{sooner}
use Rattle.nf_locks.proofs.way.least_in_way.Goals as goal
use Rattle.nf_locks.proofs.way.least_in_way.Goals.{then-blocks, else-blocks}

pub loop-ticket-preserved : goal.loop-ticket-preserved
loop-ticket-preserved c =
    let test = blocks c.args.tree.now.rows c.args.seat c.args.touches.now in
    let i = c.loop-ticket.ticket-index in
    let ticket = c.ticket-item.result in
    elim c.if-blocks.branch [
      | then-blocks w ↦ ap option_copied w.found-is ∙ ap Some w.sooner.ensures
          ∙ ap (λ found. Some (sooner found ticket)) c.loop-ticket.invariant
          ∙ sym (least_more test c.args.tickets.now i ticket true c.loop-ticket-test.true c.ticket-item.is (sym c.blocks-in-loop-ticket.ensures ∙ w.if-blocks.true))
      | else-blocks w ↦ ap option_copied w.found-is ∙ c.loop-ticket.invariant
          ∙ sym (least_more test c.args.tickets.now i ticket false c.loop-ticket-test.true c.ticket-item.is (sym c.blocks-in-loop-ticket.ensures ∙ w.if-blocks.false))
    ]
