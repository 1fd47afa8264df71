use Rattle.std.proofs.Common.{ap, subst, ◌∙◌}
use Rattle.nf_base.specs.declared.limits.TheConstants.{MAX_SEATS}
use Rattle.nf_desk.specs.Desk.{Served}
use Rattle.nf_hub.specs.Seats.{book_in, memory_of}
use Rattle.nf_session.specs.Book.{Book, held}
use Rattle.nf_trial.specs.Trials.{Concludes}
use Rattle.nf_turn.specs.declared.view.Memory.{Memory}
use Rattle.filesd.specs.Outside.{outlet, output_alone}
use Rattle.filesd.specs.Seat.{book_of}
use Rattle.filesd.proofs.Closing.{closing_book, closing_leaves, closing_own, closing_pays, closing_told, numbers_stay, seat_is_whole}
use Rattle.filesd.proofs.Generated.{lists_none, tells_kept}
use Rattle.filesd.proofs.Sole.{first_book_is, first_idle}
use Rattle.filesd.proofs.generating.serve_list.Goals as goal

pub serve_messages-tried-requires-clause-idle : goal.serve_messages-tried-requires-clause-idle
serve_messages-tried-requires-clause-idle g c =
    ap (λ (m : Memory (Served g.row.K.Denot)). held (book_in g.K.Keeper m)) c.in-Ok.ensures.memory
    ∙ first_idle g.K.Keeper MAX_SEATS c.args.desk c.requires.history

pub close-site-requires-clause-whole : goal.close-site-requires-clause-whole
close-site-requires-clause-whole g c =
    let seat = c.serve_messages-tried.result.1 in
    seat_is_whole g.K.Keeper c.in-Ok.hub seat c.args.desk
    (numbers_stay (memory_of g.K.Keeper c.in-Ok.hub seat) (memory_of g.K.Keeper c.in-Ok.hub c.in-Ok.seat) c.args.desk
    c.serve_messages-tried.ensures.steady c.in-Ok.ensures.memory)

pub returns-in-Ok-clause-lists : goal.returns-in-Ok-clause-lists
returns-in-Ok-clause-lists g c =
    let k = g.K.Keeper in
    let desk = c.args.desk in
    let last = memory_of k c.in-Ok.hub c.serve_messages-tried.result.1 in
    let said = c.serve_messages-tried.ensures in
    let site = c.close-site.result.0 in
    let keeper = c.close-site.result.1 in
    let same = ap (λ (m : Memory (Served g.row.K.Denot)). m.first) said.steady
    ∙ ap (λ (m : Memory (Served g.row.K.Denot)). m.first) c.in-Ok.ensures.memory in
    let all = numbers_stay last (memory_of k c.in-Ok.hub c.in-Ok.seat) desk said.steady c.in-Ok.ensures.memory in
    let begun = ap (λ (m : Memory (Served g.row.K.Denot)). book_in k m) c.in-Ok.ensures.memory ∙ first_book_is k desk c.requires.fresh c.requires.start in
    record {
      tried = c.serve_messages-tried.result.0;
      concludes = subst (λ (b : Book). Concludes c.args.asked.seed c.args.asked.count
          (book_of desk.site.kept (k.told desk.start.value) (k.told desk.keeper) (k.faults desk.keeper)) b c.serve_messages-tried.result.0)
          (closing_book k last desk all site keeper c.close-site.ensures.closes same)
          (subst (λ (b : Book). Concludes c.args.asked.seed c.args.asked.count b (book_in k last) c.serve_messages-tried.result.0) begun said.concludes);
      tells = tells_kept c.args.asked.count site.kept.state.tables c.serve_messages-tried.result.0
          (output_alone g.O.Ends c.args.output.now) (output_alone g.O.Ends c.tell.new.output) (k.told desk.keeper) (k.told keeper)
          (k.faults desk.keeper) (k.faults keeper) c.tell.result c.tell.ensures.tells;
      told = closing_told k last desk all site keeper c.close-site.ensures.closes same;
      begun = c.tell.ensures.begun;
    }

pub returns-in-Ok-clause-leaves : goal.returns-in-Ok-clause-leaves
returns-in-Ok-clause-leaves g c =
    let last = memory_of g.K.Keeper c.in-Ok.hub c.serve_messages-tried.result.1 in
    closing_leaves g.K.Keeper last c.close-site.result.0 c.close-site.result.1 c.close-site.ensures.closes

pub returns-in-Ok-clause-paid : goal.returns-in-Ok-clause-paid
returns-in-Ok-clause-paid g c =
    let last = memory_of g.K.Keeper c.in-Ok.hub c.serve_messages-tried.result.1 in
    let same = ap (λ (m : Memory (Served g.row.K.Denot)). m.first) c.serve_messages-tried.ensures.steady
    ∙ ap (λ (m : Memory (Served g.row.K.Denot)). m.first) c.in-Ok.ensures.memory in
    closing_pays g.K.Keeper last c.args.desk c.close-site.result.0 c.close-site.result.1 same c.requires.start c.close-site.ensures.closes

pub returns-in-Ok-clause-alone : goal.returns-in-Ok-clause-alone
returns-in-Ok-clause-alone g c =
    let last = memory_of g.K.Keeper c.in-Ok.hub c.serve_messages-tried.result.1 in
    let all = numbers_stay last (memory_of g.K.Keeper c.in-Ok.hub c.in-Ok.seat) c.args.desk
    c.serve_messages-tried.ensures.steady c.in-Ok.ensures.memory in
    closing_own g.K.Keeper last c.args.desk all c.close-site.result.0 c.close-site.result.1 c.close-site.ensures.closes

pub returns-in-Err-clause-lists : goal.returns-in-Err-clause-lists
returns-in-Err-clause-lists g c =
    let handed = c.handed_out.ensures in
    lists_none g.K.Keeper c.args.asked.seed c.args.asked.count (outlet g.O.Ends g.K.Keeper c.args.output.now c.args.desk.keeper)
    c.args.desk c.in-Err.desk c.handed_out.result.status c.handed_out.result.site c.handed_out.result.keeper c.requires.count.0
    c.requires.start c.in-Err.ensures.err handed.status handed.site handed.keeper handed.leaves
