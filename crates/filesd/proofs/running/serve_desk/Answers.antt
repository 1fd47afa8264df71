use Rattle.std.proofs.Common.{ap, ◌∙◌}
use Rattle.nf_base.specs.declared.limits.TheConstants.{MAX_SEATS}
use Rattle.nf_desk.specs.Desk.{Served}
use Rattle.nf_hub.specs.Seats.{book_in, memory_of}
use Rattle.nf_outside.specs.Lent.{lent, takes}
use Rattle.nf_session.specs.Book.{held}
use Rattle.nf_turn.specs.declared.view.Memory.{Memory}
use Rattle.filesd.specs.Outside.{outside}
use Rattle.filesd.proofs.Closing.{closing_book, closing_leaves, closing_own, closing_pays, closing_told, numbers_stay, seat_is_whole, serves_none, session_between}
use Rattle.filesd.proofs.Sole.{first_book_is, first_idle}
use Rattle.filesd.proofs.running.serve_desk.Goals as goal

pub serve_ends-ended-requires-clause-idle : goal.serve_ends-ended-requires-clause-idle
serve_ends-ended-requires-clause-idle g c =
    ap (λ (m : Memory (Served g.row.K.Denot)). held (book_in g.K.Keeper m)) c.in-Ok.ensures.memory
    ∙ first_idle g.K.Keeper MAX_SEATS c.args.desk c.requires.history

pub close-site-requires-clause-whole : goal.close-site-requires-clause-whole
close-site-requires-clause-whole g c =
    let seat = c.serve_ends-ended.result.seat in
    seat_is_whole g.K.Keeper c.in-Ok.hub seat c.args.desk
    (numbers_stay (memory_of g.K.Keeper c.in-Ok.hub seat) (memory_of g.K.Keeper c.in-Ok.hub c.in-Ok.seat) c.args.desk
    c.serve_ends-ended.ensures.steady c.in-Ok.ensures.memory)

pub returns-in-Ok-clause-session : goal.returns-in-Ok-clause-session
returns-in-Ok-clause-session g c =
    let k = g.K.Keeper in
    let last = memory_of k c.in-Ok.hub c.serve_ends-ended.result.seat in
    let said = c.serve_ends-ended.ensures in
    let same = ap (λ (m : Memory (Served g.row.K.Denot)). m.first) said.steady
    ∙ ap (λ (m : Memory (Served g.row.K.Denot)). m.first) c.in-Ok.ensures.memory in
    let all = numbers_stay last (memory_of k c.in-Ok.hub c.in-Ok.seat) c.args.desk said.steady c.in-Ok.ensures.memory in (
      c.serve_ends-ended.result.ended,
      said.session.0,
      c.status_of.ensures,
      said.session.1,
      session_between (takes g.C.Clock.reads g.Q.Dice.draws)
          (outside g.S.Ends g.O.Ends k c.args.input.now c.args.output.now c.args.desk.keeper (lent c.args.clock.now c.args.dice.now))
          (outside g.S.Ends g.O.Ends k c.serve_ends-ended.new.input c.serve_ends-ended.new.output c.close-site.result.1 (lent c.serve_ends-ended.new.clock c.serve_ends-ended.new.dice))
          said.session.0 c.serve_ends-ended.result.ended _ _ _ _
          (ap (λ (m : Memory (Served g.row.K.Denot)). book_in k m) c.in-Ok.ensures.memory
          ∙ first_book_is k c.args.desk c.requires.fresh c.requires.start)
          (closing_book k last c.args.desk all c.close-site.result.0 c.close-site.result.1 c.close-site.ensures.closes same) said.session.2,
      closing_told k last c.args.desk all c.close-site.result.0 c.close-site.result.1 c.close-site.ensures.closes same,
    )

pub returns-in-Ok-clause-leaves : goal.returns-in-Ok-clause-leaves
returns-in-Ok-clause-leaves g c =
    let last = memory_of g.K.Keeper c.in-Ok.hub c.serve_ends-ended.result.seat in
    closing_leaves g.K.Keeper last c.close-site.result.0 c.close-site.result.1 c.close-site.ensures.closes

pub returns-in-Ok-clause-paid : goal.returns-in-Ok-clause-paid
returns-in-Ok-clause-paid g c =
    let last = memory_of g.K.Keeper c.in-Ok.hub c.serve_ends-ended.result.seat in
    let same = ap (λ (m : Memory (Served g.row.K.Denot)). m.first) c.serve_ends-ended.ensures.steady
    ∙ ap (λ (m : Memory (Served g.row.K.Denot)). m.first) c.in-Ok.ensures.memory in
    closing_pays g.K.Keeper last c.args.desk c.close-site.result.0 c.close-site.result.1 same c.requires.start c.close-site.ensures.closes

pub returns-in-Ok-clause-alone : goal.returns-in-Ok-clause-alone
returns-in-Ok-clause-alone g c =
    let last = memory_of g.K.Keeper c.in-Ok.hub c.serve_ends-ended.result.seat in
    let all = numbers_stay last (memory_of g.K.Keeper c.in-Ok.hub c.in-Ok.seat) c.args.desk
    c.serve_ends-ended.ensures.steady c.in-Ok.ensures.memory in
    closing_own g.K.Keeper last c.args.desk all c.close-site.result.0 c.close-site.result.1 c.close-site.ensures.closes

pub returns-in-Err-clause-session : goal.returns-in-Err-clause-session
returns-in-Err-clause-session g c =
    let handed = c.handed_out.ensures in
    serves_none (takes g.C.Clock.reads g.Q.Dice.draws) g.K.Keeper
    (outside g.S.Ends g.O.Ends g.K.Keeper c.args.input.now c.args.output.now c.args.desk.keeper (lent c.args.clock.now c.args.dice.now))
    c.args.desk c.in-Err.desk c.handed_out.result.status c.handed_out.result.site c.handed_out.result.keeper
    c.requires.start c.in-Err.ensures.err handed.status handed.site handed.keeper handed.leaves
