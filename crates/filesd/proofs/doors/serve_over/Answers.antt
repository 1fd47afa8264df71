use Rattle.std.proofs.Common.{ap, ◌∙◌, inr}
use Rattle.nf_base.specs.declared.limits.TheConstants.{MAX_SEATS}
use Rattle.nf_desk.specs.Desk.{Served}
use Rattle.nf_hub.specs.Seats.{book_in, memory_of}
use Rattle.nf_outside.specs.Lent.{takes}
use Rattle.nf_server.proofs.Spanning.{work_begins}
use Rattle.nf_session.specs.Book.{held}
use Rattle.nf_turn.specs.Prelude.{numbers_of, of_the_first}
use Rattle.nf_turn.specs.declared.view.Memory.{Memory}
use Rattle.filesd.proofs.Closing.{closing_leaves, closing_pays, seat_is_whole}
use Rattle.filesd.proofs.Working.{has_left, work_of}
use Rattle.filesd.proofs.Sole.{first_idle}
use Rattle.filesd.proofs.doors.serve_over.Goals as goal

pub serve-worked-requires-clause-idle : goal.serve-worked-requires-clause-idle
serve-worked-requires-clause-idle g c = λ κs within.
    ap (λ (m : Memory (Served g.row.K.Denot)). held (book_in g.K.Keeper m)) c.in-Ok.ensures.memory
    ∙ first_idle g.K.Keeper MAX_SEATS c.args.desk c.requires.history

pub serve-worked-requires-clause-few : goal.serve-worked-requires-clause-few
serve-worked-requires-clause-few g c = λ κs within.
    has_left g.K.Keeper c.in-Ok.hub c.in-Ok.seat c.args.desk _ c.requires.workers c.in-Ok.ensures.memory

pub close-site-requires-clause-whole : goal.close-site-requires-clause-whole
close-site-requires-clause-whole g c =
    c.serve-worked.ensures.whole
    (seat_is_whole g.K.Keeper c.in-Ok.hub c.in-Ok.seat c.args.desk
    (ap (λ (m : Memory (Served g.row.K.Denot)). numbers_of m) c.in-Ok.ensures.memory))

pub returns-in-Ok-clause-serves : goal.returns-in-Ok-clause-serves
returns-in-Ok-clause-serves g c =
    inr (record {
      memory = memory_of g.K.Keeper c.in-Ok.hub c.serve-worked.result.1;
      result = c.serve-worked.result.0;
      work = work_of g.K.Keeper g.D.Source.Ends g.D.Sink.Ends (takes g.W.Clock.reads g.V.Dice.draws) g.D.Door c.args.connections _ _ c.args.desk _ _
          c.serve-worked.result.0 c.in-Ok.ensures.memory c.serve-worked.ensures.work;
      heard = c.serve-worked.ensures.seat.told;
      closes = c.close-site.ensures.closes;
      status_is = c.status_of_workers.ensures;
    })

pub returns-in-Ok-clause-leaves : goal.returns-in-Ok-clause-leaves
returns-in-Ok-clause-leaves g c =
    closing_leaves g.K.Keeper (memory_of g.K.Keeper c.in-Ok.hub c.serve-worked.result.1) c.close-site.result.0 c.close-site.result.1
    c.close-site.ensures.closes

pub returns-in-Ok-clause-paid : goal.returns-in-Ok-clause-paid
returns-in-Ok-clause-paid g c =
    let last = memory_of g.K.Keeper c.in-Ok.hub c.serve-worked.result.1 in
    let work = work_of g.K.Keeper g.D.Source.Ends g.D.Sink.Ends (takes g.W.Clock.reads g.V.Dice.draws) g.D.Door c.args.connections _ _ c.args.desk _ _
    c.serve-worked.result.0 c.in-Ok.ensures.memory c.serve-worked.ensures.work in
    closing_pays g.K.Keeper last c.args.desk c.close-site.result.0 c.close-site.result.1
    (work_begins g.K.Keeper g.D.Source.Ends g.D.Sink.Ends (takes g.W.Clock.reads g.V.Dice.draws) g.D.Door c.args.connections
    (of_the_first MAX_SEATS c.args.desk) last _ _
    c.serve-worked.result.0 work) c.requires.start c.close-site.ensures.closes
