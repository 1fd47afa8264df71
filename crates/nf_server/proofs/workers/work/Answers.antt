use Rattle.std.proofs.Common.{Ok, refl, subst, sym, ◌∙◌, true≢false}
use Rattle.std.specs.Prelude.{Option}
use Rattle.nf_outside.specs.Lent.{takes}
use Rattle.nf_server.specs.Doors.{GivesLink}
use Rattle.nf_server.specs.declared.link.Link.{Link}
use Rattle.nf_server.proofs.Working.{full_work, nothing_yet, one_more}
use Rattle.nf_server.proofs.workers.work.Goals as goal

pub loop-init : goal.loop-init
loop-init g c = record {
  seat = c.requires.seat;
  idle = c.requires.idle;
  so_far = nothing_yet g.K.Keeper g.D.Source.Ends g.D.Sink.Ends (takes g.C.Clock.reads g.Q.Dice.draws) g.D.Door _ _ c.args.worker.now c.args.worker.now refl refl;
}

pub returns-then-is_full-clause-works : goal.returns-then-is_full-clause-works
returns-then-is_full-clause-works g c =
    full_work g.K.Keeper g.D.Source.Ends g.D.Sink.Ends (takes g.C.Clock.reads g.Q.Dice.draws) g.D.Door _ _ _ c.args.worker.now c.loop.worker
    (record c.loop.worker { door = c.next.new.self }) c.serve_next-served.new.worker c.loop.counter c.loop.invariant.so_far c.in-Ok-Some.link
    c.serve_next-served.result.ended refl
    (subst (λ (given : Option (Link g.row.D-Source.Denot g.row.D-Sink.Denot)). GivesLink (g.D.Door.coming c.loop.worker.door) (g.D.Door.coming c.next.new.self) (Ok given))
    c.in-Ok-Some.field-0-is c.in-Ok-Some.ensures.gives) c.in-Ok-Some.ensures.served c.in-Ok-Some.ensures.cause.same c.serve_next-served.ensures.serves
    (record c.serve_next-served.new.worker { door = c.close.new.self }) c.args.connections (search) (c.is_full.ensures.0 c.if-is_full.true) refl
    c.close.ensures.coming c.close.ensures.served c.close.ensures.faults

pub loop-preserved : goal.loop-preserved
loop-preserved g c = record {
  seat = c.serve_next-served.ensures.seat;
  idle = c.serve_next-served.ensures.idle;
  so_far =
      one_more g.K.Keeper g.D.Source.Ends g.D.Sink.Ends (takes g.C.Clock.reads g.Q.Dice.draws) g.D.Door _ _ _ c.args.worker.now c.loop.worker
      (record c.loop.worker { door = c.next.new.self }) c.serve_next-served.new.worker c.loop.counter c.loop.invariant.so_far c.in-Ok-Some.link
      c.serve_next-served.result.ended refl
      (subst (λ (given : Option (Link g.row.D-Source.Denot g.row.D-Sink.Denot)). GivesLink (g.D.Door.coming c.loop.worker.door) (g.D.Door.coming c.next.new.self) (Ok given))
      c.in-Ok-Some.field-0-is c.in-Ok-Some.ensures.gives) c.in-Ok-Some.ensures.served c.in-Ok-Some.ensures.cause.same c.serve_next-served.ensures.serves
      (λ is. true≢false (sym (c.is_full.ensures.1 is) ∙ c.if-is_full.false));
}
