use Rattle.std.proofs.Common.{ℕ, ap, refl, subst, sym, ◌∙◌}
use Rattle.nf_desk.specs.Desk.{Served}
use Rattle.nf_outside.specs.Lent.{takes}
use Rattle.nf_server.specs.Posts.{Posted, WorksThrough}
use Rattle.nf_server.specs.Work.{Works}
use Rattle.nf_server.specs.declared.workers.Worked.TheVariants as worked
use Rattle.nf_server.proofs.Posting.{is_posted, nothing_through, works_through}
use Rattle.nf_server.proofs.Working.{no_work}
use Rattle.nf_turn.specs.declared.view.Memory.{Memory}
use Rattle.nf_server.proofs.workers.PostWorkplaceWorker.work.Goals as goal

pub returns-in_default-clause-works : goal.returns-in_default-clause-works
returns-in_default-clause-works g c =
    let worker = c.args.worker.now in
    let after = record worker { door = c.close.new.self } in
    let works : ℕ → Memory (Served g.row.K.Denot) → Memory (Served g.row.K.Denot) → Type 0 = λ connections m n. Works g.K.Keeper g.D.Source.Ends g.D.Sink.Ends (takes g.C.Clock.reads g.Q.Dice.draws) g.D.Door connections m n worker after worked.Memory in
    subst (λ (p : Posted g.row.K.Denot). WorksThrough g.K.Keeper works p p) c.self.view_is
    (nothing_through g.K.Keeper works c.self.inside.hub c.self.inside.connections c.self.inside.seat c.self.invariant
    (λ m. no_work g.K.Keeper g.D.Source.Ends g.D.Sink.Ends (takes g.C.Clock.reads g.Q.Dice.draws) g.D.Door m worker after c.self.inside.connections refl
    c.close.ensures.coming c.close.ensures.served c.close.ensures.faults))

pub returns-clause-works : goal.returns-clause-works
returns-clause-works g c =
    let post = c.self.inside in
    works_through g.K.Keeper
    (λ connections m n. Works g.K.Keeper g.D.Source.Ends g.D.Sink.Ends (takes g.C.Clock.reads g.Q.Dice.draws) g.D.Door connections m n c.args.worker.now
    c.work-worked.new.worker c.work-worked.result.0)
    c.args.self.now post.hub post.connections c.in-Some.seat c.work-worked.result.1
    (is_posted g.K.Keeper c.args.self.now post.hub post.connections c.in-Some.seat
    (ap (λ (p : Posted g.row.K.Denot). p.hub) (sym c.self.view_is)) (ap (λ (p : Posted g.row.K.Denot). p.connections) (sym c.self.view_is))
    (ap (λ (p : Posted g.row.K.Denot). p.seat) (sym c.self.view_is) ∙ sym c.take.ensures.value ∙ c.in-Some.is))
    c.work-worked.ensures.works
