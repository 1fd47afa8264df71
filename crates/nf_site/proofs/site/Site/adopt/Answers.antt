use Rattle.std.proofs.Common.{sym, ap, subst, ◌∙◌, ◌++◌, ◌∷◌, [], vec_capacity, Result}
use Rattle.nf_words.specs.State.{State}
use Rattle.nf_words.specs.Step.{stepped_by, without}
use Rattle.nf_words.specs.declared.answer.Denial.{Denial}
use Rattle.nf_site.specs.Kept.{answered}
use Rattle.nf_site.specs.PlanView.{decision_in}
use Rattle.nf_site.specs.Plans.{IsReady, Planned}
use Rattle.nf_site.specs.declared.plan.Deed.{Deed}
use Rattle.nf_site.specs.declared.site.Site.TheInside.{Inside}
use Rattle.nf_site.proofs.Steps.{adopted, bears_plan, fits_plan, given_held}
use Rattle.nf_site.proofs.site.Site.adopt.Goals as goal
use Rattle.nf_site.proofs.site.Site.adopt.Goals.{in-Ok, in-Err}

pub change-requires-clause-bears : goal.change-requires-clause-bears
change-requires-clause-bears c =
    c.parted-act.ensures.same.bears c.self.inside.current.state.tables
    (bears_plan c.self.inside c.args.self.now c.plan.inside c.in-Ok.field-0.act c.self.view_is c.self.invariant
    (subst (λ (p : Planned). IsReady c.args.self.now p) (sym c.plan.view_is) c.requires)
    (ap decision_in c.in-Ok.is))

pub change-requires-clause-fits : goal.change-requires-clause-fits
change-requires-clause-fits c =
    c.parted-act.ensures.same.fits c.self.inside.current.state c.self.inside.current.room
    (fits_plan c.self.inside c.args.self.now c.plan.inside c.in-Ok.field-0.act c.self.view_is
    (subst (λ (p : Planned). IsReady c.args.self.now p) (sym c.plan.view_is) c.requires)
    (ap decision_in c.in-Ok.is))

pub change-requires-clause-given : goal.change-requires-clause-given
change-requires-clause-given c = given_held c.self.inside c.self.invariant

pub invariant_of-self : goal.invariant_of-self
invariant_of-self c =
    let old = c.self.inside in
    let plan = c.plan.inside in
    let ready = subst (λ (p : Planned). IsReady c.args.self.now p) (sym c.plan.view_is) c.requires in
    let step = λ (d : Result Deed Denial). stepped_by old.current.state plan.seat plan.moment plan.event (decision_in d) in
    let more = λ (x : Inside). x.history.items ++ answered plan.seat plan.moment plan.event ∷ [] in
    elim c.match-decided.branch [
      | in-Ok w ↦ adopted old _ c.args.self.now plan c.self.view_is c.self.invariant ready
          (ap (λ (x : Inside). x.opening) w.self-inside-is)
          (ap (λ (x : Inside). x.current.state) w.self-inside-is ∙ w.change.ensures
          ∙ ap (λ (s : State). record s { seen = plan.moment })
          (w.parted-act.ensures.same.state (without old.current.state plan.seat plan.event) plan.seat plan.moment)
          ∙ ap step (sym w.in-Ok.is))
          (c.push_reserved.ensures.items ∙ ap more w.self-inside-is)
          (c.push_reserved.ensures.capacity ∙ ap (λ (x : Inside). vec_capacity x.history) w.self-inside-is)
      | in-Err w ↦ adopted old _ c.args.self.now plan c.self.view_is c.self.invariant ready
          (ap (λ (x : Inside). x.opening) w.self-inside-is)
          (ap (λ (x : Inside). x.current.state) w.self-inside-is ∙ w.pass.ensures ∙ ap step (sym w.in-Err.is))
          (c.push_reserved.ensures.items ∙ ap more w.self-inside-is)
          (c.push_reserved.ensures.capacity ∙ ap (λ (x : Inside). vec_capacity x.history) w.self-inside-is)
    ]
