use Rattle.std.proofs.Common.{◌∙◌, ap, arith, length}
use Rattle.nf_state.specs.declared.counts.RowCounts.{RowCounts}
use Rattle.nf_site.proofs.Steps.{plan_few}
use Rattle.nf_words.specs.State.{State}
use Rattle.nf_site.specs.Held.{Held, added_in}
use Rattle.nf_site.proofs.site.Site.plan.Goals as goal

pub reserve-requires : goal.reserve-requires
reserve-requires c =
    let few = plan_few c.self.inside c.args.self.now c.args.seat c.moment-moment.result c.args.event c.in_ok-plan.plan
    c.self.view_is c.self.invariant c.requires.asked c.in_ok-plan.ensures in
    let added = ap (λ (added : RowCounts). added.nodes) (c.added-added.ensures ∙ ap (λ (s : State). added_in s.tables c.in_ok-plan.plan.decision) (c.view.ensures ∙ ap (λ (x : Held). x.kept.state) c.self.view_is)) in
    record { few = omega (arith, few, ap (λ (x : Held). length x.kept.state.tables.nodes) c.self.view_is, added) }
