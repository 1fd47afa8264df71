use Rattle.std.proofs.Common.{◌≡◌, List, [], ◌∷◌, refl, sym, ap, ◌∙◌, subst}
use Rattle.nf_base.specs.declared.rows.Place.TheVariants.{Inside}
use Rattle.nf_charge.specs.Sums.{LeadUp}
use Rattle.vectors_shares.proofs.Plans.{plans_lead}
use Rattle.vectors_shares.proofs.mounts.two_plans.Goals as goal

pub load-requires-clause-leads : goal.load-requires-clause-leads
load-requires-clause-leads c =
    let root = c.in_ok-plans.field-0 in
    let inside = c.in_ok-plans-2.field-0 in
    let other = c.in_ok-plans-3.field-0 in
    let rows : c.push-3.new.self.items ≡ root ∷ inside ∷ other ∷ [] =
    rw (c.in_ok-push-3.ensures.items, c.in_ok-push-2.ensures.items, c.in_ok-push.ensures.items, c.new-rows.ensures.items) refl in
    subst LeadUp (sym rows)
    (plans_lead root inside other c.in_ok-plans.ensures.number c.in_ok-plans-2.ensures.number c.in_ok-plans-3.ensures.number
    c.in_ok-plans.ensures.place (c.in_ok-plans-2.ensures.place ∙ ap Inside c.new.ensures) c.in_ok-plans-3.ensures.place)
