use Rattle.std.proofs.Common.{sym, subst, ◌∙◌}
use Rattle.nf_words.specs.State.{State}
use Rattle.nf_state.specs.Current.{BearsAct}
use Rattle.nf_site.proofs.Steps.{bears_held}
use Rattle.nf_site.proofs.site.Site.decided.Goals as goal

pub changes-requires : goal.changes-requires
changes-requires c =
    subst (λ (s : State). BearsAct s.tables c.in-Ok.act) (sym c.view.ensures)
    (bears_held c.self.inside c.args.self.now c.args.seat c.args.moment c.args.event.now c.in-Ok.act c.self.view_is c.self.invariant
    c.requires.late c.requires.asked (sym c.in_ok-act.ensures ∙ c.in-Ok.is))
