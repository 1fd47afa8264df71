use Rattle.std.proofs.Common.{◌+◌, ◌-◌, refl, sym, ap, ◌∙◌, arith}
use Rattle.std.specs.Option.{option_copied}
use Rattle.nf_base.specs.declared.limits.TheConstants.{MAX_DEPTH}
use Rattle.nf_rules.specs.Rules.{leads}
use Rattle.nf_opening.proofs.Leads.{leads_none, leads_up, leads_zero}
use Rattle.nf_opening.proofs.placed.leads.Goals as goal

pub loop-step-init : goal.loop-step-init
unfolding leads
loop-step-init c = refl

pub returns-in-None : goal.returns-in-None
returns-in-None c =
    let none = sym c.folder_above.ensures ∙ ap option_copied c.in-None.is in
    c.is_own_top.ensures ∙ sym (leads_none (MAX_DEPTH - c.loop-step.step) c.args.loaded.now c.loop-step.at.now none)
    ∙ c.loop-step.invariant

pub loop-step-preserved : goal.loop-step-preserved
loop-step-preserved c =
    let up = sym c.folder_above.ensures ∙ ap option_copied c.in-Some.is in
    sym (leads_up (MAX_DEPTH - (c.loop-step.step + 1)) (MAX_DEPTH - c.loop-step.step) c.args.loaded.now c.loop-step.at.now c.in-Some.folder.now (omega arith) up)
    ∙ c.loop-step.invariant

pub returns : goal.returns
returns c =
    c.is_own_top-2.ensures ∙ sym (leads_zero (MAX_DEPTH - c.loop-step.step) c.args.loaded.now c.loop-step.at.now (omega arith))
    ∙ c.loop-step.invariant
