use Rattle.std.proofs.Common.{◌+◌, ◌-◌, refl, sym, ◌∙◌, arith}
use Rattle.nf_base.specs.declared.limits.TheConstants.{MAX_DEPTH}
use Rattle.nf_defs.specs.Prelude.{is_under}
use Rattle.nf_opening.proofs.Chains.{under_zero, under_top, under_none, under_up}
use Rattle.nf_opening.proofs.sharing.is_under.Goals as goal

pub loop-step-init : goal.loop-step-init
unfolding is_under
loop-step-init c = refl

pub returns-then-eq : goal.returns-then-eq
returns-then-eq c =
    sym (under_top (MAX_DEPTH - c.loop-step.step) c.args.loaded.now.nodes c.loop-step.at c.args.top (sym c.eq.ensures ∙ c.if-eq.true)) ∙ c.loop-step.invariant

pub returns-in-None : goal.returns-in-None
returns-in-None c =
    let differ = sym c.eq.ensures ∙ c.if-eq.false in
    let none = sym c.parent_of.ensures ∙ c.in-None.is in
    sym (under_none (MAX_DEPTH - c.loop-step.step) c.args.loaded.now.nodes c.loop-step.at c.args.top differ none) ∙ c.loop-step.invariant

pub loop-step-preserved : goal.loop-step-preserved
loop-step-preserved c =
    let k = MAX_DEPTH - (c.loop-step.step + 1) in
    let differ = sym c.eq.ensures ∙ c.if-eq.false in
    let up = sym c.parent_of.ensures ∙ c.in-Some.is in
    sym (under_up k (MAX_DEPTH - c.loop-step.step) c.args.loaded.now.nodes c.loop-step.at c.in-Some.parent c.args.top (omega arith) differ up) ∙ c.loop-step.invariant

pub returns : goal.returns
returns c =
    c.eq-2.ensures ∙ sym (under_zero (MAX_DEPTH - c.loop-step.step) c.args.loaded.now.nodes c.loop-step.at c.args.top (omega arith)) ∙ c.loop-step.invariant
