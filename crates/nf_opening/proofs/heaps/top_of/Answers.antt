use Rattle.std.proofs.Common.{◌+◌, ◌-◌, refl, sym, ◌∙◌, arith}
use Rattle.nf_base.specs.declared.limits.TheConstants.{MAX_DEPTH}
use Rattle.nf_opening.proofs.Topped.{top_none, top_step, top_zero}
use Rattle.nf_opening.proofs.heaps.top_of.Goals as goal

pub loop-step-init : goal.loop-step-init
loop-step-init c = refl

pub returns-in-None : goal.returns-in-None
returns-in-None c =
    sym (top_none (MAX_DEPTH - c.loop-step.step) c.args.loaded.now.nodes c.loop-step.at (sym c.parent_of.ensures ∙ c.in-None.is))
    ∙ c.loop-step.invariant

pub loop-step-preserved : goal.loop-step-preserved
loop-step-preserved c =
    sym (top_step (MAX_DEPTH - (c.loop-step.step + 1)) (MAX_DEPTH - c.loop-step.step) c.args.loaded.now.nodes c.loop-step.at c.in-Some.parent (omega arith)
    (sym c.parent_of.ensures ∙ c.in-Some.is))
    ∙ c.loop-step.invariant

pub returns : goal.returns
returns c = sym (top_zero (MAX_DEPTH - c.loop-step.step) c.args.loaded.now.nodes c.loop-step.at (omega arith)) ∙ c.loop-step.invariant
