use Rattle.std.proofs.Common.{◌+◌, ◌-◌, sym, ap, ◌∙◌, arith}
use Rattle.std.specs.Option.{option_copied}
use Rattle.nf_base.specs.declared.limits.TheConstants.{MAX_CHAIN}
use Rattle.nf_opening.proofs.Chains.{chained_first, chained_missing, chained_up, chained_zero}
use Rattle.nf_opening.proofs.sharing.has_chain.Goals as goal

pub returns-in_default : goal.returns-in_default
returns-in_default c =
    let missing = sym c.share.ensures ∙ ap option_copied c.in_default.is in
    sym (chained_missing (MAX_CHAIN - c.loop-step.step) c.args.loaded.now.shares c.loop-step.at missing) ∙ c.loop-step.invariant

pub returns-in-None : goal.returns-in-None
returns-in-None c =
    let k = MAX_CHAIN - (c.loop-step.step + 1) in
    let there = sym c.share.ensures ∙ ap option_copied c.in-Some.is in
    c.eq.ensures
    ∙ sym (chained_first k (MAX_CHAIN - c.loop-step.step) c.args.loaded.now.shares c.loop-step.at c.in-Some.row.now (omega arith) there c.in-None.is)
    ∙ c.loop-step.invariant

pub loop-step-preserved : goal.loop-step-preserved
loop-step-preserved c =
    let k = MAX_CHAIN - (c.loop-step.step + 1) in
    let there = sym c.share.ensures ∙ ap option_copied c.in-Some.is in
    sym (chained_up k (MAX_CHAIN - c.loop-step.step) c.args.loaded.now.shares c.loop-step.at c.in-Some-parent.parent c.in-Some.row.now (omega arith) there
    c.in-Some-parent.is)
    ∙ c.loop-step.invariant

pub returns : goal.returns
returns c =
    sym (chained_zero (MAX_CHAIN - c.loop-step.step) c.args.loaded.now.shares c.loop-step.at (omega arith)) ∙ c.loop-step.invariant
