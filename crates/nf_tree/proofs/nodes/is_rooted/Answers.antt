use Rattle.std.proofs.Common.{◌+◌, ◌-◌, refl, sym, ◌∙◌, arith}
use Rattle.nf_base.specs.declared.limits.TheConstants.{MAX_DEPTH}
use Rattle.nf_defs.specs.Tree.{is_rooted}
use Rattle.nf_tree.proofs.Climbs.{rooted_zero, rooted_root, rooted_none, rooted_up}
use Rattle.nf_tree.proofs.nodes.is_rooted.Goals as goal

pub loop-step-init : goal.loop-step-init
unfolding is_rooted
loop-step-init c = refl

pub returns-then-is_root : goal.returns-then-is_root
returns-then-is_root c =
    sym (rooted_root (MAX_DEPTH - c.loop-step.step) c.args.rows.now c.loop-step.at (sym c.is_root.ensures ∙ c.if-is_root.true)) ∙ c.loop-step.invariant

pub returns-in-None : goal.returns-in-None
returns-in-None c =
    let differ = sym c.is_root.ensures ∙ c.if-is_root.false in
    let none = sym c.parent_of.ensures ∙ c.in-None.is in
    sym (rooted_none (MAX_DEPTH - c.loop-step.step) c.args.rows.now c.loop-step.at differ none) ∙ c.loop-step.invariant

pub loop-step-preserved : goal.loop-step-preserved
loop-step-preserved c =
    let k = MAX_DEPTH - (c.loop-step.step + 1) in
    let differ = sym c.is_root.ensures ∙ c.if-is_root.false in
    let up = sym c.parent_of.ensures ∙ c.in-Some.is in
    sym (rooted_up k (MAX_DEPTH - c.loop-step.step) c.args.rows.now c.loop-step.at c.in-Some.parent (omega arith) differ up) ∙ c.loop-step.invariant

pub returns : goal.returns
returns c =
    c.is_root-2.ensures ∙ sym (rooted_zero (MAX_DEPTH - c.loop-step.step) c.args.rows.now c.loop-step.at (omega arith))
    ∙ c.loop-step.invariant
