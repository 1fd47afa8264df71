use Rattle.std.proofs.Common.{◌+◌, ◌-◌, refl, sym, ap, ◌∙◌, arith}
use Rattle.std.specs.BTreeSet.{contains}
use Rattle.std.specs.Ordering.{nat_cmp}
use Rattle.nf_base.specs.declared.limits.TheConstants.{MAX_DEPTH}
use Rattle.nf_defs.specs.Prelude.{is_under}
use Rattle.nf_opening.proofs.Rooted.{present_none, present_top, present_up, present_zero}
use Rattle.nf_opening.proofs.bounds.is_present.Goals as goal

pub loop-step-init : goal.loop-step-init
unfolding is_under
loop-step-init c = refl

pub returns-then-contains : goal.returns-then-contains
returns-then-contains c =
    let told = c.contains.ensures ∙ ap (contains nat_cmp c.args.roots.now) c.number.ensures ∙ c.requires.roots c.loop-step.at in
    sym (present_top (MAX_DEPTH - c.loop-step.step) c.args.loaded.now.users c.args.loaded.now.nodes c.loop-step.at (sym told ∙ c.if-contains.true))
    ∙ c.loop-step.invariant

pub returns-in-None : goal.returns-in-None
returns-in-None c =
    let told = c.contains.ensures ∙ ap (contains nat_cmp c.args.roots.now) c.number.ensures ∙ c.requires.roots c.loop-step.at in
    let none = sym c.parent_of.ensures ∙ c.in-None.is in
    sym (present_none (MAX_DEPTH - c.loop-step.step) c.args.loaded.now.users c.args.loaded.now.nodes c.loop-step.at (sym told ∙ c.if-contains.false) none)
    ∙ c.loop-step.invariant

pub loop-step-preserved : goal.loop-step-preserved
loop-step-preserved c =
    let told = c.contains.ensures ∙ ap (contains nat_cmp c.args.roots.now) c.number.ensures ∙ c.requires.roots c.loop-step.at in
    let up = sym c.parent_of.ensures ∙ c.in-Some.is in
    sym (present_up (MAX_DEPTH - (c.loop-step.step + 1)) (MAX_DEPTH - c.loop-step.step) c.args.loaded.now.users c.args.loaded.now.nodes c.loop-step.at
    c.in-Some.parent (omega arith) (sym told ∙ c.if-contains.false) up)
    ∙ c.loop-step.invariant

pub returns : goal.returns
returns c =
    let told = c.contains-2.ensures ∙ ap (contains nat_cmp c.args.roots.now) c.number-2.ensures ∙ c.requires.roots c.loop-step.at in
    told ∙ sym (present_zero (MAX_DEPTH - c.loop-step.step) c.args.loaded.now.users c.args.loaded.now.nodes c.loop-step.at (omega arith))
    ∙ c.loop-step.invariant
