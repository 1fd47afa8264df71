use Rattle.std.proofs.Common.{◌≡◌, ◌∙◌, Option, Some, arith, subst, sym, refl}
use Rattle.std.specs.Prelude.{IsSome, ℕ}
use Rattle.nf_base.specs.declared.rows.NodeRow.{NodeRow}
use Rattle.nf_defs.specs.Tree.{parent_of}
use Rattle.nf_charge.proofs.Carrying.{carried_above, carried_alone, may_carry_above, may_carry_here, parent_at, placed}
use Rattle.nf_charge.proofs.Climbing.{leads_parent, leads_there}
use Rattle.nf_charge.proofs.Positions.{is_there, no_row}
use Rattle.nf_charge.proofs.sums.+carry.Goals as goal

pub unwrap-at-requires : goal.unwrap-at-requires
unwrap-at-requires t c =
    let row = leads_there c.args.rows.now c.args.up c.args.node c.requires.leads in
    let there = is_there c.args.rows.now c.args.node (subst (λ (o : Option NodeRow). IsSome o) (sym row.1) refl) in
    subst (λ (o : Option ℕ). IsSome o) (sym c.index_of.ensures) there

pub overflow_sub-index : goal.overflow_sub-index
overflow_sub-index t c =
    let here = placed c.args.rows.now c.args.node c.unwrap-at.result no_row (sym c.index_of.ensures ∙ c.unwrap-at.ensures) in
    (may_carry_here c.args.up c.args.rows.now c.args.node c.unwrap-at.result c.args.old c.args.new c.index.result.now c.args.sums.now.items here
    (omega (arith, c.args.sums.now.ok.0)) c.index.ensures c.requires.fits).0

pub overflow_add-index : goal.overflow_add-index
overflow_add-index t c =
    let here = placed c.args.rows.now c.args.node c.unwrap-at.result no_row (sym c.index_of.ensures ∙ c.unwrap-at.ensures) in
    let fits = may_carry_here c.args.up c.args.rows.now c.args.node c.unwrap-at.result c.args.old c.args.new c.index.result.now c.args.sums.now.items
    here (omega (arith, c.args.sums.now.ok.0)) c.index.ensures c.requires.fits in
    omega (arith, fits.1)

pub overflow_sub-up : goal.overflow_sub-up
overflow_sub-up t c =
    let here = placed c.args.rows.now c.args.node c.unwrap-at.result no_row (sym c.index_of.ensures ∙ c.unwrap-at.ensures) in
    let above = parent_at c.args.rows.now c.args.node c.unwrap-at.result _ c.index-rows-at.result c.requires.rising here
    (c.row.view_is ∙ c.index-rows-at.is) in
    let up : parent_of c.args.rows.now c.args.node ≡ Some c.in-Some.folder = above ∙ sym c.in-Some.ensures in
    (leads_parent c.args.rows.now c.args.up c.args.node c.in-Some.folder c.requires.leads up).0

pub carry-requires : goal.carry-requires
carry-requires t c =
    let here = placed c.args.rows.now c.args.node c.unwrap-at.result no_row (sym c.index_of.ensures ∙ c.unwrap-at.ensures) in
    let above = parent_at c.args.rows.now c.args.node c.unwrap-at.result _ c.index-rows-at.result c.requires.rising here
    (c.row.view_is ∙ c.index-rows-at.is) in
    let up : parent_of c.args.rows.now c.args.node ≡ Some c.in-Some.folder = above ∙ sym c.in-Some.ensures in
    let leads = leads_parent c.args.rows.now c.args.up c.args.node c.in-Some.folder c.requires.leads up in (
      omega (arith, leads.0, c.decreases),
      (
        c.requires.rising,
        (
          c.requires.long,
          (
            leads.1,
            may_carry_above c.args.up c.args.rows.now c.args.node c.unwrap-at.result c.in-Some.folder c.args.old c.args.new _
                c.args.sums.now.items c.requires.rising here
                c.requires.leads up c.requires.fits,
          ),
        ),
      ),
    )

pub returns-in-Some-clause-sums : goal.returns-in-Some-clause-sums
returns-in-Some-clause-sums t c =
    let here = placed c.args.rows.now c.args.node c.unwrap-at.result no_row (sym c.index_of.ensures ∙ c.unwrap-at.ensures) in
    let above = parent_at c.args.rows.now c.args.node c.unwrap-at.result _ c.index-rows-at.result c.requires.rising here
    (c.row.view_is ∙ c.index-rows-at.is) in
    carried_above c.args.up c.args.rows.now c.args.node c.unwrap-at.result c.in-Some.folder c.args.old c.args.new c.index.result.now c.args.sums.now.items
    c.carry.new.sums.items c.requires.rising here (omega (arith, c.args.sums.now.ok.0)) c.requires.leads (above ∙ sym c.in-Some.ensures) c.index.ensures
    c.carry.ensures.sums

pub returns-in_default-clause-sums : goal.returns-in_default-clause-sums
returns-in_default-clause-sums t c =
    let here = placed c.args.rows.now c.args.node c.unwrap-at.result no_row (sym c.index_of.ensures ∙ c.unwrap-at.ensures) in
    let above = parent_at c.args.rows.now c.args.node c.unwrap-at.result _ c.index-rows-at.result c.requires.rising here
    (c.row.view_is ∙ c.index-rows-at.is) in
    carried_alone c.args.up c.args.rows.now c.args.node c.unwrap-at.result c.args.old c.args.new c.index.result.now c.args.sums.now.items
    c.requires.rising here (omega (arith, c.args.sums.now.ok.0)) (above ∙ sym c.folder_of.ensures ∙ c.in_default.is) c.index.ensures
