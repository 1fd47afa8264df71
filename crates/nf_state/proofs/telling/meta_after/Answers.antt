use Rattle.std.proofs.Common.{List, ap, sym, subst, ◌∙◌}
use Rattle.nf_base.specs.declared.rows.MetaRow.{MetaRow}
use Rattle.nf_words.specs.Changes.{meta_after}
use Rattle.nf_words.specs.declared.answer.Allowed.{Allowed}
use Rattle.nf_words.specs.declared.answer.Deed.{Deed}
use Rattle.nf_state.specs.Current.{BearsAct, counted_by, CountsDeeds}
use Rattle.nf_state.proofs.Deeds.{deeds_count, deeds_meta}
use Rattle.nf_state.proofs.telling.meta_after.Goals as goal

pub counted_by-requires : goal.counted_by-requires
counted_by-requires c =
    let t = c.args.view.now.tables in
    let bears = subst (λ (act : Allowed). BearsAct t act) c.in-Deeds.is c.requires in
    subst (λ (meta : MetaRow). CountsDeeds meta c.as_slice-in-Deeds.result.now) (sym c.meta-meta.ensures)
    (subst (λ (deeds : List Deed). CountsDeeds t.meta deeds) (sym c.as_slice-in-Deeds.ensures) (deeds_count t c.in-Deeds.deeds bears.borne))

pub returns-in-Deeds : goal.returns-in-Deeds
returns-in-Deeds c =
    let t = c.args.view.now.tables in
    let deeds = c.in-Deeds.deeds in
    ap (λ (meta : MetaRow). record meta { last = c.args.moment })
    (c.counted_by.ensures
    ∙ ap (λ (meta : MetaRow). counted_by meta c.as_slice-in-Deeds.result.now) c.meta-meta.ensures
    ∙ ap (λ (all : List Deed). counted_by t.meta all) c.as_slice-in-Deeds.ensures
    ∙ sym (deeds_meta t deeds))
    ∙ sym (ap (λ (act : Allowed). meta_after t c.args.moment act) c.in-Deeds.is)
