use Rattle.std.proofs.Common.{◌++◌, ◌∷◌, [], take, ap, subst, sym, ◌∙◌}
use Rattle.std.proofs.lemmas.List.{take_more}
use Rattle.nf_base.specs.declared.rows.MetaRow.{MetaRow}
use Rattle.nf_words.specs.declared.answer.Deed.{Deed}
use Rattle.nf_state.proofs.Deeds.{counted_one, counts_at}
use Rattle.nf_state.specs.Current.{counted_by, counted_with, CountsDeed}
use Rattle.nf_state.proofs.telling.counted_by.Goals as goal

pub counted_with-counted-requires : goal.counted_with-counted-requires
counted_with-counted-requires c =
    let meta : MetaRow = c.args.meta.now in
    let deeds = c.args.deeds.now in
    let one = c.deed-item.result in
    subst (λ (m : MetaRow). CountsDeed m one) (sym c.loop-deed.invariant)
    (subst (CountsDeed (counted_by meta (take c.loop-deed.deed-index deeds))) (sym c.deed-item.is)
    (counts_at meta deeds c.loop-deed.deed-index one c.loop-deed-test.true c.requires))

pub loop-deed-preserved : goal.loop-deed-preserved
loop-deed-preserved c =
    let meta : MetaRow = c.args.meta.now in
    let deeds = c.args.deeds.now in
    let so_far = take c.loop-deed.deed-index deeds in
    let one = c.deed-item.result in
    let more = take_more deeds c.loop-deed.deed-index one c.loop-deed-test.true ∙ ap (λ (x : Deed). so_far ++ x ∷ []) (sym c.deed-item.is) in
    c.counted_with-counted.ensures ∙ ap (λ (m : MetaRow). counted_with m one) c.loop-deed.invariant
    ∙ sym (ap (counted_by meta) more ∙ counted_one meta so_far one)
