use Rattle.std.proofs.Common.{◌++◌, ◌∷◌, [], take, ap, subst, sym, ◌∙◌}
use Rattle.std.proofs.lemmas.List.{take_more}
use Rattle.nf_base.specs.declared.changes.Change.{Change}
use Rattle.nf_base.specs.declared.rows.MetaRow.{MetaRow}
use Rattle.nf_words.specs.Prelude.{above, counted}
use Rattle.nf_laws.proofs.Lists.{counted_higher}
use Rattle.nf_laws.specs.Numbers.{AreHigher}
use Rattle.nf_state.proofs.Putting.{counted_later, counted_more}
use Rattle.nf_state.specs.Current.{IsCounted}
use Rattle.nf_state.proofs.tables.counted.Goals as goal

pub loop-change-preserved : goal.loop-change-preserved
loop-change-preserved c =
    let meta : MetaRow = c.args.meta.now in
    let items = c.args.changes.now in
    let so_far = take c.loop-change.change-index items in
    let change = c.change-item.result in
    let more = take_more items c.loop-change.change-index change c.loop-change-test.true ∙ ap (λ (x : Change). so_far ++ x ∷ []) (sym c.change-item.is) in
    c.above-counted.ensures ∙ ap (λ (m : MetaRow). above m change) c.loop-change.invariant
    ∙ sym (ap (counted meta) more ∙ counted_more meta so_far change)

pub above-counted-requires : goal.above-counted-requires
above-counted-requires c =
    let meta : MetaRow = c.args.meta.now in
    let so_far = counted_higher meta (take c.loop-change.change-index c.args.changes.now) in
    counted_later meta c.loop-change.counted c.change-item.result
    (subst (λ (m : MetaRow). AreHigher meta m) (sym c.loop-change.invariant) so_far)
    (subst (IsCounted meta) (sym c.change-item.is)
    (c.requires c.loop-change.change-index c.change-item.result c.loop-change-test.true))
