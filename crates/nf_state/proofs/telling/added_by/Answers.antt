use Rattle.std.proofs.Common.{List, ap, sym, ◌∙◌}
use Rattle.nf_base.specs.declared.changes.Change.{Change}
use Rattle.nf_base.specs.declared.rows.MetaRow.{MetaRow}
use Rattle.nf_words.specs.declared.answer.Allowed.{Allowed}
use Rattle.nf_state.specs.Current.{added_by, added_of}
use Rattle.nf_state.proofs.telling.added_by.Goals as goal

pub returns-in-Change : goal.returns-in-Change
returns-in-Change c =
    let t = c.args.view.now.tables in
    c.added_of.ensures
    ∙ ap (λ (meta : MetaRow). added_of meta.next_node c.as_slice.result.now) c.meta.ensures
    ∙ ap (λ (changes : List Change). added_of t.meta.next_node changes) c.as_slice.ensures
    ∙ sym (ap (λ (act : Allowed). added_by t act) c.in-Change.is)
