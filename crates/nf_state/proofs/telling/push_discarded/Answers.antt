use Rattle.std.proofs.Common.{◌≡◌, ◌++◌, ◌∷◌, [], List, OnOk, ap, subst, ◌∙◌}
use Rattle.std.proofs.lemmas.List.{append_assoc}
use Rattle.nf_base.specs.declared.changes.Change.{Change}
use Rattle.nf_base.specs.declared.changes.Change.TheVariants.{Put}
use Rattle.nf_base.specs.declared.rows.ItemRow.{ItemRow}
use Rattle.nf_base.specs.declared.rows.Row.TheVariants as kinds
use Rattle.nf_defs.specs.Tree.{node_row, trashed}
use Rattle.nf_words.specs.Deeds.{closed_under, told_node}
use Rattle.nf_state.proofs.telling.push_discarded.Goals as goal

pub returns : goal.returns
returns c =
    let t = c.args.view.now.tables in
    let item = c.args.item.now in
    let before = c.args.changes.now in
    let node = told_node (node_row t.nodes item.node) trashed in
    let closed = closed_under t.nodes t.shares item.node in
    let item_put : Change = Put (kinds.Item item) in
    let all : c.push.new.self ++ closed ≡ before ++ (node ++ item_put ∷ closed) =
    ap (λ (list : List Change). list ++ closed)
    (c.in_ok-push.ensures.ok
    ∙ ap (λ (copy : ItemRow). c.push_trashed.new.changes ++ Put (kinds.Item copy) ∷ []) c.in_ok-copy_item.ensures
    ∙ ap (λ (list : List Change). list ++ item_put ∷ []) c.in_ok-push_trashed.ensures)
    ∙ append_assoc (before ++ node) (item_put ∷ []) closed
    ∙ append_assoc before node (item_put ∷ closed) in
    subst (λ (list : List Change). OnOk c.close_under.result (c.close_under.new.changes ≡ list)) all c.close_under.ensures
