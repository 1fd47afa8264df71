use Rattle.std.proofs.Common.{List, IfOk, ◌≡◌, filter_map, ap, subst, ◌∙◌}
use Rattle.nf_retention.specs.declared.trash.Trashed.{Trashed}
use Rattle.nf_words.specs.Trash.{item_size, items_of}
use Rattle.nf_words.specs.declared.listing.ItemLine.{ItemLine}
use Rattle.nf_decide.proofs.ItemLines.{lines_sorted}
use Rattle.nf_decide.specs.Listed.{line_at}
use Rattle.nf_decide.proofs.trash.item_lines.Goals as goal

pub returns : goal.returns
returns c =
    let t = c.args.view.now.tables in
    let sorted = c.in_ok-sorted.ensures (item_size t) (items_of t c.args.user) c.in_ok-trash_of.ensures in
    subst (λ (all : List ItemLine). IfOk c.lines_of.result (λ lines. lines.items ≡ all))
    (ap (filter_map (λ (one : Trashed). line_at t one.node)) (c.deref.ensures.value ∙ sorted) ∙ lines_sorted t c.args.user c.requires)
    c.lines_of.ensures
