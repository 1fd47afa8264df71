use Rattle.std.proofs.Common.{List, [], ◌∷◌, ◌++◌, Option, take, filter_map, ap, sym, ◌∙◌}
use Rattle.std.proofs.lemmas.List.{take_more}
use Rattle.std.proofs.lemmas.List.Elements.{filter_map-append}
use Rattle.nf_retention.specs.declared.trash.Trashed.{Trashed}
use Rattle.nf_words.specs.declared.listing.ItemLine.{ItemLine}
use Rattle.nf_decide.specs.Listed.{line_at}
use Rattle.nf_decide.proofs.trash.lines_of.Goals as goal

pub loop-one-preserved : goal.loop-one-preserved
loop-one-preserved c =
    let line : (Trashed → Option ItemLine) = λ one. line_at c.args.view.now.tables one.node in
    let items = c.args.sorted.now in
    let so_far = take c.loop-one.one-index items in
    let one = c.one-item.result in
    let more = take_more items c.loop-one.one-index one c.loop-one-test.true ∙ ap (λ (x : Trashed). so_far ++ x ∷ []) (sym c.one-item.is) in
    c.in_ok-push_line.ensures
    ∙ ap (λ (list : List ItemLine). list ++ filter_map line (one ∷ [])) c.loop-one.invariant
    ∙ sym (filter_map-append line so_far (one ∷ []))
    ∙ ap (λ (list : List Trashed). filter_map line list) (sym more)
