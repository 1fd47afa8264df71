use Rattle.std.proofs.Common.{ℕ, List, [], ◌∷◌, ◌++◌, Option, take, filter_map, ap, sym, ◌∙◌}
use Rattle.std.proofs.lemmas.List.{take_more}
use Rattle.std.proofs.lemmas.List.Elements.{filter_map-append}
use Rattle.nf_words.specs.Listing.{child_line}
use Rattle.nf_words.specs.declared.listing.ListingLine.{ListingLine}
use Rattle.nf_decide.proofs.listing.child_lines.Goals as goal

pub loop-child-preserved : goal.loop-child-preserved
loop-child-preserved c =
    let line : (ℕ → Option ListingLine) = child_line c.args.view.now.tables c.args.asker.now.seeker c.args.granted in
    let items = c.deref-child-items.result.now in
    let so_far = take c.loop-child.child-index items in
    let child = c.child-item.result in
    let more = take_more items c.loop-child.child-index child c.loop-child-test.true ∙ ap (λ (n : ℕ). so_far ++ n ∷ []) (sym c.child-item.is) in
    c.in_ok-push_child.ensures
    ∙ ap (λ (list : List ListingLine). list ++ filter_map line (child ∷ [])) c.loop-child.invariant
    ∙ sym (filter_map-append line so_far (child ∷ []))
    ∙ ap (λ (list : List ℕ). filter_map line list) (sym more)
