use Rattle.std.proofs.Common.{List, ◌++◌, rules, subst, ap, ◌∙◌}
use Rattle.std.specs.List.Sorted.{IsStableBy}
use Rattle.std.proofs.lemmas.Fn.{always_returns_same}
use Rattle.nf_words.specs.Listing.{is_line_before}
use Rattle.nf_words.specs.declared.listing.ListingLine.{ListingLine}
use Rattle.nf_decide.proofs.Lines.{by_names, sorted_lines}
use Rattle.nf_decide.proofs.listing.put_lines.Goals as goal

pub returns : goal.returns
returns c =
    let others = c.args.others.items in
    let compares = always_returns_same _ _ _ (λ a r f called. (search rules, search rules)) in
    let all = c.in_ok-append.ensures.items ∙ ap (λ (lines : List ListingLine). lines ++ others) c.reverse.ensures.items in
    sorted_lines c.args.lines.items others c.sort_by.new.self.items c.requires
    (c.in_ok-sort_by.ensures.sorted is_line_before by_names compares)
    (subst (λ (lines : List ListingLine). IsStableBy is_line_before lines c.sort_by.new.self.items) all
    (c.in_ok-sort_by.ensures.stable is_line_before by_names compares))
