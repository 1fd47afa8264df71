use Rattle.std.proofs.Common.{Bool, List, [], ◌∷◌, ◌++◌, Option, take, filter, filter_map, ap, sym, ◌∙◌}
use Rattle.std.proofs.lemmas.List.{take_all, take_more}
use Rattle.std.proofs.lemmas.List.Elements.{filter-append, filter_map-append}
use Rattle.nf_base.specs.declared.rows.MemberRow.{MemberRow}
use Rattle.nf_base.specs.declared.rows.ShareRow.{ShareRow}
use Rattle.nf_reach.specs.Asking.{user_in}
use Rattle.nf_words.specs.Sharing.{is_listed_for, share_line}
use Rattle.nf_words.specs.declared.sharing.ShareLine.{ShareLine}
use Rattle.nf_decide.proofs.shared.share_lines.Goals as goal

pub loop-row-preserved : goal.loop-row-preserved
loop-row-preserved c =
    let a = c.args.asker.now in
    let line : (ShareRow → Option ShareLine) = share_line c.args.view.now.tables in
    let is_listed : (ShareRow → Bool) = is_listed_for a.base.members (user_in a.seeker) c.args.node.now c.args.with_me in
    let items = c.rows-row-items.result.now in
    let so_far = take c.loop-row.row-index items in
    let row = c.row-item.result in
    let more = take_more items c.loop-row.row-index row c.loop-row-test.true ∙ ap (λ (r : ShareRow). so_far ++ r ∷ []) (sym c.row-item.is) in
    c.in_ok-push_share.ensures
    ∙ ap (λ (list : List ShareLine). list ++ filter_map line (filter is_listed (row ∷ []))) c.loop-row.invariant
    ∙ sym (filter_map-append line (filter is_listed so_far) (filter is_listed (row ∷ [])))
    ∙ ap (λ (list : List ShareRow). filter_map line list) (sym (filter-append is_listed so_far (row ∷ [])))
    ∙ ap (λ (list : List ShareRow). filter_map line (filter is_listed list)) (sym more)

pub returns : goal.returns
returns c =
    let a = c.args.asker.now in
    let t = c.args.view.now.tables in
    let line : (ShareRow → Option ShareLine) = share_line t in
    let all = take_all c.loop-row.row-index c.rows-row-items.result.now c.loop-row-test.false ∙ c.rows-row-items.ensures.rows ∙ c.shares.ensures in
    c.loop-row.invariant
    ∙ ap (λ (list : List ShareRow). filter_map line (filter (is_listed_for a.base.members (user_in a.seeker) c.args.node.now c.args.with_me) list)) all
    ∙ ap (λ (members : List MemberRow). filter_map line (filter (is_listed_for members (user_in a.seeker) c.args.node.now c.args.with_me) t.shares)) c.requires
