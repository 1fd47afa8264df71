use Rattle.std.proofs.Common.{◌≡◌, ◌++◌, ◌∷◌, [], List, true, map, take, drop, ap, sym, ◌∙◌}
use Rattle.std.proofs.lemmas.List.{take-append-drop, take_more}
use Rattle.nf_retention.specs.declared.trash.Trashed.{Trashed}
use Rattle.nf_trash.specs.Outgoing.{Walk, all_passed, passed}
use Rattle.nf_trash.specs.declared.aged.Aged.{Aged}
use Rattle.nf_deeds.specs.Going.{seen_of}
use Rattle.nf_deeds.proofs.Walks.{ended_stays, seen_on}
use Rattle.nf_deeds.proofs.going.pass_all.Goals as goal

pub returns-then-has_ended : goal.returns-then-has_ended
returns-then-has_ended c =
    let t = c.args.view.now.tables in
    let items = c.args.items.now in
    let i = c.loop-item.item-index in
    let walk = all_passed c.args.walk.now (map (seen_of t) (take i items)) in
    let ended : walk.has_ended ≡ true = ap (λ (w : Walk). w.has_ended) (sym c.loop-item.invariant) ∙ sym c.has_ended.ensures ∙ c.if-has_ended.true in
    c.loop-item.invariant
    ∙ sym (ended_stays (map (seen_of t) (drop i items)) walk ended)
    ∙ sym (seen_on t c.args.walk.now (take i items) (drop i items))
    ∙ ap (λ (all : List Aged). all_passed c.args.walk.now (map (seen_of t) all)) (take-append-drop i items)

pub loop-item-preserved : goal.loop-item-preserved
loop-item-preserved c =
    let t = c.args.view.now.tables in
    let items = c.args.items.now in
    let so_far = take c.loop-item.item-index items in
    let item = c.item-item.result in
    let more = take_more items c.loop-item.item-index item c.loop-item-test.true ∙ ap (λ (x : Aged). so_far ++ x ∷ []) (sym c.item-item.is) in
    c.in_ok-pass.ensures
    ∙ ap (λ (one : Trashed). passed c.loop-item.walk one) c.seen.ensures
    ∙ ap (λ (w : Walk). passed w (seen_of t item)) c.loop-item.invariant
    ∙ sym (seen_on t c.args.walk.now so_far (item ∷ []))
    ∙ ap (λ (all : List Aged). all_passed c.args.walk.now (map (seen_of t) all)) (sym more)
