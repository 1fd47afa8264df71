use Rattle.std.proofs.Common.{◌≡◌, ℕ, List, filter, map, ap, ◌∙◌}
use Rattle.std.specs.Prelude.{◌==◌}
use Rattle.nf_base.specs.declared.rows.ItemRow.{ItemRow}
use Rattle.nf_trash.specs.Aged.{oldest_first}
use Rattle.nf_trash.specs.Outgoing.{Walk, all_passed, starting}
use Rattle.nf_words.specs.Prelude.{items_of}
use Rattle.nf_deeds.specs.Going.{seen_of}
use Rattle.nf_deeds.proofs.Walks.{walked}
use Rattle.nf_deeds.proofs.going.gone_by.Goals as goal

pub returns : goal.returns
returns c =
    let t = c.args.view.now.tables in
    let aged = c.oldest_first.result.now in
    let order : aged ≡ oldest_first (items_of t c.args.user) =
    c.oldest_first.ensures ∙ ap (λ (rows : List ItemRow). oldest_first (filter (λ item. item.owner == c.args.user) rows)) c.items.ensures in
    c.into_nodes.ensures
    ∙ ap (λ (w : Walk). w.gone)
    (c.in_ok-pass_all.ensures
    ∙ ap (λ (w : Walk). all_passed w (map (seen_of t) aged))
    (c.new-walk.ensures ∙ ap (λ (bound : ℕ). starting c.args.moment bound c.trashed-total.result) c.trash_bound.ensures))
    ∙ walked t c.args.moment c.args.quota c.trashed-total.result (items_of t c.args.user) aged order c.trashed-total.ensures.sum
