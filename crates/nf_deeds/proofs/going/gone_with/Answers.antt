use Rattle.std.proofs.Common.{◌≡◌, ℕ, ◌+◌, List, ◌∷◌, ◌++◌, filter, map, ap, sym, ◌∙◌, arith}
use Rattle.std.specs.Prelude.{◌==◌, sum_by}
use Rattle.std.proofs.lemmas.List.Sums.{sum_by-cons}
use Rattle.nf_base.specs.declared.rows.ItemRow.{ItemRow}
use Rattle.nf_retention.specs.Budget.{trash_bound}
use Rattle.nf_retention.specs.declared.trash.Trashed.{Trashed}
use Rattle.nf_trash.specs.Aged.{aged_of, oldest_first}
use Rattle.nf_trash.specs.Outgoing.{Walk, all_passed, passed, starting}
use Rattle.nf_words.specs.Prelude.{item_size, items_of, quota_of}
use Rattle.nf_deeds.specs.Going.{seen_of}
use Rattle.nf_deeds.proofs.Walks.{seen_on, walked}
use Rattle.nf_deeds.proofs.going.gone_with.Goals as goal

pub returns : goal.returns
returns c =
    let t = c.args.view.now.tables in
    let item = c.args.item.now in
    let items = items_of t item.owner in
    let older = c.around.result.0.now in
    let newer = c.around.result.1.now in
    let total = c.trashed.result + c.from.result in
    let bound = c.trash_bound-bound.result in
    let start = starting c.args.moment bound total in
    let order : older ++ aged_of item ∷ newer ≡ oldest_first (item ∷ items) =
    c.around.ensures.with ∙ ap (λ (rows : List ItemRow). oldest_first (item ∷ filter (λ other. other.owner == item.owner) rows)) c.items.ensures in
    let sum : total ≡ sum_by (item_size t) (item ∷ items) =
    omega (arith, c.trashed.ensures.sum, c.from.ensures, c.size.ensures, sum_by-cons (item_size t) item items) in
    let first : c.pass_all.new.walk ≡ all_passed start (map (seen_of t) older) =
    c.in_ok-pass_all.ensures ∙ ap (λ (w : Walk). all_passed w (map (seen_of t) older)) c.new-walk.ensures in
    let itself : c.pass.new.self ≡ passed (all_passed start (map (seen_of t) older)) (seen_of t (aged_of item)) =
    c.in_ok-pass.ensures ∙ ap (λ (one : Trashed). passed c.pass_all.new.walk one) c.trashed-2.ensures
    ∙ ap (λ (w : Walk). passed w (seen_of t (aged_of item))) first in
    c.into_nodes.ensures
    ∙ ap (λ (w : Walk). w.gone)
    (c.in_ok-pass_all-2.ensures
    ∙ ap (λ (w : Walk). all_passed w (map (seen_of t) newer)) itself
    ∙ sym (seen_on t start older (aged_of item ∷ newer))
    ∙ ap (λ (n : ℕ). all_passed (starting c.args.moment n total) (map (seen_of t) (older ++ aged_of item ∷ newer)))
    (c.trash_bound-bound.ensures ∙ ap trash_bound c.quota_of.ensures))
    ∙ walked t c.args.moment (quota_of t item.owner) total (item ∷ items) (older ++ aged_of item ∷ newer) order sum
