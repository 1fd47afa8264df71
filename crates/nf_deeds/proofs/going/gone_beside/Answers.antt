use Rattle.std.proofs.Common.{◌≡◌, ℕ, ◌-◌, List, Some, ◌++◌, filter, length, map, take, ap, sym, ◌∙◌, arith}
use Rattle.std.specs.Prelude.{◌==◌, not, sum_by}
use Rattle.nf_base.specs.declared.rows.ItemRow.{ItemRow}
use Rattle.nf_defs.specs.Prelude.{item_row}
use Rattle.nf_retention.specs.Budget.{trash_bound}
use Rattle.nf_trash.specs.Aged.{aged_of, oldest_first}
use Rattle.nf_trash.specs.Outgoing.{Walk, all_passed, starting}
use Rattle.nf_trash.specs.declared.aged.Aged.{Aged}
use Rattle.nf_words.specs.Prelude.{item_size, items_but, quota_of}
use Rattle.nf_deeds.specs.Going.{seen_of}
use Rattle.nf_deeds.proofs.Walks.{but_last, seen_on, sum_but, walked}
use Rattle.nf_deeds.proofs.going.gone_beside.Goals as goal

pub overflow_sub-total : goal.overflow_sub-total
overflow_sub-total c =
    let t = c.args.view.now.tables in
    let item = c.args.item.now in
    omega (arith, c.trashed.ensures.sum, c.from.ensures, c.size.ensures, sum_but t item c.requires.sound c.requires.there)

pub returns : goal.returns
returns c =
    let t = c.args.view.now.tables in
    let item = c.args.item.now in
    let items = items_but t item.owner item.node in
    let no_newer = c.around.result.0.now in
    let newer = c.around.result.1.now in
    let total = c.trashed.result - c.from.result in
    let start = starting c.args.moment c.trash_bound-bound.result total in
    let there : item_row c.items.result.now.rows item.node ≡ Some item =
    ap (λ (rows : List ItemRow). item_row rows item.node) c.items.ensures ∙ c.requires.there in
    let parts = c.around.ensures.but there in
    let older = parts.0 in
    let front : take (length no_newer - 1) no_newer ≡ older = but_last no_newer older (aged_of item) parts.1 in
    let order : older ++ newer ≡ oldest_first items =
    parts.2 ∙ ap (λ (rows : List ItemRow). oldest_first (filter (λ other. not (other.node == item.node)) (filter (λ other. other.owner == item.owner) rows))) c.items.ensures in
    let sum : total ≡ sum_by (item_size t) items =
    omega (arith, c.trashed.ensures.sum, c.from.ensures, c.size.ensures, sum_but t item c.requires.sound c.requires.there) in
    let first : c.pass_all.new.walk ≡ all_passed start (map (seen_of t) older) =
    c.in_ok-pass_all.ensures
    ∙ ap (λ (list : List Aged). all_passed c.new-walk.result (map (seen_of t) list)) front
    ∙ ap (λ (w : Walk). all_passed w (map (seen_of t) older)) c.new-walk.ensures in
    c.into_nodes.ensures
    ∙ ap (λ (w : Walk). w.gone)
    (c.in_ok-pass_all-2.ensures
    ∙ ap (λ (w : Walk). all_passed w (map (seen_of t) newer)) first
    ∙ sym (seen_on t start older newer)
    ∙ ap (λ (n : ℕ). all_passed (starting c.args.moment n total) (map (seen_of t) (older ++ newer)))
    (c.trash_bound-bound.ensures ∙ ap trash_bound c.quota_of.ensures))
    ∙ walked t c.args.moment (quota_of t item.owner) total items (older ++ newer) order sum
