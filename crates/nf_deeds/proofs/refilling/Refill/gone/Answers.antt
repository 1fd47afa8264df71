use Rattle.std.proofs.Common.{◌≡◌, ℕ, List, ◌++◌, filter, map, not, reverse, ap, ◌∙◌}
use Rattle.nf_base.specs.declared.rows.VersionRow.{VersionRow}
use Rattle.nf_retention.specs.declared.versions.Version.{Version}
use Rattle.nf_words.specs.Changes.{Charged, charged}
use Rattle.nf_words.specs.Versions.{beyond_bound, content_size, held, held_beside, is_among, those_at, those_but, thinned_out, with_replaced}
use Rattle.nf_deeds.proofs.refilling.Refill.gone.Goals as goal

pub returns : goal.returns
returns c =
    let refill = c.args.self.now in
    let t = refill.view.now.tables in
    let row = refill.row.now in
    let all : List VersionRow = with_replaced t.versions refill.back row in
    let thin : List ℕ = thinned_out refill.moment row all in
    let to : Charged = charged t row.owner (content_size row.content) c.args.size in
    let beside : List Version = held_beside t row.owner row.id in
    let versions : c.in_ok-held.held.items ≡ reverse (map held all) = c.in_ok-held.ensures in
    let moments : c.in_ok-moments.moments.items ≡ thin = c.in_ok-moments.ensures.moments in
    let first : c.in_ok-gone.gone.items ≡ those_at thin all =
    c.in_ok-gone.ensures
    ∙ ap (λ (some : List ℕ). filter (λ (one : Version). is_among some one.at) c.deref-2.result.now) (c.deref-3.ensures.value ∙ moments)
    ∙ ap (λ (list : List Version). filter (λ (one : Version). is_among thin one.at) list) (c.deref-2.ensures.value ∙ versions) in
    let second : c.in_ok-beyond.beyond.items ≡ beyond_bound to.quota to.charge (beside ++ those_but thin all) =
    c.in_ok-beyond.ensures
    ∙ ap (λ (some : List ℕ). beyond_bound to.quota to.charge (beside ++ filter (λ (one : Version). not (is_among some one.at)) c.in_ok-held.held.items))
    (c.deref-4.ensures.value ∙ moments)
    ∙ ap (λ (list : List Version). beyond_bound to.quota to.charge (beside ++ filter (λ (one : Version). not (is_among thin one.at)) list)) versions in
    c.in_ok-append.ensures.items
    ∙ ap (λ (list : List Version). list ++ c.in_ok-beyond.beyond.items) first
    ∙ ap (λ (list : List Version). those_at thin all ++ list) second
