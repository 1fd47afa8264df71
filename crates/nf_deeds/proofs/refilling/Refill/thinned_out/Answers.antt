use Rattle.std.proofs.Common.{◌≡◌, ◌≤◌, ℕ, Bool, false, List, [], All, if◌then◌else◌, map, reverse, subst, sym, ap, arith, ◌∙◌}
use Rattle.std.proofs.lemmas.Grind.{common_steps}
use Rattle.std.proofs.lemmas.Result.{IfOk-weaker}
use Rattle.nf_base.specs.declared.rows.VersionRow.{VersionRow}
use Rattle.nf_retention.specs.Thinning.{AreFalling, thinned}
use Rattle.nf_retention.specs.declared.versions.Version.{Version}
use Rattle.nf_words.specs.Versions.{is_empty, thinned_out, with_replaced}
use Rattle.nf_deeds.proofs.Refills.{moments_are, moments_fall, moments_past, thinned_falls}
use Rattle.nf_deeds.proofs.refilling.Refill.thinned_out.Goals as goal

pub thinned-requires-clause-falling : goal.thinned-requires-clause-falling
thinned-requires-clause-falling c =
    let refill = c.args.self.now in
    let is = c.deref.ensures.value ∙ c.in_ok-moments.ensures ∙ ap (λ (list : List Version). map (λ (one : Version). one.at) list) c.requires.versions in
    subst AreFalling (sym is) (moments_fall refill.view.now.tables refill.back refill.row.now c.requires.sound)

pub thinned-requires-clause-past : goal.thinned-requires-clause-past
thinned-requires-clause-past c =
    let refill = c.args.self.now in
    let is = c.deref.ensures.value ∙ c.in_ok-moments.ensures ∙ ap (λ (list : List Version). map (λ (one : Version). one.at) list) c.requires.versions in
    subst (λ (moments : List ℕ). All (λ (at : ℕ). at ≤ refill.moment) moments) (sym is)
    (moments_past refill.view.now.tables refill.moment refill.back refill.row.now c.requires.sound c.requires.late c.requires.there)

pub returns-clause-moments : goal.returns-clause-moments
returns-clause-moments c =
    let refill = c.args.self.now in
    let row = refill.row.now in
    let all : List VersionRow = with_replaced refill.view.now.tables.versions refill.back row in
    let some : is_empty row.content ≡ false = grind (arith, common_steps) in
    let is : c.deref.result.now ≡ reverse (map (λ (one : VersionRow). one.at) all) =
    c.deref.ensures.value ∙ c.in_ok-moments.ensures ∙ ap (λ (list : List Version). map (λ (one : Version). one.at) list) c.requires.versions ∙ moments_are all in
    let whole : thinned refill.moment c.deref.result.now ≡ thinned_out refill.moment row all =
    ap (thinned refill.moment) is
    ∙ ap (λ (b : Bool). if b then [] else thinned refill.moment (reverse (map (λ (one : VersionRow). one.at) all))) (sym some) in
    IfOk-weaker c.thinned.result _ (λ moments. moments.items ≡ thinned_out refill.moment row all) (λ moments each. each ∙ whole) c.thinned.ensures.gone

pub returns-clause-falling : goal.returns-clause-falling
returns-clause-falling c =
    let refill = c.args.self.now in
    let is = c.deref.ensures.value ∙ c.in_ok-moments.ensures ∙ ap (λ (list : List Version). map (λ (one : Version). one.at) list) c.requires.versions in
    let falling : AreFalling c.deref.result.now =
    subst AreFalling (sym is) (moments_fall refill.view.now.tables refill.back refill.row.now c.requires.sound) in
    IfOk-weaker c.thinned.result _ (λ moments. AreFalling moments.items)
    (λ moments each. subst AreFalling (sym each) (thinned_falls refill.moment c.deref.result.now falling)) c.thinned.ensures.gone
