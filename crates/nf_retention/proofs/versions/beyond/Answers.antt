use Rattle.std.proofs.Common.{◌≡◌, ◌∙◌, ◌-◌, ℕ, IfOk, List, ap, arith, drop, length, map, rules, subst, take}
use Rattle.std.proofs.lemmas.List.{length-drop, take_all}
use Rattle.std.proofs.lemmas.Result.{IfOk-weaker}
use Rattle.nf_retention.specs.Budget.{IsLongestWithin}
use Rattle.nf_retention.specs.Versions.{latest_first}
use Rattle.nf_retention.specs.declared.versions.Version.{Version}
use Rattle.nf_retention.proofs.Latest.{behind_front}
use Rattle.nf_retention.proofs.versions.beyond.Goals as goal

pub returns : goal.returns
returns c =
    let sorted = c.in_ok-versions.versions.items in
    let count = c.fitting-staying.result in
    let is : sorted ≡ latest_first c.args.versions.items = search rules in
    let sizes : c.deref-2.result.now ≡ map (λ (version : Version). version.size) sorted =
    c.deref-2.ensures.value ∙ c.in_ok-sizes.ensures ∙ ap (map (λ (version : Version). version.size)) c.deref.ensures.value in
    let longest : IsLongestWithin c.args.bound (map (λ (version : Version). version.size) sorted) count =
    subst (λ (l : List ℕ). IsLongestWithin c.args.bound l count) sizes c.fitting-staying.ensures in
    let behind : IfOk c.collect.result (λ gone. gone.items ≡ take (length sorted - count) (drop count sorted)) = search rules in
    let all = take_all (length sorted - count) (drop count sorted) (omega (arith, length-drop count sorted)) in
    let right = behind_front c.args.bound count c.args.versions.items
    (subst (λ (l : List Version). IsLongestWithin c.args.bound (map (λ (version : Version). version.size) l) count) is longest) in
    IfOk-weaker c.collect.result _ _ (λ gone are. are ∙ all ∙ ap (drop count) is ∙ right) behind
