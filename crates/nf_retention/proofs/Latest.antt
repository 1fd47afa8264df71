-- Versions, newest first.
use Rattle.std.proofs.Common.{◌≡◌, ◌∙◌, ℕ, List, [], ◌∷◌, drop, map, refl, ap, subst}
use Rattle.std.specs.Cmp.{IsStrictWeakOrder}
use Rattle.std.specs.List.Sorted.{IsPermutation}
use Rattle.std.specs.Prelude.{if◌then◌else◌}
use Rattle.nf_retention.specs.Budget.{IsLongestWithin, fitting}
use Rattle.nf_retention.specs.Laws.{LatestIsRight}
use Rattle.nf_retention.specs.Versions.{AreLatestFirst, beyond, is_later, latest_first, put_latest}
use Rattle.nf_retention.specs.declared.versions.Version.{Version}
use Rattle.nf_retention.proofs.Fronts.{fitting_only, fitting_right}
use Rattle.nf_retention.proofs.Newest.{chain, not_newer, one_way}
use Rattle.nf_retention.proofs.Puts.{put, puts, puts_ascend, puts_same}

pub latest_order : IsStrictWeakOrder is_later
latest_order = record {
  one_way = λ x y. one_way x.at x.node y.at y.node;
  chain = λ x y z. chain x.at x.node y.at y.node z.at z.node;
}

put_is : (version : Version) (versions : List Version) → put is_later version versions ≡ put_latest version versions
put_is version [] = refl
put_is version (first ∷ versions) = ap (λ rest. if is_later first version then first ∷ rest else version ∷ first ∷ versions) (put_is version versions)

pub puts_latest : (versions : List Version) → puts is_later versions ≡ latest_first versions
puts_latest [] = refl
puts_latest (version ∷ versions) = ap (put is_later version) (puts_latest versions) ∙ put_is version (latest_first versions)

pub latest_right : LatestIsRight
latest_right versions =
    let falls : AreLatestFirst (puts is_later versions) = λ i j d before within. not_newer _ _ _ _ (puts_ascend is_later latest_order versions i j d before within) in
    (subst AreLatestFirst (puts_latest versions) falls, subst (IsPermutation versions) (puts_latest versions) (puts_same is_later versions))

-- those behind the longest front within the bound go
pub behind_front : (bound count : ℕ) (versions : List Version) → IsLongestWithin bound (map (λ version. version.size) (latest_first versions)) count
    → drop count (latest_first versions) ≡ beyond bound versions
behind_front bound count versions longest =
    let sizes = map (λ (version : Version). version.size) (latest_first versions) in
    ap (λ (n : ℕ). drop n (latest_first versions)) (fitting_only bound sizes count (fitting bound sizes) longest (fitting_right bound sizes))
