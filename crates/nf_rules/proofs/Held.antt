-- The bytes of a user's versions: they are no more than those of a list that has them all, and what is beyond a bound leaves no more.
use Rattle.std.proofs.Common.{◌≡◌, ◌≢◌, ◌≤◌, ◌-◌, ◌/◌, ◌==◌, ◌&&◌, ℕ, zero, suc, not, Bool, true, false, List, [], ◌∷◌, ◌++◌, ◌∙◌, filter, get_or, map, take, sum_by, sum, if◌then◌else◌, refl, sym, ap, arith}
use Rattle.std.specs.List.{All, AllPairs, Contains, list_any}
use Rattle.std.proofs.Math.Nat.{div-mul-le_self}
use Rattle.std.proofs.lemmas.Nat.{le-div}
use Rattle.std.proofs.lemmas.Bool.{and_from, and_parts, both_ways, eq-eqb, eqb-true}
use Rattle.std.proofs.lemmas.List.{take-append-drop, take-map}
use Rattle.std.proofs.lemmas.List.Elements.{All-contains_itself, All-filter, All-head, All-tail, filter_passes}
use Rattle.std.proofs.lemmas.List.Folds.{list_any_at}
use Rattle.std.proofs.lemmas.List.Kept.{AllPairs-filter}
use Rattle.std.proofs.lemmas.List.Filters.{sum_by-filter_both}
use Rattle.std.proofs.lemmas.List.Sorted.{sum_by-IsPermutation}
use Rattle.std.proofs.lemmas.List.Sums.{sum-map, sum_by-append, sum_by-cons}
use Rattle.nf_base.specs.declared.rows.VersionRow.{VersionRow}
use Rattle.nf_retention.proofs.Fronts.{fitting_right}
use Rattle.nf_retention.proofs.Latest.{latest_right}
use Rattle.nf_retention.specs.Budget.{versions_bound}
use Rattle.nf_retention.specs.Versions.{beyond, latest_first, within}
use Rattle.nf_retention.specs.declared.versions.Version.{Version}
use Rattle.nf_words.specs.Versions.{content_size, held, is_version}

-- ---- the bound

-- where a charge is less, the bound is no less
pub bound_falls : (quota less more : ℕ) → less ≤ more → versions_bound quota more ≤ versions_bound quota less
bound_falls quota less more le =
    le-div ((quota - more) / 2) (quota - less) 2 (omega arith) (omega (arith, le, div-mul-le_self (quota - more) 2))

-- and where a quota is more
pub bound_rises : (charge less more : ℕ) → less ≤ more → versions_bound less charge ≤ versions_bound more charge
bound_rises charge less more le =
    le-div ((less - charge) / 2) (more - charge) 2 (omega arith) (omega (arith, le, div-mul-le_self (less - charge) 2))

-- ---- rows that differ, among a list

-- the version is held so
abbrev is_held : Version → VersionRow → Bool
is_held version row = row.node == version.node && row.at == version.at && content_size row.content == version.size

held_so : (version : Version) (row : VersionRow) → is_held version row ≡ true → held row ≡ version
held_so version row is =
    let sizes = and_parts (row.node == version.node && row.at == version.at) _ is in
    let both = and_parts (row.node == version.node) _ sizes.0 in
    let node = eqb-true row.node version.node both.0 in
    let at = eqb-true row.at version.at both.1 in
    let size = eqb-true (content_size row.content) version.size sizes.1 in
    λ i. record { node = node i; at = at i; size = size i }

held_as : (version : Version) (row : VersionRow) → held row ≡ version → is_held version row ≡ true
held_as version row same =
    and_from _ _
    (and_from _ _ (eq-eqb row.node version.node (ap (λ (v : Version). v.node) same)) (eq-eqb row.at version.at (ap (λ (v : Version). v.at) same)))
    (eq-eqb (content_size row.content) version.size (ap (λ (v : Version). v.size) same))

abbrev pub AreHeldApart : VersionRow → VersionRow → Type 0
AreHeldApart a b = held a ≢ held b

-- of rows that differ one at most is held so
one_held : (f : VersionRow → ℕ) (version : Version) (most : ℕ) (rows : List VersionRow) → AllPairs AreHeldApart rows
    → All (λ (row : VersionRow). held row ≡ version) rows → All (λ (row : VersionRow). f row ≤ most) rows → sum_by f rows ≤ most
one_held f version most [] apart same few = omega arith
one_held f version most (row ∷ []) apart same few =
    omega (arith, sum_by-cons f row [], All-head (λ (row : VersionRow). f row ≤ most) row [] few)
one_held f version most (a ∷ b ∷ rows) apart same few =
    let Same : VersionRow → Type 0 = λ row. held row ≡ version in
    let first = All-head Same a (b ∷ rows) same in
    let second = All-head Same b rows (All-tail Same a (b ∷ rows) same) in
    absurd (apart 0 1 a (omega arith) (omega arith) (first ∙ sym second))

contains_none : {X : Type 0} (x : X) → Contains [] x → ⊥
contains_none x is = omega (arith, is.1)

contains_rest : {X : Type 0} (first x : X) (rest : List X) → Contains (first ∷ rest) x → (first ≡ x → ⊥) → Contains rest x
contains_rest first x rest (zero, within, same) other = absurd (other same)
contains_rest first x rest (suc k, within, same) other = (k, omega (arith, within), same)

-- what each comes to is no more than what its version does
abbrev pub IsAmong : List Version → (VersionRow → ℕ) → (Version → ℕ) → VersionRow → Type 0
IsAmong versions f g row = Contains versions (held row) × (f row ≤ g (held row))

pub sum_among : (f : VersionRow → ℕ) (g : Version → ℕ) (versions : List Version) (rows : List VersionRow) → AllPairs AreHeldApart rows
    → All (IsAmong versions f g) rows → sum_by f rows ≤ sum_by g versions
sum_among f g [] [] apart all = omega arith
sum_among f g [] (row ∷ rows) apart all = absurd (contains_none (held row) (All-head (IsAmong [] f g) row rows all).0)
sum_among f g (version ∷ versions) rows apart all =
    let first = filter (is_held version) rows in
    let rest = filter (λ row. not (is_held version row)) rows in
    let one = one_held f version (g version) first (AllPairs-filter AreHeldApart (is_held version) rows apart)
    (λ k d less. held_so version (get_or first k d) (filter_passes (is_held version) rows k d less))
    (λ k d less.
    let row = get_or first k d in
    let same = held_so version row (filter_passes (is_held version) rows k d less) in
    let few = (All-filter (is_held version) (IsAmong (version ∷ versions) f g) rows all k d less).1 in
    omega (arith, few, ap g same)) in
    let others = sum_among f g versions rest (AllPairs-filter AreHeldApart (λ row. not (is_held version row)) rows apart)
    (λ k d less.
    let row = get_or rest k d in
    let it = All-filter (λ row. not (is_held version row)) (IsAmong (version ∷ versions) f g) rows all k d less in
    let differs : (version ≡ held row) → ⊥ = λ same. both_ways (not (is_held version row))
    (ap not (held_as version row (sym same))) (filter_passes (λ row. not (is_held version row)) rows k d less) in
    (contains_rest version (held row) versions it.0 differs, it.1)) in
    omega (arith, one, others, sum_by-filter_both (is_held version) (λ row. not (is_held version row)) (λ row. refl) f rows, sum_by-cons g version versions)

-- ---- what is beyond a bound

-- the bytes of one, unless it is one of those
abbrev pub left_size : List Version → Version → ℕ
left_size gone version = if list_any (is_version version.node version.at) gone then 0 else version.size

itself : (version : Version) → is_version version.node version.at version ≡ true
itself version = and_from _ _ (eq-eqb version.node version.node refl) (eq-eqb version.at version.at refl)

-- those that are of them are left no bytes
none_left : (gone some : List Version) → All (Contains gone) some → sum_by (left_size gone) some ≡ 0
none_left gone [] all = refl
none_left gone (version ∷ some) all =
    let is = All-head (Contains gone) version some all in
    let any : list_any (is_version version.node version.at) gone ≡ true =
    list_any_at (is_version version.node version.at) gone is.0 version is.1
    (ap (is_version version.node version.at) is.2 ∙ itself version) in
    omega (
      arith,
      sum_by-cons (left_size gone) version some,
      ap (λ (b : Bool). if b then 0 else version.size) any,
      none_left gone some (All-tail (Contains gone) version some all),
    )

left_few : (gone some : List Version) → sum_by (left_size gone) some ≤ sum_by (λ (v : Version). v.size) some
left_few gone [] = omega arith
left_few gone (version ∷ some) =
    omega (
      arith,
      sum_by-cons (left_size gone) version some,
      sum_by-cons (λ (v : Version). v.size) version some,
      here (list_any (is_version version.node version.at) gone),
      left_few gone some,
    )
  where
    here : (b : Bool) → (if b then 0 else version.size) ≤ version.size
    here true = omega arith
    here false = omega arith

-- without those beyond it the others are within the bound
pub beyond_leaves : (bound : ℕ) (versions : List Version) → sum_by (left_size (beyond bound versions)) versions ≤ bound
beyond_leaves bound versions =
    let size : Version → ℕ = λ v. v.size in
    let sorted = latest_first versions in
    let n = within bound versions in
    let gone = beyond bound versions in
    let front = take n sorted in
    let parts : front ++ gone ≡ sorted = take-append-drop n sorted in
    let few = (fitting_right bound (map size sorted)).within in
    omega (
      arith,
      sum_by-IsPermutation (left_size gone) versions sorted (latest_right versions).1,
      ap (sum_by (left_size gone)) parts,
      sum_by-append (left_size gone) front gone,
      none_left gone gone (All-contains_itself gone),
      left_few gone front,
      sum-map size front,
      ap sum (take-map size n sorted),
      few,
    )
