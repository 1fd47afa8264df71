-- Which versions go: each is one that is there, and none goes twice.
use Rattle.std.proofs.Common.{◌≡◌, ◌≢◌, ◌⊎◌, ℕ, zero, suc, ◌==◌, ◌&&◌, inl, inr, Bool, true, false, not, List, [], ◌∷◌, ◌++◌, ◌∙◌, drop, filter, get_or, map, reverse, Option, refl, sym, ap, subst, arith}
use Rattle.std.specs.Prelude.{None, Some, bytes_eq, is_some}
use Rattle.std.specs.List.{All, AllPairs}
use Rattle.std.specs.Option.{IfSome}
use Rattle.std.specs.declared.cmp.Ordering.TheVariants.{Less}
use Rattle.std.proofs.lemmas.Cmp.{tied_itself}
use Rattle.std.proofs.lemmas.Bool.{and_from, and_parts, both_ways, cond_both, eq-eqb, eqb-true, not-true}
use Rattle.std.proofs.lemmas.List.{reverse-append}
use Rattle.std.proofs.lemmas.List.Elements.{All-append, All-cons, All-drop, All-filter, All-head, All-map, All-nil, All-tail, All-weaker, filter_passes}
use Rattle.std.proofs.lemmas.List.Kept.{AllPairs-cons, AllPairs-filter}
use Rattle.std.proofs.lemmas.List.Sorted.{All-permutation, IsPermutation-reverse}
use Rattle.std.proofs.lemmas.Slice.Eq.{bytes_eq-Decides}
use Rattle.nf_base.specs.declared.rows.NodeRow.{NodeRow}
use Rattle.nf_base.specs.declared.rows.VersionRow.{VersionRow}
use Rattle.nf_defs.proofs.Puts.{all_put, key_total, put_rising}
use Rattle.nf_defs.specs.Prelude.{dropped, IsRising, key_cmp, made, put, Tables, version_key}
use Rattle.nf_retention.proofs.Latest.{latest_right}
use Rattle.nf_retention.specs.Versions.{beyond, is_later, latest_first, put_latest}
use Rattle.nf_retention.specs.declared.versions.Version.{Version}
use Rattle.nf_words.proofs.Found.{found_has, found_passes}
use Rattle.nf_words.specs.Changes.{Charged, unsettled}
use Rattle.nf_words.specs.Versions.{becomes_version, drop_version, gone_after, held, held_beside, held_without, is_among, is_at, is_held_by, is_under_any, staying, thinned_out, version_for, version_row, versions_of, with_replaced}

-- ---- pairs in lists

pub heads : {X : Type 0} (R : X → X → Type 0) (x : X) (xs : List X) → AllPairs R (x ∷ xs) → All (R x) xs
heads R x xs pairs k d within = pairs 0 (suc k) d (omega arith) (omega (arith, within))

pub tails : {X : Type 0} (R : X → X → Type 0) (x : X) (xs : List X) → AllPairs R (x ∷ xs) → AllPairs R xs
tails R x xs pairs i j d before within = pairs (suc i) (suc j) d (omega (arith, before)) (omega (arith, within))

pub no_pairs : {X : Type 0} (R : X → X → Type 0) → AllPairs R []
no_pairs R i j d before within = absurd (omega (arith, within))

pairs_append : {X : Type 0} (R : X → X → Type 0) (xs ys : List X) → AllPairs R xs → AllPairs R ys → All (λ (x : X). All (R x) ys) xs → AllPairs R (xs ++ ys)
pairs_append R [] ys a b apart = b
pairs_append {X = X} R (x ∷ xs) ys a b apart =
    AllPairs-cons R x (xs ++ ys) (All-append (R x) xs ys (heads R x xs a) (All-head (λ (x : X). All (R x) ys) x xs apart))
    (pairs_append R xs ys (tails R x xs a) b (All-tail (λ (x : X). All (R x) ys) x xs apart))

pairs_drop : {X : Type 0} (R : X → X → Type 0) (n : ℕ) (xs : List X) → AllPairs R xs → AllPairs R (drop n xs)
pairs_drop R zero xs pairs = pairs
pairs_drop R (suc n) [] pairs = pairs
pairs_drop R (suc n) (x ∷ xs) pairs = pairs_drop R n xs (tails R x xs pairs)

pub pairs_map : {X Y : Type 0} (R : Y → Y → Type 0) (f : X → Y) (xs : List X) → AllPairs (λ (a b : X). R (f a) (f b)) xs → AllPairs R (map f xs)
pairs_map R f [] pairs = no_pairs R
pairs_map {X = X} R f (x ∷ xs) pairs =
    AllPairs-cons R (f x) (map f xs) (All-map (R (f x)) f xs (heads (λ (a b : X). R (f a) (f b)) x xs pairs))
    (pairs_map R f xs (tails (λ (a b : X). R (f a) (f b)) x xs pairs))

-- ---- two versions

-- of different files or moments
abbrev pub AreTwo : Version → Version → Type 0
AreTwo a b = a.node ≡ b.node → a.at ≢ b.at

two_turned : (a b : Version) → AreTwo a b → AreTwo b a
two_turned a b two = λ node at. two (sym node) (sym at)

two_reverse : (versions : List Version) → AllPairs AreTwo versions → AllPairs AreTwo (reverse versions)
two_reverse [] pairs = no_pairs AreTwo
two_reverse (version ∷ versions) pairs =
    subst (AllPairs AreTwo) (sym (reverse-append (version ∷ []) versions))
    (pairs_append AreTwo (reverse versions) (version ∷ []) (two_reverse versions (tails AreTwo version versions pairs))
    (AllPairs-cons AreTwo version [] (All-nil (AreTwo version)) (no_pairs AreTwo))
    (All-permutation (λ (other : Version). All (AreTwo other) (version ∷ [])) versions (reverse versions) (IsPermutation-reverse versions)
    (All-weaker (AreTwo version) (λ (other : Version). All (AreTwo other) (version ∷ []))
    (λ other two. All-cons (AreTwo other) version [] (two_turned version other two) (All-nil (AreTwo other)))
    versions (heads AreTwo version versions pairs))))

-- the newest first they are the same
latest_has : (P : Version → Type 0) (versions : List Version) → All P versions → All P (latest_first versions)
latest_has P versions all = All-permutation P versions (latest_first versions) (latest_right versions).1 all

put_has : (P : Version → Type 0) (version : Version) (versions : List Version) → P version → All P versions → All P (put_latest version versions)
put_has P version [] is all = All-cons P version [] is (All-nil P)
put_has P version (first ∷ versions) is all =
    cond_both (is_later first version) (first ∷ put_latest version versions) (version ∷ first ∷ versions) (All P)
    (λ e. All-cons P first (put_latest version versions) (All-head P first versions all) (put_has P version versions is (All-tail P first versions all)))
    (λ e. All-cons P version (first ∷ versions) is all)

put_two : (version : Version) (versions : List Version) → All (AreTwo version) versions → AllPairs AreTwo versions
    → AllPairs AreTwo (put_latest version versions)
put_two version [] all pairs = AllPairs-cons AreTwo version [] all pairs
put_two version (first ∷ versions) all pairs =
    cond_both (is_later first version) (first ∷ put_latest version versions) (version ∷ first ∷ versions) (AllPairs AreTwo)
    (λ e.
    AllPairs-cons AreTwo first (put_latest version versions)
    (put_has (AreTwo first) version versions (two_turned version first (All-head (AreTwo version) first versions all)) (heads AreTwo first versions pairs))
    (put_two version versions (All-tail (AreTwo version) first versions all) (tails AreTwo first versions pairs)))
    (λ e. AllPairs-cons AreTwo version (first ∷ versions) all pairs)

latest_two : (versions : List Version) → AllPairs AreTwo versions → AllPairs AreTwo (latest_first versions)
latest_two [] pairs = pairs
latest_two (version ∷ versions) pairs =
    put_two version (latest_first versions) (latest_has (AreTwo version) versions (heads AreTwo version versions pairs))
    (latest_two versions (tails AreTwo version versions pairs))

-- what versions have, those of them that are beyond a bound have
beyond_has : (P : Version → Type 0) (bound : ℕ) (versions : List Version) → All P versions → All P (beyond bound versions)
beyond_has P bound versions all = All-drop P _ (latest_first versions) (latest_has P versions all)

beyond_two : (bound : ℕ) (versions : List Version) → AllPairs AreTwo versions → AllPairs AreTwo (beyond bound versions)
beyond_two bound versions pairs = pairs_drop AreTwo _ (latest_first versions) (latest_two versions pairs)

-- rows by rising key are of different files or moments
rows_two : (rows : List VersionRow) → IsRising version_key rows → AllPairs AreTwo (map held rows)
rows_two rows rising =
    pairs_map AreTwo held rows (λ i j d before within node at.
    let a = get_or rows i d in
    let b = get_or rows j d in
    let equal = tied_itself key_total (version_key b) in
    let same : version_key a ≡ version_key b = ap (λ (n : ℕ). n ∷ a.at ∷ []) node ∙ ap (λ (n : ℕ). b.node ∷ n ∷ []) at in
    let less = ap (λ (key : List ℕ). key_cmp key (version_key b)) (sym same) ∙ rising i j d before within in absurd (cc))

-- ---- versions that are there

abbrev pub IsVersion : Tables → Version → Type 0
IsVersion t version = is_some (version_row t.versions version.node version.at) ≡ true

-- each row is found
pub rows_there : (rows : List VersionRow) → All (λ (row : VersionRow). is_some (version_row rows row.node row.at) ≡ true) rows
rows_there [] = All-nil (λ (row : VersionRow). is_some (version_row [] row.node row.at) ≡ true)
rows_there (first ∷ rows) =
    All-cons (λ (row : VersionRow). is_some (version_row (first ∷ rows) row.node row.at) ≡ true) first rows
    (rw (and_from (first.node == first.node) (first.at == first.at) (eq-eqb first.node first.node refl) (eq-eqb first.at first.at refl)) refl)
    (All-weaker (λ (row : VersionRow). is_some (version_row rows row.node row.at) ≡ true)
    (λ (row : VersionRow). is_some (version_row (first ∷ rows) row.node row.at) ≡ true)
    (λ row there.
    cond_both (first.node == row.node && first.at == row.at) (Some first) (version_row rows row.node row.at)
    (λ (o : Option VersionRow). is_some o ≡ true) (λ e. refl) (λ e. there))
    rows (rows_there rows))

all_there : (t : Tables) → All (λ (row : VersionRow). IsVersion t (held row)) t.versions
all_there t = rows_there t.versions

-- ---- those that go beside other deeds

pub unsettled_there : (t : Tables) (to : Charged) (gone : List ℕ) → All (IsVersion t) (unsettled t to gone)
unsettled_there t to gone =
    beyond_has (IsVersion t) _ (held_without t to.owner gone)
    (All-map (IsVersion t) held _
    (All-filter (λ (row : VersionRow). not (is_under_any t.nodes gone row.node)) (λ (row : VersionRow). IsVersion t (held row))
    (filter (is_held_by t.nodes to.owner) t.versions)
    (All-filter (is_held_by t.nodes to.owner) (λ (row : VersionRow). IsVersion t (held row)) t.versions (all_there t))))

pub unsettled_two : (t : Tables) (to : Charged) (gone : List ℕ) → IsRising version_key t.versions → AllPairs AreTwo (unsettled t to gone)
unsettled_two t to gone rising =
    beyond_two _ (held_without t to.owner gone)
    (rows_two _ (AllPairs-filter Below (λ (row : VersionRow). not (is_under_any t.nodes gone row.node)) (filter (is_held_by t.nodes to.owner) t.versions)
    (AllPairs-filter Below (is_held_by t.nodes to.owner) t.versions rising)))
  where
    Below : VersionRow → VersionRow → Type 0
    Below a b = key_cmp (version_key a) (version_key b) ≡ Less

-- ---- those that go where a content becomes another

module _ (t : Tables) (now : ℕ) (back : Option ℕ) (row : NodeRow) (rising : IsRising version_key t.versions) where
  -- what is replaced becomes a version
  abbrev pub becomes : Bool
  becomes = becomes_version t.versions back row

  -- it is that, or one that is there and doesn't come back
  abbrev pub IsIts : Version → Type 0
  IsIts version = (becomes ≡ true) × (version.node ≡ row.id) × (version.at ≡ row.changed)

  abbrev pub Stands : Version → Type 0
  Stands version = IsVersion t version × (version.node ≡ row.id → is_at back version.at ≡ false)

  abbrev pub MayGo : Version → Type 0
  MayGo version = IsIts version ⊎ Stands version

  abbrev versions : List VersionRow
  versions = with_replaced t.versions back row

  abbrev others : List VersionRow
  others = staying t.versions back row.id

  abbrev Below : VersionRow → VersionRow → Type 0
  Below a b = key_cmp (version_key a) (version_key b) ≡ Less

  others_stand : All (λ (one : VersionRow). Stands (held one)) others
  others_stand k d within = (
    All-filter (λ (one : VersionRow). not (is_at back one.at)) (λ (one : VersionRow). IsVersion t (held one)) (versions_of t.versions row.id)
        (All-filter (λ (one : VersionRow). one.node == row.id) (λ (one : VersionRow). IsVersion t (held one)) t.versions (all_there t)) k d within,
    λ node.
        not-true (is_at back (get_or others k d).at) (filter_passes (λ (one : VersionRow). not (is_at back one.at)) (versions_of t.versions row.id) k d within),
  )

  versions_may : All (λ (one : VersionRow). MayGo (held one)) versions
  versions_may =
      cond_both becomes (put version_key (version_for row) others) others (λ (rows : List VersionRow). All (λ (one : VersionRow). MayGo (held one)) rows)
      (λ is. all_put version_key (λ (one : VersionRow). MayGo (held one)) (version_for row) others (inl (is, refl, refl)) others_may) (λ is. others_may)
    where
      others_may : All (λ (one : VersionRow). MayGo (held one)) others
      others_may = All-weaker (λ (one : VersionRow). Stands (held one)) (λ (one : VersionRow). MayGo (held one)) (λ one is. inr is) others others_stand

  versions_own : All (λ (one : VersionRow). one.node ≡ row.id) versions
  versions_own =
      cond_both becomes (put version_key (version_for row) others) others (λ (rows : List VersionRow). All (λ (one : VersionRow). one.node ≡ row.id) rows)
      (λ is. all_put version_key (λ (one : VersionRow). one.node ≡ row.id) (version_for row) others refl others_own) (λ is. others_own)
    where
      others_own : All (λ (one : VersionRow). one.node ≡ row.id) others
      others_own =
          All-filter (λ (one : VersionRow). not (is_at back one.at)) (λ (one : VersionRow). one.node ≡ row.id) (versions_of t.versions row.id)
          (λ k d within. eqb-true _ row.id (filter_passes (λ (one : VersionRow). one.node == row.id) t.versions k d within))

  versions_rise : IsRising version_key versions
  versions_rise =
      cond_both becomes (put version_key (version_for row) others) others (IsRising version_key)
      (λ is. put_rising version_key (version_for row) others others_rise) (λ is. others_rise)
    where
      others_rise : IsRising version_key others
      others_rise =
          AllPairs-filter Below (λ (one : VersionRow). not (is_at back one.at)) (versions_of t.versions row.id)
          (AllPairs-filter Below (λ (one : VersionRow). one.node == row.id) t.versions rising)

  -- the same of what the bound sees, newest first
  abbrev all : List Version
  all = reverse (map held versions)

  all_has : (P : Version → Type 0) → All (λ (one : VersionRow). P (held one)) versions → All P all
  all_has P has = All-permutation P (map held versions) all (IsPermutation-reverse (map held versions)) (All-map P held versions has)

  all_two : AllPairs AreTwo all
  all_two = two_reverse (map held versions) (rows_two versions versions_rise)

  abbrev beside : List Version
  beside = held_beside t row.owner row.id

  abbrev off : VersionRow → Bool
  off one = not (one.node == row.id)

  beside_off : All (λ (one : Version). one.node ≢ row.id) beside
  beside_off =
      All-map (λ (one : Version). one.node ≢ row.id) held _
      (All-filter (is_held_by t.nodes row.owner) (λ (one : VersionRow). one.node ≢ row.id) (filter off t.versions)
      (λ k d within same.
      let one = get_or (filter off t.versions) k d in
      both_ways (one.node == row.id) (not-true (one.node == row.id) (filter_passes off t.versions k d within)) (eq-eqb one.node row.id same)))

  beside_there : All (IsVersion t) beside
  beside_there =
      All-map (IsVersion t) held _
      (All-filter (is_held_by t.nodes row.owner) (λ (one : VersionRow). IsVersion t (held one)) (filter off t.versions)
      (All-filter off (λ (one : VersionRow). IsVersion t (held one)) t.versions (all_there t)))

  beside_may : All MayGo beside
  beside_may k d within = inr (beside_there k d within, λ same. absurd (beside_off k d within same))

  beside_two : AllPairs AreTwo beside
  beside_two =
      rows_two _ (AllPairs-filter Below (is_held_by t.nodes row.owner) (filter off t.versions) (AllPairs-filter Below off t.versions rising))

  -- ---- whatever thins out, and whatever the bound is

  module _ (thin : List ℕ) (bound : ℕ) where
    abbrev at_some : Version → Bool
    at_some version = is_among thin version.at

    abbrev at_others : Version → Bool
    at_others version = not (is_among thin version.at)

    abbrev rest : List Version
    rest = beside ++ filter at_others all

    -- those that thin out are neither of other files nor among the others
    at_rest : All (λ (one : Version). All (AreTwo one) rest) (filter at_some all)
    at_rest i e inside =
        All-append (AreTwo (get_or (filter at_some all) i e)) beside (filter at_others all)
        (λ k d within node. absurd (beside_off k d within (sym node ∙ own i e inside)))
        (λ k d within node at.
        let is : is_among thin (get_or (filter at_others all) k d).at ≡ true =
        ap (is_among thin) (sym at) ∙ filter_passes at_some all i e inside in
        both_ways _ (not-true _ (filter_passes at_others all k d within)) is)
      where
        own : All (λ (one : Version). one.node ≡ row.id) (filter at_some all)
        own = All-filter at_some (λ (one : Version). one.node ≡ row.id) all (all_has (λ (one : Version). one.node ≡ row.id) versions_own)

    rest_two : AllPairs AreTwo rest
    rest_two =
        pairs_append AreTwo beside (filter at_others all) beside_two (AllPairs-filter AreTwo at_others all all_two)
        (λ i e inside k d within node. absurd (beside_off i e inside (node ∙ own k d within)))
      where
        own : All (λ (one : Version). one.node ≡ row.id) (filter at_others all)
        own = All-filter at_others (λ (one : Version). one.node ≡ row.id) all (all_has (λ (one : Version). one.node ≡ row.id) versions_own)

    both_may : All MayGo (filter at_some all ++ beyond bound rest)
    both_may =
        All-append MayGo (filter at_some all) (beyond bound rest) (All-filter at_some MayGo all (all_has MayGo versions_may))
        (beyond_has MayGo bound rest
        (All-append MayGo beside (filter at_others all) beside_may (All-filter at_others MayGo all (all_has MayGo versions_may))))

    both_two : AllPairs AreTwo (filter at_some all ++ beyond bound rest)
    both_two =
        pairs_append AreTwo (filter at_some all) (beyond bound rest) (AllPairs-filter AreTwo at_some all all_two) (beyond_two bound rest rest_two)
        (λ i e inside. beyond_has (AreTwo (get_or (filter at_some all) i e)) bound rest (at_rest i e inside))

  pub gone_may : (quota charge : ℕ) → All MayGo (gone_after t now back row quota charge)
  gone_may quota charge = both_may (thinned_out now row versions) _

  pub gone_two : (quota charge : ℕ) → AllPairs AreTwo (gone_after t now back row quota charge)
  gone_two quota charge = both_two (thinned_out now row versions) _

-- ---- versions that are dropped

-- one that is dropped isn't there
pub version_gone : (versions : List VersionRow) (node at : ℕ) → version_row (dropped version_key (node ∷ at ∷ []) versions) node at ≡ None
version_gone versions node at =
    here (version_row (dropped version_key (node ∷ at ∷ []) versions) node at) refl
    (found_has (λ (row : VersionRow). bytes_eq (node ∷ at ∷ []) (version_key row) ≡ false) (λ (row : VersionRow). row.node == node && row.at == at)
    (dropped version_key (node ∷ at ∷ []) versions)
    (λ k d within. not-true _ (filter_passes (λ (row : VersionRow). not (bytes_eq (node ∷ at ∷ []) (version_key row))) versions k d within)))
  where
    here : (o : Option VersionRow) → version_row (dropped version_key (node ∷ at ∷ []) versions) node at ≡ o
        → IfSome o (λ (row : VersionRow). bytes_eq (node ∷ at ∷ []) (version_key row) ≡ false) → o ≡ None
    here None e off = refl
    here (Some row) e off =
        let passes = and_parts (row.node == node) (row.at == at)
        (found_passes (λ (row : VersionRow). row.node == node && row.at == at) (dropped version_key (node ∷ at ∷ []) versions) row e) in
        let same : node ∷ at ∷ [] ≡ version_key row =
        ap (λ (n : ℕ). n ∷ at ∷ []) (sym (eqb-true row.node node passes.0)) ∙ ap (λ (n : ℕ). row.node ∷ n ∷ []) (sym (eqb-true row.at at passes.1)) in
        absurd (both_ways _ off ((bytes_eq-Decides (node ∷ at ∷ []) (version_key row)).1 same))

-- so it makes other tables
pub drop_differs : (t : Tables) (version : Version) → IsVersion t version → made t (drop_version version) ≢ t
drop_differs t version there = λ same.
    both_ways (is_some (version_row t.versions version.node version.at))
    (sym (ap (λ (u : Tables). is_some (version_row u.versions version.node version.at)) same) ∙ ap is_some (version_gone t.versions version.node version.at)) there
