-- The versions of a file whose content becomes another: where what is replaced stands among them, and which thin out.
use Rattle.std.proofs.Common.{◌≡◌, ◌≢◌, ℕ, zero, suc, ◌-◌, ◌<◌, ◌≤◌, ◌==◌, ◌&&◌, inl, inr, not, Bool, true, false, List, [], ◌∷◌, ◌++◌, ◌∙◌, drop, filter, get_or, if◌then◌else◌, length, map, nat_cmp, nat_lt, nat_le, reverse, Option, Result, Ok, Err, refl, sym, ap, subst, arith}
use Rattle.std.specs.Prelude.{None, Some, is_none, is_some}
use Rattle.std.specs.List.{All, AllPairs, AllWithin, insert, list_any}
use Rattle.std.specs.List.Sorted.{IsBinarySearchResult, IsNonDecreasingBy, IsPartitionedBy, IsSearchInRange}
use Rattle.std.specs.Option.{IfSome, option_map_or}
use Rattle.std.specs.Ordering.{ordering_index}
use Rattle.std.specs.Result.{is_ok}
use Rattle.std.specs.declared.cmp.Ordering.{Ordering}
use Rattle.std.specs.declared.cmp.Ordering.TheVariants.{Equal, Greater, Less}
use Rattle.std.proofs.lemmas.Bool.{and_parts, both_ways, cases_lt, cond_both, eqb-true, le-ltb, lt-ltb, not-true, or_cases}
use Rattle.std.proofs.lemmas.Bool.Decides.{nat_tests}
use Rattle.std.proofs.lemmas.List.{get_or-reverse, length-reverse}
use Rattle.std.proofs.lemmas.List.Elements.{All-cons, All-filter, All-head, All-map, All-tail, All-weaker, filter_passes}
use Rattle.std.proofs.lemmas.List.Folds.{list_any_at, list_any_none}
use Rattle.std.proofs.lemmas.List.Kept.{AllPairs-cons, AllPairs-filter}
use Rattle.std.proofs.lemmas.List.Sorted.{All-permutation, IsPartitionedBy-ltb, IsPermutation-reverse}
use Rattle.nf_base.specs.declared.rows.NodeRow.{NodeRow}
use Rattle.nf_base.specs.declared.rows.VersionRow.{VersionRow}
use Rattle.nf_defs.proofs.Puts.{all_put, put_rising}
use Rattle.nf_defs.specs.Prelude.{by_order, is_file, is_folder, is_folder_kind, IsRising, key_cmp, node_row, put, Tables, version_key}
use Rattle.nf_retention.specs.Thinning.{AreFalling, step, thinned, thinned_below}
use Rattle.nf_retention.specs.declared.versions.Version.{Version}
use Rattle.nf_table.proofs.Fronts.{kept}
use Rattle.nf_words.proofs.Forgetting.{heads, pairs_map, rows_there, tails}
use Rattle.nf_words.proofs.Found.{found_has, found_passes}
use Rattle.nf_words.specs.Others.{IsVersionSound}
use Rattle.nf_words.specs.Prelude.{AreSound, IsNodeSound}
use Rattle.nf_words.specs.Versions.{becomes_version, held, is_at, is_empty, staying, version_for, version_row, versions_of, with_replaced}
use Rattle.nf_deeds.proofs.Walks.{all_left, map_reverse}

-- ---- rows that are found

-- a node that is found by its number is found by its own
pub row_itself : (rows : List NodeRow) (node : ℕ) (row : NodeRow) → node_row rows node ≡ Some row → node_row rows row.id ≡ Some row
row_itself rows node row there =
    ap (node_row rows) (eqb-true row.id node (found_passes (λ (r : NodeRow). r.id == node) rows row there)) ∙ there

-- a file is no folder
pub no_folder : (rows : List NodeRow) (node : ℕ) → is_file rows node ≡ true → is_folder rows node ≡ false
no_folder rows node file = here (node_row rows node) file
  where
    here : (o : Option NodeRow) → option_map_or (λ row. not (is_folder_kind row.kind)) o false ≡ true
        → option_map_or (λ row. is_folder_kind row.kind) o false ≡ false
    here None file = refl
    here (Some row) file = not-true _ file

-- a version that is there is of a file
pub version_file : (t : Tables) (node at : ℕ) (version : VersionRow) → AreSound t → version_row t.versions node at ≡ Some version
    → is_file t.nodes node ≡ true
version_file t node at version sound there =
    let is : VersionRow → Bool = λ row. row.node == node && row.at == at in
    let fine : IsVersionSound t version = subst (λ (o : Option VersionRow). IfSome o (IsVersionSound t)) there
    (found_has (IsVersionSound t) is t.versions sound.others.versions) in
    let same = eqb-true version.node node (and_parts (version.node == node) (version.at == at) (found_passes is t.versions version there)).0 in
    ap (is_file t.nodes) (sym same) ∙ fine.file

-- ---- one among others

-- what fails a test behind what passes it
rest_is : {X : Type 0} (p : X → Bool) (xs : List X) (i : ℕ) → AllWithin (λ x. p x ≡ true) xs 0 i → AllWithin (λ x. p x ≡ false) xs i (length xs)
    → drop i xs ≡ filter (λ x. not (p x)) xs
rest_is p [] zero pass fail = refl
rest_is p [] (suc i) pass fail = refl
rest_is {X = X} p (x ∷ xs) zero pass fail =
    rw (fail 0 x (omega arith) (omega arith))
    (ap (λ (rest : List X). x ∷ rest)
    (rest_is p xs zero (λ k d le less. absurd (omega arith)) (λ k d le less. fail (suc k) d (omega arith) (omega arith))))
rest_is p (x ∷ xs) (suc i) pass fail =
    rw (pass 0 x (omega arith) (omega arith))
    (rest_is p xs i (λ k d le less. pass (suc k) d (omega arith) (omega arith)) (λ k d le less. fail (suc k) d (omega arith) (omega arith)))

-- of an earlier moment
abbrev pub below : ℕ → Version → Bool
below at other = nat_lt other.at at

-- a version behind those of earlier moments
abbrev pub parts : Version → List Version → List Version
parts version xs = filter (below version.at) xs ++ version ∷ filter (λ other. not (below version.at other)) xs

pub inserted : (version : Version) (xs : List Version) (i : ℕ) → AllWithin (λ other. below version.at other ≡ true) xs 0 i
    → AllWithin (λ other. below version.at other ≡ false) xs i (length xs) → insert xs i version ≡ parts version xs
inserted version xs i pass fail =
    ap (λ (front : List Version). front ++ version ∷ drop i xs) (kept (below version.at) xs i pass fail)
    ∙ ap (λ (rest : List Version). filter (below version.at) xs ++ version ∷ rest) (rest_is (below version.at) xs i pass fail)

pub part_before : (at : ℕ) (xs : List Version) → IsNonDecreasingBy (λ (other : Version). other.at) xs → IsPartitionedBy (below at) xs
part_before at xs rising = IsPartitionedBy-ltb (λ (other : Version). other.at) xs at rising

parts_first : (version x : Version) (xs : List Version) → below version.at x ≡ true → parts version (x ∷ xs) ≡ x ∷ parts version xs
parts_first version x xs is = rw is refl

none_left : {X : Type 0} (p : X → Bool) (xs : List X) → All (λ (x : X). p x ≡ false) xs → filter p xs ≡ []
none_left p [] fails = refl
none_left {X = X} p (x ∷ xs) fails =
    rw (All-head (λ (x : X). p x ≡ false) x xs fails) (none_left p xs (All-tail (λ (x : X). p x ≡ false) x xs fails))

parts_none : (version : Version) (xs : List Version) → All (λ (other : Version). below version.at other ≡ false) xs → parts version xs ≡ version ∷ xs
parts_none version xs fails =
    ap (λ (front : List Version). front ++ version ∷ filter (λ other. not (below version.at other)) xs) (none_left (below version.at) xs fails)
    ∙ ap (λ (rest : List Version). version ∷ rest)
    (all_left (λ (other : Version). not (below version.at other)) xs (λ k d within. ap not (fails k d within)))

-- ---- rows of one node

-- their keys are in the order of their moments
keys_less : (m n a b : ℕ) → m ≡ n → a < b → key_cmp (m ∷ a ∷ []) (n ∷ b ∷ []) ≡ Less
keys_less m n a b same less = grind (arith, nat_tests)

keys_greater : (m n a b : ℕ) → m ≡ n → b < a → key_cmp (m ∷ a ∷ []) (n ∷ b ∷ []) ≡ Greater
keys_greater m n a b same less = grind (arith, nat_tests)

less_keys : (m n a b : ℕ) → m ≡ n → key_cmp (m ∷ a ∷ []) (n ∷ b ∷ []) ≡ Less → a < b
less_keys m n a b same less = grind (arith, nat_tests)

abbrev Rise : VersionRow → VersionRow → Type 0
Rise a b = a.at < b.at

abbrev IsOf : ℕ → VersionRow → Type 0
IsOf node row = row.node ≡ node

moments_rise : (node : ℕ) (rows : List VersionRow) → All (IsOf node) rows → IsRising version_key rows → AllPairs Rise rows
moments_rise node rows own rising i j d before within =
    less_keys _ _ _ _ (own i d (omega (arith, before, within)) ∙ sym (own j d within)) (rising i j d before within)

put_between : (its : VersionRow) (rows : List VersionRow) → All (IsOf its.node) rows → AllPairs Rise rows
    → All (λ (row : VersionRow). row.at ≢ its.at) rows → map held (put version_key its rows) ≡ parts (held its) (map held rows)
put_between its [] own rising apart = refl
put_between its (x ∷ rows) own rising apart =
    elim (cases_lt its.at x.at) [
      | inl before ↦
          ap (λ (o : Ordering). map held (by_order o (its ∷ x ∷ rows) (its ∷ rows) (x ∷ put version_key its rows)))
          (keys_less its.node x.node its.at x.at same before)
          ∙ sym (parts_none (held its) (map held (x ∷ rows)) (All-map Fails held (x ∷ rows) (later before)))
      | inr not_before ↦
          let less : x.at < its.at = omega (arith, not_before, All-head (λ (row : VersionRow). row.at ≢ its.at) x rows apart) in
          ap (λ (o : Ordering). map held (by_order o (its ∷ x ∷ rows) (its ∷ rows) (x ∷ put version_key its rows)))
          (keys_greater its.node x.node its.at x.at same less)
          ∙ ap (λ (rest : List Version). held x ∷ rest)
          (put_between its rows (All-tail (IsOf its.node) x rows own) (tails Rise x rows rising)
          (All-tail (λ (row : VersionRow). row.at ≢ its.at) x rows apart))
          ∙ sym (parts_first (held its) (held x) (map held rows) (lt-ltb x.at its.at less))
    ]
  where
    Fails : Version → Type 0
    Fails other = below its.at other ≡ false

    same : its.node ≡ x.node
    same = sym (All-head (IsOf its.node) x rows own)

    later : its.at < x.at → All (λ (row : VersionRow). Fails (held row)) (x ∷ rows)
    later before =
        All-cons (λ (row : VersionRow). Fails (held row)) x rows (le-ltb x.at its.at (omega (arith, before)))
        (All-weaker (Rise x) (λ (row : VersionRow). Fails (held row)) (λ row less. le-ltb row.at its.at (omega (arith, before, less))) rows
        (heads Rise x rows rising))

-- ---- the versions of a file

module _ (versions : List VersionRow) (back : Option ℕ) (row : NodeRow) (rising : IsRising version_key versions) where
  abbrev Below : VersionRow → VersionRow → Type 0
  Below a b = key_cmp (version_key a) (version_key b) ≡ Less

  abbrev others : List VersionRow
  others = staying versions back row.id

  abbrev stays : VersionRow → Bool
  stays one = not (is_at back one.at)

  abbrev its : VersionRow
  its = version_for row

  others_all : (P : VersionRow → Type 0) → All P versions → All P others
  others_all P all =
      All-filter stays P (versions_of versions row.id) (All-filter (λ (one : VersionRow). one.node == row.id) P versions all)

  others_own : All (IsOf row.id) others
  others_own =
      All-filter stays (IsOf row.id) (versions_of versions row.id)
      (λ k d within. eqb-true _ row.id (filter_passes (λ (one : VersionRow). one.node == row.id) versions k d within))

  others_rise : IsRising version_key others
  others_rise =
      AllPairs-filter Below stays (versions_of versions row.id) (AllPairs-filter Below (λ (one : VersionRow). one.node == row.id) versions rising)

  -- where what is replaced becomes a version, none of the others is of its moment
  others_apart : becomes_version versions back row ≡ true → All (λ (one : VersionRow). one.at ≢ row.changed) others
  others_apart is k d within same =
      elim (or_cases (is_at back row.changed) (is_none (version_row versions row.id row.changed)) (and_parts (not (is_empty row.content)) _ is).1) [
        | inl comes ↦
            both_ways (is_at back one.at) (not-true (is_at back one.at) (filter_passes stays (versions_of versions row.id) k d within))
            (ap (is_at back) same ∙ comes)
        | inr none ↦
            let found : is_some (version_row versions row.id row.changed) ≡ true =
            ap (λ (n : ℕ). is_some (version_row versions n row.changed)) (sym (others_own k d within))
            ∙ ap (λ (n : ℕ). is_some (version_row versions one.node n)) (sym same)
            ∙ others_all (λ (one : VersionRow). is_some (version_row versions one.node one.at) ≡ true) (rows_there versions) k d within in
            not_both (version_row versions row.id row.changed) none found
      ]
    where
      one : VersionRow
      one = get_or others k d

      not_both : (o : Option VersionRow) → is_none o ≡ true → is_some o ≡ true → ⊥
      not_both None none some = absurd (cc)
      not_both (Some x) none some = absurd (cc)

  -- they stand in the order of their moments
  pub held_rise : IsNonDecreasingBy (λ (other : Version). other.at) (map held others)
  held_rise i j d le within =
      elim (cases_lt i j) [
        | inl before ↦
            let less = pairs_map (λ (a b : Version). a.at < b.at) held others (moments_rise row.id others others_own others_rise) i j d before within in
            omega (arith, less)
        | inr not_before ↦ let e : i ≡ j = omega (arith, le, not_before) in rw e (omega arith)
      ]

  pub held_with : becomes_version versions back row ≡ true → parts (held its) (map held others) ≡ map held (with_replaced versions back row)
  held_with is =
      sym (put_between its others others_own (moments_rise row.id others others_own others_rise) (others_apart is))
      ∙ ap (λ (b : Bool). map held (if b then put version_key its others else others)) (sym is)

  pub held_others : becomes_version versions back row ≡ false → map held others ≡ map held (with_replaced versions back row)
  held_others is = ap (λ (b : Bool). map held (if b then put version_key its others else others)) (sym is)

  -- and so do all
  abbrev all : List VersionRow
  all = with_replaced versions back row

  all_have : (P : VersionRow → Type 0) → P its → All P versions → All P all
  all_have P is has =
      cond_both (becomes_version versions back row) (put version_key its others) others (All P)
      (λ e. all_put version_key P its others is (others_all P has)) (λ e. others_all P has)

  all_own : All (IsOf row.id) all
  all_own =
      cond_both (becomes_version versions back row) (put version_key its others) others (All (IsOf row.id))
      (λ e. all_put version_key (IsOf row.id) its others refl others_own) (λ e. others_own)

  all_rise : AllPairs Rise all
  all_rise =
      moments_rise row.id all all_own
      (cond_both (becomes_version versions back row) (put version_key its others) others (IsRising version_key)
      (λ e. put_rising version_key its others others_rise) (λ e. others_rise))

-- ---- moments, newest first

held_moments : (rows : List VersionRow) → map (λ version. version.at) (map held rows) ≡ map (λ row. row.at) rows
held_moments [] = refl
held_moments (row ∷ rows) = ap (λ (rest : List ℕ). row.at ∷ rest) (held_moments rows)

pub moments_are : (rows : List VersionRow) → map (λ version. version.at) (reverse (map held rows)) ≡ reverse (map (λ row. row.at) rows)
moments_are rows = map_reverse (λ (version : Version). version.at) (map held rows) ∙ ap reverse (held_moments rows)

abbrev Fall : ℕ → ℕ → Type 0
Fall newer older = older < newer

falls : (xs : List ℕ) → AllPairs (λ (a b : ℕ). a < b) xs → AreFalling (reverse xs)
falls xs rising i j d before within =
    let few = length-reverse xs in
    let first = get_or-reverse xs i d (omega (arith, few, before, within)) in
    let second = get_or-reverse xs j d (omega (arith, few, within)) in
    let less = rising (length xs - 1 - j) (length xs - 1 - i) d (omega (arith, few, before, within)) (omega (arith, few, before, within)) in
    omega (arith, first, second, less)

-- those of a file fall
pub moments_fall : (t : Tables) (back : Option ℕ) (row : NodeRow) → AreSound t
    → AreFalling (map (λ version. version.at) (reverse (map held (with_replaced t.versions back row))))
moments_fall t back row sound =
    let rows = with_replaced t.versions back row in
    subst AreFalling (sym (moments_are rows))
    (falls (map (λ row. row.at) rows)
    (pairs_map (λ (a b : ℕ). a < b) (λ (one : VersionRow). one.at) rows (all_rise t.versions back row sound.others.versions_rise)))

-- and none is later
pub moments_past : (t : Tables) (now : ℕ) (back : Option ℕ) (row : NodeRow) → AreSound t → t.meta.last ≤ now → node_row t.nodes row.id ≡ Some row
    → All (λ version. version ≤ now) (map (λ version. version.at) (reverse (map held (with_replaced t.versions back row))))
moments_past t now back row sound late there =
    let rows = with_replaced t.versions back row in
    let fine : IsNodeSound t row = subst (λ (o : Option NodeRow). IfSome o (IsNodeSound t)) there
    (found_has (IsNodeSound t) (λ (one : NodeRow). one.id == row.id) t.nodes sound.nodes) in
    let past : All (λ (one : VersionRow). one.at ≤ now) rows =
    all_have t.versions back row sound.others.versions_rise (λ (one : VersionRow). one.at ≤ now) (omega (arith, fine.changed, late))
    (λ k d within. omega (arith, (sound.others.versions k d within).at, late)) in
    subst (All (λ (at : ℕ). at ≤ now)) (sym (moments_are rows))
    (All-permutation (λ (at : ℕ). at ≤ now) (map (λ row. row.at) rows) (reverse (map (λ row. row.at) rows)) (IsPermutation-reverse (map (λ row. row.at) rows))
    (All-map (λ (at : ℕ). at ≤ now) (λ (one : VersionRow). one.at) rows past))

-- ---- those that thin out

thin_all : (P : ℕ → Type 0) (now last : ℕ) (xs : List ℕ) → All P xs → All P (thinned_below now last xs)
thin_all P now last [] all = all
thin_all P now last (x ∷ xs) all =
    cond_both (nat_le (step (now - last)) (last - x)) (thinned_below now x xs) (x ∷ thinned_below now last xs) (All P)
    (λ e. thin_all P now x xs (All-tail P x xs all))
    (λ e. All-cons P x (thinned_below now last xs) (All-head P x xs all) (thin_all P now last xs (All-tail P x xs all)))

thin_falls : (now last : ℕ) (xs : List ℕ) → AllPairs Fall xs → AllPairs Fall (thinned_below now last xs)
thin_falls now last [] falling = falling
thin_falls now last (x ∷ xs) falling =
    cond_both (nat_le (step (now - last)) (last - x)) (thinned_below now x xs) (x ∷ thinned_below now last xs) (AllPairs Fall)
    (λ e. thin_falls now x xs (tails Fall x xs falling))
    (λ e.
    AllPairs-cons Fall x (thinned_below now last xs) (thin_all (Fall x) now last xs (heads Fall x xs falling))
    (thin_falls now last xs (tails Fall x xs falling)))

pub thinned_falls : (now : ℕ) (xs : List ℕ) → AreFalling xs → AreFalling (thinned now xs)
thinned_falls now [] falling = falling
thinned_falls now (x ∷ xs) falling = thin_falls now x xs (tails Fall x xs falling)

-- ---- a moment among some that fall

index_falls : (at a b : ℕ) → b ≤ a → ordering_index (nat_cmp at a) ≤ ordering_index (nat_cmp at b)
index_falls at a b le = grind (arith, nat_tests)

tie : (at a : ℕ) → nat_cmp at a ≡ Equal → (a == at) ≡ true
tie at a is = grind (arith, nat_tests)

less : (at a : ℕ) → nat_cmp at a ≡ Less → (a == at) ≡ false
less at a is = grind (arith, nat_tests)

more : (at a : ℕ) → nat_cmp at a ≡ Greater → (a == at) ≡ false
more at a is = grind (arith, nat_tests)

pub among : (at : ℕ) (moments : List ℕ) (r : Result ℕ ℕ) → AreFalling moments → IsSearchInRange r (length moments)
    → IsBinarySearchResult (λ moment. nat_cmp at moment) moments r → is_ok r ≡ list_any (λ moment. moment == at) moments
among at [] (Ok i) falling range found = absurd (omega arith)
among at (x ∷ xs) (Ok i) falling range equal =
    sym (list_any_at (λ moment. moment == at) (x ∷ xs) i x range (tie at (get_or (x ∷ xs) i x) (equal x)))
among at moments (Err i) falling range parted =
    let pair = parted (λ i j d le within. elim (cases_lt i j) [
      | inl before ↦ index_falls at (get_or moments i d) (get_or moments j d) (omega (arith, falling i j d before within))
      | inr not_before ↦ let e : i ≡ j = omega (arith, le, not_before) in rw e (omega arith)
    ]) in
    sym (list_any_none (λ moment. moment == at) moments (λ k d within. elim (cases_lt k i) [
      | inl before ↦ less at (get_or moments k d) (pair.0 k d (omega arith) before)
      | inr after ↦ more at (get_or moments k d) (pair.1 k d after within)
    ]))
