-- What a walk takes: all that is under its top, and nothing twice.
use Rattle.std.proofs.Common.{ℕ, zero, suc, ◌+◌, ◌-◌, ◌<◌, ◌≡◌, ◌≢◌, List, [], ◌∷◌, ◌++◌, Some, get_or, map, filter, inl, inr, refl, sym, ap, subst, ◌∙◌, arith}
use Rattle.std.specs.List.{All, AllPairs, Contains, flat_map}
use Rattle.std.proofs.lemmas.Bool.{cases_order}
use Rattle.std.proofs.lemmas.List.Elements.{All-append, All-contains, All-contains_itself, All-head, All-map, All-tail}
use Rattle.std.proofs.lemmas.List.Kept.{AllPairs-cons, AllPairs-filter}
use Rattle.std.proofs.lemmas.Option.{same_Some}
use Rattle.nf_base.specs.declared.limits.TheConstants.{MAX_DEPTH}
use Rattle.nf_base.specs.declared.rows.NodeRow.{NodeRow}
use Rattle.nf_defs.proofs.ByName.{AllPairs-by_name}
use Rattle.nf_defs.proofs.Walks.{Contains-from_flat, children_are, climbs_walk, walk_climbs, walk_within_climbs}
use Rattle.nf_defs.specs.Prelude.{by_name, children_of, climb, is_in, parent_of, Tables, walk_of, walk_within}
use Rattle.nf_laws.proofs.Climbs.{climb_on, climb_rest, parent_at}
use Rattle.nf_laws.proofs.Upwards.{climb_short, climbed, depth_climb, derived}
use Rattle.nf_laws.specs.Tree.{WalksTakeAllUnder}
use Rattle.nf_words.specs.Sound.{AreSound}

-- ---- climbs of sound tables

-- none comes back
pub no_ring : (t : Tables) (j node : ℕ) → AreSound t → climb t.nodes (suc j) node ≡ Some node → ⊥
no_ring t j node sound is = absurd (omega (arith, depth_climb (suc j) t node node sound is))

-- ---- none twice

-- what each two of both lists have, and each of the one with each of the other
pub AllPairs-append : {X : Type 0} (R : X → X → Type 0) (xs ys : List X) → AllPairs R xs → AllPairs R ys → All (λ x. All (R x) ys) xs
    → AllPairs R (xs ++ ys)
AllPairs-append R [] ys first second across = second
AllPairs-append R (x ∷ xs) ys first second across =
    AllPairs-cons R x (xs ++ ys)
    (All-append (R x) xs ys (λ k d within. first 0 (suc k) d (omega arith) (omega arith)) (across 0 x (omega arith)))
    (AllPairs-append R xs ys (λ i j d before within. first (suc i) (suc j) d (omega arith) (omega arith)) second
    (λ k d within. across (suc k) d (omega arith)))

-- no member is in both
abbrev AreDisjoint : List ℕ → List ℕ → Type 0
AreDisjoint xs ys = (n : ℕ) → Contains xs n → Contains ys n → ⊥

abbrev pub AreDistinct : List ℕ → Type 0
AreDistinct xs = AllPairs (λ (a b : ℕ). a ≢ b) xs

distinct_append : (xs ys : List ℕ) → AreDistinct xs → AreDistinct ys → AreDisjoint xs ys → AreDistinct (xs ++ ys)
distinct_append xs ys first second apart =
    AllPairs-append (λ (a b : ℕ). a ≢ b) xs ys first second (λ i d within j e also same.
    apart (get_or xs i d) (All-contains_itself xs i d within)
    (subst (λ (n : ℕ). Contains ys n) (sym same) (All-contains_itself ys j e also)))

distinct_flat : (f : ℕ → List ℕ) (xs : List ℕ) → All (λ (x : ℕ). AreDistinct (f x)) xs → AllPairs (λ (x y : ℕ). AreDisjoint (f x) (f y)) xs
    → AreDistinct (flat_map f xs)
distinct_flat f [] each apart = λ i j d before within. absurd (omega arith)
distinct_flat f (x ∷ xs) each apart =
    distinct_append (f x) (flat_map f xs) (All-head (λ (x : ℕ). AreDistinct (f x)) x xs each)
    (distinct_flat f xs (All-tail (λ (x : ℕ). AreDistinct (f x)) x xs each)
    (λ i j d before within. apart (suc i) (suc j) d (omega arith) (omega arith)))
    (λ n has later.
    let r = Contains-from_flat f xs n later in
    All-contains (λ (y : ℕ). AreDisjoint (f x) (f y)) xs r.0 (λ k d within. apart 0 (suc k) d (omega arith) (omega arith)) r.1 n has r.2)

-- what each two rows have of each other by a value of theirs, each two of these values have
pub pairs_map : (R : ℕ → ℕ → Type 0) (f : NodeRow → ℕ) (rows : List NodeRow) → AllPairs (λ (a b : NodeRow). R (f a) (f b)) rows
    → AllPairs R (map f rows)
pairs_map R f [] pairs = λ i j d before within. absurd (omega arith)
pairs_map R f (x ∷ rows) pairs =
    AllPairs-cons R (f x) (map f rows) (All-map (R (f x)) f rows (λ k d within. pairs 0 (suc k) d (omega arith) (omega arith)))
    (pairs_map R f rows (λ i j d before within. pairs (suc i) (suc j) d (omega arith) (omega arith)))

pub children_distinct : (t : Tables) (folder : ℕ) → AreSound t → AreDistinct (children_of t.nodes folder)
children_distinct t folder sound =
    let inside = filter (is_in folder) t.nodes in
    let rising = AllPairs-filter (λ (a b : NodeRow). a.id < b.id) (is_in folder) t.nodes sound.rising in
    pairs_map (λ (a b : ℕ). a ≢ b) (λ (row : NodeRow). row.id) (by_name inside)
    (AllPairs-by_name (λ (a b : NodeRow). a.id ≢ b.id) (λ a b differ same. differ (sym same)) inside
    (λ i j d before within same. let less = rising i j d before within in omega arith))

above : (t : Tables) (folder : ℕ) → AreSound t → All (λ (child : ℕ). parent_of t.nodes child ≡ Some folder) (children_of t.nodes folder)
above t folder sound k d within =
    let is = children_are t.nodes folder sound.rising k d within in
    parent_at t.nodes _ folder is.row is.there is.place

-- a step more from a child is at the folder
climb_folder : (t : Tables) (m folder child node : ℕ) → parent_of t.nodes child ≡ Some folder → climb t.nodes m node ≡ Some child
    → climb t.nodes (suc m) node ≡ Some folder
climb_folder t m folder child node up is =
    let more : climb t.nodes 1 child ≡ Some folder = rw up refl in
    let same : suc m ≡ m + 1 = omega arith in
    ap (λ (n : ℕ). climb t.nodes n node) same ∙ climb_on m 1 t.nodes node child is ∙ more

-- no child of a folder is under another
not_under : (t : Tables) (i j folder child other node : ℕ) → AreSound t
    → parent_of t.nodes child ≡ Some folder → parent_of t.nodes other ≡ Some folder
    → i < j → climb t.nodes i node ≡ Some child → climb t.nodes j node ≡ Some other → ⊥
not_under t i j folder child other node sound up also less first second =
    let rest = climb_rest i (suc (j - i - 1)) j t.nodes node child other (omega arith) first second in
    no_ring t (j - i - 1) folder sound (climb_folder t (j - i - 1) folder other folder also (rw up at rest))

-- nothing is under two of them
apart : (t : Tables) (folder child other i j node : ℕ) → AreSound t → parent_of t.nodes child ≡ Some folder → parent_of t.nodes other ≡ Some folder
    → child ≢ other → climb t.nodes i node ≡ Some child → climb t.nodes j node ≡ Some other → ⊥
apart t folder child other i j node sound up also differ first second =
    elim (cases_order i j) [
      | inl same ↦ differ (same_Some child other (sym first ∙ ap (λ (n : ℕ). climb t.nodes n node) same ∙ second))
      | inr (inl less) ↦ not_under t i j folder child other node sound up also less first second
      | inr (inr more) ↦ not_under t j i folder other child node sound also up more second first
    ]

distinct_walk : (k : ℕ) (t : Tables) (node : ℕ) → AreSound t → AreDistinct (walk_within k t.nodes node)
unfolding walk_within
distinct_walk zero t node sound = λ i j d before within. absurd (omega arith)
distinct_walk (suc k) t node sound =
    let walk = walk_within k t.nodes in
    let children = children_of t.nodes node in
    AllPairs-cons (λ (a b : ℕ). a ≢ b) node (flat_map walk children)
    (λ i d within same.
    let r = Contains-from_flat walk children node
    (subst (λ (n : ℕ). Contains (flat_map walk children) n) (sym same) (All-contains_itself (flat_map walk children) i d within)) in
    let c = walk_within_climbs k t.nodes r.0 node sound.rising r.2 in
    let up = All-contains (λ (child : ℕ). parent_of t.nodes child ≡ Some node) children r.0 (above t node sound) r.1 in
    no_ring t c.0 node sound (climb_folder t c.0 node r.0 node up c.2))
    (distinct_flat walk children (λ i d within. distinct_walk k t (get_or children i d) sound)
    (λ i j d before within n has also.
    let first = walk_within_climbs k t.nodes (get_or children i d) n sound.rising has in
    let second = walk_within_climbs k t.nodes (get_or children j d) n sound.rising also in
    apart t node (get_or children i d) (get_or children j d) first.0 second.0 n sound
    (above t node sound i d (omega arith)) (above t node sound j d within)
    (children_distinct t node sound i j d before within) first.2 second.2))

pub walk_distinct : (t : Tables) (top : ℕ) → AreSound t → AreDistinct (walk_of t.nodes top)
unfolding walk_of
walk_distinct t top sound = distinct_walk MAX_DEPTH t top sound

pub walks_take : WalksTakeAllUnder
walks_take = record {
  those = λ t top node sound. (
    λ h. let c = walk_climbs t.nodes top node sound.rising h in derived c.0 t.nodes top node c.2,
    λ under. let c = climbed t.nodes top node under in climbs_walk c.0 t.nodes top node (climb_short c.0 t node top sound c.1) c.1,
  );
  once = walk_distinct;
}
