-- A walk from a top has just the nodes that climb to it.
use Rattle.std.proofs.Common.{◌⊎◌, ℕ, zero, suc, ◌==◌, ◌<◌, ◌≤◌, ◌≡◌, Bool, true, false, List, [], ◌∷◌, ◌++◌, Some, filter, find, get_or, refl, sym, ap, ◌∙◌, subst, inl, inr, arith}
use Rattle.std.specs.List.{All, AllPairs, Contains, flat_map}
use Rattle.std.specs.Option.{option_and_then}
use Rattle.std.proofs.lemmas.Bool.{eq-eqb, eqb-true, false≢true, ne_eqb}
use Rattle.std.proofs.lemmas.List.Elements.{All-contains, All-filter, All-map, Contains-append_cases, Contains-append_left, Contains-append_right, filter_passes}
use Rattle.std.proofs.lemmas.Option.{none-some, option_and_then_some, same_Some}
use Rattle.nf_base.specs.declared.limits.TheConstants.{MAX_DEPTH}
use Rattle.nf_base.specs.declared.rows.NodeRow.{NodeRow}
use Rattle.nf_base.specs.declared.rows.Place.{Place}
use Rattle.nf_base.specs.declared.rows.Place.TheVariants.{Root, Inside, Trash}
use Rattle.nf_defs.specs.Tree.{by_name, children_of, climb, folder_of, is_in, is_place_in, node_row, parent_of, walk_of, walk_within}
use Rattle.nf_defs.proofs.ByName.{All-by_name, Contains-by_name, Contains-cases, Contains-filter, Contains-from, Contains-here, Contains-later, Contains-map, Contains-none}

-- ---- rows by their numbers

-- numbers rise
abbrev pub AreRising : List NodeRow → Type 0
AreRising rows = AllPairs (λ (a b : NodeRow). a.id < b.id) rows

-- what is found is among them, and passes the test
pub found_among : (test : NodeRow → Bool) (rows : List NodeRow) (row : NodeRow) → find test rows ≡ Some row
    → Contains rows row × (test row ≡ true)
found_among test [] row is = absurd (none-some row is)
found_among test (x ∷ rows) row is = here (test x) refl is (λ is. found_among test rows row is)
  where
    here : (b : Bool) → test x ≡ b → find test (x ∷ rows) ≡ Some row
        → (find test rows ≡ Some row → Contains rows row × (test row ≡ true)) → Contains (x ∷ rows) row × (test row ≡ true)
    here true e is rest =
        let same = same_Some x row (rw e at is) in
        (Contains-from x row rows (inl same), subst (λ (r : NodeRow). test r ≡ true) same e)
    here false e is rest = let r = rest (rw e at is) in (Contains-later x row rows r.0, r.1)

-- where the numbers rise, each row is found by its own
pub node_row_each : (rows : List NodeRow) → AreRising rows → All (λ (row : NodeRow). node_row rows row.id ≡ Some row) rows
node_row_each [] rising k d within = absurd (omega arith)
node_row_each (x ∷ rows) rising zero d within = rw (eq-eqb x.id x.id refl)
node_row_each (x ∷ rows) rising (suc k) d within =
    let below : x.id < (get_or rows k d).id = rising 0 (suc k) d (omega arith) within in
    rw (ne_eqb x.id (get_or rows k d).id (λ e. absurd (omega arith)))
    (node_row_each rows (λ i j d before within. rising (suc i) (suc j) d (omega arith) (omega arith)) k d (omega arith))

-- ---- the children of a folder

pub inside_of : (folder : ℕ) (place : Place) → is_place_in folder place ≡ true → place ≡ Inside folder
inside_of folder Root is = absurd (false≢true is)
inside_of folder (Inside parent) is = ap Inside (eqb-true parent folder is)
inside_of folder Trash is = absurd (false≢true is)

pub is_of_inside : (folder : ℕ) (place : Place) → folder_of place ≡ Some folder → is_place_in folder place ≡ true
is_of_inside folder Root is = absurd (none-some folder is)
is_of_inside folder (Inside parent) is = eq-eqb parent folder (same_Some parent folder is)
is_of_inside folder Trash is = absurd (none-some folder is)

-- a child's row is there, in the folder
pub record IsChildOf (rows : List NodeRow) (folder node : ℕ) : Type 0 where
  pub row : NodeRow
  pub there : node_row rows node ≡ Some row
  pub place : row.place ≡ Inside folder

pub children_are : (rows : List NodeRow) (folder : ℕ) → AreRising rows → All (IsChildOf rows folder) (children_of rows folder)
children_are rows folder rising =
    All-map (IsChildOf rows folder) (λ (row : NodeRow). row.id) (by_name (filter (is_in folder) rows))
    (All-by_name (λ (row : NodeRow). IsChildOf rows folder row.id) (filter (is_in folder) rows)
    (λ k d within. record {
      row = get_or (filter (is_in folder) rows) k d;
      there = All-filter (is_in folder) (λ (row : NodeRow). node_row rows row.id ≡ Some row) rows (node_row_each rows rising) k d within;
      place = inside_of folder _ (filter_passes (is_in folder) rows k d within);
    }))

-- a child is in the folder, and what is in the folder is its child
pub child_above : (rows : List NodeRow) (folder child : ℕ) → AreRising rows → Contains (children_of rows folder) child
    → parent_of rows child ≡ Some folder
child_above rows folder child rising h =
    let is = All-contains (IsChildOf rows folder) (children_of rows folder) child (children_are rows folder rising) h in
    ap (option_and_then (λ (row : NodeRow). folder_of row.place)) is.there ∙ ap folder_of is.place

pub child_among : (rows : List NodeRow) (folder child : ℕ) → parent_of rows child ≡ Some folder → Contains (children_of rows folder) child
child_among rows folder child above =
    option_and_then_some (λ (row : NodeRow). folder_of row.place) (node_row rows child) folder above (λ row there placed.
    let h = found_among (λ (row : NodeRow). row.id == child) rows row there in
    let inside = Contains-filter (is_in folder) rows row h.0 (is_of_inside folder row.place placed) in
    subst (λ (n : ℕ). Contains (children_of rows folder) n) (eqb-true row.id child h.1)
    (Contains-map (λ (row : NodeRow). row.id) (by_name (filter (is_in folder) rows)) row
    (Contains-by_name (filter (is_in folder) rows) row inside)))

-- ---- a step more at the top of a climb

climb_more : (j : ℕ) (rows : List NodeRow) (node child top : ℕ) → climb rows j node ≡ Some child → parent_of rows child ≡ Some top
    → climb rows (suc j) node ≡ Some top
climb_more zero rows node child top is above =
    ap (option_and_then (climb rows zero)) (subst (λ (n : ℕ). parent_of rows n ≡ Some top) (sym (same_Some node child is)) above)
climb_more (suc j) rows node child top is above =
    option_and_then_some (climb rows j) (parent_of rows node) child is
    (λ parent e up. ap (option_and_then (climb rows (suc j))) e ∙ climb_more j rows parent child top up above)

pub climb_split : (j : ℕ) (rows : List NodeRow) (node top : ℕ) → climb rows (suc j) node ≡ Some top
    → (child : ℕ) × (climb rows j node ≡ Some child) × (parent_of rows child ≡ Some top)
climb_split zero rows node top is =
    option_and_then_some (climb rows zero) (parent_of rows node) top is (λ parent e up. (node, refl, e ∙ up))
climb_split (suc j) rows node top is =
    option_and_then_some (climb rows (suc j)) (parent_of rows node) top is
    (λ parent e up. let r = climb_split j rows parent top up in (r.0, ap (option_and_then (climb rows j)) e ∙ r.1, r.2))

-- ---- the walk

Contains-flat : (f : ℕ → List ℕ) (xs : List ℕ) (x y : ℕ) → Contains xs x → Contains (f x) y → Contains (flat_map f xs) y
Contains-flat f [] x y h has = absurd (Contains-none x h)
Contains-flat f (z ∷ zs) x y h has = here (Contains-cases z x zs h) (λ later. Contains-flat f zs x y later has)
  where
    here : (z ≡ x) ⊎ Contains zs x → (Contains zs x → Contains (flat_map f zs) y) → Contains (f z ++ flat_map f zs) y
    here (inl same) rest = Contains-append_left (f z) (flat_map f zs) y (subst (λ (n : ℕ). Contains (f n) y) (sym same) has)
    here (inr later) rest = Contains-append_right (f z) (flat_map f zs) y (rest later)

pub Contains-from_flat : (f : ℕ → List ℕ) (xs : List ℕ) (y : ℕ) → Contains (flat_map f xs) y → (x : ℕ) × Contains xs x × Contains (f x) y
Contains-from_flat f [] y h = absurd (Contains-none y h)
Contains-from_flat f (z ∷ zs) y h =
    here (Contains-append_cases (f z) (flat_map f zs) y h) (λ later. Contains-from_flat f zs y later)
  where
    here : Contains (f z) y ⊎ Contains (flat_map f zs) y → (Contains (flat_map f zs) y → (x : ℕ) × Contains zs x × Contains (f x) y)
        → (x : ℕ) × Contains (z ∷ zs) x × Contains (f x) y
    here (inl first) rest = (z, Contains-here z zs, first)
    here (inr later) rest = let r = rest later in (r.0, Contains-later z r.0 zs r.1, r.2)

-- what is in a walk climbs to its top
pub walk_within_climbs : (k : ℕ) (rows : List NodeRow) (top node : ℕ) → AreRising rows → Contains (walk_within k rows top) node
    → (j : ℕ) × (j ≤ k) × (climb rows j node ≡ Some top)
unfolding walk_within
walk_within_climbs zero rows top node rising h =
    elim (Contains-cases top node [] h) [
      | inl same ↦ (0, omega arith, ap Some (sym same))
      | inr later ↦ absurd (Contains-none node later)
    ]
walk_within_climbs (suc k) rows top node rising h =
    here (Contains-cases top node (flat_map (walk_within k rows) (children_of rows top)) h)
    (λ child has. walk_within_climbs k rows child node rising has)
  where
    here : (top ≡ node) ⊎ Contains (flat_map (walk_within k rows) (children_of rows top)) node
        → ((child : ℕ) → Contains (walk_within k rows child) node → (j : ℕ) × (j ≤ k) × (climb rows j node ≡ Some child))
        → (j : ℕ) × (j ≤ suc k) × (climb rows j node ≡ Some top)
    here (inl same) rest = (0, omega arith, ap Some (sym same))
    here (inr later) rest =
        let r = Contains-from_flat (walk_within k rows) (children_of rows top) node later in
        let s = rest r.0 r.2 in
        (suc s.0, omega (arith, s.1), climb_more s.0 rows node r.0 top s.2 (child_above rows top r.0 rising r.1))

-- and what climbs to the top is in the walk
climbs_walk_within : (j k : ℕ) (rows : List NodeRow) (top node : ℕ) → j ≤ k → climb rows j node ≡ Some top
    → Contains (walk_within k rows top) node
unfolding walk_within
climbs_walk_within zero zero rows top node few is = Contains-from top node [] (inl (sym (same_Some node top is)))
climbs_walk_within zero (suc k) rows top node few is =
    Contains-from top node (flat_map (walk_within k rows) (children_of rows top)) (inl (sym (same_Some node top is)))
climbs_walk_within (suc j) zero rows top node few is = absurd (omega arith)
climbs_walk_within (suc j) (suc k) rows top node few is =
    let r = climb_split j rows node top is in
    Contains-later top node (flat_map (walk_within k rows) (children_of rows top))
    (Contains-flat (walk_within k rows) (children_of rows top) r.0 node (child_among rows top r.0 r.2)
    (climbs_walk_within j k rows r.0 node (omega arith) r.1))

pub walk_climbs : (rows : List NodeRow) (top node : ℕ) → AreRising rows → Contains (walk_of rows top) node
    → (j : ℕ) × (j ≤ MAX_DEPTH) × (climb rows j node ≡ Some top)
unfolding walk_of
walk_climbs rows top node rising h = walk_within_climbs MAX_DEPTH rows top node rising h

pub climbs_walk : (j : ℕ) (rows : List NodeRow) (top node : ℕ) → j ≤ MAX_DEPTH → climb rows j node ≡ Some top → Contains (walk_of rows top) node
unfolding walk_of
climbs_walk j rows top node few is = climbs_walk_within j MAX_DEPTH rows top node few is
