-- What leads to a top that is in no folder: all that is under it, and nothing twice.
use Rattle.std.proofs.Common.{◌≡◌, ◌≢◌, ◌<◌, ◌≤◌, ◌+◌, ◌-◌, ◌==◌, ℕ, zero, suc, Bool, true, false, List, [], ◌∷◌, Option, None, Some, filter, flat_map, get_or, if◌then◌else◌, inl, inr, map, not, refl, sym, ap, subst, ◌∙◌, arith}
use Rattle.std.specs.Prelude.{is_some, min, sum_by}
use Rattle.std.specs.List.{All, AllPairs, Contains}
use Rattle.std.specs.Option.{option_and_then, option_map_or}
use Rattle.std.proofs.lemmas.Bool.{and_parts, cases_Bool, cases_order, eqb-true, false≢true, not-false}
use Rattle.std.proofs.lemmas.List.Elements.{All-contains, All-contains_itself, All-filter, All-head, All-map, All-tail, All-weaker, filter_passes}
use Rattle.std.proofs.lemmas.List.Kept.{AllPairs-cons, AllPairs-filter}
use Rattle.std.proofs.lemmas.List.Sums.{sum_by-cons}
use Rattle.std.proofs.lemmas.Option.{none-some, same_Some}
use Rattle.nf_base.specs.declared.limits.TheConstants.{MAX_DEPTH}
use Rattle.nf_base.specs.declared.rows.ItemRow.{ItemRow}
use Rattle.nf_base.specs.declared.rows.NodeRow.{NodeRow}
use Rattle.nf_base.specs.declared.rows.Place.{Place}
use Rattle.nf_base.specs.declared.rows.Place.TheVariants.{Root, Inside, Trash}
use Rattle.nf_base.specs.declared.rows.Row.{Row}
use Rattle.nf_base.specs.declared.rows.Row.TheVariants as rows
use Rattle.nf_defs.proofs.ByName.{AllPairs-by_name, Contains-filter, Contains-map}
use Rattle.nf_defs.proofs.Climbs.{under_walk, walk_under}
use Rattle.nf_defs.proofs.Puts.{below_one}
use Rattle.nf_defs.proofs.Walks.{Contains-from_flat, children_are, node_row_each, walk_within_climbs}
use Rattle.nf_defs.specs.Prelude.{AreRising, by_name, children_of, climb, folder_of, is_in, is_under, is_under_within, node_row, parent_of, Tables, tables_of, walk_of, walk_within}
use Rattle.nf_laws.proofs.Charging.{sums_agree}
use Rattle.nf_laws.proofs.Climbs.{climb_on, climb_rest, parent_at}
use Rattle.nf_laws.proofs.Rows.{found_is}
use Rattle.nf_laws.proofs.Walked.{AllPairs-append, AreDistinct, pairs_map}
use Rattle.nf_words.specs.Listing.{bytes_of, size_of}
use Rattle.nf_words.specs.Prelude.{item_size, items_of, last_number}
use Rattle.nf_words.specs.Versions.{content_size}
use Rattle.nf_rules.specs.Rules.{first_index, is_from_kept, is_placed, is_trash_place, is_trashed_as, trash_bytes}
use Rattle.nf_rules.proofs.Among.{all_have}
use Rattle.nf_rules.proofs.Firsts.{each_fails}
use Rattle.nf_rules.proofs.Heaped.{sum_keyed}
use Rattle.nf_opening.specs.Heaps.{AreTops, top_of, topped_bytes, top_within}
use Rattle.nf_opening.proofs.Chains.{under_none, under_top, under_up, under_zero}

-- ---- tops

abbrev pub Rising : List NodeRow → Type 0
Rising rows = AllPairs (λ (a b : NodeRow). a.id < b.id) rows

pub rising_ids : (t : Tables) → AreRising t → Rising t.nodes
rising_ids t rising i j d before less = below_one (get_or t.nodes i d).id (get_or t.nodes j d).id (rising.nodes i j d before less)

pub top_step : (k j : ℕ) (rows : List NodeRow) (node parent : ℕ) → j ≡ k + 1 → parent_of rows node ≡ Some parent
    → top_within j rows node ≡ top_within k rows parent
unfolding top_within
top_step k zero rows node parent more above = absurd (omega arith)
top_step k (suc j) rows node parent more above = let e : j ≡ k = omega arith in rw (above, e) refl

pub top_none : (k : ℕ) (rows : List NodeRow) (node : ℕ) → parent_of rows node ≡ None → top_within k rows node ≡ node
unfolding top_within
top_none zero rows node none = refl
top_none (suc k) rows node none = rw none refl

pub top_zero : (k : ℕ) (rows : List NodeRow) (node : ℕ) → k ≡ 0 → top_within k rows node ≡ node
unfolding top_within
top_zero k rows node none = rw none refl

-- what leads to a top is under it
top_is : (k : ℕ) (rows : List NodeRow) (top node : ℕ) → parent_of rows top ≡ None → (top_within k rows node == top) ≡ is_under_within k rows node top
top_is zero rows top node none = ap (λ (n : ℕ). n == top) (top_zero 0 rows node refl) ∙ sym (under_zero 0 rows node top refl)
top_is (suc k) rows top node none =
    elim (cases_Bool (node == top)) [
      | inl same ↦
          (let is = eqb-true node top same in
          ap (λ (n : ℕ). n == top) (top_none (suc k) rows node (ap (parent_of rows) is ∙ none)) ∙ same ∙ sym (under_top (suc k) rows node top same))
      | inr differs ↦ here differs (λ parent. top_is k rows top parent none) (parent_of rows node) refl
    ]
  where
    here : (node == top) ≡ false → ((parent : ℕ) → (top_within k rows parent == top) ≡ is_under_within k rows parent top)
        → (o : Option ℕ) → parent_of rows node ≡ o → (top_within (suc k) rows node == top) ≡ is_under_within (suc k) rows node top
    here differs rest None e = ap (λ (n : ℕ). n == top) (top_none (suc k) rows node e) ∙ differs ∙ sym (under_none (suc k) rows node top differs e)
    here differs rest (Some parent) e =
        ap (λ (n : ℕ). n == top) (top_step k (suc k) rows node parent (omega arith) e) ∙ rest parent
        ∙ sym (under_up k (suc k) rows node parent top (omega arith) differs e)

-- ---- nothing twice

distinct_flat : (f : ℕ → List ℕ) (xs : List ℕ) → All (λ (x : ℕ). AreDistinct (f x)) xs
    → AllPairs (λ (x y : ℕ). (n : ℕ) → Contains (f x) n → Contains (f y) n → ⊥) xs → AreDistinct (flat_map f xs)
distinct_flat f [] each apart = λ i j d before within. absurd (omega arith)
distinct_flat f (x ∷ xs) each apart =
    AllPairs-append (λ (a b : ℕ). a ≢ b) (f x) (flat_map f xs) (All-head (λ (x : ℕ). AreDistinct (f x)) x xs each)
    (distinct_flat f xs (All-tail (λ (x : ℕ). AreDistinct (f x)) x xs each)
    (λ i j d before within. apart (suc i) (suc j) d (omega arith) (omega arith)))
    (λ i d within j e also same.
    let n = get_or (f x) i d in
    let r = Contains-from_flat f xs n (subst (λ (n : ℕ). Contains (flat_map f xs) n) (sym same) (All-contains_itself (flat_map f xs) j e also)) in
    All-contains (λ (y : ℕ). (n : ℕ) → Contains (f x) n → Contains (f y) n → ⊥) xs r.0
    (λ k d within. apart 0 (suc k) d (omega arith) (omega arith)) r.1 n (All-contains_itself (f x) i d within) r.2)

module _ (rows : List NodeRow) (rising : Rising rows) (top : ℕ) (none : parent_of rows top ≡ None) where
  -- from the top there is no climb
  no_further : (j : ℕ) → climb rows (suc j) top ≡ Some top → ⊥
  no_further j is = none-some top (sym (ap (option_and_then (climb rows j)) none) ∙ is)

  -- so a node is as far from it as it is
  steps_same : (i j node : ℕ) → climb rows i node ≡ Some top → climb rows j node ≡ Some top → i ≡ j
  steps_same i j node first second =
      elim (cases_order i j) [
        | inl same ↦ same
        | inr (inl less) ↦ absurd (no_further (j - i - 1) (climb_rest i (suc (j - i - 1)) j rows node top top (omega (arith, less)) first second))
        | inr (inr more) ↦ absurd (no_further (i - j - 1) (climb_rest j (suc (i - j - 1)) i rows node top top (omega (arith, more)) second first))
      ]

  above : (folder : ℕ) → All (λ (child : ℕ). parent_of rows child ≡ Some folder) (children_of rows folder)
  above folder k d within =
      let is = children_are rows folder rising k d within in parent_at rows _ folder is.row is.there is.place

  children_once : (folder : ℕ) → AreDistinct (children_of rows folder)
  children_once folder =
      let inside = filter (is_in folder) rows in
      let up = AllPairs-filter (λ (a b : NodeRow). a.id < b.id) (is_in folder) rows rising in
      pairs_map (λ (a b : ℕ). a ≢ b) (λ (row : NodeRow). row.id) (by_name inside)
      (AllPairs-by_name (λ (a b : NodeRow). a.id ≢ b.id) (λ a b differ same. differ (sym same)) inside
      (λ i j d before within same. let less = up i j d before within in omega arith))

  -- what is so many folders below a child is that more below the top
  further : (m d folder child node : ℕ) → parent_of rows child ≡ Some folder → climb rows m node ≡ Some child → climb rows d folder ≡ Some top
      → climb rows (m + suc d) node ≡ Some top
  further m d folder child node up is rest = climb_on m (suc d) rows node child is ∙ ap (option_and_then (climb rows d)) up ∙ rest

  walk_once : (k d node : ℕ) → climb rows d node ≡ Some top → AreDistinct (walk_within k rows node)
  unfolding walk_within
  walk_once zero d node leads = λ i j e before within. absurd (omega arith)
  walk_once (suc k) d node leads =
      let walk = walk_within k rows in
      let children = children_of rows node in
      AllPairs-cons (λ (a b : ℕ). a ≢ b) node (flat_map walk children)
      (λ i e within same.
      let r = Contains-from_flat walk children node
      (subst (λ (n : ℕ). Contains (flat_map walk children) n) (sym same) (All-contains_itself (flat_map walk children) i e within)) in
      let c = walk_within_climbs k rows r.0 node rising r.2 in
      let up = All-contains (λ (child : ℕ). parent_of rows child ≡ Some node) children r.0 (above node) r.1 in
      omega (arith, steps_same (c.0 + suc d) d node (further c.0 d node r.0 node up c.2 leads) leads))
      (distinct_flat walk children (λ i e within.
      walk_once k (suc d) (get_or children i e) (ap (option_and_then (climb rows d)) (above node i e within) ∙ leads))
      (λ i j e before within n has also.
      let first = walk_within_climbs k rows (get_or children i e) n rising has in
      let second = walk_within_climbs k rows (get_or children j e) n rising also in
      let a = further first.0 d node (get_or children i e) n (above node i e (omega arith)) first.2 leads in
      let b = further second.0 d node (get_or children j e) n (above node j e within) second.2 leads in
      let steps : first.0 ≡ second.0 = omega (arith, steps_same (first.0 + suc d) (second.0 + suc d) n a b) in
      children_once node i j e before within
      (same_Some (get_or children i e) (get_or children j e) (sym first.2 ∙ ap (λ (m : ℕ). climb rows m n) steps ∙ second.2))))

  -- ---- the bytes

  abbrev those : List NodeRow
  those = filter (λ (row : NodeRow). top_of rows row.id == top) rows

  abbrev ids : List ℕ
  ids = map (λ (row : NodeRow). row.id) those

  -- each that leads to the top is of the walk
  walk_has : All (λ (row : NodeRow). Contains (walk_of rows top) row.id) those
  unfolding is_under
  walk_has k d within =
      let row = get_or those k d in
      under_walk rows top row.id (sym (top_is MAX_DEPTH rows top row.id none) ∙ filter_passes (λ (row : NodeRow). top_of rows row.id == top) rows k d within)

  -- and all that the walk has does
  those_have : (node : ℕ) → Contains (walk_of rows top) node → node_row rows node ≢ None → Contains ids node
  unfolding is_under
  those_have node among some = here (node_row rows node) refl some
    where
      here : (o : Option NodeRow) → node_row rows node ≡ o → o ≢ None → Contains ids node
      here None e some = absurd (some refl)
      here (Some row) e some =
          let found = found_is (Contains rows) (λ (row : NodeRow). row.id == node) rows row (All-contains_itself rows) e in
          let id = eqb-true row.id node found.0 in
          let leads : (top_of rows row.id == top) ≡ true =
          top_is MAX_DEPTH rows top row.id none ∙ ap (λ (n : ℕ). is_under rows n top) id ∙ walk_under rows top node rising among in
          subst (Contains ids) id (Contains-map (λ (row : NodeRow). row.id) those row (Contains-filter (λ (row : NodeRow). top_of rows row.id == top) rows row found.1 leads))

  ids_once : AreDistinct ids
  ids_once =
      let up = AllPairs-filter (λ (a b : NodeRow). a.id < b.id) (λ (row : NodeRow). top_of rows row.id == top) rows rising in
      pairs_map (λ (a b : ℕ). a ≢ b) (λ (row : NodeRow). row.id) those (λ i j d before within same. let less = up i j d before within in omega (arith, less, same))

  ids_in : All (Contains (walk_of rows top)) ids
  ids_in = All-map (Contains (walk_of rows top)) (λ (row : NodeRow). row.id) those walk_has

  abbrev bytes : ℕ → ℕ
  bytes node = bytes_of rows node

  -- the walk's nodes that are there, and the others have no bytes
  abbrev there : ℕ → Bool
  there node = is_some (node_row rows node)

  absent : (nodes : List ℕ) → sum_by bytes (filter there nodes) ≡ sum_by bytes nodes
  absent [] = refl
  absent (node ∷ nodes) = here (absent nodes) (node_row rows node) refl
    where
      here : sum_by bytes (filter there nodes) ≡ sum_by bytes nodes → (o : Option NodeRow) → node_row rows node ≡ o
          → sum_by bytes (filter there (node ∷ nodes)) ≡ sum_by bytes (node ∷ nodes)
      here rest None e =
          let nothing : bytes node ≡ 0 = rw e refl in
          let goes : there node ≡ false = rw e refl in
          omega (
            arith,
            rest,
            nothing,
            sum_by-cons bytes node nodes,
            ap (λ (b : Bool). sum_by bytes (if b then node ∷ filter there nodes else filter there nodes)) goes,
          )
      here rest (Some row) e =
          let stays : there node ≡ true = rw e refl in
          omega (
            arith,
            rest,
            sum_by-cons bytes node nodes,
            sum_by-cons bytes node (filter there nodes),
            ap (λ (b : Bool). sum_by bytes (if b then node ∷ filter there nodes else filter there nodes)) stays,
          )

  mapped : (some : List NodeRow) → All (λ (row : NodeRow). bytes row.id ≡ content_size row.content) some
      → sum_by bytes (map (λ (row : NodeRow). row.id) some) ≡ sum_by (λ (row : NodeRow). content_size row.content) some
  mapped [] each = refl
  mapped (row ∷ some) each =
      omega (
        arith,
        sum_by-cons bytes row.id (map (λ (row : NodeRow). row.id) some),
        sum_by-cons (λ (row : NodeRow). content_size row.content) row some,
        All-head (λ (row : NodeRow). bytes row.id ≡ content_size row.content) row some each,
        mapped some (All-tail (λ (row : NodeRow). bytes row.id ≡ content_size row.content) row some each),
      )

  own_bytes : All (λ (row : NodeRow). bytes row.id ≡ content_size row.content) those
  own_bytes =
      All-filter (λ (row : NodeRow). top_of rows row.id == top) (λ (row : NodeRow). bytes row.id ≡ content_size row.content) rows (λ k d within.
      let row = get_or rows k d in
      ap (λ (o : Option NodeRow). content_size (option_map_or (λ (row : NodeRow). row.content) o [])) (node_row_each rows rising k d within))

  -- so the walk's bytes are those of what leads to the top
  walk_bytes : sum_by bytes (walk_of rows top) ≡ topped_bytes rows top
  unfolding walk_of
  walk_bytes =
      let walk = walk_of rows top in
      let present = filter there walk in
      let once : AreDistinct walk = walk_once MAX_DEPTH 0 top refl in
      let less : sum_by bytes present ≤ sum_by bytes ids =
      sum_keyed (λ (node : ℕ). node) bytes bytes ids present (AllPairs-filter (λ (a b : ℕ). a ≢ b) there walk once) (λ k d within.
      let node = get_or present k d in
      let among = All-filter there (Contains walk) walk (All-contains_itself walk) k d within in
      let some = filter_passes there walk k d within in
      ((node, those_have node among (λ none. false≢true (sym (ap is_some none) ∙ some)), refl), omega arith)) in
      let more : sum_by bytes ids ≤ sum_by bytes walk =
      sum_keyed (λ (node : ℕ). node) bytes bytes walk ids ids_once (λ k d within. ((get_or ids k d, ids_in k d within, refl), omega arith)) in
      omega (arith, less, more, absent walk, mapped those own_bytes)

  pub size_topped : size_of rows top ≡ min (topped_bytes rows top) last_number
  size_topped = ap (λ (n : ℕ). min n last_number) walk_bytes

-- ---- items

-- the sizes of a user's items, where each is of what is in no folder
pub items_topped : (t : Tables) (user : ℕ) → AreRising t → AreTops t
    → sum_by (λ (item : ItemRow). min (topped_bytes t.nodes item.node) last_number) (items_of t user) ≡ trash_bytes t user
items_topped t user rising tops =
    sums_agree (λ (item : ItemRow). min (topped_bytes t.nodes item.node) last_number) (item_size t) (items_of t user)
    (All-filter (λ (item : ItemRow). item.owner == user) (λ (item : ItemRow). min (topped_bytes t.nodes item.node) last_number ≡ item_size t item) t.items
    (λ k d within.
    let item = get_or t.items k d in sym (size_topped t.nodes (rising_ids t rising) item.node (tops k d within))))

-- where all is placed by the rules, each item is of what is in no folder
item_tops : (t : Tables) (item : ItemRow) → is_placed t (rows.Item item) ≡ true → parent_of t.nodes item.node ≡ None
item_tops t item is =
    here (node_row t.nodes item.node) refl (and_parts (option_map_or (is_trashed_as item) (node_row t.nodes item.node) false) (is_from_kept t item) is).0
  where
    no_folder : (place : Place) → is_trash_place place ≡ true → folder_of place ≡ None
    no_folder Root is = absurd (false≢true is)
    no_folder (Inside folder) is = absurd (false≢true is)
    no_folder Trash is = refl

    here : (o : Option NodeRow) → node_row t.nodes item.node ≡ o → option_map_or (is_trashed_as item) o false ≡ true → parent_of t.nodes item.node ≡ None
    here None e is = absurd (false≢true is)
    here (Some of) e is =
        ap (option_and_then (λ (row : NodeRow). folder_of row.place)) e
        ∙ no_folder of.place (and_parts (is_trash_place of.place) (of.owner == item.owner) is).0

pub tops_from : (t : Tables) (all : List Row) → t ≡ tables_of all → first_index (λ (row : Row). not (is_placed (tables_of all) row)) all ≡ None → AreTops t
tops_from t all same none =
    let placed : All (λ (row : Row). is_placed (tables_of all) row ≡ true) all =
    All-weaker (λ (row : Row). not (is_placed (tables_of all) row) ≡ false) (λ (row : Row). is_placed (tables_of all) row ≡ true)
    (λ row fails. not-false (is_placed (tables_of all) row) fails) all
    (each_fails (λ (row : Row). not (is_placed (tables_of all) row)) all none) in
    let have = all_have (λ (row : Row). is_placed (tables_of all) row ≡ true) all placed in
    subst AreTops (sym same) (λ k d within. item_tops (tables_of all) (get_or (tables_of all).items k d) (have.items k d within))
