-- Where a path leads: the walk against the derivation, and whose is what it leads to.
use Rattle.std.proofs.Common.{ℕ, zero, suc, ◌+◌, ◌==◌, ◌≡◌, ◌&&◌, Bool, true, false, List, [], ◌∷◌, Option, None, Some, bytes_eq, find, option_map, if◌then◌else◌, refl, sym, ap, subst, ◌∙◌, ⊎_elim, inl, inr, arith, ◌++◌, ◌⊎◌, ◌<◌, ◌≤◌, drop, get_or, length, take}
use Rattle.std.specs.List.{AllPairs}
use Rattle.std.proofs.lemmas.Bool.{and_from, and_parts, both_ways, cases_Bool, cond_both, eq-eqb, eqb-true}
use Rattle.std.proofs.Math.Seq.{drop-cons}
use Rattle.std.proofs.lemmas.List.{append-nil, length-drop, length-take-le, take-append-drop}
use Rattle.std.proofs.lemmas.Option.{none-some, option_and_then_some, same_Some}
use Rattle.std.proofs.lemmas.Slice.Eq.{bytes_eq-Decides}
use Rattle.nf_base.specs.declared.rows.NodeRow.{NodeRow}
use Rattle.nf_base.specs.declared.rows.Place.TheVariants.{Inside}
use Rattle.nf_base.specs.declared.rows.UserRow.{UserRow}
use Rattle.nf_defs.proofs.Walks.{AreRising, inside_of}
use Rattle.nf_defs.specs.Prelude.{child_of, climb, found_from, is_folder, is_in, Leads, leads_on, node_row, onward, parent_of, stays, Tables, user_row}
use Rattle.nf_defs.specs.declared.Found.{Found}
use Rattle.nf_defs.specs.declared.Found.TheVariants.{At, Free, Missing}
use Rattle.nf_laws.proofs.Climbs.{map_some, node_row_each}
use Rattle.nf_laws.proofs.Rows.{child_owner, found_is, parent_there, row_is}
use Rattle.nf_laws.specs.Walks.{LeadsNoFurther, LeadsToFree, WalkFollows}
use Rattle.nf_words.specs.Sound.{AreApart, AreSound, HasRoot, IsOwn}

-- ---- a folder's child of a name

-- the row of a child
pub record IsChild (rows : List NodeRow) (folder : ℕ) (name : List ℕ) (node : ℕ) : Type 0 where
  pub row : NodeRow
  pub id : row.id ≡ node
  pub there : node_row rows row.id ≡ Some row
  pub place : row.place ≡ Inside folder
  pub named : row.name ≡ name

pub child_is : (rows : List NodeRow) (folder : ℕ) (name : List ℕ) (node : ℕ) → AreRising rows → child_of rows folder name ≡ Some node
    → IsChild rows folder name node
child_is rows folder name node rising is =
    let test : NodeRow → Bool = λ row. is_in folder row && bytes_eq row.name name in
    let found = map_some (λ (row : NodeRow). row.id) (find test rows) node is in
    let row : NodeRow = found.0 in
    let h = found_is (λ (row : NodeRow). node_row rows row.id ≡ Some row) test rows row (node_row_each rows rising) found.1 in
    let passes = and_parts (is_in folder row) (bytes_eq row.name name) h.0 in
    record {
      row = row;
      id = found.2;
      there = h.1;
      place = inside_of folder row.place passes.0;
      named = (bytes_eq-Decides row.name name).0 passes.1;
    }

-- a row in a folder is its child of the row's name, since no other has that name
pub child_there : (rows : List NodeRow) (folder : ℕ) (row : NodeRow) → AllPairs AreApart rows
    → node_row rows row.id ≡ Some row → row.place ≡ Inside folder → child_of rows folder row.name ≡ Some row.id
child_there [] folder row apart there place = absurd (none-some row there)
child_there (x ∷ rows) folder row apart there place =
    cond_both (test x) (Some x) (find test rows) (λ o. option_map (λ (row : NodeRow). row.id) o ≡ Some row.id)
    (λ passes.
    elim (cases_Bool (x.id == row.id)) [
      | inl same ↦ ap Some (eqb-true x.id row.id same)
      | inr differs ↦
          (let parts = and_parts (is_in folder x) (bytes_eq x.name row.name) passes in
          let later = found_is (λ (other : NodeRow). AreApart x other) (λ other. other.id == row.id) rows row
          (λ k d within. apart 0 (suc k) d (omega arith) (omega arith)) (simp differs at there) in
          absurd (later.1 folder (inside_of folder x.place parts.0) place ((bytes_eq-Decides x.name row.name).0 parts.1)))
    ])
    (λ fails.
    elim (cases_Bool (x.id == row.id)) [
      | inl same ↦
          (let is : row ≡ x = sym (same_Some x row (simp same at there)) in
          absurd (both_ways (test x) fails (subst (λ (r : NodeRow). test r ≡ true) is
          (and_from (is_in folder row) (bytes_eq row.name row.name) (rw place (eq-eqb folder folder refl))
          ((bytes_eq-Decides row.name row.name).1 refl)))))
      | inr differs ↦
          child_there rows folder row (λ i j d before within. apart (suc i) (suc j) d (omega arith) (omega arith)) (simp differs at there) place
    ])
  where
    test : NodeRow → Bool
    test other = is_in folder other && bytes_eq other.name row.name

-- ---- the walk

-- what the walk's answer says
abbrev Means : Tables → ℕ → ℕ → List (List ℕ) → Found → Type 0
Means t before from names (At node) = Leads t.nodes from names node
Means t before from names (Free folder) = LeadsToFree t.nodes from names folder
Means t before from names (Missing depth) = (more : ℕ) × (depth ≡ before + more) × LeadsNoFurther t.nodes from names more

-- so does the answer of a walk from a folder that has a child of the first name, whose answer is the child's
further : (t : Tables) (before from : ℕ) (name : List ℕ) (names : List (List ℕ)) (child : ℕ) (found : Found)
    → is_folder t.nodes from ≡ true → IsChild t.nodes from name child
    → Means t (before + 1) child names found → Means t before from (name ∷ names) found
further t before from name names child (At node) folds is led =
    leads_on from name names is.row node folds is.there is.place is.named (subst (λ (n : ℕ). Leads t.nodes n names node) (sym is.id) led)
further t before from name names child (Free folder) folds is free = record {
  front = name ∷ free.front;
  last = free.last;
  parts = ap (λ (rest : List (List ℕ)). name ∷ rest) free.parts;
  led = leads_on from name free.front is.row folder folds is.there is.place is.named
      (subst (λ (n : ℕ). Leads t.nodes n free.front folder) (sym is.id) free.led);
  there = free.there;
  free = free.free;
}
further t before from name names child (Missing depth) folds is (more, counted, stuck) = (
  suc more,
  omega arith,
  record {
    node = stuck.node;
    within = omega (arith, stuck.within);
    led = leads_on from name _ is.row stuck.node folds is.there is.place is.named
        (subst (λ (n : ℕ). Leads t.nodes n _ stuck.node) (sym is.id) stuck.led);
    stuck = ⊎_elim (λ no_folder. inl no_folder) (λ none. inr (none.0, omega (arith, none.1))) stuck.stuck;
  },
)

walk : (t : Tables) (before from : ℕ) (names : List (List ℕ)) → AreSound t → Means t before from names (found_from t.nodes before from names)
walk t before from [] sound = stays from
walk t before from (name ∷ names) sound =
    here (is_folder t.nodes from) (child_of t.nodes from name) names refl refl (λ child. walk t (before + 1) child names sound)
  where
    here : (folds : Bool) (child : Option ℕ) (names : List (List ℕ)) → is_folder t.nodes from ≡ folds → child_of t.nodes from name ≡ child
        → ((child : ℕ) → Means t (before + 1) child names (found_from t.nodes (before + 1) child names))
        → Means t before from (name ∷ names)
        (if folds then onward before from names child (λ child. found_from t.nodes (before + 1) child names) else Missing before)
    here false child names folds is rest = (0, omega arith, record { node = from; within = omega arith; led = stays from; stuck = inl folds })
    here true None [] folds is rest = record { front = []; last = name; parts = refl; led = stays from; there = folds; free = is }
    here true None (n ∷ names) folds is rest =
        (0, omega arith, record { node = from; within = omega arith; led = stays from; stuck = inr (is, omega arith) })
    here true (Some child) names folds is rest =
        further t before from name names child (found_from t.nodes (before + 1) child names) folds (child_is t.nodes from name child sound.rising is) (rest child)

-- a walk goes on from where its first names lead
walks_on : (t : Tables) (before from : ℕ) (front rest : List (List ℕ)) (node : ℕ) → AreSound t → Leads t.nodes from front node
    → found_from t.nodes before from (front ++ rest) ≡ found_from t.nodes (before + length front) node rest
walks_on t before _ _ rest _ sound (stays at) =
    let same : before ≡ before + 0 = omega arith in ap (λ (n : ℕ). found_from t.nodes n at rest) same
walks_on t before _ _ rest _ sound (leads_on at name names child node folds there place named led) =
    let is : child_of t.nodes at name ≡ Some child.id =
    subst (λ (n : List ℕ). child_of t.nodes at n ≡ Some child.id) named (child_there t.nodes at child sound.names there place) in
    let same : before + 1 + length names ≡ before + length (name ∷ names) = omega arith in
    rw (folds, is) (walks_on t (before + 1) child.id names rest node sound led ∙ ap (λ (n : ℕ). found_from t.nodes n node rest) same)

-- what leads there is found there
pub leads_found : (t : Tables) (before from : ℕ) (names : List (List ℕ)) (node : ℕ) → AreSound t
    → Leads t.nodes from names node → found_from t.nodes before from names ≡ At node
leads_found t before from names node sound led =
    ap (found_from t.nodes before from) (sym (append-nil names)) ∙ walks_on t before from names [] node sound led

free_found : (t : Tables) (from : ℕ) (names : List (List ℕ)) (folder : ℕ) → AreSound t
    → LeadsToFree t.nodes from names folder → found_from t.nodes 0 from names ≡ Free folder
free_found t from names folder sound free =
    ap (found_from t.nodes 0 from) free.parts ∙ walks_on t 0 from free.front (free.last ∷ []) folder sound free.led ∙ rw (free.there, free.free)

-- a walk stops at a node that is no folder, or has no child of the next name, where that isn't the last
stops : (t : Tables) (depth node : ℕ) (name : List ℕ) (names : List (List ℕ))
    → (is_folder t.nodes node ≡ false) ⊎ ((child_of t.nodes node name ≡ None) × (0 < length names))
    → found_from t.nodes depth node (name ∷ names) ≡ Missing depth
stops t depth node name names (inl none) = rw none
stops t depth node name [] (inr none) = absurd (omega (arith, none.1))
stops t depth node name (n ∷ names) (inr none) = here (is_folder t.nodes node)
  where
    here : (folds : Bool)
        → (if folds then onward depth node (n ∷ names) (child_of t.nodes node name) (λ child. found_from t.nodes (depth + 1) child (n ∷ names))
        else Missing depth) ≡ Missing depth
    here true = rw none.0
    here false = refl

missing_found : (t : Tables) (from : ℕ) (names : List (List ℕ)) (depth : ℕ) → AreSound t
    → LeadsNoFurther t.nodes from names depth → found_from t.nodes 0 from names ≡ Missing depth
missing_found t from names depth sound missing =
    let next = get_or names depth [] in
    let rest = drop (suc depth) names in
    let parts : names ≡ take depth names ++ next ∷ rest =
    sym (take-append-drop depth names) ∙ ap (λ (behind : List (List ℕ)). take depth names ++ behind) (drop-cons names depth [] missing.within) in
    let few : depth ≤ length names = omega (arith, missing.within) in
    let counted : 0 + length (take depth names) ≡ depth = omega (arith, length-take-le depth names few) in
    let stuck : (is_folder t.nodes missing.node ≡ false) ⊎ ((child_of t.nodes missing.node next ≡ None) × (0 < length rest)) =
    ⊎_elim (λ none. inl none) (λ none. inr (none.0, omega (arith, none.1, length-drop (suc depth) names))) missing.stuck in
    ap (found_from t.nodes 0 from) parts ∙ walks_on t 0 from (take depth names) (next ∷ rest) missing.node sound missing.led
    ∙ ap (λ (n : ℕ). found_from t.nodes n missing.node (next ∷ rest)) counted ∙ stops t depth missing.node next rest stuck

pub found_leads : (t : Tables) (from : ℕ) (names : List (List ℕ)) (node : ℕ) → AreSound t
    → found_from t.nodes 0 from names ≡ At node → Leads t.nodes from names node
found_leads t from names node sound is = subst (λ (f : Found). Means t 0 from names f) is (walk t 0 from names sound)

pub found_free : (t : Tables) (from : ℕ) (names : List (List ℕ)) (folder : ℕ) → AreSound t
    → found_from t.nodes 0 from names ≡ Free folder → LeadsToFree t.nodes from names folder
found_free t from names folder sound is = subst (λ (f : Found). Means t 0 from names f) is (walk t 0 from names sound)

found_missing : (t : Tables) (from : ℕ) (names : List (List ℕ)) (depth : ℕ) → AreSound t
    → found_from t.nodes 0 from names ≡ Missing depth → LeadsNoFurther t.nodes from names depth
found_missing t from names depth sound is =
    let h = subst (λ (f : Found). Means t 0 from names f) is (walk t 0 from names sound) in
    let e : h.0 ≡ depth = omega (arith, h.1) in
    subst (λ (n : ℕ). LeadsNoFurther t.nodes from names n) e h.2

pub walk_follows : WalkFollows
walk_follows = record {
  at = λ t from names node sound. (found_leads t from names node sound, leads_found t 0 from names node sound);
  free = λ t from names folder sound. (found_free t from names folder sound, free_found t from names folder sound);
  missing = λ t from names depth sound. (found_missing t from names depth sound, missing_found t from names depth sound);
}

-- ---- whose is what a path leads to

-- a node that is there and a user's
pub record IsOf (t : Tables) (user node : ℕ) : Type 0 where
  pub row : NodeRow
  pub there : node_row t.nodes node ≡ Some row
  pub owner : row.owner ≡ user

pub leads_own : (t : Tables) (user from : ℕ) (names : List (List ℕ)) (node : ℕ) → AreSound t
    → Leads t.nodes from names node → IsOf t user from → IsOf t user node
leads_own t user _ _ _ sound (stays at) of = of
leads_own t user _ _ _ sound (leads_on at name names child node folds there place named led) of =
    let h = row_is t child.id child sound there in
    let owner : of.row.owner ≡ child.owner = rw of.there at (child_owner t child child.place at h.1.place place) in
    leads_own t user child.id names node sound led (record { row = child; there = there; owner = sym owner ∙ of.owner })

-- a node under one has its owner
pub climb_own : (j : ℕ) (t : Tables) (user node top : ℕ) (row : NodeRow) → AreSound t → climb t.nodes j node ≡ Some top → IsOf t user top
    → node_row t.nodes node ≡ Some row → row.owner ≡ user
climb_own zero t user node top row sound is of there =
    let same : node ≡ top = same_Some node top is in
    ap (λ (r : NodeRow). r.owner) (same_Some row of.row (sym there ∙ ap (node_row t.nodes) same ∙ of.there)) ∙ of.owner
climb_own (suc j) t user node top row sound is of there =
    option_and_then_some (climb t.nodes j) (parent_of t.nodes node) top is (λ parent above is.
    let folder = parent_there t node parent row sound there above in
    sym folder.3 ∙ climb_own j t user parent top folder.0 sound is of folder.1)

pub root_own : (t : Tables) (row : UserRow) → AreSound t → user_row t.users row.id ≡ Some row → IsOf t row.id row.root
root_own t row sound there =
    let h = (found_is (HasRoot t) (λ user. user.id == row.id) t.users row sound.roots there).1 in
    record { row = h.row; there = h.there; owner = h.owner }

-- its number was given, and it is the user's
pub is_own : (t : Tables) (user node : ℕ) → AreSound t → IsOf t user node → IsOwn t user node
is_own t user node sound of =
    let h = row_is t node of.row sound of.there in
    record {
      given = omega (arith, h.0, h.1.given);
      owner = λ row there. ap (λ (r : NodeRow). r.owner) (same_Some row of.row (sym there ∙ of.there)) ∙ of.owner;
    }
