-- Climbs in sound tables: none from a node that is there takes more than `MAX_DEPTH` steps, and a folder is one less deep than what is in it.
-- So the words about the tree are as the plain ones.
use Rattle.std.proofs.Common.{ℕ, suc, zero, ◌+◌, ◌≡◌, ◌≢◌, ◌≤◌, true, false, List, Option, None, Some, refl, ap, subst, ◌∙◌, sym, ◌⊎◌, inl, inr, arith, ◌==◌, Bool, [], ◌∷◌, get_or}
use Rattle.std.specs.Option.{option_map_or}
use Rattle.std.specs.List.{All, list_any}
use Rattle.std.specs.Prelude.{bytes_eq, is_some, IsSome}
use Rattle.std.proofs.lemmas.Bool.{both_ways, false_from_ne_true}
use Rattle.std.proofs.lemmas.Option.{none-some, option_and_then_some, same_Some}
use Rattle.std.proofs.lemmas.List.Recursion.{max_bounds}
use Rattle.std.proofs.lemmas.List.Folds.{list_any_at}
use Rattle.nf_base.specs.declared.limits.TheConstants.{MAX_DEPTH}
use Rattle.nf_base.specs.declared.rows.NodeRow.{NodeRow}
use Rattle.nf_base.specs.declared.rows.Place.{Place}
use Rattle.nf_base.specs.declared.rows.Place.TheVariants.{Inside, Root, Trash}
use Rattle.nf_base.specs.FreeNames.{is_taken}
use Rattle.nf_base.specs.declared.rows.UserRow.{UserRow}
use Rattle.nf_defs.proofs.Climbs.{climb_under, under_climb}
use Rattle.nf_defs.specs.Prelude.{child_of, climb, depth, folder_of, is_in, is_under, node_row, parent_of, Tables, taken_names, user_row}
use Rattle.nf_laws.proofs.Climbs.{climbs_no_further, depth_is, node_row_each, some_there}
use Rattle.nf_laws.proofs.Paths.{IsOf, climb_own}
use Rattle.nf_laws.proofs.Rows.{IsRooted, found_is, none_over, parent_there, row_is}
use Rattle.nf_laws.specs.Tree.{ClimbsByDepth, DepthIsClimbed, IsTrashed, NamesAreTaken, NoRings, NodesArePresent, Under, UnderIsDerived, inside, itself}
use Rattle.nf_words.specs.Prelude.{AreSound, deepest, IsPlaceSound, IsTop, root_of_user}

-- ---- climbs

-- a node that is there leads to a top
pub rooted : (t : Tables) (node : ℕ) (row : NodeRow) → AreSound t → node_row t.nodes node ≡ Some row → IsRooted t node
rooted t node row sound there =
    let h = row_is t node row sound there in
    record {
      steps = h.1.steps;
      shallow = h.1.shallow;
      top = h.1.top;
      climbs = subst (λ (n : ℕ). climb t.nodes h.1.steps n ≡ Some h.1.top) h.0 h.1.climbs;
      ends = h.1.ends;
    }

-- no climb is longer than `MAX_DEPTH`
pub climb_short : (j : ℕ) (t : Tables) (node top : ℕ) → AreSound t → climb t.nodes j node ≡ Some top → j ≤ MAX_DEPTH
climb_short zero t node top sound is = omega arith
climb_short (suc j) t node top sound is =
    option_and_then_some (climb t.nodes j) (parent_of t.nodes node) top is (λ parent above rest.
    option_and_then_some (λ row. folder_of row.place) (node_row t.nodes node) parent above (λ row there placed.
    let r = rooted t node row sound there in
    let few = climbs_no_further r.steps (suc j) t.nodes node r.top top (none_over t.nodes r.top r.ends) r.climbs is in
    omega (arith, r.shallow, few)))

-- so a node is under each that it climbs to, and climbs to none that it isn't under
pub climbs_is_under : (j : ℕ) (t : Tables) (node top : ℕ) → AreSound t → climb t.nodes j node ≡ Some top → is_under t.nodes node top ≡ true
climbs_is_under j t node top sound is = climb_under j t.nodes node top (climb_short j t node top sound is) is

pub never_climbs : (t : Tables) (node top : ℕ) → AreSound t → is_under t.nodes node top ≡ false → (j : ℕ) → climb t.nodes j node ≢ Some top
never_climbs t node top sound outside j is = both_ways (is_under t.nodes node top) outside (climbs_is_under j t node top sound is)

-- so many folders up from a node as it is deep is a top
pub climbs_depth : (t : Tables) (node : ℕ) (row : NodeRow) → AreSound t → node_row t.nodes node ≡ Some row
    → (top : ℕ) × (climb t.nodes (depth t.nodes node) node ≡ Some top) × IsTop t.nodes top × (depth t.nodes node ≤ MAX_DEPTH)
climbs_depth t node row sound there =
    let r = rooted t node row sound there in
    let deep = depth_is r.steps t.nodes node r.top (none_over t.nodes r.top r.ends) r.shallow r.climbs in
    (r.top, rw deep r.climbs, r.ends, omega (arith, deep, r.shallow))

-- no node of some is deeper than their deepest
pub deepest_among : (rows : List NodeRow) (nodes : List ℕ) → All (λ (node : ℕ). depth rows node ≤ deepest rows nodes) nodes
deepest_among rows nodes k d within = max_bounds (deepest rows) (depth rows) refl (λ node nodes. refl) nodes k d within

-- ---- depths

pub depth_up : (t : Tables) (node parent : ℕ) → AreSound t → parent_of t.nodes node ≡ Some parent
    → depth t.nodes node ≡ suc (depth t.nodes parent)
depth_up t node parent sound above =
    option_and_then_some (λ row. folder_of row.place) (node_row t.nodes node) parent above (λ row there place.
    let folder = parent_there t node parent row sound there above in
    let over = climbs_depth t parent folder.0 sound folder.1 in
    let up : climb t.nodes (suc (depth t.nodes parent)) node ≡ Some over.0 = rw above over.1 in
    depth_is (suc (depth t.nodes parent)) t.nodes node over.0 (none_over t.nodes over.0 over.2)
    (climb_short (suc (depth t.nodes parent)) t node over.0 sound up) up)

-- a node is deeper than each that it climbs to by the steps
pub depth_climb : (j : ℕ) (t : Tables) (node top : ℕ) → AreSound t → climb t.nodes j node ≡ Some top
    → depth t.nodes node ≡ j + depth t.nodes top
depth_climb zero t node top sound is = omega (arith, ap (depth t.nodes) (same_Some node top is))
depth_climb (suc j) t node top sound is =
    option_and_then_some (climb t.nodes j) (parent_of t.nodes node) top is (λ parent above is.
    omega (arith, depth_up t node parent sound above, depth_climb j t parent top sound is))

-- no folder is under a node that is in it
pub no_rings : NoRings
no_rings t node parent sound above =
    false_from_ne_true (is_under t.nodes parent node) (λ under.
    let c = under_climb t.nodes parent node under in
    omega (arith, depth_up t node parent sound above, depth_climb c.0 t parent node sound c.2))

-- ---- under

pub derived : (j : ℕ) (rows : List NodeRow) (top node : ℕ) → climb rows j node ≡ Some top → Under rows top node
derived zero rows top node is = subst (λ (n : ℕ). Under rows n node) (same_Some node top is) itself
derived (suc j) rows top node is =
    option_and_then_some (climb rows j) (parent_of rows node) top is
    (λ parent above is. inside node parent above (derived j rows top parent is))

pub climbed : (rows : List NodeRow) (top node : ℕ) → Under rows top node → (j : ℕ) × (climb rows j node ≡ Some top)
climbed rows top _ itself = (0, refl)
climbed rows top _ (inside node parent above under) = let r = climbed rows top parent under in (suc r.0, rw above r.1)

pub under_derived : UnderIsDerived
under_derived t top sound k d within =
    let node = (get_or t.nodes k d).id in (
      λ is. let c = under_climb t.nodes node top is in derived c.0 t.nodes top node c.2,
      λ under. let c = climbed t.nodes top node under in climbs_is_under c.0 t node top sound c.1,
    )

-- ---- present

-- a top is its owner's root, or in the trash
top_place : (t : Tables) (row : NodeRow) (place : Place) → row.place ≡ place → folder_of place ≡ None → IsPlaceSound t row place
    → ((row.place ≡ Root) × (row.id ≡ root_of_user t row.owner)) ⊎ (row.place ≡ Trash)
top_place t row Root at ends is = inl (at, is)
top_place t row (Inside folder) at ends is = absurd (none-some folder (sym ends))
top_place t row Trash at ends is = inr at

-- the climb from a node that is there ends at one of the same owner
pub climbs_own : (t : Tables) (row : NodeRow) → AreSound t → node_row t.nodes row.id ≡ Some row → ClimbsByDepth t row
climbs_own t row sound there =
    let up = climbs_depth t row.id row sound there in
    let top = up.2.row in
    let is = row_is t up.0 top sound up.2.there in
    let of : IsOf t top.owner up.0 = record { row = top; there = up.2.there; owner = refl } in
    let owner = sym (climb_own (depth t.nodes row.id) t top.owner row.id up.0 row sound up.1 of there) in
    record {
      top = top;
      there = ap (node_row t.nodes) is.0 ∙ up.2.there;
      owner = owner;
      place = subst (λ (user : ℕ). ((top.place ≡ Root) × (top.id ≡ root_of_user t user)) ⊎ (top.place ≡ Trash)) owner
          (top_place t top top.place refl up.2.ends is.1.place);
      climbs = up.1 ∙ ap Some (sym is.0);
      shallow = up.3;
    }

-- so each node's owner is there: who isn't has 0 for a root, and nothing in the trash
pub owners_there : (t : Tables) → AreSound t → All (λ (row : NodeRow). IsSome (user_row t.users row.owner)) t.nodes
owners_there t sound k d within =
    let row : NodeRow = get_or t.nodes k d in
    let c = climbs_own t row sound (node_row_each t.nodes sound.rising k d within) in
    let top = (row_is t c.top.id c.top sound c.there).1 in
    elim c.place [
      | inl root ↦ here (user_row t.users row.owner) (omega (arith, root.1, top.some))
      | inr trash ↦ subst (λ (user : ℕ). IsSome (user_row t.users user)) c.owner (subst (IsPlaceSound t c.top) trash top.place).0
    ]
  where
    here : (o : Option UserRow) → 1 ≤ option_map_or (λ user. user.root) o 0 → IsSome o
    here None some = absurd (omega arith)
    here (Some user) some = refl

-- one that climbs to a top in the trash is there
pub trashed_by : (t : Tables) (row : NodeRow) → node_row t.nodes row.id ≡ Some row → (c : ClimbsByDepth t row) → c.top.place ≡ Trash
    → IsTrashed t.nodes row.id
trashed_by t row there c trash = record {
  top = c.top;
  there = c.there;
  place = trash;
  owner = c.owner ∙ sym (ap (λ (o : Option NodeRow). option_map_or (λ row. row.owner) o 0) there);
  under = climb_under (depth t.nodes row.id) t.nodes row.id c.top.id c.shallow c.climbs;
}

pub nodes_present : NodesArePresent
nodes_present t sound k d within =
    let row : NodeRow = get_or t.nodes k d in
    let there = node_row_each t.nodes sound.rising k d within in
    let c = climbs_own t row sound there in
    let user = some_there (user_row t.users row.owner) (owners_there t sound k d within) in
    let passes : UserRow → Bool = λ user. is_under t.nodes row.id user.root in
    elim c.place [
      | inl root ↦
          inl ((found_is (λ user. passes user ≡ true → list_any passes t.users ≡ true) (λ user. user.id == row.owner) t.users user.0
          (λ k d within is. list_any_at passes t.users k d within is) user.1).1
          (climb_under (depth t.nodes row.id) t.nodes row.id user.0.root c.shallow
          (c.climbs ∙ ap Some (root.1 ∙ ap (λ (o : Option UserRow). option_map_or (λ user. user.root) o 0) user.1))))
      | inr trash ↦ inr (trashed_by t row there c trash)
    ]

-- ---- names

pub names_taken : NamesAreTaken
names_taken [] folder name = refl
names_taken (x ∷ rows) folder name = here (is_in folder x) (bytes_eq x.name name) refl refl (names_taken rows folder name)
  where
    here : (a b : Bool) → is_in folder x ≡ a → bytes_eq x.name name ≡ b
        → is_some (child_of rows folder name) ≡ is_taken name (taken_names rows folder)
        → is_some (child_of (x ∷ rows) folder name) ≡ is_taken name (taken_names (x ∷ rows) folder)
    here true true e f rest = simp (e, f)
    here true false e f rest = simp (e, f) rest
    here false b e f rest = simp e rest

-- ---- depth

pub depth_climbed : DepthIsClimbed
depth_climbed t sound k d within =
    climbs_own t (get_or t.nodes k d) sound (node_row_each t.nodes sound.rising k d within)
