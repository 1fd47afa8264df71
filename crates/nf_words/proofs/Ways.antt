-- Where the ways of a call lead by whose mounts it is reached.
use Rattle.std.proofs.Common.{◌≡◌, ◌⊎◌, ℕ, zero, suc, ◌+◌, ◌<◌, ◌==◌, ◌&&◌, inl, inr, bytes_eq, find, not, sym, Bool, true, false, List, [], ◌∷◌, ◌∙◌, Option, option_map, if◌then◌else◌, refl, ap, subst}
use Rattle.std.specs.Prelude.{None, Some, is_some}
use Rattle.std.specs.List.{AllPairs, list_any}
use Rattle.std.specs.Option.{IfSome, option_and_then, option_map_or}
use Rattle.std.proofs.lemmas.Bool.{and_parts, both_ways, eq-eqb, eqb-true, false≢true, not-true}
use Rattle.std.proofs.lemmas.List.Elements.{All-weaker}
use Rattle.std.proofs.lemmas.Option.{none-some, same_Some}
use Rattle.std.proofs.lemmas.Slice.Eq.{bytes_eq-Decides}
use Rattle.nf_access.proofs.Granted.{reach_is_a_chain_lem}
use Rattle.nf_access.proofs.Kept.{chained_is_bounded_lem}
use Rattle.nf_access.specs.Access.{IsChain, Stands, by_chains, is_open}
use Rattle.nf_access.specs.Kept.{IsShallow}
use Rattle.nf_access.specs.Laws.{IsBounded}
use Rattle.nf_access.specs.Mounts.{is_shown_to, mount_at, root_folder}
use Rattle.nf_access.specs.Shares.{Ground, ground_of, share_row}
use Rattle.nf_base.specs.declared.rows.MountRow.{MountRow}
use Rattle.nf_base.specs.declared.rows.NodeRow.{NodeRow}
use Rattle.nf_base.specs.declared.rows.Place.{Place}
use Rattle.nf_base.specs.declared.rows.Place.TheVariants.{Root, Inside, Trash}
use Rattle.nf_base.specs.declared.rows.ShareRow.{ShareRow}
use Rattle.nf_base.specs.declared.rows.UserRow.{UserRow}
use Rattle.nf_defs.specs.Prelude.{child_of, climb, folder_of, found_from, is_folder, is_root, is_root_place, node_row, onward, owner_of, parent_of, Tables}
use Rattle.nf_defs.specs.declared.Found.{Found}
use Rattle.nf_defs.specs.declared.Found.TheVariants.{At, Free, Missing}
use Rattle.nf_defs.specs.declared.Seeker.{Seeker}
use Rattle.nf_defs.specs.declared.Seeker.TheVariants as seeker
use Rattle.nf_words.proofs.Found.{at_known, child_parent, found_has, found_passes, free_known, last_more, last_of, last_step}
use Rattle.nf_words.proofs.Passing.{if_none}
use Rattle.nf_words.proofs.Starts.{IsAsking, none_of_user, root_is, root_known, user_seeks}
use Rattle.nf_words.specs.Prelude.{access_of, AreSound, asker_of, behind, Call, caller_row, found, is_itself, is_start, IsMountSound, IsNodeSound, IsShareSound, IsUnmounted, IsPlaceSound, last_name, LeadsToRoot, mount_for, mount_of, mounted, root_of, root_of_user, seeker_of, unreached, unreached_by, Way, way_by, way_of}
use Rattle.nf_words.specs.declared.request.Spot.{Spot}

-- the node is there
abbrev pub HasRow : List NodeRow → ℕ → Type 0
HasRow rows node = (row : NodeRow) × (node_row rows node ≡ Some row)

-- what is inside a folder is there
pub inside_there : (rows : List NodeRow) (node folder : ℕ) → parent_of rows node ≡ Some folder → HasRow rows node
inside_there rows node folder above = here (node_row rows node) refl above
  where
    here : (o : Option NodeRow) → node_row rows node ≡ o → option_and_then (λ row. folder_of row.place) o ≡ Some folder → HasRow rows node
    here None e above = absurd (none-some folder above)
    here (Some row) e above = (row, e)

-- and is no root
pub inside_no_root : (rows : List NodeRow) (node folder : ℕ) → parent_of rows node ≡ Some folder → is_root rows node ≡ false
inside_no_root rows node folder above = here (node_row rows node) above
  where
    here : (o : Option NodeRow) → option_and_then (λ row. folder_of row.place) o ≡ Some folder → option_map_or (λ row. is_root_place row.place) o false ≡ false
    here None above = refl
    here (Some row) above = by_place row.place above
      where
        by_place : (place : Place) → folder_of place ≡ Some folder → is_root_place place ≡ false
        by_place Root above = absurd (none-some folder above)
        by_place (Inside parent) above = refl
        by_place Trash above = refl

-- ---- what is present

-- what is in a folder that is present is present
pub inside_present : (rows : List NodeRow) (node folder : ℕ) → parent_of rows node ≡ Some folder → LeadsToRoot rows folder → LeadsToRoot rows node
inside_present rows node folder above is = record {
  steps = suc is.steps;
  top = is.top;
  climbs = ap (option_and_then (climb rows is.steps)) above ∙ is.climbs;
  root = is.root;
}

-- and the folder of what is present is
pub folder_present : (rows : List NodeRow) (node folder : ℕ) → parent_of rows node ≡ Some folder → LeadsToRoot rows node → LeadsToRoot rows folder
folder_present rows node folder above is = here is.steps is.climbs
  where
    here : (k : ℕ) → climb rows k node ≡ Some is.top → LeadsToRoot rows folder
    here zero climbs =
        absurd (both_ways (is_root rows node) (inside_no_root rows node folder above)
        (subst (λ (n : ℕ). is_root rows n ≡ true) (sym (same_Some node is.top climbs)) is.root))
    here (suc k) climbs = record {
      steps = k;
      top = is.top;
      climbs = sym (ap (option_and_then (climb rows k)) above) ∙ climbs;
      root = is.root;
    }

-- what is present is there
pub present_row : (rows : List NodeRow) (node : ℕ) → LeadsToRoot rows node → HasRow rows node
present_row rows node is = here (node_row rows node) refl
  where
    none : node_row rows node ≡ None → (k : ℕ) → climb rows k node ≡ Some is.top → ⊥
    none e zero climbs =
        false≢true (sym (ap (λ (o : Option NodeRow). option_map_or (λ row. is_root_place row.place) o false) e)
        ∙ subst (λ (n : ℕ). is_root rows n ≡ true) (sym (same_Some node is.top climbs)) is.root)
    none e (suc k) climbs =
        none-some is.top
        (sym (ap (λ (o : Option NodeRow). option_and_then (climb rows k) (option_and_then (λ row. folder_of row.place) o)) e) ∙ climbs)

    here : (o : Option NodeRow) → node_row rows node ≡ o → HasRow rows node
    here None e = absurd (none e is.steps is.climbs)
    here (Some row) e = (row, e)

-- what is present and no root is in a folder
pub present_inside : (rows : List NodeRow) (node : ℕ) (row : NodeRow) → node_row rows node ≡ Some row → is_root rows node ≡ false → LeadsToRoot rows node
    → (folder : ℕ) × (row.place ≡ Inside folder)
present_inside rows node row there no_root is = here is.steps is.climbs
  where
    placed : (k : ℕ) (place : Place) → option_and_then (climb rows k) (folder_of place) ≡ Some is.top → (folder : ℕ) × (place ≡ Inside folder)
    placed k Root climbs = absurd (none-some is.top climbs)
    placed k (Inside folder) climbs = (folder, refl)
    placed k Trash climbs = absurd (none-some is.top climbs)

    here : (k : ℕ) → climb rows k node ≡ Some is.top → (folder : ℕ) × (row.place ≡ Inside folder)
    here zero climbs =
        absurd (both_ways (is_root rows node) no_root (subst (λ (n : ℕ). is_root rows n ≡ true) (sym (same_Some node is.top climbs)) is.root))
    here (suc k) climbs =
        placed k row.place
        (sym (ap (λ (o : Option NodeRow). option_and_then (climb rows k) (option_and_then (λ row. folder_of row.place) o)) there) ∙ climbs)

-- what is at a place, or the folder of a free name, is present
abbrev pub IsPresentAt : List NodeRow → Found → Type 0
IsPresentAt rows (At node) = LeadsToRoot rows node
IsPresentAt rows (Free folder) = LeadsToRoot rows folder
IsPresentAt rows (Missing depth) = Unit {0}

-- names lead from what is present to what is
led_present : (rows : List NodeRow) (before at : ℕ) (names : List (List ℕ)) → AllPairs (λ (a b : NodeRow). a.id < b.id) rows
    → LeadsToRoot rows at → IsPresentAt rows (found_from rows before at names)
led_present rows before at [] rising is = is
led_present rows before at (name ∷ names) rising is =
    here (is_folder rows at) (child_of rows at name) names refl (λ child there.
    led_present rows (before + 1) child names rising (inside_present rows child at (child_parent rows at name child rising there) is))
  where
    here : (folds : Bool) (child : Option ℕ) (names : List (List ℕ)) → child_of rows at name ≡ child
        → ((child : ℕ) → child_of rows at name ≡ Some child → IsPresentAt rows (found_from rows (before + 1) child names))
        → IsPresentAt rows (if folds then onward before at names child (λ child. found_from rows (before + 1) child names) else Missing before)
    here true None [] e rest = is
    here true None (first ∷ others) e rest = tt
    here true (Some child) names e rest = rest child e
    here false child names e rest = tt

-- ---- what names lead to

-- names lead to where they start, or into a folder
pub at_above : (rows : List NodeRow) (before at : ℕ) (names : List (List ℕ)) (node : ℕ) → AllPairs (λ (a b : NodeRow). a.id < b.id) rows
    → found_from rows before at names ≡ At node → ((at ≡ node) × (names ≡ [])) ⊎ ((folder : ℕ) × (parent_of rows node ≡ Some folder))
at_above rows before at [] node rising is = inl (last_step rows before at [] node is, refl)
at_above rows before at (name ∷ names) node rising is =
    let step = last_step rows before at (name ∷ names) node is in
    inr (step.folder, child_parent rows step.folder (last_of (name ∷ names)) node rising step.child)

-- a free name is in the folder where names start, and is the only one, or in one inside another
pub free_above : (rows : List NodeRow) (before at : ℕ) (names : List (List ℕ)) (folder : ℕ) → AllPairs (λ (a b : NodeRow). a.id < b.id) rows
    → found_from rows before at names ≡ Free folder
    → ((at ≡ folder) × ((name : List ℕ) × (names ≡ name ∷ []))) ⊎ ((above : ℕ) × (parent_of rows folder ≡ Some above))
free_above rows before at [] folder rising is = absurd (cc)
free_above rows before at (name ∷ names) folder rising is =
    here (is_folder rows at) (child_of rows at name) names refl refl is (λ child. free_above rows (before + 1) child names folder rising)
  where
    here : (folds : Bool) (child : Option ℕ) (names : List (List ℕ)) → is_folder rows at ≡ folds → child_of rows at name ≡ child
        → (if folds then onward before at names child (λ child. found_from rows (before + 1) child names) else Missing before) ≡ Free folder
        → ((child : ℕ) → found_from rows (before + 1) child names ≡ Free folder
        → ((child ≡ folder) × ((name : List ℕ) × (names ≡ name ∷ []))) ⊎ ((above : ℕ) × (parent_of rows folder ≡ Some above)))
        → ((at ≡ folder) × ((other : List ℕ) × (name ∷ names ≡ other ∷ []))) ⊎ ((above : ℕ) × (parent_of rows folder ≡ Some above))
    here true None [] folds none is rest = inl (cc, (name, refl))
    here true (Some child) names folds there is rest =
        elim (rest child is) [
          | inl same ↦ inr (at, subst (λ (n : ℕ). parent_of rows n ≡ Some at) same.0 (child_parent rows at name child rising there))
          | inr above ↦ inr above
        ]
    here folds child names folded there is rest = absurd (cc)

-- ---- what is shared is there

shallow : (t : Tables) (row : NodeRow) → IsNodeSound t row → IsShallow t.nodes row.id
shallow t row sound = record {
  steps = sound.steps;
  few = sound.shallow;
  top = sound.top;
  climbs = sound.climbs;
  ends = ap (option_and_then (λ (row : NodeRow). folder_of row.place)) sound.ends.there ∙ sound.ends.ends;
}

-- sound rows have all that access by shares rests on
pub bounded : (t : Tables) → AreSound t → IsBounded (ground_of t)
bounded t sound = chained_is_bounded_lem (ground_of t) (record {
  rising = sound.others.shares_rise;
  chained = All-weaker (IsShareSound t) _ (λ share is. is.chained) t.shares sound.others.shares;
  shallow = All-weaker (IsNodeSound t) (λ row. IsShallow t.nodes row.id) (shallow t) t.nodes sound.nodes;
})

-- the node of a share that stands is present, and is no root
pub record IsShared (t : Tables) (node : ℕ) : Type 0 where
  pub row : NodeRow
  pub there : node_row t.nodes node ≡ Some row
  pub no_root : is_root_place row.place ≡ false
  pub present : LeadsToRoot t.nodes node

first_row : (shares : List ShareRow) (share : ShareRow) (up : List ShareRow) → IsChain shares (share ∷ up) → share_row shares share.id ≡ Some share
first_row shares share [] chain = chain.0
first_row shares share (parent ∷ up) chain = chain.0

not_ended : (g : Ground) (share : ShareRow) (up : List ShareRow) → Stands g (share ∷ up) → share.ended ≡ false
not_ended g share [] stands = stands
not_ended g share (parent ∷ up) stands = stands.0

share_there : (t : Tables) (share : ShareRow) → AreSound t → share_row t.shares share.id ≡ Some share → share.ended ≡ false → IsShared t share.node
share_there t share sound is unended =
    let fine = subst (λ (o : Option ShareRow). IfSome o (IsShareSound t)) is
    (found_has (IsShareSound t) (λ (row : ShareRow). row.id == share.id) t.shares sound.others.shares) in
    let row = present_row t.nodes share.node (fine.present unended) in
    record { row = row.0; there = row.1; no_root = (fine.of_node row.0 row.1).no_root; present = fine.present unended }

-- so where somebody is reached by a mount, its node is
pub reached_there : (t : Tables) (seeker : Seeker) (now mount : ℕ) → AreSound t
    → unreached_by (by_chains (ground_of t)) (ground_of t) seeker now mount ≡ None → IsShared t mount
reached_there t seeker now mount sound passes =
    let holds = if_none (list_any (is_open now) (by_chains (ground_of t) seeker mount)) _ passes in
    let reaches = (reach_is_a_chain_lem (ground_of t) now seeker mount (bounded t sound)).0 holds in
    let share = reaches.0 in
    let it = reaches.2 in
    subst (λ (n : ℕ). IsShared t n) it.on_node
    (share_there t share sound (first_row t.shares share reaches.1 it.chain) (not_ended (ground_of t) share reaches.1 it.live.stands))

shared_no_root : (t : Tables) (node : ℕ) → IsShared t node → is_root t.nodes node ≡ false
shared_no_root t node is = ap (λ (o : Option NodeRow). option_map_or (λ row. is_root_place row.place) o false) is.there ∙ is.no_root

-- ---- names that are taken in a root

-- a root is that of its owner
root_of_owner : (t : Tables) (folder : ℕ) → AreSound t → is_root t.nodes folder ≡ true → root_folder t.users (owner_of t.nodes folder) ≡ folder
root_of_owner t folder sound root = here (node_row t.nodes folder) refl root
  where
    of_place : (row : NodeRow) (place : Place) → is_root_place place ≡ true → IsPlaceSound t row place → row.id ≡ root_of_user t row.owner
    of_place row Root root fine = fine
    of_place row (Inside parent) root fine = absurd (cc)
    of_place row Trash root fine = absurd (cc)

    here : (o : Option NodeRow) → node_row t.nodes folder ≡ o → option_map_or (λ row. is_root_place row.place) o false ≡ true
        → root_folder t.users (option_map_or (λ row. row.owner) o 0) ≡ folder
    here None e root = absurd (cc)
    here (Some row) e root =
        let fine = subst (λ (o : Option NodeRow). IfSome o (IsNodeSound t)) e
        (found_has (IsNodeSound t) (λ (row : NodeRow). row.id == folder) t.nodes sound.nodes) in
        sym (of_place row row.place root fine.place) ∙ eqb-true row.id folder (found_passes (λ (row : NodeRow). row.id == folder) t.nodes row e)

-- a child's name is no mount's
pub taken_unmounted : (t : Tables) (folder node : ℕ) (name : List ℕ) → AreSound t → child_of t.nodes folder name ≡ Some node → IsUnmounted t folder name
taken_unmounted t folder node name sound child root = here (find test t.mounts) refl
  where
    user : ℕ
    user = owner_of t.nodes folder

    test : MountRow → Bool
    test row = is_shown_to user row && bytes_eq row.name name

    here : (o : Option MountRow) → find test t.mounts ≡ o → option_map (λ row. row.node) o ≡ None
    here None e = refl
    here (Some row) e =
        let passes = and_parts (is_shown_to user row) (bytes_eq row.name name) (found_passes test t.mounts row e) in
        let shown = and_parts (row.user == user) (not row.left) passes.0 in
        let fine = subst (λ (o : Option MountRow). IfSome o (IsMountSound t)) e (found_has (IsMountSound t) test t.mounts sound.others.mounts) in
        let of_user : row.user ≡ user = eqb-true row.user user shown.0 in
        let named : row.name ≡ name = (bytes_eq-Decides row.name name).0 passes.1 in
        let free = fine.free (not-true row.left shown.1) in
        let at : root_folder t.users row.user ≡ folder = ap (root_folder t.users) of_user ∙ root_of_owner t folder sound root in
        absurd (none-some node (sym free ∙ ap (λ (n : ℕ). child_of t.nodes n row.name) at ∙ ap (child_of t.nodes folder) named ∙ child))

-- ---- where a way leads

module _ (call : Call) (spot : Spot) (sound : AreSound call.state.tables) (is : IsAsking call) where
  abbrev t : Tables
  t = call.state.tables

  abbrev way : Option ℕ → Way
  way mount = way_by t.nodes (seeker_of call) (root_of call) spot.path mount

  abbrev lead : Option ℕ → Found
  lead mount = (way mount).place

  abbrev Reached : Option ℕ → Type 0
  Reached mount = unreached (access_of call.state) call (way mount) ≡ None

  -- what a way leads to is there, where it is reached by its mount
  pub way_there : (node : ℕ) → unreached (access_of call.state) call (way_of call spot) ≡ None → found call spot ≡ At node → HasRow t.nodes node
  way_there node reached leads = here (mount_of call spot) refl reached leads
    where
      here : (mount : Option ℕ) → mount_of call spot ≡ mount → Reached mount → lead mount ≡ At node → HasRow t.nodes node
      here None none reached leads =
          let user = none_of_user call spot is none in
          elim (at_above t.nodes 0 (root_of call) spot.path node sound.rising leads) [
            | inl same ↦ (let root = root_is call user.0 sound user.1 in (root.row, ap (node_row t.nodes) (sym same.0) ∙ root.there))
            | inr above ↦ inside_there t.nodes node above.0 above.1
          ]
      here (Some mount) by reached leads =
          elim (at_above t.nodes 0 mount (behind (seeker_of call) spot.path) node sound.rising leads) [
            | inl same ↦
                (let shared = reached_there t (seeker_of call) call.now mount sound reached in
                (shared.row, ap (node_row t.nodes) (sym same.0) ∙ shared.there))
            | inr above ↦ inside_there t.nodes node above.0 above.1
          ]

  -- and is present, or in a folder that is
  pub way_present : unreached (access_of call.state) call (way_of call spot) ≡ None → IsPresentAt t.nodes (found call spot)
  way_present reached = here (mount_of call spot) refl reached
    where
      here : (mount : Option ℕ) → mount_of call spot ≡ mount → Reached mount → IsPresentAt t.nodes (lead mount)
      here None none reached =
          let user = none_of_user call spot is none in
          let root = root_is call user.0 sound user.1 in
          led_present t.nodes 0 (root_of call) spot.path sound.rising
          (record {
            steps = 0;
            top = root_of call;
            climbs = refl;
            root = ap (λ (o : Option NodeRow). option_map_or (λ row. is_root_place row.place) o false) root.there ∙ ap is_root_place root.place;
          })
      here (Some mount) by reached =
          led_present t.nodes 0 mount (behind (seeker_of call) spot.path) sound.rising
          (reached_there t (seeker_of call) call.now mount sound reached).present

  pub node_present : (node : ℕ) → unreached (access_of call.state) call (way_of call spot) ≡ None → found call spot ≡ At node → LeadsToRoot t.nodes node
  node_present node reached leads = subst (IsPresentAt t.nodes) leads (way_present reached)

  pub slot_present : (folder : ℕ) → unreached (access_of call.state) call (way_of call spot) ≡ None → found call spot ≡ Free folder
      → LeadsToRoot t.nodes folder
  slot_present folder reached leads = subst (IsPresentAt t.nodes) leads (way_present reached)

  -- what is known of a free name at the end of a way
  pub record IsSlot (folder : ℕ) (name : List ℕ) : Type 0 where
    pub folds : is_folder t.nodes folder ≡ true
    pub free : child_of t.nodes folder name ≡ None
    pub unmounted : IsUnmounted t folder name

  no_root_unmounted : (folder : ℕ) (name : List ℕ) → is_root t.nodes folder ≡ false → IsUnmounted t folder name
  no_root_unmounted folder name no_root root = absurd (both_ways (is_root t.nodes folder) no_root root)

  -- the name is no mount's, where it is the only one in the caller's root
  root_unmounted : (row : UserRow) → caller_row call ≡ Some row → (folder : ℕ) (path : List (List ℕ)) (name : List ℕ) → path ≡ name ∷ [] → mounted t.nodes t.mounts (asker_of call) (root_of call) path ≡ None
      → root_of call ≡ folder → child_of t.nodes folder name ≡ None → mount_at t.mounts (owner_of t.nodes folder) name ≡ None
  root_unmounted row is folder path name alone none same free =
      let root = root_is call row sound is in
      let owner : owner_of t.nodes folder ≡ asker_of call =
      ap (λ (n : ℕ). owner_of t.nodes n) (sym same) ∙ ap (λ (o : Option NodeRow). option_map_or (λ row. row.owner) o 0) root.there ∙ root.owner
      ∙ sym (ap (λ (o : Option UserRow). option_map_or (λ row. row.id) o 0) is) in
      let off : child_of t.nodes (root_of call) name ≡ None = ap (λ (n : ℕ). child_of t.nodes n name) same ∙ free in
      ap (λ (n : ℕ). mount_at t.mounts n name) owner
      ∙ sym (ap (λ (o : Option ℕ). if is_some o then None else mount_at t.mounts (asker_of call) name) off)
      ∙ sym (ap (mounted t.nodes t.mounts (asker_of call) (root_of call)) alone) ∙ none

  -- a name that is free at the end of a way is free in its folder
  pub slot_known : (folder : ℕ) → unreached (access_of call.state) call (way_of call spot) ≡ None → found call spot ≡ Free folder
      → IsSlot folder (last_name spot)
  slot_known folder reached leads = here (mount_of call spot) refl reached leads
    where
      rest_of : (who : Seeker) (path : List (List ℕ)) (mount folder : ℕ) → found_from t.nodes 0 mount (behind who path) ≡ Free folder
          → last_of (behind who path) ≡ last_of path
      rest_of (seeker.Link share) path mount folder leads = refl
      rest_of (seeker.User user) [] mount folder leads = refl
      rest_of (seeker.User user) (first ∷ []) mount folder leads = absurd (cc)
      rest_of (seeker.User user) (first ∷ second ∷ rest) mount folder leads = sym (last_more first second rest)

      here : (mount : Option ℕ) → mount_of call spot ≡ mount → Reached mount → lead mount ≡ Free folder → IsSlot folder (last_name spot)
      here None none reached leads =
          let known = free_known t.nodes 0 (root_of call) spot.path folder leads in
          let user = none_of_user call spot is none in
          let unmounted : mounted t.nodes t.mounts (asker_of call) (root_of call) spot.path ≡ None =
          sym (ap (λ (s : Seeker). mount_for t.nodes t.mounts s (root_of call) spot.path) (user_seeks call user.0 user.1)) ∙ none in
          record {
            folds = known.0;
            free = known.1;
            unmounted = elim (free_above t.nodes 0 (root_of call) spot.path folder sound.rising leads) [
              | inl alone ↦
                  (let last : last_name spot ≡ alone.1.0 = ap last_of alone.1.1 in
                  λ root. ap (mount_at t.mounts (owner_of t.nodes folder)) last
                  ∙ root_unmounted user.0 user.1 folder spot.path alone.1.0 alone.1.1 unmounted alone.0 (ap (child_of t.nodes folder) (sym last) ∙ known.1))
              | inr above ↦ no_root_unmounted folder (last_name spot) (inside_no_root t.nodes folder above.0 above.1)
            ];
          }
      here (Some mount) by reached leads =
          let known = free_known t.nodes 0 mount (behind (seeker_of call) spot.path) folder leads in
          record {
            folds = known.0;
            free = ap (child_of t.nodes folder) (sym (rest_of (seeker_of call) spot.path mount folder leads)) ∙ known.1;
            unmounted = no_root_unmounted folder (last_name spot) (elim (free_above t.nodes 0 mount (behind (seeker_of call) spot.path) folder sound.rising leads) [
              | inl alone ↦
                  ap (is_root t.nodes) (sym alone.0) ∙ shared_no_root t mount (reached_there t (seeker_of call) call.now mount sound reached)
              | inr above ↦ inside_no_root t.nodes folder above.0 above.1
            ]);
          }

  -- the way of a free name is none of a mount itself
  pub free_no_mount : (folder : ℕ) → found call spot ≡ Free folder → (way_of call spot).itself ≡ false
  free_no_mount folder leads = here (mount_of call spot) leads
    where
      by_mount : (who : Seeker) (path : List (List ℕ)) (mount : ℕ) → found_from t.nodes 0 mount (behind who path) ≡ Free folder
          → is_itself who path ≡ false
      by_mount (seeker.Link share) path mount leads = refl
      by_mount (seeker.User user) [] mount leads = refl
      by_mount (seeker.User user) (first ∷ []) mount leads = absurd (cc)
      by_mount (seeker.User user) (first ∷ second ∷ rest) mount leads = refl

      here : (mount : Option ℕ) → lead mount ≡ Free folder → (way mount).itself ≡ false
      here None leads = refl
      here (Some mount) leads = by_mount (seeker_of call) spot.path mount leads

  -- what is at the end of a way, and is neither a mount itself nor what the paths lead from, is its folder's child of the last name
  pub at_in : (node folder : ℕ) → (way_of call spot).itself ≡ false → is_start (root_of call) (found call spot) ≡ false → found call spot ≡ At node
      → parent_of t.nodes node ≡ Some folder
      → (is_folder t.nodes folder ≡ true) × (child_of t.nodes folder (last_name spot) ≡ Some node)
  at_in node folder other no_start leads above = here (mount_of call spot) refl other leads
    where
      started : is_start (root_of call) (At node) ≡ false
      started = sym (ap (is_start (root_of call)) leads) ∙ no_start

      InFolder : List (List ℕ) → Type 0
      InFolder path = (is_folder t.nodes folder ≡ true) × (child_of t.nodes folder (last_of path) ≡ Some node)

      -- some names lead into a folder
      stepped : (mount : ℕ) (first : List ℕ) (rest : List (List ℕ)) → found_from t.nodes 0 mount (first ∷ rest) ≡ At node → InFolder (first ∷ rest)
      stepped mount first rest leads =
          let step = last_step t.nodes 0 mount (first ∷ rest) node leads in
          let same : step.folder ≡ folder =
          same_Some step.folder folder (sym (child_parent t.nodes step.folder (last_of (first ∷ rest)) node sound.rising step.child) ∙ above) in (
            subst (λ (n : ℕ). is_folder t.nodes n ≡ true) same step.folds,
            subst (λ (n : ℕ). child_of t.nodes n (last_of (first ∷ rest)) ≡ Some node) same step.child,
          )

      by_mount : (who : Seeker) (path : List (List ℕ)) (mount : ℕ) → mount_for t.nodes t.mounts who (root_of call) path ≡ Some mount
          → is_itself who path ≡ false → found_from t.nodes 0 mount (behind who path) ≡ At node → InFolder path
      by_mount (seeker.User user) [] mount by other leads = absurd (none-some mount by)
      by_mount (seeker.User user) (first ∷ []) mount by other leads = absurd (cc)
      by_mount (seeker.User user) (first ∷ second ∷ rest) mount by other leads =
          let is = stepped mount second rest leads in (is.0, ap (child_of t.nodes folder) (last_more first second rest) ∙ is.1)
      by_mount (seeker.Link share) [] mount by other leads =
          let same : mount ≡ node = last_step t.nodes 0 mount [] node leads in
          absurd (both_ways (node == root_of call) started (eq-eqb node (root_of call) (sym (same_Some (root_of call) mount by ∙ same))))
      by_mount (seeker.Link share) (first ∷ rest) mount by other leads = stepped mount first rest leads

      here : (mount : Option ℕ) → mount_of call spot ≡ mount → (way mount).itself ≡ false → lead mount ≡ At node
          → (is_folder t.nodes folder ≡ true) × (child_of t.nodes folder (last_name spot) ≡ Some node)
      here None none other leads =
          let user = none_of_user call spot is none in
          at_known t.nodes (root_of call) spot.path node folder sound.rising (root_known call user.0 sound user.1) leads above
      here (Some mount) there other leads = by_mount (seeker_of call) spot.path mount there other leads
