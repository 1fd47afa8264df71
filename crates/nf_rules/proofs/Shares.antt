-- Shares and mounts: what the rules say of their rows, and what sound tables say of them.
use Rattle.std.proofs.Common.{◌≡◌, ℕ, ◌<◌, ◌==◌, ◌&&◌, ◌||◌, Bool, true, false, not, if◌then◌else◌, List, ◌∷◌, get_or, Option, None, Some, option_map, refl, sym, ap, subst, ◌∙◌}
use Rattle.std.specs.Prelude.{bytes_eq, find, is_some, nat_lt}
use Rattle.std.specs.List.{All}
use Rattle.std.specs.Option.{IfSome, option_map_or}
use Rattle.std.proofs.lemmas.Bool.{and_from, and_parts, both_ways, eq-eqb, eqb-true, false_from_ne_true, false≢true, lt-ltb, ltb-false, ltb-true, ne_eqb, not-true, not_from_false}
use Rattle.std.proofs.lemmas.Option.{none-some, same_Some}
use Rattle.std.proofs.lemmas.Slice.Eq.{bytes_eq-Decides}
use Rattle.nf_access.specs.Mounts.{root_folder}
use Rattle.nf_base.specs.declared.rows.MountRow.{MountRow}
use Rattle.nf_base.specs.declared.rows.NodeRow.{NodeRow}
use Rattle.nf_base.specs.declared.rows.Place.{Place}
use Rattle.nf_base.specs.declared.rows.Place.TheVariants.{Root, Inside, Trash}
use Rattle.nf_base.specs.declared.rows.Row.{Row}
use Rattle.nf_base.specs.declared.rows.Row.TheVariants as rows
use Rattle.nf_base.specs.declared.rows.ShareKind.{ShareKind}
use Rattle.nf_base.specs.declared.rows.ShareKind.TheVariants as to
use Rattle.nf_base.specs.declared.rows.ShareRow.{ShareRow}
use Rattle.nf_base.specs.declared.rows.UserRow.{UserRow}
use Rattle.nf_defs.proofs.Climbs.{holds_some, under_climb}
use Rattle.nf_defs.specs.Prelude.{child_of, is_in, is_place_in, is_root_place, node_row, Tables, user_row}
use Rattle.nf_laws.proofs.Rows.{each_fails, finds_none, found_is, no_value}
use Rattle.nf_words.proofs.Found.{found_passes}
use Rattle.nf_words.specs.Others.{IsKindSound, IsMountSound, IsOfNode, IsShareSound}
use Rattle.nf_words.specs.Prelude.{HasRoot, LeadsToRoot, root_of_user}
use Rattle.nf_rules.specs.Keys.{child_key, name_key}
use Rattle.nf_rules.specs.Ruled.{IsGiven, IsMountRuled, IsShareRuled}
use Rattle.nf_rules.specs.Rules.{is_given, is_in_root, is_of_node, is_recipient_there, is_shared_well, is_user}
use Rattle.nf_rules.proofs.Shared.{AreUnshared, IsAmong, of_among, one_has}

-- the number was given
pub given : (next id : ℕ) → is_given next id ≡ true → IsGiven next id
given next id is =
    let parts = and_parts (nat_lt 0 id) (nat_lt id next) is in
    record { first = ltb-true 0 id parts.0; below = ltb-true id next parts.1 }

pub is_given_from : (next id : ℕ) → IsGiven next id → is_given next id ≡ true
is_given_from next id given = and_from (nat_lt 0 id) (nat_lt id next) (lt-ltb 0 id given.first) (lt-ltb id next given.below)

-- ---- roots

-- the root of a user who is there is a node of the user's, with place Root
root_owned : (t : Tables) (user : ℕ) → All (HasRoot t) t.users → is_user t user ≡ true
    → (row : NodeRow) × (node_row t.nodes (root_folder t.users user) ≡ Some row) × (row.owner ≡ user) × (row.place ≡ Root)
root_owned t user roots is = here (user_row t.users user) refl is
  where
    here : (o : Option UserRow) → user_row t.users user ≡ o → is_some o ≡ true
        → (row : NodeRow) × (node_row t.nodes (root_folder t.users user) ≡ Some row) × (row.owner ≡ user) × (row.place ≡ Root)
    here None e is = absurd (false≢true is)
    here (Some row) e is =
        let found = found_is (HasRoot t) (λ row. row.id == user) t.users row roots e in
        let root : root_folder t.users user ≡ row.root = ap (λ (o : Option UserRow). option_map_or (λ row. row.root) o 0) e in
        (found.1.row, ap (node_row t.nodes) root ∙ found.1.there, found.1.owner ∙ eqb-true row.id user found.0, found.1.place)

-- what is in the root of its owner, who is there, leads to a root
leads_in : (t : Tables) (of : NodeRow) → All (HasRoot t) t.users → is_user t of.owner ≡ true → is_in_root t of ≡ true → LeadsToRoot t.nodes of.id
leads_in t of roots user is =
    let root = root_owned t of.owner roots user in
    let up = under_climb t.nodes of.id (root_of_user t of.owner) is in
    record { steps = up.0; top = root_of_user t of.owner; climbs = up.2; root = rw root.1 (ap is_root_place root.3) }

-- ---- shares

kind_sound : (t : Tables) (kind : ShareKind) → is_recipient_there t kind ≡ true → IsKindSound t kind
kind_sound t (to.User user) is = is
kind_sound t (to.Group group) is = is
kind_sound t (to.Link token) is = tt

-- the rules of what is shared say of the node what soundness does
of_node : (row : ShareRow) (of : NodeRow) → is_of_node row of ≡ true → IsOfNode row of
of_node row of is =
    let perms = and_parts _ _ is in
    let place = and_parts _ _ perms.0 in
    record {
      owner = eqb-true of.owner row.owner place.0;
      no_root = not-true (is_root_place of.place) place.1;
      perms = eqb-true _ row.perms perms.1;
    }

pub share_sound : (t : Tables) (row : ShareRow) → All (HasRoot t) t.users → IsShareRuled t row → IsShareSound t row
share_sound t row roots h =
    let made = and_parts _ _ h.numbers in
    let until = and_parts _ _ made.0 in
    let passed = and_parts _ _ until.0 in
    let recipient = and_parts _ _ passed.0 in
    let initiator = and_parts _ _ recipient.0 in
    let owner = and_parts _ _ initiator.0 in
    let ids = and_parts _ _ owner.0 in
    let id = given t.meta.next_share row.id ids.0 in
    let node = given t.meta.next_node row.node ids.1 in
    let present = and_parts _ _ h.names in
    let parent = and_parts _ _ present.0 in
    let named = and_parts _ _ parent.0 in
    let users = and_parts _ _ named.0 in
    let kept = and_parts _ _ h.kept in
    let linked = and_parts _ _ kept.0 in
    let chain = and_parts _ _ linked.0 in
    record {
      some = id.first;
      given = id.below;
      made = ltb-false t.meta.last row.made (not-true (nat_lt t.meta.last row.made) made.1);
      node = node.below;
      owner = users.0;
      initiator = users.1;
      kind = kind_sound t row.kind named.1;
      chained = chain.1;
      parent = earlier row.parent chain.0;
      present = λ live.
          let of = holds_some (is_in_root t) (node_row t.nodes row.node) (or_other row.ended _ live linked.1) in
          let owner : of.0.owner ≡ row.owner = (is_of of.0 of.1 kept.1).owner in
          subst (LeadsToRoot t.nodes) (eqb-true of.0.id row.node (found_passes (λ (r : NodeRow). r.id == row.node) t.nodes of.0 of.1))
          (leads_in t of.0 roots (ap (is_user t) owner ∙ users.0) of.2);
      of_node = λ of there. is_of of there kept.1;
    }
  where
    is_of : (of : NodeRow) → node_row t.nodes row.node ≡ Some of → option_map_or (is_of_node row) (node_row t.nodes row.node) true ≡ true → IsOfNode row of
    is_of of there kept = of_node row of (sym (ap (λ (o : Option NodeRow). option_map_or (is_of_node row) o true) there) ∙ kept)

    earlier : (parent : Option ℕ) → option_map_or (λ parent. nat_lt parent row.id) parent (row.initiator == row.owner) ≡ true
        → IfSome parent (λ (id : ℕ). id < row.id)
    earlier None is = tt
    earlier (Some parent) is = ltb-true parent row.id is

    or_other : (a b : Bool) → a ≡ false → (a || b) ≡ true → b ≡ true
    or_other true b e is = absurd (false≢true (sym e))
    or_other false b e is = is

-- ---- mounts

abbrev FreeName : Tables → MountRow → Type 0
FreeName t row = row.left ≡ false → child_of t.nodes (root_folder t.users row.user) row.name ≡ None

pub mount_sound : (t : Tables) (row : MountRow) → IsMountRuled t row → is_user t row.user ≡ true → is_shared_well t (rows.Mount row) ≡ true
    → FreeName t row → IsMountSound t row
mount_sound t row h user well free = record {
  user = user;
  node = h.node.below;
  others = λ of there own.
      let apart = not-true (of.owner == row.user)
      (sym (ap (λ (o : Option NodeRow). option_map_or (λ of. not (of.owner == row.user)) o true) there) ∙ well) in
      both_ways (of.owner == row.user) apart (eq-eqb of.owner row.user own);
  free = free;
}

-- and the other way round
pub mount_well : (t : Tables) (row : MountRow) → IsMountSound t row → is_shared_well t (rows.Mount row) ≡ true
mount_well t row sound = here (node_row t.nodes row.node) refl
  where
    here : (o : Option NodeRow) → node_row t.nodes row.node ≡ o → option_map_or (λ of. not (of.owner == row.user)) o true ≡ true
    here None e = refl
    here (Some of) e = not_from_false (of.owner == row.user) (ne_eqb of.owner row.user (sound.others of e))

-- ---- names in a root

-- the key of a child's name
pub record IsChildKey (place : Place) (name key : List ℕ) : Type 0 where
  pub folder : ℕ
  pub inside : place ≡ Inside folder
  pub is : key ≡ 6 ∷ folder ∷ name

pub of_child : (place : Place) (name key : List ℕ) → child_key place name ≡ Some key → IsChildKey place name key
of_child Root name key is = absurd (none-some key is)
of_child (Inside folder) name key is = record { folder = folder; inside = refl; is = sym (same_Some (6 ∷ folder ∷ name) key is) }
of_child Trash name key is = absurd (none-some key is)

-- a mount has one where it wasn't left
pub record IsMountKey (t : Tables) (row : MountRow) (key : List ℕ) : Type 0 where
  pub shown : row.left ≡ false
  pub is : key ≡ 6 ∷ root_folder t.users row.user ∷ row.name

pub of_mount : (t : Tables) (row : MountRow) (key : List ℕ) → name_key t (rows.Mount row) ≡ Some key → IsMountKey t row key
of_mount t row key is = here row.left refl is
  where
    name : List ℕ
    name = 6 ∷ root_folder t.users row.user ∷ row.name

    here : (left : Bool) → row.left ≡ left → (if left then None else Some name) ≡ Some key → IsMountKey t row key
    here true e is = absurd (none-some key is)
    here false e is = record { shown = e; is = sym (same_Some name key is) }

pub mount_key_is : (t : Tables) (row : MountRow) → row.left ≡ false
    → name_key t (rows.Mount row) ≡ Some (6 ∷ root_folder t.users row.user ∷ row.name)
mount_key_is t row shown = rw shown refl

abbrev is_child : ℕ → List ℕ → NodeRow → Bool
is_child folder name row = is_in folder row && bytes_eq row.name name

-- where a folder has no child of a name, no row is one
pub no_child : (some : List NodeRow) (folder : ℕ) (name : List ℕ) (row : NodeRow) → child_of some folder name ≡ None → IsAmong some row
    → row.place ≡ Inside folder → row.name ≡ name → ⊥
no_child some folder name row none among inside same =
    let fails = each_fails (is_child folder name) some (no_value (λ row. row.id) (find (is_child folder name) some) none) in
    both_ways (is_child folder name row) (of_among (λ row. is_child folder name row ≡ false) some row fails among)
    (and_from _ _ (ap (is_place_in folder) inside ∙ eq-eqb folder folder refl) ((bytes_eq-Decides row.name name).1 same))

-- where no two rows share a name, no child of the user's root has a mount's
pub name_free : (t : Tables) (all : List Row) (row : MountRow) → AreUnshared (name_key t) all
    → All (λ (row : NodeRow). IsAmong all (rows.Node row)) t.nodes → IsAmong all (rows.Mount row) → FreeName t row
name_free t all row unshared nodes mount shown =
    ap (λ (o : Option NodeRow). option_map (λ row. row.id) o)
    (finds_none (is_child root row.name) t.nodes
    (λ k d within. false_from_ne_true _ (no_namesake (get_or t.nodes k d) (nodes k d within))))
  where
    root : ℕ
    root = root_folder t.users row.user

    in_root : (place : Place) → is_place_in root place ≡ true → place ≡ Inside root
    in_root Root is = absurd (false≢true is)
    in_root (Inside folder) is = ap Inside (eqb-true folder root is)
    in_root Trash is = absurd (false≢true is)

    no_namesake : (node : NodeRow) → IsAmong all (rows.Node node) → is_child root row.name node ≡ true → ⊥
    no_namesake node among is =
        let parts = and_parts _ _ is in
        let name : node.name ≡ row.name = (bytes_eq-Decides node.name row.name).0 parts.1 in
        let key : child_key node.place node.name ≡ Some (6 ∷ root ∷ row.name) =
        ap (λ (place : Place). child_key place node.name) (in_root node.place parts.0)
        ∙ ap (λ (name : List ℕ). Some (6 ∷ root ∷ name)) name in
        let same : rows.Node node ≡ rows.Mount row =
        one_has (name_key t) all (rows.Node node) (rows.Mount row) (6 ∷ root ∷ row.name) unshared among mount key (mount_key_is t row shown) in
        cc

-- users with one root are one
pub same_user : (t : Tables) (a b : ℕ) → All (HasRoot t) t.users → is_user t a ≡ true → is_user t b ≡ true
    → root_folder t.users a ≡ root_folder t.users b → a ≡ b
same_user t a b roots first second same =
    let one = root_owned t a roots first in
    let other = root_owned t b roots second in
    let row : one.0 ≡ other.0 = same_Some one.0 other.0 (sym one.1 ∙ ap (node_row t.nodes) same ∙ other.1) in
    sym one.2 ∙ ap (λ (row : NodeRow). row.owner) row ∙ other.2
