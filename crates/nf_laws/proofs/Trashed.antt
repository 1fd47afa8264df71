-- The tables with what is put in the trash, comes back or goes for good are sound.
use Rattle.std.proofs.Common.{inl, inr, ℕ, ◌==◌, ◌≡◌, ◌≢◌, ◌⊎◌, ◌&&◌, ◌≤◌, Bool, true, false, not, List, [], ◌∷◌, Option, None, Some, length, if◌then◌else◌, refl, sym, ap, subst, ◌∙◌, arith, le_refl, filter, option_map}
use Rattle.std.specs.Prelude.{is_some}
use Rattle.std.specs.List.{All}
use Rattle.std.specs.Option.{option_map_or}
use Rattle.std.proofs.lemmas.Bool.{both_ways, cases_Bool, eq-eqb, eqb-true, false_from_ne_true, ne_eqb, not_from_false}
use Rattle.std.proofs.lemmas.List.{length-map}
use Rattle.std.proofs.lemmas.List.Elements.{All-weaker}
use Rattle.std.proofs.lemmas.List.Filters.{length-filter_both}
use Rattle.nf_access.proofs.Naming.{free_is_free, taken_child}
use Rattle.nf_access.specs.Mounts.{free_name_of, mount_at, names_in_root, root_folder}
use Rattle.nf_base.specs.declared.rows.ItemRow.{ItemRow}
use Rattle.nf_base.specs.declared.rows.NodeRow.{NodeRow}
use Rattle.nf_base.specs.declared.rows.Place.{Place}
use Rattle.nf_base.specs.declared.rows.Place.TheVariants.{Inside, Root, Trash}
use Rattle.nf_base.specs.declared.rows.UserRow.{UserRow}
use Rattle.nf_defs.proofs.Climbs.{climb_under, under_climb}
use Rattle.nf_defs.proofs.Puts.{all_put, put_rising}
use Rattle.nf_defs.specs.Prelude.{child_of, dropped, is_folder, is_folder_kind, is_in, is_root, is_root_place, is_under, item_key, item_row, node_row, owner_of, put, Tables, taken_names, user_row}
use Rattle.nf_defs.specs.Tree.{trashed}
use Rattle.nf_laws.proofs.Climbs.{node_row_each, some_there}
use Rattle.nf_laws.proofs.Gone.{folder_left, root_left, those_sound}
use Rattle.nf_laws.proofs.Moved.{below_leads, climb_below, deep_below, Fits, names_turned, no_root_row, others_same, outside_leads, outside_rooted, relinked_sound, root_turned}
use Rattle.nf_laws.proofs.OneRow.{KeepsId, length_with, pieces_with, rising_with, row_itself, value_with, with_each}
use Rattle.nf_laws.proofs.Files.{files_with}
use Rattle.nf_laws.proofs.Others.{items_all, items_dropped, items_left, IsSeenSo, off_with, others_ended, was_with}
use Rattle.nf_laws.proofs.Paths.{climb_own}
use Rattle.nf_laws.proofs.Present.{below_present, never_trash, root_leads, trash_alone}
use Rattle.nf_laws.proofs.Puts.{number_found, other_number}
use Rattle.nf_laws.proofs.Rows.{folder_there, found_is, IsRooted, node_still, row_is}
use Rattle.nf_laws.proofs.Upwards.{climb_short, never_climbs, owners_there}
use Rattle.nf_words.proofs.Ensured.{free_in_root}
use Rattle.nf_words.proofs.Known.{IsItem, KnownLeaving, KnownRestore}
use Rattle.nf_words.specs.Others.{IsItemSound}
use Rattle.nf_words.specs.Prelude.{AreSound, discarded, HasRoot, home_of, IsNodeSound, IsPlaceSound, IsUnmounted, LeadsToRoot, name_back, names_taken_in, purged, restored, root_of_user}

-- ---- items

-- a node that is an item is a top in the trash
pub item_top : (t : Tables) (node : ℕ) → AreSound t → IsItem t node
    → (row : NodeRow) × (node_row t.nodes node ≡ Some row) × (row.place ≡ Trash)
item_top t node sound is =
    let item = some_there (item_row t.items node) is in
    let of = found_is (IsItemSound t) (λ (item : ItemRow). item.node == node) t.items item.0 sound.others.items item.1 in
    (of.1.of, subst (λ (n : ℕ). node_row t.nodes n ≡ Some of.1.of) (eqb-true item.0.node node of.0) of.1.there, of.1.place)

-- the row of a top in the trash is no root's
trash_no_root : (rows : List NodeRow) (node : ℕ) (row : NodeRow) → node_row rows node ≡ Some row → row.place ≡ Trash → is_root rows node ≡ false
trash_no_root rows node row there place =
    ap (λ (o : Option NodeRow). option_map_or (λ row. is_root_place row.place) o false) there ∙ ap is_root_place place

-- with an item that is put, those that were there are
pub item_put : (item : ItemRow) (items : List ItemRow) (node : ℕ) → is_some (item_row items node) ≡ true
    → is_some (item_row (put item_key item items) node) ≡ true
item_put item items node is =
    elim (cases_Bool (node == item.node)) [
      | inl e ↦
          ap (λ (n : ℕ). is_some (item_row (put item_key item items) n)) (eqb-true node item.node e)
          ∙ ap is_some (number_found (λ (i : ItemRow). i.node) item items)
      | inr e ↦
          ap is_some (other_number (λ (i : ItemRow). i.node) item items node (λ same. both_ways (node == item.node) e (eq-eqb node item.node same))) ∙ is
    ]

-- ---- what goes for good

-- no other top in the trash is under a node
trash_other : (rows : List NodeRow) (node other : ℕ) (row : NodeRow) → node_row rows other ≡ Some row → row.place ≡ Trash → other ≢ node
    → not (is_under rows other node) ≡ true
trash_other rows node other row there place differs =
    not_from_false (is_under rows other node) (false_from_ne_true (is_under rows other node) (λ under.
    let c = under_climb rows other node under in differs (trash_alone c.0 rows other node row there place c.2)))

-- what goes for good: an item, or what leaves its place
abbrev pub Goes : Tables → ℕ → Type 0
Goes t node = IsItem t node ⊎ ((row : NodeRow) × (row.id ≡ node) × KnownLeaving t row)

-- it is no root
goes_no_root : (t : Tables) (node : ℕ) → AreSound t → Goes t node → is_root t.nodes node ≡ false
goes_no_root t node sound (inl is) = let top = item_top t node sound is in trash_no_root t.nodes node top.0 top.1 top.2
goes_no_root t node sound (inr known) = subst (λ (n : ℕ). is_root t.nodes n ≡ false) known.1 known.2.no_root

-- without what goes for good the tables are sound
pub purged_sound : (t : Tables) (node : ℕ) → AreSound t → Goes t node → AreSound (purged t node)
purged_sound t node sound goes =
    let gone : ℕ → Bool = λ other. is_under t.nodes other node in
    those_sound t gone (dropped item_key (node ∷ []) t.items) sound (folder_left t node sound)
    (items_dropped t gone node sound (climb_under 0 t.nodes node node (omega arith) refl) (trash_other t.nodes node))
    (root_left t node (goes_no_root t node sound goes))

-- ---- what is put in the trash

-- what is present and isn't under what is put in the trash is present then
pub discarded_leads : (t : Tables) (item : ItemRow) (other : ℕ) → AreSound t → is_under t.nodes other item.node ≡ false → LeadsToRoot t.nodes other
    → LeadsToRoot (discarded t item).nodes other
discarded_leads t item other sound outside up =
    outside_leads t.nodes item.node trashed (λ row. refl) other (never_climbs t other item.node sound outside) up

module _ (t : Tables) (item : ItemRow) (row : NodeRow) (folder : ℕ) (sound : AreSound t) (at : item.at ≤ t.meta.last)
    (there : node_row t.nodes item.node ≡ Some row) (inside : row.place ≡ Inside folder) (present : LeadsToRoot t.nodes item.node)
    (owner : item.owner ≡ row.owner) where
  abbrev top : ℕ
  top = item.node

  abbrev binned : Tables
  binned = discarded t item

  keeps : KeepsId trashed
  keeps row = refl

  no_root : is_root t.nodes top ≡ false
  no_root = ap (λ (o : Option NodeRow). option_map_or (λ row. is_root_place row.place) o false) there ∙ ap is_root_place inside

  itself : node_row binned.nodes top ≡ Some (trashed row)
  itself = row_itself t.nodes top trashed keeps ∙ ap (option_map trashed) there

  -- what is under it climbs to it, and all else as before
  trash_rooted : (other : NodeRow) → node_row t.nodes other.id ≡ Some other → IsRooted binned other.id
  trash_rooted other of =
      elim (cases_Bool (is_under t.nodes other.id top)) [
        | inl under ↦
            (let c = under_climb t.nodes other.id top under in
            record {
              steps = c.0;
              shallow = climb_short c.0 t other.id top sound c.2;
              top = top;
              climbs = climb_below t.nodes top trashed keeps t refl sound c.0 other.id c.2;
              ends = record { row = trashed row; there = itself; ends = refl };
            })
        | inr outside ↦ outside_rooted t.nodes top trashed keeps t binned other.id other refl refl sound of outside
      ]

  trash_place : (other : NodeRow) (place : Place) → IsPlaceSound t other place → IsPlaceSound binned other place
  trash_place other Root h = h
  trash_place other (Inside parent) h = (
    value_with (λ row. is_folder_kind row.kind) false t.nodes top trashed keeps (λ row. refl) parent ∙ h.0,
    value_with (λ row. row.owner) 0 t.nodes top trashed keeps (λ row. refl) parent ∙ h.1,
  )
  trash_place other Trash h = (h.0, item_put item t.items other.id h.1)

  trash_row : (other : NodeRow) → node_row t.nodes other.id ≡ Some other → IsNodeSound t other → IsNodeSound binned other
  trash_row other of h =
      node_still t binned other other.place other.name (le_refl _) (le_refl _) (le_refl _) h (trash_place other other.place h.place) (trash_rooted other of)

  -- it is in the trash of its owner, who is there
  trash_itself : (other : NodeRow) → node_row t.nodes top ≡ Some other → node_row t.nodes other.id ≡ Some other → IsNodeSound t other
      → IsNodeSound binned (trashed other)
  trash_itself other is of h =
      node_still t binned other Trash other.name (le_refl _) (le_refl _) (le_refl _) h (
        (found_is (λ (r : NodeRow). is_some (user_row t.users r.owner) ≡ true) (λ (r : NodeRow). r.id == other.id) t.nodes other (owners_there t sound) of).1,
        ap (λ (n : ℕ). is_some (item_row binned.items n)) (row_is t top other sound is).0
            ∙ ap is_some (number_found (λ (i : ItemRow). i.node) item t.items),
      ) (trash_rooted other of)

  seen_trashed : IsSeenSo t top trashed
  seen_trashed = record {
    id = keeps;
    owner = λ row. refl;
    kind = λ row. refl;
    root = λ row there. sym (no_root_row t.nodes top row no_root there);
    off = λ row there off k d within shown. refl;
  }

  items_trashed : All (IsItemSound binned) binned.items
  items_trashed =
      all_put item_key (IsItemSound binned) item t.items
      (record { at = at; of = trashed row; there = itself; owner = sym owner; place = refl })
      (items_left t binned (λ other. other == top) t.items (le_refl _) (others_same t.nodes top trashed keeps)
      (items_all t (λ other. other == top) sound (λ other old of place.
      ap not (ne_eqb other top (λ same. never_trash 0 t.nodes top other old present (ap Some (sym same)) of place)))))

  -- with it in the trash the tables are sound
  pub discarded_sound : AreSound binned
  discarded_sound =
      let counts = length_with t.nodes top trashed in
      record {
        counters = sound.counters;
        rising = rising_with t.nodes top trashed keeps sound.rising;
        nodes = with_each (IsNodeSound binned) (λ other. IsNodeSound t other × (node_row t.nodes other.id ≡ Some other)) t.nodes top trashed
            (λ other h. trash_row other h.1 h.0) (λ other is h. trash_itself other is h.1 h.0)
            (λ k d within. (sound.nodes k d within, node_row_each t.nodes sound.rising k d within));
        names = names_turned t top trashed sound (λ old k d within folder first second. absurd (cc));
        roots = All-weaker (HasRoot t) (HasRoot binned) (root_turned t binned top trashed keeps refl no_root) t.users sound.roots;
        users_given = sound.users_given;
        members_there = sound.members_there;
        groups_given = sound.groups_given;
        few_nodes = omega (arith, counts, sound.few_nodes);
        few_pieces = omega (arith, sound.few_pieces, pieces_with t.nodes top trashed 0 (λ row is. omega arith));
        others = others_ended t (λ n. is_under t.nodes n top) binned.nodes t.versions binned.items sound (was_with t top trashed seen_trashed)
            (λ n stays up. discarded_leads t item n sound stays up)
            (off_with t top trashed sound seen_trashed)
            sound.others.versions (files_with t top trashed sound seen_trashed.id seen_trashed.kind) sound.others.versions_rise
            sound.others.few_versions items_trashed (put_rising item_key item t.items sound.others.items_rise);
      }

-- ---- what comes back

-- where it comes back to: a folder of its owner's that is present
pub record IsHome (t : Tables) (owner folder : ℕ) : Type 0 where
  pub in_folder : is_folder t.nodes folder ≡ true
  pub present : LeadsToRoot t.nodes folder
  pub owned : owner_of t.nodes folder ≡ owner

-- the root of a user who is there is one
root_home : (t : Tables) (user : UserRow) → HasRoot t user → IsHome t user.id user.root
root_home t user root = record {
  in_folder = ap (λ (o : Option NodeRow). option_map_or (λ row. is_folder_kind row.kind) o false) root.there ∙ root.folder;
  present = root_leads t.nodes user.root (ap (λ (o : Option NodeRow). option_map_or (λ row. is_root_place row.place) o false) root.there ∙ ap is_root_place root.place);
  owned = ap (λ (o : Option NodeRow). option_map_or (λ row. row.owner) o 0) root.there ∙ root.owner;
}

-- and so is a folder under it
under_home : (t : Tables) (user : UserRow) (folder : ℕ) → AreSound t → HasRoot t user → is_folder t.nodes folder ≡ true
    → is_under t.nodes folder user.root ≡ true → IsHome t user.id folder
under_home t user folder sound root is under =
    let c = under_climb t.nodes folder user.root under in
    let row = folder_there t.nodes folder is in
    record {
      in_folder = is;
      present = below_present c.0 t.nodes folder user.root c.2 (root_home t user root).present;
      owned = ap (λ (o : Option NodeRow). option_map_or (λ row. row.owner) o 0) row.1
          ∙ climb_own c.0 t user.id folder user.root row.0 sound c.2 (record { row = root.row; there = root.there; owner = root.owner }) row.1;
    }

-- so is the home of an item, whose owner is there
home_there : (t : Tables) (item : ItemRow) (user : UserRow) → AreSound t → user_row t.users item.owner ≡ Some user → IsHome t item.owner (home_of t item)
home_there t item user sound there =
    subst (λ (n : ℕ). IsHome t n (home_of t item)) (eqb-true user.id item.owner found.0)
    (here (is_folder t.nodes item.from) (is_under t.nodes item.from root) refl refl)
  where
    root : ℕ
    root = root_folder t.users item.owner

    found : ((user.id == item.owner) ≡ true) × HasRoot t user
    found = found_is (HasRoot t) (λ (row : UserRow). row.id == item.owner) t.users user sound.roots there

    of : root ≡ user.root
    of = ap (λ (o : Option UserRow). option_map_or (λ row. row.root) o 0) there

    top : IsHome t user.id root
    top = subst (IsHome t user.id) (sym of) (root_home t user found.1)

    here : (a b : Bool) → is_folder t.nodes item.from ≡ a → is_under t.nodes item.from root ≡ b → IsHome t user.id (if a && b then item.from else root)
    here true true e f = under_home t user item.from sound found.1 e (ap (is_under t.nodes item.from) (sym of) ∙ f)
    here true false e f = top
    here false b e f = top

pub item_home : (t : Tables) (node : ℕ) (item : ItemRow) → AreSound t → item_row t.items node ≡ Some item → IsHome t item.owner (home_of t item)
item_home t node item sound there =
    let is = (found_is (IsItemSound t) (λ (item : ItemRow). item.node == node) t.items item sound.others.items there).1 in
    let user = some_there (user_row t.users is.of.owner)
    (found_is (λ (r : NodeRow). is_some (user_row t.users r.owner) ≡ true) (λ (r : NodeRow). r.id == item.node) t.nodes is.of (owners_there t sound) is.there).1 in
    home_there t item user.0 sound (ap (user_row t.users) (sym is.owner) ∙ user.1)

-- a root of a user's is that of the user
owner_root : (t : Tables) (folder : ℕ) → AreSound t → is_root t.nodes folder ≡ true → folder ≡ root_folder t.users (owner_of t.nodes folder)
owner_root t folder sound is = here (node_row t.nodes folder) refl is
  where
    placed : (row : NodeRow) (place : Place) → is_root_place place ≡ true → IsPlaceSound t row place → row.id ≡ root_of_user t row.owner
    placed row Root root fine = fine
    placed row (Inside parent) root fine = absurd (cc)
    placed row Trash root fine = absurd (cc)

    here : (o : Option NodeRow) → node_row t.nodes folder ≡ o → option_map_or (λ row. is_root_place row.place) o false ≡ true
        → folder ≡ root_folder t.users (option_map_or (λ row. row.owner) o 0)
    here None e root = absurd (cc)
    here (Some row) e root = let fine = row_is t folder row sound e in sym fine.0 ∙ placed row row.place root fine.1.place

-- what isn't there is none
none_there : {X : Type 0} (o : Option X) → is_some o ≡ false → o ≡ None
none_there None is = refl
none_there (Some x) is = absurd (cc)

-- the name under which it does is free there, also of mounts
pub name_free : (t : Tables) (user folder : ℕ) (name : List ℕ) → AreSound t → owner_of t.nodes folder ≡ user
    → let free = free_name_of name (names_taken_in t user folder) in (child_of t.nodes folder free ≡ None) × IsUnmounted t folder free
name_free t user folder name sound owner = here (folder == root_folder t.users user) refl
  where
    Frees : List (List ℕ) → Type 0
    Frees taken = (child_of t.nodes folder (free_name_of name taken) ≡ None) × IsUnmounted t folder (free_name_of name taken)

    here : (b : Bool) → (folder == root_folder t.users user) ≡ b
        → Frees (if b then names_in_root t.users t.nodes t.mounts user else taken_names t.nodes folder)
    here true e =
        let free = free_name_of name (names_in_root t.users t.nodes t.mounts user) in
        let both = free_in_root t.users t.nodes t.mounts user name sound.few_nodes sound.others.few_mounts in
        let same = eqb-true folder (root_folder t.users user) e in
        (ap (λ (n : ℕ). child_of t.nodes n free) same ∙ both.0, λ root. ap (λ (n : ℕ). mount_at t.mounts n free) owner ∙ both.1)
    here false e =
        let taken = taken_names t.nodes folder in
        let free = free_name_of name taken in
        let few : length taken ≤ length t.nodes =
        omega (
          arith,
          length-map (filter (is_in folder) t.nodes) (λ (row : NodeRow). row.name),
          length-filter_both (is_in folder) (λ row. not (is_in folder row)) (λ row. refl) t.nodes,
        ) in (
          none_there (child_of t.nodes folder free)
              (sym (taken_child t.nodes folder free) ∙ free_is_free name taken (omega (arith, few, sound.few_nodes))),
          λ root.
              absurd (both_ways (folder == root_folder t.users user) e
              (eq-eqb folder (root_folder t.users user) (owner_root t folder sound root ∙ ap (root_folder t.users) owner))),
        )

-- so the folder of an item is its owner's, and its name is free there
pub home_fits : (t : Tables) (item : ItemRow) → AreSound t → item_row t.items item.node ≡ Some item
    → (is_folder t.nodes (home_of t item) ≡ true) × (owner_of t.nodes (home_of t item) ≡ item.owner)
    × (child_of t.nodes (home_of t item) (name_back t item) ≡ None)
home_fits t item sound there =
    let home = item_home t item.node item sound there in
    (home.in_folder, home.owned, (name_free t item.owner (home_of t item) item.name sound home.owned).0)

-- what comes back fits there
pub restored_fits : (t : Tables) (node folder : ℕ) (name : List ℕ) → AreSound t → KnownRestore t node folder name
    → (row : NodeRow) × Fits t (dropped item_key (node ∷ []) t.items) node folder name row
restored_fits t node folder name sound known =
    let item = known.item in
    let found = found_is (IsItemSound t) (λ (item : ItemRow). item.node == node) t.items item sound.others.items known.there in
    let row = found.1.of in
    let there : node_row t.nodes node ≡ Some row =
    subst (λ (n : ℕ). node_row t.nodes n ≡ Some row) (eqb-true item.node node found.0) found.1.there in
    let place = found.1.place in
    let home = subst (IsHome t item.owner) (sym known.home) (item_home t node item sound known.there) in
    let free : (child_of t.nodes folder name ≡ None) × IsUnmounted t folder name =
    subst (λ (n : List ℕ). (child_of t.nodes folder n ≡ None) × IsUnmounted t folder n)
    (ap (λ (n : ℕ). free_name_of item.name (names_taken_in t item.owner n)) known.home ∙ sym known.named)
    (name_free t item.owner folder item.name sound home.owned) in (
      row,
      record {
        there = there;
        no_root = trash_no_root t.nodes node row there place;
        left = items_dropped t (λ other. other == node) node sound (eq-eqb node node refl)
            (λ other old of trash differs. ap not (ne_eqb other node differs));
        in_folder = home.in_folder;
        folder_present = home.present;
        owner = home.owned ∙ sym found.1.owner;
        free = free.0;
        unmounted = free.1;
        outside = false_from_ne_true (is_under t.nodes folder node) (λ under.
            let c = under_climb t.nodes folder node under in never_trash c.0 t.nodes folder node row home.present c.2 there place);
        shallow = λ j below other of climbs. deep_below t node folder j below sound climbs known.deep;
      },
    )

-- with what comes back the tables are sound
pub restored_sound : (t : Tables) (node folder : ℕ) (name : List ℕ) → AreSound t → KnownRestore t node folder name → AreSound (restored t node folder name)
restored_sound t node folder name sound known =
    let fits = restored_fits t node folder name sound known in
    relinked_sound t (dropped item_key (node ∷ []) t.items) node folder name fits.0 sound fits.1

-- what is under what comes back is present
pub restored_below : (t : Tables) (node folder : ℕ) (name : List ℕ) (other : ℕ) → AreSound t → KnownRestore t node folder name
    → is_under t.nodes other node ≡ true → LeadsToRoot (restored t node folder name).nodes other
restored_below t node folder name other sound known =
    let fits = restored_fits t node folder name sound known in
    below_leads t (dropped item_key (node ∷ []) t.items) node folder name fits.0 sound fits.1 other
