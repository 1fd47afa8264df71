-- The tables with a node moved into another folder are sound.
use Rattle.std.proofs.Common.{ℕ, suc, ◌+◌, ◌<◌, ◌==◌, ◌≡◌, ◌≢◌, ◌≤◌, not, Bool, true, false, List, Option, None, Some, option_map, length, get_or, refl, sym, ap, subst, ◌∙◌, inl, inr, arith, le_refl}
use Rattle.std.specs.List.{All, AllPairs}
use Rattle.std.specs.Option.{option_and_then, option_map_or}
use Rattle.std.proofs.lemmas.Bool.{both_ways, cases_Bool, eqb-true, ne_eqb, not-true}
use Rattle.std.proofs.lemmas.List.Elements.{All-contains, All-weaker}
use Rattle.std.proofs.lemmas.Option.{same_Some}
use Rattle.nf_base.specs.declared.limits.TheConstants.{MAX_DEPTH}
use Rattle.nf_base.specs.declared.rows.ItemRow.{ItemRow}
use Rattle.nf_base.specs.declared.rows.NodeRow.{NodeRow}
use Rattle.nf_base.specs.declared.rows.Place.{Place}
use Rattle.nf_base.specs.declared.rows.Place.TheVariants.{Inside, Root, Trash}
use Rattle.nf_base.specs.declared.rows.UserRow.{UserRow}
use Rattle.nf_defs.proofs.Climbs.{under_climb}
use Rattle.nf_defs.proofs.Walks.{climbs_walk}
use Rattle.nf_defs.specs.Prelude.{child_of, climb, depth, folder_of, is_folder, is_folder_kind, is_root, is_root_place, is_under, node_row, owner_of, parent_of, relinked, Tables, walk_of, with_node}
use Rattle.nf_laws.proofs.Added.{new_apart}
use Rattle.nf_laws.proofs.Climbs.{climb_on, climb_same, node_row_each}
use Rattle.nf_laws.proofs.OneRow.{IsEither, each_either, KeepsId, length_with, pieces_with, rising_with, row_itself, row_other, value_with, with_others}
use Rattle.nf_laws.proofs.Others.{items_left, ItemsLeft, new_off, others_seen, seen_with}
use Rattle.nf_laws.proofs.Present.{below_present}
use Rattle.nf_laws.proofs.Rows.{IsRooted, folder_there, kept_row, node_still, none_higher, root_still}
use Rattle.nf_laws.proofs.Upwards.{climb_short, climbs_depth, deepest_among, depth_climb, never_climbs, rooted}
use Rattle.nf_words.proofs.Ways.{inside_present}
use Rattle.nf_words.specs.Prelude.{AreApart, AreSound, crosses, deepest, deepest_in, HasRoot, IsNodeSound, IsPlaceSound, IsTop, IsUnmounted, LeadsToRoot}
use Rattle.nf_words.specs.declared.request.Transfer.{Transfer}

-- ---- climbs where a node has another row

module _ (rows : List NodeRow) (node : ℕ) (change : NodeRow → NodeRow) (keeps : KeepsId change) where
  abbrev turned : List NodeRow
  turned = with_node rows node change

  parent_other : (other : ℕ) → other ≢ node → parent_of turned other ≡ parent_of rows other
  parent_other other differs =
      ap (option_and_then (λ row. folder_of row.place)) (row_other rows node change keeps other (ne_eqb other node differs))

  -- what doesn't climb to the node climbs as before
  pub climb_outside : (k other : ℕ) → ((j : ℕ) → climb rows j other ≢ Some node) → climb turned k other ≡ climb rows k other
  climb_outside k other apart =
      climb_same rows turned (λ k other. (j : ℕ) → climb rows j other ≢ Some node)
      (λ k other parent apart above j is. apart (suc j) (rw above is))
      (λ k other apart. parent_other other (λ is. apart 0 (ap Some is))) k other apart

  -- a top to which a node climbs that doesn't climb to the changed one stays a top
  pub top_outside : (k other top : ℕ) → ((j : ℕ) → climb rows j other ≢ Some node) → climb rows k other ≡ Some top → IsTop rows top → IsTop turned top
  top_outside k other top apart is ends = record {
    row = ends.row;
    there = row_other rows node change keeps top (ne_eqb top node (λ same. apart k (is ∙ ap Some same))) ∙ ends.there;
    ends = ends.ends;
  }

  -- what is present and doesn't climb to the node is present as before
  pub outside_leads : (other : ℕ) → ((j : ℕ) → climb rows j other ≢ Some node) → LeadsToRoot rows other → LeadsToRoot turned other
  outside_leads other apart up = record {
    steps = up.steps;
    top = up.top;
    climbs = climb_outside up.steps other apart ∙ up.climbs;
    root =
        ap (λ (o : Option NodeRow). option_map_or (λ row. is_root_place row.place) o false)
        (row_other rows node change keeps up.top (ne_eqb up.top node (λ same. apart up.steps (up.climbs ∙ ap Some same)))) ∙ up.root;
  }

  -- so a node that isn't under it is rooted as before
  pub outside_rooted : (u made : Tables) (other : ℕ) (row : NodeRow) → u.nodes ≡ rows → made.nodes ≡ turned → AreSound u → node_row rows other ≡ Some row
      → is_under rows other node ≡ false → IsRooted made other
  outside_rooted u made other row of is sound there outside =
      let r = rooted u other row sound (ap (λ (all : List NodeRow). node_row all other) of ∙ there) in
      let climbs : climb rows r.steps other ≡ Some r.top = ap (λ (all : List NodeRow). climb all r.steps other) (sym of) ∙ r.climbs in
      let apart = never_climbs u other node sound (ap (λ (all : List NodeRow). is_under all other node) of ∙ outside) in
      let never : (j : ℕ) → climb rows j other ≢ Some node = λ j to. apart j (ap (λ (all : List NodeRow). climb all j other) of ∙ to) in
      record {
        steps = r.steps;
        shallow = r.shallow;
        top = r.top;
        climbs = ap (λ (all : List NodeRow). climb all r.steps other) is ∙ climb_outside r.steps other never ∙ climbs;
        ends = subst (λ (all : List NodeRow). IsTop all r.top) (sym is)
            (top_outside r.steps other r.top never climbs (subst (λ (all : List NodeRow). IsTop all r.top) of r.ends));
      }

  -- what is under the node climbs to it as before
  pub climb_below : (u : Tables) → u.nodes ≡ rows → AreSound u → (j other : ℕ) → climb rows j other ≡ Some node → climb turned j other ≡ Some node
  climb_below u of sound j other is =
      climb_same rows turned (λ j other. climb rows j other ≡ Some node)
      (λ j other parent is above. rw above at is)
      (λ j other is. parent_other other
      (λ itself.
      omega (arith, depth_climb (suc j) u other node sound (ap (λ (all : List NodeRow). climb all (suc j) other) of ∙ is), ap (depth u.nodes) itself))) j other is ∙ is

-- ---- where it is put into a folder

abbrev relinking : List NodeRow → ℕ → ℕ → List ℕ → List NodeRow
relinking rows node folder name = with_node rows node (relinked folder name)

relink_keeps : (folder : ℕ) (name : List ℕ) → KeepsId (relinked folder name)
relink_keeps folder name row = refl

parent_itself : (rows : List NodeRow) (node folder : ℕ) (name : List ℕ) (old : NodeRow) → node_row rows node ≡ Some old
    → parent_of (relinking rows node folder name) node ≡ Some folder
parent_itself rows node folder name old there =
    ap (option_and_then (λ row. folder_of row.place))
    (row_itself rows node (relinked folder name) (λ row. refl) ∙ ap (option_map (relinked folder name)) there)

-- ---- a node in another folder

-- the items that are left are those without its own; the folder is present and isn't under the node, has its owner and no child of the name,
-- and what is under the node won't be too deep
pub record Fits (u : Tables) (items : List ItemRow) (node folder : ℕ) (name : List ℕ) (old : NodeRow) : Type 0 where
  pub there : node_row u.nodes node ≡ Some old
  pub no_root : is_root u.nodes node ≡ false
  pub left : ItemsLeft u (λ other. other == node) items
  pub in_folder : is_folder u.nodes folder ≡ true
  pub folder_present : LeadsToRoot u.nodes folder
  pub owner : owner_of u.nodes folder ≡ old.owner
  pub free : child_of u.nodes folder name ≡ None
  pub unmounted : IsUnmounted u folder name
  pub outside : is_under u.nodes folder node ≡ false
  pub shallow : (j below : ℕ) (row : NodeRow) → node_row u.nodes below ≡ Some row → climb u.nodes j below ≡ Some node
      → j + 1 + depth u.nodes folder ≤ MAX_DEPTH

abbrev pub relink : Tables → List ItemRow → ℕ → ℕ → List ℕ → Tables
relink u items node folder name = record u { nodes = relinking u.nodes node folder name; items = items }

module _ (u : Tables) (items : List ItemRow) (node folder : ℕ) (name : List ℕ) (old : NodeRow) (sound : AreSound u)
    (fits : Fits u items node folder name old) where
  abbrev rows_moved : List NodeRow
  rows_moved = relinking u.nodes node folder name

  abbrev moved : Tables
  moved = relink u items node folder name

  keeps : KeepsId (relinked folder name)
  keeps = relink_keeps folder name

  -- what is under the node leads to the top over the folder, and all else as before
  rooted_moved : (row : NodeRow) → node_row u.nodes row.id ≡ Some row → IsRooted moved row.id
  rooted_moved row there =
      elim (cases_Bool (is_under u.nodes row.id node)) [
        | inl under ↦
            (let c = under_climb u.nodes row.id node under in
            let top = folder_there u.nodes folder fits.in_folder in
            let up = depth u.nodes folder in
            let over = climbs_depth u folder top.0 sound top.1 in
            let apart = never_climbs u folder node sound fits.outside in
            record {
              steps = c.0 + suc up;
              shallow = omega (arith, fits.shallow c.0 row.id row there c.2);
              top = over.0;
              climbs =
                  climb_on c.0 (suc up) rows_moved row.id node (climb_below u.nodes node (relinked folder name) keeps u refl sound c.0 row.id c.2)
                  ∙ ap (option_and_then (climb rows_moved up)) (parent_itself u.nodes node folder name old fits.there)
                  ∙ climb_outside u.nodes node (relinked folder name) keeps up folder apart ∙ over.1;
              ends = top_outside u.nodes node (relinked folder name) keeps up folder over.0 apart over.1 over.2;
            })
        | inr outside ↦ outside_rooted u.nodes node (relinked folder name) keeps u moved row.id row refl refl sound there outside
      ]

  -- what is under the node is present by the folder
  pub below_leads : (other : ℕ) → is_under u.nodes other node ≡ true → LeadsToRoot rows_moved other
  below_leads other under =
      let c = under_climb u.nodes other node under in
      below_present c.0 rows_moved other node (climb_below u.nodes node (relinked folder name) keeps u refl sound c.0 other c.2)
      (inside_present rows_moved node folder (parent_itself u.nodes node folder name old fits.there)
      (outside_leads u.nodes node (relinked folder name) keeps folder (never_climbs u folder node sound fits.outside) fits.folder_present))

  -- and what was present is so
  moved_leads : (other : ℕ) → LeadsToRoot u.nodes other → LeadsToRoot rows_moved other
  moved_leads other up =
      elim (cases_Bool (is_under u.nodes other node)) [
        | inl under ↦ below_leads other under
        | inr outside ↦ outside_leads u.nodes node (relinked folder name) keeps other (never_climbs u other node sound outside) up
      ]

  folder_moved : (row : NodeRow) (parent : ℕ) → (is_folder u.nodes parent ≡ true) × (owner_of u.nodes parent ≡ row.owner)
      → IsPlaceSound moved row (Inside parent)
  folder_moved row parent h = (
    value_with (λ row. is_folder_kind row.kind) false u.nodes node (relinked folder name) keeps (λ row. refl) parent ∙ h.0,
    value_with (λ row. row.owner) 0 u.nodes node (relinked folder name) keeps (λ row. refl) parent ∙ h.1,
  )

  -- another row is where it was
  place_moved : (row : NodeRow) (place : Place) → row.place ≡ place → row.id ≢ node → node_row u.nodes row.id ≡ Some row → IsPlaceSound u row place
      → IsPlaceSound moved row place
  place_moved row Root is differs there h = h
  place_moved row (Inside parent) is differs there h = folder_moved row parent h
  place_moved row Trash is differs there h = (h.0, fits.left.there row.id row there is (ap not (ne_eqb row.id node differs)))

  node_moved : (row : NodeRow) → row.id ≢ node → node_row u.nodes row.id ≡ Some row → IsNodeSound u row → IsNodeSound moved row
  node_moved row differs there h =
      node_still u moved row row.place row.name (le_refl _) (le_refl _) (le_refl _) h (place_moved row row.place refl differs there h.place) (rooted_moved row there)

  -- so is the moved row
  itself_moved : (row : NodeRow) → node_row u.nodes node ≡ Some row → node_row u.nodes row.id ≡ Some row → IsNodeSound u row
      → IsNodeSound moved (relinked folder name row)
  itself_moved row is there h =
      let same : old.owner ≡ row.owner = ap (λ (r : NodeRow). r.owner) (same_Some old row (sym fits.there ∙ is)) in
      node_still u moved row (Inside folder) name (le_refl _) (le_refl _) (le_refl _) h
      (folder_moved (relinked folder name row) folder (fits.in_folder, fits.owner ∙ same)) (rooted_moved row there)

-- two rows are apart, where both are from the changed one
pub pair_apart : (rows : List NodeRow) (node : ℕ) (change : NodeRow → NodeRow) (a b x y : NodeRow)
    → IsEither rows node change a x → IsEither rows node change b y → a.id < b.id → AreApart a b
    → ((old : NodeRow) → AreApart a (change old)) → ((old : NodeRow) → AreApart b (change old)) → AreApart x y
pair_apart rows node change a b x y (inl e) (inl f) less apart from_a from_b =
    subst (λ (r : NodeRow). AreApart r y) (sym e) (subst (λ (r : NodeRow). AreApart a r) (sym f) apart)
pair_apart rows node change a b x y (inl e) (inr g) less apart from_a from_b =
    subst (λ (r : NodeRow). AreApart r y) (sym e) (subst (λ (r : NodeRow). AreApart a r) (sym g.1) (from_a b))
pair_apart rows node change a b x y (inr h) (inl f) less apart from_a from_b =
    subst (λ (r : NodeRow). AreApart r y) (sym h.1) (subst (λ (r : NodeRow). AreApart (change a) r) (sym f)
    (λ folder first second same. from_b a folder second first (sym same)))
pair_apart rows node change a b x y (inr h) (inr g) less apart from_a from_b =
    absurd (omega (arith, less, ap (λ (r : NodeRow). r.id) (same_Some a b (sym h.0 ∙ g.0))))

-- no root is changed where another row is
pub root_turned : (u made : Tables) (node : ℕ) (change : NodeRow → NodeRow) → KeepsId change → made.nodes ≡ with_node u.nodes node change
    → is_root u.nodes node ≡ false → (user : UserRow) → HasRoot u user → HasRoot made user
root_turned u made node change keeps of no_root user root =
    let is : is_root u.nodes user.root ≡ true =
    rw root.there (ap is_root_place root.place) in
    let differs : (user.root == node) ≡ false =
    ne_eqb user.root node (λ same. both_ways (is_root u.nodes node) no_root (subst (λ (n : ℕ). is_root u.nodes n ≡ true) same is)) in
    root_still u made user root
    (kept_row made.nodes user.root root.row
    (ap (λ (all : List NodeRow). node_row all user.root) of ∙ row_other u.nodes node change keeps user.root differs ∙ root.there))

pub no_root_row : (rows : List NodeRow) (node : ℕ) (row : NodeRow) → is_root rows node ≡ false → node_row rows node ≡ Some row → is_root_place row.place ≡ false
no_root_row rows node row no_root there = sym (ap (λ (o : Option NodeRow). option_map_or (λ row. is_root_place row.place) o false) there) ∙ no_root

-- the rows of other nodes are as they were
pub others_same : (rows : List NodeRow) (node : ℕ) (change : NodeRow → NodeRow) → KeepsId change → (other : ℕ) → not (other == node) ≡ true
    → node_row (with_node rows node change) other ≡ node_row rows other
others_same rows node change keeps other differs = row_other rows node change keeps other (not-true (other == node) differs)

-- where all rows are apart from the changed one, all are
pub names_turned : (u : Tables) (node : ℕ) (change : NodeRow → NodeRow) → AreSound u → ((old : NodeRow) → All (λ (row : NodeRow). AreApart row (change old)) u.nodes)
    → AllPairs AreApart (with_node u.nodes node change)
names_turned u node change sound apart i j d before within =
    let rows = with_node u.nodes node change in
    let few : j < length u.nodes = omega (arith, within, length_with u.nodes node change) in
    let either : (k : ℕ) (d : NodeRow) → IsEither u.nodes node change (get_or u.nodes k d) (get_or rows k d) = each_either u.nodes node change in
    pair_apart u.nodes node change (get_or u.nodes i d) (get_or u.nodes j d) (get_or rows i d) (get_or rows j d)
    (either i d) (either j d) (sound.rising i j d before few) (sound.names i j d before few)
    (λ old. apart old i d (omega (arith, before, few))) (λ old. apart old j d few)

pub relinked_sound : (u : Tables) (items : List ItemRow) (node folder : ℕ) (name : List ℕ) (old : NodeRow) → AreSound u → Fits u items node folder name old
    → AreSound (relink u items node folder name)
relinked_sound u items node folder name old sound fits =
    let made = relink u items node folder name in
    let change = relinked folder name in
    let counts = length_with u.nodes node change in
    record {
      counters = sound.counters;
      rising = rising_with u.nodes node change (λ row. refl) sound.rising;
      nodes = with_others (IsNodeSound made) (λ row. IsNodeSound u row × (node_row u.nodes row.id ≡ Some row)) u.nodes node change sound.rising
          (λ row differs h. node_moved u items node folder name old sound fits row differs h.1 h.0)
          (λ row is h. itself_moved u items node folder name old sound fits row is h.1 h.0)
          (λ k d within. (sound.nodes k d within, node_row_each u.nodes sound.rising k d within));
      names = names_turned u node change sound (λ moved. new_apart u.nodes folder (change moved) refl fits.free);
      roots = All-weaker (HasRoot u) (HasRoot made) (root_turned u made node change (λ row. refl) refl fits.no_root) u.users sound.roots;
      users_given = sound.users_given;
      members_there = sound.members_there;
      groups_given = sound.groups_given;
      few_nodes = omega (arith, counts, sound.few_nodes);
      few_pieces = omega (arith, sound.few_pieces, pieces_with u.nodes node change 0 (λ row is. omega arith));
      others = others_seen u u.meta made.nodes items sound (none_higher u.meta u.meta.last) (le_refl _)
          (seen_with u node change sound (record {
            id = λ row. refl;
            owner = λ row. refl;
            kind = λ row. refl;
            root = λ row there. sym (no_root_row u.nodes node row fits.no_root there);
            off = λ row there off. new_off u (change row) folder sound refl fits.unmounted;
          }) (moved_leads u items node folder name old sound fits))
          (items_left u made (λ other. other == node) items (le_refl _) (others_same u.nodes node change (λ row. refl)) fits.left) fits.left.rise;
    }

-- no node under one is deeper in the folder than the deepest of them
pub deep_below : (t : Tables) (node folder j below : ℕ) → AreSound t → climb t.nodes j below ≡ Some node → deepest_in t.nodes node folder ≤ MAX_DEPTH
    → j + 1 + depth t.nodes folder ≤ MAX_DEPTH
deep_below t node folder j below sound climbs deep =
    let few = climb_short j t below node sound climbs in
    let among = All-contains (λ (n : ℕ). depth t.nodes n ≤ deepest t.nodes (walk_of t.nodes node)) (walk_of t.nodes node) below
    (deepest_among t.nodes (walk_of t.nodes node)) (climbs_walk j t.nodes node below few climbs) in
    omega (arith, among, depth_climb j t below node sound climbs, deep)

-- ---- whose what is moved is

-- what doesn't cross stays its owner's
pub same_owner : (rows : List NodeRow) (transfer : Transfer) (row : NodeRow) → crosses rows transfer ≡ false → node_row rows transfer.node ≡ Some row
    → owner_of rows transfer.folder ≡ row.owner
same_owner rows transfer row within there =
    sym (eqb-true (owner_of rows transfer.node) (owner_of rows transfer.folder)
    (not_not (owner_of rows transfer.node == owner_of rows transfer.folder) within))
    ∙ ap (λ (o : Option NodeRow). option_map_or (λ row. row.owner) o 0) there
  where
    not_not : (b : Bool) → not b ≡ false → b ≡ true
    not_not true h = refl
    not_not false h = absurd (cc)
