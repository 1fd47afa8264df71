-- What is held stays as it is by each step that leaves it alone.
use Rattle.std.proofs.Common.{◌≡◌, ◌≢◌, inl, inr, ℕ, zero, ◌<◌, ◌≤◌, ◌++◌, ◌&&◌, ◌==◌, ◌-◌, bytes_eq, get_or, not, suc, ◌+◌, true, false, List, [], ◌∷◌, Option, None, Some, refl, sym, ap, subst, ◌∙◌, arith}
use Rattle.std.specs.Prelude.{find, is_some, option_and_then, option_map}
use Rattle.std.specs.List.{All}
use Rattle.std.specs.Option.{option_map_or, option_or}
use Rattle.std.proofs.lemmas.Bool.{and_parts, both_ways, false_from_ne_true, ne_eqb}
use Rattle.std.proofs.lemmas.List.Elements.{All-append, All-cons, All-filter, All-head, All-nil, All-tail}
use Rattle.std.proofs.lemmas.List.Folds.{find-append}
use Rattle.std.proofs.lemmas.Slice.Eq.{bytes_eq-Decides}
use Rattle.nf_base.specs.declared.changes.Change.{Change}
use Rattle.nf_base.specs.declared.rows.NodeRow.{NodeRow}
use Rattle.nf_base.specs.declared.rows.Place.TheVariants.{Inside, Root, Trash}
use Rattle.nf_defs.proofs.Climbs.{under_climb}
use Rattle.nf_defs.proofs.Walks.{inside_of}
use Rattle.nf_defs.specs.Prelude.{child_of, climb, filled, folder_of, is_folder_kind, is_in, is_root_place, is_under, node_row, relinked, Tables, with_node, without_under}
use Rattle.nf_defs.specs.Tree.{trashed}
use Rattle.nf_laws.proofs.Climbs.{climb_on, climb_rest, climb_same, climbs_no_further}
use Rattle.nf_laws.proofs.Copied.{copy_at}
use Rattle.nf_laws.proofs.Each.{abandons_each, behind_nodes, crossing_each, forgets_each, leaving_each, NoStore, purges_each, put_each, settled_stores}
use Rattle.nf_laws.proofs.Gone.{row_left}
use Rattle.nf_laws.proofs.InTurn.{item_outside}
use Rattle.nf_laws.proofs.Lists.{nodes_have, with_filled}
use Rattle.nf_laws.proofs.Mirrored.{mirrored}
use Rattle.nf_laws.proofs.OneRow.{KeepsId, row_other, with_all}
use Rattle.nf_laws.proofs.Present.{kept_leads, root_ends}
use Rattle.nf_laws.proofs.Replaced.{kept_replaced}
use Rattle.nf_laws.proofs.Rows.{each_fails, finds_none, folder_there, kept_joined, no_value, row_is, row_joined, stamped_has}
use Rattle.nf_laws.proofs.Upwards.{never_climbs}
use Rattle.nf_laws.specs.Locks.{IsFree, KeyStays}
use Rattle.nf_laws.specs.Transfers.{IsPlacedCopy}
use Rattle.nf_words.proofs.Fits.{KnownChange, KnownFilled}
use Rattle.nf_words.proofs.Known.{IsItem, Known, KnownDeeds, KnownSettled}
use Rattle.nf_words.proofs.Known.KnownDeeds.{by_abandoning, by_copying, by_crossing, by_going, by_joining, by_leaving, by_moving, by_requoting, by_restoring, by_sweeping}
use Rattle.nf_words.proofs.Spared.{Spares, SparesChange, SparesDeed, SparesRow, SparesUnder}
use Rattle.nf_words.proofs.Ways.{HasRow, present_row}
use Rattle.nf_words.specs.Prelude.{abandons, altered, AreSound, changed, copies_to, copies_within, deed_done, deeds_done, forgets, IsHeld, LeadsToRoot, node_of_key, purges, replaced, told}
use Rattle.nf_words.specs.declared.answer.Allowed.{Allowed}
use Rattle.nf_words.specs.declared.answer.Allowed.TheVariants as allowed
use Rattle.nf_words.specs.declared.answer.Deed.{Deed}
use Rattle.nf_words.specs.declared.answer.Deed.TheVariants as deed
use Rattle.nf_words.specs.declared.answer.Hold.{Hold}
use Rattle.nf_words.specs.declared.answer.LockKey.{LockKey}
use Rattle.nf_words.specs.declared.answer.Report.{Report}
use Rattle.nf_words.specs.declared.answer.Report.TheVariants as report
use Rattle.nf_words.specs.declared.answer.LockKey.TheVariants.{Node, Slot}
use Rattle.nf_words.specs.declared.request.Transfer.{Transfer}

-- ---- free names

-- the row isn't the folder's child of that name
abbrev pub IsNoChild : ℕ → List ℕ → NodeRow → Type 0
IsNoChild folder name row = (is_in folder row && bytes_eq row.name name) ≡ false

no_children : (rows : List NodeRow) (folder : ℕ) (name : List ℕ) → child_of rows folder name ≡ None → All (IsNoChild folder name) rows
no_children rows folder name none =
    each_fails (λ row. is_in folder row && bytes_eq row.name name) rows
    (no_value (λ row. row.id) (find (λ row. is_in folder row && bytes_eq row.name name) rows) none)

childless : (rows : List NodeRow) (folder : ℕ) (name : List ℕ) → All (IsNoChild folder name) rows → child_of rows folder name ≡ None
childless rows folder name all = ap (option_map (λ row. row.id)) (finds_none (λ row. is_in folder row && bytes_eq row.name name) rows all)

-- a row that is elsewhere, or under another name
no_child : (folder : ℕ) (name : List ℕ) (row : NodeRow) → (row.place ≡ Inside folder → row.name ≢ name) → IsNoChild folder name row
no_child folder name row other =
    false_from_ne_true (is_in folder row && bytes_eq row.name name) (λ both.
    let parts = and_parts (is_in folder row) (bytes_eq row.name name) both in
    other (inside_of folder row.place parts.0) ((bytes_eq-Decides row.name name).0 parts.1))

-- each row of tables is no child under a name that is held
abbrev Spared : LockKey → NodeRow → Type 0
Spared (Node node) row = Unit {0}
Spared (Slot folder name) row = IsNoChild folder name row

all_spared : (rows : List NodeRow) (key : LockKey) → IsFree rows key → All (Spared key) rows
all_spared rows (Node node) free = λ k d within. tt
all_spared rows (Slot folder name) free = no_children rows folder name free

free_of : (rows : List NodeRow) (key : LockKey) → All (Spared key) rows → IsFree rows key
free_of rows (Node node) all = tt
free_of rows (Slot folder name) all = childless rows folder name all

-- a row that isn't put under a name that is held
spared_row : (key : LockKey) (row : NodeRow) → ((folder : ℕ) → row.place ≡ Inside folder → key ≢ Slot folder row.name) → Spared key row
spared_row (Node node) row other = tt
spared_row (Slot folder name) row other = no_child folder name row (λ place same. other folder place (ap (Slot folder) (sym same)))

-- another content has the same place and name
spared_filled : (key : LockKey) (row old : NodeRow) → Spared key old → Spared key (filled row.content row.changed old)
spared_filled (Node node) row old h = tt
spared_filled (Slot folder name) row old h = h

-- ---- what is held is there

held_there : (t : Tables) (key : LockKey) → IsHeld t key → (row : NodeRow) × (node_row t.nodes (node_of_key key) ≡ Some row)
held_there t (Node node) held = here (node_row t.nodes node) held
  where
    here : (o : Option NodeRow) → option_map_or (λ row. not (is_folder_kind row.kind)) o false ≡ true → (row : NodeRow) × (o ≡ Some row)
    here None is = absurd (cc)
    here (Some row) is = (row, refl)
held_there t (Slot folder name) held = let h = folder_there t.nodes folder held.0 in (h.0, h.1)

pub held_given : (t : Tables) (key : LockKey) → AreSound t → IsHeld t key → node_of_key key < t.meta.next_node
held_given t key sound held =
    let row = held_there t key held in
    let is = row_is t (node_of_key key) row.0 sound row.1 in
    omega (arith, is.0, is.1.given)

-- what stays is held on
pub held_on : (t u : Tables) (key : LockKey) → KeyStays t u key → IsHeld t key → IsHeld u key
held_on t u (Node node) stays held = ap (λ (o : Option NodeRow). option_map_or (λ row. not (is_folder_kind row.kind)) o false) stays.row ∙ held
held_on t u (Slot folder name) stays held =
    (ap (λ (o : Option NodeRow). option_map_or (λ row. is_folder_kind row.kind) o false) stays.row ∙ held.0, stays.free)

held_free : (t : Tables) (key : LockKey) → IsHeld t key → IsFree t.nodes key
held_free t (Node node) held = tt
held_free t (Slot folder name) held = held.1

pub stays_there : (t : Tables) (key : LockKey) → IsHeld t key → KeyStays t t key
stays_there t key held = record { row = refl; free = held_free t key held }

-- ---- what comes back

-- it is an item
module _ (t : Tables) (now : ℕ) where
  abbrev IsBack : Deed → Type 0
  IsBack (deed.Restore node folder name) = IsItem t node
  IsBack other = Unit {0}

  known_back : (deeds : List Deed) → KnownDeeds t now deeds → All IsBack deeds
  known_back _ (by_going nodes goes) = purges_each t now IsBack (λ node. tt) (λ item. tt) nodes
  known_back _ (by_leaving row known) = leaving_each t now IsBack (λ node. tt) (λ item. tt) row
  known_back _ (by_restoring node folder name gone known goes others) =
      All-cons IsBack (deed.Restore node folder name) (purges gone) (ap is_some known.there) (purges_each t now IsBack (λ node. tt) (λ item. tt) gone)
  known_back _ (by_requoting row gone known goes) =
      All-cons IsBack (deed.Requote row) (purges gone) tt (purges_each t now IsBack (λ node. tt) (λ item. tt) gone)
  known_back _ (by_moving transfer name known) =
      put_each t now IsBack (λ node. tt) (λ item. tt) transfer.replaced (deed.Relink transfer.node transfer.folder name) tt
  known_back _ (by_copying transfer name known) =
      put_each t now IsBack (λ node. tt) (λ item. tt) transfer.replaced (deed.Join (copies_to t now transfer name)) tt
  known_back _ (by_crossing transfer name known) = crossing_each t now IsBack (λ node. tt) (λ item. tt) transfer name tt
  known_back _ (by_joining changes user dir known there) =
      All-cons IsBack (deed.Store changes) (deed.Abandon user dir ∷ []) tt (All-cons IsBack (deed.Abandon user dir) [] tt (All-nil IsBack))
  known_back _ (by_abandoning user dir there) = All-cons IsBack (deed.Abandon user dir) [] tt (All-nil IsBack)
  known_back _ (by_sweeping nodes rows goes idle) =
      All-append IsBack (purges nodes) (abandons rows) (purges_each t now IsBack (λ node. tt) (λ item. tt) nodes)
      (abandons_each IsBack (λ user dir. tt) rows)

-- ---- what is held stays

module _ (t : Tables) (hold : Hold) (sound : AreSound t) (held : IsHeld t hold.key) where
  abbrev key : LockKey
  key = hold.key

  abbrev node : ℕ
  node = node_of_key hold.key

  -- it does in a table of nodes where its row is the same, and each row is spared
  abbrev Stays : List NodeRow → Type 0
  Stays rows = (node_row rows node ≡ node_row t.nodes node) × All (Spared key) rows

  first : Stays t.nodes
  first = (refl, all_spared t.nodes key (held_free t key held))

  given : node < t.meta.next_node
  given = held_given t key sound held

  -- with a new node, which isn't put under a name that is held
  new_stays : (rows : List NodeRow) (row : NodeRow) → Stays rows → t.meta.next_node ≤ row.id
      → ((folder : ℕ) → row.place ≡ Inside folder → key ≢ Slot folder row.name) → Stays (rows ++ row ∷ [])
  new_stays rows row stays fresh slot = (
    row_joined rows (row ∷ []) node
        (All-cons (λ (row : NodeRow). row.id ≢ node) row [] (λ same. absurd (omega (arith, fresh, given, same)))
        (All-nil (λ (row : NodeRow). row.id ≢ node)))
        ∙ stays.0,
    All-append (Spared key) rows (row ∷ []) stays.1
        (All-cons (Spared key) row [] (spared_row key row slot) (All-nil (Spared key))),
  )

  -- a file that gets another content isn't what is held
  not_filled : (u : Tables) (blob : Option ℕ) (row : NodeRow) → Stays u.nodes → KnownFilled t blob u row → SparesRow t key row → node ≢ row.id
  not_filled u blob row stays it spares = here key held refl
    where
      here : (k : LockKey) → IsHeld t k → key ≡ k → node_of_key key ≢ row.id
      here (Node n) at is = λ same. spares.node it.given (is ∙ ap Node (sym (ap node_of_key is) ∙ same))
      here (Slot folder name) at is = λ same.
          let folds = ap (λ (o : Option NodeRow). option_map_or (λ row. is_folder_kind row.kind) o false)
          (sym it.filled.there ∙ ap (node_row u.nodes) (sym same) ∙ stays.0 ∙ ap (λ (k : LockKey). node_row t.nodes (node_of_key k)) is) in
          both_ways (is_folder_kind it.filled.old.kind) it.filled.file (folds ∙ at.0)

  filled_stays : (u : Tables) (blob : Option ℕ) (row : NodeRow) → Stays u.nodes → KnownFilled t blob u row → SparesRow t key row
      → Stays (with_filled u row).nodes
  filled_stays u blob row stays it spares = (
    row_other u.nodes row.id (filled row.content row.changed) (λ r. refl) node (ne_eqb node row.id (not_filled u blob row stays it spares)) ∙ stays.0,
    with_all (Spared key) u.nodes row.id (filled row.content row.changed) (λ old. spared_filled key row old) stays.1,
  )

  -- no copy is put under a name that is held
  copies_spared : (now : ℕ) (transfer : Transfer) (name : List ℕ) → key ≢ Slot transfer.folder name
      → All (Spared key) (copies_to t now transfer name)
  unfolding copies_within
  copies_spared now transfer name other = here (node_row t.nodes transfer.node) refl
    where
      rows : List NodeRow
      rows = copies_to t now transfer name

      inside : (a b : ℕ) → Inside a ≡ Inside b → a ≡ b
      inside a b same = cc

      one : (j : ℕ) (of copy : NodeRow) → IsPlacedCopy t transfer name j of copy → Spared key copy
      one zero of copy placed =
          spared_row key copy (λ folder place same.
          other (same ∙ ap (λ (n : ℕ). Slot n copy.name) (inside folder transfer.folder (sym place ∙ placed.0)) ∙ ap (Slot transfer.folder) placed.1))
      one (suc j) of copy placed =
          spared_row key copy (λ folder place same.
          absurd (omega (arith, given, ap node_of_key same, inside folder (t.meta.next_node + placed.1.1) (sym place ∙ placed.1.5))))

      here : (o : Option NodeRow) → node_row t.nodes transfer.node ≡ o → All (Spared key) rows
      here None e = rw e (All-nil (Spared key))
      here (Some row) e =
          let mirrors = mirrored t now transfer name sound (row, e) in
          λ k d within. let copy = copy_at t now transfer name rows mirrors k d within in one k copy.of (get_or rows k d) copy.placed

  -- ---- what is held and present

  module _ (up : LeadsToRoot t.nodes node) where
    -- each node that it climbs to is there
    above_there : (j other : ℕ) → climb t.nodes j node ≡ Some other → HasRow t.nodes other
    above_there j other climbs =
        let few = climbs_no_further up.steps j t.nodes node up.top other (root_ends t.nodes up.top up.root) up.climbs climbs in
        present_row t.nodes other (record {
          steps = up.steps - j;
          top = up.top;
          climbs = climb_rest j (up.steps - j) up.steps t.nodes node other up.top (omega (arith, few)) climbs up.climbs;
          root = up.root;
        })

    -- it stands where each of these has its row as before, and each row is spared
    abbrev Stands : List NodeRow → Type 0
    Stands rows = ((j other : ℕ) → climb t.nodes j node ≡ Some other → node_row rows other ≡ node_row t.nodes other) × All (Spared key) rows

    first_stands : Stands t.nodes
    first_stands = (λ j other climbs. refl, first.1)

    -- then it climbs as before, and so does each of these
    climbs_so : (rows : List NodeRow) → Stands rows → (k j other : ℕ) → climb t.nodes j node ≡ Some other → climb rows k other ≡ climb t.nodes k other
    climbs_so rows stands k j other climbs =
        climb_same t.nodes rows (λ k other. (j : ℕ) × (climb t.nodes j node ≡ Some other))
        (λ k other parent at above. (at.0 + 1, climb_on at.0 1 t.nodes node other at.1 ∙ ap (option_and_then (climb t.nodes 0)) above))
        (λ k other at. ap (option_and_then (λ row. folder_of row.place)) (stands.0 at.0 other at.1)) k other (j, climbs)

    -- so it stays, and is present
    stands_stays : (rows : List NodeRow) → Stands rows → Stays rows
    stands_stays rows stands = (stands.0 0 node refl, stands.1)

    stands_leads : (rows : List NodeRow) → Stands rows → LeadsToRoot rows node
    stands_leads rows stands = record {
      steps = up.steps;
      top = up.top;
      climbs = climbs_so rows stands up.steps 0 node refl ∙ up.climbs;
      root = ap (λ (o : Option NodeRow). option_map_or (λ row. is_root_place row.place) o false) (stands.0 up.steps up.top up.climbs) ∙ up.root;
    }

    -- with another row of a node that it isn't under
    turned_stands : (rows : List NodeRow) (top : ℕ) (change : NodeRow → NodeRow) → KeepsId change
        → ((old : NodeRow) → Spared key old → Spared key (change old)) → SparesUnder t key top → Stands rows → Stands (with_node rows top change)
    turned_stands rows top change keeps spared outside stands = (
      λ j other climbs.
          row_other rows top change keeps other (ne_eqb other top (λ same. never_climbs t node top sound outside j (climbs ∙ ap Some same)))
          ∙ stands.0 j other climbs,
      with_all (Spared key) rows top change spared stands.1,
    )

    -- in another folder, where that isn't under a name that is held
    relinked_stands : (rows : List NodeRow) (top folder : ℕ) (name : List ℕ) → SparesUnder t key top → key ≢ Slot folder name → Stands rows
        → Stands (with_node rows top (relinked folder name))
    relinked_stands rows top folder name outside other =
        turned_stands rows top (relinked folder name) (λ r. refl)
        (λ old h. spared_row key (relinked folder name old) (λ at place same. other (same ∙ ap (λ (n : ℕ). Slot n name) (sym (inside folder at place)))))
        outside
      where
        inside : (a b : ℕ) → Inside a ≡ Inside b → a ≡ b
        inside a b same = cc

    -- without those under one that it isn't under
    left_stands : (rows : List NodeRow) (top : ℕ) → SparesUnder t key top → Stands rows → Stands (without_under rows top)
    left_stands rows top outside stands = (
      λ j other climbs.
          row_left rows top other (false_from_ne_true (is_under rows other top) (λ under.
          let c = under_climb rows other top under in
          never_climbs t node top sound outside (j + c.0)
          (climb_on j c.0 t.nodes node other climbs ∙ sym (climbs_so rows stands c.0 j other climbs) ∙ c.2)))
          ∙ stands.0 j other climbs,
      All-filter (λ row. not (is_under rows row.id top)) (Spared key) rows stands.1,
    )

    -- with more rows, which are spared
    joined_stands : (rows more : List NodeRow) → All (Spared key) more → Stands rows → Stands (rows ++ more)
    joined_stands rows more spared stands = (
      λ j other climbs.
          let row = above_there j other climbs in
          find-append (λ (one : NodeRow). one.id == other) rows more
          ∙ ap (λ (o : Option NodeRow). option_or o (node_row more other)) (stands.0 j other climbs ∙ row.1) ∙ sym row.1,
      All-append (Spared key) rows more stands.1 spared,
    )

    -- ---- a step's deeds

    -- what is put in the trash or comes back, goes or is moved isn't over what is held, and nothing is put under a name that is held
    abbrev IsApart : Deed → Type 0
    IsApart (deed.Discard item) = SparesUnder t key item.node
    IsApart (deed.Purge top) = SparesUnder t key top
    IsApart (deed.Restore top folder name) = SparesUnder t key top × key ≢ Slot folder name
    IsApart (deed.Relink top folder name) = SparesUnder t key top × key ≢ Slot folder name
    IsApart (deed.Join rows) = All (Spared key) rows
    IsApart (deed.Requote row) = Unit {0}
    IsApart (deed.Forget other at) = Unit {0}
    IsApart (deed.Store changes) = ⊥
    IsApart (deed.Abandon user dir) = Unit {0}

    deed_apart : (now : ℕ) (one : Deed) → NoStore one → IsBack t now one → SparesDeed t now key one → IsApart one
    deed_apart now (deed.Discard item) none back spares = spares
    deed_apart now (deed.Purge top) none back (inl item) = item_outside t top node sound item up
    deed_apart now (deed.Purge top) none back (inr outside) = outside
    deed_apart now (deed.Restore top folder name) none item other = (item_outside t top node sound item up, other)
    deed_apart now (deed.Relink top folder name) none back spares = spares
    deed_apart now (deed.Join rows) none back (transfer, name, are, other) = subst (All (Spared key)) (sym are) (copies_spared now transfer name other)
    deed_apart now (deed.Requote row) none back spares = tt
    deed_apart now (deed.Forget other at) none back spares = tt
    deed_apart now (deed.Store changes) none back spares = absurd none
    deed_apart now (deed.Abandon user dir) none back spares = tt

    deed_stands : (u : Tables) (one : Deed) → IsApart one → Stands u.nodes → Stands (deed_done u one).nodes
    deed_stands u (deed.Discard item) outside stands =
        turned_stands u.nodes item.node trashed (λ r. refl)
        (λ old h. spared_row key (trashed old) (λ folder place same. absurd (nowhere folder place))) outside stands
      where
        nowhere : (folder : ℕ) → Trash ≢ Inside folder
        nowhere folder = λ same. cc
    deed_stands u (deed.Purge top) outside stands = left_stands u.nodes top outside stands
    deed_stands u (deed.Restore top folder name) apart stands = relinked_stands u.nodes top folder name apart.0 apart.1 stands
    deed_stands u (deed.Relink top folder name) apart stands = relinked_stands u.nodes top folder name apart.0 apart.1 stands
    deed_stands u (deed.Join rows) spared stands = joined_stands u.nodes rows spared stands
    deed_stands u (deed.Requote row) apart stands = stands
    deed_stands u (deed.Forget other at) apart stands = stands
    deed_stands u (deed.Store changes) apart stands = absurd apart
    deed_stands u (deed.Abandon user dir) apart stands = stands

    deeds_stand : (u : Tables) (deeds : List Deed) → All IsApart deeds → Stands u.nodes → Stands (deeds_done u deeds).nodes
    deeds_stand u [] apart stands = stands
    deeds_stand u (one ∷ deeds) apart stands =
        deeds_stand (deed_done u one) deeds (All-tail IsApart one deeds apart) (deed_stands u one (All-head IsApart one deeds apart) stands)

    step_stands : (now : ℕ) (deeds : List Deed) → KnownSettled t now deeds → All NoStore deeds → All (SparesDeed t now key) deeds
        → Stands (deeds_done t deeds).nodes
    step_stands now deeds known none spares =
        deeds_stand t deeds (λ k d within. deed_apart now (get_or deeds k d) (none k d within) (back deeds known k d within) (spares k d within)) first_stands
      where
        back : (deeds : List Deed) → KnownSettled t now deeds → All (IsBack t now) deeds
        back deeds known =
            subst (All (IsBack t now)) (sym known.are)
            (All-append (IsBack t now) known.first (forgets known.gone) (known_back t now known.first known.known)
            (forgets_each (IsBack t now) (λ other at. tt) known.gone))

  -- what the nodes have after changes or deeds that leave alone what is held
  deeds_leave : (P : List NodeRow → Type 0) (now : ℕ) (deeds : List Deed) → KnownSettled t now deeds → All (SparesDeed t now key) deeds
      → (All NoStore deeds → P (deeds_done t deeds).nodes)
      → ((changes : List Change) → KnownChange t now changes None → All (SparesChange t key) changes → P (replaced t changes).nodes)
      → P (deeds_done t deeds).nodes
  deeds_leave P now deeds known spares none stores =
      elim (settled_stores t now deeds known) [
        | inl without ↦ none without
        | inr first ↦
            (let spared = All-head (SparesDeed t now key) (deed.Store first.changes) first.more (subst (All (SparesDeed t now key)) first.are spares) in
            subst (λ (deeds : List Deed). P (deeds_done t deeds).nodes) (sym first.are)
            (subst P (sym (behind_nodes (replaced t first.changes) first.more first.behind)) (stores first.changes first.known spared)))
      ]

  -- ---- every act

  changes_stay : (now : ℕ) (changes : List Change) (blob : Option ℕ) (told : Report) → KnownChange t now changes blob → All (SparesChange t key) changes
      → Stays (altered t now (allowed.Change changes blob told)).nodes
  changes_stay now changes blob told known spares =
      nodes_have Stays (SparesChange t key) t now changes blob told sound.rising known spares
      (λ u row stays it is. new_stays u.nodes row stays it.fresh (is.slot it.fresh)) (λ u row stays it is. filled_stays u blob row stays it is)
      (λ u row root stays it. new_stays u.nodes root stays it.2 (λ folder inside. absurd (no_folder folder (sym it.1.place ∙ inside)))) first
    where
      no_folder : (folder : ℕ) → Root ≢ Inside folder
      no_folder folder = λ same. cc

  altered_stays : (now : ℕ) (act : Allowed) → Known t now act → Spares t now hold act → LeadsToRoot t.nodes node → Stays (altered t now act).nodes
  altered_stays now (allowed.Change changes blob told) known spares up = changes_stay now changes blob told known spares
  altered_stays now (allowed.Deeds deeds told) known spares up =
      deeds_leave Stays now deeds known spares (λ none. stands_stays up (deeds_done t deeds).nodes (step_stands up now deeds known none spares))
      (λ changes stored spared. changes_stay now changes None report.Done stored spared)
  altered_stays now act known spares up = first

  -- so it does by an act that leaves it alone
  pub act_stays : (now : ℕ) (act : Allowed) → t.meta.last ≤ now → Known t now act → Spares t now hold act → LeadsToRoot t.nodes node
      → KeyStays t (changed t now act) key
  act_stays now act later known spares up =
      let stays = stamped_has (λ (u : Tables). Stays u.nodes) t (altered t now act) now (told t act) first (altered_stays now act known spares up) in
      record { row = stays.0; free = free_of (changed t now act).nodes key stays.1 }

  -- ---- what is held and present stays present

  changes_lead : (now : ℕ) (changes : List Change) (blob : Option ℕ) (told : Report) → KnownChange t now changes blob → LeadsToRoot t.nodes node
      → LeadsToRoot (altered t now (allowed.Change changes blob told)).nodes node
  changes_lead now changes blob told known up =
      nodes_have (λ (rows : List NodeRow). LeadsToRoot rows node) (λ change. Unit {0}) t now changes blob told sound.rising known (λ k d within. tt)
      (λ u row h it is. kept_leads u.nodes (u.nodes ++ row ∷ []) node (kept_joined u.nodes (row ∷ [])) h)
      (λ u row h it is. kept_leads u.nodes (with_filled u row).nodes node (kept_replaced u.nodes row.changed row.id row.content) h)
      (λ u row root h it. kept_leads u.nodes (u.nodes ++ root ∷ []) node (kept_joined u.nodes (root ∷ [])) h) up

  altered_leads : (now : ℕ) (act : Allowed) → Known t now act → Spares t now hold act → LeadsToRoot t.nodes node
      → LeadsToRoot (altered t now act).nodes node
  altered_leads now (allowed.Change changes blob told) known spares up = changes_lead now changes blob told known up
  altered_leads now (allowed.Deeds deeds told) known spares up =
      deeds_leave (λ (rows : List NodeRow). LeadsToRoot rows node) now deeds known spares
      (λ none. stands_leads up (deeds_done t deeds).nodes (step_stands up now deeds known none spares))
      (λ changes stored spared. changes_lead now changes None report.Done stored up)
  altered_leads now act known spares up = up

  pub act_leads : (now : ℕ) (act : Allowed) → t.meta.last ≤ now → Known t now act → Spares t now hold act → LeadsToRoot t.nodes node
      → LeadsToRoot (changed t now act).nodes node
  act_leads now act later known spares up =
      stamped_has (λ (u : Tables). LeadsToRoot u.nodes node) t (altered t now act) now (told t act) up (altered_leads now act known spares up)
