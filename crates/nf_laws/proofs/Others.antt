-- What rows of shares and mounts keep where the nodes are others, and where shares end; and items of the trash.
use Rattle.std.proofs.Common.{inl, inr, ℕ, ◌==◌, ◌&&◌, ◌≡◌, ◌≢◌, ◌<◌, ◌≤◌, Bool, true, false, not, List, [], ◌∷◌, ◌++◌, Option, None, Some, bytes_eq, get_or, if◌then◌else◌, length, map, option_map, refl, sym, ap, subst, ◌∙◌, arith, le_refl}
use Rattle.std.specs.Prelude.{is_some}
use Rattle.std.specs.List.{All, AllPairs, list_any}
use Rattle.std.specs.Option.{option_map_or}
use Rattle.std.proofs.lemmas.Bool.{and_from, and_parts, both_ways, cases_Bool, eq-eqb, eqb-true, false_from_ne_true, ne_eqb, not-true, not_from_false}
use Rattle.std.proofs.lemmas.List.{get_or-map, length-map}
use Rattle.std.proofs.lemmas.List.Elements.{All-cons, All-filter, All-map, All-nil, All-push, All-weaker, filter_passes}
use Rattle.std.proofs.lemmas.Slice.Eq.{bytes_eq-Decides}
use Rattle.std.proofs.lemmas.Option.{none-some}
use Rattle.nf_access.specs.Mounts.{is_shown_to, mount_at, root_folder}
use Rattle.nf_access.specs.Shares.{chain_within, perms_of_share, share_row}
use Rattle.nf_base.specs.declared.limits.TheConstants.{MAX_CHAIN, MAX_MOUNTS, MAX_SHARES, MAX_VERSIONS}
use Rattle.nf_base.specs.declared.rows.GroupRow.{GroupRow}
use Rattle.nf_base.specs.declared.rows.ItemRow.{ItemRow}
use Rattle.nf_base.specs.declared.rows.MetaRow.{MetaRow}
use Rattle.nf_base.specs.declared.rows.MountRow.{MountRow}
use Rattle.nf_base.specs.declared.rows.NodeKind.{NodeKind}
use Rattle.nf_base.specs.declared.rows.NodeRow.{NodeRow}
use Rattle.nf_base.specs.declared.rows.Place.TheVariants.{Inside, Trash}
use Rattle.nf_base.specs.declared.rows.ShareKind.{ShareKind}
use Rattle.nf_base.specs.declared.rows.ShareKind.TheVariants as to
use Rattle.nf_base.specs.declared.rows.ShareRow.{ShareRow}
use Rattle.nf_base.specs.declared.rows.UserRow.{UserRow}
use Rattle.nf_base.specs.declared.rows.VersionRow.{VersionRow}
use Rattle.nf_defs.proofs.Puts.{dropped_rising}
use Rattle.nf_defs.specs.Prelude.{child_of, dropped, is_in, is_place_in, is_root, is_root_place, IsRising, item_key, item_row, key_cmp, mount_key, node_row, owner_of, share_key, Tables, user_row, version_key, with_node, is_file}
use Rattle.nf_laws.proofs.Chained.{AreLinked, still_chained}
use Rattle.nf_laws.proofs.Climbs.{map_some, row_of_those, some_there, those}
use Rattle.nf_laws.proofs.Files.{all_files, AreFiles, files_kept, files_with, versions_still}
use Rattle.nf_laws.proofs.OneRow.{KeepsId, row_with, with_each}
use Rattle.nf_laws.proofs.Present.{kept_leads}
use Rattle.nf_laws.proofs.Rows.{AreKept, counters_up, each_fails, finds_none, found_is, Kept, kept_joined, kept_row, no_value, node_kept, none_higher, root_kept, row_is, row_joined, stamp, with_nodes}
use Rattle.nf_laws.proofs.Uploads.{AreUploadsSound, uploads_kept, uploads_still}
use Rattle.nf_laws.specs.Numbers.{AreHigher}
use Rattle.nf_words.specs.Others.{AreMountsApart, AreOthersSound, IsItemSound, IsKindSound, IsMountSound, IsOfNode, IsShareSound, IsVersionSound}
use Rattle.nf_words.specs.Prelude.{AreSound, ended_row, HasRoot, IsBorn, IsNodeSound, IsPlaceSound, IsUnmounted, LeadsToRoot, versions_there}

-- ---- all rules

pub others_from : (t : Tables) → AreUploadsSound t → All (IsShareSound t) t.shares → IsRising share_key t.shares → length t.shares ≤ MAX_SHARES
    → All (IsMountSound t) t.mounts → IsRising mount_key t.mounts → AllPairs AreMountsApart t.mounts → length t.mounts ≤ MAX_MOUNTS
    → All (IsVersionSound t) t.versions → IsRising version_key t.versions → length t.versions ≤ MAX_VERSIONS
    → All (IsItemSound t) t.items → IsRising item_key t.items → AreOthersSound t
others_from t uploads shares shares_rise few_shares mounts mounts_rise mounts_apart few_mounts versions versions_rise few_versions items items_rise = record {
  shares = shares;
  shares_rise = shares_rise;
  few_shares = few_shares;
  mounts = mounts;
  mounts_rise = mounts_rise;
  mounts_apart = mounts_apart;
  few_mounts = few_mounts;
  versions = versions;
  versions_rise = versions_rise;
  few_versions = few_versions;
  items = items;
  items_rise = items_rise;
  uploads = uploads.uploads;
  uploads_rise = uploads.uploads_rise;
  few_uploads = uploads.few_uploads;
  chunks = uploads.chunks;
  chunks_rise = uploads.chunks_rise;
  few_pending = uploads.few_pending;
}

-- ---- the trash

-- what is in the trash and in no folder keeps its owner, place, name and kind
abbrev pub IsTrashKept : List NodeRow → List NodeRow → Type 0
IsTrashKept rows others = (node : ℕ) (old : NodeRow) → node_row rows node ≡ Some old → old.place ≡ Trash → Kept others node old

pub trash_kept : (rows others : List NodeRow) → AreKept rows others → IsTrashKept rows others
trash_kept rows others kept node old there place = kept node old there

-- so the items of the trash stay sound
pub items_still : (t made : Tables) → t.meta.last ≤ made.meta.last → IsTrashKept t.nodes made.nodes → All (IsItemSound t) t.items
    → All (IsItemSound made) t.items
items_still t made later kept =
    All-weaker (IsItemSound t) (IsItemSound made) (λ item is.
    let k = kept item.node is.of is.there is.place in
    record {
      at = omega (arith, is.at, later);
      of = k.row;
      there = k.there;
      owner = k.owner ∙ is.owner;
      place = k.place ∙ is.place;
    }) t.items

-- what is in the trash and in no folder has an item
pub item_of : (t : Tables) (node : ℕ) (row : NodeRow) → AreSound t → node_row t.nodes node ≡ Some row → row.place ≡ Trash
    → is_some (item_row t.items node) ≡ true
item_of t node row sound there place =
    let is = row_is t node row sound there in
    ap (λ (n : ℕ). is_some (item_row t.items n)) (sym is.0) ∙ (subst (IsPlaceSound t row) place is.1.place).1

-- items that are left where some nodes leave the trash: none of them is of such a node, and all else in the trash has its own
pub record ItemsLeft (t : Tables) (gone : ℕ → Bool) (items : List ItemRow) : Type 0 where
  pub fine : All (λ (item : ItemRow). IsItemSound t item × (not (gone item.node) ≡ true)) items
  pub rise : IsRising item_key items
  pub there : (node : ℕ) (row : NodeRow) → node_row t.nodes node ≡ Some row → row.place ≡ Trash → not (gone node) ≡ true
      → is_some (item_row items node) ≡ true

-- they stay sound where the rows of all other nodes are as they were
pub items_left : (t made : Tables) (gone : ℕ → Bool) (items : List ItemRow) → t.meta.last ≤ made.meta.last
    → ((node : ℕ) → not (gone node) ≡ true → node_row made.nodes node ≡ node_row t.nodes node) → ItemsLeft t gone items → All (IsItemSound made) items
items_left t made gone items later same left =
    All-weaker (λ (item : ItemRow). IsItemSound t item × (not (gone item.node) ≡ true)) (IsItemSound made) (λ item is.
    record {
      at = omega (arith, is.0.at, later);
      of = is.0.of;
      there = same item.node is.1 ∙ is.0.there;
      owner = is.0.owner;
      place = is.0.place;
    }) items left.fine

-- all are left where none leaves the trash
pub items_all : (t : Tables) (gone : ℕ → Bool) → AreSound t
    → ((node : ℕ) (row : NodeRow) → node_row t.nodes node ≡ Some row → row.place ≡ Trash → not (gone node) ≡ true) → ItemsLeft t gone t.items
items_all t gone sound stays = record {
  fine = λ k d within.
      let is = sound.others.items k d within in (is, stays (get_or t.items k d).node is.of is.there is.place);
  rise = sound.others.items_rise;
  there = λ node row there place passes. item_of t node row sound there place;
}

-- the item of another node is left where one is dropped
pub item_other : (node other : ℕ) (items : List ItemRow) → other ≢ node
    → item_row (dropped item_key (node ∷ []) items) other ≡ item_row items other
item_other node other [] differs = refl
item_other node other (item ∷ items) differs =
    elim (cases_Bool (bytes_eq (node ∷ []) (item_key item))) [
      | inl e ↦
          (let same : node ∷ [] ≡ item.node ∷ [] = (bytes_eq-Decides (node ∷ []) (item_key item)).0 e in
          let of : item.node ≡ node = first (sym same) in
          simp (e, ne_eqb item.node other (λ is. differs (sym is ∙ of))) (item_other node other items differs))
      | inr e ↦ simp e (ap (λ (o : Option ItemRow). if item.node == other then Some item else o) (item_other node other items differs))
    ]
  where
    first : {a b : ℕ} → a ∷ [] ≡ b ∷ [] → a ≡ b
    first same = cc

-- that of the node itself isn't
pub item_gone : (node : ℕ) (items : List ItemRow) → item_row (dropped item_key (node ∷ []) items) node ≡ None
item_gone node items =
    finds_none (λ item. item.node == node) (dropped item_key (node ∷ []) items) (λ k d within.
    let item = get_or (dropped item_key (node ∷ []) items) k d in
    ne_eqb item.node node (λ same.
    both_ways (bytes_eq (node ∷ []) (item_key item))
    (not-true (bytes_eq (node ∷ []) (item_key item)) (filter_passes (λ item. not (bytes_eq (node ∷ []) (item_key item))) items k d within))
    ((bytes_eq-Decides (node ∷ []) (item_key item)).1 (ap (λ (n : ℕ). n ∷ []) (sym same)))))

-- where there is none all stay
pub item_none : (node : ℕ) (items : List ItemRow) → item_row items node ≡ None → dropped item_key (node ∷ []) items ≡ items
item_none node [] none = refl
item_none node (item ∷ items) none =
    elim (cases_Bool (item.node == node)) [
      | inl e ↦ absurd (none-some item (sym none ∙ simp e refl))
      | inr e ↦
          (let off : bytes_eq (node ∷ []) (item_key item) ≡ false =
          false_from_ne_true (bytes_eq (node ∷ []) (item_key item)) (λ same.
          both_ways (item.node == node) e (eq-eqb item.node node (first (sym ((bytes_eq-Decides (node ∷ []) (item_key item)).0 same))))) in
          simp off (ap (λ (left : List ItemRow). item ∷ left) (item_none node items (simp e at none))))
    ]
  where
    first : {a b : ℕ} → a ∷ [] ≡ b ∷ [] → a ≡ b
    first same = cc

-- and all but that of the only one that leaves the trash are left
pub items_dropped : (t : Tables) (gone : ℕ → Bool) (node : ℕ) → AreSound t → gone node ≡ true
    → ((other : ℕ) (row : NodeRow) → node_row t.nodes other ≡ Some row → row.place ≡ Trash → other ≢ node → not (gone other) ≡ true)
    → ItemsLeft t gone (dropped item_key (node ∷ []) t.items)
items_dropped t gone node sound goes stays = record {
  fine = λ k d within.
      let item = get_or (dropped item_key (node ∷ []) t.items) k d in
      let is = All-filter passes (IsItemSound t) t.items sound.others.items k d within in
      let off = filter_passes passes t.items k d within in (
        is,
        stays item.node is.of is.there is.place (λ same.
            both_ways (bytes_eq (node ∷ []) (item_key item)) (not-true (bytes_eq (node ∷ []) (item_key item)) off)
            ((bytes_eq-Decides (node ∷ []) (item_key item)).1 (ap (λ (n : ℕ). n ∷ []) (sym same)))),
      );
  rise = dropped_rising item_key (node ∷ []) t.items sound.others.items_rise;
  there = λ other row there place left.
      ap is_some (item_other node other t.items (λ same.
      both_ways (gone node) (not-true (gone node) (subst (λ (n : ℕ). not (gone n) ≡ true) same left)) goes))
      ∙ item_of t other row sound there place;
}
  where
    passes : ItemRow → Bool
    passes item = not (bytes_eq (node ∷ []) (item_key item))

-- ---- names of mounts

-- the row is no child, in the root of a user, with the name of a mount that the user has there
abbrev pub IsOff : Tables → NodeRow → Type 0
IsOff t row =
    All (λ (mount : MountRow). mount.left ≡ false → (is_in (root_folder t.users mount.user) row && bytes_eq row.name mount.name) ≡ false) t.mounts

pub all_off : (t : Tables) → AreSound t → All (IsOff t) t.nodes
all_off t sound k d within i e among shown =
    let mount = get_or t.mounts i e in
    each_fails (λ row. is_in (root_folder t.users mount.user) row && bytes_eq row.name mount.name) t.nodes
    (no_value (λ row. row.id) _ ((sound.others.mounts i e among).free shown)) k d within

free_off : (t : Tables) (nodes : List NodeRow) → All (IsOff t) nodes
    → All (λ (mount : MountRow). mount.left ≡ false → child_of nodes (root_folder t.users mount.user) mount.name ≡ None) t.mounts
free_off t nodes off i e among shown =
    let mount = get_or t.mounts i e in
    ap (option_map (λ (row : NodeRow). row.id))
    (finds_none (λ row. is_in (root_folder t.users mount.user) row && bytes_eq row.name mount.name) nodes (λ k d within. off k d within i e among shown))

-- the root of a user who is there
pub record IsRootRow (t : Tables) (user : ℕ) : Type 0 where
  pub row : NodeRow
  pub there : node_row t.nodes (root_folder t.users user) ≡ Some row
  pub rooted : is_root_place row.place ≡ true
  pub owner : row.owner ≡ user

pub root_row : (t : Tables) (user : ℕ) → AreSound t → is_some (user_row t.users user) ≡ true → IsRootRow t user
root_row t user sound is =
    let of = some_there (user_row t.users user) is in
    let found = found_is (HasRoot t) (λ (row : UserRow). row.id == user) t.users of.0 sound.roots of.1 in
    let root = found.1 in
    record {
      row = root.row;
      there = ap (λ (o : Option UserRow). node_row t.nodes (option_map_or (λ row. row.root) o 0)) of.1 ∙ root.there;
      rooted = ap is_root_place root.place;
      owner = root.owner ∙ eqb-true of.0.id user found.0;
    }

-- what is put under a name that is no mount's is no child of that name
pub new_off : (t : Tables) (row : NodeRow) (folder : ℕ) → AreSound t → row.place ≡ Inside folder → IsUnmounted t folder row.name → IsOff t row
new_off t row folder sound inside unmounted i e among shown =
    false_from_ne_true (is_in root row && bytes_eq row.name mount.name) (λ both.
    let parts = and_parts (is_in root row) (bytes_eq row.name mount.name) both in
    let at : folder ≡ root = eqb-true folder root (ap (is_place_in root) (sym inside) ∙ parts.0) in
    let named : row.name ≡ mount.name = (bytes_eq-Decides row.name mount.name).0 parts.1 in
    let of = root_row t mount.user sound (sound.others.mounts i e among).user in
    let there : node_row t.nodes folder ≡ Some of.row = ap (node_row t.nodes) at ∙ of.there in
    let rooted : is_root t.nodes folder ≡ true = ap (λ (o : Option NodeRow). option_map_or (λ row. is_root_place row.place) o false) there ∙ of.rooted in
    let owner : owner_of t.nodes folder ≡ mount.user = ap (λ (o : Option NodeRow). option_map_or (λ row. row.owner) o 0) there ∙ of.owner in
    let none = ap (λ (n : ℕ). mount_at t.mounts n row.name) (sym owner) ∙ unmounted rooted in
    let fails = each_fails (λ other. is_shown_to mount.user other && bytes_eq other.name row.name) t.mounts (no_value (λ other. other.node) _ none) i e among in
    both_ways (is_shown_to mount.user mount && bytes_eq mount.name row.name) fails
    (and_from (is_shown_to mount.user mount) (bytes_eq mount.name row.name)
    (and_from (mount.user == mount.user) (not mount.left) (eq-eqb mount.user mount.user refl) (not_from_false mount.left shown))
    ((bytes_eq-Decides mount.name row.name).1 (sym named))))
  where
    mount : MountRow
    mount = get_or t.mounts i e

    root : ℕ
    root = root_folder t.users mount.user

-- ---- nodes as shares and mounts see them

-- a node's row is of the owner, of the kind, and a root or none, as the row that it had
pub record WasSo (rows : List NodeRow) (node : ℕ) (row : NodeRow) : Type 0 where
  pub old : NodeRow
  pub there : node_row rows node ≡ Some old
  pub owner : row.owner ≡ old.owner
  pub root : is_root_place row.place ≡ is_root_place old.place
  pub kind : row.kind ≡ old.kind

abbrev pub WasThere : List NodeRow → List NodeRow → ℕ → Type 0
WasThere rows others node = (row : NodeRow) → node_row others node ≡ Some row → WasSo rows node row

pub was_same : (rows : List NodeRow) (node : ℕ) (row : NodeRow) → node_row rows node ≡ Some row → WasSo rows node row
was_same rows node row there = record { old = row; there = there; owner = refl; root = refl; kind = refl }

-- where all nodes are as they were, so are those of shares and of mounts
abbrev pub OfShares : Tables → (ℕ → Type 0) → Type 0
OfShares t P = All (λ (share : ShareRow). P share.node) t.shares

abbrev pub OfMounts : Tables → (ℕ → Type 0) → Type 0
OfMounts t P = All (λ (mount : MountRow). P mount.node) t.mounts

pub kind_still : (t made : Tables) → made.users ≡ t.users → made.groups ≡ t.groups → (kind : ShareKind) → IsKindSound t kind → IsKindSound made kind
kind_still t made users groups (to.User user) is = ap (λ rows. is_some (user_row rows user)) users ∙ is
kind_still t made users groups (to.Group group) is = ap (λ rows. list_any (λ row. row.id == group) rows) groups ∙ is
kind_still t made users groups (to.Link token) is = tt

-- a share is of its node as it was
of_still : (t : Tables) (share : ShareRow) (nodes : List NodeRow) → IsShareSound t share → WasThere t.nodes nodes share.node → (of : NodeRow)
    → node_row nodes share.node ≡ Some of → IsOfNode share of
of_still t share nodes is was of there =
    let w = was of there in
    let o = is.of_node w.old w.there in
    record {
      owner = w.owner ∙ o.owner;
      no_root = w.root ∙ o.no_root;
      perms = ap (λ (kind : NodeKind). perms_of_share kind share.kind share.perms) w.kind ∙ o.perms;
    }

-- the tables with other nodes and items, and another meta row
abbrev pub with_items : Tables → MetaRow → List NodeRow → List ItemRow → Tables
with_items t meta nodes items = record t { meta = meta; nodes = nodes; items = items }

share_still : (t : Tables) (meta : MetaRow) (nodes : List NodeRow) (items : List ItemRow) (share : ShareRow) → t.meta.next_share ≤ meta.next_share
    → t.meta.next_node ≤ meta.next_node → t.meta.last ≤ meta.last → WasThere t.nodes nodes share.node
    → (share.ended ≡ false → LeadsToRoot nodes share.node) → IsShareSound t share → IsShareSound (with_items t meta nodes items) share
share_still t meta nodes items share up_shares up_nodes later was still is = record {
  some = is.some;
  given = omega (arith, is.given, up_shares);
  made = omega (arith, is.made, later);
  node = omega (arith, is.node, up_nodes);
  owner = is.owner;
  initiator = is.initiator;
  kind = kind_still t (with_items t meta nodes items) refl refl share.kind is.kind;
  chained = is.chained;
  parent = is.parent;
  present = still;
  of_node = of_still t share nodes is was;
}

-- what shares and mounts need of the nodes
pub record Seen (t : Tables) (nodes : List NodeRow) : Type 0 where
  pub of_shares : OfShares t (WasThere t.nodes nodes)
  pub of_mounts : OfMounts t (WasThere t.nodes nodes)
  pub present : All (λ (share : ShareRow). share.ended ≡ false → LeadsToRoot nodes share.node) t.shares
  pub off : All (IsOff t) nodes
  pub files : AreFiles t nodes

-- what all of them need of them
pub record Still (t : Tables) (nodes : List NodeRow) : Type 0 where
  pub of_shares : OfShares t (WasThere t.nodes nodes)
  pub of_mounts : OfMounts t (WasThere t.nodes nodes)
  pub present : All (λ (share : ShareRow). share.ended ≡ false → LeadsToRoot nodes share.node) t.shares
  pub off : All (IsOff t) nodes
  pub files : AreFiles t nodes
  pub trashed : IsTrashKept t.nodes nodes

mounts_still : (t made : Tables) → made.users ≡ t.users → t.meta.next_node ≤ made.meta.next_node → AreSound t
    → OfMounts t (WasThere t.nodes made.nodes) → All (IsOff t) made.nodes → All (IsMountSound made) t.mounts
mounts_still t made users up sound was off k d within =
    let mount = get_or t.mounts k d in
    let is = sound.others.mounts k d within in
    record {
      user = ap (λ rows. is_some (user_row rows mount.user)) users ∙ is.user;
      node = omega (arith, is.node, up);
      others = λ of there same.
          let w = was k d within of there in is.others w.old w.there (sym w.owner ∙ same);
      free = λ shown.
          ap (λ rows. child_of made.nodes (root_folder rows mount.user) mount.name) users ∙ free_off t made.nodes off k d within shown;
    }

-- shares and mounts stay sound beside other items
pub others_seen : (t : Tables) (meta : MetaRow) (nodes : List NodeRow) (items : List ItemRow) → AreSound t → AreHigher t.meta meta
    → t.meta.last ≤ meta.last → Seen t nodes → All (IsItemSound (with_items t meta nodes items)) items → IsRising item_key items
    → AreOthersSound (with_items t meta nodes items)
others_seen t meta nodes items sound up later seen fine rise =
    let made = with_items t meta nodes items in
    others_from made (uploads_still t made refl refl (λ user is. is) later up.blobs sound)
    (λ k d within. share_still t meta nodes items (get_or t.shares k d) up.shares up.nodes later (seen.of_shares k d within) (seen.present k d within)
    (sound.others.shares k d within))
    sound.others.shares_rise sound.others.few_shares (mounts_still t made refl up.nodes sound seen.of_mounts seen.off) sound.others.mounts_rise
    sound.others.mounts_apart sound.others.few_mounts
    (versions_still t made t.versions later up.blobs sound.others.versions seen.files) sound.others.versions_rise sound.others.few_versions fine rise

pub others_still : (t : Tables) (meta : MetaRow) (nodes : List NodeRow) → AreSound t → AreHigher t.meta meta → t.meta.last ≤ meta.last
    → Still t nodes → AreOthersSound (with_nodes t meta nodes)
others_still t meta nodes sound up later still =
    others_seen t meta nodes t.items sound up later
    (record { of_shares = still.of_shares; of_mounts = still.of_mounts; present = still.present; off = still.off; files = still.files })
    (items_still t (with_nodes t meta nodes) later still.trashed sound.others.items) sound.others.items_rise

-- nodes that are as they were are still so
pub still_same : (t : Tables) → AreSound t → Still t t.nodes
still_same t sound = record {
  of_shares = λ k d within row there. was_same t.nodes _ row there;
  of_mounts = λ k d within row there. was_same t.nodes _ row there;
  present = λ k d within. (sound.others.shares k d within).present;
  off = all_off t sound;
  files = all_files t sound;
  trashed = trash_kept t.nodes t.nodes (kept_row t.nodes);
}

-- what is kept is present
pub kept_present : (t : Tables) (nodes : List NodeRow) → AreSound t → AreKept t.nodes nodes
    → All (λ (share : ShareRow). share.ended ≡ false → LeadsToRoot nodes share.node) t.shares
kept_present t nodes sound kept k d within unended =
    kept_leads t.nodes nodes (get_or t.shares k d).node kept ((sound.others.shares k d within).present unended)

-- with a node more
pub still_more : (t : Tables) (row : NodeRow) → AreSound t → IsBorn t row → Still t (t.nodes ++ row ∷ [])
still_more t row sound born = record {
  of_shares = λ k d within. was (get_or t.shares k d).node (born.unshared k d within);
  of_mounts = λ k d within. was (get_or t.mounts k d).node (born.unused k d within);
  present = kept_present t (t.nodes ++ row ∷ []) sound (kept_joined t.nodes (row ∷ []));
  off = All-push (IsOff t) t.nodes row (all_off t sound) (new_off t row born.folder sound born.place born.unmounted);
  files = files_kept t (t.nodes ++ row ∷ []) sound (kept_joined t.nodes (row ∷ []));
  trashed = trash_kept t.nodes (t.nodes ++ row ∷ []) (kept_joined t.nodes (row ∷ []));
}
  where
    was : (node : ℕ) → node < row.id → WasThere t.nodes (t.nodes ++ row ∷ []) node
    was node less other there =
        was_same t.nodes node other
        (sym (row_joined t.nodes (row ∷ []) node (All-cons (λ (r : NodeRow). r.id ≢ node) row [] (λ same. absurd (omega (arith, less, same)))
        (All-nil (λ (r : NodeRow). r.id ≢ node)))) ∙ there)

-- with another row of a node, which is of the same owner and kind, a root or none as before, and no child of a mount's name
pub record IsSeenSo (t : Tables) (node : ℕ) (change : NodeRow → NodeRow) : Type 0 where
  pub id : KeepsId change
  pub owner : (row : NodeRow) → (change row).owner ≡ row.owner
  pub kind : (row : NodeRow) → (change row).kind ≡ row.kind
  pub root : (row : NodeRow) → node_row t.nodes node ≡ Some row → is_root_place (change row).place ≡ is_root_place row.place
  pub off : (row : NodeRow) → node_row t.nodes node ≡ Some row → IsOff t row → IsOff t (change row)

pub was_with : (t : Tables) (node : ℕ) (change : NodeRow → NodeRow) → IsSeenSo t node change → (n : ℕ) → WasThere t.nodes (with_node t.nodes node change) n
was_with t node change seen n row there = here (n == node) refl (sym (row_with t.nodes node change seen.id n) ∙ there)
  where
    here : (b : Bool) → (n == node) ≡ b → (if b then option_map change (node_row t.nodes n) else node_row t.nodes n) ≡ Some row → WasSo t.nodes n row
    here false e is = was_same t.nodes n row is
    here true e is =
        let of = map_some change (node_row t.nodes n) row is in
        let at : node_row t.nodes node ≡ Some of.0 = ap (node_row t.nodes) (sym (eqb-true n node e)) ∙ of.1 in
        record {
          old = of.0;
          there = of.1;
          owner = ap (λ (r : NodeRow). r.owner) (sym of.2) ∙ seen.owner of.0;
          root = ap (λ (r : NodeRow). is_root_place r.place) (sym of.2) ∙ seen.root of.0 at;
          kind = ap (λ (r : NodeRow). r.kind) (sym of.2) ∙ seen.kind of.0;
        }

pub off_with : (t : Tables) (node : ℕ) (change : NodeRow → NodeRow) → AreSound t → IsSeenSo t node change → All (IsOff t) (with_node t.nodes node change)
off_with t node change sound seen = with_each (IsOff t) (IsOff t) t.nodes node change (λ row off. off) (λ row there off. seen.off row there off) (all_off t sound)

-- where what was present is so
pub seen_with : (t : Tables) (node : ℕ) (change : NodeRow → NodeRow) → AreSound t → IsSeenSo t node change
    → ((n : ℕ) → LeadsToRoot t.nodes n → LeadsToRoot (with_node t.nodes node change) n) → Seen t (with_node t.nodes node change)
seen_with t node change sound seen present = record {
  of_shares = λ k d within. was_with t node change seen (get_or t.shares k d).node;
  of_mounts = λ k d within. was_with t node change seen (get_or t.mounts k d).node;
  present = λ k d within unended. present (get_or t.shares k d).node ((sound.others.shares k d within).present unended);
  off = off_with t node change sound seen;
  files = files_with t node change sound seen.id seen.kind;
}

-- ---- shares that end

-- a share, which is ended where its node goes
abbrev pub unless_gone : (ℕ → Bool) → ShareRow → ShareRow
unless_gone gone share = if gone share.node then ended_row share else share

-- it has the same number, chain and node
module _ (gone : ℕ → Bool) where
  abbrev end_some : ShareRow → ShareRow
  end_some = unless_gone gone

  pub same_field : {X : Type 0} (field : ShareRow → X) → ((share : ShareRow) → field (ended_row share) ≡ field share) → (share : ShareRow)
      → field (end_some share) ≡ field share
  same_field field same share = here (gone share.node)
    where
      here : (b : Bool) → field (if b then ended_row share else share) ≡ field share
      here true = same share
      here false = refl

  pub row_ended : (shares : List ShareRow) (id : ℕ) → share_row (map end_some shares) id ≡ option_map end_some (share_row shares id)
  row_ended [] id = refl
  row_ended (share ∷ shares) id =
      ap (λ (n : ℕ). if n == id then Some (end_some share) else share_row (map end_some shares) id) (same_field (λ s. s.id) (λ s. refl) share)
      ∙ here (share.id == id) (row_ended shares id)
    where
      here : (b : Bool) → share_row (map end_some shares) id ≡ option_map end_some (share_row shares id)
          → (if b then Some (end_some share) else share_row (map end_some shares) id) ≡ option_map end_some (if b then Some share else share_row shares id)
      here true rest = refl
      here false rest = rest

  -- and stands on the same
  linked_ended : (shares : List ShareRow) → AreLinked shares (map end_some shares)
  linked_ended shares id old there = record {
    row = end_some old;
    there = row_ended shares id ∙ ap (option_map end_some) there;
    parent = same_field (λ s. s.parent) (λ s. refl) old;
    initiator = same_field (λ s. s.initiator) (λ s. refl) old;
    owner = same_field (λ s. s.owner) (λ s. refl) old;
  }

-- the tables with other nodes, versions and items, and with the shares of the nodes that go ended
abbrev pub ending : Tables → (ℕ → Bool) → List NodeRow → List VersionRow → List ItemRow → Tables
ending t gone nodes versions items = record t { nodes = nodes; shares = map (unless_gone gone) t.shares; versions = versions; items = items }

-- those without the nodes that go, and their versions
abbrev pub without : Tables → (ℕ → Bool) → List ItemRow → Tables
without t gone items =
    let nodes = those (λ node. not (gone node)) t.nodes in ending t gone nodes (versions_there nodes t.versions) items

-- what is there after is what was
pub those_were : (test : ℕ → Bool) (rows : List NodeRow) (node : ℕ) (row : NodeRow) → node_row (those test rows) node ≡ Some row
    → (test node ≡ true) × (node_row rows node ≡ Some row)
those_were test rows node row is =
    let found = found_is (λ (row : NodeRow). test row.id ≡ true) (λ row. row.id == node) (those test rows) row (filter_passes (λ row. test row.id) rows) is in
    let passes = subst (λ (n : ℕ). test n ≡ true) (eqb-true row.id node found.0) found.1 in
    (passes, sym (row_of_those test rows node passes) ∙ is)

share_ended : (t : Tables) (gone : ℕ → Bool) (nodes : List NodeRow) (versions : List VersionRow) (items : List ItemRow) (share : ShareRow) → WasThere t.nodes nodes share.node
    → (gone share.node ≡ false → share.ended ≡ false → LeadsToRoot nodes share.node) → IsShareSound t share
    → IsShareSound (ending t gone nodes versions items) (unless_gone gone share)
share_ended t gone nodes versions items share was still is = here (gone share.node) refl
  where
    made : Tables
    made = ending t gone nodes versions items

    chained : (row : ShareRow) → row.id ≡ share.id → is_some (chain_within MAX_CHAIN made.shares row.id) ≡ true
    chained row same = ap (λ (n : ℕ). is_some (chain_within MAX_CHAIN made.shares n)) same
        ∙ still_chained MAX_CHAIN t.shares made.shares share.id (linked_ended gone t.shares) is.chained

    here : (b : Bool) → gone share.node ≡ b → IsShareSound made (if b then ended_row share else share)
    here true goes = record {
      some = is.some;
      given = is.given;
      made = is.made;
      node = is.node;
      owner = is.owner;
      initiator = is.initiator;
      kind = kind_still t made refl refl share.kind is.kind;
      chained = chained (ended_row share) refl;
      parent = is.parent;
      present = λ unended. absurd (cc);
      of_node = λ of there. let o = of_still t share nodes is was of there in record { owner = o.owner; no_root = o.no_root; perms = o.perms };
    }
    here false stays = record {
      some = is.some;
      given = is.given;
      made = is.made;
      node = is.node;
      owner = is.owner;
      initiator = is.initiator;
      kind = kind_still t made refl refl share.kind is.kind;
      chained = chained share refl;
      parent = is.parent;
      present = still stays;
      of_node = of_still t share nodes is was;
    }

-- they rise as before
pub ended_rising : (t : Tables) (gone : ℕ → Bool) → IsRising share_key t.shares → IsRising share_key (map (unless_gone gone) t.shares)
ended_rising t gone rise i j d before within =
    let few : j < length t.shares = omega (arith, length-map t.shares (unless_gone gone)) in
    let a = get_or-map (unless_gone gone) t.shares i d d (omega (arith, before, few)) in
    let b = get_or-map (unless_gone gone) t.shares j d d few in
    ap (λ (row : ShareRow). key_cmp (share_key row) (share_key (get_or (map (unless_gone gone) t.shares) j d))) a
    ∙ ap (λ (row : ShareRow). key_cmp (share_key (unless_gone gone (get_or t.shares i d))) (share_key row)) b
    ∙ ap (λ (k : List ℕ). key_cmp k (share_key (unless_gone gone (get_or t.shares j d)))) (same_field gone share_key (λ s. refl) (get_or t.shares i d))
    ∙ ap (key_cmp (share_key (get_or t.shares i d))) (same_field gone share_key (λ s. refl) (get_or t.shares j d))
    ∙ rise i j d before few

-- where what shares and mounts are of is as it was or gone, and what else is shared is present
pub others_ended : (t : Tables) (gone : ℕ → Bool) (nodes : List NodeRow) (versions : List VersionRow) (items : List ItemRow) → AreSound t
    → ((n : ℕ) → WasThere t.nodes nodes n) → ((n : ℕ) → gone n ≡ false → LeadsToRoot t.nodes n → LeadsToRoot nodes n) → All (IsOff t) nodes
    → All (IsVersionSound t) versions → All (λ (version : VersionRow). is_file nodes version.node ≡ true) versions → IsRising version_key versions
    → length versions ≤ MAX_VERSIONS
    → All (IsItemSound (ending t gone nodes versions items)) items → IsRising item_key items → AreOthersSound (ending t gone nodes versions items)
others_ended t gone nodes versions items sound was present off all files versions_rise few_versions fine rise =
    let made = ending t gone nodes versions items in
    others_from made (uploads_kept t made refl refl refl refl sound)
    (All-map (IsShareSound made) (unless_gone gone) t.shares
    (λ k d within.
    let share = get_or t.shares k d in
    let is = sound.others.shares k d within in
    share_ended t gone nodes versions items share (was share.node) (λ stays unended. present share.node stays (is.present unended)) is))
    (ended_rising t gone sound.others.shares_rise)
    (omega (arith, length-map t.shares (unless_gone gone), sound.others.few_shares))
    (mounts_still t made refl (le_refl _) sound (λ k d within. was (get_or t.mounts k d).node) off)
    sound.others.mounts_rise sound.others.mounts_apart sound.others.few_mounts
    (versions_still t made versions (le_refl _) (le_refl _) all files) versions_rise few_versions fine rise

-- ---- counters and moments

-- higher counters and a later moment change nothing else
pub meta_sound : (t : Tables) (meta : MetaRow) → AreSound t → AreHigher t.meta meta → t.meta.last ≤ meta.last → AreSound (record t { meta = meta })
meta_sound t meta sound up later =
    let made : Tables = record t { meta = meta } in
    record {
      counters = counters_up t.meta meta sound.counters up;
      rising = sound.rising;
      nodes = All-weaker (IsNodeSound t) (IsNodeSound made)
          (λ row. node_kept t meta t.nodes row (kept_row t.nodes) up.nodes up.blobs later) t.nodes sound.nodes;
      names = sound.names;
      roots = All-weaker (HasRoot t) (HasRoot made) (root_kept t meta t.nodes (kept_row t.nodes)) t.users sound.roots;
      users_given = All-weaker (λ (row : UserRow). row.id < t.meta.next_user) (λ (row : UserRow). row.id < meta.next_user)
          (λ row given. omega (arith, given, up.users)) t.users sound.users_given;
      members_there = sound.members_there;
      groups_given = All-weaker (λ (row : GroupRow). row.id < t.meta.next_group) (λ (row : GroupRow). row.id < meta.next_group)
          (λ row given. omega (arith, given, up.groups)) t.groups sound.groups_given;
      few_nodes = sound.few_nodes;
      few_pieces = sound.few_pieces;
      others = others_still t meta t.nodes sound up later (still_same t sound);
    }

pub stamp_sound : (t : Tables) (now : ℕ) → AreSound t → t.meta.last ≤ now → AreSound (stamp t now)
stamp_sound t now sound later = meta_sound t (record t.meta { last = now }) sound (none_higher t.meta now) later
