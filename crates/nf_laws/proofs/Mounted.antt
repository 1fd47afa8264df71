-- The tables with a row of a mount, new or another, are sound.
use Rattle.std.proofs.Common.{ℕ, zero, suc, ◌==◌, ◌&&◌, ◌≡◌, ◌<◌, true, false, not, List, [], ◌∷◌, bytes_eq, get_or, length, refl, sym, ap, subst, ◌∙◌, arith, le_refl, None, ◌≤◌, ◌⊎◌, inl, inr}
use Rattle.std.specs.Prelude.{is_some}
use Rattle.std.specs.List.{All, AllPairs}
use Rattle.std.specs.declared.cmp.Ordering.{Ordering}
use Rattle.std.specs.declared.cmp.Ordering.TheVariants.{Equal, Greater, Less}
use Rattle.std.proofs.lemmas.Bool.{and_from, both_ways, eq-eqb, not_from_false}
use Rattle.std.proofs.lemmas.List.Elements.{All-head, All-tail, All-weaker}
use Rattle.std.proofs.lemmas.Option.{same_Some}
use Rattle.std.proofs.lemmas.Slice.Eq.{bytes_eq-Decides}
use Rattle.nf_access.specs.Mounts.{is_mount_of, is_shown_to, mount_at}
use Rattle.nf_base.specs.declared.rows.MountRow.{MountRow}
use Rattle.nf_base.specs.declared.rows.NodeRow.{NodeRow}
use Rattle.nf_base.specs.declared.rows.Place.{Place}
use Rattle.nf_base.specs.declared.rows.Place.TheVariants.{Inside, Root, Trash}
use Rattle.nf_base.specs.declared.rows.ShareRow.{ShareRow}
use Rattle.nf_defs.proofs.Puts.{all_put, put_rising, put_length}
use Rattle.nf_defs.specs.Prelude.{by_order, key_cmp, mount_key, node_row, put, Tables, user_row}
use Rattle.nf_laws.proofs.Files.{all_files, versions_still}
use Rattle.nf_laws.proofs.Others.{items_still, kind_still, others_from, trash_kept}
use Rattle.nf_laws.proofs.Rows.{each_fails, found_is, kept_row, no_value, node_still, row_is}
use Rattle.nf_laws.proofs.Uploads.{uploads_kept}
use Rattle.nf_words.proofs.Mounting.{same_key}
use Rattle.nf_words.specs.Others.{AreMountsApart, IsItemSound, IsMountSound, IsShareSound, AreOthersSound}
use Rattle.nf_words.specs.Prelude.{AreSound, HasRoot, IsNodeSound, IsPlaceSound, IsRemounted, IsNewMount}
use Rattle.nf_access.specs.Shares.{chain_within}
use Rattle.nf_base.specs.declared.limits.TheConstants.{MAX_CHAIN, MAX_MOUNTS}
use Rattle.nf_words.proofs.Found.{put_length_over}

-- ---- rows of mounts

itself : (row : MountRow) → is_mount_of row.user row.node row ≡ true
itself row = and_from (row.user == row.user) (row.node == row.node) (eq-eqb row.user row.user refl) (eq-eqb row.node row.node refl)

-- where a row is apart from all, it is apart among them, too
apart_turned : (a b : MountRow) → AreMountsApart a b → AreMountsApart b a
apart_turned a b apart users first second same = apart (sym users) second first (sym same)

put_apart : (row : MountRow) (rows : List MountRow) → All (AreMountsApart row) rows → AllPairs AreMountsApart rows
    → AllPairs AreMountsApart (put mount_key row rows)
put_apart row [] one pairs = pairs_one row
  where
    pairs_one : (row : MountRow) → AllPairs AreMountsApart (row ∷ [])
    pairs_one row i j d before within = absurd (omega arith)
put_apart row (x ∷ rows) one pairs =
    here (key_cmp (mount_key row) (mount_key x))
    (put_apart row rows (All-tail (AreMountsApart row) x rows one) (λ i j d before within. pairs (suc i) (suc j) d (omega arith) (omega arith)))
  where
    with_first : (y : MountRow) (ys : List MountRow) → All (AreMountsApart y) ys → AllPairs AreMountsApart ys → AllPairs AreMountsApart (y ∷ ys)
    with_first y ys all rest zero zero d before within = absurd (omega arith)
    with_first y ys all rest zero (suc j) d before within = all j d (omega arith)
    with_first y ys all rest (suc i) zero d before within = absurd (omega arith)
    with_first y ys all rest (suc i) (suc j) d before within = rest i j d (omega arith) (omega arith)

    heads : All (AreMountsApart x) rows
    heads k d within = pairs 0 (suc k) d (omega arith) (omega arith)

    tails : AllPairs AreMountsApart rows
    tails i j d before within = pairs (suc i) (suc j) d (omega arith) (omega arith)

    here : (o : Ordering) → AllPairs AreMountsApart (put mount_key row rows)
        → AllPairs AreMountsApart (by_order o (row ∷ x ∷ rows) (row ∷ rows) (x ∷ put mount_key row rows))
    here Less rest = with_first row (x ∷ rows) one pairs
    here Equal rest = with_first row rows (All-tail (AreMountsApart row) x rows one) tails
    here Greater rest =
        with_first x (put mount_key row rows)
        (all_put mount_key (AreMountsApart x) row rows (apart_turned row x (All-head (AreMountsApart row) x rows one)) heads) rest

-- ---- the tables with other shares and mounts

module _ (t : Tables) (shares : List ShareRow) (mounts : List MountRow) where
  abbrev pub beside : Tables
  beside = record t { shares = shares; mounts = mounts }

  pub mount_beside : (mount : MountRow) → IsMountSound t mount → IsMountSound beside mount
  mount_beside mount fine = record { user = fine.user; node = fine.node; others = fine.others; free = fine.free }

  pub share_beside : (share : ShareRow) → is_some (chain_within MAX_CHAIN shares share.id) ≡ true → IsShareSound t share → IsShareSound beside share
  share_beside share chained fine = record {
    some = fine.some;
    given = fine.given;
    made = fine.made;
    node = fine.node;
    owner = fine.owner;
    initiator = fine.initiator;
    kind = kind_still t beside refl refl share.kind fine.kind;
    chained = chained;
    parent = fine.parent;
    present = fine.present;
    of_node = fine.of_node;
  }

  pub items_beside : All (IsItemSound t) t.items → All (IsItemSound beside) t.items
  items_beside = items_still t beside (le_refl _) (trash_kept t.nodes t.nodes (kept_row t.nodes))

  place_beside : (row : NodeRow) (place : Place) → IsPlaceSound t row place → IsPlaceSound beside row place
  place_beside row Root fine = fine
  place_beside row (Inside folder) fine = fine
  place_beside row Trash fine = fine

  node_beside : (row : NodeRow) → IsNodeSound t row → IsNodeSound beside row
  node_beside row fine =
      node_still t beside row row.place row.name (le_refl _) (le_refl _) (le_refl _) fine (place_beside row row.place fine.place)
      (record { steps = fine.steps; shallow = fine.shallow; top = fine.top; climbs = fine.climbs; ends = fine.ends })

  pub beside_sound : AreSound t → AreOthersSound beside → AreSound beside
  beside_sound sound others = record {
    counters = sound.counters;
    rising = sound.rising;
    nodes = All-weaker (IsNodeSound t) (IsNodeSound beside) node_beside t.nodes sound.nodes;
    names = sound.names;
    roots = All-weaker (HasRoot t) (HasRoot beside)
        (λ user root. record { row = root.row; there = root.there; place = root.place; folder = root.folder; owner = root.owner; name = root.name })
        t.users sound.roots;
    users_given = sound.users_given;
    members_there = sound.members_there;
    groups_given = sound.groups_given;
    few_nodes = sound.few_nodes;
    few_pieces = sound.few_pieces;
    others = others;
  }

-- ---- a row that is put

module _ (t : Tables) (row : MountRow) (sound : AreSound t) where
  abbrev made : Tables
  made = beside t t.shares (put mount_key row t.mounts)

  -- it is apart from all that are there
  new_apart_mount : (row.left ≡ false → mount_at t.mounts row.user row.name ≡ None) → All (AreMountsApart row) t.mounts
  new_apart_mount apart k d within users shown other_shown same =
      let mount = get_or t.mounts k d in
      let fails = each_fails (λ other. is_shown_to row.user other && bytes_eq other.name row.name) t.mounts
      (no_value (λ other. other.node) _ (apart shown)) k d within in
      both_ways (is_shown_to row.user mount && bytes_eq mount.name row.name) fails
      (and_from (is_shown_to row.user mount) (bytes_eq mount.name row.name)
      (and_from (mount.user == row.user) (not mount.left) (eq-eqb mount.user row.user (sym users)) (not_from_false mount.left other_shown))
      ((bytes_eq-Decides mount.name row.name).1 (sym same)))

  put_sound : IsMountSound t row → (row.left ≡ false → mount_at t.mounts row.user row.name ≡ None)
      → length (put mount_key row t.mounts) ≤ MAX_MOUNTS → AreSound made
  put_sound fine apart few =
      beside_sound t t.shares (put mount_key row t.mounts) sound
      (others_from made (uploads_kept t made refl refl refl refl sound)
      (All-weaker (IsShareSound t) (IsShareSound made)
      (λ share is. share_beside t t.shares (put mount_key row t.mounts) share is.chained is) t.shares sound.others.shares)
      sound.others.shares_rise sound.others.few_shares
      (all_put mount_key (IsMountSound made) row t.mounts (mount_beside t t.shares (put mount_key row t.mounts) row fine)
      (All-weaker (IsMountSound t) (IsMountSound made) (mount_beside t t.shares (put mount_key row t.mounts)) t.mounts sound.others.mounts))
      (put_rising mount_key row t.mounts sound.others.mounts_rise)
      (put_apart row t.mounts (new_apart_mount apart) sound.others.mounts_apart) few
      (versions_still t made t.versions (le_refl _) (le_refl _) sound.others.versions (all_files t sound)) sound.others.versions_rise sound.others.few_versions (items_beside t t.shares (put mount_key row t.mounts) sound.others.items)
      sound.others.items_rise)

  pub mounted_sound : IsRemounted t row ⊎ IsNewMount t row → AreSound (record t { mounts = put mount_key row t.mounts })
  mounted_sound (inl is) =
      let old = (found_is (IsMountSound t) (is_mount_of row.user row.node) t.mounts is.old sound.others.mounts is.there).1 in
      let user : row.user ≡ is.old.user = ap (λ (r : MountRow). r.user) is.same in
      let node : row.node ≡ is.old.node = ap (λ (r : MountRow). r.node) is.same in
      put_sound
      (record {
        user = ap (λ (n : ℕ). is_some (user_row t.users n)) user ∙ old.user;
        node = subst (λ (n : ℕ). n < t.meta.next_node) (sym node) old.node;
        others = λ of there owner. old.others of (ap (node_row t.nodes) (sym node) ∙ there) (owner ∙ user);
        free = is.free;
      })
      is.apart
      (omega (
        arith,
        sound.others.few_mounts,
        put_length_over mount_key (is_mount_of row.user row.node) row is.old t.mounts
            (λ x passes. same_key row.user row.node x row passes (itself row)) sound.others.mounts_rise is.there,
      ))
  mounted_sound (inr is) =
      put_sound
      (record {
        user = is.user;
        node = let node = row_is t row.node is.node sound is.there in omega (arith, node.0, node.1.given);
        others = λ of there owner. is.others (ap (λ (r : NodeRow). r.owner) (same_Some is.node of (sym is.there ∙ there)) ∙ owner);
        free = λ shown. is.free;
      })
      (λ shown. is.apart) (omega (arith, put_length mount_key row t.mounts, is.few))
