-- Rows that break no rule make tables that keep the rules.
use Rattle.std.proofs.Common.{◌≡◌, ℕ, ◌<◌, ◌≤◌, Bool, true, false, not, List, [], ◌∷◌, length, get_or, Option, None, Some, refl, sym, ap, ◌∙◌, arith, ⊎_elim, sum_by, inl, inr, ◌==◌, subst}
use Rattle.std.specs.Prelude.{nat_lt}
use Rattle.std.specs.List.{All, AllPairs, Contains}
use Rattle.std.specs.Option.{option_map_or}
use Rattle.std.specs.declared.cmp.Ordering.TheVariants.{Less, Equal}
use Rattle.std.proofs.lemmas.Bool.{and_cases, and_parts, cases_lt, eqb-true, false≢true, ltb-false, ltb-true, not-false, not-true, or_parts, cases_Bool}
use Rattle.std.proofs.lemmas.List.Elements.{All-head, All-weaker, All-contains}
use Rattle.std.proofs.lemmas.Slice.Eq.{bytes_eq-Decides}
use Rattle.nf_base.specs.declared.limits.TheConstants.{MAX_GROUPS, MAX_MEMBERS, MAX_MOUNTS, MAX_QUOTA, MAX_SHARES, MAX_TOKENS, MAX_USERS, MAX_VERSIONS}
use Rattle.nf_access.specs.Mounts.{root_folder}
use Rattle.nf_base.proofs.Naming.{slice_cmp-Equal}
use Rattle.nf_base.specs.Keys.{key_of}
use Rattle.nf_base.specs.KeptRows.{IsKept}
use Rattle.nf_base.specs.declared.rows.Row.{Row}
use Rattle.nf_base.specs.declared.rows.Row.TheVariants as rows
use Rattle.nf_base.specs.declared.rows.MetaRow.{MetaRow}
use Rattle.nf_base.specs.declared.rows.MountRow.{MountRow}
use Rattle.nf_base.specs.declared.rows.NodeKind.{NodeKind}
use Rattle.nf_base.specs.declared.rows.NodeKind.TheVariants.{Folder, File}
use Rattle.nf_base.specs.declared.rows.NodeRow.{NodeRow}
use Rattle.nf_base.specs.declared.rows.Place.{Place}
use Rattle.nf_base.specs.declared.rows.Place.TheVariants.{Root, Inside, Trash}
use Rattle.nf_base.specs.declared.rows.UserRow.{UserRow}
use Rattle.nf_defs.proofs.Tables.{tables_rise}
use Rattle.nf_defs.proofs.Puts.{below_one}
use Rattle.nf_defs.proofs.Walks.{node_row_each}
use Rattle.nf_defs.specs.Prelude.{group_key, is_folder_kind, is_root_place, IsRising, key_cmp, mount_key, node_key, node_row, numbers_of, share_key, Tables, tables_of, user_key, owner_of}
use Rattle.nf_words.specs.Prelude.{AreCounters, AreSound, count_of, HasRoot, IsNodeSound, stored_pieces, charge_of, quota_of, content_size, item_size}
use Rattle.nf_words.specs.Others.{AreOthersSound, IsShareSound, IsVersionSound}
use Rattle.nf_words.specs.declared.answer.Limit.TheVariants as limit
use Rattle.nf_rules.specs.Keys.{child_key, link_key, name_key}
use Rattle.nf_rules.specs.Laws.{UnbrokenAreRuled}
use Rattle.nf_rules.specs.Ruled.{IsMountRuled, IsShareRuled, AreSettled, AreTrashesBounded}
use Rattle.nf_rules.specs.Rules.{AreUnbroken, are_counters, are_numbers, has_ungiven_blob, is_beyond, is_placed, is_root_of, is_shared_well, lacks_meta, leads, names_are_there, rules, is_over, held_bytes, are_unsettled, is_heaped, trash_bytes}
use Rattle.nf_rules.proofs.Among.{all_have, meta_has}
use Rattle.nf_rules.proofs.Firsts.{keep_each}
use Rattle.nf_rules.proofs.Items.{item_ruled, item_sound}
use Rattle.nf_rules.proofs.Leading.{climbs, place_of_leading}
use Rattle.nf_rules.proofs.Shared.{AreUnshared, IsAmong, each_among, one_has}
use Rattle.nf_rules.proofs.Shared as shared
use Rattle.nf_rules.proofs.Shares.{given, mount_key_is, mount_sound, name_free, share_sound}
use Rattle.nf_rules.proofs.Uploads.{chunk_sound, chunk_without, few_pending, few_uploads, no_sum, none_kept, upload_sound}
use Rattle.nf_rules.proofs.Blobs.{none_ungiven}
use Rattle.nf_base.specs.declared.rows.VersionRow.{VersionRow}
use Rattle.nf_base.specs.declared.rows.ChunkRow.{ChunkRow}
use Rattle.nf_base.specs.declared.rows.ItemRow.{ItemRow}
use Rattle.nf_retention.specs.Budget.{trash_bound, versions_bound}

-- ---- numbers

counters : (meta : MetaRow) → are_counters meta ≡ true → AreCounters meta
counters meta is =
    let blobs = and_parts _ _ is in
    let shares = and_parts _ _ blobs.0 in
    let nodes = and_parts _ _ shares.0 in
    let groups = and_parts _ _ nodes.0 in
    record {
      users = ltb-true 0 meta.next_user groups.0;
      groups = ltb-true 0 meta.next_group groups.1;
      nodes = ltb-true 0 meta.next_node nodes.1;
      shares = ltb-true 0 meta.next_share shares.1;
      blobs = ltb-true 0 meta.next_blob blobs.1;
    }

-- ---- keys

pub not_below : (a b : List ℕ) → key_cmp a b ≡ Less → a ≡ b → ⊥
not_below a b less same = let equal : key_cmp a b ≡ Equal = (slice_cmp-Equal a b).1 same in cc

-- rows of one kind share no name, since the rows that were put into the tables share none
names_differ : {R : Type 0} (key : R → List ℕ) (row_of : R → Row) → ((row : R) → numbers_of (key_of (row_of row)) ≡ key row)
    → (t : Tables) (all : List Row) (some : List R) → AreUnshared (name_key t) all → IsRising key some
    → All (λ row. IsAmong all (row_of row)) some → AllPairs (λ a b. shared.AreApart (name_key t) (row_of a) (row_of b)) some
names_differ {R = R} key row_of keyed t all some unshared rising among i j d before within name first second =
    let a : R = get_or some i d in
    let b : R = get_or some j d in
    let same : row_of a ≡ row_of b =
    one_has (name_key t) all (row_of a) (row_of b) name unshared (among i d (omega arith)) (among j d within) first second in
    not_below (key a) (key b) (rising i j d before within) (sym (keyed a) ∙ ap (λ (row : Row). numbers_of (key_of row)) same ∙ keyed b)

-- ---- nodes

node_sound : (t : Tables) (row : NodeRow) → are_numbers t.meta (rows.Node row) ≡ true → IsKept (rows.Node row) → leads t row ≡ true
    → node_row t.nodes row.id ≡ Some row → IsNodeSound t row
node_sound t row numbers kept leading there =
    let last = and_parts _ _ numbers in
    let blobs = and_parts _ _ last.0 in
    let place = and_parts _ _ blobs.0 in
    let ids = and_parts _ _ place.0 in
    let id = given t.meta.next_node row.id ids.0 in
    let blob = none_ungiven t.meta.next_blob row.content (not-true (has_ungiven_blob t.meta.next_blob row.content) blobs.1) in
    let up = climbs t row there leading in
    record {
      some = id.first;
      given = id.below;
      changed = ltb-false t.meta.last row.changed (not-true (nat_lt t.meta.last row.changed) last.1);
      pieces = λ k d within.
          let sized = kept.0.sized k d within in
          record { some = sized.some; few = sized.few; first = (blob k d within).first; given = (blob k d within).below };
      folder = λ is. kept.1 (is_folder row.kind is);
      place = place_of_leading t row leading;
      steps = up.0;
      shallow = up.1;
      top = up.2;
      climbs = up.3;
      ends = up.4;
    }
  where
    is_folder : (kind : NodeKind) → is_folder_kind kind ≡ true → kind ≡ Folder
    is_folder Folder is = refl
    is_folder File is = absurd (false≢true is)

has_root : (t : Tables) (user : UserRow) → is_placed t (rows.User user) ≡ true → HasRoot t user
has_root t user is = here (node_row t.nodes user.root) refl is
  where
    at_root : (place : Place) → is_root_place place ≡ true → place ≡ Root
    at_root Root is = refl
    at_root (Inside folder) is = absurd (false≢true is)
    at_root Trash is = absurd (false≢true is)

    here : (o : Option NodeRow) → node_row t.nodes user.root ≡ o → option_map_or (is_root_of user) o false ≡ true → HasRoot t user
    here None e is = absurd (false≢true is)
    here (Some row) e is =
        let name = and_parts _ _ is in
        let owner = and_parts _ _ name.0 in
        let kind = and_parts _ _ owner.0 in
        record {
          row = row;
          there = e;
          place = at_root row.place kind.0;
          folder = kind.1;
          owner = eqb-true row.owner user.id owner.1;
          name = (bytes_eq-Decides row.name user.name).0 name.1;
        }

-- ---- the limits

few : {R : Type 0} (some : List R) (most : ℕ) → All (λ row. nat_lt most (length some) ≡ false) some → length some ≤ most
few [] most within = omega arith
few (x ∷ some) most within =
    ltb-false most (length (x ∷ some)) (All-head (λ row. nat_lt most (length (x ∷ some)) ≡ false) x some within)

-- no version is there, where each would pass the limit
no_versions : (some : List VersionRow) → ((row : VersionRow) → Contains some row → ⊥) → sum_by (λ (row : VersionRow). length row.content) some ≡ 0
no_versions [] none = refl
no_versions (x ∷ some) none = absurd (none x (0, omega arith, refl))

few_pieces : (t : Tables) → All (λ (row : NodeRow). is_beyond t (rows.Node row) ≡ false) t.nodes
    → All (λ (row : VersionRow). is_beyond t (rows.Version row) ≡ false) t.versions
    → All (λ (row : ChunkRow). is_beyond t (rows.Chunk row) ≡ false) t.chunks → stored_pieces t ≤ count_of limit.Pieces
few_pieces t within versions chunks =
    ⊎_elim
    (λ more. absurd (omega (
      arith,
      no_sum (λ (row : NodeRow). length row.content) t.nodes (All-weaker (λ (row : NodeRow). is_beyond t (rows.Node row) ≡ false)
          (λ (row : NodeRow). length row.content ≡ 0) (none more) t.nodes within),
      no_versions t.versions (λ row among. fewer more row (All-contains (λ (row : VersionRow). is_beyond t (rows.Version row) ≡ false)
          t.versions row versions among)),
      no_sum (λ (row : ChunkRow). length row.content) t.chunks (All-weaker (λ (row : ChunkRow). is_beyond t (rows.Chunk row) ≡ false)
          (λ (row : ChunkRow). length row.content ≡ 0) (λ row within. chunk_without t row within more) t.chunks chunks),
      more,
    )))
    (λ le. le)
    (cases_lt (count_of limit.Pieces) (stored_pieces t))
  where
    fewer : count_of limit.Pieces < stored_pieces t → (row : VersionRow) → is_beyond t (rows.Version row) ≡ false → ⊥
    fewer more row is =
        let parts = or_parts (nat_lt MAX_VERSIONS (length t.versions)) (nat_lt (count_of limit.Pieces) (stored_pieces t)) is in
        omega (arith, more, ltb-false (count_of limit.Pieces) (stored_pieces t) parts.1)

    none : count_of limit.Pieces < stored_pieces t → (row : NodeRow) → is_beyond t (rows.Node row) ≡ false → length row.content ≡ 0
    none more row is =
        let parts = or_parts (nat_lt (count_of limit.Nodes) (length t.nodes)) _ is in
        ⊎_elim
        (λ e. omega (arith, ltb-false 0 (length row.content) e))
        (λ e. absurd (omega (arith, ltb-false (count_of limit.Pieces) (stored_pieces t) e)))
        (and_cases (nat_lt 0 (length row.content)) (nat_lt (count_of limit.Pieces) (stored_pieces t)) parts.1)

-- ---- the tables

-- what no broken rule says of each row
record Known (all : List Row) : Type 0 where
  meta : lacks_meta all ≡ false
  numbers : All (λ row. are_numbers (tables_of all).meta row ≡ true) all
  there : All (λ row. names_are_there (tables_of all) row ≡ true) all
  names : AreUnshared (name_key (tables_of all)) all
  placed : All (λ row. is_placed (tables_of all) row ≡ true) all
  well : All (λ row. is_shared_well (tables_of all) row ≡ true) all
  few : All (λ row. is_beyond (tables_of all) row ≡ false) all
  modest : All (λ row. is_over (tables_of all) row ≡ false) all

passes : (test : Row → Bool) (all : List Row) → All (λ row. not (test row) ≡ false) all → All (λ row. test row ≡ true) all
passes test all = All-weaker (λ row. not (test row) ≡ false) (λ row. test row ≡ true) (λ row fails. not-false (test row) fails) all

known : (all : List Row) → AreUnbroken all → Known all
known all none =
    let kept = keep_each rules all none in
    let t = tables_of all in
    record {
      meta = kept.0.1;
      numbers = passes (are_numbers t.meta) all kept.1.0.0;
      there = passes (names_are_there t) all kept.1.1.0.0;
      names = kept.1.1.1.0.0;
      placed = passes (is_placed t) all kept.1.1.1.1.0.0;
      well = passes (is_shared_well t) all kept.1.1.1.1.1.0.0;
      few = kept.1.1.1.1.1.1.0.0;
      modest = kept.1.1.1.1.1.1.1.0.0;
    }

-- ---- versions

version_sound : (t : Tables) (row : VersionRow) → are_numbers t.meta (rows.Version row) ≡ true → IsKept (rows.Version row)
    → is_placed t (rows.Version row) ≡ true → IsVersionSound t row
version_sound t row numbers kept placed =
    let last = and_parts _ _ numbers in
    let blobs = and_parts _ _ last.0 in
    let blob = none_ungiven t.meta.next_blob row.content (not-true (has_ungiven_blob t.meta.next_blob row.content) blobs.1) in
    let place = and_parts _ _ placed in
    record {
      at = ltb-false t.meta.last row.at (not-true (nat_lt t.meta.last row.at) last.1);
      file = place.0;
      some = λ empty. let none : length row.content ≡ 0 = ap length empty in omega (arith, none, ltb-true 0 (length row.content) place.1);
      pieces = λ k d within.
          let sized = kept.sized k d within in
          record { some = sized.some; few = sized.few; first = (blob k d within).first; given = (blob k d within).below };
    }

-- where no version is one of too many, each user's are within their bound
settled_from : (t : Tables) → All (λ (row : VersionRow). is_over t (rows.Version row) ≡ false) t.versions → AreSettled t
settled_from t none user =
    ⊎_elim
    (λ more. absurd (omega (
      arith,
      more,
      ap (λ (some : List VersionRow). sum_by (λ (row : VersionRow). content_size row.content) some)
          (none_kept (λ (row : VersionRow). owner_of t.nodes row.node == user) t.versions
          (All-weaker (λ (row : VersionRow). is_over t (rows.Version row) ≡ false) (λ (row : VersionRow). (owner_of t.nodes row.node == user) ≡ false)
          (other more) t.versions none)),
    )))
    (λ le. le)
    (cases_lt (versions_bound (quota_of t user) (charge_of t user)) (held_bytes t user))
  where
    other : versions_bound (quota_of t user) (charge_of t user) < held_bytes t user → (row : VersionRow) → is_over t (rows.Version row) ≡ false
        → (owner_of t.nodes row.node == user) ≡ false
    other more row within =
        elim (cases_Bool (owner_of t.nodes row.node == user)) [
          | inl own ↦
              (let le = ltb-false (versions_bound (quota_of t user) (charge_of t user)) (held_bytes t user)
              (subst (λ (u : ℕ). are_unsettled t u ≡ false) (eqb-true (owner_of t.nodes row.node) user own) within) in
              absurd (omega (arith, more, le)))
          | inr not ↦ not
        ]

-- where no item is one of too many bytes, each user's are within their bound
bounded_from : (t : Tables) → All (λ (row : ItemRow). is_over t (rows.Item row) ≡ false) t.items → AreTrashesBounded t
bounded_from t none user =
    ⊎_elim
    (λ more. absurd (omega (
      arith,
      more,
      ap (λ (some : List ItemRow). sum_by (item_size t) some)
          (none_kept (λ (row : ItemRow). row.owner == user) t.items
          (All-weaker (λ (row : ItemRow). is_over t (rows.Item row) ≡ false) (λ (row : ItemRow). (row.owner == user) ≡ false)
          (other more) t.items none)),
    )))
    (λ le. le)
    (cases_lt (trash_bound (quota_of t user)) (trash_bytes t user))
  where
    other : trash_bound (quota_of t user) < trash_bytes t user → (row : ItemRow) → is_over t (rows.Item row) ≡ false → (row.owner == user) ≡ false
    other more row within =
        elim (cases_Bool (row.owner == user)) [
          | inl own ↦
              (let le = ltb-false (trash_bound (quota_of t user)) (trash_bytes t user)
              (subst (λ (u : ℕ). is_heaped t u ≡ false) (eqb-true row.owner user own) within) in
              absurd (omega (arith, more, le)))
          | inr not ↦ not
        ]

-- ---- shares and mounts

shares_ruled : (all : List Row) → Known all → All (IsShareRuled (tables_of all)) (tables_of all).shares
shares_ruled all h =
    let t : Tables = tables_of all in
    let numbers = all_have (λ row. are_numbers t.meta row ≡ true) all h.numbers in
    let there = all_have (λ row. names_are_there t row ≡ true) all h.there in
    let well = all_have (λ row. is_shared_well t row ≡ true) all h.well in
    λ k d less. record { numbers = numbers.shares k d less; names = there.shares k d less; kept = well.shares k d less }

mounts_ruled : (all : List Row) → Known all → All (IsMountRuled (tables_of all)) (tables_of all).mounts
mounts_ruled all h =
    let t : Tables = tables_of all in
    let numbers = all_have (λ row. are_numbers t.meta row ≡ true) all h.numbers in
    λ k d less.
    let parts = and_parts _ _ (numbers.mounts k d less) in
    record { user = given t.meta.next_user _ parts.0; node = given t.meta.next_node _ parts.1 }

others : (all : List Row) → All IsKept all → Known all → AreOthersSound (tables_of all)
others all kept h =
    let t : Tables = tables_of all in
    let keeps = all_have IsKept all kept in
    let rising = tables_rise all in
    let among = all_have (IsAmong all) all (each_among all) in
    let there = all_have (λ row. names_are_there t row ≡ true) all h.there in
    let numbers = all_have (λ row. are_numbers t.meta row ≡ true) all h.numbers in
    let placed = all_have (λ row. is_placed t row ≡ true) all h.placed in
    let well = all_have (λ row. is_shared_well t row ≡ true) all h.well in
    let within = all_have (λ row. is_beyond t row ≡ false) all h.few in
    let roots = All-weaker (λ (row : UserRow). is_placed t (rows.User row) ≡ true) (HasRoot t) (has_root t) t.users placed.users in
    let apart = names_differ mount_key rows.Mount (λ row. refl) t all t.mounts h.names rising.mounts among.mounts in
    record {
      shares = All-weaker (IsShareRuled t) (IsShareSound t) (λ row. share_sound t row roots) t.shares (shares_ruled all h);
      shares_rise = rising.shares;
      few_shares = few t.shares MAX_SHARES within.shares;
      mounts = λ k d less.
          let row : MountRow = get_or t.mounts k d in
          mount_sound t row (mounts_ruled all h k d less) (there.mounts k d less) (well.mounts k d less)
          (name_free t all row h.names among.nodes (among.mounts k d less));
      mounts_rise = rising.mounts;
      mounts_apart = λ i j d before less users shown other same.
          let a : MountRow = get_or t.mounts i d in
          let b : MountRow = get_or t.mounts j d in
          apart i j d before less (6 ∷ root_folder t.users a.user ∷ a.name) (mount_key_is t a shown)
          (mount_key_is t b other ∙ ap (λ (user : ℕ). Some (6 ∷ root_folder t.users user ∷ b.name)) (sym users)
          ∙ ap (λ (name : List ℕ). Some (6 ∷ root_folder t.users a.user ∷ name)) (sym same));
      few_mounts = few t.mounts MAX_MOUNTS within.mounts;
      versions = λ k d less.
          version_sound t (get_or t.versions k d) (numbers.versions k d less) (keeps.versions k d less) (placed.versions k d less);
      versions_rise = rising.versions;
      few_versions = few t.versions MAX_VERSIONS
          (All-weaker (λ (row : VersionRow). is_beyond t (rows.Version row) ≡ false)
          (λ (row : VersionRow). nat_lt MAX_VERSIONS (length t.versions) ≡ false)
          (λ row fails. (or_parts (nat_lt MAX_VERSIONS (length t.versions)) _ fails).0) t.versions within.versions);
      items = λ k d less. item_sound t (get_or t.items k d) (numbers.items k d less) (placed.items k d less);
      items_rise = rising.items;
      uploads = λ k d less. upload_sound t (get_or t.uploads k d) (numbers.uploads k d less) (there.uploads k d less);
      uploads_rise = rising.uploads;
      few_uploads = few_uploads t within.uploads;
      chunks = λ k d less.
          chunk_sound t (get_or t.chunks k d) (numbers.chunks k d less) (keeps.chunks k d less) (there.chunks k d less) (within.chunks k d less);
      chunks_rise = rising.chunks;
      few_pending = few_pending t within.chunks;
    }

-- ---- all of them

sound : (all : List Row) → All IsKept all → Known all → AreSound (tables_of all)
sound all kept h =
    let t : Tables = tables_of all in
    let rising = tables_rise all in
    let among = all_have (IsAmong all) all (each_among all) in
    let numbers = all_have (λ row. are_numbers t.meta row ≡ true) all h.numbers in
    let keeps = all_have IsKept all kept in
    let placed = all_have (λ row. is_placed t row ≡ true) all h.placed in
    let there = all_have (λ row. names_are_there t row ≡ true) all h.there in
    let within = all_have (λ row. is_beyond t row ≡ false) all h.few in
    let apart = names_differ node_key rows.Node (λ row. refl) t all t.nodes h.names rising.nodes among.nodes in
    let rises : AllPairs (λ (a b : NodeRow). a.id < b.id) t.nodes =
    λ i j d before less. below_one (get_or t.nodes i d).id (get_or t.nodes j d).id (rising.nodes i j d before less) in
    record {
      counters = counters t.meta (meta_has (λ row. are_numbers t.meta row ≡ true) all h.meta h.numbers);
      rising = rises;
      nodes = λ k d less. node_sound t (get_or t.nodes k d) (numbers.nodes k d less) (keeps.nodes k d less) (placed.nodes k d less)
          (node_row_each t.nodes rises k d less);
      names = λ i j d before less folder place other same.
          let a : NodeRow = get_or t.nodes i d in
          let b : NodeRow = get_or t.nodes j d in
          apart i j d before less (6 ∷ folder ∷ a.name)
          (ap (λ (p : Place). child_key p a.name) place)
          (ap (λ (p : Place). child_key p b.name) other ∙ ap (λ (name : List ℕ). Some (6 ∷ folder ∷ name)) (sym same));
      users_given = λ k d less. (given t.meta.next_user _ (and_parts _ _ (numbers.users k d less)).0).below;
      members_there = λ k d less. (and_parts _ _ (there.members k d less)).1;
      groups_given = λ k d less. (given t.meta.next_group _ (numbers.groups k d less)).below;
      roots = All-weaker (λ (row : UserRow). is_placed t (rows.User row) ≡ true) (HasRoot t) (has_root t) t.users placed.users;
      few_nodes = few t.nodes (count_of limit.Nodes)
          (All-weaker (λ (row : NodeRow). is_beyond t (rows.Node row) ≡ false)
          (λ (row : NodeRow). nat_lt (count_of limit.Nodes) (length t.nodes) ≡ false)
          (λ row fails. (or_parts (nat_lt (count_of limit.Nodes) (length t.nodes)) _ fails).0) t.nodes within.nodes);
      few_pieces = few_pieces t within.nodes within.versions within.chunks;
      others = others all kept h;
    }

pub unbroken_are_ruled : UnbrokenAreRuled
unbroken_are_ruled all kept none =
    let h = known all none in
    let t : Tables = tables_of all in
    let rising = tables_rise all in
    let among = all_have (IsAmong all) all (each_among all) in
    let numbers = all_have (λ row. are_numbers t.meta row ≡ true) all h.numbers in
    let there = all_have (λ row. names_are_there t row ≡ true) all h.there in
    let placed = all_have (λ row. is_placed t row ≡ true) all h.placed in
    let within = all_have (λ row. is_beyond t row ≡ false) all h.few in
    let modest = all_have (λ row. is_over t row ≡ false) all h.modest in
    let users = names_differ user_key rows.User (λ row. refl) t all t.users h.names rising.users among.users in
    let groups = names_differ group_key rows.Group (λ row. refl) t all t.groups h.names rising.groups among.groups in
    let shares = names_differ share_key rows.Share (λ row. refl) t all t.shares h.names rising.shares among.shares in
    record {
      settled = settled_from t modest.versions;
      bounded = bounded_from t modest.items;
      ordered = record {
        sound = sound all kept h;
        rising = rising;
        owners = λ k d less. (and_parts _ _ (there.nodes k d less)).0;
        users = λ k d less.
            let parts = and_parts _ _ (numbers.users k d less) in
            record {
              id = given t.meta.next_user _ parts.0;
              root = given t.meta.next_node _ parts.1;
              quota = ltb-false MAX_QUOTA _ (modest.users k d less);
            };
        tokens = λ k d less. record { given = given t.meta.next_user _ (numbers.tokens k d less); user = there.tokens k d less };
        groups = λ k d less. record { id = given t.meta.next_group _ (numbers.groups k d less) };
        members = λ k d less.
            let parts = and_parts _ _ (numbers.members k d less) in
            let names = and_parts _ _ (there.members k d less) in
            record {
              given_group = given t.meta.next_group _ parts.0;
              given_user = given t.meta.next_user _ parts.1;
              group = names.0;
              user = names.1;
            };
        shares = shares_ruled all h;
        mounts = mounts_ruled all h;
        items = λ k d less. item_ruled t (get_or t.items k d) (numbers.items k d less) (placed.items k d less);
        user_names = λ i j d before less same. users i j d before less (2 ∷ (get_or t.users i d).name) refl
            (ap (λ (name : List ℕ). Some (2 ∷ name)) (sym same));
        group_names = λ i j d before less same. groups i j d before less (4 ∷ (get_or t.groups i d).name) refl
            (ap (λ (name : List ℕ). Some (4 ∷ name)) (sym same));
        tokens_apart = λ i j d before less token first second. shares i j d before less (7 ∷ token) (ap link_key first) (ap link_key second);
        few_users = few t.users MAX_USERS within.users;
        few_groups = few t.groups MAX_GROUPS within.groups;
        few_tokens = few t.tokens MAX_TOKENS within.tokens;
        few_members = few t.members MAX_MEMBERS within.members;
      };
    }
