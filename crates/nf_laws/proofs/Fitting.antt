-- What fits what is needed: what becomes of nodes, shares, mounts and items, but by what is asked about users, groups and the trash.
use Rattle.std.proofs.Common.{ℕ, ◌==◌, ◌≡◌, ◌≢◌, ◌⊎◌, ◌≤◌, suc, Bool, true, false, not, List, [], ◌∷◌, ◌++◌, Option, None, Some, option_map, if◌then◌else◌, map, inl, inr, refl, sym, ap, subst, ◌∙◌, arith, length, flat_map, ◌+◌}
use Rattle.std.specs.Prelude.{is_some}
use Rattle.std.specs.List.{All}
use Rattle.std.specs.Option.{option_and_then, option_map_or, option_or}
use Rattle.std.specs.declared.cmp.Ordering.{Ordering}
use Rattle.std.specs.declared.cmp.Ordering.TheVariants.{Equal, Less}
use Rattle.std.proofs.lemmas.Bool.{both_ways, cases_Bool, cases_lt, cond_both, eq-eqb, eqb-true, false≢true}
use Rattle.std.proofs.lemmas.Cmp.{tied_itself}
use Rattle.std.proofs.lemmas.List.{append_assoc, append-nil}
use Rattle.std.proofs.lemmas.List.Elements.{All-cons, All-contains, All-head, All-nil, All-tail, Contains-append_right}
use Rattle.std.proofs.lemmas.Option.{none-some, same_Some}
use Rattle.nf_access.specs.Mounts.{is_mount_of, mount_at, mount_row}
use Rattle.nf_base.specs.declared.content.Piece.{Piece}
use Rattle.nf_base.specs.declared.perms.Act.{Act}
use Rattle.nf_base.specs.declared.perms.Act.TheVariants as act
use Rattle.nf_base.specs.declared.rows.MetaRow.{MetaRow}
use Rattle.nf_base.specs.declared.rows.MountRow.{MountRow}
use Rattle.nf_base.specs.declared.rows.NodeKind.{NodeKind}
use Rattle.nf_base.specs.declared.rows.NodeKind.TheVariants.{Folder}
use Rattle.nf_base.specs.declared.rows.NodeRow.{NodeRow}
use Rattle.nf_base.specs.declared.rows.Place.{Place}
use Rattle.nf_defs.proofs.Puts.{below_rest, key_total, tail_rising, turned}
use Rattle.nf_defs.specs.Prelude.{by_order, child_of, content_of, is_folder, is_under, IsRising, key_cmp, mount_key, node_row, owner_of, parent_of, put, relinked, Tables, put_all}
use Rattle.nf_defs.specs.declared.Found.{Found}
use Rattle.nf_defs.specs.declared.Found.TheVariants.{At, Free, Missing}
use Rattle.nf_defs.specs.declared.Seeker.{Seeker}
use Rattle.nf_laws.proofs.Acting.{added_rows}
use Rattle.nf_laws.proofs.Acted.{IsNew, NoNode}
use Rattle.nf_laws.proofs.Asking.{asks_share, OneShare}
use Rattle.nf_laws.proofs.Carried.{AreJoined, copying_kind, crossing_kind, IsRelinked, Kind, leaving_kind, meta_with, moving_kind}
use Rattle.nf_laws.proofs.Following.{AllFollow, added_follow, copy_follows, kept_shares, filled_follow, shares_gone}
use Rattle.nf_laws.proofs.InTurn.{deeds_append}
use Rattle.nf_laws.proofs.Leaving.{acted_follow, acted_items, acted_shares, IsBesideOne, same_items}
use Rattle.nf_laws.proofs.Mirrored.{mirrored}
use Rattle.nf_laws.proofs.Others.{stamp_sound}
use Rattle.nf_laws.proofs.Parts.{deeds_stamped}
use Rattle.nf_laws.proofs.Parts.{copies_stamped, leaving_stamped, transfer_stamped}
use Rattle.nf_laws.proofs.Reaching.{way_mount}
use Rattle.nf_laws.proofs.Remaining.{added_present, gone_present, KeepsPresent, filled_present}
use Rattle.nf_laws.proofs.Rows.{found_is, inside_folder, parent_there, row_id, stamp, stamped_has}
use Rattle.nf_laws.proofs.Upwards.{climbs_is_under}
use Rattle.nf_laws.specs.Acts.{IsAdded, IsRefilled}
use Rattle.nf_laws.specs.Access.{Follows, IsNeeded, IsOwnPath, ItemsFollow, KeepsShares, Remounts, is_left, is_moved, is_renamed, is_updated}
use Rattle.nf_laws.specs.Transfers.{replaced_by}
use Rattle.nf_words.proofs.Begins.{delete_leaves, only_at, places_at, WantedPasses}
use Rattle.nf_words.proofs.Fits.{within}
use Rattle.nf_words.proofs.Known.{KnownCopies, KnownLeaving, KnownTransfer}
use Rattle.nf_words.proofs.Mounting.{mounts_differ, own_known, same_key, shown_mount}
use Rattle.nf_words.proofs.Starts.{IsAsking, itself_seeks}
use Rattle.nf_words.proofs.Transfers.{copies_known, no_mount, no_starts, transfer_known, transfer_parts}
use Rattle.nf_words.proofs.Ways.{free_no_mount, slot_known}
use Rattle.nf_words.specs.Needed.{source_act, target_needs, act_asked, node_asked}
use Rattle.nf_words.specs.Prelude.{access_of, AreSound, asked_of, asker_of, by_of, beside, Call, carry_limit, changed, copied, copies, copies_to, copy_limit, crosses, crossing, deeds_done, deepest_in, deleted, discard, fault_of_ask, folder_at, found, given, is_itself, is_one, is_start, is_within, last_name, LeadsToRoot, left_row, limited, listing_of, made_folder, made_or_done, mount_for, mount_left, mount_of, mount_renamed, mounted, move_limit, moved, moves, named_row, Need, needed, needs, needs_at, needs_between, needs_in, node_at, node_found, own_mount, purges, root_of, row_at, seeker_of, served, shared, stored, told, transfer_of, unfit_between, unreached, Way, way_by, way_of, with_mount_row, forgets, brought_back, refills, settled_by, charged_for, copies_settled, unsettled, purged_by, version_done, version_row, nothing_done}
use Rattle.nf_words.specs.declared.answer.Allowed.TheVariants as allowed
use Rattle.nf_words.specs.declared.answer.By.{By}
use Rattle.nf_words.specs.declared.answer.Deed.{Deed}
use Rattle.nf_words.specs.declared.answer.Report.{Report}
use Rattle.nf_words.specs.declared.answer.Report.TheVariants as report
use Rattle.nf_words.specs.declared.request.Making.TheVariants as making
use Rattle.nf_words.specs.declared.request.Places.{Places}
use Rattle.nf_words.specs.declared.request.ShareAsk.{ShareAsk}
use Rattle.nf_words.specs.declared.request.Spot.{Spot}
use Rattle.nf_words.specs.declared.request.Transfer.{Transfer}
use Rattle.nf_words.specs.declared.request.Wanted.{Wanted}
use Rattle.nf_words.specs.declared.request.Wanted.TheVariants.{Get, Put, Mkcol, Delete, Move, Copy, People, Share, Trash}
use Rattle.nf_words.specs.declared.request.Wanted.TheVariants as want
use Rattle.nf_retention.specs.declared.versions.Version.{Version}
use Rattle.nf_base.specs.declared.rows.VersionRow.{VersionRow}
use Rattle.nf_laws.proofs.Refilled.{IsFilledAt, filled_at, changed_rest, nodes_filled, refills_made}
use Rattle.nf_words.specs.declared.answer.Allowed.{Allowed}
use Rattle.nf_words.specs.declared.request.VersionAsk.{VersionAsk}
use Rattle.nf_words.specs.declared.request.VersionAsk.TheVariants as version

-- ---- what fits

-- but for the meta row, nodes, shares, mounts, versions and items all is as it was
abbrev pub KeepsRest : Tables → Tables → Type 0
KeepsRest t made = made ≡ record t {
  meta = made.meta;
  nodes = made.nodes;
  shares = made.shares;
  mounts = made.mounts;
  versions = made.versions;
  items = made.items;
}

-- between, what became of each node and item whose row is another follows from what is needed. Just the shares end of nodes that aren't
-- present any more, and mounts are as they were, or both are as something else has it. Then items go, of the owners of what is deleted, and versions
pub record Fits (t : Tables) (now : ℕ) (needs : List Need) (Other : Tables → Type 0) (made : Tables) : Type 0 where
  pub between : Tables
  pub follow : AllFollow needs t.nodes between.nodes
  pub others : (AreSound made → KeepsShares t between) ⊎ Other between
  pub items : ItemsFollow needs now t.items between.items
  pub rest : KeepsRest t between
  pub gone : List ℕ
  pub beside : All (IsBesideOne t needs) gone
  pub versions : List Version
  pub made_is : made ≡ deeds_done between (purges gone ++ forgets versions)

-- ---- where nothing leaves its place

-- where a row is another what became of the node follows from what is needed, and what is present and there stays present. The shares of
-- nodes that are gone end and mounts are as they were, or both are as something else has it
pub record FitsAlone (t : Tables) (needs : List Need) (Other : Tables → Type 0) (made : Tables) : Type 0 where
  pub follow : AllFollow needs t.nodes made.nodes
  pub present : KeepsPresent t.nodes made.nodes
  pub others : ((made.shares ≡ shares_gone t.nodes made.nodes t.shares) × (made.mounts ≡ t.mounts)) ⊎ Other made
  pub rest : made ≡ record t { meta = made.meta; nodes = made.nodes; shares = made.shares; mounts = made.mounts; versions = made.versions }

pub alone_fits : (t made : Tables) (now : ℕ) (needs : List Need) (Other : Tables → Type 0) → AreSound t → FitsAlone t needs Other made
    → Fits t now needs Other made
alone_fits t made now needs Other sound alone = record {
  between = made;
  follow = alone.follow;
  others = elim alone.others [
    | inl keeps ↦ inl (λ fine. record { shares = keeps.0 ∙ gone_present t made sound fine alone.present; mounts = keeps.1 })
    | inr one ↦ inr one
  ];
  items = subst (ItemsFollow needs now t.items) (sym (ap (λ (u : Tables). u.items) alone.rest)) (same_items needs now t.items);
  rest = subst (KeepsRest t) (sym alone.rest) refl;
  gone = [];
  beside = All-nil (IsBesideOne t needs);
  versions = [];
  made_is = refl;
}

same_follow : (needs : List Need) (rows : List NodeRow) → AllFollow needs rows rows
same_follow needs rows node differs = absurd (differs refl)

same_fits : (t : Tables) (now : ℕ) (needs : List Need) (Other : Tables → Type 0) → AreSound t → Fits t now needs Other t
same_fits t now needs Other sound =
    alone_fits t t now needs Other sound (record {
      follow = same_follow needs t.nodes;
      present = λ node up there. up;
      others = inl (kept_shares t.nodes t.nodes t.shares (λ node there. there), refl);
      rest = refl;
    })

-- where a node is added, or refilled
pub added_fits : (t made : Tables) (now folder : ℕ) (name : List ℕ) (kind : NodeKind) (content : List Piece) (needs : List Need)
    (Other : Tables → Type 0) → AreSound t → IsAdded t made now folder name kind content → IsNeeded needs act.Create folder
    → Fits t now needs Other made
added_fits t made now folder name kind content needs Other sound is needed =
    alone_fits t made now needs Other sound (record {
      follow = added_follow t made now folder name kind content needs is needed;
      present = added_present t made now folder name kind content sound is;
      others = inl (ap (λ (u : Tables). u.shares) is.rest ∙ kept_shares t.nodes made.nodes t.shares stay, ap (λ (u : Tables). u.mounts) is.rest);
      rest = subst (λ (u : Tables). u ≡ record t { meta = u.meta; nodes = u.nodes; shares = u.shares; mounts = u.mounts; versions = u.versions }) (sym is.rest) refl;
    })
  where
    stay : (node : ℕ) → is_some (node_row t.nodes node) ≡ true → is_some (node_row made.nodes node) ≡ true
    stay node there =
        elim (cases_Bool (node == t.meta.next_node)) [
          | inl same ↦ ap is_some (ap (node_row made.nodes) (eqb-true node t.meta.next_node same) ∙ is.itself)
          | inr other ↦ ap is_some (is.others node (λ e. both_ways (node == t.meta.next_node) other (eq-eqb node t.meta.next_node e))) ∙ there
        ]

-- where a file is filled
pub filled_fits : (t : Tables) (nodes : List NodeRow) (meta : MetaRow) (versions : List VersionRow) (now node : ℕ) (content : List Piece) (needs : List Need)
    (Other : Tables → Type 0) → AreSound t → IsFilledAt t.nodes nodes now node content → IsNeeded needs act.Update node
    → Fits t now needs Other (record t { meta = meta; nodes = nodes; versions = versions })
filled_fits t nodes meta versions now node content needs Other sound is needed =
    alone_fits t (record t { meta = meta; nodes = nodes; versions = versions }) now needs Other sound (record {
      follow = filled_follow t.nodes nodes now node content needs is needed;
      present = filled_present t.nodes nodes now node content is;
      others = inl (kept_shares t.nodes nodes t.shares stay, refl);
      rest = refl;
    })
  where
    stay : (other : ℕ) → is_some (node_row t.nodes other) ≡ true → is_some (node_row nodes other) ≡ true
    stay other there =
        elim (cases_Bool (other == node)) [
          | inl same ↦ ap is_some (ap (node_row nodes) (eqb-true other node same) ∙ is.itself)
          | inr differs ↦ ap is_some (is.others other (λ e. both_ways (other == node) differs (eq-eqb other node e))) ∙ there
        ]

pub refilled_fits : (t made : Tables) (now node : ℕ) (content : List Piece) (needs : List Need) (Other : Tables → Type 0) → AreSound t
    → IsRefilled t made now node content → IsNeeded needs act.Update node → Fits t now needs Other made
refilled_fits t made now node content needs Other sound is needed =
    let meta = record t.meta { next_blob = t.meta.next_blob + length content; last = made.meta.last } in
    subst (Fits t now needs Other) (sym is.rest)
    (filled_fits t made.nodes meta made.versions now node content needs Other sound
    (record { row = is.row; there = is.there; itself = is.itself; others = is.others }) needed)

-- where a version is its file's content again
back_fits : (t : Tables) (now node : ℕ) (version : VersionRow) (needs : List Need) (Other : Tables → Type 0) → AreSound t
    → IsNeeded needs act.Update node → Fits t now needs Other (changed t now (brought_back t now node version))
back_fits t now node version needs Other sound needed = here (node_row t.nodes node) refl
  where
    act_of : Option NodeRow → Allowed
    act_of o = allowed.Change (option_map_or (refills t now (Some version.at) version.content) o []) None report.Done

    here : (o : Option NodeRow) → node_row t.nodes node ≡ o → Fits t now needs Other (changed t now (act_of o))
    here None there = same_fits t now needs Other sound
    here (Some row) there =
        let changes = refills t now (Some version.at) version.content row in
        let made = changed t now (act_of (Some row)) in
        let whole : made ≡ record t { meta = made.meta; nodes = nodes_filled t now version.content row; versions = (put_all t changes).versions } =
        changed_rest t now changes None report.Done
        ∙ ap (λ (u : Tables). record u { meta = made.meta }) (refills_made t now (Some version.at) version.content row) in
        subst (Fits t now needs Other) (sym whole)
        (filled_fits t (nodes_filled t now version.content row) made.meta (put_all t changes).versions now node version.content needs Other sound
        (filled_at t now node version.content row sound there) needed)

-- ---- where nodes leave their places

module _ (t : Tables) (now : ℕ) (deeds : List Deed) (leave : List ℕ) (IsPut : ℕ → Type 0) (Put : Tables → Type 0) (meta : MetaRow)
    (sound : AreSound t) (later : t.meta.last ≤ now) (kind : Kind (stamp t now) now deeds leave IsPut Put meta) (needs : List Need)
    (needed : All (IsNeeded needs act.Delete) leave) (Other : Tables → Type 0) where
  abbrev acts : Tables
  acts = deeds_done (stamp t now) (kind.one ∷ kind.more)

  then_goes : (gone : List Version) → stamp (deeds_done t (deeds ++ forgets gone)) now ≡ deeds_done acts (purges kind.gone ++ forgets gone)
  then_goes gone =
      sym (deeds_stamped t now (deeds ++ forgets gone)) ∙ ap (λ (first : List Deed). deeds_done (stamp t now) (first ++ forgets gone)) kind.are
      ∙ ap (deeds_done (stamp t now)) (append_assoc (kind.one ∷ kind.more) (purges kind.gone) (forgets gone))
      ∙ deeds_append (stamp t now) (kind.one ∷ kind.more) (purges kind.gone ++ forgets gone)

  -- where what becomes of what is put somewhere follows from what is needed
  kind_fits : (versions : List Version)
      → ((node : ℕ) → (IsPut node → ⊥) ⊎ (node_row acts.nodes node ≢ node_row t.nodes node → Follows needs t.nodes acts.nodes node))
      → Fits t now needs Other (stamp (deeds_done t (deeds ++ forgets versions)) now)
  kind_fits versions puts =
      let fine = stamp_sound t now sound later in
      record {
        between = acts;
        follow = acted_follow (stamp t now) acts now leave IsPut needs fine kind.acted needed puts;
        others = inl (λ any. record {
          shares = acted_shares (stamp t now) acts now leave IsPut needs fine kind.acted needed;
          mounts = ap (λ (u : Tables). u.mounts) kind.rest;
        });
        items = acted_items (stamp t now) acts now leave IsPut needs fine kind.acted needed;
        rest = subst (KeepsRest t) (sym kind.rest) refl;
        gone = kind.gone;
        beside = λ k d within.
            let one = kind.beside k d within in
            (one.0, All-contains (IsNeeded needs act.Delete) leave one.0 needed one.1, one.2);
        versions = versions;
        made_is = then_goes versions;
      }

-- the first of what is needed
pub first_needed : (need : Need) (others : List Need) → IsNeeded (need ∷ others) need.act need.node
first_needed need others = (need.mount, (0, omega arith, refl))

second_needed : (first need : Need) (others : List Need) → IsNeeded (first ∷ need ∷ others) need.act need.node
second_needed first need others = (need.mount, (1, omega arith, refl))

-- ---- another row of a mount

-- it is put where the old one was
remounted_rows : (row old : MountRow) (rows : List MountRow) → IsRising mount_key rows → mount_row rows row.user row.node ≡ Some old
    → put mount_key row rows ≡ map (λ other. if is_mount_of row.user row.node other then row else other) rows
remounted_rows row old [] rising is = absurd (none-some old is)
remounted_rows row old (x ∷ rows) rising is =
    elim (cases_Bool (sought x)) [
      | inl first ↦
          (let equal : key_cmp (mount_key row) (mount_key x) ≡ Equal =
          ap (key_cmp (mount_key row)) (key_is x first) ∙ tied_itself key_total (mount_key row) in
          ap choice equal ∙ simp first (ap (λ (rest : List MountRow). row ∷ rest) (sym (none_sought rows (λ k d within.
          mounts_differ (x ∷ rows) row.user row.node rising 0 (suc k) d (omega arith) (omega arith) first)))))
      | inr other ↦
          (let found : mount_row rows row.user row.node ≡ Some old = simp other at is in
          let at = found_is (λ (y : MountRow). key_cmp (mount_key x) (mount_key y) ≡ Less) sought rows old (below_rest mount_key x rows rising) found in
          let less : key_cmp (mount_key x) (mount_key row) ≡ Less = ap (key_cmp (mount_key x)) (sym (key_is old at.0)) ∙ at.1 in
          ap choice (turned (mount_key x) (mount_key row) Less less)
          ∙ simp other (ap (λ (rest : List MountRow). x ∷ rest) (remounted_rows row old rows (tail_rising mount_key x rows rising) found)))
    ]
  where
    sought : MountRow → Bool
    sought = is_mount_of row.user row.node

    choice : Ordering → List MountRow
    choice o = by_order o (row ∷ x ∷ rows) (row ∷ rows) (x ∷ put mount_key row rows)

    key_is : (y : MountRow) → sought y ≡ true → mount_key y ≡ mount_key row
    key_is y passes = same_key row.user row.node y row passes (itself (eq-eqb row.user row.user refl) (eq-eqb row.node row.node refl))
      where
        itself : (row.user == row.user) ≡ true → (row.node == row.node) ≡ true → sought row ≡ true
        itself user node = rw (user, node) refl

    none_sought : (rows : List MountRow) → All (λ (y : MountRow). sought y ≡ false) rows
        → map (λ other. if sought other then row else other) rows ≡ rows
    none_sought [] none = refl
    none_sought (y ∷ rows) none =
        let None : MountRow → Type 0 = λ y. sought y ≡ false in
        simp (All-head None y rows none) (ap (λ (rest : List MountRow). y ∷ rest) (none_sought rows (All-tail None y rows none)))

-- the one name of a mount's own path is the mount's
path_named : (t : Tables) (user root : ℕ) (path : List (List ℕ)) (node : ℕ) (row : MountRow) → AreSound t → is_one path ≡ true
    → mounted t.nodes t.mounts user root path ≡ Some node → mount_row t.mounts user node ≡ Some row → path ≡ row.name ∷ []
path_named t user root [] node row sound one by there = absurd (false≢true one)
path_named t user root (name ∷ []) node row sound one by there =
    let shown = shown_mount t user name node sound (unless (is_some (child_of t.nodes root name)) by) in
    let same : shown.0 ≡ row = same_Some shown.0 row (sym shown.1 ∙ there) in
    ap (λ (n : List ℕ). n ∷ []) (sym shown.4 ∙ ap (λ (r : MountRow). r.name) same)
  where
    unless : (b : Bool) → (if b then None else mount_at t.mounts user name) ≡ Some node → mount_at t.mounts user name ≡ Some node
    unless true is = absurd (none-some node is)
    unless false is = is
path_named t user root (name ∷ other ∷ names) node row sound one by there = absurd (false≢true one)

-- of a call one mount is another, whose own path it names
pub record OneMount (call : Call) (made : Tables) : Type 0 where
  pub old : MountRow
  pub row : MountRow
  pub there : mount_row call.state.tables.mounts old.user old.node ≡ Some old
  pub becomes : Remounts call old row
  pub mounts : made.mounts ≡ map (λ other. if is_mount_of old.user old.node other then row else other) call.state.tables.mounts
  pub nodes : made.nodes ≡ call.state.tables.nodes
  pub shares : made.shares ≡ call.state.tables.shares

-- or one share is
abbrev pub OneOther : Call → Tables → Type 0
OneOther call made = OneMount call made ⊎ OneShare call made

-- ---- what is needed of transfers

abbrev pub need_of : Act → ℕ → Option ℕ → Need
need_of act node mount = record { act = act; node = node; mount = mount }

-- of what is moved, within its folder or to another, and of what is copied, by the mounts of both ways
abbrev moved_needs : Bool → Option ℕ → Option ℕ → Transfer → List Need
moved_needs true from to transfer = need_of act.Update transfer.node from ∷ needs act.Delete transfer.replaced to
moved_needs false from to transfer =
    need_of act.Delete transfer.node from ∷ need_of act.Create transfer.folder to ∷ needs act.Delete transfer.replaced to

abbrev copied_needs : Option ℕ → Option ℕ → Transfer → List Need
copied_needs from to transfer =
    need_of act.Read transfer.node from ∷ need_of act.Create transfer.folder to ∷ needs act.Delete transfer.replaced to

-- a transfer and the places that it is between
record IsBetween (rows : List NodeRow) (from to : Found) (transfer : Transfer) : Type 0 where
  source : from ≡ At transfer.node
  replaced : node_found to ≡ transfer.replaced
  folder : folder_at rows to ≡ Some transfer.folder

between : (rows : List NodeRow) (from to : Found) (transfer : Transfer)
    → transfer_of rows (record { source = Some from; target = Some to }) ≡ Some transfer → IsBetween rows from to transfer
between rows (At node) to transfer is =
    let parts = transfer_parts rows node to transfer is in record { source = ap At parts.0; replaced = parts.1; folder = parts.2 }
between rows nowhere to transfer is = absurd (none-some transfer is)

move_needs : (rows : List NodeRow) (root : ℕ) (source target : Spot) (overwrite : Bool) (from to : Way) (transfer : Transfer) (b : Bool)
    → IsBetween rows from.place to.place transfer → to.itself ≡ false → is_start root to.place ≡ false → is_within rows root (Some from) (Some to) ≡ b
    → needs_at (source_act true b) from ++ target_needs making.Moved rows root b to
    ≡ moved_needs b from.mount to.mount transfer
move_needs rows root source target overwrite from to transfer true is other on within = rw (is.source, is.replaced) refl
move_needs rows root source target overwrite from to transfer false is other on within = rw (other, on, is.source, is.replaced, is.folder) refl

copy_needs : (rows : List NodeRow) (root : ℕ) (source target : Spot) (overwrite : Bool) (from to : Way) (transfer : Transfer)
    → IsBetween rows from.place to.place transfer → to.itself ≡ false → is_start root to.place ≡ false
    → needs_between rows root (asked_of (Copy source target overwrite)) (Some from) (Some to) ≡ copied_needs from.mount to.mount transfer
copy_needs rows root source target overwrite from to transfer is other on = rw (other, on, is.source, is.replaced, is.folder) refl

-- what is replaced is deleted, whatever else is needed
replaced_needed : (front : List Need) (replaced to : Option ℕ)
    → All (IsNeeded (front ++ needs act.Delete replaced to) act.Delete) (option_map_or (λ node. node ∷ []) replaced [])
replaced_needed front None to = All-nil (IsNeeded (front ++ []) act.Delete)
replaced_needed front (Some top) to =
    let all = front ++ need_of act.Delete top to ∷ [] in
    All-cons (IsNeeded all act.Delete) top []
    (to, Contains-append_right front (need_of act.Delete top to ∷ []) (need_of act.Delete top to) (0, omega arith, refl))
    (All-nil (IsNeeded all act.Delete))

-- a node that is moved within its folder is in the target's
within_folder : (t : Tables) (root : ℕ) (from to : Way) (transfer : Transfer) → AreSound t → is_under t.nodes transfer.folder transfer.node ≡ false
    → IsBetween t.nodes from.place to.place transfer → from.itself ≡ false → to.itself ≡ false
    → (is_start root from.place ≡ false) × (is_start root to.place ≡ false) → is_within t.nodes root (Some from) (Some to) ≡ true
    → parent_of t.nodes transfer.node ≡ Some transfer.folder
within_folder t root from to transfer sound outside is from_other to_other on within =
    here (parent_of t.nodes transfer.node) refl (rw (from_other, to_other, on.0, on.1, is.source, is.folder) at within)
  where
    here : (o : Option ℕ) → parent_of t.nodes transfer.node ≡ o
        → option_map_or (λ folder. folder == transfer.folder) (option_or o (Some transfer.node)) false ≡ true
        → parent_of t.nodes transfer.node ≡ Some transfer.folder
    here None e same =
        let itself = ap (λ (n : ℕ). Some n) (sym (eqb-true transfer.node transfer.folder same)) in
        absurd (both_ways (is_under t.nodes transfer.folder transfer.node) outside
        (climbs_is_under 0 t transfer.folder transfer.node sound itself))
    here (Some parent) e same = e ∙ ap (λ (n : ℕ). Some n) (eqb-true parent transfer.folder same)

-- so it stays its owner's
within_owner : (t : Tables) (transfer : Transfer) (row : NodeRow) → AreSound t → node_row t.nodes transfer.node ≡ Some row
    → parent_of t.nodes transfer.node ≡ Some transfer.folder → crosses t.nodes transfer ≡ false
within_owner t transfer row sound there above =
    let folder = parent_there t transfer.node transfer.folder row sound there above in
    let owner = λ (o : Option NodeRow). option_map_or (λ (row : NodeRow). row.owner) o 0 in
    ap not (eq-eqb (owner_of t.nodes transfer.node) (owner_of t.nodes transfer.folder) (ap owner there ∙ sym folder.3 ∙ sym (ap owner folder.1)))

-- ---- a Begin

-- something is asked about users, groups, the trash, versions or uploads
abbrev pub is_apart : Wanted → Bool
is_apart (People asked) = true
is_apart (Trash asked) = true
is_apart (want.Version asked) = true
is_apart (want.Upload asked) = true
is_apart wanted = false

-- that who is there makes
module _ (call : Call) (sound : AreSound call.state.tables) (later : call.state.tables.meta.last ≤ call.now) (is : IsAsking call) where
  abbrev t : Tables
  t = call.state.tables

  abbrev root : ℕ
  root = root_of call

  abbrev pub FitsCall : List Need → Tables → Type 0
  FitsCall needs made = Fits t call.now needs (OneOther call) made

  abbrev Reached : Spot → Type 0
  Reached spot = unreached (access_of call.state) call (way_of call spot) ≡ None

  -- ---- mounts

  one_of : (spot : Spot) → (way_of call spot).itself ≡ true → is_one spot.path ≡ true
  one_of spot itself = here (mount_of call spot) itself
    where
      here : (mount : Option ℕ) → (way_by t.nodes (seeker_of call) root spot.path mount).itself ≡ true → is_one spot.path ≡ true
      here None other = absurd (false≢true other)
      here (Some mount) one = sym (ap (λ (s : Seeker). is_itself s spot.path) (itself_seeks call spot itself)) ∙ one

  mount_fits : (spot : Spot) (change : MountRow → MountRow) (told : Report) (needs : List Need) → (way_of call spot).itself ≡ true
      → ((old : MountRow) → (change old).user ≡ old.user) → ((old : MountRow) → (change old).node ≡ old.node)
      → ((old : MountRow) → IsOwnPath call spot old → Remounts call old (change old))
      → FitsCall needs (changed t call.now (with_mount_row (option_map change (own_mount call (way_of call spot).mount)) told))
  mount_fits spot change told needs itself user node becomes =
      let own = own_known call spot sound itself in
      let old : MountRow = own.row in
      let there : mount_row t.mounts old.user old.node ≡ Some old =
      ap (λ (n : ℕ). mount_row t.mounts n old.node) own.user ∙ ap (mount_row t.mounts (asker_of call)) own.of_node ∙ own.there in
      let path = path_named t (asker_of call) root spot.path own.node old sound (one_of spot itself)
      (sym (ap (λ (s : Seeker). mount_for t.nodes t.mounts s root spot.path) (itself_seeks call spot itself)) ∙ sym (way_mount call spot) ∙ own.by)
      own.there in
      let rows = λ (u n : ℕ). map (λ (other : MountRow). if is_mount_of u n other then change old else other) t.mounts in
      let put_there : mount_row t.mounts (change old).user (change old).node ≡ Some old =
      (λ i. mount_row t.mounts (user old i) (node old i)) ∙ there in
      subst (λ (o : Option MountRow). FitsCall needs (changed t call.now (with_mount_row (option_map change o) told)))
      (sym (ap (own_mount call) own.by ∙ own.there))
      (alone_fits t _ call.now needs (OneOther call) sound (record {
        follow = same_follow needs t.nodes;
        present = λ node up there. up;
        others = inr (inl (record {
          old = old;
          row = change old;
          there = there;
          becomes = becomes old (record { user = own.user; shown = own.shown; path = path });
          mounts = remounted_rows (change old) old t.mounts sound.others.mounts_rise put_there ∙ (λ i. rows (user old i) (node old i));
          nodes = refl;
          shares = refl;
        }));
        rest = refl;
      }))

  -- ---- deeds

  -- the tables at the call's moment
  abbrev dated : Tables
  dated = stamp t call.now

  fine : AreSound dated
  fine = stamp_sound t call.now sound later

  kinds_fit : (deeds : List Deed) (gone : List Version) (answered : Report) (leave : List ℕ) (IsThere : ℕ → Type 0) (Holds : Tables → Type 0)
      (meta : MetaRow) (asked : List Need) (kind : Kind dated call.now deeds leave IsThere Holds meta) → All (IsNeeded asked act.Delete) leave
      → ((node : ℕ) → (IsThere node → ⊥) ⊎ (node_row (deeds_done dated (kind.one ∷ kind.more)).nodes node ≢ node_row t.nodes node
      → Follows asked t.nodes (deeds_done dated (kind.one ∷ kind.more)).nodes node))
      → FitsCall asked (changed t call.now (allowed.Deeds (deeds ++ forgets gone) answered))
  kinds_fit deeds gone answered leave IsThere Holds meta asked kind deleted_so puts =
      let all = deeds ++ forgets gone in
      stamped_has (FitsCall asked) t (deeds_done t all) call.now (told t (allowed.Deeds all answered))
      (same_fits t call.now asked (OneOther call) sound)
      (kind_fits t call.now deeds leave IsThere Holds meta sound later kind asked deleted_so (OneOther call) gone puts)

  -- where no version goes
  kinds_fit_alone : (deeds : List Deed) (answered : Report) (leave : List ℕ) (IsThere : ℕ → Type 0) (Holds : Tables → Type 0) (meta : MetaRow)
      (asked : List Need) (kind : Kind dated call.now deeds leave IsThere Holds meta) → All (IsNeeded asked act.Delete) leave
      → ((node : ℕ) → (IsThere node → ⊥) ⊎ (node_row (deeds_done dated (kind.one ∷ kind.more)).nodes node ≢ node_row t.nodes node
      → Follows asked t.nodes (deeds_done dated (kind.one ∷ kind.more)).nodes node))
      → FitsCall asked (changed t call.now (allowed.Deeds deeds answered))
  kinds_fit_alone deeds answered leave IsThere Holds meta asked kind deleted_so puts =
      subst (λ (all : List Deed). FitsCall asked (changed t call.now (allowed.Deeds all answered))) (append-nil deeds)
      (kinds_fit deeds [] answered leave IsThere Holds meta asked kind deleted_so puts)

  -- ---- MOVE and COPY

  -- what is known of a transfer, by the mounts of its ways
  module _ (transfer : Transfer) (name : List ℕ) (known : KnownTransfer t transfer name) (from to : Option ℕ) where
    abbrev going : List Need
    going = needs act.Delete transfer.replaced to

    moved_gone : (b : Bool) → All (IsNeeded (moved_needs b from to transfer) act.Delete) (replaced_by transfer)
    moved_gone true = replaced_needed (need_of act.Update transfer.node from ∷ []) transfer.replaced to
    moved_gone false = replaced_needed (need_of act.Delete transfer.node from ∷ need_of act.Create transfer.folder to ∷ []) transfer.replaced to

    abbrev source_row : NodeRow
    source_row = known.source.0

    moved_itself : (u : Tables) → IsRelinked dated transfer name u → (b : Bool) → (b ≡ true → parent_of t.nodes transfer.node ≡ Some transfer.folder)
        → Follows (moved_needs b from to transfer) t.nodes u.nodes transfer.node
    moved_itself u put true within =
        let row = put ∙ ap (option_map (relinked transfer.folder name)) known.source.1 in
        let place = inside_folder source_row.place transfer.folder (rw known.source.1 at (within refl)) in
        let needed = first_needed (need_of act.Update transfer.node from) going in
        is_updated source_row (relinked transfer.folder name source_row) needed known.source.1 row
        (ap (λ (p : Place). record source_row { place = p; name = name }) (sym place))
    moved_itself u put false within =
        let row = put ∙ ap (option_map (relinked transfer.folder name)) known.source.1 in
        let first = need_of act.Delete transfer.node from in
        let second = need_of act.Create transfer.folder to in
        is_moved transfer.folder source_row (relinked transfer.folder name source_row) (first_needed first (second ∷ going))
        (second_needed first second going) known.source.1 row refl

    moved_fits : (b : Bool) (answered : Report) → (b ≡ true → parent_of t.nodes transfer.node ≡ Some transfer.folder) → crosses t.nodes transfer ≡ false
        → FitsCall (moved_needs b from to transfer) (changed t call.now (allowed.Deeds (moves t call.now name transfer) answered))
    moved_fits b answered within stays =
        let kind = moving_kind dated call.now fine refl transfer name (record { known = transfer_stamped t call.now transfer name known; within = stays }) in
        kinds_fit_alone (moves t call.now name transfer) answered (replaced_by transfer) (λ node. node ≡ transfer.node) (IsRelinked dated transfer name) dated.meta
        (moved_needs b from to transfer) kind (moved_gone b) (λ node.
        elim (cases_Bool (node == transfer.node)) [
          | inl same ↦
              inr (λ differs.
              subst (Follows (moved_needs b from to transfer) t.nodes (deeds_done dated (kind.one ∷ kind.more)).nodes)
              (sym (eqb-true node transfer.node same)) (moved_itself (deeds_done dated (kind.one ∷ kind.more)) kind.put b within))
          | inr other ↦ inl (λ e. both_ways (node == transfer.node) other (eq-eqb node transfer.node e))
        ])

    -- of copies each is made in the folder
    joined_follow : (needs : List Need) (u : Tables) → IsNeeded needs act.Create transfer.folder
        → AreJoined dated (copies_to t call.now transfer name) u
        → (node : ℕ) → (IsNew dated node → ⊥) ⊎ (node_row u.nodes node ≢ node_row t.nodes node → Follows needs t.nodes u.nodes node)
    joined_follow needs u in_folder joined node =
        elim (cases_lt node t.meta.next_node) [
          | inl old ↦ inl (λ new. omega (arith, old, new))
          | inr new ↦
              inr (copy_follows t call.now transfer name (copies_to t call.now transfer name) u.nodes sound
              (mirrored t call.now transfer name sound known.source) (record { there = joined.there; new = joined.new }) needs in_folder node new)
        ]

  -- ---- what each may ask for

  abbrev pub asked_for : Wanted → List Need
  asked_for wanted =
      let asked = asked_of wanted in
      needs_between t.nodes root asked (option_map (way_of call) asked.source) (option_map (way_of call) asked.target)

  served_fits : (mount : Option ℕ) (place : Found) (needs : List Need)
      → FitsCall needs (changed t call.now (served (access_of call.state) call mount (node_found place)))
  served_fits mount (At node) needs =
      cond_both (is_folder t.nodes node) (allowed.List (listing_of (access_of call.state) call mount node))
      (allowed.Get node (content_of t.nodes node))
      (λ act. FitsCall needs (changed t call.now act)) (λ folder. same_fits t call.now needs (OneOther call) sound)
      (λ file. same_fits t call.now needs (OneOther call) sound)
  served_fits mount nowhere needs = same_fits t call.now needs (OneOther call) sound

  stored_fits : (by : By) (name : List ℕ) (size : ℕ) (place : Found) (needs : List Need)
      → FitsCall needs (changed t call.now (stored by name size (Some place)))
  stored_fits by name size (Missing depth) needs = same_fits t call.now needs (OneOther call) sound
  stored_fits by name size place needs = same_fits t call.now needs (OneOther call) sound

  made_fits : (spot : Spot) (place : Found) → Reached spot → found call spot ≡ place
      → FitsCall (needs_in t.nodes root (way_of call spot)) (changed t call.now (made_folder t call.now (last_name spot) (Some place)))
  made_fits spot (Free folder) reached leads =
      let name = last_name spot in
      let made = changed t call.now (made_folder t call.now name (Some (Free folder))) in
      let way = way_of call spot in
      let need = need_of act.Create folder way.mount in
      let slot = slot_known call spot sound is folder reached leads in
      let asked : needs_in t.nodes root way ≡ need ∷ [] = rw (free_no_mount call spot sound is folder leads, leads) refl in
      subst (λ (needs : List Need). FitsCall needs made) (sym asked)
      (added_fits t made call.now folder name Folder [] (need ∷ []) (OneOther call) sound
      (added_rows t call.now folder name Folder [] None [] report.Made sound slot.folds slot.free (omega arith)) (first_needed need []))
  made_fits spot nowhere reached leads = same_fits t call.now (needs_in t.nodes root (way_of call spot)) (OneOther call) sound

  -- a DELETE of a node, if it is there
  deleted_fits : (node mount : Option ℕ) → ((row : NodeRow) → row_at t node ≡ Some row → KnownLeaving t row)
      → FitsCall (needs act.Delete node mount ++ []) (changed t call.now (deleted t call.now node))
  deleted_fits None mount leaves = same_fits t call.now [] (OneOther call) sound
  deleted_fits (Some top) mount leaves = here (row_at t (Some top)) refl
    where
      need : Need
      need = need_of act.Delete top mount

      here : (o : Option NodeRow) → row_at t (Some top) ≡ o
          → FitsCall (need ∷ []) (changed t call.now
          (allowed.Deeds (option_map_or (λ row. discard t call.now row ∷ []) o [] ++ option_map_or (beside t call.now) o []) report.Done))
      here None e = same_fits t call.now (need ∷ []) (OneOther call) sound
      here (Some row) e =
          let known = leaving_stamped t call.now row (leaves row e) in
          let needed = subst (IsNeeded (need ∷ []) act.Delete) (sym (row_id t.nodes top row e)) (first_needed need []) in
          kinds_fit_alone (discard t call.now row ∷ beside t call.now row) report.Done (row.id ∷ []) NoNode (λ u. Unit {0}) dated.meta (need ∷ [])
          (leaving_kind dated call.now fine refl row known)
          (All-cons (IsNeeded (need ∷ []) act.Delete) row.id [] needed (All-nil (IsNeeded (need ∷ []) act.Delete))) (λ node. inl (λ none. none))

  -- or of a mount's own path
  deletes_fit : (spot : Spot) (b : Bool) → call.request.wanted ≡ Delete spot → (way_of call spot).itself ≡ b
      → ((row : NodeRow) → row_at t (node_at (only_at b (found call spot)).source) ≡ Some row → KnownLeaving t row)
      → FitsCall (if b then [] else needs_at act.Delete (way_of call spot) ++ [])
      (changed t call.now (if b then mount_left call (way_of call spot) else deleted t call.now (node_at (only_at b (found call spot)).source)))
  deletes_fit spot true wanted itself leaves =
      mount_fits spot left_row report.Done [] itself (λ old. refl) (λ old. refl) (λ old own. is_left spot wanted own)
  deletes_fit spot false wanted itself leaves = deleted_fits (node_found (found call spot)) (way_of call spot).mount leaves

  -- what is moved or copied, by a caller who is reached
  module _ (source target : Spot) (from_reached : Reached source) (to_reached : Reached target)
      (fits : unfit_between t.nodes root false (record { source = Some (way_of call source); target = Some (way_of call target) }) ≡ None) where
    abbrev places : Places
    places = record { source = Some (found call source); target = Some (found call target) }

    abbrev from : Option ℕ
    from = (way_of call source).mount

    abbrev to : Option ℕ
    to = (way_of call target).mount

    abbrev name : List ℕ
    name = last_name target

    abbrev target_other : (way_of call target).itself ≡ false
    target_other = no_mount call source target sound is from_reached to_reached fits

    copies_are : (transfer : Transfer) → transfer_of t.nodes places ≡ Some transfer → copy_limit t transfer ≡ None → KnownCopies t transfer name
    copies_are transfer e some = copies_known call source target sound is from_reached to_reached transfer e fits some

    -- the tables' meta row with the copies
    abbrev meta_then : Transfer → MetaRow
    meta_then transfer = meta_with dated call.now fine refl (copies_to t call.now transfer name)

    -- the versions that go for them
    abbrev leave_for : Transfer → List Deed → List Version
    leave_for transfer deeds = unsettled t (charged_for t transfer) (flat_map purged_by deeds)

    copied_fits : (transfer : Transfer) (answered : Report) → transfer_of t.nodes places ≡ Some transfer → copy_limit t transfer ≡ None
        → FitsCall (copied_needs from to transfer) (changed t call.now (allowed.Deeds (copies_settled t call.now name transfer) answered))
    copied_fits transfer answered e some =
        let known = copies_are transfer e some in
        let first = need_of act.Read transfer.node from in
        let second = need_of act.Create transfer.folder to in
        let going = needs act.Delete transfer.replaced to in
        let rows = copies_to t call.now transfer name in
        let kind = copying_kind dated call.now fine refl transfer name (copies_stamped t call.now transfer name known) in
        kinds_fit (copies t call.now name transfer) (leave_for transfer (copies t call.now name transfer)) answered (replaced_by transfer) (IsNew dated) (AreJoined dated rows) (meta_then transfer)
        (copied_needs from to transfer) kind (replaced_needed (first ∷ second ∷ []) transfer.replaced to)
        (joined_follow transfer name known.known from to (copied_needs from to transfer) (deeds_done dated (kind.one ∷ kind.more))
        (second_needed first second going) kind.put)

    crossed_fits : (transfer : Transfer) (answered : Report) → transfer_of t.nodes places ≡ Some transfer → crosses t.nodes transfer ≡ true
        → copy_limit t transfer ≡ None
        → FitsCall (moved_needs false from to transfer) (changed t call.now (allowed.Deeds (settled_by t (charged_for t transfer) (crossing t call.now name transfer)) answered))
    crossed_fits transfer answered e across some =
        let known = copies_are transfer e some in
        let first = need_of act.Delete transfer.node from in
        let second = need_of act.Create transfer.folder to in
        let going = needs act.Delete transfer.replaced to in
        let asked = moved_needs false from to transfer in
        let rows = copies_to t call.now transfer name in
        let kind = crossing_kind dated call.now fine refl transfer name
        (record { copies = copies_stamped t call.now transfer name known; crosses = across }) in
        kinds_fit (crossing t call.now name transfer) (leave_for transfer (crossing t call.now name transfer)) answered (transfer.node ∷ replaced_by transfer) (IsNew dated) (AreJoined dated rows)
        (meta_then transfer) asked kind
        (All-cons (IsNeeded asked act.Delete) transfer.node (replaced_by transfer) (first_needed first (second ∷ going))
        (replaced_needed (first ∷ second ∷ []) transfer.replaced to))
        (joined_follow transfer name known.known from to asked (deeds_done dated (kind.one ∷ kind.more)) (second_needed first second going) kind.put)

    -- a transfer stays with its owner, or goes to another
    carried_fits : (transfer : Transfer) (answered : Report) (b across : Bool) → (way_of call source).itself ≡ false
        → transfer_of t.nodes places ≡ Some transfer
        → is_within t.nodes root (Some (way_of call source)) (Some (way_of call target)) ≡ b → crosses t.nodes transfer ≡ across
        → (if across then copy_limit t transfer else move_limit t transfer) ≡ None
        → FitsCall (moved_needs b from to transfer)
        (changed t call.now (allowed.Deeds (if across then settled_by t (charged_for t transfer) (crossing t call.now name transfer)
        else moves t call.now name transfer) answered))
    carried_fits transfer answered b false other e inside owner some =
        let deep = (within t 0 (deepest_in t.nodes transfer.node transfer.folder) 0 0 0 some).deep in
        let known = transfer_known call source target sound is from_reached to_reached transfer e fits deep in
        let it = between t.nodes (found call source) (found call target) transfer e in
        moved_fits transfer name known from to b answered (λ same.
        within_folder t root (way_of call source) (way_of call target) transfer sound known.outside it other target_other
        (no_starts call source target sound is from_reached to_reached transfer.node it.source fits) (inside ∙ same)) owner
    carried_fits transfer answered false true other e inside owner some = crossed_fits transfer answered e owner some
    carried_fits transfer answered true true other e inside owner some =
        let known = (copies_are transfer e some).known in
        let it = between t.nodes (found call source) (found call target) transfer e in
        let above = within_folder t root (way_of call source) (way_of call target) transfer sound known.outside it other target_other
        (no_starts call source target sound is from_reached to_reached transfer.node it.source fits) inside in
        absurd (both_ways (crosses t.nodes transfer) (within_owner t transfer known.source.0 sound known.source.1 above) owner)

    moves_fit : (overwrite : Bool) → (way_of call source).itself ≡ false → option_and_then (carry_limit t) (transfer_of t.nodes places) ≡ None
        → FitsCall (needs_at (source_act true
        (is_within t.nodes root (Some (way_of call source)) (Some (way_of call target)))) (way_of call source)
        ++ target_needs making.Moved t.nodes root (is_within t.nodes root (Some (way_of call source)) (Some (way_of call target))) (way_of call target))
        (changed t call.now (moved t call.now name (transfer_of t.nodes places)))
    moves_fit overwrite other some = here (transfer_of t.nodes places) refl some
      where
        within : Bool
        within = is_within t.nodes root (Some (way_of call source)) (Some (way_of call target))

        asked : List Need
        asked = needs_at (source_act true within) (way_of call source)
            ++ target_needs making.Moved t.nodes root within (way_of call target)

        here : (o : Option Transfer) → transfer_of t.nodes places ≡ o → option_and_then (carry_limit t) o ≡ None
            → FitsCall asked (changed t call.now (moved t call.now name o))
        here None e some = same_fits t call.now asked (OneOther call) sound
        here (Some transfer) e some =
            let it = between t.nodes (found call source) (found call target) transfer e in
            subst (λ (needs : List Need). FitsCall needs (changed t call.now (moved t call.now name (Some transfer))))
            (sym (move_needs t.nodes root source target overwrite (way_of call source) (way_of call target) transfer within it target_other
            (no_starts call source target sound is from_reached to_reached transfer.node it.source fits).1 refl))
            (carried_fits transfer (made_or_done transfer.replaced) within (crosses t.nodes transfer) other e refl refl some)

    copies_fit : (overwrite : Bool) → option_and_then (copy_limit t) (transfer_of t.nodes places) ≡ None
        → FitsCall (asked_for (Copy source target overwrite)) (changed t call.now (copied t call.now name (transfer_of t.nodes places)))
    copies_fit overwrite some = here (transfer_of t.nodes places) refl some
      where
        here : (o : Option Transfer) → transfer_of t.nodes places ≡ o → option_and_then (copy_limit t) o ≡ None
            → FitsCall (asked_for (Copy source target overwrite)) (changed t call.now (copied t call.now name o))
        here None e some = same_fits t call.now (asked_for (Copy source target overwrite)) (OneOther call) sound
        here (Some transfer) e some =
            let it = between t.nodes (found call source) (found call target) transfer e in
            subst (λ (needs : List Need). FitsCall needs (changed t call.now (copied t call.now name (Some transfer))))
            (sym (copy_needs t.nodes root source target overwrite (way_of call source) (way_of call target) transfer it target_other
            (no_starts call source target sound is from_reached to_reached transfer.node it.source fits).1))
            (copied_fits transfer (made_or_done transfer.replaced) e some)

  move_fits : (source target : Spot) (overwrite b : Bool) → call.request.wanted ≡ Move source target overwrite → (way_of call source).itself ≡ b
      → (b ≡ false → Reached source) → Reached target
      → unfit_between t.nodes root b (record { source = Some (way_of call source); target = Some (way_of call target) }) ≡ None
      → limited t (if b then record { source = None; target = None } else record { source = Some (found call source); target = Some (found call target) })
      making.Moved ≡ None
      → FitsCall (if b then [] else needs_at (source_act true
      (is_within t.nodes root (Some (way_of call source)) (Some (way_of call target)))) (way_of call source)
      ++ target_needs making.Moved t.nodes root (is_within t.nodes root (Some (way_of call source)) (Some (way_of call target))) (way_of call target))
      (changed t call.now (if b then mount_renamed call (way_of call source) (last_name target)
      else moved t call.now (last_name target)
      (transfer_of t.nodes (if b then record { source = None; target = None } else record { source = Some (found call source); target = Some (found call target) }))))
  move_fits source target overwrite true wanted itself from_reached to_reached fits some =
      mount_fits source (named_row (last_name target)) report.Made [] itself (λ old. refl) (λ old. refl)
      (λ old own. is_renamed source target overwrite wanted own)
  move_fits source target overwrite false wanted itself from_reached to_reached fits some =
      moves_fit source target (from_reached refl) to_reached fits overwrite itself some

  asks_fit : (places : Places) (asked : ShareAsk) (needs : List Need) → call.request.wanted ≡ Share asked
      → fault_of_ask (access_of call.state) call asked ≡ None
      → FitsCall needs (changed t call.now (shared (access_of call.state) call places asked))
  asks_fit places asked needs wanted fits =
      elim (asks_share call sound places asked wanted fits) [
        | inl same ↦ subst (FitsCall needs) (sym same) (same_fits t call.now needs (OneOther call) sound)
        | inr one ↦ alone_fits t _ call.now needs (OneOther call) sound (record {
          follow = λ node differs. absurd (differs (ap (λ (rows : List NodeRow). node_row rows node) one.nodes));
          present = λ node up there. subst (λ (rows : List NodeRow). LeadsToRoot rows node) (sym one.nodes) up;
          others = inr (inr one);
          rest = subst (λ (u : Tables). u ≡ record t { meta = u.meta; nodes = u.nodes; shares = u.shares; mounts = u.mounts; versions = u.versions }) (sym one.rest) refl;
        })
      ]

  -- what isn't asked about users, groups, the trash, versions and uploads
  pub begin_fits : (wanted : Wanted) → call.request.wanted ≡ wanted → is_apart wanted ≡ false → WantedPasses call wanted
      → FitsCall (asked_for wanted) (changed t call.now (given (access_of call.state) call (places_at call wanted) wanted))
  begin_fits (Get spot) asked other p = served_fits (way_of call spot).mount (found call spot) (asked_for (Get spot))
  begin_fits (Put spot size) asked other p = stored_fits (by_of call spot) (last_name spot) size (found call spot) (asked_for (Put spot size))
  begin_fits (Mkcol spot) asked other p = made_fits spot (found call spot) p.place.target refl
  begin_fits (Delete spot) asked other p =
      deletes_fit spot (way_of call spot).itself asked refl (delete_leaves call sound is spot (way_of call spot).itself p.place.source p.fits)
  begin_fits (Move source target overwrite) asked other p =
      move_fits source target overwrite (way_of call source).itself asked refl p.place.source p.place.target p.fits p.few
  begin_fits (Copy source target overwrite) asked other p =
      copies_fit source target (p.place.source refl) p.place.target p.fits overwrite p.few
  begin_fits (Share asks) asked other p = asks_fit (places_at call (Share asks)) asks (asked_for (Share asks)) asked p.sharing
  begin_fits (People asks) asked other p = absurd (false≢true (sym other))
  begin_fits (Trash asks) asked other p = absurd (false≢true (sym other))
  begin_fits (want.Version asks) asked other p = absurd (false≢true (sym other))
  begin_fits (want.Upload asks) asked other p = absurd (false≢true (sym other))

  -- what is asked about versions
  pub versions_fit : (ask : VersionAsk) (needs : List Need) → IsNeeded needs (act_asked ask) (node_asked ask)
      → FitsCall needs (changed t call.now (version_done t call.now ask))
  versions_fit (version.List user node) needs needed = same_fits t call.now needs (OneOther call) sound
  versions_fit (version.Get user node at) needs needed = here (version_row t.versions node at)
    where
      here : (o : Option VersionRow)
          → FitsCall needs (changed t call.now (option_map_or (λ (row : VersionRow). allowed.Get node row.content) o nothing_done))
      here None = same_fits t call.now needs (OneOther call) sound
      here (Some row) = same_fits t call.now needs (OneOther call) sound
  versions_fit (version.Restore user node at) needs needed = here (version_row t.versions node at)
    where
      here : (o : Option VersionRow) → FitsCall needs (changed t call.now (option_map_or (brought_back t call.now node) o nothing_done))
      here None = same_fits t call.now needs (OneOther call) sound
      here (Some row) = back_fits t call.now node row needs (OneOther call) sound needed
