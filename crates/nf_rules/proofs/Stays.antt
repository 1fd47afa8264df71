-- Tables that keep the rules keep them by each entry that may come.
use Rattle.std.proofs.Common.{◌≡◌, ℕ, ◌+◌, ◌<◌, ◌≤◌, ◌==◌, ◌||◌, ◌⊎◌, inl, inr, Bool, true, false, if◌then◌else◌, not, List, [], ◌∷◌, map, get_or, refl, sym, ap, ◌∙◌, subst, arith, bytes_eq, ◌++◌}
use Rattle.std.specs.Prelude.{None}
use Rattle.std.specs.List.{All, AllPairs}
use Rattle.std.specs.Option.{option_and_then}
use Rattle.std.proofs.lemmas.List.{map-id}
use Rattle.std.proofs.lemmas.List.Elements.{All-filter, All-head, All-map, All-tail}
use Rattle.std.proofs.lemmas.Option.{none-some}
use Rattle.nf_access.specs.Mounts.{is_mount_of}
use Rattle.nf_base.specs.declared.limits.TheConstants.{MAX_QUOTA}
use Rattle.nf_base.specs.declared.rows.ItemRow.{ItemRow}
use Rattle.nf_base.specs.declared.rows.MountRow.{MountRow}
use Rattle.nf_base.specs.declared.rows.ShareRow.{ShareRow}
use Rattle.nf_base.specs.declared.rows.UserRow.{UserRow}
use Rattle.nf_defs.proofs.Puts.{all_put}
use Rattle.nf_defs.specs.Prelude.{item_key, item_row, node_row, put, Tables, user_key}
use Rattle.nf_defs.specs.Tree.{is_rooted}
use Rattle.nf_laws.proofs.Allowing.{changes_allowed}
use Rattle.nf_laws.proofs.Counters.{after_up}
use Rattle.nf_laws.proofs.Entries.{entry_has}
use Rattle.nf_laws.proofs.Going.{purged_rest}
use Rattle.nf_laws.proofs.Others.{item_gone}
use Rattle.nf_laws.proofs.Purged.{purged_keeps}
use Rattle.nf_laws.proofs.Rows.{each_fails, finds_none, found_is, stamped_has}
use Rattle.nf_laws.proofs.Stays.{sound_after}
use Rattle.nf_laws.specs.Access.{ChangesAllowed, has_quota, has_token, is_left, is_renamed, IsItemSettled, IsProviding, IsRemounted, IsRestoring, IsSharing, is_asked, is_same, is_sent, is_swept, joins, KeepsShares, leaves, makes_group, makes_user, NodesAllowed, Provides, Remounts, UploadsFollow}
use Rattle.nf_laws.specs.Numbers.{AreHigher}
use Rattle.nf_words.proofs.Ends.{known_change}
use Rattle.nf_words.proofs.Known.{Known}
use Rattle.nf_words.specs.Prelude.{after, altered, AreSound, asker_of, Call, call_of, changed, deed_done, deeds_done, ended_row, IsInBounds, IsModest, IsSound, item_if_of, MayAsk, MayCome, new_user, purged, purges, replaced, State, told, forgets}
use Rattle.nf_words.specs.declared.answer.Allowed.{Allowed}
use Rattle.nf_words.specs.declared.answer.Allowed.TheVariants as allowed
use Rattle.nf_words.specs.declared.answer.Deed.{Deed}
use Rattle.nf_words.specs.declared.answer.Deed.TheVariants as deed
use Rattle.nf_words.specs.declared.answer.Report.{Report}
use Rattle.nf_words.specs.declared.history.Entry.{Entry}
use Rattle.nf_words.specs.declared.history.Event.TheVariants.{Begin}
use Rattle.nf_words.specs.declared.request.PeopleAsk.{PeopleAsk}
use Rattle.nf_words.specs.declared.request.Request.{Request}
use Rattle.nf_words.specs.declared.request.Words.{Words}
use Rattle.nf_rules.specs.Laws.{StaysRuled}
use Rattle.nf_rules.specs.Ruled.{AreOrdered, AreTokensApart, IsGiven, IsItemRuled, IsMountRuled, IsShareRuled}
use Rattle.nf_rules.proofs.Items.{from_still, given_gone, items_ruled}
use Rattle.nf_rules.proofs.Kept.{apart, as_others, EndsSome, ends_unless, filed, others_ruled, shares_ruled, still_mounted}
use Rattle.nf_rules.proofs.OneShare.{mounts_ruled, one_apart, one_ruled}
use Rattle.nf_rules.proofs.Peopled.{people_ruled}
use Rattle.nf_rules.proofs.Deeds.{AreModest, step_ruled}
use Rattle.nf_base.specs.declared.rows.VersionRow.{VersionRow}
use Rattle.nf_laws.proofs.Behind.{versioned, forgets_only}
use Rattle.nf_laws.proofs.Each.{IsBehind, settled_stores, StoresFirst}
use Rattle.nf_laws.proofs.InTurn.{deeds_append}
use Rattle.nf_retention.specs.declared.versions.Version.{Version}
use Rattle.nf_rules.proofs.Settled.{settled_after}
use Rattle.nf_rules.proofs.Trashes.{bounded_after, changed_items}

-- ---- mounts

-- a mount that is left or renamed is of the same user and node
same_mount : (call : Call) (old row : MountRow) → Remounts call old row → (row.user ≡ old.user) × (row.node ≡ old.node)
same_mount call old _ (is_left spot asked own) = (refl, refl)
same_mount call old _ (is_renamed source target overwrite asked own) = (refl, refl)

remounted_ruled : (s : State) (e : Entry) (made : Tables) → AreOrdered s.tables → AreHigher s.tables.meta made.meta
    → IsRemounted s e made → All (IsMountRuled made) made.mounts
remounted_ruled s e made h up is =
    subst (All (IsMountRuled made)) (sym is.mounts)
    (All-map (IsMountRuled made) (put is) s.tables.mounts (λ k d within. one is (get_or s.tables.mounts k d) (each k d within)))
  where
    t : Tables
    t = s.tables

    each : All (IsMountRuled made) t.mounts
    each = still_mounted t made h up

    put : IsRemounted s e made → MountRow → MountRow
    put is other = if is_mount_of is.old.user is.old.node other then is.row else other

    one : (is : IsRemounted s e made) (other : MountRow) → IsMountRuled made other → IsMountRuled made (put is other)
    one is other own =
        let old = found_is (IsMountRuled made) (is_mount_of is.old.user is.old.node) t.mounts is.old each is.there in
        let same = same_mount (call_of s e.seat e.moment is.words is.request) is.old is.row is.becomes in
        here (is_mount_of is.old.user is.old.node other) (record {
          user = subst (IsGiven made.meta.next_user) (sym same.0) old.1.user;
          node = subst (IsGiven made.meta.next_node) (sym same.1) old.1.node;
        })
      where
        here : (b : Bool) → IsMountRuled made is.row → IsMountRuled made (if b then is.row else other)
        here true row = row
        here false row = own

-- ---- where nodes, shares and mounts are others

-- the shares and the mounts keep the rules
record AreKept (made : Tables) : Type 0 where
  shares : All (IsShareRuled made) made.shares
  apart : AllPairs AreTokensApart made.shares
  mounts : All (IsMountRuled made) made.mounts

others_kept : (s : State) (e : Entry) (made : Tables) → AreOrdered s.tables → AreSound made → AreHigher s.tables.meta made.meta
    → made.users ≡ s.tables.users → made.groups ≡ s.tables.groups
    → KeepsShares s.tables made ⊎ (IsRemounted s e made ⊎ IsSharing s e made)
    → ((words : Words) (request : Request) → e.event ≡ Begin words request → IsInBounds request.wanted) → AreKept made
others_kept s e made ruled sound up users groups others bounds = elim others [
  | inl keeps ↦
      record {
        shares = shares_ruled t made put ends ruled sound up keeps.shares;
        apart = apart t made put ends ruled sound up keeps.shares;
        mounts = subst (All (IsMountRuled made)) (sym keeps.mounts) (still_mounted t made ruled up);
      }
  | inr (inl is) ↦
      (let same : made.shares ≡ map (λ (share : ShareRow). share) t.shares = is.shares ∙ sym (map-id t.shares) in
      record {
        shares = shares_ruled t made (λ share. share) (λ share. inl refl) ruled sound up same;
        apart = apart t made (λ share. share) (λ share. inl refl) ruled sound up same;
        mounts = remounted_ruled s e made ruled up is;
      })
  | inr (inr is) ↦
      record {
        shares = one_ruled s e made ruled sound up users groups is (bounds is.words is.request is.begins);
        apart = one_apart s e made ruled sound up users groups is (bounds is.words is.request is.begins);
        mounts = mounts_ruled s e made ruled sound up users groups is (bounds is.words is.request is.begins) (still_mounted t made ruled up);
      }
]
  where
    t : Tables
    t = s.tables

    put : ShareRow → ShareRow
    put share = if share.ended || is_rooted made.nodes share.node then share else ended_row share

    ends : EndsSome put
    ends share = ends_unless (share.ended || is_rooted made.nodes share.node) share

-- what is known of the tables after an entry
record IsAfter (s : State) (e : Entry) (made : Tables) : Type 0 where
  sound : AreSound made
  up : AreHigher s.tables.meta made.meta
  none : (node : ℕ) → node < s.tables.meta.next_node → node_row s.tables.nodes node ≡ None → node_row made.nodes node ≡ None
  allowed : ChangesAllowed s e made
  bounds : (words : Words) (request : Request) → e.event ≡ Begin words request → IsInBounds request.wanted

-- versions, uploads and chunks make no share and no mount another
others_filed : (s : State) (e : Entry) (u beside : Tables) → KeepsShares s.tables u ⊎ (IsRemounted s e u ⊎ IsSharing s e u)
    → KeepsShares s.tables (filed u beside) ⊎ (IsRemounted s e (filed u beside) ⊎ IsSharing s e (filed u beside))
others_filed s e u beside (inl keeps) = inl (record { shares = keeps.shares; mounts = keeps.mounts })
others_filed s e u beside (inr (inl is)) =
    inr (inl (record {
      words = is.words;
      request = is.request;
      begins = is.begins;
      old = is.old;
      row = is.row;
      there = is.there;
      becomes = is.becomes;
      mounts = is.mounts;
      nodes = is.nodes;
      shares = is.shares;
    }))
others_filed s e u beside (inr (inr is)) =
    inr (inr (record {
      words = is.words;
      request = is.request;
      begins = is.begins;
      row = is.row;
      one = is.one;
      shares = is.shares;
      mounts = is.mounts;
      mounted = is.mounted;
      nodes = is.nodes;
    }))

-- where an entry changes the nodes, the shares, the mounts and the meta row alone, and versions, uploads and chunks
nodes_ruled : (s : State) (e : Entry) (between beside : Tables) → AreOrdered s.tables → IsAfter s e (filed between beside)
    → between.items ≡ s.tables.items → NodesAllowed s e between → AreOrdered (filed between beside)
nodes_ruled s e between beside ruled is same changes =
    let made : Tables = filed between beside in
    let kept = others_kept s e made ruled is.sound is.up (ap (λ (t : Tables). t.users) changes.rest) (ap (λ (t : Tables). t.groups) changes.rest)
    (others_filed s e between beside changes.others) is.bounds in
    let items = items_ruled s.tables made ruled is.up same (from_still s e between is.none changes) in
    let rest = as_others s.tables made (ap (λ (t : Tables). t.users) changes.rest) (ap (λ (t : Tables). t.tokens) changes.rest)
    (ap (λ (t : Tables). t.groups) changes.rest) (ap (λ (t : Tables). t.members) changes.rest) in
    subst AreOrdered (sym rest)
    (others_ruled s.tables made ruled (subst AreSound rest is.sound) is.up
    (subst (λ (u : Tables). All (IsShareRuled u) u.shares) rest kept.shares) kept.apart
    (subst (λ (u : Tables). All (IsMountRuled u) u.mounts) rest kept.mounts)
    (subst (λ (u : Tables). All (IsItemRuled u) u.items) rest items))

-- ---- an act by which no item goes and none comes back

abbrev HasNoDeeds : Allowed → Type 0
HasNoDeeds act = (deeds : List Deed) (report : Report) → act ≡ allowed.Deeds deeds report → ⊥

-- an act without deeds leaves the items as they were
items_same : (t : Tables) (now : ℕ) (act : Allowed) → AreSound t → Known t now act → HasNoDeeds act → (changed t now act).items ≡ t.items
items_same t now act sound known other =
    stamped_has (λ (u : Tables). u.items ≡ t.items) t (altered t now act) now (told t act) refl (here act known other)
  where
    here : (act : Allowed) → Known t now act → HasNoDeeds act → (altered t now act).items ≡ t.items
    here (allowed.Change changes blob report) known other = changed_items t now changes blob report sound known
    here (allowed.Deeds deeds report) known other = absurd (other deeds report refl)
    here act known other = refl

-- so do deeds that store changes, and by which versions and uploads go
behind_items : (u : Tables) (deeds : List Deed) → All IsBehind deeds → (deeds_done u deeds).items ≡ u.items
behind_items u [] behind = refl
behind_items u (one ∷ deeds) behind =
    behind_items (deed_done u one) deeds (All-tail IsBehind one deeds behind) ∙ here one (All-head IsBehind one deeds behind)
  where
    here : (one : Deed) → IsBehind one → (deed_done u one).items ≡ u.items
    here (deed.Forget node at) behind = refl
    here (deed.Abandon user dir) behind = refl
    here one behind = absurd behind

stored_items : (t : Tables) (now : ℕ) (deeds : List Deed) (report : Report) → AreSound t → StoresFirst t now deeds
    → (changed t now (allowed.Deeds deeds report)).items ≡ t.items
stored_items t now deeds report sound first =
    let act : Allowed = allowed.Deeds deeds report in
    stamped_has (λ (u : Tables). u.items ≡ t.items) t (altered t now act) now (told t act) refl
    (ap (λ (deeds : List Deed). (deeds_done t deeds).items) first.are
    ∙ behind_items (replaced t first.changes) first.more first.behind ∙ changed_items t now first.changes None report sound first.known)

-- uploads and chunks alone are others behind
beside_only : (s : State) (e : Entry) (behind after : Tables) → UploadsFollow s e behind after
    → after ≡ record behind { uploads = after.uploads; chunks = after.chunks }
beside_only s e behind after (is_same same) = same ∙ ap (λ (u : Tables). record behind { uploads = u.uploads; chunks = u.chunks }) (sym same)
beside_only s e behind after (is_asked words request asked begins wants only) = only.rest
beside_only s e behind after (is_sent outcome user dir number length ends at only) = only.rest
beside_only s e behind after (is_swept sweeps only) = only.rest

-- so that none of the items goes, but versions may
none_goes : (s : State) (e : Entry) (made : Tables) → made.items ≡ s.tables.items → (changes : ChangesAllowed s e made)
    → made ≡ filed changes.between made
none_goes s e made same changes =
    only ∙ ap (λ (u : Tables). record u { uploads = made.uploads; chunks = made.chunks })
    (here changes.settled.tops changes.settled.items changes.settled.gone)
    ∙ ap (λ (versions : List VersionRow). record changes.between { versions = versions; uploads = made.uploads; chunks = made.chunks })
    (ap (λ (u : Tables). u.versions) (sym only))
  where
    only : made ≡ record changes.behind { uploads = made.uploads; chunks = made.chunks }
    only = beside_only s e changes.behind made changes.uploads

    as_were : changes.behind.items ≡ s.tables.items
    as_were = ap (λ (u : Tables). u.items) (sym only) ∙ same

    t : Tables
    t = s.tables

    IsNot : ℕ → ItemRow → Type 0
    IsNot top item = (item.node == top) ≡ false

    versions : List Version
    versions = changes.settled.versions

    purges_left : (top : ℕ) (tops : List ℕ) → All (IsNot top) (deeds_done (purged changes.between top) (purges tops)).items
    purges_left top tops =
        purged_keeps (λ (u : Tables). All (IsNot top) u.items)
        (λ u node all. All-filter (λ (item : ItemRow). not (bytes_eq (node ∷ []) (item_key item))) (IsNot top) u.items all)
        (purged changes.between top) tops
        (each_fails (λ (item : ItemRow). item.node == top) (purged changes.between top).items (item_gone top changes.between.items))

    left : (top : ℕ) (tops : List ℕ) → All (IsNot top) (deeds_done (purged changes.between top) (purges tops ++ forgets versions)).items
    left top tops =
        let u = purged changes.between top in
        subst (λ (v : Tables). All (IsNot top) v.items)
        (sym (deeds_append u (purges tops) (forgets versions) ∙ forgets_only (deeds_done u (purges tops)) versions))
        (purges_left top tops)

    here : (tops : List ℕ) → All (IsItemSettled s e) tops → changes.behind ≡ deeds_done changes.between (purges tops ++ forgets versions)
        → changes.behind ≡ versioned changes.between changes.behind.versions
    here [] items gone =
        gone ∙ forgets_only changes.between versions
        ∙ ap (λ (rows : List VersionRow). versioned changes.between rows) (ap (λ (u : Tables). u.versions) (sym gone))
    here (top ∷ tops) items gone =
        let item = All-head (IsItemSettled s e) top tops items in
        let none : item_row t.items top ≡ None =
        ap (λ (rows : List ItemRow). item_row rows top) (sym as_were ∙ ap (λ (u : Tables). u.items) gone)
        ∙ finds_none (λ (item : ItemRow). item.node == top) (deeds_done (purged changes.between top) (purges tops ++ forgets versions)).items (left top tops) in
        absurd (none-some item.0 (sym none ∙ item.1))

-- nor does one come back
none_back : (s : State) (e : Entry) (made : Tables) → made.items ≡ s.tables.items → IsRestoring s e made → ⊥
none_back s e made same is =
    let none : item_row s.tables.items is.node ≡ None =
    ap (λ (rows : List ItemRow). item_row rows is.node) (sym same ∙ ap (λ (u : Tables). u.items) is.rows) ∙ item_gone is.node s.tables.items in
    none-some is.item
    (sym (ap (option_and_then (item_if_of (asker_of (call_of s e.seat e.moment is.words is.request)))) none) ∙ is.own)

-- so the rules are kept
beside_ruled : (s : State) (e : Entry) (between beside : Tables) → AreOrdered s.tables → IsAfter s e (filed between beside)
    → between.items ≡ s.tables.items → NodesAllowed s e between ⊎ (IsProviding s e between ⊎ IsRestoring s e between)
    → AreOrdered (filed between beside)
beside_ruled s e between beside ruled is same (inl nodes) = nodes_ruled s e between beside ruled is same nodes
beside_ruled s e between beside ruled is same (inr (inl people)) = people_ruled s e between beside ruled is.sound is.up people
beside_ruled s e between beside ruled is same (inr (inr back)) = absurd (none_back s e between same back)

plain_ruled : (s : State) (e : Entry) (made : Tables) → AreOrdered s.tables → IsAfter s e made → made.items ≡ s.tables.items → AreOrdered made
plain_ruled s e made ruled is same =
    let only = none_goes s e made same is.allowed in
    subst AreOrdered (sym only)
    (beside_ruled s e is.allowed.between made ruled (subst (IsAfter s e) only is)
    (ap (λ (u : Tables). u.items) (sym only) ∙ same) is.allowed.allowed)

-- ---- quotas

abbrev IsModestRow : UserRow → Type 0
IsModestRow row = row.quota ≤ MAX_QUOTA

-- where no user is another, no quota is beyond the greatest
modest_as : (t made : Tables) → AreOrdered t → made.users ≡ t.users → AreModest made
modest_as t made h same = subst (All IsModestRow) (sym same) (λ k d within. (h.users k d within).quota)

-- nor where one is
modest_put : (t made : Tables) (row : UserRow) → AreOrdered t → row.quota ≤ MAX_QUOTA → made.users ≡ put user_key row t.users → AreModest made
modest_put t made row h modest is =
    subst (All IsModestRow) (sym is) (all_put user_key IsModestRow row t.users modest (modest_as t t h refl))

provided_modest : (t made : Tables) (now : ℕ) (asked : PeopleAsk) → AreOrdered t → IsModest asked → Provides t now made asked → AreModest made
provided_modest t made now _ h modest (makes_user name token quota free fresh is) =
    modest_put t made (new_user t name quota) h modest (ap (λ (u : Tables). u.users) is)
provided_modest t made now _ h modest (makes_group name free is) = modest_as t made h (ap (λ (u : Tables). u.users) is)
provided_modest t made now _ h modest (joins user group row named none is mounts all) = modest_as t made h (ap (λ (u : Tables). u.users) is)
provided_modest t made now _ h modest (leaves user group row named there is) = modest_as t made h (ap (λ (u : Tables). u.users) is)
provided_modest t made now _ h modest (has_quota user quota row named is) =
    modest_put t made (record row { quota = quota }) h modest (ap (λ (u : Tables). u.users) is)
provided_modest t made now _ h modest (has_token user token id named free is) = modest_as t made h (ap (λ (u : Tables). u.users) is)

-- nor is one after an entry
modest_after : (s : State) (e : Entry) (made : Tables) → AreOrdered s.tables → ChangesAllowed s e made → AreModest made
modest_after s e made h changes =
    subst (All IsModestRow) (sym (ap (λ (u : Tables). u.users) (beside_only s e changes.behind made changes.uploads)
    ∙ ap (λ (u : Tables). u.users)
    (changes.settled.gone ∙ deeds_append changes.between (purges changes.settled.tops) (forgets changes.settled.versions)
    ∙ forgets_only (deeds_done changes.between (purges changes.settled.tops)) changes.settled.versions)
    ∙ ap (λ (u : Tables). u.users) (purged_rest changes.between changes.settled.tops)))
    (elim changes.allowed [
      | inl nodes ↦ modest_as s.tables changes.between h (ap (λ (u : Tables). u.users) nodes.rest)
      | inr (inl people) ↦ provided_modest s.tables changes.between e.moment people.asked h people.modest people.provides
      | inr (inr back) ↦ modest_as s.tables changes.between h (ap (λ (u : Tables). u.users) back.rows)
    ])

-- ---- histories

-- each act that may come keeps the rules
act_ruled : (s : State) (e : Entry) (act : Allowed) → AreOrdered s.tables → s.tables.meta.last ≤ e.moment → Known s.tables e.moment act
    → IsAfter s e (changed s.tables e.moment act) → AreOrdered (changed s.tables e.moment act)
act_ruled s e (allowed.Deeds deeds report) ruled later known is =
    let act : Allowed = allowed.Deeds deeds report in
    elim (settled_stores s.tables e.moment deeds known) [
      | inl none ↦
          stamped_has (λ (u : Tables). AreModest u → AreOrdered u) s.tables (altered s.tables e.moment act) e.moment (told s.tables act) (λ modest. ruled)
          (step_ruled s.tables e.moment deeds ruled later known none)
          (modest_after s e (changed s.tables e.moment act) ruled is.allowed)
      | inr first ↦
          plain_ruled s e (changed s.tables e.moment act) ruled is (stored_items s.tables e.moment deeds report ruled.sound first)
    ]
act_ruled s e act ruled later known is =
    plain_ruled s e (changed s.tables e.moment act) ruled is
    (items_same s.tables e.moment act ruled.sound known (λ deeds report same. cc))

ruled_after : (n : ℕ) (s : State) (e : Entry) → AreOrdered s.tables → IsSound s → MayCome n s e → AreOrdered (after s e).tables
ruled_after n s e ruled sound may =
    entry_has (λ t tickets blob. IsAfter s e t → AreOrdered t) s e e.mark (λ is. ruled)
    (λ act is. act_ruled s e act ruled (omega (arith, sound.seen, may.not_before)) (known_change s e.seat e.moment e.event act sound may.asked is))
    (record {
      sound = (sound_after n s e sound may).rows;
      up = after_up s e e.mark;
      none = λ node. given_gone n s e node sound may;
      allowed = changes_allowed n s e sound may;
      bounds = λ words request begins. (subst (MayAsk s e.seat) begins may.asked).1.bounds;
    })

pub stays_ruled : StaysRuled
stays_ruled n s [] ruled sound legal = ruled
stays_ruled n s (e ∷ es) ruled sound legal =
    stays_ruled (n + 1) (after s e) es
    (record {
      ordered = ruled_after n s e ruled.ordered sound legal.0;
      settled = settled_after n s e ruled.settled sound legal.0;
      bounded = bounded_after n s e ruled.bounded sound legal.0;
    })
    (sound_after n s e sound legal.0) legal.1
