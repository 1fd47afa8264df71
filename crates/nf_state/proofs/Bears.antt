-- What sound tables can bear, where no rule refuses it.
use Rattle.std.proofs.Common.{inl, inr, ◌⊎◌, cond, count_by, max, nat_lt, ◌∷◌, length-append, ℕ, ◌+◌, ◌<◌, ◌≤◌, ◌==◌, ◌≡◌, true, false, not, List, [], ◌++◌, length, is_some, sum_by, Option, None, Some, IfSome, refl, sym, ap, ◌∙◌, subst, arith}
use Rattle.std.specs.List.{All}
use Rattle.std.specs.Option.{option_map_or}
use Rattle.std.proofs.lemmas.List.Elements.{All-append, All-cons, All-head, All-nil, All-weaker}
use Rattle.std.proofs.lemmas.List.Quantifiers.{all_pairs_push}
use Rattle.nf_base.specs.declared.changes.Change.{Change}
use Rattle.nf_base.specs.declared.changes.Change.TheVariants.{Drop, Put}
use Rattle.nf_base.specs.declared.changes.RowKey.TheVariants as keys
use Rattle.nf_base.specs.declared.rows.MetaRow.{MetaRow}
use Rattle.nf_base.specs.declared.rows.Row.TheVariants as rows
use Rattle.nf_laws.proofs.Copied.{walk_first}
use Rattle.nf_laws.proofs.Each.{abandons_each, crossing_each, forgets_each, leaving_each, purges_each, put_each}
use Rattle.nf_laws.proofs.InTurn.{deed_moment, Fit, fit_sound, InTurn, Joins}
use Rattle.nf_laws.proofs.Lists.{counted_higher, Rising, rising_row}
use Rattle.nf_laws.proofs.Mirrored.{mirrored}
use Rattle.nf_laws.proofs.OneRow.{length_with}
use Rattle.nf_laws.proofs.Others.{stamp_sound}
use Rattle.nf_laws.proofs.Plain.{IsPlain, IsPlainAct}
use Rattle.nf_laws.proofs.Parts.{deed_stamped, rest_of, step_turn}
use Rattle.nf_laws.proofs.Puts.{put_changed, put_new}
use Rattle.nf_laws.proofs.Rows.{stamp}
use Rattle.nf_laws.specs.Numbers.{AreHigher}
use Rattle.std.proofs.lemmas.Bool.{cond_both, eqb-true, le-ltb, lt-ltb}
use Rattle.std.proofs.lemmas.List.Sums.{sum_by-append, sum_by-cons}
use Rattle.std.proofs.lemmas.Option.{same_Some}
use Rattle.nf_base.specs.declared.limits.TheConstants.{MAX_NODES}
use Rattle.nf_access.specs.Shares.{share_row}
use Rattle.nf_charge.specs.Sums.{LeadUp}
use Rattle.nf_base.specs.declared.rows.ItemRow.{ItemRow}
use Rattle.nf_base.specs.declared.rows.NodeRow.{NodeRow}
use Rattle.nf_base.specs.declared.rows.ShareRow.{ShareRow}
use Rattle.nf_base.specs.declared.rows.UploadRow.{UploadRow}
use Rattle.nf_base.specs.declared.rows.UserRow.{UserRow}
use Rattle.nf_defs.proofs.Puts.{all_put}
use Rattle.nf_defs.specs.Prelude.{filled, made, node_key, node_row, put, Tables, user_key}
use Rattle.nf_words.specs.Prelude.{abandons, AreSound, beside, besides, copies_to, deed_done, discard, discards, forgets, goes_itself, IsNewShare, IsNewUser, IsOtherShare, item_for, last_number, last_short, purges, raised, row_at}
use Rattle.nf_words.specs.declared.answer.Allowed.{Allowed}
use Rattle.nf_words.specs.declared.answer.Allowed.TheVariants as allowed
use Rattle.nf_words.specs.declared.answer.Deed.{Deed}
use Rattle.nf_words.specs.declared.answer.Deed.TheVariants as deed
use Rattle.nf_words.specs.declared.request.Transfer.{Transfer}
use Rattle.nf_retention.specs.declared.versions.Version.{Version}
use Rattle.nf_words.proofs.Fits.{KnownChange, KnownRow, KnownRows, no_more, one_more, user_more, with_user}
use Rattle.nf_words.proofs.Found.{found_has, found_passes}
use Rattle.nf_words.proofs.Known.{Known, KnownCopies, KnownDeeds, KnownSettled}
use Rattle.nf_words.proofs.Known.KnownDeeds.{by_abandoning, by_copying, by_crossing, by_going, by_joining, by_leaving, by_moving, by_requoting, by_restoring, by_sweeping}
use Rattle.nf_state.specs.Current.{added_by, added_deeds, AreBorne, AreGiven, BearsAct, BearsChanges, BearsCopies, BearsDeed, BearsDeeds, BearsStep, BearsStore, IsBorne, IsCounted, is_fresh, IsNew, IsRequoted, nodes_joined, OnlyDrops, rows_joined, StoresFirst, StoresNone}
use Rattle.nf_state.proofs.Putting.{count_by-cons, counted_later, counts_none, counts_one}
use Rattle.nf_state.proofs.Leading.{copies_lead, leads_born, leads_rooted, leads_row, sound_leads}
use Rattle.nf_state.proofs.Tells.{tells_step}
use Rattle.nf_state.proofs.ToldGone.{item_shares}

pub sound_given : (t : Tables) → AreSound t → AreGiven t
sound_given t sound = record { rising = sound.rising; given = λ k d within. (sound.nodes k d within).given }

-- a share that is known stays on its node, where it was there
share_stays : (first t : Tables) (row : ShareRow) → (IsNewShare t row × (first.meta.next_share ≤ row.id)) ⊎ (IsOtherShare t row × (row.id < first.meta.next_share))
    → (old : ShareRow) → share_row t.shares row.id ≡ Some old → old.node ≡ row.node
share_stays first t row (inl is) old there =
    let below = subst (λ (o : Option ShareRow). IfSome o (λ (share : ShareRow). share.id < row.id)) there
    (found_has (λ (share : ShareRow). share.id < row.id) (λ (share : ShareRow). share.id == row.id) t.shares is.0.newest) in
    absurd (omega (arith, below, eqb-true old.id row.id (found_passes (λ (share : ShareRow). share.id == row.id) t.shares old there)))
share_stays first t row (inr is) old there =
    let node : (ShareRow → ℕ) = λ share. share.node in
    ap node (same_Some old is.0.old (sym there ∙ is.0.there)) ∙ sym (ap node is.0.same)

-- what is known of a changed row can be borne, also where the counters weren't raised yet
row_borne : (t u : Tables) (blob : Option ℕ) (meta : MetaRow) (change : Change) → LeadUp u.nodes → KnownRow t blob u change
    → IsBorne t.meta.next_node (record u { meta = meta }) change
row_borne t u blob meta (Put (rows.Node row)) leads known =
    elim known [
      | inl it ↦ inl (it.fresh, record { newest = it.born.newest; leads = leads_born u row leads it.born })
      | inr it ↦
          inr (it.given, record { was = it.filled.old; there = it.filled.there; file = it.filled.file; same = it.filled.same })
    ]
row_borne t u blob meta (Put (rows.Share row)) leads known = share_stays t u row known.1
row_borne t u blob meta (Put (rows.Mount row)) leads known = tt
row_borne t u blob meta (Put (rows.Version row)) leads known = tt
row_borne t u blob meta (Put (rows.Upload row)) leads known = tt
row_borne t u blob meta (Put (rows.Chunk row)) leads known = tt
row_borne t u blob meta (Drop (keys.Version node at)) leads known = tt
row_borne t u blob meta (Put (rows.User row)) leads known =
    let it = known.1 in inr (record { was = it.old; there = it.there; same = it.same })
row_borne t u blob meta (Put (rows.Token row)) leads known =
    let it = known.1 in record { fresh = it.fresh; user = it.user; few = it.few }
row_borne t u blob meta (Put (rows.Group row)) leads known =
    let it = known.1 in record { newest = it.newest; unnamed = it.unnamed; few = it.few }
row_borne t u blob meta (Put (rows.Member row)) leads known =
    let it = known.1 in record { fresh = it.fresh; group = it.group; user = it.user; few = it.few }
row_borne t u blob meta (Drop (keys.Member group user)) leads known = tt
row_borne t u blob meta change leads known = absurd known.1

-- no such change bears on the counters
meta_last : (t u : Tables) (blob : Option ℕ) (meta : MetaRow) (change : Change) → KnownRow t blob u change
    → record (made u change) { meta = meta } ≡ made (record u { meta = meta }) change
meta_last t u blob meta (Put (rows.Node row)) known = refl
meta_last t u blob meta (Put (rows.Share row)) known = refl
meta_last t u blob meta (Put (rows.Mount row)) known = refl
meta_last t u blob meta (Put (rows.Version row)) known = refl
meta_last t u blob meta (Put (rows.Upload row)) known = refl
meta_last t u blob meta (Put (rows.Chunk row)) known = refl
meta_last t u blob meta (Drop (keys.Version node at)) known = refl
meta_last t u blob meta (Put (rows.User row)) known = refl
meta_last t u blob meta (Put (rows.Token row)) known = refl
meta_last t u blob meta (Put (rows.Group row)) known = refl
meta_last t u blob meta (Put (rows.Member row)) known = refl
meta_last t u blob meta (Drop (keys.Member group user)) known = refl
meta_last t u blob meta change known = absurd known.1

-- with a new user's root the numbers still rise
root_rises : (u : Tables) (row : UserRow) (root : NodeRow) → Rising u.nodes → IsNewUser u row root → Rising (with_user u row root).nodes
root_rises u row root rising new =
    subst Rising (sym (put_new root u.nodes new.newest_node))
    (all_pairs_push (λ (a b : NodeRow). a.id < b.id) u.nodes root rising new.newest_node)

rows_borne : (t : Tables) (blob : Option ℕ) (meta : MetaRow) (u : Tables) (changes : List Change) → Rising u.nodes → LeadUp u.nodes
    → KnownRows t blob u changes → AreBorne t.meta.next_node (record u { meta = meta }) changes
rows_borne t blob meta _ _ rising leads (no_more u) = tt
rows_borne t blob meta _ _ rising leads (one_more u change changes known rest) = (
  row_borne t u blob meta change leads known,
  subst (λ (after : Tables). AreBorne t.meta.next_node after changes) (meta_last t u blob meta change known)
      (rows_borne t blob meta (made u change) changes (rising_row t blob u change rising known) (leads_row t u blob change rising leads known) rest),
)
rows_borne t blob meta _ _ rising leads (user_more u row root changes known rest) =
    let new : IsNew u.nodes root = record { newest = known.1.newest_node; leads = leads_rooted u row root leads known.1 } in
    let lead = subst LeadUp (sym (put_new root u.nodes new.newest)) new.leads in (
      inl (record { newest = known.1.newest; unnamed = known.1.unnamed; few = known.1.few }),
      (inl (known.2, new), rows_borne t blob meta (with_user u row root) changes (root_rises u row root rising known.1) lead rest),
    )

-- the raised counters pass the last number no more than they did before
record AreWithin (meta up : MetaRow) : Type 0 where
  users : up.next_user ≤ max meta.next_user last_short
  groups : up.next_group ≤ max meta.next_group last_short
  nodes : up.next_node ≤ max meta.next_node last_number
  shares : up.next_share ≤ max meta.next_share last_number

-- users have numbers below that
abbrev AreGivenTo : ℕ → List UserRow → Type 0
AreGivenTo next users = All (λ (row : UserRow). row.id < next) users

old_given : (next : ℕ) (users : List UserRow) (row : UserRow) → AreGivenTo next users → IsRequoted users row → row.id < next
old_given next users row given is =
    let below = subst (λ (o : Option UserRow). IfSome o (λ (old : UserRow). old.id < next)) is.there
    (found_has (λ (old : UserRow). old.id < next) (λ (old : UserRow). old.id == row.id) users given) in
    let same = ap (λ (r : UserRow). r.id) is.same in
    omega (arith, below, same)

row_counted : (t u : Tables) (blob : Option ℕ) (change : Change) → AreWithin t.meta u.meta → AreGivenTo u.meta.next_user u.users
    → KnownRow t blob u change → IsCounted t.meta change
row_counted t u blob (Put (rows.Node row)) few given known =
    elim known [ inl it ↦ omega (arith, it.born.given, few.nodes) | inr it ↦ omega (arith, it.given) ]
row_counted t u blob (Put (rows.Share row)) few given known =
    elim known.1 [ inl it ↦ omega (arith, it.0.given, few.shares) | inr it ↦ omega (arith, it.1) ]
row_counted t u blob (Put (rows.Mount row)) few given known = tt
row_counted t u blob (Put (rows.Version row)) few given known = tt
row_counted t u blob (Put (rows.Upload row)) few given known = tt
row_counted t u blob (Put (rows.Chunk row)) few given known = tt
row_counted t u blob (Drop (keys.Version node at)) few given known = tt
row_counted t u blob (Put (rows.User row)) few given known =
    let it = known.1 in
    let below = old_given u.meta.next_user u.users row given (record { was = it.old; there = it.there; same = it.same }) in
    omega (arith, below, few.users)
row_counted t u blob (Put (rows.Token row)) few given known = tt
row_counted t u blob (Put (rows.Group row)) few given known = omega (arith, known.1.given, few.groups)
row_counted t u blob (Put (rows.Member row)) few given known = tt
row_counted t u blob (Drop (keys.Member group user)) few given known = tt
row_counted t u blob change few given known = absurd known.1

-- the counters stay, and so do the numbers of users below them
abbrev StaysGiven : Tables → Tables → Type 0
StaysGiven u after = (after.meta ≡ u.meta) × AreGivenTo u.meta.next_user after.users

row_given : (t u : Tables) (blob : Option ℕ) (change : Change) → AreGivenTo u.meta.next_user u.users → KnownRow t blob u change
    → StaysGiven u (made u change)
row_given t u blob (Put (rows.Node row)) given known = (refl, given)
row_given t u blob (Put (rows.Share row)) given known = (refl, given)
row_given t u blob (Put (rows.Mount row)) given known = (refl, given)
row_given t u blob (Put (rows.Version row)) given known = (refl, given)
row_given t u blob (Put (rows.Upload row)) given known = (refl, given)
row_given t u blob (Put (rows.Chunk row)) given known = (refl, given)
row_given t u blob (Drop (keys.Version node at)) given known = (refl, given)
row_given t u blob (Put (rows.User row)) given known =
    let it = known.1 in
    let below = old_given u.meta.next_user u.users row given (record { was = it.old; there = it.there; same = it.same }) in
    (refl, all_put user_key (λ (row : UserRow). row.id < u.meta.next_user) row u.users below given)
row_given t u blob (Put (rows.Token row)) given known = (refl, given)
row_given t u blob (Put (rows.Group row)) given known = (refl, given)
row_given t u blob (Put (rows.Member row)) given known = (refl, given)
row_given t u blob (Drop (keys.Member group user)) given known = (refl, given)
row_given t u blob change given known = absurd known.1

-- each number is below the raised counter
rows_counted : (t : Tables) (blob : Option ℕ) (up : MetaRow) (u : Tables) (changes : List Change) → AreWithin t.meta up → u.meta ≡ up
    → AreGivenTo up.next_user u.users → KnownRows t blob u changes → All (IsCounted t.meta) changes
rows_counted t blob up _ _ few same given (no_more u) = All-nil (IsCounted t.meta)
rows_counted t blob up _ _ few same given (one_more u change changes known rest) =
    let here = subst (λ (meta : MetaRow). AreWithin t.meta meta) (sym same) few in
    let old = subst (λ (meta : MetaRow). AreGivenTo meta.next_user u.users) (sym same) given in
    let stays = row_given t u blob change old known in
    All-cons (IsCounted t.meta) change changes (row_counted t u blob change here old known)
    (rows_counted t blob up (made u change) changes few (stays.0 ∙ same)
    (subst (λ (meta : MetaRow). AreGivenTo meta.next_user (made u change).users) same stays.1) rest)
rows_counted t blob up _ _ few same given (user_more u row root changes known rest) =
    let user : row.id < up.next_user = subst (λ (meta : MetaRow). row.id < meta.next_user) same known.1.given in
    let node : root.id < up.next_node = subst (λ (meta : MetaRow). root.id < meta.next_node) same known.1.given_node in
    All-cons (IsCounted t.meta) (Put (rows.User row)) (Put (rows.Node root) ∷ changes) (omega (arith, user, few.users))
    (All-cons (IsCounted t.meta) (Put (rows.Node root)) changes (omega (arith, node, few.nodes))
    (rows_counted t blob up (with_user u row root) changes few same
    (all_put user_key (λ (row : UserRow). row.id < up.next_user) row u.users user given) rest))

changes_bear : (t : Tables) (now : ℕ) (changes : List Change) (blob : Option ℕ) → AreSound t
    → KnownChange t now changes blob → BearsChanges t changes blob
changes_bear t now changes blob sound known =
    let up = raised t now changes blob in
    let higher = counted_higher t.meta changes in
    let given = All-weaker (λ (row : UserRow). row.id < t.meta.next_user) (λ (row : UserRow). row.id < up.meta.next_user)
    (λ row less. omega (arith, less, higher.users)) t.users sound.users_given in
    record {
      rows = rows_borne t blob t.meta up changes sound.rising (sound_leads t sound) known.rows;
      numbers = rows_counted t blob up.meta up changes
          (record { users = known.next_user; groups = known.next_group; nodes = known.next_node; shares = known.next_share })
          refl given known.rows;
      next_blob = known.next_blob;
    }

-- and there may be the nodes that they add
-- so many as before, with those that the change adds, and there may be so many
record AddsFew (next : ℕ) (before after : List NodeRow) (change : Change) : Type 0 where
  adds : length after ≡ length before + cond (is_fresh next change) 1 0
  few : length after ≤ MAX_NODES

none_added : (next : ℕ) (nodes : List NodeRow) (change : Change) → is_fresh next change ≡ false → length nodes ≤ MAX_NODES
    → AddsFew next nodes nodes change
none_added next nodes change old few = record { adds = omega (arith, counts_none _ old); few = few }

born_few : (next : ℕ) (nodes : List NodeRow) (row : NodeRow) → next ≤ row.id → All (λ (old : NodeRow). old.id < row.id) nodes
    → length nodes + 1 ≤ MAX_NODES → AddsFew next nodes (put node_key row nodes) (Put (rows.Node row))
born_few next nodes row fresh newest few =
    let more : length (put node_key row nodes) ≡ length nodes + 1 =
    ap (λ (all : List NodeRow). length all) (put_new row nodes newest) ∙ length-append nodes (row ∷ []) in
    let is_new : not (nat_lt row.id next) ≡ true = ap not (le-ltb row.id next fresh) in
    record { adds = omega (arith, more, counts_one _ is_new); few = omega (arith, more, few) }

row_few : (t u : Tables) (blob : Option ℕ) (change : Change) → Rising u.nodes → length u.nodes ≤ MAX_NODES → KnownRow t blob u change
    → AddsFew t.meta.next_node u.nodes (made u change).nodes change
row_few t u blob (Put (rows.Node row)) rising few known =
    let next = t.meta.next_node in
    elim known [
      | inl it ↦ born_few next u.nodes row it.fresh it.born.newest it.born.few_nodes
      | inr it ↦
          (let change = filled row.content row.changed in
          let same : length (put node_key row u.nodes) ≡ length u.nodes =
          ap (λ (r : NodeRow). length (put node_key r u.nodes)) it.filled.same
          ∙ ap (λ (all : List NodeRow). length all) (put_changed u.nodes row.id change it.filled.old refl rising it.filled.there)
          ∙ length_with u.nodes row.id change in
          let old : not (nat_lt row.id next) ≡ false = ap not (lt-ltb row.id next it.given) in
          record { adds = omega (arith, same, counts_none _ old); few = omega (arith, same, few) })
    ]
row_few t u blob (Put (rows.Share row)) rising few known = none_added t.meta.next_node u.nodes (Put (rows.Share row)) refl few
row_few t u blob (Put (rows.Mount row)) rising few known = none_added t.meta.next_node u.nodes (Put (rows.Mount row)) refl few
row_few t u blob (Put (rows.Version row)) rising few known = none_added t.meta.next_node u.nodes (Put (rows.Version row)) refl few
row_few t u blob (Put (rows.Upload row)) rising few known = none_added t.meta.next_node u.nodes (Put (rows.Upload row)) refl few
row_few t u blob (Put (rows.Chunk row)) rising few known = none_added t.meta.next_node u.nodes (Put (rows.Chunk row)) refl few
row_few t u blob (Drop (keys.Version node at)) rising few known =
    none_added t.meta.next_node u.nodes (Drop (keys.Version node at)) refl few
row_few t u blob (Put (rows.User row)) rising few known = none_added t.meta.next_node u.nodes (Put (rows.User row)) refl few
row_few t u blob (Put (rows.Token row)) rising few known = none_added t.meta.next_node u.nodes (Put (rows.Token row)) refl few
row_few t u blob (Put (rows.Group row)) rising few known = none_added t.meta.next_node u.nodes (Put (rows.Group row)) refl few
row_few t u blob (Put (rows.Member row)) rising few known = none_added t.meta.next_node u.nodes (Put (rows.Member row)) refl few
row_few t u blob (Drop (keys.Member group user)) rising few known =
    none_added t.meta.next_node u.nodes (Drop (keys.Member group user)) refl few
row_few t u blob change rising few known = absurd known.1

rows_few : (t : Tables) (blob : Option ℕ) (u : Tables) (changes : List Change) → Rising u.nodes → length u.nodes ≤ MAX_NODES
    → KnownRows t blob u changes
    → length u.nodes + count_by (is_fresh t.meta.next_node) changes ≤ MAX_NODES
rows_few t blob _ _ rising few (no_more u) = omega (arith, few)
rows_few t blob _ _ rising few (one_more u change changes known rest) =
    let adds = row_few t u blob change rising few known in
    let others = rows_few t blob (made u change) changes (rising_row t blob u change rising known) adds.few rest in
    omega (arith, others, adds.adds, count_by-cons (is_fresh t.meta.next_node) change changes)
rows_few t blob _ _ rising few (user_more u row root changes known rest) =
    let next = t.meta.next_node in
    let adds = born_few next u.nodes root known.2 known.1.newest_node known.1.few_nodes in
    let others = rows_few t blob (with_user u row root) changes (root_rises u row root rising known.1) adds.few rest in
    omega (
      arith,
      others,
      adds.adds,
      count_by-cons (is_fresh next) (Put (rows.User row)) (Put (rows.Node root) ∷ changes),
      count_by-cons (is_fresh next) (Put (rows.Node root)) changes,
    )

-- ---- deeds

copies_bear : (t : Tables) (now : ℕ) (copies : List NodeRow) → AreSound t → Joins t now copies → BearsCopies t copies
copies_bear t now copies sound joins =
    let top = joins.transfer.node in
    record {
      some = λ none. omega (arith, ap (λ (rows : List NodeRow). length rows) none, joins.mirrors.all, (walk_first t.nodes top).1);
      given = sound_given t sound;
      numbers = record {
        numbered = λ k row is. (joins.mirrors.each k row is).id;
        next_node = omega (arith, joins.mirrors.all, joins.next_node);
      };
      leads = copies_lead t now copies sound joins;
    }

-- what is known of a deed can be borne by the tables in which it is done
deed_bears : (t : Tables) (now : ℕ) (one : Deed) → AreSound t → t.meta.last ≡ now → Fit t now one → BearsDeed t one
deed_bears t now (deed.Discard item) sound at (row, known, is) =
    ap (λ (item : ItemRow). is_some (node_row t.nodes item.node)) is ∙ ap (λ (o : Option NodeRow). is_some o) known.there
deed_bears t now (deed.Purge node) sound at goes = λ is. item_shares t node sound is
deed_bears t now (deed.Restore node folder name) sound at (row, fits) =
    let back = deed.Restore node folder name in
    record {
      there = ap (λ (o : Option NodeRow). is_some o) fits.there;
      leads = sound_leads (deed_done t back) (fit_sound t now back sound at (row, fits));
    }
deed_bears t now (deed.Relink node folder name) sound at (row, fits) =
    let move = deed.Relink node folder name in
    record {
      there = ap (λ (o : Option NodeRow). is_some o) fits.there;
      leads = sound_leads (deed_done t move) (fit_sound t now move sound at (row, fits));
    }
deed_bears t now (deed.Join copies) sound at joins = copies_bear t now copies sound joins
deed_bears t now (deed.Requote row) sound at known = record { was = known.old; there = known.there; same = known.same }
deed_bears t now (deed.Forget node moment) sound at known = tt
deed_bears t now (deed.Store changes) sound at known = record { stored = changes_bear t now changes None sound known; given = sound_given t sound }
deed_bears t now (deed.Abandon user dir) sound at known = tt

deeds_bear : (t : Tables) (now : ℕ) (deeds : List Deed) → AreSound t → t.meta.last ≡ now → InTurn t now deeds → BearsDeeds t deeds
deeds_bear t now [] sound at turn = tt
deeds_bear t now (one ∷ deeds) sound at turn = (
  deed_bears t now one sound at turn.0,
  deeds_bear (deed_done t one) now deeds (fit_sound t now one sound at turn.0) (deed_moment t one ∙ at) turn.1,
)

-- what can be borne is so whatever the meta row has
row_met : (next : ℕ) (t : Tables) (meta : MetaRow) (change : Change) → IsBorne next t change
    → IsBorne next (record t { meta = meta }) change × (made (record t { meta = meta }) change ≡ record (made t change) { meta = meta })
row_met next t meta (Put (rows.User row)) borne = (borne, refl)
row_met next t meta (Put (rows.Token row)) borne = (record { fresh = borne.fresh; user = borne.user; few = borne.few }, refl)
row_met next t meta (Put (rows.Group row)) borne = (borne, refl)
row_met next t meta (Put (rows.Member row)) borne =
    (record { fresh = borne.fresh; group = borne.group; user = borne.user; few = borne.few }, refl)
row_met next t meta (Put (rows.Node row)) borne = (borne, refl)
row_met next t meta (Put (rows.Share row)) borne = (borne, refl)
row_met next t meta (Put (rows.Mount row)) borne = (tt, refl)
row_met next t meta (Put (rows.Version row)) borne = (tt, refl)
row_met next t meta (Put (rows.Item row)) borne = (tt, refl)
row_met next t meta (Put (rows.Upload row)) borne = (tt, refl)
row_met next t meta (Put (rows.Chunk row)) borne = (tt, refl)
row_met next t meta (Drop (keys.Member group user)) borne = (tt, refl)
row_met next t meta (Drop (keys.Version node at)) borne = (tt, refl)
row_met next t meta (Drop (keys.Item node)) borne = (tt, refl)
row_met next t meta change borne = absurd borne

rows_met : (next : ℕ) (t : Tables) (meta : MetaRow) (changes : List Change) → AreBorne next t changes → AreBorne next (record t { meta = meta }) changes
rows_met next t meta [] borne = tt
rows_met next t meta (change ∷ changes) borne =
    let met = row_met next t meta change borne.0 in
    (met.0, subst (λ (after : Tables). AreBorne next after changes) (sym met.1) (rows_met next (made t change) meta changes borne.1))

store_unstamped : (t : Tables) (now : ℕ) (changes : List Change) → BearsStore (stamp t now) changes → BearsStore t changes
store_unstamped t now changes bears =
    let was = (stamp t now).meta in
    let same : AreHigher was t.meta =
    record { users = omega arith; groups = omega arith; nodes = omega arith; shares = omega arith; blobs = omega arith } in
    record {
      stored = record {
        rows = rows_met t.meta.next_node (stamp t now) t.meta changes bears.stored.rows;
        numbers = All-weaker (IsCounted was) (IsCounted t.meta) (λ change counts. counted_later was t.meta change same counts) changes bears.stored.numbers;
        next_blob = bears.stored.next_blob;
      };
      given = record { rising = bears.given.rising; given = bears.given.given };
    }

-- whatever moment is stamped
deed_unstamped : (t : Tables) (now : ℕ) (one : Deed) → BearsDeed (stamp t now) one → BearsDeed t one
deed_unstamped t now (deed.Discard item) bears = bears
deed_unstamped t now (deed.Purge node) bears = bears
deed_unstamped t now (deed.Restore node folder name) bears = record { there = bears.there; leads = bears.leads }
deed_unstamped t now (deed.Relink node folder name) bears = record { there = bears.there; leads = bears.leads }
deed_unstamped t now (deed.Join copies) bears = record {
  some = bears.some;
  given = record { rising = bears.given.rising; given = bears.given.given };
  numbers = record { numbered = bears.numbers.numbered; next_node = bears.numbers.next_node };
  leads = bears.leads;
}
deed_unstamped t now (deed.Requote row) bears = bears
deed_unstamped t now (deed.Forget node at) bears = bears
deed_unstamped t now (deed.Store changes) bears = store_unstamped t now changes bears
deed_unstamped t now (deed.Abandon user dir) bears = bears

deeds_unstamped : (t : Tables) (now : ℕ) (deeds : List Deed) → BearsDeeds (stamp t now) deeds → BearsDeeds t deeds
deeds_unstamped t now [] bears = tt
deeds_unstamped t now (one ∷ deeds) bears = (
  deed_unstamped t now one bears.0,
  deeds_unstamped (deed_done t one) now deeds (subst (λ (u : Tables). BearsDeeds u deeds) (deed_stamped t now one) bears.1),
)

-- ---- what is stored, if anything is, is stored first

none_first : (deeds : List Deed) → All StoresNone deeds → StoresFirst deeds
none_first [] none = none
none_first (deed.Store changes ∷ deeds) none = absurd (All-head StoresNone (deed.Store changes) deeds none)
none_first (one ∷ deeds) none = none

-- the deeds of a step store nothing, or it is an upload that becomes the content of a file
record Joined (t : Tables) (now : ℕ) (deeds : List Deed) : Type 0 where
  changes : List Change
  user : ℕ
  dir : List ℕ
  are : deeds ≡ deed.Store changes ∷ deed.Abandon user dir ∷ []
  known : KnownChange t now changes None

stores : (t : Tables) (now : ℕ) (deeds : List Deed) → KnownDeeds t now deeds → All StoresNone deeds ⊎ Joined t now deeds
stores t now _ (by_going nodes goes) = inl (purges_each t now StoresNone (λ node. tt) (λ item. tt) nodes)
stores t now _ (by_leaving row known) = inl (leaving_each t now StoresNone (λ node. tt) (λ item. tt) row)
stores t now _ (by_restoring node folder name gone known goes others) =
    inl (All-cons StoresNone (deed.Restore node folder name) (purges gone) tt (purges_each t now StoresNone (λ node. tt) (λ item. tt) gone))
stores t now _ (by_requoting row gone known goes) =
    inl (All-cons StoresNone (deed.Requote row) (purges gone) tt (purges_each t now StoresNone (λ node. tt) (λ item. tt) gone))
stores t now _ (by_moving transfer name known) =
    inl (put_each t now StoresNone (λ node. tt) (λ item. tt) transfer.replaced (deed.Relink transfer.node transfer.folder name) tt)
stores t now _ (by_copying transfer name known) =
    inl (put_each t now StoresNone (λ node. tt) (λ item. tt) transfer.replaced (deed.Join (copies_to t now transfer name)) tt)
stores t now _ (by_crossing transfer name known) = inl (crossing_each t now StoresNone (λ node. tt) (λ item. tt) transfer name tt)
stores t now _ (by_joining changes user dir known there) =
    inr (record { changes = changes; user = user; dir = dir; are = refl; known = known })
stores t now _ (by_abandoning user dir there) = inl (All-cons StoresNone (deed.Abandon user dir) [] tt (All-nil StoresNone))
stores t now _ (by_sweeping nodes rows goes idle) =
    inl (All-append StoresNone (purges nodes) (abandons rows) (purges_each t now StoresNone (λ node. tt) (λ item. tt) nodes)
    (abandons_each StoresNone (λ user dir. tt) rows))

-- and so with the versions that go behind them
settled_first : (t : Tables) (now : ℕ) (deeds : List Deed) → KnownSettled t now deeds → StoresFirst deeds
settled_first t now deeds known =
    let gone = forgets known.gone in
    subst StoresFirst (sym known.are)
    (elim (stores t now known.first known.known) [
      | inl none ↦ none_first (known.first ++ gone) (All-append StoresNone known.first gone none (forgets_each StoresNone (λ node at. tt) known.gone))
      | inr joined ↦
          subst (λ (first : List Deed). StoresFirst (first ++ gone)) (sym joined.are) (
            (λ none. absurd (cc)),
            All-cons OnlyDrops (deed.Abandon joined.user joined.dir) gone tt (forgets_each OnlyDrops (λ node at. tt) known.gone),
          )
    ])

-- ---- an act

step_bears : (t : Tables) (now : ℕ) (deeds : List Deed) → AreSound t → t.meta.last ≤ now → KnownSettled t now deeds → All IsPlain deeds → BearsStep t deeds
step_bears t now deeds sound later known plain = record {
  borne = deeds_unstamped t now deeds (deeds_bear (stamp t now) now deeds (stamp_sound t now sound later) refl (step_turn t now deeds sound later known));
  order = settled_first t now deeds known;
  tells = tells_step t now deeds sound later known plain;
}

-- what is decided stores nothing but files and versions by a deed
pub known_bears : (t : Tables) (now : ℕ) (act : Allowed) → AreSound t → t.meta.last ≤ now → Known t now act → IsPlainAct act → BearsAct t act
known_bears t now (allowed.Get node content) sound later known plain = tt
known_bears t now (allowed.List listing) sound later known plain = tt
known_bears t now (allowed.Put by key length) sound later known plain = tt
known_bears t now (allowed.Chunk user dir number length) sound later known plain = tt
known_bears t now (allowed.Change changes blob report) sound later known plain = changes_bear t now changes blob sound known
known_bears t now (allowed.Deeds deeds report) sound later known plain = step_bears t now deeds sound later known plain
known_bears t now allowed.Close sound later known plain = tt

-- ---- how many nodes deeds make

purges_none : (nodes : List ℕ) → sum_by rows_joined (purges nodes) ≡ 0
purges_none [] = refl
purges_none (node ∷ nodes) = omega (arith, sum_by-cons rows_joined (deed.Purge node) (purges nodes), purges_none nodes)

discards_none : (t : Tables) (now : ℕ) (node : Option ℕ) → sum_by rows_joined (discards t now node) ≡ 0
discards_none t now node = here (row_at t node)
  where
    here : (o : Option NodeRow) → sum_by rows_joined (option_map_or (λ row. discard t now row ∷ []) o []) ≡ 0
    here None = refl
    here (Some row) =
        cond_both (goes_itself t now row) (deed.Purge row.id) (deed.Discard (item_for now row))
        (λ (one : Deed). sum_by rows_joined (one ∷ []) ≡ 0) (λ e. refl) (λ e. refl)

besides_none : (t : Tables) (now : ℕ) (node : Option ℕ) → sum_by rows_joined (besides t now node) ≡ 0
besides_none t now node = here (row_at t node)
  where
    here : (o : Option NodeRow) → sum_by rows_joined (option_map_or (beside t now) o []) ≡ 0
    here None = refl
    here (Some row) = purges_none (rest_of t now row)

-- those of a deed behind what leaves its place
put_joins : (t : Tables) (now : ℕ) (node : Option ℕ) (one : Deed) (more : List Deed)
    → sum_by rows_joined (discards t now node ++ one ∷ more) ≡ rows_joined one + sum_by rows_joined more
put_joins t now node one more =
    omega (
      arith,
      sum_by-append rows_joined (discards t now node) (one ∷ more),
      sum_by-cons rows_joined one more,
      discards_none t now node,
    )

-- there are as many copies as nodes that are copied
many_copies : (t : Tables) (now : ℕ) (transfer : Transfer) (name : List ℕ) → AreSound t → KnownCopies t transfer name
    → length t.nodes + length (copies_to t now transfer name) ≤ MAX_NODES
many_copies t now transfer name sound known = omega (arith, (mirrored t now transfer name sound known.known.source).all, known.nodes)

-- uploads that go make none
abandons_none : (rows : List UploadRow) → sum_by rows_joined (abandons rows) ≡ 0
abandons_none [] = refl
abandons_none (row ∷ rows) = omega (arith, sum_by-cons rows_joined (deed.Abandon row.user row.dir) (abandons rows), abandons_none rows)

step_few : (t : Tables) (now : ℕ) (deeds : List Deed) → AreSound t → KnownDeeds t now deeds → length t.nodes + sum_by rows_joined deeds ≤ MAX_NODES
step_few t now deeds sound (by_going nodes goes) = omega (arith, sound.few_nodes, purges_none nodes)
step_few t now deeds sound (by_leaving row known) =
    let one = discard t now row in
    let none : rows_joined one ≡ 0 =
    cond_both (goes_itself t now row) (deed.Purge row.id) (deed.Discard (item_for now row)) (λ (one : Deed). rows_joined one ≡ 0) (λ e. refl) (λ e. refl) in
    omega (arith, sound.few_nodes, none, sum_by-cons rows_joined one (beside t now row), purges_none (rest_of t now row))
step_few t now deeds sound (by_restoring node folder name gone known goes others) =
    omega (arith, sound.few_nodes, sum_by-cons rows_joined (deed.Restore node folder name) (purges gone), purges_none gone)
step_few t now deeds sound (by_requoting row gone known goes) =
    omega (arith, sound.few_nodes, sum_by-cons rows_joined (deed.Requote row) (purges gone), purges_none gone)
step_few t now deeds sound (by_moving transfer name known) =
    omega (
      arith,
      sound.few_nodes,
      put_joins t now transfer.replaced (deed.Relink transfer.node transfer.folder name) (besides t now transfer.replaced),
      besides_none t now transfer.replaced,
    )
step_few t now deeds sound (by_copying transfer name known) =
    omega (
      arith,
      many_copies t now transfer name sound known,
      put_joins t now transfer.replaced (deed.Join (copies_to t now transfer name)) (besides t now transfer.replaced),
      besides_none t now transfer.replaced,
    )
step_few t now deeds sound (by_crossing transfer name known) =
    let from = Some transfer.node in
    let beside_both = besides t now transfer.replaced ++ besides t now from in
    omega (
      arith,
      many_copies t now transfer name sound known.copies,
      put_joins t now transfer.replaced (deed.Join (copies_to t now transfer name)) (discards t now from ++ beside_both),
      sum_by-append rows_joined (discards t now from) beside_both,
      sum_by-append rows_joined (besides t now transfer.replaced) (besides t now from),
      discards_none t now from,
      besides_none t now transfer.replaced,
      besides_none t now from,
    )
step_few t now deeds sound (by_joining changes user dir known there) =
    omega (
      arith,
      sound.few_nodes,
      sum_by-cons rows_joined (deed.Store changes) (deed.Abandon user dir ∷ []),
      sum_by-cons rows_joined (deed.Abandon user dir) [],
    )
step_few t now deeds sound (by_abandoning user dir there) = omega (arith, sound.few_nodes, sum_by-cons rows_joined (deed.Abandon user dir) [])
step_few t now deeds sound (by_sweeping nodes rows goes idle) =
    omega (arith, sound.few_nodes, sum_by-append rows_joined (purges nodes) (abandons rows), purges_none nodes, abandons_none rows)

-- versions that go make none
forgets_none : (gone : List Version) → sum_by rows_joined (forgets gone) ≡ 0
forgets_none [] = refl
forgets_none (version ∷ gone) =
    omega (arith, sum_by-cons rows_joined (deed.Forget version.node version.at) (forgets gone), forgets_none gone)

settled_few : (t : Tables) (now : ℕ) (deeds : List Deed) → AreSound t → KnownSettled t now deeds → length t.nodes + sum_by rows_joined deeds ≤ MAX_NODES
settled_few t now deeds sound known =
    omega (
      arith,
      step_few t now known.first sound known.known,
      ap (λ (all : List Deed). sum_by rows_joined all) known.are,
      sum_by-append rows_joined known.first (forgets known.gone),
      forgets_none known.gone,
    )

-- those that deeds add where nothing is stored
none_adds : (next : ℕ) (deeds : List Deed) → All StoresNone deeds → (added_deeds next deeds).nodes ≡ nodes_joined deeds
none_adds next [] none = refl
none_adds next (deed.Store changes ∷ deeds) none = absurd (All-head StoresNone (deed.Store changes) deeds none)
none_adds next (one ∷ deeds) none = refl

deeds_few : (t : Tables) (now : ℕ) (deeds : List Deed) → AreSound t → KnownSettled t now deeds
    → length t.nodes + (added_deeds t.meta.next_node deeds).nodes ≤ MAX_NODES
deeds_few t now deeds sound known =
    let next = t.meta.next_node in
    let gone = forgets known.gone in
    elim (stores t now known.first known.known) [
      | inl none ↦
          (let all = All-append StoresNone known.first gone none (forgets_each StoresNone (λ node at. tt) known.gone) in
          omega (arith, settled_few t now deeds sound known, none_adds next deeds (subst (All StoresNone) (sym known.are) all)))
      | inr joined ↦
          subst (λ (all : List Deed). length t.nodes + (added_deeds next all).nodes ≤ MAX_NODES)
          (sym (known.are ∙ ap (λ (first : List Deed). first ++ gone) joined.are))
          (rows_few t None (raised t now joined.changes None) joined.changes sound.rising sound.few_nodes joined.known.rows)
    ]

-- so there may be the nodes that an act adds
pub known_few : (t : Tables) (now : ℕ) (act : Allowed) → AreSound t → Known t now act → length t.nodes + (added_by t act).nodes ≤ MAX_NODES
known_few t now (allowed.Get node content) sound known = omega (arith, sound.few_nodes)
known_few t now (allowed.List listing) sound known = omega (arith, sound.few_nodes)
known_few t now (allowed.Put by key length) sound known = omega (arith, sound.few_nodes)
known_few t now (allowed.Chunk user dir number length) sound known = omega (arith, sound.few_nodes)
known_few t now (allowed.Change changes blob report) sound known =
    rows_few t blob (raised t now changes blob) changes sound.rising sound.few_nodes known.rows
known_few t now (allowed.Deeds deeds report) sound known = deeds_few t now deeds sound known
known_few t now allowed.Close sound known = omega (arith, sound.few_nodes)
