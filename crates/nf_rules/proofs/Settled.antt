-- The versions of each user's files stay within their bound by every step.
use Rattle.std.proofs.Common.{◌≡◌, ◌≤◌, ◌==◌, ℕ, inl, inr, not, Bool, true, false, List, [], ◌∷◌, ◌++◌, ◌∙◌, filter, get_or, map, sum_by, Option, None, Some, if◌then◌else◌, refl, sym, ap, subst, arith, flat_map, bytes_eq, ◌≢◌, Ok, Result, ◌-◌, ◌+◌}
use Rattle.std.specs.List.{All, AllPairs, Contains, list_any}
use Rattle.std.specs.Option.{option_map_or, IfSome}
use Rattle.std.proofs.lemmas.Bool.{eq-eqb, eqb-true, both_ways, cases_Bool, or_from, ne_eqb, cond_both}
use Rattle.std.proofs.lemmas.Cmp.{tied_itself}
use Rattle.std.proofs.lemmas.List.Elements.{All-contains, All-contains_itself, All-filter, filter_passes, All-append, All-head}
use Rattle.std.proofs.lemmas.List.Kept.{AllPairs-filter}
use Rattle.std.proofs.lemmas.List.Sums.{sum_by-cons}
use Rattle.nf_base.specs.declared.rows.NodeRow.{NodeRow}
use Rattle.nf_base.specs.declared.rows.VersionRow.{VersionRow}
use Rattle.nf_defs.proofs.ByName.{Contains-filter, Contains-map}
use Rattle.nf_defs.proofs.Puts.{key_total}
use Rattle.nf_defs.specs.Prelude.{is_file, key_cmp, node_row, owner_of, Tables, version_key, is_under, item_row, user_row, user_key, put, Access, made, put_all, filled}
use Rattle.nf_laws.proofs.Files.{file_row}
use Rattle.nf_laws.proofs.Owned.{KeepsOwners, altered_owners}
use Rattle.nf_laws.proofs.Rows.{row_is, stamp, stamped_has, finds_none}
use Rattle.nf_laws.proofs.Turning.{deeds_fewer, added_fewer}
use Rattle.nf_retention.specs.Budget.{versions_bound}
use Rattle.nf_retention.specs.declared.versions.Version.{Version}
use Rattle.nf_words.specs.Others.{IsVersionSound}
use Rattle.nf_words.specs.Prelude.{after, AreSound, charge_of, deeds_done, IsSound, MayCome, quota_of, State, forgets, forgotten, settled_by, unsettled, purged_by, held_without, altered, told, decision_of, MayAsk, purges, deed_done, restored, home_of, name_back, charged_to, requoting, charged, item_size, restoring, charged_for, copies, crossing, gone_of, items_of, IsRequoted, stored_at, call_of, gone_from, owners_of, swept, gone_beside, ends_goal, ends_at, end_refusal, access_of, goal_at, IsStorable, content_in, blob_for, new_node, refills, refilled, gone_after, is_same, turned_over, abandons, assembled_at, chunk_put, chunk_refusal, chunk_stored, is_idle, new_file, replaced, upload_row, upload_touched, whole_of}
use Rattle.nf_words.specs.Versions.{beyond_bound, content_size, held, is_version, is_held_by, is_under_any}
use Rattle.nf_words.specs.declared.answer.Deed.{Deed}
use Rattle.nf_words.specs.declared.answer.Deed.TheVariants as deed
use Rattle.nf_words.specs.declared.history.Entry.{Entry}
use Rattle.nf_rules.specs.Ruled.{AreSettled}
use Rattle.nf_rules.specs.Rules.{held_bytes}
use Rattle.nf_rules.proofs.Held.{AreHeldApart, beyond_leaves, bound_falls, bound_rises, left_size, sum_among}
use Rattle.std.proofs.lemmas.List.Folds.{list_any_none}
use Rattle.std.proofs.lemmas.Option.{none-some, same_Some}
use Rattle.nf_words.specs.Changes.{Charged}
use Rattle.nf_laws.specs.Acts.{IsGoneWith}
use Rattle.nf_laws.proofs.Behind.{behind_only}
use Rattle.nf_laws.proofs.InTurn.{deeds_append}
use Rattle.nf_laws.proofs.Upwards.{derived}
use Rattle.nf_defs.proofs.Climbs.{under_climb}
use Rattle.nf_laws.proofs.Entries.{entry_has}
use Rattle.nf_laws.proofs.Going.{items_purged}
use Rattle.nf_laws.proofs.Restoring.{back_beside}
use Rattle.nf_laws.proofs.Recharged.{IsLower, purges_lower, requoted_charge, copies_less, crossing_less, IsComing, restored_less, lower_append}
use Rattle.nf_words.proofs.Known.{KnownGoes, KnownRestore, Known, KnownSettled, KnownCopies, KnownCross}
use Rattle.nf_words.specs.declared.answer.Allowed.{Allowed}
use Rattle.nf_words.specs.declared.answer.Allowed.TheVariants as allowed
use Rattle.nf_words.specs.declared.answer.Report.TheVariants as report
use Rattle.nf_base.specs.declared.rows.Row.TheVariants as rows
use Rattle.nf_base.specs.declared.rows.UserRow.{UserRow}
use Rattle.nf_base.specs.declared.rows.ItemRow.{ItemRow}
use Rattle.nf_laws.proofs.Behaving.{AreSettledSo, AreTurnless, IsBroughtBack, SettlesSo, all_turnless, by_copies, by_cross, by_none, by_quota, by_return, call_settles, turnless_of, users_turnless, by_join}
use Rattle.nf_laws.proofs.Parts.{step_sound, copies_stamped, deeds_stamped}
use Rattle.nf_laws.proofs.Stays.{altered_sound}
use Rattle.nf_laws.proofs.Trashing.{trash_same, act_kept}
use Rattle.nf_laws.proofs.Quotas.{rows_fewer}
use Rattle.nf_laws.proofs.Charging.{charge_beside}
use Rattle.nf_laws.proofs.Puts.{number_found, other_number}
use Rattle.nf_laws.proofs.Peopled.{people_sound}
use Rattle.nf_words.proofs.Fits.{KnownChange}
use Rattle.nf_words.proofs.Ends.{known_change, goal_held}
use Rattle.nf_base.specs.declared.changes.Change.{Change}
use Rattle.nf_base.specs.declared.changes.Change.TheVariants.{Put}
use Rattle.nf_words.specs.declared.request.Transfer.{Transfer}
use Rattle.nf_words.specs.declared.answer.LockKey.{LockKey}
use Rattle.nf_words.specs.declared.answer.Report.{Report}
use Rattle.nf_words.specs.declared.history.Event.{Event}
use Rattle.nf_words.specs.declared.history.Event.TheVariants.{Begin, End, Sweep}
use Rattle.nf_words.proofs.Trashing.{quota_goes}
use Rattle.nf_words.proofs.Passing.{not_refused}
use Rattle.nf_words.specs.declared.answer.Denial.{Denial}
use Rattle.nf_words.specs.declared.answer.Goal.{Goal}
use Rattle.nf_words.specs.declared.answer.Goal.TheVariants.{Chunk, Serve, Store}
use Rattle.nf_words.specs.declared.history.Outcome.{Outcome}
use Rattle.nf_words.specs.declared.history.Outcome.TheVariants.{Body}
use Rattle.nf_words.specs.Listing.{size_of}
use Rattle.nf_laws.proofs.Stored.{born_comes, refills_comes}
use Rattle.nf_laws.proofs.Refilled.{added_made, refills_made}
use Rattle.nf_base.specs.declared.rows.NodeKind.TheVariants.{File}
use Rattle.nf_words.specs.declared.answer.LockKey.TheVariants.{Node, Slot}
use Rattle.nf_rules.proofs.Dropped.{dropped_not, drops_left}
use Rattle.nf_rules.proofs.TurnedOver.{in_turn, last, puts_append, seen, in_seen, none_beyond, IsFrom, last_from}
use Rattle.nf_laws.proofs.Sizes.{weight}
use Rattle.nf_base.specs.declared.content.Piece.{Piece}
use Rattle.nf_laws.proofs.Carried.{Kind, copying_kind, crossing_kind}
use Rattle.nf_laws.proofs.Departed.{all_gone}
use Rattle.nf_laws.proofs.Others.{stamp_sound}
use Rattle.std.proofs.lemmas.Grind.{flat_map-append}
use Rattle.nf_base.specs.declared.rows.MetaRow.{MetaRow}
use Rattle.nf_laws.proofs.Each.{abandons_each, forgets_none, NoStore, purges_none, settled_stores}
use Rattle.nf_laws.proofs.Joining.{abandons_lower, IsPlaced}
use Rattle.nf_laws.proofs.Chunking.{chunk_leaves}
use Rattle.nf_defs.specs.declared.Found.{Found}
use Rattle.nf_defs.specs.declared.Found.TheVariants.{At, Free, Missing}
use Rattle.nf_rules.proofs.Storing.{call_stores, copies_none, crossing_none, requoting_none, restoring_none, settled_none, StoresSo}
use Rattle.nf_base.specs.declared.rows.ChunkRow.{ChunkRow}

-- a user's versions are within their bound
abbrev IsSettled : Tables → ℕ → Type 0
IsSettled t user = held_bytes t user ≤ versions_bound (quota_of t user) (charge_of t user)

-- the bytes of rows and of what the bound sees of them
sum_held : (rows : List VersionRow) → sum_by (λ (v : Version). v.size) (map held rows) ≡ sum_by (λ (row : VersionRow). content_size row.content) rows
sum_held [] = refl
sum_held (row ∷ rows) =
    omega (
      arith,
      sum_by-cons (λ (v : Version). v.size) (held row) (map held rows),
      sum_by-cons (λ (row : VersionRow). content_size row.content) row rows,
      sum_held rows,
    )

-- ---- the versions of a user after a step

module _ (u : Tables) (sound : AreSound u) (user : ℕ) where
  abbrev own : VersionRow → Bool
  own row = owner_of u.nodes row.node == user

  abbrev its : List VersionRow
  its = filter own u.versions

  rows_apart : AllPairs AreHeldApart its
  rows_apart = AllPairs-filter AreHeldApart own u.versions (λ i j d before within is.
      let a = get_or u.versions i d in
      let b = get_or u.versions j d in
      let node = ap (λ (v : Version). v.node) is in
      let at = ap (λ (v : Version). v.at) is in
      let same : version_key a ≡ version_key b = ap (λ (n : ℕ). n ∷ a.at ∷ []) node ∙ ap (λ (n : ℕ). b.node ∷ n ∷ []) at in
      let equal = tied_itself key_total (version_key b) in
      let less = ap (λ (key : List ℕ). key_cmp key (version_key b)) (sym same) ∙ sound.others.versions_rise i j d before within in absurd (cc))

  -- each of them is among those of a list, where it counts for as much at least
  among : (versions : List Version) (g : Version → ℕ)
      → ((row : VersionRow) → Contains u.versions row → owner_of u.nodes row.node ≡ user
      → Contains versions (held row) × (content_size row.content ≤ g (held row)))
      → held_bytes u user ≤ sum_by g versions
  among versions g each =
      sum_among (λ (row : VersionRow). content_size row.content) g versions its rows_apart (λ k d less.
      each (get_or its k d) (All-filter own (Contains u.versions) u.versions (All-contains_itself u.versions) k d less)
      (eqb-true (owner_of u.nodes (get_or its k d).node) user (filter_passes own u.versions k d less)))

  -- each was the user's before: they are no more
  fewer : (t : Tables)
      → ((row : VersionRow) → Contains u.versions row → owner_of u.nodes row.node ≡ user
      → Contains t.versions row × (owner_of t.nodes row.node ≡ user))
      → held_bytes u user ≤ held_bytes t user
  fewer t each =
      let was : VersionRow → Bool = λ row. owner_of t.nodes row.node == user in
      let before = filter was t.versions in
      omega (
        arith,
        among (map held before) (λ (v : Version). v.size) (λ row is own_is.
            let h = each row is own_is in
            (Contains-map held before row (Contains-filter was t.versions row h.0 (eq-eqb (owner_of t.nodes row.node) user h.1)), omega arith)),
        sum_held before,
      )

  -- so they stay within their bound, where the user's charge is no more and the quota no less
  settled_fewer : (t : Tables) → IsSettled t user → charge_of u user ≤ charge_of t user → quota_of t user ≤ quota_of u user
      → ((row : VersionRow) → Contains u.versions row → owner_of u.nodes row.node ≡ user
      → Contains t.versions row × (owner_of t.nodes row.node ≡ user))
      → IsSettled u user
  settled_fewer t settled charge quota each =
      omega (
        arith,
        fewer t each,
        settled,
        bound_falls (quota_of t user) (charge_of u user) (charge_of t user) charge,
        bound_rises (charge_of u user) (quota_of t user) (quota_of u user) quota,
      )

  -- each is one of a list, and none that is beyond a bound there
  settled_bounded : (quota charge : ℕ) (versions : List Version) → charge_of u user ≤ charge → quota_of u user ≡ quota
      → ((row : VersionRow) → Contains u.versions row → owner_of u.nodes row.node ≡ user
      → Contains versions (held row) × (list_any (is_version row.node row.at) (beyond_bound quota charge versions) ≡ false))
      → IsSettled u user
  settled_bounded quota charge versions less same each =
      let gone = beyond_bound quota charge versions in
      omega (
        arith,
        among versions (left_size gone) (λ row is own_is.
            let h = each row is own_is in
            (h.0, subst (λ (b : Bool). content_size row.content ≤ (if b then 0 else content_size row.content)) (sym h.1) (omega arith))),
        beyond_leaves (versions_bound quota charge) versions,
        bound_falls quota (charge_of u user) charge less,
        ap (λ (q : ℕ). versions_bound q (charge_of u user)) same,
      )

-- ---- whose a version was

-- its file is that of the same owner
owner_was : (t u : Tables) (row : VersionRow) → AreSound t → AreSound u → KeepsOwners t u → Contains t.versions row → Contains u.versions row
    → owner_of t.nodes row.node ≡ owner_of u.nodes row.node
owner_was t u row before sound keeps was is =
    let old = file_row t.nodes row.node (All-contains (IsVersionSound t) t.versions row before.others.versions was).file in
    let now = file_row u.nodes row.node (All-contains (IsVersionSound u) u.versions row sound.others.versions is).file in
    let given = row_is t row.node old.0 before old.1 in
    let same = keeps row.node now.0 (omega (arith, given.0, given.1.given)) now.1 in
    let owner = λ (o : Option NodeRow). option_map_or (λ (row : NodeRow). row.owner) o 0 in
    ap owner same.1 ∙ sym same.2 ∙ sym (ap owner now.1)

-- where each version was there before, a user's are no more
settled_kept : (t u : Tables) (user : ℕ) → AreSound t → AreSound u → KeepsOwners t u → All (Contains t.versions) u.versions → IsSettled t user
    → charge_of u user ≤ charge_of t user → quota_of t user ≤ quota_of u user → IsSettled u user
settled_kept t u user before sound keeps versions settled charge quota =
    settled_fewer u sound user t settled charge quota (λ row is own_is.
    let was = All-contains (Contains t.versions) u.versions row versions is in
    (was, owner_was t u row before sound keeps was is ∙ own_is))

-- ---- versions that go behind deeds

-- none of those is left
forgets_left : (u : Tables) (gone : List Version)
    → All (λ (row : VersionRow). list_any (is_version row.node row.at) gone ≡ false) (deeds_done u (forgets gone)).versions
forgets_left u [] k d within = refl
forgets_left u (version ∷ gone) k d within =
    let left = forgotten u version.node version.at in
    let row = get_or (deeds_done left (forgets gone)).versions k d in
    let among : Contains left.versions row = deeds_fewer left (forgets gone) (forgets_none gone) k d within in
    let NotIt : VersionRow → Type 0 = λ row. not (bytes_eq (version.node ∷ version.at ∷ []) (version_key row)) ≡ true in
    or_from (is_version row.node row.at version) (list_any (is_version row.node row.at) gone)
    (dropped_not version row (All-contains NotIt left.versions row
    (filter_passes (λ (row : VersionRow). not (bytes_eq (version.node ∷ version.at ∷ []) (version_key row))) u.versions) among))
    (forgets_left left gone k d within)

-- what is under none of the nodes that are gone
not_under : (t u : Tables) (tops : List ℕ) (node : ℕ) → AreSound t → All (IsGoneWith t.nodes u.nodes) tops → is_file u.nodes node ≡ true
    → is_under_any t.nodes tops node ≡ false
not_under t u tops node sound gone file =
    list_any_none (λ (top : ℕ). is_under t.nodes node top) tops (λ k d within.
    let top = get_or tops k d in
    elim (cases_Bool (is_under t.nodes node top)) [
      | inl under ↦
          (let row = file_row u.nodes node file in
          let c = under_climb t.nodes node top under in
          absurd (none-some row.0 (sym (gone k d within node (derived c.0 t.nodes top node c.2)) ∙ row.1)))
      | inr not ↦ not
    ])

-- where the deeds before leave a charge that isn't more than what is told, and no version of what goes for good, the owner's stay within
-- their bound
settled_behind : (t : Tables) (now : ℕ) (to : Charged) (first : List Deed) → All NoStore first → AreSound t
    → AreSound (stamp (deeds_done t (settled_by t to first)) now)
    → KeepsOwners t (deeds_done t (settled_by t to first)) → charge_of (deeds_done t first) to.owner ≤ to.charge
    → quota_of (deeds_done t first) to.owner ≡ to.quota → All (IsGoneWith t.nodes (deeds_done t first).nodes) (flat_map purged_by first)
    → IsSettled (stamp (deeds_done t (settled_by t to first)) now) to.owner
unfolding charge_of
settled_behind t now to first none before sound keeps charge quota gone =
    let tops = flat_map purged_by first in
    let versions = unsettled t to tops in
    let u = stamp (deeds_done t (settled_by t to first)) now in
    let only = behind_only t first versions in
    let same : deeds_done t (settled_by t to first) ≡ deeds_done (deeds_done t first) (forgets versions) = deeds_append t first (forgets versions) in
    settled_bounded u sound to.owner to.quota to.charge (held_without t to.owner tops)
    (subst (λ (v : Tables). charge_of v to.owner ≤ to.charge) (sym only) charge)
    (ap (λ (v : Tables). quota_of v to.owner) only ∙ quota) (λ row is own_is.
    let was = All-contains (Contains t.versions) u.versions row (deeds_fewer t (settled_by t to first) (settled_none t now to first none)) is in
    let owner = owner_was t u row before sound keeps was is ∙ own_is in
    let file = (All-contains (IsVersionSound u) u.versions row sound.others.versions is).file in
    let under = not_under t (deeds_done t first) tops row.node before gone
    (subst (λ (v : Tables). is_file v.nodes row.node ≡ true) only file) in
    let left = All-contains (λ (row : VersionRow). list_any (is_version row.node row.at) versions ≡ false) u.versions row
    (subst (λ (v : Tables). All (λ (row : VersionRow). list_any (is_version row.node row.at) versions ≡ false) v.versions) (sym same)
    (forgets_left (deeds_done t first) versions)) is in (
      Contains-map held _ row
          (Contains-filter (λ (row : VersionRow). not (is_under_any t.nodes tops row.node)) (filter (is_held_by t.nodes to.owner) t.versions) row
          (Contains-filter (is_held_by t.nodes to.owner) t.versions row was (eq-eqb (owner_of t.nodes row.node) to.owner owner)) (ap not under)),
      left,
    ))

-- ---- another quota, and what comes back

-- the nodes that go for good by such deeds
purged_purges : (nodes : List ℕ) → flat_map purged_by (purges nodes) ≡ nodes
purged_purges [] = refl
purged_purges (node ∷ nodes) = ap (λ (rest : List ℕ). node ∷ rest) (purged_purges nodes)

requote_gone : (t : Tables) (row : UserRow) (gone : List ℕ) → AreSound t → AreSound (deed_done t (deed.Requote row)) → KnownGoes t gone
    → All (IsGoneWith t.nodes (deeds_done t (deed.Requote row ∷ purges gone)).nodes) (flat_map purged_by (deed.Requote row ∷ purges gone))
requote_gone t row gone before sound goes =
    let made = deed_done t (deed.Requote row) in
    subst (All (IsGoneWith t.nodes (deeds_done made (purges gone)).nodes)) (sym (purged_purges gone))
    (items_purged made gone sound goes.items goes.once).gone

restore_gone : (t : Tables) (item : ItemRow) (gone : List ℕ) → AreSound t
    → KnownRestore t item.node (home_of t item) (name_back t item) → KnownGoes t gone → All (λ (node : ℕ). item.node ≢ node) gone
    → (let first = deed.Restore item.node (home_of t item) (name_back t item) ∷ purges gone in
    All (IsGoneWith t.nodes (deeds_done t first).nodes) (flat_map purged_by first))
restore_gone t item gone sound known goes others =
    let made = restored t item.node (home_of t item) (name_back t item) in
    subst (All (IsGoneWith t.nodes (deeds_done made (purges gone)).nodes)) (sym (purged_purges gone))
    (back_beside t item sound known gone goes.items others goes.once).gone

-- what is moved or copied: all that goes for good is gone
kind_gone : (t : Tables) (now : ℕ) (deeds : List Deed) (leave : List ℕ) (IsPut : ℕ → Type 0) (Held : Tables → Type 0) (meta : MetaRow)
    → AreSound (stamp t now) → Kind (stamp t now) now deeds leave IsPut Held meta
    → All (IsGoneWith t.nodes (deeds_done t deeds).nodes) (flat_map purged_by deeds)
kind_gone t now deeds leave IsPut Held meta sound kind =
    let dated = stamp t now in
    let first = kind.one ∷ kind.more in
    let tops : flat_map purged_by deeds ≡ flat_map purged_by first ++ kind.gone =
    ap (flat_map purged_by) kind.are ∙ flat_map-append purged_by first (purges kind.gone)
    ∙ ap (λ (gone : List ℕ). flat_map purged_by first ++ gone) (purged_purges kind.gone) in
    let made : deeds_done (deeds_done dated first) (purges kind.gone) ≡ stamp (deeds_done t deeds) now =
    sym (ap (deeds_done dated) kind.are ∙ deeds_append dated first (purges kind.gone)) ∙ deeds_stamped t now deeds in
    subst (All (IsGoneWith t.nodes (deeds_done t deeds).nodes)) (sym tops)
    (subst (λ (u : Tables). All (IsGoneWith t.nodes u.nodes) (flat_map purged_by first ++ kind.gone)) made
    (all_gone dated now deeds leave IsPut Held meta sound kind))

-- ---- each act

-- deeds that lower charges, and versions that go behind them
lower_settled : (t : Tables) (now user : ℕ) (deeds : List Deed) → All NoStore deeds → AreSound t → AreSound (stamp (deeds_done t deeds) now)
    → KeepsOwners t (deeds_done t deeds) → IsSettled t user → IsLower deeds t user → IsSettled (stamp (deeds_done t deeds) now) user
unfolding charge_of
lower_settled t now user deeds none before sound keeps settled lower =
    settled_kept t (stamp (deeds_done t deeds) now) user before sound keeps (deeds_fewer t deeds none) settled lower.0
    (omega (arith, lower.1))

-- of another than who is charged
other_settled : (t : Tables) (now user : ℕ) (to : Charged) (first : List Deed) → All NoStore first → AreSound t
    → AreSound (stamp (deeds_done t (settled_by t to first)) now) → KeepsOwners t (deeds_done t (settled_by t to first)) → IsSettled t user
    → charge_of (deeds_done t first) user ≤ charge_of t user → quota_of t user ≤ quota_of (deeds_done t first) user
    → IsSettled (stamp (deeds_done t (settled_by t to first)) now) user
unfolding charge_of
other_settled t now user to first none before sound keeps settled charge quota =
    let all = settled_by t to first in
    let only = behind_only t first (unsettled t to (flat_map purged_by first)) in
    settled_kept t (stamp (deeds_done t all) now) user before sound keeps (deeds_fewer t all (settled_none t now to first none)) settled
    (subst (λ (v : Tables). charge_of v user ≤ charge_of t user) (sym only) charge)
    (omega (arith, quota, ap (λ (v : Tables). quota_of v user) only))

-- another quota of one user, and the others' as they were
quota_put : (users : List UserRow) (row : UserRow) → option_map_or (λ (row : UserRow). row.quota) (user_row (put user_key row users) row.id) 0 ≡ row.quota
quota_put users row = ap (λ (o : Option UserRow). option_map_or (λ (row : UserRow). row.quota) o 0) (number_found (λ (r : UserRow). r.id) row users)

-- by what is done, whose versions go
module _ (t : Tables) (now : ℕ) (before : AreSound t) (later : t.meta.last ≤ now) (settled : AreSettled t) where
  -- of whom is charged, and of another
  charged_or : (user : ℕ) (to : Charged) (first : List Deed) → All NoStore first → KnownSettled t now (settled_by t to first)
      → ((user ≡ to.owner) → (charge_of (deeds_done t first) to.owner ≤ to.charge) × (quota_of (deeds_done t first) to.owner ≡ to.quota))
      → ((user ≢ to.owner) → (charge_of (deeds_done t first) user ≤ charge_of t user) × (quota_of t user ≤ quota_of (deeds_done t first) user))
      → All (IsGoneWith t.nodes (deeds_done t first).nodes) (flat_map purged_by first)
      → IsSettled (stamp (deeds_done t (settled_by t to first)) now) user
  charged_or user to first none known own other gone =
      let fine = step_sound t now (settled_by t to first) before later known in
      let keeps = altered_owners t now (allowed.Deeds (settled_by t to first) report.Plain) before later known in
      elim (cases_Bool (user == to.owner)) [
        | inl is ↦
            (let same = eqb-true user to.owner is in
            let fits = own same in
            subst (IsSettled (stamp (deeds_done t (settled_by t to first)) now)) (sym same)
            (settled_behind t now to first none before fine keeps fits.0 fits.1 gone))
        | inr not ↦
            (let fits = other (λ same. both_ways (user == to.owner) not (eq-eqb user to.owner same)) in
            other_settled t now user to first none before fine keeps (settled user) fits.0 fits.1)
      ]

  requoted_settled : (row : UserRow) (quota user : ℕ) → user_row t.users row.id ≡ Some row → (row.quota == quota) ≡ false
      → KnownSettled t now (settled_by t (charged_to t quota row) (requoting t now quota row))
      → IsSettled (stamp (deeds_done t (settled_by t (charged_to t quota row) (requoting t now quota row))) now) user
  requoted_settled row quota user there differs known =
      let gone = gone_of t now quota (items_of t row.id) in
      let new : UserRow = record row { quota = quota } in
      let made = deed_done t (deed.Requote new) in
      let lower = λ (user : ℕ). purges_lower gone made user in
      let less = λ (user : ℕ). requoted_charge t new row user there refl in
      let is : IsRequoted t new = record {
        old = row;
        there = there;
        same = refl;
        other = λ same. both_ways (row.quota == quota) differs (eq-eqb row.quota quota (sym (ap (λ (r : UserRow). r.quota) same)));
      } in
      let goes = quota_goes t before now quota row.id in
      charged_or user (charged_to t quota row) (requoting t now quota row) (requoting_none t now quota row) known
      (λ same. (omega (arith, (lower row.id).0, less row.id), (lower row.id).1 ∙ quota_put t.users new))
      (λ other. (
        omega (arith, (lower user).0, less user),
        omega (
          arith,
          (lower user).1,
          ap (λ (o : Option UserRow). option_map_or (λ (row : UserRow). row.quota) o 0) (other_number (λ (r : UserRow). r.id) new t.users user other),
        ),
      ))
      (requote_gone t new gone before (people_sound t (Put (rows.User new)) before is) goes)

  returned_settled : (item : ItemRow) (user : ℕ) → item_row t.items item.node ≡ Some item
      → KnownRestore t item.node (home_of t item) (name_back t item) → KnownGoes t (gone_beside t now item)
      → All (λ (node : ℕ). item.node ≢ node) (gone_beside t now item)
      → KnownSettled t now (settled_by t (charged t item.owner 0 (item_size t item)) (restoring t now item))
      → IsSettled (stamp (deeds_done t (settled_by t (charged t item.owner 0 (item_size t item)) (restoring t now item))) now) user
  returned_settled item user there restore goes others known =
      let gone = gone_beside t now item in
      let made = restored t item.node (home_of t item) (name_back t item) in
      let lower = λ (user : ℕ). purges_lower gone made user in
      let less = λ (user : ℕ). restored_less t item.node (home_of t item) user (name_back t item) item before there in
      charged_or user (charged t item.owner 0 (item_size t item)) (restoring t now item) (restoring_none t now item) known
      (λ same. (
        omega (
          arith,
          (lower item.owner).0,
          less item.owner,
          ap (λ (b : Bool). if b then size_of t.nodes item.node else 0) (eq-eqb item.owner item.owner refl),
        ),
        (lower item.owner).1,
      ))
      (λ other. (
        omega (
          arith,
          (lower user).0,
          less user,
          ap (λ (b : Bool). if b then size_of t.nodes item.node else 0) (ne_eqb item.owner user (λ same. other (sym same))),
        ),
        omega (arith, (lower user).1),
      ))
      (restore_gone t item gone before restore goes others)

  -- the folder's owner is charged for copies, and no other is
  own_coming : (transfer : Transfer) (name : List ℕ) (user : ℕ) (made : Tables) → owner_of t.nodes transfer.folder ≡ user
      → IsComing t now user transfer name before later made
      → (charge_of made user ≤ charge_of t user - option_map_or (size_of t.nodes) transfer.replaced 0 + size_of t.nodes transfer.node)
      × (quota_of made user ≡ quota_of t user)
  own_coming transfer name user made owner is =
      let own : (owner_of t.nodes transfer.folder == user) ≡ true = eq-eqb (owner_of t.nodes transfer.folder) user owner in
      let sum = is.0 in (
        omega (
          arith,
          sum,
          ap (λ (b : Bool). if b then option_map_or (size_of t.nodes) transfer.replaced 0 else 0) own,
          ap (λ (b : Bool). if b then size_of t.nodes transfer.node else 0) own,
        ),
        is.1,
      )

  other_coming : (transfer : Transfer) (name : List ℕ) (user : ℕ) (made : Tables) → user ≢ owner_of t.nodes transfer.folder
      → IsComing t now user transfer name before later made
      → (charge_of made user ≤ charge_of t user) × (quota_of t user ≤ quota_of made user)
  other_coming transfer name user made other is =
      let off : (owner_of t.nodes transfer.folder == user) ≡ false = ne_eqb (owner_of t.nodes transfer.folder) user (λ same. other (sym same)) in (
        omega (
          arith,
          is.0,
          ap (λ (b : Bool). if b then option_map_or (size_of t.nodes) transfer.replaced 0 else 0) off,
          ap (λ (b : Bool). if b then size_of t.nodes transfer.node else 0) off,
        ),
        omega (arith, is.1),
      )

  copied_settled : (transfer : Transfer) (name : List ℕ) (user : ℕ) → KnownCopies t transfer name
      → KnownSettled t now (settled_by t (charged_for t transfer) (copies t now name transfer))
      → IsSettled (stamp (deeds_done t (settled_by t (charged_for t transfer) (copies t now name transfer))) now) user
  copied_settled transfer name user copied known =
      charged_or user (charged_for t transfer) (copies t now name transfer) (copies_none t now transfer name) known
      (λ same. own_coming transfer name (owner_of t.nodes transfer.folder) (deeds_done t (copies t now name transfer)) refl
      (copies_less t now (owner_of t.nodes transfer.folder) transfer name before later copied))
      (λ other. other_coming transfer name user (deeds_done t (copies t now name transfer)) other
      (copies_less t now user transfer name before later copied))
      (let dated = stamp t now in
      let fine = stamp_sound t now before later in
      let kind = copying_kind dated now fine refl transfer name (copies_stamped t now transfer name copied) in
      kind_gone t now (copies t now name transfer) _ _ _ _ fine kind)

  crossed_settled : (transfer : Transfer) (name : List ℕ) (user : ℕ) → KnownCross t transfer name
      → KnownSettled t now (settled_by t (charged_for t transfer) (crossing t now name transfer))
      → IsSettled (stamp (deeds_done t (settled_by t (charged_for t transfer) (crossing t now name transfer))) now) user
  crossed_settled transfer name user cross known =
      charged_or user (charged_for t transfer) (crossing t now name transfer) (crossing_none t now transfer name) known
      (λ same. own_coming transfer name (owner_of t.nodes transfer.folder) (deeds_done t (crossing t now name transfer)) refl
      (crossing_less t now (owner_of t.nodes transfer.folder) transfer name before later cross))
      (λ other. other_coming transfer name user (deeds_done t (crossing t now name transfer)) other
      (crossing_less t now user transfer name before later cross))
      (let dated = stamp t now in
      let fine = stamp_sound t now before later in
      let kind = crossing_kind dated now fine refl transfer name
      (record { copies = copies_stamped t now transfer name cross.copies; crosses = cross.crosses }) in
      kind_gone t now (crossing t now name transfer) _ _ _ _ fine kind)

  -- deeds that store no changes
  deeds_settled : (deeds : List Deed) (user : ℕ) → All NoStore deeds → AreSettledSo t now deeds → KnownSettled t now deeds
      → IsSettled (stamp (deeds_done t deeds) now) user
  deeds_settled _ user none (by_none deeds lower) known =
      lower_settled t now user deeds none before (step_sound t now deeds before later known)
      (altered_owners t now (allowed.Deeds deeds report.Plain) before later known) (settled user) (lower user)
  deeds_settled _ user none (by_quota row quota there differs) known = requoted_settled row quota user there differs known
  deeds_settled _ user none (by_return item there restore goes others) known = returned_settled item user there restore goes others known
  deeds_settled _ user none (by_copies transfer name copied) known = copied_settled transfer name user copied known
  deeds_settled _ user none (by_join place name of dir placed stores) known =
      absurd (All-head NoStore (deed.Store (assembled_at t now name (whole_of t.chunks of dir) place)) (deed.Abandon of dir ∷ []) none)
  deeds_settled _ user none (by_cross transfer name cross) known = crossed_settled transfer name user cross known

  -- rows by which no version is another
  turnless_settled : (changes : List Change) (blob : Option ℕ) (report : Report) (user : ℕ) → AreTurnless t changes → blob ≡ None
      → KnownChange t now changes blob → IsSettled (stamp (altered t now (allowed.Change changes blob report)) now) user
  unfolding charge_of
  turnless_settled changes blob report user none empty known =
      let act : Allowed = allowed.Change changes blob report in
      let made = stamp (altered t now act) now in
      let fine = altered_sound t now act before later known in
      let keeps = altered_owners t now act before later known in
      let trash = trash_same t made user before fine (act_kept t now act before later known tt) in
      let versions : made.versions ≡ t.versions = all_turnless t t changes none in
      settled_kept t made user before fine keeps (subst (All (Contains t.versions)) (sym versions) (All-contains_itself t.versions)) (settled user)
      (omega (
        arith,
        rows_fewer t now user changes blob report before known empty (turnless_of t changes none),
        charge_beside t user,
        charge_beside made user,
        trash,
      ))
      (elim (cases_Bool (user == t.meta.next_user)) [
        | inl new ↦
            (let none : user_row t.users user ≡ None = finds_none (λ (row : UserRow). row.id == user) t.users (λ k d within.
            let given = before.users_given k d within in
            ne_eqb (get_or t.users k d).id user (λ same. omega (arith, given, same, eqb-true user t.meta.next_user new))) in
            omega (arith, ap (λ (o : Option UserRow). option_map_or (λ (row : UserRow). row.quota) o 0) none))
        | inr old ↦
            omega (
              arith,
              ap (λ (o : Option UserRow). option_map_or (λ (row : UserRow). row.quota) o 0)
                  (users_turnless t t user changes (λ same. both_ways (user == t.meta.next_user) old (eq-eqb user t.meta.next_user same)) none),
            )
      ])

  -- another content of a file
  refills_settled : (node : ℕ) (row : NodeRow) (back : Option ℕ) (content : List Piece) (blob : Option ℕ) (report : Report) (user : ℕ)
      → node_row t.nodes node ≡ Some row → KnownChange t now (refills t now back content row) blob
      → IsSettled (stamp (altered t now (allowed.Change (refills t now back content row) blob report)) now) user
  refills_settled node row back content blob report user there known =
      let changes = refills t now back content row in
      let act : Allowed = allowed.Change changes blob report in
      let made = stamp (altered t now act) now in
      let to = charged t row.owner (content_size row.content) (content_size content) in
      let gone = gone_after t now back row to.quota to.charge in
      let v = put_all t (if is_same now content row then [] else Put (rows.Node (filled content now row)) ∷ []) in
      let same : v.versions ≡ t.versions = cond_both (is_same now content row) [] (Put (rows.Node (filled content now row)) ∷ [])
      (λ changes. (put_all t changes).versions ≡ t.versions) (λ is. refl) (λ not. refl) in
      let rising = before.others.versions_rise in
      let last_is : made.versions ≡ (last t v same rising back row gone).versions = ap (λ (u : Tables). u.versions)
      (puts_append t (if is_same now content row then [] else Put (rows.Node (filled content now row)) ∷ []) (turned_over t back row gone)
      ∙ in_turn t v same rising back row gone) in
      let fine = altered_sound t now act before later known in
      let keeps = altered_owners t now act before later known in
      let trash = λ (user : ℕ). trash_same t made user before fine (act_kept t now act before later known tt) in
      let is = refills_made t now back content row in
      let comes = refills_comes t now node (content_size content) content row made.nodes before there refl (ap (λ (u : Tables). u.nodes) is) in
      let quota = λ (user : ℕ). ap (λ (u : Tables). quota_of u user) is in
      let given = row_is t node row before there in
      let in_last = λ (version : VersionRow) (its : Contains made.versions version). subst (λ (rows : List VersionRow). Contains rows version) last_is its in
      let own_of = λ (version : VersionRow) (its : Contains made.versions version) (it : version.node ≡ row.id).
      file_owner made row fine keeps version its it (ap (node_row t.nodes) given.0 ∙ there) in
      elim (cases_Bool (row.owner == user)) [
        | inl own ↦
            subst (IsSettled made) (eqb-true row.owner user own)
            (settled_bounded made fine row.owner to.quota to.charge (seen t v same rising now back row to.quota to.charge)
            (omega (
              arith,
              charge_beside t row.owner,
              charge_beside made row.owner,
              trash row.owner,
              comes row.owner,
              ap (λ (b : Bool). if b then content_size content else 0) (eq-eqb row.owner row.owner refl),
              ap (λ (b : Bool). if b then weight row else 0) (eq-eqb row.owner row.owner refl),
            ))
            (quota row.owner) (λ version own_is its.
            let among = in_last version own_is in
            let owner : owner_of t.nodes version.node ≡ row.owner =
            elim (All-contains (IsFrom t v same rising back row gone) (last t v same rising back row gone).versions version
            (last_from t v same rising back row gone) among) [
              | inl was ↦ owner_was t made version before fine keeps was own_is ∙ its
              | inr it ↦
                  ap (λ (o : Option NodeRow). option_map_or (λ (row : NodeRow). row.owner) o 0)
                  (ap (node_row t.nodes) (ap (λ (version : VersionRow). version.node) it.0 ∙ given.0) ∙ there)
            ] in (
              in_seen t v same rising now back row to.quota to.charge version among owner,
              none_beyond t v same rising now back row to.quota to.charge version among,
            )))
        | inr not ↦
            settled_fewer made fine user t (settled user)
            (omega (
              arith,
              charge_beside t user,
              charge_beside made user,
              trash user,
              comes user,
              ap (λ (b : Bool). if b then content_size content else 0) not,
              ap (λ (b : Bool). if b then weight row else 0) not,
            ))
            (omega (arith, quota user)) (λ version own_is its.
            elim (All-contains (IsFrom t v same rising back row gone) (last t v same rising back row gone).versions version
            (last_from t v same rising back row gone) (in_last version own_is)) [
              | inl was ↦ (was, owner_was t made version before fine keeps was own_is ∙ its)
              | inr it ↦
                  absurd (both_ways (row.owner == user) not (eq-eqb row.owner user
                  (sym (own_of version own_is (ap (λ (version : VersionRow). version.node) it.0)) ∙ its)))
            ])
      ]
    where
      -- the owner of a file that was there
      file_owner : (made : Tables) (row : NodeRow) → AreSound made → KeepsOwners t made → (version : VersionRow) → Contains made.versions version
          → version.node ≡ row.id → node_row t.nodes row.id ≡ Some row → owner_of made.nodes version.node ≡ row.owner
      file_owner made row fine keeps version its it there =
          let file = file_row made.nodes version.node (All-contains (IsVersionSound made) made.versions version fine.others.versions its).file in
          let given = row_is t row.id row before there in
          let was = keeps version.node file.0 (omega (arith, it, given.1.given)) file.1 in
          let old : was.0 ≡ row = same_Some was.0 row (sym was.1 ∙ ap (node_row t.nodes) it ∙ there) in
          ap (λ (o : Option NodeRow). option_map_or (λ (row : NodeRow). row.owner) o 0) file.1 ∙ was.2 ∙ ap (λ (row : NodeRow). row.owner) old

  -- a version that is its file's content again
  back_settled : (changes : List Change) (blob : Option ℕ) (report : Report) (user : ℕ) → IsBroughtBack t now changes
      → KnownChange t now changes blob → IsSettled (stamp (altered t now (allowed.Change changes blob report)) now) user
  back_settled changes blob report user is known =
      subst (λ (changes : List Change). IsSettled (stamp (altered t now (allowed.Change changes blob report)) now) user) (sym is.are)
      (refills_settled is.node is.row (Some is.version.at) is.version.content blob report user is.there
      (subst (λ (changes : List Change). KnownChange t now changes blob) is.are known))

  -- a content that is stored over a file
  over_settled : (node : ℕ) (content : List Piece) (blob : Option ℕ) (user : ℕ)
      → KnownChange t now (option_map_or (refilled t now content) (node_row t.nodes node) []) blob
      → IsSettled (stamp (altered t now (allowed.Change (option_map_or (refilled t now content) (node_row t.nodes node) []) blob report.Done)) now) user
  over_settled node content blob user known = here (node_row t.nodes node) refl known
    where
      one : (row : NodeRow) → node_row t.nodes node ≡ Some row → (b : Bool) → is_same now content row ≡ b
          → KnownChange t now (if b then [] else refills t now None content row) blob
          → IsSettled (stamp (altered t now (allowed.Change (if b then [] else refills t now None content row) blob report.Done)) now) user
      one row there true is known = turnless_settled [] blob report.Done user tt (known.stored refl) known
      one row there false is known = refills_settled node row None content blob report.Done user there known

      here : (o : Option NodeRow) → node_row t.nodes node ≡ o → KnownChange t now (option_map_or (refilled t now content) o []) blob
          → IsSettled (stamp (altered t now (allowed.Change (option_map_or (refilled t now content) o []) blob report.Done)) now) user
      here None there known = turnless_settled [] blob report.Done user tt (known.stored refl) known
      here (Some row) there known = one row there (is_same now content row) refl known

  -- and in a new file
  file_settled : (folder : ℕ) (name : List ℕ) (content : List Piece) (blob : Option ℕ) (user : ℕ)
      → KnownChange t now (new_file t (new_node t now folder name File content)) blob
      → IsSettled (stamp (altered t now (allowed.Change (new_file t (new_node t now folder name File content)) blob report.Made)) now) user
  file_settled folder name content blob user known =
      let row = new_node t now folder name File content in
      let act : Allowed = allowed.Change (new_file t row) blob report.Made in
      let made = stamp (altered t now act) now in
      let size = content_size content in
      let to = charged t row.owner 0 size in
      let gone = unsettled t to [] in
      let fine = altered_sound t now act before later known in
      let keeps = altered_owners t now act before later known in
      let trash = λ (user : ℕ). trash_same t made user before fine (act_kept t now act before later known tt) in
      let comes = born_comes t now folder size name content blob gone before refl in
      let quota = λ (user : ℕ). ap (λ (u : Tables). quota_of u user) (added_made t row gone) in
      let fewer = added_fewer t row gone in
      elim (cases_Bool (row.owner == user)) [
        | inl is ↦
            subst (IsSettled made) (eqb-true row.owner user is)
            (settled_bounded made fine row.owner to.quota to.charge (held_without t row.owner [])
            (omega (
              arith,
              charge_beside t row.owner,
              charge_beside made row.owner,
              trash row.owner,
              comes row.owner,
              ap (λ (b : Bool). if b then size else 0) (eq-eqb row.owner row.owner refl),
            ))
            (quota row.owner) (λ version own_is.
            let was = All-contains (Contains t.versions) made.versions version fewer own_is in
            λ its.
            let owner = owner_was t made version before fine keeps was own_is ∙ its in (
              Contains-map held _ version
                  (Contains-filter (λ (row : VersionRow). not (is_under_any t.nodes [] row.node)) (filter (is_held_by t.nodes row.owner) t.versions) version
                  (Contains-filter (is_held_by t.nodes row.owner) t.versions version was (eq-eqb (owner_of t.nodes version.node) row.owner owner)) refl),
              All-contains (λ (version : VersionRow). list_any (is_version version.node version.at) gone ≡ false) made.versions version
                  (drops_left (put_all t (Put (rows.Node row) ∷ [])) gone) own_is,
            )))
        | inr not ↦
            settled_kept t made user before fine keeps fewer (settled user)
            (omega (
              arith,
              charge_beside t user,
              charge_beside made user,
              trash user,
              comes user,
              ap (λ (b : Bool). if b then size else 0) not,
            ))
            (omega (arith, quota user))
      ]

  -- a body that is stored
  stored_settled : (key : LockKey) (digest : List ℕ) (size user : ℕ) → Known t now (stored_at t now key digest size)
      → IsSettled (stamp (altered t now (stored_at t now key digest size)) now) user
  stored_settled (Node node) digest size user known =
      over_settled node (content_in (blob_for t.meta.next_blob size) digest size) (blob_for t.meta.next_blob size) user known
  stored_settled (Slot folder name) digest size user known =
      file_settled folder name (content_in (blob_for t.meta.next_blob size) digest size) (blob_for t.meta.next_blob size) user known

  -- what the chunks of an upload have together
  assembled_settled : (place : Found) (name : List ℕ) (of : ℕ) (dir : List ℕ) (user : ℕ) → IsPlaced t place
      → (let deeds = deed.Store (assembled_at t now name (whole_of t.chunks of dir) place) ∷ deed.Abandon of dir ∷ [] in
      KnownSettled t now deeds → IsSettled (stamp (deeds_done t deeds) now) user)
  unfolding charge_of
  assembled_settled place name of dir user placed known =
      let changes = assembled_at t now name (whole_of t.chunks of dir) place in
      elim (settled_stores t now (deed.Store changes ∷ deed.Abandon of dir ∷ []) known) [
        | inl none ↦ absurd (All-head NoStore (deed.Store changes) (deed.Abandon of dir ∷ []) none)
        | inr first ↦
            (let same : first.changes ≡ changes = let are = first.are in cc in
            at place placed (subst (λ (changes : List Change). KnownChange t now changes None) same first.known))
      ]
    where
      content : List Piece
      content = whole_of t.chunks of dir

      at : (place : Found) → IsPlaced t place → KnownChange t now (assembled_at t now name content place) None
          → IsSettled (stamp (replaced t (assembled_at t now name content place)) now) user
      at (At node) placed known = over_settled node content None user known
      at (Free folder) placed known = file_settled folder name content None user known
      at (Missing depth) placed known = absurd placed

  -- a chunk makes no version, no node and no user another
  chunk_settled : (row : ChunkRow) (blob : Option ℕ) (user : ℕ)
      → (let changes = chunk_put t row ++ option_map_or (upload_touched now) (upload_row t.uploads row.user row.dir) [] in
      IsSettled (stamp (altered t now (allowed.Change changes blob report.Made)) now) user)
  unfolding charge_of
  chunk_settled row blob user =
      let changes = chunk_put t row ++ option_map_or (upload_touched now) (upload_row t.uploads row.user row.dir) [] in
      subst (λ (u : Tables). IsSettled u user) (sym (chunk_leaves t row now).rest) (settled user)

  closed_settled : (user : ℕ) (act : Allowed) → ◌≡◌ {A = Result Allowed Denial} (Ok allowed.Close) (Ok act)
      → IsSettled (stamp (altered t now act) now) user
  unfolding charge_of
  closed_settled user act is =
      let same : allowed.Close ≡ act = cc in
      subst (λ (a : Allowed). IsSettled (stamp (altered t now a) now) user) same (settled user)

  goal_settled : (access : Access) (user : ℕ) (outcome : Outcome) (goal : Goal) (act : Allowed) → IsStorable t goal
      → ends_goal access t now outcome goal ≡ Ok act → Known t now act → IsSettled (stamp (altered t now act) now) user
  goal_settled access user (Body digest size) (Serve content) act held is known = closed_settled user act is
  goal_settled access user (Body digest size) (Store by key wanted) act held is known =
      let h = not_refused (end_refusal access t now by key size) (stored_at t now key digest size) act is in
      subst (λ (a : Allowed). IsSettled (stamp (altered t now a) now) user) h.1
      (stored_settled key digest size user (subst (Known t now) (sym h.1) known))
  goal_settled access user (Body digest size) (Chunk of dir number wanted) act held is known =
      let h = not_refused (chunk_refusal t of dir number size) (chunk_stored t now of dir number digest size) act is in
      let blob = blob_for t.meta.next_blob size in
      subst (λ (a : Allowed). IsSettled (stamp (altered t now a) now) user) h.1
      (chunk_settled (record { user = of; dir = dir; number = number; content = content_in blob digest size }) blob user)
  goal_settled access user outcome goal act held is known = closed_settled user act is

  -- an End
  end_settled : (access : Access) (user : ℕ) (outcome : Outcome) (goal : Option Goal) (act : Allowed) → IfSome goal (IsStorable t)
      → ends_at access t now outcome goal ≡ Ok act → Known t now act → IsSettled (stamp (altered t now act) now) user
  end_settled access user outcome None act held is known = closed_settled user act is
  end_settled access user outcome (Some goal) act held is known = goal_settled access user outcome goal act held is known

  -- all that a Begin asks for
  begun_settled : (act : Allowed) (user : ℕ) → Known t now act → SettlesSo t now act → StoresSo t now act → IsSettled (stamp (altered t now act) now) user
  unfolding charge_of
  begun_settled (allowed.Change changes blob report) user known (inl turnless) stores =
      turnless_settled changes blob report user turnless.0 turnless.1 known
  begun_settled (allowed.Change changes blob report) user known (inr back) stores = back_settled changes blob report user back known
  begun_settled (allowed.Deeds deeds report) user known so (inl none) = deeds_settled deeds user none so known
  begun_settled (allowed.Deeds deeds report) user known so (inr joined) =
      subst (λ (deeds : List Deed). IsSettled (stamp (deeds_done t deeds) now) user) (sym joined.are)
      (assembled_settled joined.place joined.name joined.user joined.dir user joined.placed (subst (KnownSettled t now) joined.are known))
  begun_settled act user known so stores = settled user

-- an act that may come leaves each user's versions within their bound
act_settled : (s : State) (e : Entry) (event : Event) (user : ℕ) (act : Allowed) → AreSettled s.tables → IsSound s → s.tables.meta.last ≤ e.moment
    → MayAsk s e.seat event → decision_of s e.seat e.moment event ≡ Ok act → IsSettled (stamp (altered s.tables e.moment act) e.moment) user
act_settled s e (Begin words request) user act settled sound later may is =
    begun_settled s.tables e.moment sound.rows later settled act user (known_change s e.seat e.moment (Begin words request) act sound may is)
    (call_settles (call_of s e.seat e.moment words request) act sound later may.1 is)
    (call_stores (call_of s e.seat e.moment words request) act sound may.1 is)
act_settled s e (End outcome) user act settled sound later may is =
    end_settled s.tables e.moment sound.rows later settled (access_of s) user outcome (goal_at s e.seat) act (goal_held s e.seat sound) is
    (known_change s e.seat e.moment (End outcome) act sound may is)
act_settled s e Sweep user act settled sound later may is =
    let t = s.tables in
    let gone = flat_map (gone_from t e.moment) (owners_of t.items) in
    let idle = filter (is_idle e.moment) t.uploads in
    let deeds = purges gone ++ abandons idle in
    let none : All NoStore deeds =
    All-append NoStore (purges gone) (abandons idle) (purges_none gone) (abandons_each NoStore (λ user dir. tt) idle) in
    let same : swept t e.moment ≡ act = cc in
    let known = known_change s e.seat e.moment Sweep act sound may is in
    subst (λ (a : Allowed). IsSettled (stamp (altered t e.moment a) e.moment) user) same
    (deeds_settled t e.moment sound.rows later settled deeds user none
    (by_none deeds (lower_append (purges gone) (abandons idle) (purges_lower gone) (abandons_lower idle) t))
    (subst (Known t e.moment) (sym same) known))

pub settled_after : (n : ℕ) (s : State) (e : Entry) → AreSettled s.tables → IsSound s → MayCome n s e → AreSettled (after s e).tables
settled_after n s e settled sound may user =
    entry_has (λ t tickets blob. IsSettled t user) s e e.mark (settled user)
    (λ act is.
    stamped_has (λ (u : Tables). IsSettled u user) s.tables (altered s.tables e.moment act) e.moment (told s.tables act) (settled user)
    (act_settled s e e.event user act settled sound (omega (arith, sound.seen, may.not_before)) may.asked is))
