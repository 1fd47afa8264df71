-- Each user's trash stays within its bound by every step.
use Rattle.std.proofs.Common.{◌≡◌, ◌≤◌, ◌==◌, ℕ, inl, inr, not, Bool, true, false, List, [], ◌∷◌, ◌++◌, ◌∙◌, filter, flat_map, get_or, Option, None, Some, Ok, Result, refl, sym, ap, subst, arith, bytes_eq, if◌then◌else◌}
use Rattle.std.specs.Prelude.{is_some}
use Rattle.std.specs.List.{Contains}
use Rattle.std.specs.Option.{option_map_or}
use Rattle.std.proofs.lemmas.Bool.{both_ways, cases_Bool, eq-eqb, eqb-true, ne_eqb}
use Rattle.std.proofs.lemmas.List.Elements.{All-contains, All-contains_itself, All-filter, All-head}
use Rattle.std.proofs.lemmas.Option.{none-some}
use Rattle.nf_base.specs.declared.changes.Change.{Change}
use Rattle.nf_base.specs.declared.changes.Change.TheVariants.{Put}
use Rattle.nf_base.specs.declared.content.Piece.{Piece}
use Rattle.nf_base.specs.declared.rows.ChunkRow.{ChunkRow}
use Rattle.nf_base.specs.declared.rows.ItemRow.{ItemRow}
use Rattle.nf_base.specs.declared.rows.MetaRow.{MetaRow}
use Rattle.nf_base.specs.declared.rows.NodeKind.TheVariants.{File}
use Rattle.nf_base.specs.declared.rows.NodeRow.{NodeRow}
use Rattle.nf_base.specs.declared.rows.Row.TheVariants as rows
use Rattle.nf_base.specs.declared.rows.UploadRow.{UploadRow}
use Rattle.nf_base.specs.declared.rows.UserRow.{UserRow}
use Rattle.nf_defs.proofs.ByName.{Contains-filter}
use Rattle.nf_defs.proofs.Climbs.{climb_under}
use Rattle.nf_defs.specs.Prelude.{Access, item_key, item_row, node_row, relinked, Tables, user_row}
use Rattle.nf_defs.specs.declared.Found.{Found}
use Rattle.nf_defs.specs.declared.Found.TheVariants.{At, Free, Missing}
use Rattle.nf_laws.proofs.Behaving.{AreSettledSo, AreTurnless, by_copies, by_cross, by_join, by_none, by_quota, by_return, call_settles, SettlesSo, users_turnless}
use Rattle.nf_laws.proofs.Behind.{behind_only}
use Rattle.nf_laws.proofs.Chunking.{chunk_leaves}
use Rattle.nf_laws.proofs.Climbs.{row_of_those}
use Rattle.nf_laws.proofs.Each.{NoStore, settled_stores}
use Rattle.nf_laws.proofs.Entries.{entry_has}
use Rattle.nf_laws.proofs.Going.{items_purged, present_off}
use Rattle.nf_laws.proofs.InTurn.{deeds_append}
use Rattle.nf_laws.proofs.Joining.{abandons_lower, IsPlaced}
use Rattle.nf_laws.proofs.Lists.{aside_only, changes_have}
use Rattle.nf_laws.proofs.OneRow.{row_other}
use Rattle.nf_laws.proofs.Others.{stamp_sound}
use Rattle.nf_laws.proofs.Parts.{copies_stamped, deeds_stamped, known_stamped, step_sound}
use Rattle.nf_laws.proofs.Peopled.{people_alone, people_sound}
use Rattle.nf_laws.proofs.Puts.{number_found, other_number}
use Rattle.nf_laws.proofs.Recharged.{IsLower, lower_append, purges_lower}
use Rattle.nf_laws.proofs.Refilled.{added_made, refills_made}
use Rattle.nf_laws.proofs.Rows.{finds_none, found_is, stamp, stamped_has}
use Rattle.nf_laws.proofs.Stays.{altered_sound}
use Rattle.nf_laws.proofs.Trashed.{restored_below, restored_sound}
use Rattle.nf_laws.proofs.Trashing.{act_kept, is_gone, KeepsTrash}
use Rattle.nf_laws.specs.Tree.{Under}
use Rattle.nf_words.proofs.Ends.{known_change}
use Rattle.nf_words.proofs.Fits.{KnownChange}
use Rattle.nf_words.proofs.Known.{alone, IsItem, Known, KnownDeeds, KnownRestore, KnownSettled}
use Rattle.nf_words.proofs.Known.KnownDeeds.{by_abandoning, by_copying, by_crossing, by_going, by_joining, by_leaving, by_moving, by_requoting, by_restoring, by_sweeping}
use Rattle.nf_words.proofs.Passing.{not_refused}
use Rattle.nf_words.proofs.Trashing.{quota_goes}
use Rattle.nf_words.specs.Prelude.{abandoned, abandons, access_of, after, altered, AreSound, charged, charged_for, charged_to, copies, crossing, deed_done, deeds_done, forgets, gone_beside, gone_of, home_of, IsRequoted, IsSound, item_size, items_of, LeadsToRoot, MayAsk, MayCome, name_back, purged, purged_by, purges, quota_of, requoting, restored, restoring, State, told, assembled_at, blob_for, call_of, chunk_put, chunk_refusal, chunk_stored, content_in, content_size, decision_of, end_refusal, ends_at, ends_goal, goal_at, gone_from, is_idle, is_same, new_file, new_node, owners_of, refilled, refills, replaced, stored_at, swept, unsettled, upload_row, upload_touched, whole_of}
use Rattle.nf_words.specs.declared.answer.Allowed.{Allowed}
use Rattle.nf_words.specs.declared.answer.Allowed.TheVariants as allowed
use Rattle.nf_words.specs.declared.answer.Deed.{Deed}
use Rattle.nf_words.specs.declared.answer.Deed.TheVariants as deed
use Rattle.nf_words.specs.declared.answer.Denial.{Denial}
use Rattle.nf_words.specs.declared.answer.Goal.{Goal}
use Rattle.nf_words.specs.declared.answer.Goal.TheVariants.{Chunk, Serve, Store}
use Rattle.nf_words.specs.declared.answer.LockKey.{LockKey}
use Rattle.nf_words.specs.declared.answer.LockKey.TheVariants.{Node, Slot}
use Rattle.nf_words.specs.declared.answer.Report.{Report}
use Rattle.nf_words.specs.declared.answer.Report.TheVariants as report
use Rattle.nf_words.specs.declared.history.Entry.{Entry}
use Rattle.nf_words.specs.declared.history.Event.{Event}
use Rattle.nf_words.specs.declared.history.Event.TheVariants.{Begin, End, Sweep}
use Rattle.nf_words.specs.declared.history.Outcome.{Outcome}
use Rattle.nf_words.specs.declared.history.Outcome.TheVariants.{Body}
use Rattle.nf_retention.specs.declared.versions.Version.{Version}
use Rattle.nf_rules.specs.Ruled.{AreTrashesBounded}
use Rattle.nf_rules.proofs.Heaped.{bounded_fewer, bounded_reckoned, gone_alike, IsAlike, IsBounded, item_found, purged_alike, purged_fewer, purges_bounded, size_fewer}
use Rattle.nf_rules.proofs.Leavings.{copies_bounded, crossing_bounded, leaving_bounded, moves_bounded}

-- ---- changes

-- changes leave the items as they were
pub changed_items : (t : Tables) (now : ℕ) (changes : List Change) (blob : Option ℕ) (report : Report) → AreSound t → KnownChange t now changes blob
    → (altered t now (allowed.Change changes blob report)).items ≡ t.items
changed_items t now changes blob report sound known =
    changes_have (λ (u : Tables). u.items ≡ t.items) t now changes blob report sound.rising known (λ u row same it. same) (λ u row same it. same)
    (λ u row same it. same) (λ u row same it. same) (λ u change same it. ap (λ (v : Tables). v.items) (people_alone u change it) ∙ same)
    (λ u change same it. ap (λ (v : Tables). v.items) (aside_only t blob u change it) ∙ same) (λ u row root same it. same) refl

-- where what is in the trash is as it was, and the items are, and no quota is less, each user's are within the bound as before
trash_bounded : (t u : Tables) (user : ℕ) → AreSound t → AreSound u → KeepsTrash t u.nodes → u.items ≡ t.items → quota_of t user ≤ quota_of u user
    → IsBounded t user → IsBounded u user
trash_bounded t u user before sound kept items quota bounded =
    bounded_fewer t u sound user bounded quota (λ item is own.
    let found = item_found u item sound is in (
      subst (λ (all : List ItemRow). Contains all item) items is,
      size_fewer t u item.node (alike item.node (ap is_some found)) before sound,
    ))
  where
    -- what is under an item was gone before
    alike : (top : ℕ) → IsItem u top → (node : ℕ) → Under u.nodes top node → IsAlike t u node
    alike top is node under = here (is_gone t node) refl
      where
        here : (b : Bool) → is_gone t node ≡ b → IsAlike t u node
        here true gone =
            inl (sym (row_of_those (is_gone t) u.nodes node gone) ∙ ap (λ (left : List NodeRow). node_row left node) kept.same
            ∙ row_of_those (is_gone t) t.nodes node gone)
        here false stays = there (node_row u.nodes node) refl
          where
            there : (o : Option NodeRow) → node_row u.nodes node ≡ o → IsAlike t u node
            there None e = gone_alike t u node e
            there (Some row) e =
                let among = found_is (Contains u.nodes) (λ (row : NodeRow). row.id == node) u.nodes row (All-contains_itself u.nodes) e in
                let id = eqb-true row.id node among.0 in
                let present = All-contains (λ (row : NodeRow). is_gone t row.id ≡ false → LeadsToRoot u.nodes row.id) u.nodes row kept.present among.1 in
                absurd (present_off u top node sound is (subst (LeadsToRoot u.nodes) id (present (ap (is_gone t) id ∙ stays))) under)

module _ (t : Tables) (now : ℕ) (before : AreSound t) (later : t.meta.last ≤ now) (bounded : AreTrashesBounded t) where
  -- changes by which no quota is less
  changes_bounded : (changes : List Change) (blob : Option ℕ) (report : Report) → KnownChange t now changes blob
      → ((user : ℕ) → quota_of t user ≤ quota_of (altered t now (allowed.Change changes blob report)) user)
      → AreTrashesBounded (stamp (altered t now (allowed.Change changes blob report)) now)
  changes_bounded changes blob report known quota user =
      let act : Allowed = allowed.Change changes blob report in
      let made = stamp (altered t now act) now in
      trash_bounded t made user before (altered_sound t now act before later known) (act_kept t now act before later known tt)
      (changed_items t now changes blob report before known) (quota user) (bounded user)

-- ---- uploads

purges_moment : (t : Tables) (gone : List ℕ) → (deeds_done t (purges gone)).meta ≡ t.meta
purges_moment t [] = refl
purges_moment t (node ∷ gone) = purges_moment (purged t node) gone

abandons_leave : (u : Tables) (rows : List UploadRow)
    → deeds_done u (abandons rows) ≡ record u { uploads = (deeds_done u (abandons rows)).uploads; chunks = (deeds_done u (abandons rows)).chunks }
abandons_leave u [] = refl
abandons_leave u (row ∷ rows) = abandons_leave (abandoned u row.user row.dir) rows

-- ---- deeds

module _ (t : Tables) (now : ℕ) (sound : AreSound t) (at : t.meta.last ≡ now) (bounded : AreTrashesBounded t) where
  going_bounded : (gone : List ℕ) → AreSound (deeds_done t (purges gone)) → AreTrashesBounded (deeds_done t (purges gone))
  going_bounded gone fine user =
      purges_bounded t t gone user sound fine (bounded user) (omega (arith, (purges_lower gone t user).1)) (λ item is. (is, omega arith))

  restoring_bounded : (node folder : ℕ) (name : List ℕ) (gone : List ℕ) → KnownRestore t node folder name
      → AreSound (deeds_done t (deed.Restore node folder name ∷ purges gone)) → AreTrashesBounded (deeds_done t (deed.Restore node folder name ∷ purges gone))
  restoring_bounded node folder name gone known fine user =
      let u = restored t node folder name in
      let between = restored_sound t node folder name sound known in
      let present = restored_below t node folder name node sound known (climb_under 0 t.nodes node node (omega arith) refl) in
      purges_bounded t u gone user between fine (bounded user) (omega (arith, (purges_lower gone u user).1)) (λ item is.
      let found = item_found u item between is in (
        All-contains (Contains t.items) u.items item
            (All-filter (λ (item : ItemRow). not (bytes_eq (node ∷ []) (item_key item))) (Contains t.items) t.items (All-contains_itself t.items)) is,
        size_fewer t u item.node (λ other under.
            elim (cases_Bool (other == node)) [
              | inl same ↦
                  absurd (present_off u item.node other between (ap is_some found)
                  (subst (LeadsToRoot u.nodes) (sym (eqb-true other node same)) present) under)
              | inr differs ↦ inl (row_other t.nodes node (relinked folder name) (λ row. refl) other differs)
            ]) sound between,
      ))

  -- another quota, where no user's is less
  quoting_bounded : (row : UserRow) (gone : List ℕ) → AreSound (deed_done t (deed.Requote row))
      → AreSound (deeds_done t (deed.Requote row ∷ purges gone))
      → ((user : ℕ) → quota_of t user ≤ quota_of (deeds_done t (deed.Requote row ∷ purges gone)) user)
      → AreTrashesBounded (deeds_done t (deed.Requote row ∷ purges gone))
  quoting_bounded row gone between fine quota user =
      purges_bounded t (deed_done t (deed.Requote row)) gone user between fine (bounded user) (quota user) (λ item is. (is, omega arith))

  quota_put : (row : UserRow) → quota_of (deed_done t (deed.Requote row)) row.id ≡ row.quota
  quota_put row = ap (λ (o : Option UserRow). option_map_or (λ (row : UserRow). row.quota) o 0) (number_found (λ (r : UserRow). r.id) row t.users)

  -- another quota, and what is beyond it goes
  requoted_bounded : (row : UserRow) (quota : ℕ) → user_row t.users row.id ≡ Some row → (row.quota == quota) ≡ false
      → AreSound (deeds_done t (requoting t now quota row)) → AreTrashesBounded (deeds_done t (requoting t now quota row))
  requoted_bounded row quota there differs fine user =
      let gone = gone_of t now quota (items_of t row.id) in
      let new : UserRow = record row { quota = quota } in
      let made = deed_done t (deed.Requote new) in
      let v = deeds_done made (purges gone) in
      let is : IsRequoted t new = record {
        old = row;
        there = there;
        same = refl;
        other = λ same. both_ways (row.quota == quota) differs (eq-eqb row.quota quota (sym (ap (λ (r : UserRow). r.quota) same)));
      } in
      let between = people_sound t (Put (rows.User new)) sound is in
      let goes = quota_goes t sound now quota row.id in
      let purge = items_purged made gone between goes.items goes.once in
      elim (cases_Bool (user == row.id)) [
        | inl same ↦
            subst (IsBounded v) (sym (eqb-true user row.id same))
            (bounded_reckoned t v fine row.id now quota (items_of t row.id) ((purges_lower gone made row.id).1 ∙ quota_put new) (λ item is own.
            let was = All-contains (Contains t.items) v.items item (purged_fewer made gone) is in
            let found = item_found v item fine is in (
              Contains-filter (λ (item : ItemRow). item.owner == row.id) t.items item was (eq-eqb item.owner row.id own),
              (
                λ goes_so. none-some item
                    (sym (All-contains (λ (top : ℕ). item_row v.items top ≡ None) gone item.node purge.none goes_so) ∙ found),
                size_fewer t v item.node (λ node under. purged_alike made gone node) sound fine,
              ),
            )))
        | inr other ↦
            purges_bounded t made gone user between fine (bounded user)
            (omega (
              arith,
              (purges_lower gone made user).1,
              ap (λ (o : Option UserRow). option_map_or (λ (row : UserRow). row.quota) o 0)
                  (other_number (λ (r : UserRow). r.id) new t.users user (λ same. both_ways (user == row.id) other (eq-eqb user row.id same))),
            ))
            (λ item is. (is, omega arith))
      ]

  sweeping_bounded : (gone : List ℕ) (idle : List UploadRow) → AreSound (deeds_done t (purges gone ++ abandons idle))
      → AreSound (deeds_done t (purges gone)) → AreTrashesBounded (deeds_done t (purges gone ++ abandons idle))
  sweeping_bounded gone idle fine between =
      let same = deeds_append t (purges gone) (abandons idle) ∙ abandons_leave (deeds_done t (purges gone)) idle in
      subst AreTrashesBounded (sym same) (going_bounded gone between)

  -- ---- a step's

  moment : (nodes : List ℕ) → record (deeds_done t (purges nodes)).meta { last = now } ≡ (deeds_done t (purges nodes)).meta
  moment nodes =
      let same = purges_moment t nodes in
      ap (λ (n : ℕ). record (deeds_done t (purges nodes)).meta { last = n }) (sym (ap (λ (meta : MetaRow). meta.last) same ∙ at))

  -- where no quota is less
  known_bounded : (deeds : List Deed) → KnownDeeds t now deeds → AreSound (deeds_done t deeds)
      → ((user : ℕ) → quota_of t user ≤ quota_of (deeds_done t deeds) user) → AreTrashesBounded (deeds_done t deeds)
  known_bounded _ (by_going nodes goes) fine quota = going_bounded nodes fine
  known_bounded _ (by_leaving row known) fine quota = leaving_bounded t now sound at bounded row known fine
  known_bounded _ (by_restoring node folder name gone known goes others) fine quota = restoring_bounded node folder name gone known fine
  known_bounded _ (by_requoting row gone is goes) fine quota = quoting_bounded row gone (people_sound t (Put (rows.User row)) sound is) fine quota
  known_bounded _ (by_moving transfer name move) fine quota = moves_bounded t now sound at bounded transfer name move fine
  known_bounded _ (by_copying transfer name copied) fine quota = copies_bounded t now sound at bounded transfer name copied fine
  known_bounded _ (by_crossing transfer name cross) fine quota = crossing_bounded t now sound at bounded transfer name cross fine
  known_bounded _ (by_joining changes user dir known there) fine quota =
      changes_bounded t now sound (omega (arith, at)) bounded changes None report.Done known quota
  known_bounded _ (by_abandoning user dir there) fine quota = bounded
  known_bounded _ (by_sweeping nodes idle goes those) fine quota =
      sweeping_bounded nodes idle fine
      (subst AreSound (λ i. record (deeds_done t (purges nodes)) { meta = moment nodes i })
      (step_sound t now (purges nodes) sound (omega (arith, at)) (alone t now (purges nodes) (by_going nodes goes))))

-- ---- each act

module _ (t : Tables) (now : ℕ) (before : AreSound t) (later : t.meta.last ≤ now) (bounded : AreTrashesBounded t) where
  abbrev dated : Tables
  dated = stamp t now

  -- what the trashes are left by deeds, they are left with the versions that go behind them
  behind_bounded : (first : List Deed) (gone : List Version) → KnownDeeds t now first
      → (AreSound (deeds_done dated first) → AreTrashesBounded (deeds_done dated first))
      → AreTrashesBounded (stamp (deeds_done t (first ++ forgets gone)) now)
  behind_bounded first gone known leaves =
      let fine = subst AreSound (sym (deeds_stamped t now first)) (step_sound t now first before later (alone t now first known)) in
      subst (λ (u : Tables). AreTrashesBounded (stamp u now)) (sym (behind_only t first gone))
      (subst AreTrashesBounded (deeds_stamped t now first) (leaves fine))

  dated_sound : AreSound dated
  dated_sound = stamp_sound t now before later

  -- deeds that lower charges
  none_bounded : (deeds : List Deed) → KnownSettled t now deeds → ((user : ℕ) → IsLower deeds t user) → AreTrashesBounded (stamp (deeds_done t deeds) now)
  none_bounded deeds known lower =
      let all = known.first ++ forgets known.gone in
      subst (λ (deeds : List Deed). AreTrashesBounded (stamp (deeds_done t deeds) now)) (sym known.are)
      (behind_bounded known.first known.gone known.known (λ fine.
      known_bounded dated now dated_sound refl bounded known.first (known_stamped t now now known.first known.known) fine (λ user.
      omega (
        arith,
        ap (λ (u : Tables). quota_of u user) (deeds_stamped t now known.first),
        ap (λ (u : Tables). quota_of u user) (behind_only t known.first known.gone),
        ap (λ (deeds : List Deed). quota_of (deeds_done t deeds) user) known.are,
        (lower user).1,
      ))))

  -- ---- changes

  turnless_bounded : (changes : List Change) (blob : Option ℕ) (report : Report) → AreTurnless t changes
      → KnownChange t now changes blob → AreTrashesBounded (stamp (altered t now (allowed.Change changes blob report)) now)
  turnless_bounded changes blob report none known =
      changes_bounded t now before later bounded changes blob report known (λ user.
      elim (cases_Bool (user == t.meta.next_user)) [
        | inl new ↦
            (let none : user_row t.users user ≡ None = finds_none (λ (row : UserRow). row.id == user) t.users (λ k d within.
            let given = before.users_given k d within in
            ne_eqb (get_or t.users k d).id user (λ same. omega (arith, given, same, eqb-true user t.meta.next_user new))) in
            omega (arith, ap (λ (o : Option UserRow). option_map_or (λ (row : UserRow). row.quota) o 0) none))
        | inr old ↦
            omega (
              arith,
              ap (λ (o : Option UserRow). option_map_or (λ (row : UserRow). row.quota) o 0)
                  (users_turnless t t user changes (λ same. both_ways (user == t.meta.next_user) old (eq-eqb user t.meta.next_user same)) none),
            )
      ])

  refills_bounded : (row : NodeRow) (back : Option ℕ) (content : List Piece) (blob : Option ℕ) (report : Report)
      → KnownChange t now (refills t now back content row) blob
      → AreTrashesBounded (stamp (altered t now (allowed.Change (refills t now back content row) blob report)) now)
  refills_bounded row back content blob report known =
      changes_bounded t now before later bounded (refills t now back content row) blob report known (λ user.
      omega (arith, ap (λ (u : Tables). quota_of u user) (refills_made t now back content row)))

  over_bounded : (node : ℕ) (content : List Piece) (blob : Option ℕ)
      → KnownChange t now (option_map_or (refilled t now content) (node_row t.nodes node) []) blob
      → AreTrashesBounded (stamp (altered t now (allowed.Change (option_map_or (refilled t now content) (node_row t.nodes node) []) blob report.Done)) now)
  over_bounded node content blob known = here (node_row t.nodes node) known
    where
      one : (row : NodeRow) (b : Bool) → KnownChange t now (if b then [] else refills t now None content row) blob
          → AreTrashesBounded (stamp (altered t now (allowed.Change (if b then [] else refills t now None content row) blob report.Done)) now)
      one row true known = turnless_bounded [] blob report.Done tt known
      one row false known = refills_bounded row None content blob report.Done known

      here : (o : Option NodeRow) → KnownChange t now (option_map_or (refilled t now content) o []) blob
          → AreTrashesBounded (stamp (altered t now (allowed.Change (option_map_or (refilled t now content) o []) blob report.Done)) now)
      here None known = turnless_bounded [] blob report.Done tt known
      here (Some row) known = one row (is_same now content row) known

  file_bounded : (folder : ℕ) (name : List ℕ) (content : List Piece) (blob : Option ℕ)
      → KnownChange t now (new_file t (new_node t now folder name File content)) blob
      → AreTrashesBounded (stamp (altered t now (allowed.Change (new_file t (new_node t now folder name File content)) blob report.Made)) now)
  file_bounded folder name content blob known =
      let row = new_node t now folder name File content in
      changes_bounded t now before later bounded (new_file t row) blob report.Made known (λ user.
      omega (arith, ap (λ (u : Tables). quota_of u user) (added_made t row (unsettled t (charged t row.owner 0 (content_size content)) []))))

  stored_bounded : (key : LockKey) (digest : List ℕ) (size : ℕ) → Known t now (stored_at t now key digest size)
      → AreTrashesBounded (stamp (altered t now (stored_at t now key digest size)) now)
  stored_bounded (Node node) digest size known =
      over_bounded node (content_in (blob_for t.meta.next_blob size) digest size) (blob_for t.meta.next_blob size) known
  stored_bounded (Slot folder name) digest size known =
      file_bounded folder name (content_in (blob_for t.meta.next_blob size) digest size) (blob_for t.meta.next_blob size) known

  assembled_bounded : (place : Found) (name : List ℕ) (of : ℕ) (dir : List ℕ) → IsPlaced t place
      → (let deeds = deed.Store (assembled_at t now name (whole_of t.chunks of dir) place) ∷ deed.Abandon of dir ∷ [] in
      KnownSettled t now deeds → AreTrashesBounded (stamp (deeds_done t deeds) now))
  assembled_bounded place name of dir placed known =
      let changes = assembled_at t now name (whole_of t.chunks of dir) place in
      elim (settled_stores t now (deed.Store changes ∷ deed.Abandon of dir ∷ []) known) [
        | inl none ↦ absurd (All-head NoStore (deed.Store changes) (deed.Abandon of dir ∷ []) none)
        | inr first ↦
            (let same : first.changes ≡ changes = let are = first.are in cc in
            store_at place placed (subst (λ (changes : List Change). KnownChange t now changes None) same first.known))
      ]
    where
      content : List Piece
      content = whole_of t.chunks of dir

      store_at : (place : Found) → IsPlaced t place → KnownChange t now (assembled_at t now name content place) None
          → AreTrashesBounded (stamp (replaced t (assembled_at t now name content place)) now)
      store_at (At node) placed known = over_bounded node content None known
      store_at (Free folder) placed known = file_bounded folder name content None known
      store_at (Missing depth) placed known = absurd placed

  chunk_bounded : (row : ChunkRow) (blob : Option ℕ)
      → (let changes = chunk_put t row ++ option_map_or (upload_touched now) (upload_row t.uploads row.user row.dir) [] in
      AreTrashesBounded (stamp (altered t now (allowed.Change changes blob report.Made)) now))
  chunk_bounded row blob = subst AreTrashesBounded (sym (chunk_leaves t row now).rest) bounded

  -- ---- deeds

  so_bounded : (deeds : List Deed) → AreSettledSo t now deeds → KnownSettled t now deeds → AreTrashesBounded (stamp (deeds_done t deeds) now)
  so_bounded _ (by_none deeds lower) known = none_bounded deeds known lower
  so_bounded _ (by_quota row quota there differs) known =
      let first = requoting t now quota row in
      let is : IsRequoted t (record row { quota = quota }) = record {
        old = row;
        there = there;
        same = refl;
        other = λ same. both_ways (row.quota == quota) differs (eq-eqb row.quota quota (sym (ap (λ (r : UserRow). r.quota) same)));
      } in
      behind_bounded first (unsettled t (charged_to t quota row) (flat_map purged_by first))
      (by_requoting (record row { quota = quota }) (gone_of t now quota (items_of t row.id)) is (quota_goes t before now quota row.id))
      (requoted_bounded dated now dated_sound refl bounded row quota there differs)
  so_bounded _ (by_return item there restore goes others) known =
      let first = restoring t now item in
      let is = by_restoring item.node (home_of t item) (name_back t item) (gone_beside t now item) restore goes others in
      behind_bounded first (unsettled t (charged t item.owner 0 (item_size t item)) (flat_map purged_by first)) is
      (restoring_bounded dated now dated_sound refl bounded item.node (home_of t item) (name_back t item) (gone_beside t now item)
      (record { item = restore.item; there = restore.there; home = restore.home; named = restore.named; deep = restore.deep }))
  so_bounded _ (by_copies transfer name copied) known =
      let first = copies t now name transfer in
      behind_bounded first (unsettled t (charged_for t transfer) (flat_map purged_by first)) (by_copying transfer name copied)
      (copies_bounded dated now dated_sound refl bounded transfer name (copies_stamped t now transfer name copied))
  so_bounded _ (by_join place name of dir placed stores) known = assembled_bounded place name of dir placed known
  so_bounded _ (by_cross transfer name cross) known =
      let first = crossing t now name transfer in
      behind_bounded first (unsettled t (charged_for t transfer) (flat_map purged_by first)) (by_crossing transfer name cross)
      (crossing_bounded dated now dated_sound refl bounded transfer name
      (record { copies = copies_stamped t now transfer name cross.copies; crosses = cross.crosses }))

  -- ---- what an End and a Begin come to

  closed_bounded : (act : Allowed) → ◌≡◌ {A = Result Allowed Denial} (Ok allowed.Close) (Ok act)
      → AreTrashesBounded (stamp (altered t now act) now)
  closed_bounded act is =
      let same : allowed.Close ≡ act = cc in subst (λ (a : Allowed). AreTrashesBounded (stamp (altered t now a) now)) same bounded

  goal_bounded : (access : Access) (outcome : Outcome) (goal : Goal) (act : Allowed)
      → ends_goal access t now outcome goal ≡ Ok act → Known t now act → AreTrashesBounded (stamp (altered t now act) now)
  goal_bounded access (Body digest size) (Serve content) act is known = closed_bounded act is
  goal_bounded access (Body digest size) (Store by key wanted) act is known =
      let h = not_refused (end_refusal access t now by key size) (stored_at t now key digest size) act is in
      subst (λ (a : Allowed). AreTrashesBounded (stamp (altered t now a) now)) h.1
      (stored_bounded key digest size (subst (Known t now) (sym h.1) known))
  goal_bounded access (Body digest size) (Chunk of dir number wanted) act is known =
      let h = not_refused (chunk_refusal t of dir number size) (chunk_stored t now of dir number digest size) act is in
      let blob = blob_for t.meta.next_blob size in
      subst (λ (a : Allowed). AreTrashesBounded (stamp (altered t now a) now)) h.1
      (chunk_bounded (record { user = of; dir = dir; number = number; content = content_in blob digest size }) blob)
  goal_bounded access outcome goal act is known = closed_bounded act is

  end_bounded : (access : Access) (outcome : Outcome) (goal : Option Goal) (act : Allowed)
      → ends_at access t now outcome goal ≡ Ok act → Known t now act → AreTrashesBounded (stamp (altered t now act) now)
  end_bounded access outcome None act is known = closed_bounded act is
  end_bounded access outcome (Some goal) act is known = goal_bounded access outcome goal act is known

  begun_bounded : (act : Allowed) → Known t now act → SettlesSo t now act → AreTrashesBounded (stamp (altered t now act) now)
  begun_bounded (allowed.Change changes blob report) known (inl turnless) = turnless_bounded changes blob report turnless.0 known
  begun_bounded (allowed.Change changes blob report) known (inr back) =
      subst (λ (changes : List Change). AreTrashesBounded (stamp (altered t now (allowed.Change changes blob report)) now)) (sym back.are)
      (refills_bounded back.row (Some back.version.at) back.version.content blob report
      (subst (λ (changes : List Change). KnownChange t now changes blob) back.are known))
  begun_bounded (allowed.Deeds deeds report) known so = so_bounded deeds so known
  begun_bounded act known so = bounded

-- an act that may come leaves each user's trash within its bound
act_bounded : (s : State) (e : Entry) (event : Event) (act : Allowed) → AreTrashesBounded s.tables → IsSound s → s.tables.meta.last ≤ e.moment
    → MayAsk s e.seat event → decision_of s e.seat e.moment event ≡ Ok act → AreTrashesBounded (stamp (altered s.tables e.moment act) e.moment)
act_bounded s e (Begin words request) act bounded sound later may is =
    begun_bounded s.tables e.moment sound.rows later bounded act (known_change s e.seat e.moment (Begin words request) act sound may is)
    (call_settles (call_of s e.seat e.moment words request) act sound later may.1 is)
act_bounded s e (End outcome) act bounded sound later may is =
    end_bounded s.tables e.moment sound.rows later bounded (access_of s) outcome (goal_at s e.seat) act is
    (known_change s e.seat e.moment (End outcome) act sound may is)
act_bounded s e Sweep act bounded sound later may is =
    let t = s.tables in
    let gone = flat_map (gone_from t e.moment) (owners_of t.items) in
    let idle = filter (is_idle e.moment) t.uploads in
    let deeds = purges gone ++ abandons idle in
    let same : swept t e.moment ≡ act = cc in
    let known = known_change s e.seat e.moment Sweep act sound may is in
    subst (λ (a : Allowed). AreTrashesBounded (stamp (altered t e.moment a) e.moment)) same
    (so_bounded t e.moment sound.rows later bounded deeds
    (by_none deeds (lower_append (purges gone) (abandons idle) (purges_lower gone) (abandons_lower idle) t))
    (subst (Known t e.moment) (sym same) known))

pub bounded_after : (n : ℕ) (s : State) (e : Entry) → AreTrashesBounded s.tables → IsSound s → MayCome n s e → AreTrashesBounded (after s e).tables
bounded_after n s e bounded sound may =
    entry_has (λ t tickets blob. AreTrashesBounded t) s e e.mark bounded
    (λ act is.
    stamped_has AreTrashesBounded s.tables (altered s.tables e.moment act) e.moment (told s.tables act) bounded
    (act_bounded s e e.event act bounded sound (omega (arith, sound.seen, may.not_before)) may.asked is))
