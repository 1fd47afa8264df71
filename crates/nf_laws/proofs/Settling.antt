-- What goes for good in a step is of trashes that are settled: what is asked about the trash, and a sweep.
use Rattle.std.proofs.Common.{ℕ, ◌==◌, ◌≡◌, ◌⊎◌, Bool, true, false, not, filter, List, [], ◌∷◌, ◌++◌, Option, None, Some, map, if◌then◌else◌, refl, sym, ap, subst, ◌∙◌, inl, inr}
use Rattle.std.specs.List.{All, flat_map}
use Rattle.std.specs.Option.{option_and_then, option_map_or}
use Rattle.std.proofs.lemmas.Bool.{eqb-true, false≢true}
use Rattle.std.proofs.lemmas.List.{map-id, append-nil}
use Rattle.std.proofs.lemmas.List.Elements.{All-cons, All-filter, All-map, All-nil, filter_passes}
use Rattle.std.proofs.lemmas.Option.{none-some}
use Rattle.nf_base.specs.declared.rows.ItemRow.{ItemRow}
use Rattle.nf_base.specs.declared.rows.MetaRow.{MetaRow}
use Rattle.nf_base.specs.declared.rows.UploadRow.{UploadRow}
use Rattle.nf_defs.specs.Prelude.{item_row, Tables}
use Rattle.nf_laws.proofs.Chunking.{abandons_leave, among_has, is_among, LeavesOthers, only_these}
use Rattle.nf_laws.proofs.Climbs.{some_there}
use Rattle.nf_laws.proofs.Going.{item_is}
use Rattle.nf_laws.proofs.Leaving.{IsBesideOne, same_items}
use Rattle.nf_laws.proofs.Parts.{deeds_stamped}
use Rattle.nf_laws.proofs.Remaining.{shares_present}
use Rattle.nf_laws.proofs.Rows.{stamp, stamped_has}
use Rattle.nf_laws.proofs.Trashed.{home_fits}
use Rattle.nf_laws.specs.Access.{by_asking, by_delete, by_sweep, ChangesAllowed, IsItemSettled, IsProviding, IsRestoring, IsSettled, is_same, is_swept, IsIdleUpload, needs_of, NodesAllowed, Settles, shares_without, UploadsFollow}
use Rattle.nf_laws.specs.Acts.{IsItemOf}
use Rattle.nf_words.proofs.Sweeping.{owned, swept_goes, swept_idle}
use Rattle.nf_words.proofs.Trashing.{gone_has, own_there}
use Rattle.nf_words.specs.Prelude.{abandons, AreSound, asker_of, Call, call_of, changed, deed_done, deeds_done, gone_beside, gone_from, gone_of, home_of, is_idle, IsSound, item_dropped, item_if_of, item_restored, items_but, items_of, name_back, Need, nothing_done, own_item, owners_of, purges, quota_of, restored, State, swept, told, trash_done, upload_row, forgets, unsettled, charged, item_size, purged_by, restoring}
use Rattle.nf_words.specs.declared.answer.Allowed.TheVariants as allowed
use Rattle.nf_words.specs.declared.answer.Deed.{Deed}
use Rattle.nf_words.specs.declared.answer.Deed.TheVariants as deed
use Rattle.nf_words.specs.declared.answer.Report.{Report}
use Rattle.nf_words.specs.declared.answer.Report.TheVariants as report
use Rattle.nf_words.specs.declared.history.Entry.{Entry}
use Rattle.nf_words.specs.declared.history.Event.TheVariants.{Begin, Sweep}
use Rattle.nf_words.specs.declared.request.Request.{Request}
use Rattle.nf_words.specs.declared.request.TrashAsk.{TrashAsk}
use Rattle.nf_words.specs.declared.request.TrashAsk.TheVariants as trash
use Rattle.nf_words.specs.declared.request.Wanted.TheVariants.{Trash}
use Rattle.nf_words.specs.declared.request.Words.{Words}
use Rattle.nf_retention.specs.declared.versions.Version.{Version}

-- ---- the items of a user

module _ (t : Tables) (sound : AreSound t) where
  -- those that go of a user's are the user's
  pub gone_of_user : (now quota user : ℕ) → All (IsItemOf t user) (gone_of t now quota (items_of t user))
  gone_of_user now quota user = gone_has (IsItemOf t user) t now quota (items_of t user) (owned t sound user)

  -- and so are those that go with one that goes or comes back
  beside_own : (now : ℕ) (item : ItemRow) → All (IsItemOf t item.owner) (gone_beside t now item)
  beside_own now item =
      gone_has (IsItemOf t item.owner) t now (quota_of t item.owner) (items_but t item.owner item.node)
      (All-filter (λ (other : ItemRow). not (other.node == item.node)) (λ (other : ItemRow). IsItemOf t item.owner other.node) (items_of t item.owner)
      (owned t sound item.owner))

  -- the item of a user, found by its node
  own_of : (user node : ℕ) (item : ItemRow) → option_and_then (item_if_of user) (item_row t.items node) ≡ Some item
      → (item_row t.items node ≡ Some item) × (item.node ≡ node) × (item.owner ≡ user)
  own_of user node item is =
      let there = own_there t sound user node item is in
      (there, (item_is t node sound item there).0, mine (item.owner == user) refl (sym (ap (option_and_then (item_if_of user)) there) ∙ is))
    where
      mine : (b : Bool) → (item.owner == user) ≡ b → (if b then Some item else None) ≡ Some item → item.owner ≡ user
      mine true e is = eqb-true item.owner user e
      mine false e is = absurd (none-some item is)

-- ---- what goes then

-- deeds behind others
done_append : (t : Tables) (xs ys : List Deed) → deeds_done t (xs ++ ys) ≡ deeds_done (deeds_done t xs) ys
done_append t [] ys = refl
done_append t (x ∷ xs) ys = done_append (deed_done t x) xs ys

-- the moment is no row of an upload
pub dated_leaves : (before : Tables) (now : ℕ) (after : Tables) (is_one : ℕ → List ℕ → Bool) → LeavesOthers before after is_one
    → LeavesOthers (stamp before now) (stamp after now) is_one
dated_leaves before now after is_one leaves = record {
  uploads = leaves.uploads;
  chunks = leaves.chunks;
  rest = ap (λ (u : Tables). stamp u now) leaves.rest;
}

-- nothing goes
pub none_settled : (s : State) (e : Entry) (made : Tables) → IsSettled s e made made
none_settled s e made = record { tops = []; items = All-nil (IsItemSettled s e); versions = []; gone = refl }

items_settled : (s : State) (e : Entry) (made : Tables) (tops : List ℕ) (versions : List Version) → All (IsItemSettled s e) tops
    → IsSettled s e (stamp made e.moment) (stamp (deeds_done made (purges tops ++ forgets versions)) e.moment)
items_settled s e made tops versions items = record {
  tops = tops;
  items = items;
  versions = versions;
  gone = sym (deeds_stamped made e.moment (purges tops ++ forgets versions));
}

-- where the trash of a user is settled, its items are
own_settled : (s : State) (e : Entry) (user : ℕ) (tops : List ℕ) → All (IsItemOf s.tables user) tops → Settles s e user → All (IsItemSettled s e) tops
own_settled s e user tops own settles k d within =
    let of = own k d within in (of.0, of.1, subst (Settles s e) (sym of.2) settles)

-- some of them go
pub some_settled : (s : State) (e : Entry) (made : Tables) (user : ℕ) (tops : List ℕ) (versions : List Version) → All (IsItemOf s.tables user) tops
    → Settles s e user
    → IsSettled s e (stamp made e.moment) (stamp (deeds_done made (purges tops ++ forgets versions)) e.moment)
some_settled s e made user tops versions own settles = items_settled s e made tops versions (own_settled s e user tops own settles)

-- the items of the owners of what is deleted are
pub beside_settled : (s : State) (e : Entry) (tops : List ℕ) → All (IsBesideOne s.tables (needs_of s e.seat e.moment e.event)) tops
    → All (IsItemSettled s e) tops
beside_settled s e tops beside k d within =
    let one = beside k d within in
    let of = one.2 in (of.0, of.1, subst (Settles s e) (sym of.2) (by_delete one.0 one.1))

-- ---- where nothing else is done

same_shares : (t : Tables) → AreSound t → t.shares ≡ shares_without t.nodes t.shares
same_shares t sound =
    sym (map-id t.shares)
    ∙ shares_present t t (λ node. false) sound sound (λ node up goes still. false≢true goes) (λ node up stays. up)

module _ (s : State) (e : Entry) (sound : IsSound s) where
  abbrev t : Tables
  t = s.tables

  abbrev now : ℕ
  now = e.moment

  abbrev IsAllowed : Tables → Type 0
  IsAllowed made = ChangesAllowed s e made

  abbrev needs : List Need
  needs = needs_of s e.seat now e.event

  pub same_nodes : NodesAllowed s e t
  same_nodes = record {
    nodes = λ node differs. absurd (differs refl);
    others = inl (record { shares = same_shares t sound.rows; mounts = refl });
    items = same_items needs now t.items;
    rest = refl;
  }

  -- whatever the meta row is
  pub meta_nodes : (meta : MetaRow) → NodesAllowed s e (record t { meta = meta })
  meta_nodes meta = record {
    nodes = λ node differs. absurd (differs refl);
    others = inl (record { shares = same_shares t sound.rows; mounts = refl });
    items = same_items needs now t.items;
    rest = refl;
  }

  -- then just uploads and chunks are others
  pub uploads_allowed : (meta : MetaRow) (made : Tables) → UploadsFollow s e (record t { meta = meta }) made → IsAllowed made
  uploads_allowed meta made uploads =
      let dated = record t { meta = meta } in
      record { between = dated; allowed = inl (meta_nodes meta); behind = dated; settled = none_settled s e dated; uploads = uploads }

  pub same_allowed : IsAllowed t
  same_allowed = uploads_allowed t.meta t (is_same refl)

  -- ---- deeds that act, and then items that go

  pub deeds_allowed : (first : List Deed) (gone : List ℕ) (versions : List Version) (report : Report)
      → NodesAllowed s e (stamp (deeds_done t first) now)
      ⊎ (IsProviding s e (stamp (deeds_done t first) now) ⊎ IsRestoring s e (stamp (deeds_done t first) now))
      → All (IsItemSettled s e) gone → IsAllowed (changed t now (allowed.Deeds (first ++ (purges gone ++ forgets versions)) report))
  deeds_allowed first gone versions report acts items =
      let more = purges gone ++ forgets versions in
      let deeds = first ++ more in
      let made = deeds_done t first in
      stamped_has IsAllowed t (deeds_done t deeds) now (told t (allowed.Deeds deeds report)) same_allowed
      (record {
        between = stamp made now;
        allowed = acts;
        behind = stamp (deeds_done t deeds) now;
        uploads = is_same refl;
        settled = subst (λ (u : Tables). IsSettled s e (stamp made now) (stamp u now)) (sym (done_append t first more))
            (items_settled s e made gone versions items);
      })

  -- items alone go
  purges_allowed : (gone : List ℕ) (report : Report) → All (IsItemSettled s e) gone → IsAllowed (changed t now (allowed.Deeds (purges gone) report))
  purges_allowed gone report items =
      subst (λ (deeds : List Deed). IsAllowed (changed t now (allowed.Deeds deeds report))) (append-nil (purges gone))
      (deeds_allowed [] gone [] report (inl (meta_nodes (stamp t now).meta)) items)

  -- ---- a sweep

  pub sweep_allowed : e.event ≡ Sweep → IsAllowed (changed t now (swept t now))
  sweep_allowed sweeps =
      let gone = flat_map (gone_from t now) (owners_of t.items) in
      let idle = filter (is_idle now) t.uploads in
      let made = deeds_done t (purges gone) in
      let items : All (IsItemSettled s e) gone = λ k d within.
      let item = some_there (item_row t.items _) ((swept_goes t sound.rows now).items k d within) in (item.0, item.1, by_sweep item.0.owner sweeps) in
      stamped_has IsAllowed t (deeds_done t (purges gone ++ abandons idle)) now (told t (swept t now)) same_allowed
      (record {
        between = stamp t now;
        allowed = inl (meta_nodes (stamp t now).meta);
        behind = stamp made now;
        settled = subst (λ (deeds : List Deed). IsSettled s e (stamp t now) (stamp (deeds_done t deeds) now)) (append-nil (purges gone))
            (items_settled s e t gone [] items);
        uploads = subst (λ (u : Tables). UploadsFollow s e (stamp made now) (stamp u now)) (sym (done_append t (purges gone) (abandons idle)))
            (is_swept sweeps (only_these (stamp made now) (stamp (deeds_done made (abandons idle)) now) (is_among idle) (IsIdleUpload s now)
            (dated_leaves made now (deeds_done made (abandons idle)) (is_among idle) (abandons_leave made idle)) (λ user dir is.
            let one = among_has IsIdle idle user dir all_idle is in
            (one.0, (λ i. upload_row t.uploads (one.2.0 i) (one.2.1 i)) ∙ one.1.0, one.1.1))));
      })
    where
      IsIdle : UploadRow → Type 0
      IsIdle row = (upload_row t.uploads row.user row.dir ≡ Some row) × (is_idle now row ≡ true)

      all_idle : All IsIdle (filter (is_idle now) t.uploads)
      all_idle k d within = ((swept_idle t sound.rows now).there k d within, filter_passes (is_idle now) t.uploads k d within)

  -- ---- what is asked about the trash

  module _ (words : Words) (request : Request) (begins : e.event ≡ Begin words request) where
    abbrev call : Call
    call = call_of s e.seat now words request

    abbrev asker : ℕ
    asker = asker_of call

    module _ (asked : TrashAsk) (wanted : request.wanted ≡ Trash asked) where
      -- the asker's items are settled
      asker_settled : (tops : List ℕ) → All (IsItemOf t asker) tops → All (IsItemSettled s e) tops
      asker_settled tops own = own_settled s e asker tops own (by_asking words request asked begins wanted)

      -- some of them go, and nothing else is done
      only_goes : (tops : List ℕ) → All (IsItemOf t asker) tops → IsAllowed (changed t now (allowed.Deeds (purges tops) report.Done))
      only_goes tops own = purges_allowed tops report.Done (asker_settled tops own)

      drop_allowed : (node : ℕ) (o : Option ItemRow) → own_item call node ≡ o → IsAllowed (changed t now (option_map_or (item_dropped t now) o nothing_done))
      drop_allowed node None is = same_allowed
      drop_allowed node (Some item) is =
          let own = own_of t sound.rows asker node item is in
          only_goes (item.node ∷ gone_beside t now item)
          (All-cons (IsItemOf t asker) item.node (gone_beside t now item) (item, ap (item_row t.items) own.1 ∙ own.0, own.2)
          (subst (λ (user : ℕ). All (IsItemOf t user) (gone_beside t now item)) own.2 (beside_own t sound.rows now item)))

    restore_allowed : (user : List ℕ) (node : ℕ) → request.wanted ≡ Trash (trash.Restore user node) → (o : Option ItemRow) → own_item call node ≡ o
        → IsAllowed (changed t now (option_map_or (item_restored t now) o nothing_done))
    restore_allowed user node wanted None is = same_allowed
    restore_allowed user node wanted (Some item) is =
        let own = own_of t sound.rows asker node item is in
        let home = home_of t item in
        let name = name_back t item in
        let at = home_fits t item sound.rows (ap (item_row t.items) own.1 ∙ own.0) in
        deeds_allowed (deed.Restore item.node home name ∷ []) (gone_beside t now item)
        (unsettled t (charged t item.owner 0 (item_size t item)) (flat_map purged_by (restoring t now item))) report.Made
        (inr (inr (record {
          words = words;
          request = request;
          begins = begins;
          user = user;
          node = node;
          wanted = wanted;
          item = item;
          own = is;
          folds = at.0;
          owner = at.1;
          free = at.2;
          rows = ap (λ (n : ℕ). stamp (restored t n home name) now) own.1;
        })))
        (asker_settled (trash.Restore user node) wanted (gone_beside t now item)
        (subst (λ (user : ℕ). All (IsItemOf t user) (gone_beside t now item)) own.2 (beside_own t sound.rows now item)))

    pub trash_allowed : (asked : TrashAsk) → request.wanted ≡ Trash asked → IsAllowed (changed t now (trash_done call asked))
    trash_allowed (trash.List user) wanted = same_allowed
    trash_allowed (trash.Drop user node) wanted = drop_allowed (trash.Drop user node) wanted node (own_item call node) refl
    trash_allowed (trash.Empty user) wanted =
        only_goes (trash.Empty user) wanted (map (λ item. item.node) (items_of t asker))
        (All-map (IsItemOf t asker) (λ (item : ItemRow). item.node) (items_of t asker) (owned t sound.rows asker))
    trash_allowed (trash.Restore user node) wanted = restore_allowed user node wanted (own_item call node) refl
