-- What a step changes, told as a list, and the tables that it makes.
use Rattle.std.proofs.Common.{inl, inr, ◌⊎◌, ℕ, zero, suc, ◌+◌, ◌==◌, ◌≡◌, ◌≢◌, ◌<◌, Bool, true, false, List, [], ◌∷◌, ◌++◌, Option, None, Some, length, get_or, refl, sym, ap, subst, ◌∙◌, arith, length-append, Result, Ok, Err, map, append_assoc, if◌then◌else◌}
use Rattle.std.specs.List.{All}
use Rattle.std.specs.Option.{option_and_then, option_map_or, option_or}
use Rattle.std.specs.Prelude.{is_some}
use Rattle.std.proofs.lemmas.Bool.{and_parts, both_ways, cond_both, eq-eqb, eqb-true, ne_eqb}
use Rattle.std.proofs.lemmas.List.{get_or-append-add, map-append}
use Rattle.std.proofs.lemmas.List.Elements.{All-append, All-cons, All-head, All-nil, All-tail, All-weaker}
use Rattle.std.proofs.lemmas.List.Folds.{find-append}
use Rattle.std.proofs.lemmas.Option.{none-some, option_and_then_some, same_Some}
use Rattle.nf_base.specs.declared.changes.Change.{Change}
use Rattle.nf_base.specs.declared.changes.Change.TheVariants.{Put}
use Rattle.nf_base.specs.Content.{content_eq}
use Rattle.nf_base.specs.declared.rows.ChunkRow.{ChunkRow}
use Rattle.nf_base.specs.declared.rows.ItemRow.{ItemRow}
use Rattle.nf_base.specs.declared.rows.UploadRow.{UploadRow}
use Rattle.nf_base.specs.declared.rows.MetaRow.{MetaRow}
use Rattle.nf_base.specs.declared.rows.NodeRow.{NodeRow}
use Rattle.nf_base.specs.declared.rows.Place.TheVariants.{Inside}
use Rattle.nf_base.specs.declared.rows.Row.TheVariants as rows
use Rattle.nf_base.specs.declared.rows.UserRow.{UserRow}
use Rattle.nf_defs.proofs.Climbs.{climb_under}
use Rattle.nf_defs.specs.Prelude.{Access, child_of, climb, content_of, dropped, folder_of, is_folder, is_root, is_under, IsDroppable, item_key, node_row, parent_of, put_all, relinked, Tables}
use Rattle.nf_defs.specs.Tree.{trashed}
use Rattle.nf_laws.proofs.Abandoning.{abandoned_differs, abandoned_put, chunks_there, Differs, WereChunks}
use Rattle.nf_laws.proofs.Blobs.{Alters, given_alters, of_nodes, refilled_of, StoresBody, version_stores}
use Rattle.nf_laws.proofs.Climbs.{node_row_each, parent_at, row_there, some_there}
use Rattle.nf_laws.proofs.Copied.{copy_at, walk_first}
use Rattle.nf_laws.proofs.Entries.{step_has}
use Rattle.nf_laws.proofs.Gone.{climb_left, left_leads, row_left}
use Rattle.nf_laws.proofs.InTurn.{replaced_is, deeds_append}
use Rattle.nf_laws.proofs.Leaning.{lean_moves}
use Rattle.nf_laws.proofs.Lists.{AreBuilt, built_droppable, meta_first, only_built, put_more}
use Rattle.nf_laws.proofs.Mirrored.{mirrored}
use Rattle.nf_laws.proofs.Moved.{climb_outside}
use Rattle.nf_laws.proofs.OneRow.{row_other}
use Rattle.nf_laws.proofs.Others.{item_other}
use Rattle.nf_laws.proofs.Parts.{rest_of}
use Rattle.nf_laws.proofs.Paths.{child_there}
use Rattle.nf_laws.proofs.Present.{never_trash, root_ends, root_so}
use Rattle.nf_laws.proofs.Puts.{other_number}
use Rattle.nf_laws.proofs.Rows.{found_is, kept_joined, row_id, stamp}
use Rattle.nf_laws.proofs.Sources.{was_given}
use Rattle.nf_laws.proofs.Plain.{decided_plain, filing_chunks, IsFiling, IsPlain, IsPlainAct}
use Rattle.nf_laws.proofs.Told.{abandoned_lost, abandons_other, abandons_told, apart_fewer, apart_old, back_other, deeds_differ, deeds_droppable, deeds_put, discard_fewer, discard_next, discarded_fewer, done_rise, IsTold, items_tell, items_told, leaving_here, leaving_tells, leaving_told, never_same, NewApart, purged_fewer, purged_lost, purges_other, Rise, sound_rise, Tells, turned_lost, turned_there, Turns, user_differs, AreOther, forgets_other, forgets_told, forgotten_lost, told_append}
use Rattle.nf_laws.proofs.Trashed.{discarded_leads, item_top}
use Rattle.nf_laws.proofs.Upwards.{never_climbs, no_rings}
use Rattle.nf_laws.specs.Tells.{ChangesTell}
use Rattle.nf_laws.specs.Transfers.{IsCopyOf, Mirrors}
use Rattle.nf_words.proofs.Ends.{known_change}
use Rattle.nf_words.proofs.Fits.{KnownChange}
use Rattle.nf_words.proofs.Found.{child_parent}
use Rattle.nf_words.proofs.Known.{IsItem, Known, KnownDeeds, KnownGoes, KnownIdle, KnownLeaving, KnownRestore, KnownTransfer, KnownSettled}
use Rattle.nf_words.proofs.Known.KnownDeeds.{by_abandoning, by_copying, by_crossing, by_going, by_joining, by_leaving, by_moving, by_requoting, by_restoring, by_sweeping}
use Rattle.nf_words.proofs.Transfers.{replaced_leaves, row_leaves}
use Rattle.nf_words.proofs.Trashing.{rest_goes}
use Rattle.nf_words.proofs.Ways.{HasRow}
use Rattle.nf_words.specs.Changes.{new_meta, same_meta}
use Rattle.nf_words.specs.declared.answer.Allowed.{Allowed}
use Rattle.nf_words.specs.declared.answer.Allowed.TheVariants as allowed
use Rattle.nf_words.specs.declared.answer.Deed.{Deed}
use Rattle.nf_words.specs.declared.answer.Deed.TheVariants as deed
use Rattle.nf_words.specs.declared.answer.Denial.{Denial}
use Rattle.nf_words.specs.declared.answer.Goal.{Goal}
use Rattle.nf_words.specs.declared.answer.Goal.TheVariants.{Chunk, Serve, Store}
use Rattle.nf_words.specs.declared.answer.LockKey.{LockKey}
use Rattle.nf_words.specs.declared.answer.LockKey.TheVariants.{Node, Slot}
use Rattle.nf_words.specs.declared.answer.Report.{Report}
use Rattle.nf_words.specs.declared.history.Event.{Event}
use Rattle.nf_words.specs.declared.history.Event.TheVariants.{Begin, End, Sweep}
use Rattle.nf_words.specs.declared.history.Outcome.{Outcome}
use Rattle.nf_words.specs.declared.history.Outcome.TheVariants.{Body, Gone, Sent}
use Rattle.nf_words.specs.declared.request.Transfer.{Transfer}
use Rattle.nf_words.specs.declared.request.Wanted.{Wanted}
use Rattle.nf_words.specs.Prelude.{abandoned, abandons, access_of, allowed_of, AreSound, beside, besides, Call, call_of, changed, changes_by, changes_of, changes_to, chunk_refusal, chunk_row, chunk_stored, content_in, blob_for, copies, copies_to, crossing, decision_of, deed_done, deeds_done, discard, discards, end_refusal, ends_at, ends_goal, forgotten, given, goal_at, goes_itself, IsRequoted, IsSound, item_for, joined, LeadsToRoot, listing_of, MayAsk, meta_after, moves, node_at, places_of, purged, purges, raised, refilled, refusal_of, replaced, row_at, served, stamped, State, step, stored_at, told, told_deed, told_deeds, touched_row, upload_row, upload_touched, unless_refused, way_of, with_meta, forgets, drop_version, version_done}
use Rattle.nf_words.proofs.Forgetting.{drop_differs, IsVersion, rows_there}
use Rattle.nf_retention.specs.declared.versions.Version.{Version}

-- ---- what comes back, and another quota

-- an item that comes back, where others go
restoring_tells : (t : Tables) (node folder : ℕ) (name : List ℕ) (gone : List ℕ) → AreSound t → KnownRestore t node folder name → KnownGoes t gone
    → Tells t t (deed.Restore node folder name ∷ purges gone)
restoring_tells t node folder name gone sound known goes =
    let is : IsItem t node = ap is_some known.there in
    let top = item_top t node sound is in
    let turns : Turns t t node (relinked folder name) =
    record { row = top.0; there = top.1; was = top.1; other = back_other top.0 folder name top.2 } in
    let more = items_tell t (deed_done t (deed.Restore node folder name)) gone sound goes.items (turned_there t node (relinked folder name) (λ row. refl))
    (inl (turned_lost t t node (relinked folder name) (dropped item_key (node ∷ []) t.items) (λ row. refl) turns)) in
    (((turns, is), more.0), more.1)

-- another quota, where items go
requoting_tells : (t : Tables) (row : UserRow) (gone : List ℕ) → AreSound t → IsRequoted t row → KnownGoes t gone
    → Tells t t (deed.Requote row ∷ purges gone)
requoting_tells t row gone sound known goes =
    let more = items_tell t (deed_done t (deed.Requote row)) gone sound goes.items (λ node has. has)
    (inr (inl (λ same. user_differs t row known (ap (λ (users : List UserRow). record t { users = users }) same)))) in
    ((known, more.0), more.1)

-- ---- what is transferred

-- the tables into which it is, whether or not something left its place there
record Ready (t u : Tables) (transfer : Transfer) : Type 0 where
  there : (node : ℕ) → HasRow u.nodes node → HasRow t.nodes node
  source : node_row u.nodes transfer.node ≡ node_row t.nodes transfer.node
  leads : LeadsToRoot u.nodes transfer.folder
  climbs : (j : ℕ) → climb u.nodes j transfer.folder ≡ climb t.nodes j transfer.folder
  item : IsItem u transfer.node → IsItem t transfer.node
  rise : Rise u
  next : u.meta.next_node ≡ t.meta.next_node

-- where nothing did
ready_here : (t : Tables) (transfer : Transfer) (name : List ℕ) → AreSound t → KnownTransfer t transfer name → Ready t t transfer
ready_here t transfer name sound known = record {
  there = λ node has. has;
  source = refl;
  leads = known.folder_present;
  climbs = λ j. refl;
  item = λ is. is;
  rise = sound_rise t sound;
  next = refl;
}

module _ (t : Tables) (now : ℕ) (transfer : Transfer) (name : List ℕ) (row : NodeRow) (sound : AreSound t) (known : KnownTransfer t transfer name)
    (leaves : KnownLeaving t row) (is : transfer.replaced ≡ Some row.id) where
  -- neither the folder nor the source is under it
  folder_out : is_under t.nodes transfer.folder row.id ≡ false
  folder_out = no_rings t row.id transfer.folder sound (child_parent t.nodes transfer.folder name row.id sound.rising (known.there ∙ is))

  source_out : is_under t.nodes transfer.node row.id ≡ false
  source_out = sym (ap (λ (o : Option ℕ). option_map_or (λ node. is_under t.nodes transfer.node node) o false) is) ∙ known.apart

  differs : transfer.node ≢ row.id
  differs same = both_ways (is_under t.nodes transfer.node row.id) source_out (climb_under 0 t.nodes transfer.node row.id (omega arith) (ap Some same))

  -- where it did
  ready_left : Ready t (deed_done t (discard t now row)) transfer
  ready_left =
      let item = item_for now row in
      cond_both (goes_itself t now row) (deed.Purge row.id) (deed.Discard item)
      (λ (one : Deed). IsTold t t one → Ready t (deed_done t one) transfer)
      (λ e told. record {
        there = (purged_fewer t row.id).there;
        source = row_left t.nodes row.id transfer.node source_out;
        leads = left_leads t row.id transfer.folder sound folder_out known.folder_present;
        climbs = λ j. climb_left t row.id j transfer.folder sound folder_out;
        item = λ still. sym (ap is_some (item_other row.id transfer.node t.items differs)) ∙ still;
        rise = done_rise t t (deed.Purge row.id) told (sound_rise t sound);
        next = refl;
      })
      (λ e told. record {
        there = (discarded_fewer t item).there;
        source = row_other t.nodes row.id trashed (λ row. refl) transfer.node (ne_eqb transfer.node row.id differs);
        leads = discarded_leads t item transfer.folder sound folder_out known.folder_present;
        climbs = λ j.
            climb_outside t.nodes row.id trashed (λ row. refl) j transfer.folder (never_climbs t transfer.folder row.id sound folder_out);
        item = λ still. sym (ap is_some (other_number (λ (i : ItemRow). i.node) item t.items transfer.node differs)) ∙ still;
        rise = done_rise t t (deed.Discard item) told (sound_rise t sound);
        next = refl;
      })
      (leaving_here t now row sound leaves)

-- where a step's first deeds are such, and what goes beside is of the trash
replacing_tells : (t : Tables) (now : ℕ) (transfer : Transfer) (name : List ℕ) (deeds : List Deed → List Deed) → AreSound t → KnownTransfer t transfer name
    → ((u : Tables) (gone : List ℕ) → Ready t u transfer → All (IsItem t) gone → Tells t u (deeds (purges gone)))
    → Tells t t (discards t now transfer.replaced ++ deeds (besides t now transfer.replaced))
replacing_tells t now transfer name deeds sound known tells = here (row_at t transfer.replaced) refl
  where
    here : (o : Option NodeRow) → row_at t transfer.replaced ≡ o
        → Tells t t (option_map_or (λ row. discard t now row ∷ []) o [] ++ deeds (option_map_or (beside t now) o []))
    here None e = tells t [] (ready_here t transfer name sound known) (All-nil (IsItem t))
    here (Some row) e =
        let leaves = replaced_leaves t sound transfer name known row e in
        let more = tells (deed_done t (discard t now row)) (rest_of t now row)
        (ready_left t now transfer name row sound known leaves (replaced_is t transfer.replaced row e)) (rest_goes t sound now row leaves).items in
        ((leaving_here t now row sound leaves, more.0), more.1)

-- ---- what is moved

-- it wasn't in the folder under that name
relinked_other : (t : Tables) (transfer : Transfer) (name : List ℕ) (row : NodeRow) → AreSound t
    → KnownTransfer t transfer name → node_row t.nodes transfer.node ≡ Some row → relinked transfer.folder name row ≢ row
relinked_other t transfer name row sound known there = λ same.
    let id = row_id t.nodes transfer.node row there in
    let place : row.place ≡ Inside transfer.folder = sym (ap (λ (r : NodeRow). r.place) same) in
    let named : row.name ≡ name = sym (ap (λ (r : NodeRow). r.name) same) in
    let child : child_of t.nodes transfer.folder row.name ≡ Some row.id =
    child_there t.nodes transfer.folder row sound.names (ap (node_row t.nodes) id ∙ there) place in
    let is : transfer.replaced ≡ Some transfer.node =
    sym known.there ∙ ap (child_of t.nodes transfer.folder) (sym named) ∙ child ∙ ap Some id in
    both_ways (transfer.node == transfer.node)
    (sym (ap (λ (o : Option ℕ). option_map_or (λ node. node == transfer.node) o false) is) ∙ known.differs)
    (eq-eqb transfer.node transfer.node refl)

-- so it is told with its other row
moving_tells : (t : Tables) (now : ℕ) (transfer : Transfer) (name : List ℕ) → AreSound t → KnownTransfer t transfer name
    → Tells t t (moves t now name transfer)
moving_tells t now transfer name sound known =
    let relink = deed.Relink transfer.node transfer.folder name in
    let change = relinked transfer.folder name in
    replacing_tells t now transfer name (λ (rest : List Deed). relink ∷ rest) sound known (λ u gone ready items.
    let row = known.source in
    let turns : Turns t u transfer.node change =
    record { row = row.0; there = ready.source ∙ row.1; was = row.1; other = relinked_other t transfer name row.0 sound known row.1 } in
    let more = items_tell t (deed_done u relink) gone sound items
    (λ node has. ready.there node (turned_there u transfer.node change (λ row. refl) node has))
    (inl (turned_lost t u transfer.node change u.items (λ row. refl) turns)) in
    ((turns, more.0), more.1))

-- ---- what is copied

-- with more rows a row is found as before
row_before : (old more : List NodeRow) (node : ℕ) (row : NodeRow) → node_row old node ≡ Some row → node_row (old ++ more) node ≡ Some row
row_before old more node row there =
    find-append (λ (one : NodeRow). one.id == node) old more ∙ ap (λ (o : Option NodeRow). option_or o (node_row more node)) there

-- and a node that leads to a root climbs as before
climb_back : (steps j : ℕ) (old more : List NodeRow) (node root top : ℕ) → climb old steps node ≡ Some root → is_root old root ≡ true
    → climb (old ++ more) j node ≡ Some top → climb old j node ≡ Some top
climb_back steps zero old more node root top whole ends is = is
climb_back zero (suc j) old more node root top whole ends is =
    let alone : parent_of (old ++ more) root ≡ None = root_ends (old ++ more) root (root_so old (old ++ more) root ends (kept_joined old more root)) in
    absurd (none-some top
    (sym (ap (option_and_then (climb (old ++ more) j)) (ap (parent_of (old ++ more)) (same_Some node root whole) ∙ alone)) ∙ is))
climb_back (suc steps) (suc j) old more node root top whole ends is =
    option_and_then_some (climb old steps) (parent_of old node) root whole (λ parent above rest.
    option_and_then_some (λ row. folder_of row.place) (node_row old node) parent above (λ row there place.
    let still : parent_of (old ++ more) node ≡ Some parent =
    ap (option_and_then (λ row. folder_of row.place)) (row_before old more node row there) ∙ place in
    ap (option_and_then (climb old j)) above
    ∙ climb_back steps j old more parent root top rest ends (sym (ap (option_and_then (climb (old ++ more) j)) still) ∙ is)))

module _ (t u : Tables) (now : ℕ) (transfer : Transfer) (name : List ℕ) (sound : AreSound t) (known : KnownTransfer t transfer name)
    (ready : Ready t u transfer) where
  abbrev rows_more : List NodeRow
  rows_more = copies_to t now transfer name

  abbrev with_copies : Tables
  with_copies = joined u rows_more

  mirrors : Mirrors t now transfer name rows_more
  mirrors = mirrored t now transfer name sound known.source

  copy : (k : ℕ) (d : NodeRow) → k < length rows_more → IsCopyOf t now transfer name k (get_or rows_more k d)
  copy = copy_at t now transfer name rows_more mirrors

  -- they have the next numbers
  join_told : IsTold t u (deed.Join rows_more)
  join_told = (
    All-weaker (λ (row : NodeRow). is_some (node_row u.nodes row.id) ≡ true) (λ (row : NodeRow). row.id < t.meta.next_node)
        (λ row is.
        let was = ready.there row.id (some_there (node_row u.nodes row.id) is) in was_given t row.id was.0 sound was.1) u.nodes (row_there u.nodes),
    λ k d within. (copy k d within).id,
  )

  copies_rise : Rise with_copies
  copies_rise = done_rise t u (deed.Join rows_more) join_told ready.rise

  -- so each is found
  copy_row : (k : ℕ) (d : NodeRow) → k < length rows_more → node_row with_copies.nodes (t.meta.next_node + k) ≡ Some (get_or rows_more k d)
  copy_row k d within =
      let there = node_row_each with_copies.nodes copies_rise.nodes (length u.nodes + k) d (omega (arith, within, length-append u.nodes rows_more)) in
      ap (node_row with_copies.nodes) (sym (copy k d within).id)
      ∙ subst (λ (row : NodeRow). node_row with_copies.nodes row.id ≡ Some row) (get_or-append-add u.nodes rows_more k d) there

  -- a node that was there and isn't above the folder
  abbrev IsAside : ℕ → Type 0
  IsAside top = HasRow t.nodes top × ((j : ℕ) → climb t.nodes j transfer.folder ≢ Some top)

  -- no more is above the folder beside the copies
  folder_aside : (j top : ℕ) → IsAside top → climb with_copies.nodes j transfer.folder ≢ Some top
  folder_aside j top aside is =
      aside.1 j (sym (ready.climbs j)
      ∙ climb_back ready.leads.steps j u.nodes rows_more transfer.folder ready.leads.top top ready.leads.climbs ready.leads.root is)

  -- no copy is under one
  copies_aside : (m k : ℕ) (d : NodeRow) → k < m → k < length rows_more → (j top : ℕ) → IsAside top
      → climb with_copies.nodes j (t.meta.next_node + k) ≢ Some top
  copies_aside zero k d before within j top aside is = absurd (omega (arith, before))
  copies_aside (suc m) k d before within zero top aside is =
      absurd (omega (arith, same_Some (t.meta.next_node + k) top is, was_given t top aside.0.0 sound aside.0.1))
  copies_aside (suc m) zero d before within (suc j) top aside is =
      let up = parent_at with_copies.nodes (t.meta.next_node + 0) transfer.folder (get_or rows_more 0 d) (copy_row 0 d within) (copy 0 d within).placed.0 in
      folder_aside j top aside (sym (ap (option_and_then (climb with_copies.nodes j)) up) ∙ is)
  copies_aside (suc m) (suc k) d before within (suc j) top aside is =
      let p = (copy (suc k) d within).placed.1 in
      let up = parent_at with_copies.nodes (t.meta.next_node + suc k) (t.meta.next_node + p.1) (get_or rows_more (suc k) d) (copy_row (suc k) d within) p.5 in
      copies_aside m p.1 d (omega (arith, before, p.4)) (omega (arith, within, p.4)) j top aside
      (sym (ap (option_and_then (climb with_copies.nodes j)) up) ∙ is)

  -- so what is new is under none
  copies_apart : NewApart t IsAside with_copies
  copies_apart node (row, there) = here (node_row u.nodes node) refl
    where
      Avoids : NodeRow → Type 0
      Avoids copy = (j top : ℕ) → IsAside top → climb with_copies.nodes j copy.id ≢ Some top

      all : All Avoids rows_more
      all k d within j top aside is =
          copies_aside (suc k) k d (omega arith) within j top aside (ap (climb with_copies.nodes j) (sym (copy k d within).id) ∙ is)

      here : (o : Option NodeRow) → node_row u.nodes node ≡ o
          → HasRow t.nodes node ⊎ ((j top : ℕ) → IsAside top → climb with_copies.nodes j node ≢ Some top)
      here (Some old) e = inl (ready.there node (old, e))
      here None e =
          let found = sym (find-append (λ (one : NodeRow). one.id == node) u.nodes rows_more
          ∙ ap (λ (o : Option NodeRow). option_or o (node_row rows_more node)) e) ∙ there in
          let h = found_is Avoids (λ (one : NodeRow). one.id == node) rows_more row all found in
          inr (subst (λ (n : ℕ). (j top : ℕ) → IsAside top → climb with_copies.nodes j n ≢ Some top) (eqb-true row.id node h.0) h.1)

  -- no item is above the folder
  item_aside : (node : ℕ) → IsItem t node → IsAside node
  item_aside node is =
      let top = item_top t node sound is in
      ((top.0, top.1), λ j climbs. never_trash j t.nodes transfer.folder node top.0 known.folder_present climbs top.1 top.2)

  -- more numbers are given
  more_nodes : with_copies.meta.next_node ≢ t.meta.next_node
  more_nodes same = absurd (omega (arith, same, ready.next, mirrors.all, (walk_first t.nodes transfer.node).1))

  -- so copies are told, and items that go then
  copy_tells : (gone : List ℕ) → All (IsItem t) gone → Tells t u (deed.Join rows_more ∷ purges gone)
  copy_tells gone items = (
    (join_told, items_told t IsAside with_copies gone sound item_aside items copies_apart),
    purges_other t with_copies gone (inr (inr (inl more_nodes))),
  )

  -- the source leaves its place beside its copies
  cross_tells : (from : NodeRow) (gone : List ℕ) → KnownLeaving t from → from.id ≡ transfer.node → All (IsItem t) gone
      → Tells t u (deed.Join rows_more ∷ discard t now from ∷ purges gone)
  cross_tells from gone leaves same items =
      let w = deed_done with_copies (discard t now from) in
      let there : node_row with_copies.nodes from.id ≡ Some from =
      row_before u.nodes rows_more from.id from
      (ap (node_row u.nodes) same ∙ ready.source ∙ ap (node_row t.nodes) (sym same) ∙ leaves.there) in
      let aside : IsAside from.id = (
        (from, leaves.there),
        never_climbs t transfer.folder from.id sound (ap (is_under t.nodes transfer.folder) same ∙ known.outside),
      ) in
      let told = leaving_told t with_copies now from sound leaves there
      (apart_old t IsAside with_copies from.id copies_apart aside (from, leaves.there))
      (λ is. subst (IsItem t) (sym same) (ready.item (subst (IsItem u) same is))) in
      let last = items_told t IsAside w gone sound item_aside items
      (apart_fewer t IsAside with_copies w (discard_fewer t with_copies now from) copies_apart) in (
        (join_told, (told, last)),
        purges_other t w gone (inr (inr (inl (λ equal. more_nodes (sym (discard_next t with_copies now from) ∙ equal))))),
      )

copying_tells : (t : Tables) (now : ℕ) (transfer : Transfer) (name : List ℕ) → AreSound t → KnownTransfer t transfer name
    → Tells t t (copies t now name transfer)
copying_tells t now transfer name sound known =
    replacing_tells t now transfer name (λ (rest : List Deed). deed.Join (copies_to t now transfer name) ∷ rest) sound known
    (λ u gone ready items. copy_tells t u now transfer name sound known ready gone items)

crossing_tells : (t : Tables) (now : ℕ) (transfer : Transfer) (name : List ℕ) → AreSound t → KnownTransfer t transfer name
    → Tells t t (crossing t now name transfer)
crossing_tells t now transfer name sound known =
    let from = known.source.0 in
    let join = deed.Join (copies_to t now transfer name) in
    let leaves = row_leaves t from transfer.node known.source.1 known.no_root known.present in
    let beside_from = rest_of t now from in
    subst (λ (o : Option NodeRow). Tells t t (discards t now transfer.replaced
    ++ join ∷ (option_map_or (λ row. discard t now row ∷ []) o [] ++ (besides t now transfer.replaced ++ option_map_or (beside t now) o []))))
    (sym known.source.1)
    (replacing_tells t now transfer name (λ (rest : List Deed). join ∷ discard t now from ∷ (rest ++ purges beside_from)) sound known
    (λ u gone ready items.
    subst (λ (last : List Deed). Tells t u (join ∷ discard t now from ∷ last)) (map-append (λ (node : ℕ). deed.Purge node) gone beside_from)
    (cross_tells t u now transfer name sound known ready from (gone ++ beside_from) leaves (row_id t.nodes transfer.node from known.source.1)
    (All-append (IsItem t) gone beside_from items (rest_goes t sound now from leaves).items))))

-- ---- the deeds of a step

-- some items that go
going_tells : (t : Tables) (node : ℕ) (gone : List ℕ) → AreSound t → All (IsItem t) (node ∷ gone) → Tells t t (purges (node ∷ gone))
going_tells t node gone sound items =
    let top = item_top t node sound (All-head (IsItem t) node gone items) in (
      items_told t (IsItem t) t (node ∷ gone) sound (λ node is. is) items (λ node has. inl has),
      purges_other t (purged t node) gone (inl (purged_lost t node top.0 top.1)),
    )

-- a sweep
sweeping_tells : (t : Tables) (nodes : List ℕ) (rows : List UploadRow) → AreSound t → KnownGoes t nodes → KnownIdle t rows
    → (purges nodes ++ abandons rows ≡ []) ⊎ Tells t t (purges nodes ++ abandons rows)
sweeping_tells t nodes rows sound goes idle = here nodes rows goes.items there
  where
    There : UploadRow → Type 0
    There row = is_some (upload_row t.uploads row.user row.dir) ≡ true

    there : All There rows
    there k d within = ap is_some (idle.there k d within)

    here : (nodes : List ℕ) (rows : List UploadRow) → All (IsItem t) nodes → All There rows
        → (purges nodes ++ abandons rows ≡ []) ⊎ Tells t t (purges nodes ++ abandons rows)
    here [] [] items there = inl refl
    here [] (row ∷ rows) items there = inr (
      abandons_told t t (row ∷ rows) there,
      abandons_other t (abandoned t row.user row.dir) rows (abandoned_lost t t row.user row.dir (All-head There row rows there)),
    )
    here (node ∷ nodes) rows items there =
        let gone = purges (node ∷ nodes) in
        let tells = going_tells t node nodes sound items in
        inr (
          told_append t t gone (abandons rows) tells.0 (abandons_told t (deeds_done t gone) rows there),
          subst (AreOther t) (sym (deeds_append t gone (abandons rows))) (abandons_other t (deeds_done t gone) rows tells.1),
        )

-- changes are stored, and then an upload and versions go
record IsJoin (t : Tables) (now : ℕ) (deeds : List Deed) : Type 0 where
  changes : List Change
  user : ℕ
  dir : List ℕ
  gone : List Version
  are : deeds ≡ deed.Store changes ∷ deed.Abandon user dir ∷ forgets gone
  known : KnownChange t now changes None
  opened : is_some (upload_row t.uploads user dir) ≡ true
  there : All (IsVersion t) gone

-- none, or some that make other tables, unless they store changes
abbrev TellsSo : Tables → ℕ → List Deed → Type 0
TellsSo t now deeds = (deeds ≡ []) ⊎ (Tells t t deeds ⊎ IsJoin t now deeds)

known_tells : (t : Tables) (now : ℕ) (deeds : List Deed) → AreSound t → KnownDeeds t now deeds → TellsSo t now deeds
known_tells t now deeds sound (by_going [] goes) = inl refl
known_tells t now deeds sound (by_going (node ∷ gone) goes) = inr (inl (going_tells t node gone sound goes.items))
known_tells t now deeds sound (by_leaving row known) = inr (inl (leaving_tells t now row sound known))
known_tells t now deeds sound (by_restoring node folder name gone known goes others) =
    inr (inl (restoring_tells t node folder name gone sound known goes))
known_tells t now deeds sound (by_requoting row gone known goes) = inr (inl (requoting_tells t row gone sound known goes))
known_tells t now deeds sound (by_moving transfer name known) = inr (inl (moving_tells t now transfer name sound known.known))
known_tells t now deeds sound (by_copying transfer name known) = inr (inl (copying_tells t now transfer name sound known.known))
known_tells t now deeds sound (by_crossing transfer name known) = inr (inl (crossing_tells t now transfer name sound known.copies.known))
known_tells t now deeds sound (by_joining changes user dir known opened) = inr (inr (record {
  changes = changes;
  user = user;
  dir = dir;
  gone = [];
  are = refl;
  known = known;
  opened = opened;
  there = All-nil (IsVersion t);
}))
known_tells t now deeds sound (by_abandoning user dir opened) = inr (inl ((opened, tt), abandoned_lost t t user dir opened))
known_tells t now deeds sound (by_sweeping nodes rows goes idle) =
    elim (sweeping_tells t nodes rows sound goes idle) [ inl none ↦ inl none | inr tells ↦ inr (inl tells) ]

-- so with versions that go behind them
settled_tells : (t : Tables) (now : ℕ) (deeds : List Deed) → AreSound t → KnownSettled t now deeds → TellsSo t now deeds
settled_tells t now deeds sound k =
    elim (known_tells t now k.first sound k.known) [
      | inl none ↦ alone k.gone k.there (k.are ∙ ap (λ (first : List Deed). first ++ forgets k.gone) none)
      | inr more ↦ elim more [
        | inl tells ↦
            inr (inl (subst (Tells t t) (sym k.are) (
              told_append t t k.first (forgets k.gone) tells.0 (forgets_told t (deeds_done t k.first) k.gone k.there),
              subst (AreOther t) (sym (deeds_append t k.first (forgets k.gone))) (forgets_other t (deeds_done t k.first) k.gone tells.1),
            )))
        | inr join ↦ inr (inr (record {
          changes = join.changes;
          user = join.user;
          dir = join.dir;
          gone = join.gone ++ k.gone;
          are = k.are ∙ ap (λ (first : List Deed). first ++ forgets k.gone) join.are
              ∙ ap (λ (rest : List Deed). deed.Store join.changes ∷ deed.Abandon join.user join.dir ∷ rest)
              (sym (map-append (λ (version : Version). deed.Forget version.node version.at) join.gone k.gone));
          known = join.known;
          opened = join.opened;
          there = All-append (IsVersion t) join.gone k.gone join.there k.there;
        }))
      ]
    ]
  where
    alone : (gone : List Version) → All (IsVersion t) gone → deeds ≡ forgets gone → TellsSo t now deeds
    alone [] there are = inl are
    alone (version ∷ gone) there are =
        inr (inl (subst (Tells t t) (sym are) (
          forgets_told t t (version ∷ gone) there,
          forgets_other t (deed_done t (deed.Forget version.node version.at)) gone
              (forgotten_lost t t version (All-head (IsVersion t) version gone there)),
        )))

-- what is told of them makes the tables after them, each change is one, and where there is one the tables are others
record DeedsTell (t : Tables) (now : ℕ) (deeds : List Deed) : Type 0 where
  put : (rest : List Change) → put_all t (told_deeds t deeds ++ rest) ≡ put_all (record (deeds_done t deeds) { meta = t.meta }) rest
  differ : All (Differs t) (told_deeds t deeds)
  moves : told_deeds t deeds ≢ [] → stamp (deeds_done t deeds) now ≢ t

forgets_put : (meta : MetaRow) (u : Tables) (gone : List Version) (rest : List Change)
    → put_all (record u { meta = meta }) (told_deeds u (forgets gone) ++ rest) ≡ put_all (record (deeds_done u (forgets gone)) { meta = meta }) rest
forgets_put meta u [] rest = refl
forgets_put meta u (version ∷ gone) rest = forgets_put meta (forgotten u version.node version.at) gone rest

forgets_differ : (t u : Tables) (gone : List Version) → All (IsVersion t) gone → All (Differs t) (told_deeds u (forgets gone))
forgets_differ t u [] there = All-nil (Differs t)
forgets_differ t u (version ∷ gone) there =
    All-cons (Differs t) (drop_version version) (told_deeds (forgotten u version.node version.at) (forgets gone))
    (drop_differs t version (All-head (IsVersion t) version gone there))
    (forgets_differ t (forgotten u version.node version.at) gone (All-tail (IsVersion t) version gone there))

-- where a file is stored, and then an upload and versions go
join_tells : (t : Tables) (now : ℕ) (changes : List Change) (user : ℕ) (dir : List ℕ) (gone : List Version) → KnownChange t now changes None
    → is_some (upload_row t.uploads user dir) ≡ true → All (IsVersion t) gone → All IsFiling changes
    → DeedsTell t now (deed.Store changes ∷ deed.Abandon user dir ∷ forgets gone)
join_tells t now changes user dir gone known opened there filing = record {
  put = λ rest.
      ap (put_all t) (append_assoc changes (told_deeds w more) rest)
      ∙ put_more t changes (told_deeds w more ++ rest)
      ∙ ap (λ (u : Tables). put_all u (told_deeds w more ++ rest))
      (meta_first t t.meta changes (only_built t None (raised t now changes None) changes known.rows))
      ∙ ap (put_all (record w { meta = t.meta })) (append_assoc (told_deed w (deed.Abandon user dir)) (told_deeds left (forgets gone)) rest)
      ∙ abandoned_put (record w { meta = t.meta }) user dir (told_deeds left (forgets gone) ++ rest)
      ∙ forgets_put t.meta left gone rest;
  differ = All-append (Differs t) changes (told_deeds w more) known.lean.differ
      (All-append (Differs t) (told_deed w (deed.Abandon user dir)) (told_deeds left (forgets gone))
      (abandoned_differs t w user dir (subst (WereChunks t) (sym (filing_chunks t changes filing)) (chunks_there t.chunks)) opened)
      (forgets_differ t left gone there));
  moves = λ some. never_same t (deeds_done left (forgets gone)) now (forgets_other t left gone (abandoned_lost t w user dir opened));
}
  where
    w : Tables
    w = replaced t changes

    more : List Deed
    more = deed.Abandon user dir ∷ forgets gone

    left : Tables
    left = abandoned w user dir

deeds_tell : (t : Tables) (now : ℕ) (deeds : List Deed) → AreSound t → KnownSettled t now deeds → All IsPlain deeds → DeedsTell t now deeds
deeds_tell t now deeds sound known plain =
    elim (settled_tells t now deeds sound known) [
      | inl none ↦
          subst (DeedsTell t now) (sym none)
          (record { put = λ rest. refl; differ = All-nil (Differs t); moves = λ some. absurd (some refl) })
      | inr more ↦ elim more [
        | inl tells ↦
            record {
              put = λ rest. deeds_put t t t.meta deeds rest tells.0 (sound_rise t sound);
              differ = deeds_differ t t deeds sound tells.0 (sound_rise t sound) (λ id share is unended. is) (rows_there t.versions, chunks_there t.chunks);
              moves = λ some. never_same t (deeds_done t deeds) now tells.1;
            }
        | inr join ↦
            subst (DeedsTell t now) (sym join.are)
            (join_tells t now join.changes join.user join.dir join.gone join.known join.opened join.there
            (All-head IsPlain (deed.Store join.changes) (deed.Abandon join.user join.dir ∷ forgets join.gone) (subst (All IsPlain) join.are plain)))
      ]
    ]

-- ---- the meta row

meta_same : (a b : MetaRow) → same_meta a b ≡ true → a ≡ b
meta_same a b is =
    let last = and_parts _ _ is in
    let blobs = and_parts _ _ last.0 in
    let shares = and_parts _ _ blobs.0 in
    let nodes = and_parts _ _ shares.0 in
    let groups = and_parts _ _ nodes.0 in
    λ i. record {
      next_user = eqb-true a.next_user b.next_user groups.0 i;
      next_group = eqb-true a.next_group b.next_group groups.1 i;
      next_node = eqb-true a.next_node b.next_node nodes.1 i;
      next_share = eqb-true a.next_share b.next_share shares.1 i;
      next_blob = eqb-true a.next_blob b.next_blob blobs.1 i;
      last = eqb-true a.last b.last last.1 i;
    }

same_itself : (meta : MetaRow) → same_meta meta meta ≡ true
same_itself meta =
    rw (itself meta.next_user, itself meta.next_group, itself meta.next_node, itself meta.next_share, itself meta.next_blob, itself meta.last)
  where
    itself : (n : ℕ) → (n == n) ≡ true
    itself n = eq-eqb n n refl

put_meta : (t : Tables) (meta : MetaRow) → put_all t (new_meta t.meta meta) ≡ record t { meta = meta }
put_meta t meta =
    cond_both (same_meta t.meta meta) [] (Put (rows.Meta meta) ∷ []) (λ changes. put_all t changes ≡ record t { meta = meta })
    (λ e. ap (λ (m : MetaRow). record t { meta = m }) (meta_same t.meta meta e)) (λ e. refl)

-- ---- what is told of an act

-- the changes make these tables, none of them is empty, and there is none where nothing changed
record Tell (t after : Tables) (changes : List Change) : Type 0 where
  put : put_all t changes ≡ after
  differ : All (Differs t) changes
  none : after ≡ t → changes ≡ []

nothing_told : (t : Tables) → Tell t t []
nothing_told t = record { put = refl; differ = All-nil (Differs t); none = λ same. refl }

meta_differs : (t : Tables) (meta : MetaRow) → All (Differs t) (new_meta t.meta meta)
meta_differs t meta =
    cond_both (same_meta t.meta meta) [] (Put (rows.Meta meta) ∷ []) (All (Differs t)) (λ e. All-nil (Differs t))
    (λ e. All-cons (Differs t) (Put (rows.Meta meta)) []
    (λ same. both_ways (same_meta t.meta meta) e (ap (same_meta t.meta) (ap (λ (u : Tables). u.meta) same) ∙ same_itself t.meta))
    (All-nil (Differs t)))

-- where changes of rows make other tables, but for the meta row
rows_told : (t : Tables) (now : ℕ) (made : Tables) (changes : List Change)
    → ((rest : List Change) → put_all t (changes ++ rest) ≡ put_all (record made { meta = t.meta }) rest) → All (Differs t) changes
    → (changes ≢ [] → stamp made now ≢ t) → Tell t (stamped t made now changes) (with_meta t.meta (record made.meta { last = now }) changes)
rows_told t now made [] puts differ moves = nothing_told t
rows_told t now made (change ∷ changes) puts differ moves =
    let last = record made.meta { last = now } in
    record {
      put = puts (new_meta t.meta last) ∙ put_meta (record made { meta = t.meta }) last;
      differ = All-append (Differs t) (change ∷ changes) (new_meta t.meta last) differ (meta_differs t last);
      none = λ same. absurd (moves (λ none. cc) same);
    }

abbrev TellsAct : Tables → ℕ → Allowed → Type 0
TellsAct t now act = Tell t (changed t now act) (changes_of t now act)

-- a lean list tells of itself
changes_told : (t : Tables) (now : ℕ) (changes : List Change) (blob : Option ℕ) (report : Report) → AreSound t
    → KnownChange t now changes blob → TellsAct t now (allowed.Change changes blob report)
changes_told t now changes blob report sound known =
    let up = raised t now changes blob in
    let rows = put_all t changes in
    let alone : rows ≡ record rows { meta = t.meta } = meta_first t t.meta changes (only_built t blob up changes known.rows) in
    rows_told t now (record rows { meta = up.meta }) changes (λ rest. put_more t changes rest ∙ ap (λ (u : Tables). put_all u rest) alone) known.lean.differ
    (λ some same.
    lean_moves t up blob changes sound.rising sound.others.versions_rise sound.others.chunks_rise refl known.rows known.lean some (alone ∙ ap (λ (u : Tables). record u { meta = t.meta }) same))

act_told : (t : Tables) (now : ℕ) (act : Allowed) → AreSound t → Known t now act → IsPlainAct act → TellsAct t now act
act_told t now (allowed.Change changes blob report) sound known plain = changes_told t now changes blob report sound known
act_told t now (allowed.Deeds deeds report) sound known plain =
    let tell = deeds_tell t now deeds sound known plain in rows_told t now (deeds_done t deeds) (told_deeds t deeds) tell.put tell.differ tell.moves
act_told t now act sound known plain = nothing_told t

-- ---- each step

step_told : (s : State) (seat now : ℕ) (event : Event) → IsSound s → MayAsk s seat event
    → Tell s.tables (step s seat now event).tables (changes_to s seat now event)
step_told s seat now event sound asked =
    step_has (λ t tickets decision. Tell s.tables t (changes_by s.tables now decision)) s seat now event (λ refusal. nothing_told s.tables)
    (λ act is. act_told s.tables now act sound.rows (known_change s seat now event act sound asked is) (decided_plain s seat now event act is))

-- ---- the meta row is never dropped

-- where an act is a list, it is one of changes that may be in one
abbrev IsBuilt : Allowed → Type 0
IsBuilt (allowed.Change changes blob report) = AreBuilt changes
IsBuilt act = Unit {0}

told_droppable : (t : Tables) (act : Allowed) → IsBuilt act → IsPlainAct act → All IsDroppable (told t act)
told_droppable t (allowed.Change changes blob report) nodes plain = built_droppable changes nodes
told_droppable t (allowed.Deeds deeds report) nodes plain = deeds_droppable t deeds plain
told_droppable t act nodes plain = All-nil IsDroppable

with_meta_droppable : (old meta : MetaRow) (changes : List Change) → All IsDroppable changes → All IsDroppable (with_meta old meta changes)
with_meta_droppable old meta [] all = all
with_meta_droppable old meta (change ∷ changes) all =
    All-append IsDroppable (change ∷ changes) (new_meta old meta) all
    (cond_both (same_meta old meta) [] (Put (rows.Meta meta) ∷ []) (All IsDroppable) (λ e. All-nil IsDroppable)
    (λ e. All-cons IsDroppable (Put (rows.Meta meta)) [] tt (All-nil IsDroppable)))

-- so it is for each decision
abbrev DecidesBuilt : Result Allowed Denial → Type 0
DecidesBuilt (Ok act) = IsBuilt act
DecidesBuilt (Err refusal) = Unit {0}

unless_nodes : (refusal : Option Denial) (act : Allowed) → IsBuilt act → DecidesBuilt (unless_refused refusal act)
unless_nodes None act nodes = nodes
unless_nodes (Some refusal) act nodes = tt

begin_nodes : (call : Call) (asked : Wanted) → IsBuilt (given (access_of call.state) call (places_of call) asked)
begin_nodes call asked =
    elim (given_alters call (places_of call) asked) [
      | inl get ↦
          subst (λ (w : Wanted). IsBuilt (given (access_of call.state) call (places_of call) w)) (sym get.1)
          (served_nodes (way_of call get.0).mount (node_at (places_of call).source))
      | inr (inl version) ↦
          subst (λ (w : Wanted). IsBuilt (given (access_of call.state) call (places_of call) w)) (sym version.1)
          (stores_nodes (version_done call.state.tables call.now version.0) (version_stores call.state.tables call.now [] version.0))
      | inr (inr alters) ↦ alters_nodes (given (access_of call.state) call (places_of call) asked) alters
    ]
  where
    served_nodes : (mount o : Option ℕ) → IsBuilt (served (access_of call.state) call mount o)
    served_nodes mount None = tt
    served_nodes mount (Some node) =
        cond_both (is_folder call.state.tables.nodes node) (allowed.List (listing_of (access_of call.state) call mount node))
        (allowed.Get node (content_of call.state.tables.nodes node)) IsBuilt
        (λ folder. tt) (λ file. tt)

    alters_nodes : (act : Allowed) → Alters call.state.tables act → IsBuilt act
    alters_nodes (allowed.Change changes blob report) alters = of_nodes [] changes alters.1
    alters_nodes act alters = tt

    stores_nodes : (act : Allowed) → StoresBody call.state.tables [] act → IsBuilt act
    stores_nodes (allowed.Change changes blob report) (inl (none, inl empty)) = of_nodes [] changes empty
    stores_nodes (allowed.Change changes blob report) (inl (none, inr (node, content, of, are))) = of_nodes content changes are
    stores_nodes (allowed.Change changes blob report) (inr some) = of_nodes _ changes some.1
    stores_nodes act stores = tt

drops_built : (gone : List Version) → AreBuilt (map drop_version gone)
drops_built [] = tt
drops_built (version ∷ gone) = (tt, drops_built gone)

stored_nodes : (t : Tables) (now : ℕ) (key : LockKey) (digest : List ℕ) (size : ℕ) → IsBuilt (stored_at t now key digest size)
stored_nodes t now (Node node) digest size =
    let o = node_row t.nodes node in of_nodes _ (option_map_or (refilled t now _) o []) (refilled_of t o now _)
stored_nodes t now (Slot folder name) digest size = (tt, drops_built _)

goal_nodes : (access : Access) (t : Tables) (now : ℕ) (outcome : Outcome) (goal : Goal) → DecidesBuilt (ends_goal access t now outcome goal)
goal_nodes access t now (Body digest size) (Store by key wanted) =
    unless_nodes (end_refusal access t now by key size) (stored_at t now key digest size) (stored_nodes t now key digest size)
goal_nodes access t now (Body digest size) (Chunk user dir number wanted) =
    let row : ChunkRow = record { user = user; dir = dir; number = number; content = content_in (blob_for t.meta.next_blob size) digest size } in
    unless_nodes (chunk_refusal t user dir number size) (chunk_stored t now user dir number digest size)
    (chunk_nodes (option_map_or (λ (old : ChunkRow). content_eq old.content row.content) (chunk_row t.chunks user dir number) false) row
    (option_map_or (upload_touched now) (upload_row t.uploads user dir) []) (touched_nodes (upload_row t.uploads user dir)))
  where
    touched_nodes : (o : Option UploadRow) → AreBuilt (option_map_or (upload_touched now) o [])
    touched_nodes None = tt
    touched_nodes (Some row) =
        cond_both (row.touched == now) [] (Put (rows.Upload (touched_row now row)) ∷ []) AreBuilt (λ e. tt) (λ e. (tt, tt))

    chunk_nodes : (again : Bool) (row : ChunkRow) (more : List Change) → AreBuilt more → AreBuilt ((if again then [] else Put (rows.Chunk row) ∷ []) ++ more)
    chunk_nodes true row more built = built
    chunk_nodes false row more built = (tt, built)
goal_nodes access t now (Body digest size) (Serve content) = tt
goal_nodes access t now Sent goal = tt
goal_nodes access t now Gone goal = tt

at_nodes : (access : Access) (t : Tables) (now : ℕ) (outcome : Outcome) (goal : Option Goal) → DecidesBuilt (ends_at access t now outcome goal)
at_nodes access t now outcome None = tt
at_nodes access t now outcome (Some goal) = goal_nodes access t now outcome goal

decision_nodes : (s : State) (seat now : ℕ) (event : Event) → DecidesBuilt (decision_of s seat now event)
decision_nodes s seat now (Begin words request) =
    let call = call_of s seat now words request in
    unless_nodes (refusal_of (access_of s) call) (allowed_of (access_of s) call) (begin_nodes call request.wanted)
decision_nodes s seat now (End outcome) = at_nodes (access_of s) s.tables now outcome (goal_at s seat)
decision_nodes s seat now Sweep = tt

decided_droppable : (t : Tables) (now : ℕ) (decision : Result Allowed Denial) → DecidesBuilt decision
    → ((act : Allowed) → decision ≡ Ok act → IsPlainAct act) → All IsDroppable (changes_by t now decision)
decided_droppable t now (Ok act) nodes plain = with_meta_droppable t.meta (meta_after t now act) (told t act) (told_droppable t act nodes (plain act refl))
decided_droppable t now (Err refusal) nodes plain = All-nil IsDroppable

pub changes_tell : ChangesTell
changes_tell = record {
  put = λ s seat now event sound asked. (step_told s seat now event sound asked).put;
  differ = λ s seat now event sound asked. (step_told s seat now event sound asked).differ;
  none = λ s seat now event sound asked.
      let tell = step_told s seat now event sound asked in (
        λ nothing. sym tell.put ∙ ap (put_all s.tables) nothing,
        tell.none,
      );
  droppable = λ s seat now event. decided_droppable s.tables now (decision_of s seat now event) (decision_nodes s seat now event) (decided_plain s seat now event);
}
