-- The deeds of a step told as a list: the tables after them are those with the changes put into them, and each change is one.
use Rattle.std.proofs.Common.{inl, inr, ◌⊎◌, ℕ, zero, suc, ◌==◌, ◌≡◌, ◌≢◌, ◌<◌, ◌≤◌, Bool, true, false, not, List, [], ◌∷◌, ◌++◌, Option, None, Some, map, option_map, filter, length, get_or, if◌then◌else◌, refl, sym, ap, subst, ◌∙◌, arith, append_assoc, bytes_eq, length-append, ◌&&◌, flat_map}
use Rattle.std.specs.Prelude.{is_some}
use Rattle.std.specs.List.{All, AllPairs}
use Rattle.std.specs.Option.{option_and_then, option_or}
use Rattle.std.proofs.lemmas.Bool.{and_parts, both_ways, cond_both, eq-eqb, not-true}
use Rattle.std.proofs.lemmas.List.Elements.{All-append, All-cons, All-filter, All-head, All-map, All-nil, All-tail, All-weaker, filter_passes}
use Rattle.std.proofs.lemmas.List.Kept.{AllPairs-filter}
use Rattle.std.proofs.lemmas.Option.{none-some, option_and_then_some, same_Some}
use Rattle.nf_access.proofs.Kept.{share_row_each}
use Rattle.nf_access.specs.Shares.{share_row}
use Rattle.nf_base.specs.declared.changes.Change.{Change}
use Rattle.nf_base.specs.declared.changes.Change.TheVariants.{Drop, Put}
use Rattle.nf_base.specs.declared.changes.RowKey.TheVariants as keys
use Rattle.nf_base.specs.declared.rows.ItemRow.{ItemRow}
use Rattle.nf_base.specs.declared.rows.MetaRow.{MetaRow}
use Rattle.nf_base.specs.declared.rows.NodeRow.{NodeRow}
use Rattle.nf_base.specs.declared.rows.Place.TheVariants.{Inside, Trash}
use Rattle.nf_base.specs.declared.rows.Row.TheVariants as rows
use Rattle.nf_base.specs.declared.rows.ChunkRow.{ChunkRow}
use Rattle.nf_base.specs.declared.rows.ShareRow.{ShareRow}
use Rattle.nf_base.specs.declared.rows.UploadRow.{UploadRow}
use Rattle.nf_base.specs.declared.rows.UserRow.{UserRow}
use Rattle.nf_defs.proofs.Climbs.{climb_under, under_climb}
use Rattle.nf_defs.specs.Prelude.{climb, dropped, folder_of, is_under, IsDroppable, IsRising, item_key, item_row, node_row, parent_of, put, put_all, relinked, share_key, Tables, user_row, walk_of, with_node, version_key, without_under}
use Rattle.nf_defs.specs.Tree.{trashed}
use Rattle.nf_laws.proofs.Abandoning.{abandoned_differs, abandoned_droppable, abandoned_put, Differs, upload_gone, upload_lost, WereChunks}
use Rattle.nf_laws.proofs.Climbs.{map_some, some_there}
use Rattle.nf_laws.proofs.Gone.{kept_left, row_gone}
use Rattle.nf_laws.proofs.OneRow.{KeepsId, rising_with, row_itself, row_with}
use Rattle.nf_laws.proofs.Others.{ended_rising, item_gone, row_ended, unless_gone}
use Rattle.nf_laws.proofs.Parts.{rest_of}
use Rattle.nf_laws.proofs.Plain.{filings_droppable, IsPlain}
use Rattle.nf_laws.proofs.Present.{never_trash}
use Rattle.nf_laws.proofs.Purged.{purged_keeps}
use Rattle.nf_laws.proofs.Puts.{AreNumbered, another, closes, fewer, goes_put, number_found, put_changed, put_new, puts_new, under_there, walk_under}
use Rattle.nf_laws.proofs.Rows.{stamp, each_fails, finds_none}
use Rattle.nf_laws.proofs.Trashed.{item_top}
use Rattle.nf_laws.proofs.Walked.{AllPairs-append}
use Rattle.nf_words.proofs.Known.{IsItem, KnownLeaving}
use Rattle.nf_words.proofs.Trashing.{rest_goes}
use Rattle.nf_words.proofs.Ways.{HasRow, inside_there}
use Rattle.nf_words.specs.Prelude.{abandoned, abandons, AreSound, beside, chunk_row, closed_under, deed_done, deeds_done, discard, discarded, dropped_under, ended_row, goes_itself, gone_under, is_chunk_of, is_closing, IsRequoted, item_for, LeadsToRoot, purged, purges, told_deed, told_deeds, told_item, told_node, forgets, forgotten, forgotten_of, forgotten_under, held, upload_row, version_row, versions_of}
use Rattle.nf_words.specs.declared.answer.Deed.{Deed}
use Rattle.nf_words.specs.declared.answer.Deed.TheVariants as deed
use Rattle.nf_base.specs.declared.rows.VersionRow.{VersionRow}
use Rattle.nf_retention.specs.declared.versions.Version.{Version}
use Rattle.nf_laws.proofs.Files.{file_row}
use Rattle.nf_words.proofs.Forgetting.{drop_differs, IsVersion, version_gone}
use Rattle.std.proofs.lemmas.List.Folds.{find-append}
use Rattle.std.proofs.lemmas.List.Concat.{flat_map-cons}

-- ---- what is known of each deed of a step, for what it is told as

-- the row of a node, still as it was before the step, becomes another
pub record Turns (t u : Tables) (node : ℕ) (change : NodeRow → NodeRow) : Type 0 where
  pub row : NodeRow
  pub there : node_row u.nodes node ≡ Some row
  pub was : node_row t.nodes node ≡ Some row
  pub other : change row ≢ row

-- all that is under a node was there before the step
abbrev pub IsOld : Tables → Tables → ℕ → Type 0
IsOld t u top = (node : ℕ) → is_under u.nodes node top ≡ true → HasRow t.nodes node

-- a deed that is done in some tables of a step which began in others, unless it stores changes
abbrev pub IsTold : Tables → Tables → Deed → Type 0
IsTold t u (deed.Discard item) = Turns t u item.node trashed × (IsItem t item.node → ⊥)
IsTold t u (deed.Purge node) = IsOld t u node × (IsItem u node → IsItem t node)
IsTold t u (deed.Restore node folder name) = Turns t u node (relinked folder name) × IsItem t node
IsTold t u (deed.Relink node folder name) = Turns t u node (relinked folder name)
IsTold t u (deed.Join rows) = All (λ (row : NodeRow). row.id < t.meta.next_node) u.nodes × AreNumbered t.meta.next_node rows
IsTold t u (deed.Requote row) = IsRequoted t row
IsTold t u (deed.Forget node at) = is_some (version_row t.versions node at) ≡ true
IsTold t u (deed.Store changes) = ⊥
IsTold t u (deed.Abandon user dir) = is_some (upload_row t.uploads user dir) ≡ true

-- each in the tables after those before it
abbrev pub AreTold : Tables → Tables → List Deed → Type 0
AreTold t u [] = Unit {0}
AreTold t u (one ∷ deeds) = IsTold t u one × AreTold t (deed_done u one) deeds

-- ---- what the tables of a step keep

-- nodes and shares rise, and versions are of nodes that are there
pub record Rise (u : Tables) : Type 0 where
  pub nodes : AllPairs (λ (a b : NodeRow). a.id < b.id) u.nodes
  pub shares : IsRising share_key u.shares
  pub versions : All (λ (version : VersionRow). is_some (node_row u.nodes version.node) ≡ true) u.versions

pub sound_rise : (t : Tables) → AreSound t → Rise t
sound_rise t sound = record {
  nodes = sound.rising;
  shares = sound.others.shares_rise;
  versions = λ k d within.
      let row = file_row t.nodes (get_or t.versions k d).node (sound.others.versions k d within).file in ap is_some row.1;
}

-- a node has a row still where one is another
turned_some : (nodes : List NodeRow) (node : ℕ) (change : NodeRow → NodeRow) → KeepsId change → (other : ℕ) → is_some (node_row nodes other) ≡ true
    → is_some (node_row (with_node nodes node change) other) ≡ true
turned_some nodes node change keeps other there =
    ap is_some (row_with nodes node change keeps other) ∙ here (other == node) (node_row nodes other) ∙ there
  where
    here : (b : Bool) (o : Option NodeRow) → is_some (if b then option_map change o else o) ≡ is_some o
    here true None = refl
    here true (Some row) = refl
    here false o = refl

-- and where some are more
joined_some : (old new : List NodeRow) (node : ℕ) → is_some (node_row old node) ≡ true → is_some (node_row (old ++ new) node) ≡ true
joined_some old new node there =
    let row = some_there (node_row old node) there in
    ap is_some (find-append (λ (one : NodeRow). one.id == node) old new ∙ ap (λ (o : Option NodeRow). option_or o (node_row new node)) row.1)

-- rows with new numbers rise behind those that were there
joined_rise : (first : ℕ) (old new : List NodeRow) → AllPairs (λ (a b : NodeRow). a.id < b.id) old → All (λ (row : NodeRow). row.id < first) old
    → AreNumbered first new → AllPairs (λ (a b : NodeRow). a.id < b.id) (old ++ new)
joined_rise first old new rising below numbered =
    AllPairs-append (λ (a b : NodeRow). a.id < b.id) old new rising
    (λ i j d before within. omega (arith, numbered i d (omega (arith, before, within)), numbered j d within))
    (λ i d within k e also. omega (arith, below i d within, numbered k e also))

-- so they do after a deed
pub done_rise : (t u : Tables) (one : Deed) → IsTold t u one → Rise u → Rise (deed_done u one)
done_rise t u (deed.Discard item) told rise = record {
  nodes = rising_with u.nodes item.node trashed (λ row. refl) rise.nodes;
  shares = ended_rising u (λ node. is_under u.nodes node item.node) rise.shares;
  versions = λ k d within. turned_some u.nodes item.node trashed (λ row. refl) _ (rise.versions k d within);
}
done_rise t u (deed.Purge top) told rise = record {
  nodes = AllPairs-filter (λ a b. a.id < b.id) (λ row. not (is_under u.nodes row.id top)) u.nodes rise.nodes;
  shares = ended_rising u (λ node. is_under u.nodes node top) rise.shares;
  versions = filter_passes (λ (version : VersionRow). is_some (node_row (without_under u.nodes top) version.node)) u.versions;
}
done_rise t u (deed.Restore node folder name) told rise =
    record {
      nodes = rising_with u.nodes node (relinked folder name) (λ row. refl) rise.nodes;
      shares = rise.shares;
      versions = λ k d within. turned_some u.nodes node (relinked folder name) (λ row. refl) _ (rise.versions k d within);
    }
done_rise t u (deed.Relink node folder name) told rise =
    record {
      nodes = rising_with u.nodes node (relinked folder name) (λ row. refl) rise.nodes;
      shares = rise.shares;
      versions = λ k d within. turned_some u.nodes node (relinked folder name) (λ row. refl) _ (rise.versions k d within);
    }
done_rise t u (deed.Join rows) (below, numbered) rise =
    record {
      nodes = joined_rise t.meta.next_node u.nodes rows rise.nodes below numbered;
      shares = rise.shares;
      versions = λ k d within. joined_some u.nodes rows _ (rise.versions k d within);
    }
done_rise t u (deed.Requote row) told rise = record { nodes = rise.nodes; shares = rise.shares; versions = rise.versions }
done_rise t u (deed.Forget node at) told rise = record {
  nodes = rise.nodes;
  shares = rise.shares;
  versions = All-filter (λ (version : VersionRow). not (bytes_eq (node ∷ at ∷ []) (version_key version)))
      (λ (version : VersionRow). is_some (node_row u.nodes version.node) ≡ true) u.versions rise.versions;
}
done_rise t u (deed.Store changes) told rise = absurd told
done_rise t u (deed.Abandon user dir) told rise = record { nodes = rise.nodes; shares = rise.shares; versions = rise.versions }

-- a share that isn't ended is as it was
abbrev pub Unended : Tables → Tables → Type 0
Unended t u = (id : ℕ) (share : ShareRow) → share_row u.shares id ≡ Some share → share.ended ≡ false → share_row t.shares id ≡ Some share

-- where shares are ended, one that isn't is as it was
unended_was : (gone : ℕ → Bool) (shares : List ShareRow) (id : ℕ) (share : ShareRow) → share_row (map (unless_gone gone) shares) id ≡ Some share
    → share.ended ≡ false → share_row shares id ≡ Some share
unended_was gone shares id share is unended =
    let old = map_some (unless_gone gone) (share_row shares id) share (sym (row_ended gone shares id) ∙ is) in
    old.1 ∙ ap Some (here old.0 (gone old.0.node) old.2)
  where
    here : (old : ShareRow) (b : Bool) → (if b then ended_row old else old) ≡ share → old ≡ share
    here old true same = absurd (both_ways share.ended unended (sym (ap (λ (row : ShareRow). row.ended) same)))
    here old false same = same

-- no deed changes it but by ending it
done_unended : (t u : Tables) (one : Deed) → IsTold t u one → Unended t u → Unended t (deed_done u one)
done_unended t u (deed.Discard item) told was = λ id share is unended.
    was id share (unended_was (λ node. is_under u.nodes node item.node) u.shares id share is unended) unended
done_unended t u (deed.Purge top) told was = λ id share is unended.
    was id share (unended_was (λ node. is_under u.nodes node top) u.shares id share is unended) unended
done_unended t u (deed.Restore node folder name) told was = was
done_unended t u (deed.Relink node folder name) told was = was
done_unended t u (deed.Join rows) told was = was
done_unended t u (deed.Requote row) told was = was
done_unended t u (deed.Forget node at) told was = was
done_unended t u (deed.Store changes) told was = absurd told
done_unended t u (deed.Abandon user dir) told was = was

-- each version and each chunk was one before the step
abbrev pub Were : Tables → Tables → Type 0
Were t u = All (λ (version : VersionRow). is_some (version_row t.versions version.node version.at) ≡ true) u.versions × WereChunks t u.chunks

-- no deed makes one
done_were : (t u : Tables) (one : Deed) → IsTold t u one → Were t u → Were t (deed_done u one)
done_were t u (deed.Discard item) told were = were
done_were t u (deed.Purge top) told were = (
  All-filter (λ (version : VersionRow). is_some (node_row (without_under u.nodes top) version.node))
      (λ (version : VersionRow). is_some (version_row t.versions version.node version.at) ≡ true) u.versions were.0,
  were.1,
)
done_were t u (deed.Restore node folder name) told were = were
done_were t u (deed.Relink node folder name) told were = were
done_were t u (deed.Join rows) told were = were
done_were t u (deed.Requote row) told were = were
done_were t u (deed.Forget node at) told were = (
  All-filter (λ (version : VersionRow). not (bytes_eq (node ∷ at ∷ []) (version_key version)))
      (λ (version : VersionRow). is_some (version_row t.versions version.node version.at) ≡ true) u.versions were.0,
  were.1,
)
done_were t u (deed.Store changes) told were = absurd told
done_were t u (deed.Abandon user dir) told were = (
  were.0,
  All-filter (λ (row : ChunkRow). not (is_chunk_of user dir row))
      (λ (row : ChunkRow). is_some (chunk_row t.chunks row.user row.dir row.number) ≡ true) u.chunks were.1,
)

-- ---- the tables with the changes put into them

-- the tables with another meta row, as no deed is told with one
abbrev at_meta : MetaRow → Tables → Tables
at_meta meta u = record u { meta = meta }

-- where a node's row becomes another
node_put : (u : Tables) (node : ℕ) (change : NodeRow → NodeRow) (row : NodeRow) (rest : List Change) → KeepsId change
    → AllPairs (λ (a b : NodeRow). a.id < b.id) u.nodes → node_row u.nodes node ≡ Some row
    → put_all u (told_node (node_row u.nodes node) change ++ rest) ≡ put_all (record u { nodes = with_node u.nodes node change }) rest
node_put u node change row rest keeps rising there =
    ap (λ (o : Option NodeRow). put_all u (told_node o change ++ rest)) there
    ∙ ap (λ (all : List NodeRow). put_all (record u { nodes = all }) rest) (put_changed u.nodes node change row (keeps row) rising there)

-- so for each deed
deed_put : (t u : Tables) (meta : MetaRow) (one : Deed) (rest : List Change) → IsTold t u one → Rise u
    → put_all (at_meta meta u) (told_deed u one ++ rest) ≡ put_all (at_meta meta (deed_done u one)) rest
deed_put t u meta (deed.Discard item) rest (turns, none) rise =
    let first = told_node (node_row u.nodes item.node) trashed in
    let closed = closed_under u.nodes u.shares item.node in
    let binned = with_node u.nodes item.node trashed in
    ap (put_all (at_meta meta u)) (append_assoc first (Put (rows.Item item) ∷ closed) rest)
    ∙ node_put (at_meta meta u) item.node trashed turns.row (Put (rows.Item item) ∷ closed ++ rest) (λ row. refl) rise.nodes turns.there
    ∙ closes (record u { meta = meta; nodes = binned; items = put item_key item u.items }) u.nodes item.node [] u.shares rest rise.shares
deed_put t u meta (deed.Purge node) rest told rise = goes_put (at_meta meta u) node rest rise.nodes rise.shares rise.versions
deed_put t u meta (deed.Restore node folder name) rest (turns, is) rise =
    node_put (record u { meta = meta; items = dropped item_key (node ∷ []) u.items }) node (relinked folder name) turns.row rest (λ row. refl)
    rise.nodes turns.there
deed_put t u meta (deed.Relink node folder name) rest turns rise =
    node_put (at_meta meta u) node (relinked folder name) turns.row rest (λ row. refl) rise.nodes turns.there
deed_put t u meta (deed.Join rows) rest (below, numbered) rise = puts_new (at_meta meta u) u.nodes rows rest t.meta.next_node below numbered
deed_put t u meta (deed.Requote row) rest told rise = refl
deed_put t u meta (deed.Forget node at) rest told rise = refl
deed_put t u meta (deed.Store changes) rest told rise = absurd told
deed_put t u meta (deed.Abandon user dir) rest told rise = abandoned_put (at_meta meta u) user dir rest

-- and one after the other
pub deeds_put : (t u : Tables) (meta : MetaRow) (deeds : List Deed) (rest : List Change) → AreTold t u deeds → Rise u
    → put_all (at_meta meta u) (told_deeds u deeds ++ rest) ≡ put_all (at_meta meta (deeds_done u deeds)) rest
deeds_put t u meta [] rest told rise = refl
deeds_put t u meta (one ∷ deeds) rest told rise =
    let more = told_deeds (deed_done u one) deeds in
    ap (put_all (at_meta meta u)) (append_assoc (told_deed u one) more rest)
    ∙ deed_put t u meta one (more ++ rest) told.0 rise
    ∙ deeds_put t (deed_done u one) meta deeds rest told.1 (done_rise t u one told.0 rise)

-- ---- changes that are one

-- the numbers of nodes were given
all_given : (t : Tables) → AreSound t → All (λ (row : NodeRow). row.id < t.meta.next_node) t.nodes
all_given t sound k d within = (sound.nodes k d within).given

-- a row with a number that wasn't given is one more
new_differs : (t : Tables) (row : NodeRow) → AreSound t → t.meta.next_node ≤ row.id → Differs t (Put (rows.Node row))
new_differs t row sound new = λ same.
    let below = All-weaker (λ (old : NodeRow). old.id < t.meta.next_node) (λ (old : NodeRow). old.id < row.id)
    (λ old given. omega arith) t.nodes (all_given t sound) in
    absurd (omega (arith, ap length (sym (put_new row t.nodes below) ∙ ap (λ (u : Tables). u.nodes) same), length-append t.nodes (row ∷ [])))

-- a changed row of a node is put in its place
turned_differs : (t u : Tables) (node : ℕ) (change : NodeRow → NodeRow) → KeepsId change → AreSound t → (turns : Turns t u node change)
    → Differs t (Put (rows.Node (change turns.row)))
turned_differs t u node change keeps sound turns = λ same.
    another t.nodes (with_node t.nodes node change) node turns.row (change turns.row) turns.was
    (row_itself t.nodes node change keeps ∙ ap (option_map change) turns.was) turns.other
    (sym (put_changed t.nodes node change turns.row (keeps turns.row) sound.rising turns.was) ∙ ap (λ (u : Tables). u.nodes) same)

-- so is what a node's row is told as
node_differs : (t u : Tables) (node : ℕ) (change : NodeRow → NodeRow) → KeepsId change → AreSound t → Turns t u node change
    → All (Differs t) (told_node (node_row u.nodes node) change)
node_differs t u node change keeps sound turns =
    subst (λ (o : Option NodeRow). All (Differs t) (told_node o change)) (sym turns.there)
    (All-cons (Differs t) (Put (rows.Node (change turns.row))) [] (turned_differs t u node change keeps sound turns) (All-nil (Differs t)))

-- a node that was there is dropped
dropped_differs : (t : Tables) (node : ℕ) → HasRow t.nodes node → Differs t (Drop (keys.Node node))
dropped_differs t node (row, there) = λ same.
    fewer (λ other. not (bytes_eq (node ∷ []) (other ∷ []))) t.nodes node (ap is_some there) (rw (eq-eqb node node refl))
    (ap (λ (u : Tables). u.nodes) same)

-- so all that are under a top
under_differ : (t u : Tables) (top : ℕ) → Rise u → IsOld t u top → All (Differs t) (dropped_under u.nodes top)
under_differ t u top rise old =
    All-map (Differs t) (λ node. Drop (keys.Node node)) (walk_of u.nodes top)
    (All-weaker (λ (node : ℕ). is_under u.nodes node top ≡ true) (λ (node : ℕ). Differs t (Drop (keys.Node node)))
    (λ node under. dropped_differs t node (old node under)) (walk_of u.nodes top) (walk_under u.nodes top rise.nodes))

-- a share that ends is another
ended_differs : (t : Tables) (share : ShareRow) → share_row t.shares share.id ≡ Some share → share.ended ≡ false
    → Differs t (Put (rows.Share (ended_row share)))
ended_differs t share there unended = λ same.
    let it : ended_row share ≡ share =
    same_Some (ended_row share) share
    (sym (number_found (λ (row : ShareRow). row.id) (ended_row share) t.shares) ∙ ap (λ (u : Tables). share_row u.shares share.id) same ∙ there) in
    both_ways share.ended unended (sym (ap (λ (row : ShareRow). row.ended) it))

-- and so are those that end with what goes
closed_differ : (t u : Tables) (top : ℕ) → Rise u → Unended t u → All (Differs t) (closed_under u.nodes u.shares top)
closed_differ t u top rise was =
    All-map (Differs t) (λ share. Put (rows.Share (ended_row share))) (filter (is_closing u.nodes top) u.shares)
    (λ k d within.
    let share = get_or (filter (is_closing u.nodes top) u.shares) k d in
    let closing = and_parts (not share.ended) (is_under u.nodes share.node top) (filter_passes (is_closing u.nodes top) u.shares k d within) in
    let unended = not-true share.ended closing.0 in
    let there = All-filter (is_closing u.nodes top) (λ (row : ShareRow). share_row u.shares row.id ≡ Some row) u.shares
    (share_row_each u.shares rise.shares) k d within in
    ended_differs t share (was share.id share there unended) unended)

-- a row of an item is dropped that was there, and one is put of a node that was no item
item_drop_differs : (t : Tables) (node : ℕ) → IsItem t node → Differs t (Drop (keys.Item node))
item_drop_differs t node there = λ same.
    both_ways (is_some (item_row t.items node))
    (sym (ap (λ (u : Tables). is_some (item_row u.items node)) same) ∙ ap is_some (item_gone node t.items)) there

item_put_differs : (t : Tables) (item : ItemRow) → (IsItem t item.node → ⊥) → Differs t (Put (rows.Item item))
item_put_differs t item none = λ same.
    none (sym (ap (λ (u : Tables). is_some (item_row u.items item.node)) same) ∙ ap is_some (number_found (λ (i : ItemRow). i.node) item t.items))

-- a user's row with another quota is another
pub user_differs : (t : Tables) (row : UserRow) → IsRequoted t row → Differs t (Put (rows.User row))
user_differs t row is = λ same.
    is.other (same_Some row is.old
    (sym (number_found (λ (r : UserRow). r.id) row t.users) ∙ ap (λ (u : Tables). user_row u.users row.id) same ∙ is.there))

-- and versions that are dropped
forgotten_differ : (t : Tables) (versions : List VersionRow) (nodes : List ℕ)
    → All (λ (version : VersionRow). is_some (version_row t.versions version.node version.at) ≡ true) versions
    → All (Differs t) (flat_map (forgotten_of versions) nodes)
forgotten_differ t versions [] were = All-nil (Differs t)
forgotten_differ t versions (node ∷ nodes) were =
    subst (All (Differs t)) (sym (flat_map-cons (forgotten_of versions) node nodes))
    (All-append (Differs t) (forgotten_of versions node) (flat_map (forgotten_of versions) nodes)
    (All-map (Differs t) (λ (row : VersionRow). Drop (keys.Version row.node row.at)) (versions_of versions node)
    (λ k d within.
    drop_differs t (held (get_or (versions_of versions node) k d))
    (All-filter (λ (row : VersionRow). row.node == node)
    (λ (version : VersionRow). is_some (version_row t.versions version.node version.at) ≡ true) versions were k d within)))
    (forgotten_differ t versions nodes were))

-- each change of a deed is one, also of the tables before the step
deed_differs : (t u : Tables) (one : Deed) → AreSound t → IsTold t u one → Rise u → Unended t u → Were t u → All (Differs t) (told_deed u one)
deed_differs t u (deed.Discard item) sound (turns, none) rise was were =
    All-append (Differs t) (told_node (node_row u.nodes item.node) trashed) (Put (rows.Item item) ∷ closed_under u.nodes u.shares item.node)
    (node_differs t u item.node trashed (λ row. refl) sound turns)
    (All-cons (Differs t) (Put (rows.Item item)) (closed_under u.nodes u.shares item.node) (item_put_differs t item none)
    (closed_differ t u item.node rise was))
deed_differs t u (deed.Purge node) sound (old, item) rise was were =
    All-append (Differs t) (forgotten_under u.nodes u.versions node) (gone_under u.nodes u.shares node ++ told_item u node)
    (forgotten_differ t u.versions (walk_of u.nodes node) were.0)
    (All-append (Differs t) (gone_under u.nodes u.shares node) (told_item u node)
    (All-append (Differs t) (dropped_under u.nodes node) (closed_under u.nodes u.shares node) (under_differ t u node rise old)
    (closed_differ t u node rise was))
    (cond_both (is_some (item_row u.items node)) (Drop (keys.Item node) ∷ []) [] (All (Differs t))
    (λ e. All-cons (Differs t) (Drop (keys.Item node)) [] (item_drop_differs t node (item e)) (All-nil (Differs t))) (λ e. All-nil (Differs t))))
deed_differs t u (deed.Restore node folder name) sound (turns, item) rise was were =
    All-cons (Differs t) (Drop (keys.Item node)) (told_node (node_row u.nodes node) (relinked folder name)) (item_drop_differs t node item)
    (node_differs t u node (relinked folder name) (λ row. refl) sound turns)
deed_differs t u (deed.Relink node folder name) sound turns rise was were = node_differs t u node (relinked folder name) (λ row. refl) sound turns
deed_differs t u (deed.Join copies) sound (below, numbered) rise was were =
    All-map (Differs t) (λ row. Put (rows.Node row)) copies
    (λ k d within. new_differs t (get_or copies k d) sound (omega (arith, numbered k d within)))
deed_differs t u (deed.Requote row) sound is rise was were =
    All-cons (Differs t) (Put (rows.User row)) [] (user_differs t row is) (All-nil (Differs t))
deed_differs t u (deed.Forget node at) sound is rise was were =
    All-cons (Differs t) (Drop (keys.Version node at)) [] (drop_differs t (record { node = node; at = at; size = 0 }) is) (All-nil (Differs t))
deed_differs t u (deed.Store changes) sound told rise was were = absurd told
deed_differs t u (deed.Abandon user dir) sound told rise was were = abandoned_differs t u user dir were.1 told

-- and so is each of the deeds in turn
pub deeds_differ : (t u : Tables) (deeds : List Deed) → AreSound t → AreTold t u deeds → Rise u → Unended t u → Were t u
    → All (Differs t) (told_deeds u deeds)
deeds_differ t u [] sound told rise was were = All-nil (Differs t)
deeds_differ t u (one ∷ deeds) sound told rise was were =
    All-append (Differs t) (told_deed u one) (told_deeds (deed_done u one) deeds) (deed_differs t u one sound told.0 rise was were)
    (deeds_differ t (deed_done u one) deeds sound told.1 (done_rise t u one told.0 rise) (done_unended t u one told.0 was) (done_were t u one told.0 were))

-- ---- tables that are others

-- a node's row is another or none, or there is another user or another counter of nodes
pub record Lost (t u : Tables) : Type 0 where
  pub node : ℕ
  pub row : NodeRow
  pub was : node_row t.nodes node ≡ Some row
  pub lost : node_row u.nodes node ≢ Some row

-- or a version is gone
pub record LostVersion (t u : Tables) : Type 0 where
  pub node : ℕ
  pub at : ℕ
  pub was : is_some (version_row t.versions node at) ≡ true
  pub lost : version_row u.versions node at ≡ None

-- or an upload
pub record LostUpload (t u : Tables) : Type 0 where
  pub user : ℕ
  pub dir : List ℕ
  pub was : is_some (upload_row t.uploads user dir) ≡ true
  pub lost : upload_row u.uploads user dir ≡ None

abbrev pub AreOther : Tables → Tables → Type 0
AreOther t u = Lost t u ⊎ ((u.users ≢ t.users) ⊎ ((u.meta.next_node ≢ t.meta.next_node) ⊎ (LostVersion t u ⊎ LostUpload t u)))

-- they are so at whatever moment
pub never_same : (t u : Tables) (now : ℕ) → AreOther t u → stamp u now ≢ t
never_same t u now (inl lost) = λ same. lost.lost (ap (λ (v : Tables). node_row v.nodes lost.node) same ∙ lost.was)
never_same t u now (inr (inl other)) = λ same. other (ap (λ (v : Tables). v.users) same)
never_same t u now (inr (inr (inl other))) = λ same. other (ap (λ (v : Tables). v.meta.next_node) same)
never_same t u now (inr (inr (inr (inl gone)))) = λ same.
    both_ways (is_some (version_row t.versions gone.node gone.at))
    (ap (λ (v : Tables). is_some (version_row v.versions gone.node gone.at)) (sym same) ∙ ap is_some gone.lost) gone.was
never_same t u now (inr (inr (inr (inr gone)))) = λ same.
    both_ways (is_some (upload_row t.uploads gone.user gone.dir))
    (ap (λ (v : Tables). is_some (upload_row v.uploads gone.user gone.dir)) (sym same) ∙ ap is_some gone.lost) gone.was

-- a version that is gone is gone where others go
lost_filter : (test : VersionRow → Bool) (versions : List VersionRow) (node at : ℕ) → version_row versions node at ≡ None
    → version_row (filter test versions) node at ≡ None
lost_filter test versions node at none =
    finds_none (λ (row : VersionRow). row.node == node && row.at == at) (filter test versions)
    (All-filter test (λ (row : VersionRow). (row.node == node && row.at == at) ≡ false) versions
    (each_fails (λ (row : VersionRow). row.node == node && row.at == at) versions none))

-- what goes for good doesn't bring back what was
purged_other : (t u : Tables) (top : ℕ) → AreOther t u → AreOther t (purged u top)
purged_other t u top (inl lost) = inl (record {
  node = lost.node;
  row = lost.row;
  was = lost.was;
  lost = λ is. lost.lost (kept_left u.nodes top lost.node lost.row is).1;
})
purged_other t u top (inr (inl other)) = inr (inl other)
purged_other t u top (inr (inr (inl other))) = inr (inr (inl other))
purged_other t u top (inr (inr (inr (inl gone)))) = inr (inr (inr (inl (record {
  node = gone.node;
  at = gone.at;
  was = gone.was;
  lost = lost_filter (λ version. is_some (node_row (without_under u.nodes top) version.node)) u.versions gone.node gone.at gone.lost;
}))))
purged_other t u top (inr (inr (inr (inr gone)))) =
    inr (inr (inr (inr (record { user = gone.user; dir = gone.dir; was = gone.was; lost = gone.lost }))))

-- nor does a version that goes
pub forgotten_other : (t u : Tables) (node at : ℕ) → AreOther t u → AreOther t (forgotten u node at)
forgotten_other t u node at (inl lost) = inl (record { node = lost.node; row = lost.row; was = lost.was; lost = lost.lost })
forgotten_other t u node at (inr (inl other)) = inr (inl other)
forgotten_other t u node at (inr (inr (inl other))) = inr (inr (inl other))
forgotten_other t u node at (inr (inr (inr (inl gone)))) = inr (inr (inr (inl (record {
  node = gone.node;
  at = gone.at;
  was = gone.was;
  lost = lost_filter (λ version. not (bytes_eq (node ∷ at ∷ []) (version_key version))) u.versions gone.node gone.at gone.lost;
}))))
forgotten_other t u node at (inr (inr (inr (inr gone)))) =
    inr (inr (inr (inr (record { user = gone.user; dir = gone.dir; was = gone.was; lost = gone.lost }))))

pub forgets_other : (t u : Tables) (gone : List Version) → AreOther t u → AreOther t (deeds_done u (forgets gone))
forgets_other t u [] other = other
forgets_other t u (version ∷ gone) other =
    forgets_other t (forgotten u version.node version.at) gone (forgotten_other t u version.node version.at other)

-- and it makes other tables
pub forgotten_lost : (t u : Tables) (version : Version) → IsVersion t version → AreOther t (forgotten u version.node version.at)
forgotten_lost t u version there = inr (inr (inr (inl (record {
  node = version.node;
  at = version.at;
  was = there;
  lost = version_gone u.versions version.node version.at;
}))))

-- nor does an upload that goes
abandoned_other : (t u : Tables) (user : ℕ) (dir : List ℕ) → AreOther t u → AreOther t (abandoned u user dir)
abandoned_other t u user dir (inl lost) = inl (record { node = lost.node; row = lost.row; was = lost.was; lost = lost.lost })
abandoned_other t u user dir (inr (inl other)) = inr (inl other)
abandoned_other t u user dir (inr (inr (inl other))) = inr (inr (inl other))
abandoned_other t u user dir (inr (inr (inr (inl gone)))) =
    inr (inr (inr (inl (record { node = gone.node; at = gone.at; was = gone.was; lost = gone.lost }))))
abandoned_other t u user dir (inr (inr (inr (inr gone)))) = inr (inr (inr (inr (record {
  user = gone.user;
  dir = gone.dir;
  was = gone.was;
  lost = upload_lost u.uploads (user ∷ length dir ∷ dir) gone.user gone.dir gone.lost;
}))))

pub abandons_other : (t u : Tables) (gone : List UploadRow) → AreOther t u → AreOther t (deeds_done u (abandons gone))
abandons_other t u [] other = other
abandons_other t u (row ∷ gone) other =
    abandons_other t (abandoned u row.user row.dir) gone (abandoned_other t u row.user row.dir other)

-- and it makes other tables
pub abandoned_lost : (t u : Tables) (user : ℕ) (dir : List ℕ) → is_some (upload_row t.uploads user dir) ≡ true → AreOther t (abandoned u user dir)
abandoned_lost t u user dir there = inr (inr (inr (inr (record {
  user = user;
  dir = dir;
  was = there;
  lost = upload_gone u.uploads user dir;
}))))

pub abandons_told : (t u : Tables) (gone : List UploadRow) → All (λ (row : UploadRow). is_some (upload_row t.uploads row.user row.dir) ≡ true) gone
    → AreTold t u (abandons gone)
abandons_told t u [] there = tt
abandons_told t u (row ∷ gone) there =
    let There : UploadRow → Type 0 = λ row. is_some (upload_row t.uploads row.user row.dir) ≡ true in
    (All-head There row gone there, abandons_told t (abandoned u row.user row.dir) gone (All-tail There row gone there))

-- ---- versions that go behind other deeds

pub forgets_told : (t u : Tables) (gone : List Version) → All (IsVersion t) gone → AreTold t u (forgets gone)
forgets_told t u [] there = tt
forgets_told t u (version ∷ gone) there =
    (All-head (IsVersion t) version gone there, forgets_told t (forgotten u version.node version.at) gone (All-tail (IsVersion t) version gone there))

pub told_append : (t u : Tables) (xs ys : List Deed) → AreTold t u xs → AreTold t (deeds_done u xs) ys → AreTold t u (xs ++ ys)
told_append t u [] ys first second = second
told_append t u (x ∷ xs) ys first second = (first.0, told_append t (deed_done u x) xs ys first.1 second)

-- nor does all that goes, one after the other
pub purges_other : (t u : Tables) (gone : List ℕ) → AreOther t u → AreOther t (deeds_done u (purges gone))
purges_other t = purged_keeps (AreOther t) (purged_other t)

-- a node's row is another, where it was turned into one
pub turned_lost : (t u : Tables) (node : ℕ) (change : NodeRow → NodeRow) (items : List ItemRow) → KeepsId change → Turns t u node change
    → Lost t (record u { nodes = with_node u.nodes node change; items = items })
turned_lost t u node change items keeps turns = record {
  node = node;
  row = turns.row;
  was = turns.was;
  lost = λ is.
      turns.other (same_Some (change turns.row) turns.row
      (sym (row_itself u.nodes node change keeps ∙ ap (option_map change) turns.there) ∙ is));
}

-- and it is none, where that goes
pub purged_lost : (t : Tables) (node : ℕ) (row : NodeRow) → node_row t.nodes node ≡ Some row → Lost t (purged t node)
purged_lost t node row was = record {
  node = node;
  row = row;
  was = was;
  lost = λ is. absurd (none-some row (sym (row_gone t.nodes node node (climb_under 0 t.nodes node node (omega arith) refl)) ∙ is));
}

-- ---- no more than was there

-- each node was there, and in the folder that it is in
pub record Fewer (u w : Tables) : Type 0 where
  pub there : (node : ℕ) → HasRow w.nodes node → HasRow u.nodes node
  pub up : (node parent : ℕ) → parent_of w.nodes node ≡ Some parent → parent_of u.nodes node ≡ Some parent

-- so it climbed to what it climbs to
climb_fewer : (u w : Tables) → Fewer u w → (j node top : ℕ) → climb w.nodes j node ≡ Some top → climb u.nodes j node ≡ Some top
climb_fewer u w fewer zero node top is = is
climb_fewer u w fewer (suc j) node top is =
    option_and_then_some (climb w.nodes j) (parent_of w.nodes node) top is (λ parent above rest.
    ap (option_and_then (climb u.nodes j)) (fewer.up node parent above) ∙ climb_fewer u w fewer j parent top rest)

-- so without what goes for good
pub purged_fewer : (u : Tables) (top : ℕ) → Fewer u (purged u top)
purged_fewer u top = record {
  there = λ node h. (h.0, (kept_left u.nodes top node h.0 h.1).1);
  up = λ node parent is.
      let row = inside_there (purged u top).nodes node parent is in
      ap (option_and_then (λ row. folder_of row.place)) ((kept_left u.nodes top node row.0 row.1).1 ∙ sym row.1) ∙ is;
}

-- a node whose row is another was there
pub turned_there : (u : Tables) (node : ℕ) (change : NodeRow → NodeRow) → KeepsId change → (other : ℕ) → HasRow (with_node u.nodes node change) other
    → HasRow u.nodes other
turned_there u node change keeps other (row, there) = here (other == node) (node_row u.nodes other) refl (sym (row_with u.nodes node change keeps other) ∙ there)
  where
    here : (b : Bool) (o : Option NodeRow) → node_row u.nodes other ≡ o → (if b then option_map change o else o) ≡ Some row → HasRow u.nodes other
    here b (Some old) e is = (old, e)
    here true None e is = absurd (none-some row is)
    here false None e is = absurd (none-some row is)

-- and with what is put in the trash
pub discarded_fewer : (u : Tables) (item : ItemRow) → Fewer u (discarded u item)
discarded_fewer u item = record {
  there = turned_there u item.node trashed (λ row. refl);
  up = λ node parent is.
      here (node == item.node) (node_row u.nodes node) parent
      (sym (ap (option_and_then (λ row. folder_of row.place)) (row_with u.nodes item.node trashed (λ row. refl) node)) ∙ is);
}
  where
    here : (b : Bool) (o : Option NodeRow) (parent : ℕ)
        → option_and_then (λ row. folder_of row.place) (if b then option_map trashed o else o) ≡ Some parent
        → option_and_then (λ row. folder_of row.place) o ≡ Some parent
    here true None parent is = is
    here true (Some row) parent is = absurd (none-some parent is)
    here false o parent is = is

-- whichever
pub discard_fewer : (t u : Tables) (now : ℕ) (row : NodeRow) → Fewer u (deed_done u (discard t now row))
discard_fewer t u now row =
    cond_both (goes_itself t now row) (deed.Purge row.id) (deed.Discard (item_for now row)) (λ (one : Deed). Fewer u (deed_done u one))
    (λ e. purged_fewer u row.id) (λ e. discarded_fewer u (item_for now row))

-- nor is another number given
pub discard_next : (t u : Tables) (now : ℕ) (row : NodeRow) → (deed_done u (discard t now row)).meta.next_node ≡ u.meta.next_node
discard_next t u now row =
    cond_both (goes_itself t now row) (deed.Purge row.id) (deed.Discard (item_for now row))
    (λ (one : Deed). (deed_done u one).meta.next_node ≡ u.meta.next_node) (λ e. refl) (λ e. refl)

-- ---- what is new is under none of these

-- a node that wasn't there before the step climbs to none of some others
abbrev pub NewApart : Tables → (ℕ → Type 0) → Tables → Type 0
NewApart t Tops u = (node : ℕ) → HasRow u.nodes node → HasRow t.nodes node ⊎ ((j top : ℕ) → Tops top → climb u.nodes j node ≢ Some top)

-- with no more than was there what is new stays apart
pub apart_fewer : (t : Tables) (Tops : ℕ → Type 0) (u w : Tables) → Fewer u w → NewApart t Tops u → NewApart t Tops w
apart_fewer t Tops u w fewer apart node there =
    elim (apart node (fewer.there node there)) [
      | inl was ↦ inl was
      | inr never ↦ inr (λ j top tops is. never j top tops (climb_fewer u w fewer j node top is))
    ]

-- so all that is under one of them was there
pub apart_old : (t : Tables) (Tops : ℕ → Type 0) (u : Tables) (top : ℕ) → NewApart t Tops u → Tops top → HasRow t.nodes top → IsOld t u top
apart_old t Tops u top apart tops there node under = let c = under_climb u.nodes node top under in here c.0 c.2
  where
    here : (j : ℕ) → climb u.nodes j node ≡ Some top → HasRow t.nodes node
    here zero is = subst (HasRow t.nodes) (sym (same_Some node top is)) there
    here (suc j) is =
        option_and_then_some (climb u.nodes j) (parent_of u.nodes node) top is (λ parent above rest.
        elim (apart node (inside_there u.nodes node parent above)) [ inl was ↦ was | inr never ↦ absurd (never (suc j) top tops is) ])

-- ---- items that go

-- the last deeds of a step that makes other tables
abbrev pub Tells : Tables → Tables → List Deed → Type 0
Tells t u deeds = AreTold t u deeds × AreOther t (deeds_done u deeds)

-- where what is new is under no item that was there, the items that go are told
pub items_told : (t : Tables) (Tops : ℕ → Type 0) (u : Tables) (gone : List ℕ) → AreSound t → ((node : ℕ) → IsItem t node → Tops node)
    → All (IsItem t) gone → NewApart t Tops u → AreTold t u (purges gone)
items_told t Tops u [] sound tops items apart = tt
items_told t Tops u (node ∷ gone) sound tops items apart =
    let is = All-head (IsItem t) node gone items in
    let top = item_top t node sound is in (
      (apart_old t Tops u node apart (tops node is) (top.0, top.1), λ still. is),
      items_told t Tops (purged u node) gone sound tops (All-tail (IsItem t) node gone items)
          (apart_fewer t Tops u (purged u node) (purged_fewer u node) apart),
    )

-- where no node is new
pub items_tell : (t u : Tables) (gone : List ℕ) → AreSound t → All (IsItem t) gone → ((node : ℕ) → HasRow u.nodes node → HasRow t.nodes node)
    → AreOther t u → Tells t u (purges gone)
items_tell t u gone sound items there other =
    (items_told t (IsItem t) u gone sound (λ node is. is) items (λ node has. inl (there node has)), purges_other t u gone other)

-- ---- what leaves its place

-- the row of what is put in the trash is another, and so is that of what comes back
trashed_other : (row : NodeRow) (folder : ℕ) → row.place ≡ Inside folder → trashed row ≢ row
trashed_other row folder inside = λ same. let is : Trash ≡ Inside folder = ap (λ (r : NodeRow). r.place) same ∙ inside in cc

pub back_other : (row : NodeRow) (folder : ℕ) (name : List ℕ) → row.place ≡ Trash → relinked folder name row ≢ row
back_other row folder name trash = λ same. let is : Inside folder ≡ Trash = ap (λ (r : NodeRow). r.place) same ∙ trash in cc

-- what is present is no item
present_none : (t : Tables) (node : ℕ) → AreSound t → LeadsToRoot t.nodes node → IsItem t node → ⊥
present_none t node sound present is =
    let top = item_top t node sound is in never_trash 0 t.nodes node node top.0 present refl top.1 top.2

-- it is told in other tables than those in which it was decided how, where its row is the same and what is under it was there
pub leaving_told : (t u : Tables) (now : ℕ) (row : NodeRow) → AreSound t → KnownLeaving t row → node_row u.nodes row.id ≡ Some row → IsOld t u row.id
    → (IsItem u row.id → IsItem t row.id) → IsTold t u (discard t now row)
leaving_told t u now row sound known there old item =
    cond_both (goes_itself t now row) (deed.Purge row.id) (deed.Discard (item_for now row)) (λ (one : Deed). IsTold t u one) (λ e. (old, item))
    (λ e. (
      record { row = row; there = there; was = known.there; other = trashed_other row known.folder known.inside },
      present_none t row.id sound known.present,
    ))

-- so in those themselves
pub leaving_here : (t : Tables) (now : ℕ) (row : NodeRow) → AreSound t → KnownLeaving t row → IsTold t t (discard t now row)
leaving_here t now row sound known =
    leaving_told t t now row sound known known.there
    (λ node under. some_there (node_row t.nodes node) (under_there t.nodes node row.id (ap is_some known.there) under)) (λ is. is)

-- and its row is another then, or none
leaving_other : (t : Tables) (now : ℕ) (row : NodeRow) → AreSound t → KnownLeaving t row → AreOther t (deed_done t (discard t now row))
leaving_other t now row sound known =
    cond_both (goes_itself t now row) (deed.Purge row.id) (deed.Discard (item_for now row)) (λ (one : Deed). AreOther t (deed_done t one))
    (λ e. inl (purged_lost t row.id row known.there))
    (λ e. inl (record {
      node = row.id;
      row = row;
      was = known.there;
      lost = λ is.
          trashed_other row known.folder known.inside
          (same_Some (trashed row) row (sym (row_itself t.nodes row.id trashed (λ row. refl) ∙ ap (option_map trashed) known.there) ∙ is));
    }))

-- with what goes beside it
pub leaving_tells : (t : Tables) (now : ℕ) (row : NodeRow) → AreSound t → KnownLeaving t row → Tells t t (discard t now row ∷ beside t now row)
leaving_tells t now row sound known =
    let more = items_tell t (deed_done t (discard t now row)) (rest_of t now row) sound (rest_goes t sound now row known).items
    (discard_fewer t t now row).there (leaving_other t now row sound known) in
    ((leaving_here t now row sound known, more.0), more.1)

-- ---- the meta row is never dropped

-- where a node's row becomes another
row_droppable : (o : Option NodeRow) (change : NodeRow → NodeRow) → All IsDroppable (told_node o change)
row_droppable None change = All-nil IsDroppable
row_droppable (Some row) change = All-cons IsDroppable (Put (rows.Node (change row))) [] tt (All-nil IsDroppable)

-- where shares end
closed_droppable : (nodes : List NodeRow) (shares : List ShareRow) (top : ℕ) → All IsDroppable (closed_under nodes shares top)
closed_droppable nodes shares top =
    All-map IsDroppable (λ share. Put (rows.Share (ended_row share))) (filter (is_closing nodes top) shares) (λ k d within. tt)

-- where versions go
forgotten_droppable : (versions : List VersionRow) (nodes : List ℕ) → All IsDroppable (flat_map (forgotten_of versions) nodes)
forgotten_droppable versions [] = All-nil IsDroppable
forgotten_droppable versions (node ∷ nodes) =
    subst (All IsDroppable) (sym (flat_map-cons (forgotten_of versions) node nodes))
    (All-append IsDroppable (forgotten_of versions node) (flat_map (forgotten_of versions) nodes)
    (All-map IsDroppable (λ (row : VersionRow). Drop (keys.Version row.node row.at)) (versions_of versions node) (λ k d within is. cc))
    (forgotten_droppable versions nodes))

-- by no deed
deed_droppable : (t : Tables) (one : Deed) → IsPlain one → All IsDroppable (told_deed t one)
deed_droppable t (deed.Discard item) plain =
    All-append IsDroppable (told_node (node_row t.nodes item.node) trashed) (Put (rows.Item item) ∷ closed_under t.nodes t.shares item.node)
    (row_droppable (node_row t.nodes item.node) trashed)
    (All-cons IsDroppable (Put (rows.Item item)) (closed_under t.nodes t.shares item.node) tt (closed_droppable t.nodes t.shares item.node))
deed_droppable t (deed.Purge node) plain =
    All-append IsDroppable (forgotten_under t.nodes t.versions node) (gone_under t.nodes t.shares node ++ told_item t node)
    (forgotten_droppable t.versions (walk_of t.nodes node))
    (All-append IsDroppable (gone_under t.nodes t.shares node) (told_item t node)
    (All-append IsDroppable (dropped_under t.nodes node) (closed_under t.nodes t.shares node)
    (All-map IsDroppable (λ node. Drop (keys.Node node)) (walk_of t.nodes node) (λ k d within is. cc)) (closed_droppable t.nodes t.shares node))
    (cond_both (is_some (item_row t.items node)) (Drop (keys.Item node) ∷ []) [] (All IsDroppable)
    (λ e. All-cons IsDroppable (Drop (keys.Item node)) [] (λ is. cc) (All-nil IsDroppable)) (λ e. All-nil IsDroppable)))
deed_droppable t (deed.Restore node folder name) plain =
    All-cons IsDroppable (Drop (keys.Item node)) (told_node (node_row t.nodes node) (relinked folder name)) (λ is. cc)
    (row_droppable (node_row t.nodes node) (relinked folder name))
deed_droppable t (deed.Relink node folder name) plain = row_droppable (node_row t.nodes node) (relinked folder name)
deed_droppable t (deed.Join copies) plain = All-map IsDroppable (λ row. Put (rows.Node row)) copies (λ k d within. tt)
deed_droppable t (deed.Requote row) plain = All-cons IsDroppable (Put (rows.User row)) [] tt (All-nil IsDroppable)
deed_droppable t (deed.Forget node at) plain = All-cons IsDroppable (Drop (keys.Version node at)) [] (λ is. cc) (All-nil IsDroppable)
deed_droppable t (deed.Store changes) plain = filings_droppable changes plain
deed_droppable t (deed.Abandon user dir) plain = abandoned_droppable t user dir

-- nor by those after it
pub deeds_droppable : (t : Tables) (deeds : List Deed) → All IsPlain deeds → All IsDroppable (told_deeds t deeds)
deeds_droppable t [] plain = All-nil IsDroppable
deeds_droppable t (one ∷ deeds) plain =
    All-append IsDroppable (told_deed t one) (told_deeds (deed_done t one) deeds) (deed_droppable t one (All-head IsPlain one deeds plain))
    (deeds_droppable (deed_done t one) deeds (All-tail IsPlain one deeds plain))
