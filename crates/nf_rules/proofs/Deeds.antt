-- Tables that keep the rules keep them with each deed of a step, where no quota that it gives is beyond the greatest.
use Rattle.std.proofs.Common.{◌≡◌, ℕ, ◌≤◌, ◌==◌, inl, inr, Bool, true, not, List, [], ◌∷◌, ◌++◌, map, Option, None, Some, refl, sym, ap, ◌∙◌, subst, arith, bytes_eq}
use Rattle.std.specs.Prelude.{unwrap_or}
use Rattle.std.specs.List.{All}
use Rattle.std.specs.Option.{option_map_or}
use Rattle.std.proofs.lemmas.Bool.{and_from, cases_Bool, cond_both, eq-eqb}
use Rattle.std.proofs.lemmas.List.{map-id}
use Rattle.std.proofs.lemmas.List.Elements.{All-append, All-cons, All-filter, All-head, All-map, All-nil, All-tail}
use Rattle.nf_base.specs.declared.limits.TheConstants.{MAX_QUOTA}
use Rattle.nf_base.specs.declared.rows.ItemRow.{ItemRow}
use Rattle.nf_base.specs.declared.rows.NodeRow.{NodeRow}
use Rattle.nf_base.specs.declared.rows.Place.{Place}
use Rattle.nf_base.specs.declared.rows.ShareRow.{ShareRow}
use Rattle.nf_base.specs.declared.rows.UploadRow.{UploadRow}
use Rattle.nf_base.specs.declared.rows.UserRow.{UserRow}
use Rattle.nf_defs.proofs.Puts.{all_put}
use Rattle.nf_defs.specs.Prelude.{folder_of, is_under, item_key, node_row, put, relinked, Tables, user_key, user_row}
use Rattle.nf_defs.specs.Tree.{trashed}
use Rattle.nf_laws.proofs.Copied.{old_joined}
use Rattle.nf_laws.proofs.Each.{NoStore}
use Rattle.nf_laws.proofs.Going.{purged_rest}
use Rattle.nf_laws.proofs.Gone.{row_gone, row_left}
use Rattle.nf_laws.proofs.InTurn.{deed_moment, Fit, fit_sound, InTurn, Joins}
use Rattle.nf_laws.proofs.OneRow.{value_with}
use Rattle.nf_laws.proofs.Others.{stamp_sound, unless_gone}
use Rattle.nf_laws.proofs.Parts.{deeds_stamped, step_turn}
use Rattle.nf_laws.proofs.Puts.{number_found}
use Rattle.nf_laws.proofs.Rows.{folder_there, found_is, none_higher, row_is, stamp}
use Rattle.nf_laws.specs.Numbers.{AreHigher}
use Rattle.nf_words.proofs.Known.{KnownDeeds, KnownLeaving, KnownSettled}
use Rattle.nf_words.proofs.Known.KnownDeeds.{by_abandoning, by_copying, by_crossing, by_going, by_joining, by_leaving, by_moving, by_requoting, by_restoring, by_sweeping}
use Rattle.nf_words.specs.Prelude.{abandoned, abandons, AreSound, beside, besides, copies_to, deed_done, deeds_done, discard, discarded, discards, goes_itself, IsPlaceSound, IsRequoted, item_for, joined, purged, purges, restored, row_at, forgotten, forgets}
use Rattle.nf_words.specs.declared.answer.Deed.{Deed}
use Rattle.nf_words.specs.declared.answer.Deed.TheVariants as deed
use Rattle.nf_rules.specs.Ruled.{AreOrdered, IsItemRuled}
use Rattle.nf_rules.specs.Rules.{is_folder_for, is_from_kept, is_user}
use Rattle.nf_rules.proofs.After.{user_was}
use Rattle.nf_rules.proofs.Items.{items_stay}
use Rattle.nf_rules.proofs.Kept.{ended_ruled, ends_if}
use Rattle.nf_rules.proofs.Peopled.{quota_ruled}
use Rattle.nf_laws.proofs.Behind.{behind_only}
use Rattle.nf_retention.specs.declared.versions.Version.{Version}

-- where no share ends
none_ends : (t : Tables) → t.shares ≡ map (λ (share : ShareRow). share) t.shares
none_ends t = sym (map-id t.shares)

-- ---- what goes for good

-- without a node, and what is under it, the folder of an item is as it was, or gone
from_left : (t : Tables) (node : ℕ) (item : ItemRow) → is_from_kept t item ≡ true → is_from_kept (purged t node) item ≡ true
from_left t node item kept =
    elim (cases_Bool (is_under t.nodes item.from node)) [
      | inl goes ↦ ap kept_in (row_gone t.nodes node item.from goes)
      | inr stays ↦ ap kept_in (row_left t.nodes node item.from stays) ∙ kept
    ]
  where
    kept_in : Option NodeRow → Bool
    kept_in o = option_map_or (is_folder_for item) o true

purged_ruled : (t : Tables) (node : ℕ) → AreOrdered t → AreSound (purged t node) → AreOrdered (purged t node)
purged_ruled t node h sound =
    let made : Tables = purged t node in
    let up = none_higher t.meta t.meta.last in
    ended_ruled t made (unless_gone (λ other. is_under t.nodes other node))
    (λ share. ends_if (is_under t.nodes share.node node) share) h sound up refl refl
    (All-filter (λ (item : ItemRow). not (bytes_eq (node ∷ []) (item_key item))) (IsItemRuled made) t.items
    (items_stay t made h up (λ item given kept. from_left t node item kept)))

-- ---- what is put in the trash

-- it was in a folder of its owner's
module _ (t : Tables) (now : ℕ) (row : NodeRow) (h : AreOrdered t) (known : KnownLeaving t row) where
  abbrev item : ItemRow
  item = item_for now row

  abbrev binned : Tables
  binned = discarded t item

  -- the folder of an item, which may be what is put there, is of the kind and the owner that it was
  from_binned : (other : ItemRow) → is_from_kept binned other ≡ is_from_kept t other
  from_binned other = value_with (is_folder_for other) true t.nodes item.node trashed (λ r. refl) (λ r. refl) other.from

  user : is_user t item.owner ≡ true
  user = (found_is (λ (r : NodeRow). is_user t r.owner ≡ true) (λ (r : NodeRow). r.id == row.id) t.nodes row h.owners known.there).1

  from : item.from ≡ known.folder
  from = ap (λ (place : Place). unwrap_or (folder_of place) 0) known.inside

  new_item : IsItemRuled binned item
  new_item =
      let itself = row_is t row.id row h.sound known.there in
      let place = subst (IsPlaceSound t row) known.inside itself.1.place in
      let folder = folder_there t.nodes known.folder place.0 in
      let parent = row_is t known.folder folder.0 h.sound folder.1 in
      let theirs : folder.0.owner ≡ item.owner =
      sym (ap (λ (o : Option NodeRow). option_map_or (λ (r : NodeRow). r.owner) o 0) folder.1) ∙ place.1 in
      record {
        node = record { first = itself.1.some; below = itself.1.given };
        owner = user_was t item.owner h user;
        from = record { first = omega (arith, from, parent.0, parent.1.some); below = omega (arith, from, parent.0, parent.1.given) };
        kept = from_binned item
            ∙ ap (λ (o : Option NodeRow). option_map_or (is_folder_for item) o true) (ap (node_row t.nodes) from ∙ folder.1)
            ∙ and_from _ _ folder.2 (eq-eqb folder.0.owner item.owner theirs);
      }

  discarded_ruled : AreSound binned → AreOrdered binned
  discarded_ruled sound =
      let up = none_higher t.meta t.meta.last in
      ended_ruled t binned (unless_gone (λ other. is_under t.nodes other item.node))
      (λ share. ends_if (is_under t.nodes share.node item.node) share) h sound up refl refl
      (all_put item_key (IsItemRuled binned) item t.items new_item
      (items_stay t binned h up (λ other given kept. from_binned other ∙ kept)))

-- ---- what comes to another place

-- the folder of an item, which may be what comes there, is of the kind and the owner that it was
from_placed : (t : Tables) (node folder : ℕ) (name : List ℕ) (item : ItemRow)
    → is_from_kept (deed_done t (deed.Relink node folder name)) item ≡ is_from_kept t item
from_placed t node folder name item =
    value_with (is_folder_for item) true t.nodes node (relinked folder name) (λ r. refl) (λ r. refl) item.from

relinked_ruled : (t : Tables) (node folder : ℕ) (name : List ℕ) → AreOrdered t
    → (let made = deed_done t (deed.Relink node folder name) in AreSound made → AreOrdered made)
relinked_ruled t node folder name h sound =
    let made : Tables = deed_done t (deed.Relink node folder name) in
    let up = none_higher t.meta t.meta.last in
    ended_ruled t made (λ share. share) (λ share. inl refl) h sound up (none_ends t) refl
    (items_stay t made h up (λ item given kept. from_placed t node folder name item ∙ kept))

-- what comes back is no item any more
restored_ruled : (t : Tables) (node folder : ℕ) (name : List ℕ) → AreOrdered t
    → (let made = restored t node folder name in AreSound made → AreOrdered made)
restored_ruled t node folder name h sound =
    let made : Tables = restored t node folder name in
    let up = none_higher t.meta t.meta.last in
    ended_ruled t made (λ share. share) (λ share. inl refl) h sound up (none_ends t) refl
    (All-filter (λ (item : ItemRow). not (bytes_eq (node ∷ []) (item_key item))) (IsItemRuled made) t.items
    (items_stay t made h up (λ item given kept. from_placed t node folder name item ∙ kept)))

-- ---- copies

-- they are new, so no folder of an item is one of them
joined_ruled : (t : Tables) (now : ℕ) (rows : List NodeRow) → AreOrdered t → Joins t now rows → AreSound (joined t rows) → AreOrdered (joined t rows)
joined_ruled t now rows h joins sound =
    let made : Tables = joined t rows in
    let up : AreHigher t.meta made.meta =
    record { users = omega arith; groups = omega arith; nodes = omega arith; shares = omega arith; blobs = omega arith } in
    ended_ruled t made (λ share. share) (λ share. inl refl) h sound up (none_ends t) refl
    (items_stay t made h up (λ item given kept.
    ap (λ (o : Option NodeRow). option_map_or (is_folder_for item) o true)
    (old_joined t now joins.transfer joins.name rows joins.mirrors t.nodes item.from given.below) ∙ kept))

-- ---- quotas

-- no user's quota is beyond the greatest
abbrev pub AreModest : Tables → Type 0
AreModest t = All (λ (row : UserRow). row.quota ≤ MAX_QUOTA) t.users

-- nor is one that is given
requoted_ruled : (t : Tables) (row : UserRow) → AreOrdered t → IsRequoted t row → row.quota ≤ MAX_QUOTA
    → (let made = deed_done t (deed.Requote row) in AreSound made → AreOrdered made)
requoted_ruled t row h is modest sound =
    let made : Tables = deed_done t (deed.Requote row) in
    let up = none_higher t.meta t.meta.last in
    let id : row.id ≡ is.old.id = ap (λ (r : UserRow). r.id) is.same in
    quota_ruled t made t.meta.last h sound up (items_stay t made h up (λ item given kept. kept)) row.quota is.old
    (ap (user_row t.users) (sym id) ∙ is.there) modest
    (ap (λ (r : UserRow). record t { users = put user_key r t.users }) is.same)

-- no quota that the deed gives is beyond the greatest; of one that stores changes that isn't told here
abbrev IsModestDeed : Deed → Type 0
IsModestDeed (deed.Requote row) = row.quota ≤ MAX_QUOTA
IsModestDeed (deed.Store changes) = ⊥
IsModestDeed other = Unit {0}

abbrev AreModestDeeds : List Deed → Type 0
AreModestDeeds deeds = All IsModestDeed deeds

-- most deeds give none
modest_purges : (nodes : List ℕ) → AreModestDeeds (purges nodes)
modest_purges nodes = All-map IsModestDeed (λ (node : ℕ). deed.Purge node) nodes (λ k d within. tt)

modest_then : (one : Deed) (deeds : List Deed) → IsModestDeed one → AreModestDeeds deeds → AreModestDeeds (one ∷ deeds)
modest_then one deeds first rest = All-cons IsModestDeed one deeds first rest

module _ (t : Tables) (now : ℕ) where
  modest_discard : (row : NodeRow) → IsModestDeed (discard t now row)
  modest_discard row =
      cond_both (goes_itself t now row) (deed.Purge row.id) (deed.Discard (item_for now row)) IsModestDeed (λ e. tt) (λ e. tt)

  modest_discards : (o : Option NodeRow) (deeds : List Deed) → AreModestDeeds deeds
      → AreModestDeeds (option_map_or (λ row. discard t now row ∷ []) o [] ++ deeds)
  modest_discards None deeds rest = rest
  modest_discards (Some row) deeds rest = modest_then (discard t now row) deeds (modest_discard row) rest

  modest_besides : (o : Option NodeRow) → AreModestDeeds (option_map_or (beside t now) o [])
  modest_besides None = All-nil IsModestDeed
  modest_besides (Some row) = modest_purges _

  -- what gives one is the first of the deeds, and no user is another after it
  modest_deeds : (deeds : List Deed) → KnownDeeds t now deeds → All NoStore deeds → AreModest (deeds_done t deeds) → AreModestDeeds deeds
  modest_deeds _ (by_going nodes goes) none modest = modest_purges nodes
  modest_deeds _ (by_leaving row known) none modest = modest_then (discard t now row) (beside t now row) (modest_discard row) (modest_purges _)
  modest_deeds _ (by_restoring node folder name gone known goes others) none modest =
      modest_then (deed.Restore node folder name) (purges gone) tt (modest_purges gone)
  modest_deeds _ (by_requoting row gone known goes) none modest =
      let users = ap (λ (u : Tables). u.users) (purged_rest (deed_done t (deed.Requote row)) gone) in
      modest_then (deed.Requote row) (purges gone)
      (found_is (λ (r : UserRow). r.quota ≤ MAX_QUOTA) (λ (r : UserRow). r.id == row.id) (put user_key row t.users) row
      (subst (All (λ (r : UserRow). r.quota ≤ MAX_QUOTA)) users modest) (number_found (λ (r : UserRow). r.id) row t.users)).1
      (modest_purges gone)
  modest_deeds _ (by_moving transfer name known) none modest =
      let one = deed.Relink transfer.node transfer.folder name in
      modest_discards (row_at t transfer.replaced) (one ∷ besides t now transfer.replaced)
      (modest_then one (besides t now transfer.replaced) tt (modest_besides (row_at t transfer.replaced)))
  modest_deeds _ (by_copying transfer name known) none modest =
      let one = deed.Join (copies_to t now transfer name) in
      modest_discards (row_at t transfer.replaced) (one ∷ besides t now transfer.replaced)
      (modest_then one (besides t now transfer.replaced) tt (modest_besides (row_at t transfer.replaced)))
  modest_deeds _ (by_crossing transfer name known) none modest =
      let one = deed.Join (copies_to t now transfer name) in
      let from = row_at t (Some transfer.node) in
      let rest = besides t now transfer.replaced ++ besides t now (Some transfer.node) in
      modest_discards (row_at t transfer.replaced) (one ∷ (discards t now (Some transfer.node) ++ rest))
      (modest_then one (discards t now (Some transfer.node) ++ rest) tt
      (modest_discards from rest
      (All-append IsModestDeed (besides t now transfer.replaced) (besides t now (Some transfer.node))
      (modest_besides (row_at t transfer.replaced)) (modest_besides from))))
  modest_deeds _ (by_joining changes user dir known there) none modest =
      absurd (All-head NoStore (deed.Store changes) (deed.Abandon user dir ∷ []) none)
  modest_deeds _ (by_abandoning user dir there) none modest = modest_then (deed.Abandon user dir) [] tt (All-nil IsModestDeed)
  modest_deeds _ (by_sweeping nodes rows goes idle) none modest =
      All-append IsModestDeed (purges nodes) (abandons rows) (modest_purges nodes)
      (All-map IsModestDeed (λ (row : UploadRow). deed.Abandon row.user row.dir) rows (λ k d within. tt))

-- ---- versions

forgotten_ruled : (t : Tables) (node at : ℕ) → AreOrdered t → AreSound (forgotten t node at) → AreOrdered (forgotten t node at)
forgotten_ruled t node at h sound =
    let made = forgotten t node at in
    let up = none_higher t.meta t.meta.last in
    ended_ruled t made (λ share. share) (λ share. inl refl) h sound up (none_ends t) refl (items_stay t made h up (λ item given kept. kept))

-- ---- uploads

abandoned_ruled : (t : Tables) (user : ℕ) (dir : List ℕ) → AreOrdered t → AreSound (abandoned t user dir) → AreOrdered (abandoned t user dir)
abandoned_ruled t user dir h sound =
    let made = abandoned t user dir in
    let up = none_higher t.meta t.meta.last in
    ended_ruled t made (λ share. share) (λ share. inl refl) h sound up (none_ends t) refl (items_stay t made h up (λ item given kept. kept))

-- what the first of some have
all_first : {X : Type 0} (P : X → Type 0) (xs ys : List X) → All P (xs ++ ys) → All P xs
all_first P [] ys all = All-nil P
all_first P (x ∷ xs) ys all = All-cons P x xs (All-head P x (xs ++ ys) all) (all_first P xs ys (All-tail P x (xs ++ ys) all))

-- those that go give no quota
modest_settled : (t : Tables) (now : ℕ) (deeds : List Deed) → KnownSettled t now deeds → All NoStore deeds → AreModest (deeds_done t deeds)
    → AreModestDeeds deeds
modest_settled t now deeds known none modest =
    let users = ap (λ (u : Tables). u.users) (ap (deeds_done t) known.are ∙ behind_only t known.first known.gone) in
    subst AreModestDeeds (sym known.are)
    (All-append IsModestDeed known.first (forgets known.gone)
    (modest_deeds t now known.first known.known
    (all_first NoStore known.first (forgets known.gone) (subst (All NoStore) known.are none)) (subst (All (λ (row : UserRow). row.quota ≤ MAX_QUOTA)) users modest))
    (All-map IsModestDeed (λ (version : Version). deed.Forget version.node version.at) known.gone (λ k d within. tt)))

-- ---- a deed, and those of a step

deed_ruled : (t : Tables) (now : ℕ) (one : Deed) → AreOrdered t → Fit t now one → IsModestDeed one → AreSound (deed_done t one)
    → AreOrdered (deed_done t one)
deed_ruled t now (deed.Discard _) h (row, known, is) modest sound =
    subst (λ (i : ItemRow). AreSound (discarded t i) → AreOrdered (discarded t i)) (sym is) (discarded_ruled t now row h known) sound
deed_ruled t now (deed.Purge node) h fit modest sound = purged_ruled t node h sound
deed_ruled t now (deed.Restore node folder name) h fit modest sound = restored_ruled t node folder name h sound
deed_ruled t now (deed.Relink node folder name) h fit modest sound = relinked_ruled t node folder name h sound
deed_ruled t now (deed.Join rows) h joins modest sound = joined_ruled t now rows h joins sound
deed_ruled t now (deed.Requote row) h is modest sound = requoted_ruled t row h is modest sound
deed_ruled t now (deed.Forget node at) h fit modest sound = forgotten_ruled t node at h sound
deed_ruled t now (deed.Store changes) h fit modest sound = absurd modest
deed_ruled t now (deed.Abandon of dir) h fit modest sound = abandoned_ruled t of dir h sound

deeds_ruled : (t : Tables) (now : ℕ) (deeds : List Deed) → AreOrdered t → t.meta.last ≡ now → InTurn t now deeds → AreModestDeeds deeds
    → AreOrdered (deeds_done t deeds)
deeds_ruled t now [] h at turn modest = h
deeds_ruled t now (one ∷ deeds) h at turn modest =
    deeds_ruled (deed_done t one) now deeds
    (deed_ruled t now one h turn.0 (All-head IsModestDeed one deeds modest) (fit_sound t now one h.sound at turn.0))
    (deed_moment t one ∙ at) turn.1 (All-tail IsModestDeed one deeds modest)

-- a later moment changes nothing else
stamp_ruled : (t : Tables) (now : ℕ) → AreOrdered t → t.meta.last ≤ now → AreOrdered (stamp t now)
stamp_ruled t now h later =
    let up = none_higher t.meta now in
    ended_ruled t (stamp t now) (λ share. share) (λ share. inl refl) h (stamp_sound t now h.sound later) up (none_ends t) refl
    (items_stay t (stamp t now) h up (λ item given kept. kept))

-- with the deeds of a step done the tables keep the rules, where none stores changes
pub step_ruled : (t : Tables) (now : ℕ) (deeds : List Deed) → AreOrdered t → t.meta.last ≤ now → KnownSettled t now deeds → All NoStore deeds
    → (let made = stamp (deeds_done t deeds) now in AreModest made → AreOrdered made)
step_ruled t now deeds h later known none modest =
    subst AreOrdered (deeds_stamped t now deeds)
    (deeds_ruled (stamp t now) now deeds (stamp_ruled t now h later) refl (step_turn t now deeds h.sound later known)
    (modest_settled t now deeds known none modest))
