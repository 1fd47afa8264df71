-- What is known of a Begin that no rule refuses.
use Rattle.std.proofs.Common.{◌≡◌, ℕ, ◌+◌, ◌<◌, ◌≤◌, ◌==◌, ◌||◌, ◌&&◌, not, inl, Bool, true, false, List, [], ◌∷◌, ◌++◌, map, Option, option_map, Ok, if◌then◌else◌, refl, sym, ap, subst, ◌∙◌, arith}
use Rattle.std.specs.Prelude.{None, Some, is_some}
use Rattle.std.specs.List.{All}
use Rattle.std.specs.Option.{IfSome, option_and_then, option_map_or, option_or}
use Rattle.std.proofs.lemmas.Bool.{both_ways, eqb-true}
use Rattle.std.proofs.lemmas.List.Elements.{All-head, All-nil}
use Rattle.std.proofs.lemmas.Option.{none-some, same_Some}
use Rattle.nf_access.proofs.LookUps.{find_among}
use Rattle.nf_access.specs.Mounts.{mount_at, root_folder}
use Rattle.nf_access.specs.Shares.{is_link, share_row}
use Rattle.nf_base.specs.declared.limits.TheConstants.{MAX_BODY}
use Rattle.nf_base.specs.declared.perms.Act.{Act}
use Rattle.nf_base.specs.declared.perms.Act.TheVariants.{Create, Update}
use Rattle.nf_base.specs.declared.rows.NodeKind.TheVariants.{Folder}
use Rattle.nf_base.specs.declared.rows.NodeRow.{NodeRow}
use Rattle.nf_base.specs.declared.rows.ShareRow.{ShareRow}
use Rattle.nf_base.specs.declared.rows.UserRow.{UserRow}
use Rattle.nf_defs.specs.Prelude.{child_of, content_of, depth, is_folder, is_folder_kind, is_root, is_root_place, node_row, owner_of, Tables}
use Rattle.nf_defs.specs.declared.Found.{Found}
use Rattle.nf_defs.specs.declared.Found.TheVariants.{At, Free, Missing}
use Rattle.nf_defs.specs.declared.Seeker.{Seeker}
use Rattle.nf_defs.specs.declared.Seeker.TheVariants.{User}
use Rattle.nf_words.proofs.Fits.{new_known, within}
use Rattle.nf_words.proofs.Found.{found_has, found_passes}
use Rattle.nf_words.proofs.Known.{alone, IsItem, Known, KnownDeeds, KnownLeaving}
use Rattle.nf_words.proofs.Forgetting.{AreTwo, IsVersion, no_pairs}
use Rattle.nf_words.proofs.Versioned.{versions_known}
use Rattle.nf_words.proofs.Uploaded.{abandoned_known, begun_known, joined_known, sent_known}
use Rattle.nf_words.proofs.Known.KnownDeeds.{by_going, by_leaving}
use Rattle.nf_words.proofs.Mounting.{IsFreeName, left_known, renamed_known}
use Rattle.nf_words.proofs.Passing.{acts_pass, call_passes, exists_passes, no_fault, no_limit, no_upload_fault, Passes, PlacePasses, place_passes, no_rule}
use Rattle.nf_words.proofs.Starts.{has_asker, IsAsking, itself_asker, link_found, link_mount, link_seeks, only_files, root_is, row_of_caller, user_root, user_seeks}
use Rattle.nf_words.proofs.Starts.IsAsking.{by_link, by_user}
use Rattle.nf_words.proofs.Transfers.{copied_known, fit_parts, moved_known, off, row_leaves}
use Rattle.nf_words.proofs.Ways.{bounded, free_no_mount, node_present, slot_known, slot_present, way_there}
use Rattle.nf_words.specs.Asked.{asked_about}
use Rattle.nf_words.specs.Calls.{link_by}
use Rattle.nf_words.specs.declared.request.Caller.{Caller}
use Rattle.nf_words.specs.declared.request.Caller.TheVariants.{Link}
use Rattle.nf_words.specs.History.{IsInBounds, IsShort}
use Rattle.nf_words.specs.Prelude.{access_of, AreSound, asked_of, asked_of_trash, asker_of, assembled_limit, beside, by_of, Call, call_decision, caller_row, deleted, discard, fault_by, fault_with, folder_seen, found, given, is_about_files, is_by_link, is_free_in, IsLinkTo, IsNodeSound, is_off_mount, is_owner, is_root_at, IsSound, is_taken, is_there, is_within, items_of, last_name, limit_at, limit_by, limited, limit_rule, linked_of, link_of, listing_of, made_folder, may_by, MayWant, mount_left, mount_of, mount_renamed, moved, named_rule, Need, needs, needs_between, needs_in, node_at, node_found, nothing_done, opened_by, own_item, people_done, people_limit, places_by, places_of, purges, requoted, room_rule, root_of, row_at, row_named, seeker_of, served, sharing_rule, stored, taken, target_rule, transfer_between, transfer_of, trash_done, unfit, unfit_between, unnamed_by, unopened, unreached, upload_done, upload_rule, user_of, version_lost, version_rule, way_by, way_of, ways_for}
use Rattle.nf_words.specs.Needed.{target_needs}
use Rattle.nf_words.specs.Sound.{MayStoreBy}
use Rattle.nf_words.specs.declared.answer.Allowed.{Allowed}
use Rattle.nf_words.specs.declared.answer.Allowed.TheVariants as allowed
use Rattle.nf_words.specs.declared.answer.Denial.{Denial}
use Rattle.nf_words.specs.declared.answer.TargetFault.{TargetFault}
use Rattle.nf_words.specs.declared.answer.TargetFault.TheVariants as target
use Rattle.nf_words.specs.declared.request.Making.TheVariants as making
use Rattle.nf_words.specs.declared.request.Places.{Places}
use Rattle.nf_words.specs.declared.request.Spot.{Spot}
use Rattle.nf_words.specs.declared.request.Wanted.{Wanted}
use Rattle.nf_words.specs.declared.request.Wanted.TheVariants.{Get, Put, Mkcol, Delete, Move, Copy, Share, People, Trash, Upload, Version}
use Rattle.nf_words.specs.declared.request.ShareAsk.{ShareAsk}
use Rattle.nf_words.specs.declared.request.ShareAsk.TheVariants as ask
use Rattle.nf_words.proofs.Provided.{not_taken, people_known, row_there}
use Rattle.nf_words.specs.declared.answer.Breach.TheVariants as rule
use Rattle.nf_words.proofs.Asks.{asks_known, nothing_known}
use Rattle.nf_words.proofs.Trashing.{dropped_known, emptied_known, requoted_known, restored_known}
use Rattle.nf_words.specs.declared.request.PeopleAsk.{PeopleAsk}
use Rattle.nf_words.specs.declared.request.TrashAsk.{TrashAsk}
use Rattle.nf_words.specs.declared.request.PeopleAsk.TheVariants as people
use Rattle.nf_words.specs.declared.request.TrashAsk.TheVariants as trash
use Rattle.nf_words.specs.declared.request.UploadAsk.{UploadAsk}
use Rattle.nf_words.specs.declared.request.UploadAsk.TheVariants as upload

passed : (b : Bool) (fault : TargetFault) → (if b then Some fault else None) ≡ None → b ≡ false
passed true fault none = absurd (cc)
passed false fault none = refl

unless : (b : Bool) (refusal : Denial) → (if b then Some refusal else None) ≡ None → b ≡ false
unless true refusal none = absurd (cc)
unless false refusal none = refl

-- ---- one path

-- a call by who is there, and a path by whose mount who asks is reached
module _ (call : Call) (spot : Spot) (sound : AreSound call.state.tables) (is : IsAsking call)
    (reached : unreached (access_of call.state) call (way_of call spot) ≡ None) where
  abbrev t : Tables
  t = call.state.tables

  served_known : (place : Found) → found call spot ≡ place
      → Known t call.now (served (access_of call.state) call (way_of call spot).mount (node_at (Some place)))
  served_known (At node) leads = here (is_folder t.nodes node) refl
    where
      here : (folds : Bool) → is_folder t.nodes node ≡ folds
          → Known t call.now (if folds then allowed.List (listing_of (access_of call.state) call (way_of call spot).mount node)
          else allowed.Get node (content_of t.nodes node))
      here true folds = tt
      here false folds = record {
        no_folder = folds;
        of_node = inl refl;
        there = way_there call spot sound is node reached leads;
        present = node_present call spot sound is node reached leads;
      }
  served_known nowhere leads = tt

  -- a user who stores by no mount may do so as the owner
  owner_may : (act : Act) (node : ℕ) (mount : Option ℕ)
      → may_by (access_of call.state) t.nodes (User (asker_of call)) call.now act node mount ≡ true → MayStoreBy t (User (asker_of call)) mount node
  owner_may act node (Some mount) may = tt
  owner_may act node None may = here (node_row t.nodes node) refl (alone (is_owner t.nodes (User (asker_of call)) node) may)
    where
      alone : (b : Bool) → (b || false) ≡ true → b ≡ true
      alone true may = refl
      alone false may = absurd (cc)

      here : (o : Option NodeRow) → node_row t.nodes node ≡ o → option_map_or (λ row. row.owner == asker_of call) o false ≡ true
          → MayStoreBy t (User (asker_of call)) None node
      here None e own = absurd (cc)
      here (Some of) e own =
          let fine = subst (λ (o : Option NodeRow). IfSome o (IsNodeSound t)) e
          (found_has (IsNodeSound t) (λ (row : NodeRow). row.id == node) t.nodes sound.nodes) in
          let id : of.id ≡ node = eqb-true of.id node (found_passes (λ (row : NodeRow). row.id == node) t.nodes of e) in
          record {
            given = subst (λ (n : ℕ). n < t.meta.next_node) id fine.given;
            owner = λ row there. ap (λ (r : NodeRow). r.owner) (same_Some row of (sym there ∙ e)) ∙ eqb-true of.owner (asker_of call) own;
          }

  -- whoever stores by a link does so by what that is of
  link_to : (share : ShareRow) → is_by_link call.request.caller ≡ true → link_of call ≡ Some share → IsLinkTo t (linked_of call) (root_of call)
  link_to share by there = here call.request.caller there
    where
      here : (who : Caller) → link_by call.state who ≡ Some share → IsLinkTo t (linked_of call) (root_of call)
      here (Link token) found =
          let among = (find_among (λ (row : ShareRow). is_link token row.kind) t.shares share found).0 in
          let number : linked_of call ≡ share.id = ap (λ (o : Option ShareRow). option_map_or (λ row. row.id) o 0) there in
          record {
            row = share;
            there = ap (share_row t.shares) number ∙ (bounded t sound).numbered share among;
            link = link_found t.shares token share found;
            leads = sym (ap (λ (o : Option ShareRow). option_map_or (λ row. row.node) o (option_map_or (λ row. row.root) (caller_row call) 0)) there);
          }
      here other found = absurd (none-some share found)

  -- each of some needs may be met
  abbrev May : Need → Type 0
  May need = may_by (access_of call.state) t.nodes (seeker_of call) call.now need.act need.node need.mount ≡ true

  abbrev MayAll : List Need → Type 0
  MayAll needs = All May needs

  -- who may do what storing needs may store
  storer_may : (act : Act) (node : ℕ) → MayAll (needs act (Some node) (way_of call spot).mount)
      → MayStoreBy t (seeker_of call) (way_of call spot).mount node
  storer_may act node may = here is
    where
      mount : Option ℕ
      mount = (way_of call spot).mount

      of : (o : Option ℕ) → (way_by t.nodes (seeker_of call) (root_of call) spot.path o).mount ≡ o
      of None = refl
      of (Some other) = refl

      here : IsAsking call → MayStoreBy t (seeker_of call) mount node
      here (by_user row asks) =
          let user = user_seeks call row asks in
          subst (λ (s : Seeker). MayStoreBy t s mount node) (sym user)
          (owner_may act node mount
          (subst (λ (s : Seeker). may_by (access_of call.state) t.nodes s call.now act node mount ≡ true) user
          (All-head May (record { act = act; node = node; mount = mount }) [] may)))
      here (by_link share by there) =
          let goes : mount ≡ Some (root_of call) = of (mount_of call spot) ∙ link_mount call spot by in
          subst (λ (o : Option ℕ). MayStoreBy t (seeker_of call) o node) (sym goes)
          (subst (λ (s : Seeker). MayStoreBy t s (Some (root_of call)) node) (sym (link_seeks call by)) (link_to share by there))

  granted_known : (length : ℕ) (inside : Bool) (place : Found) → length ≤ MAX_BODY → found call spot ≡ place
      → is_there (is_folder t.nodes) (Some place) ≡ false
      → MayAll (target_needs (making.File length) t.nodes (root_of call) inside (way_of call spot))
      → Known t call.now (stored (by_of call spot) (last_name spot) length (Some place))
  granted_known length inside (Missing found) short leads file may = tt
  granted_known length inside (At node) short leads file may =
      let there = way_there call spot sound is node reached leads in
      let asked : target_needs (making.File length) t.nodes (root_of call) inside (way_of call spot) ≡ needs Update (Some node) (way_of call spot).mount =
      ap (λ (place : Found). if is_some (node_found place) then needs Update (node_found place) (way_of call spot).mount
      else needs_in t.nodes (root_of call) (way_of call spot)) leads in
      record {
        short = short;
        held = rw there.1 (no_file there.0 (subst (λ (o : Option NodeRow). option_map_or (λ row. is_folder_kind row.kind) o false ≡ false) there.1 file));
        present = node_present call spot sound is node reached leads;
        storer = storer_may Update node (subst MayAll asked may);
      }
    where
      no_file : (row : NodeRow) → is_folder_kind row.kind ≡ false → not (is_folder_kind row.kind) ≡ true
      no_file row none = ap not none
  granted_known length inside (Free folder) short leads file may =
      let slot = slot_known call spot sound is folder reached leads in
      record {
        short = short;
        held = (slot.folds, slot.free);
        present = slot_present call spot sound is folder reached leads;
        storer = storer_may Create folder (subst MayAll (made ∙ in_folder) may);
      }
    where
      made : target_needs (making.File length) t.nodes (root_of call) inside (way_of call spot) ≡ needs_in t.nodes (root_of call) (way_of call spot)
      made =
          ap (λ (place : Found). if is_some (node_found place) then needs Update (node_found place) (way_of call spot).mount
          else needs_in t.nodes (root_of call) (way_of call spot)) leads

      in_folder : needs_in t.nodes (root_of call) (way_of call spot) ≡ needs Create (Some folder) (way_of call spot).mount
      in_folder =
          ap (λ (b : Bool). needs Create
          (if b then Some (root_of call) else option_or (folder_seen t.nodes (root_of call) (found call spot)) (node_found (found call spot)))
          (if b then None else (way_of call spot).mount)) (free_no_mount call spot sound is folder leads)
          ∙ ap (λ (place : Found). needs Create (option_or (folder_seen t.nodes (root_of call) place) (node_found place)) (way_of call spot).mount) leads

  folder_known : (place : Found) → found call spot ≡ place → limit_at t 0 place ≡ None
      → Known t call.now (made_folder t call.now (last_name spot) (Some place))
  folder_known (At node) leads some = tt
  folder_known (Free folder) leads some =
      let slot = slot_known call spot sound is folder reached leads in
      new_known t call.now folder (last_name spot) Folder [] None 0 [] sound slot.folds (slot_present call spot sound is folder reached leads) slot.free
      slot.unmounted
      (within t 1 (depth t.nodes folder + 1) 0 0 0 some) (omega arith) (inl refl) (λ _. refl) (All-nil (IsVersion t)) (no_pairs AreTwo)
  folder_known (Missing found) leads some = tt

  -- what is deleted is in a folder: it is no root, and present
  pub deleted_leaves : (place : Found) → found call spot ≡ place → is_there (λ node. node == root_of call || is_root t.nodes node) (Some place) ≡ false
      → (row : NodeRow) → row_at t (node_at (Some place)) ≡ Some row → KnownLeaving t row
  deleted_leaves (At node) leads fits row there =
      row_leaves t row node there (off (node == root_of call) (is_root t.nodes node) fits) (node_present call spot sound is node reached leads)
  deleted_leaves nowhere leads fits row there = absurd (none-some row there)

  deleted_known : (place : Found) → found call spot ≡ place → is_there (λ node. node == root_of call || is_root t.nodes node) (Some place) ≡ false
      → Known t call.now (deleted t call.now (node_at (Some place)))
  deleted_known place leads fits = alone t call.now _ (here (row_at t (node_at (Some place))) refl)
    where
      here : (o : Option NodeRow) → row_at t (node_at (Some place)) ≡ o
          → KnownDeeds t call.now (option_map_or (λ row. discard t call.now row ∷ []) o [] ++ option_map_or (beside t call.now) o [])
      here None e = by_going [] (record { items = All-nil (IsItem t); once = λ i j d before within. absurd (omega (arith, within)) })
      here (Some row) e = by_leaving row (deleted_leaves place leads fits row e)

-- ---- a mount that gets another name

-- the target is a free name in the caller's root, where no rule refuses that
free_name : (call : Call) (source target : Spot) (row : UserRow) → AreSound call.state.tables → caller_row call ≡ Some row
    → unreached (access_of call.state) call (way_of call target) ≡ None
    → unfit_between call.state.tables.nodes (root_of call) true (record { source = Some (way_of call source); target = Some (way_of call target) }) ≡ None
    → IsFreeName call.state.tables (asker_of call) (last_name target)
free_name call source target row sound is reached fits =
    here (found call target) refl (not_false (is_free_in (root_of call) (found call target)) (fit_parts t.nodes false
    (is_off_mount (root_of call) true (way_of call target))
    (transfer_between t.nodes (root_of call) (record { source = Some (way_of call source); target = Some (way_of call target) })) fits).on)
  where
    t : Tables
    t = call.state.tables

    not_false : (b : Bool) → not b ≡ false → b ≡ true
    not_false true h = refl
    not_false false h = absurd (cc)

    here : (place : Found) → found call target ≡ place → is_free_in (root_of call) place ≡ true → IsFreeName t (asker_of call) (last_name target)
    here (Free folder) leads free =
        let slot = slot_known call target sound (by_user row is) folder reached leads in
        let root = root_is call row sound is in
        let same : folder ≡ root_of call = eqb-true folder (root_of call) free in
        let asks : row.id ≡ asker_of call = sym (ap (λ (o : Option UserRow). option_map_or (λ row. row.id) o 0) is) in
        let known = (row_of_caller t.users (user_of call) row is).1 in
        let of_user : root_of call ≡ root_folder t.users (asker_of call) =
        user_root call row is ∙ sym (ap (λ (o : Option UserRow). option_map_or (λ row. row.root) o 0) known) ∙ ap (root_folder t.users) asks in
        let owner : owner_of t.nodes folder ≡ asker_of call =
        ap (owner_of t.nodes) same ∙ ap (λ (o : Option NodeRow). option_map_or (λ row. row.owner) o 0) root.there ∙ root.owner ∙ asks in
        let rooted : is_root t.nodes folder ≡ true =
        ap (is_root t.nodes) same ∙ ap (λ (o : Option NodeRow). option_map_or (λ row. is_root_place row.place) o false) root.there
        ∙ ap is_root_place root.place in
        record {
          free = ap (λ (n : ℕ). child_of t.nodes n (last_name target)) (sym (same ∙ of_user)) ∙ slot.free;
          apart = ap (λ (n : ℕ). mount_at t.mounts n (last_name target)) (sym owner) ∙ slot.unmounted rooted;
        }
    here place leads free = absurd (cc)

-- ---- what is wanted

-- where the paths of something wanted lead
abbrev pub places_at : Call → Wanted → Places
places_at call wanted = places_by (asked_of wanted) (ways_for call (asked_of wanted))

-- where the path of what is removed leads, unless it is that of a mount itself
abbrev pub only_at : Bool → Found → Places
only_at itself place = if itself then record { source = None; target = None } else record { source = Some place; target = None }

-- what passes the rules, by what is wanted
pub record WantedPasses (call : Call) (wanted : Wanted) : Type 0 where
  pub led : places_of call ≡ places_at call wanted
  pub bounds : IsInBounds wanted
  pub files : is_by_link call.request.caller ≡ true → is_about_files wanted ≡ true
  pub short : IsShort (asked_of wanted).makes
  pub place : PlacePasses (access_of call.state) call (asked_of wanted)
  pub may : All (λ (need : Need). may_by (access_of call.state) call.state.tables.nodes (seeker_of call) call.now need.act need.node need.mount ≡ true)
      (needs_between call.state.tables.nodes (root_of call) (asked_of wanted) (option_map (way_of call) (asked_of wanted).source)
      (option_map (way_of call) (asked_of wanted).target))
  pub named : unnamed_by call wanted ≡ None
  pub version : version_lost call wanted ≡ None
  pub opened : unopened call wanted ≡ None
  pub unmade : opened_by call wanted ≡ None
  pub free : taken call.state.tables.nodes (places_at call wanted) (asked_of wanted).makes ≡ None
  pub fits : unfit call.state.tables.nodes (root_of call) (asked_of wanted) (ways_for call (asked_of wanted)) ≡ None
  pub few : limited call.state.tables (places_at call wanted) (asked_of wanted).makes ≡ None
  pub sharing : fault_by (access_of call.state) call wanted ≡ None
  pub upload : fault_with call wanted ≡ None
  pub room : limit_by call wanted ≡ None

module _ (call : Call) (sound : AreSound call.state.tables) (is : IsAsking call) where
  abbrev all : Tables
  all = call.state.tables

  abbrev IsKnown : Allowed → Type 0
  IsKnown act = Known all call.now act

  delete_known : (spot : Spot) (b : Bool) → (way_of call spot).itself ≡ b
      → (b ≡ false → unreached (access_of call.state) call (way_of call spot) ≡ None)
      → (if not b && is_root_at all.nodes (root_of call) (Some (way_of call spot)) then Some target.Root else None) ≡ None
      → IsKnown (if b then mount_left call (way_of call spot)
      else deleted all call.now (node_at (only_at b (found call spot)).source))
  delete_known spot true itself reached fits = left_known call spot sound itself
  delete_known spot false itself reached fits = deleted_known call spot sound is (reached refl) (found call spot) refl (passed _ _ fits)

  -- who leaves by that
  pub delete_leaves : (spot : Spot) (b : Bool) → (b ≡ false → unreached (access_of call.state) call (way_of call spot) ≡ None)
      → (if not b && is_root_at all.nodes (root_of call) (Some (way_of call spot)) then Some target.Root else None) ≡ None
      → (row : NodeRow) → row_at all (node_at (only_at b (found call spot)).source) ≡ Some row → KnownLeaving all row
  delete_leaves spot true reached fits row there = absurd (none-some row there)
  delete_leaves spot false reached fits row there = deleted_leaves call spot sound is (reached refl) (found call spot) refl (passed _ _ fits) row there

  move_known : (source to : Spot) (b : Bool) → (way_of call source).itself ≡ b
      → (b ≡ false → unreached (access_of call.state) call (way_of call source) ≡ None)
      → unreached (access_of call.state) call (way_of call to) ≡ None
      → unfit_between all.nodes (root_of call) b (record { source = Some (way_of call source); target = Some (way_of call to) }) ≡ None
      → limited all (if b then record { source = None; target = None } else record { source = Some (found call source); target = Some (found call to) })
      making.Moved ≡ None
      → IsKnown (if b then mount_renamed call (way_of call source) (last_name to)
      else moved all call.now (last_name to)
      (transfer_of all.nodes (if b then record { source = None; target = None } else record { source = Some (found call source); target = Some (found call to) })))
  move_known source to true itself from_reached to_reached fits some =
      let asker = itself_asker call source is itself in
      renamed_known call source sound (last_name to) itself (free_name call source to asker.0 sound asker.1 to_reached fits)
  move_known source to false itself from_reached to_reached fits some =
      moved_known call source to sound is (from_reached refl) to_reached fits some

  -- what is asked about shares leaves what is at its path, so that its mount is tested
  of_place : (asked : ShareAsk) → PlacePasses (access_of call.state) call (asked_about asked)
      → (spot : Spot) → (asked_about asked).source ≡ Some spot → unreached (access_of call.state) call (way_of call spot) ≡ None
  of_place (ask.New spot name perms until) p other same =
      subst (λ (s : Spot). unreached (access_of call.state) call (way_of call s) ≡ None) (same_Some spot other same) (p.source refl)
  of_place (ask.List None with_me) p other same = absurd (cc)
  of_place (ask.List (Some spot) with_me) p other same =
      subst (λ (s : Spot). unreached (access_of call.state) call (way_of call s) ≡ None) (same_Some spot other same) (p.source refl)
  of_place asked p other same = absurd (cc)

  -- what isn't about files is asked by a user
  not_files : (wanted : Wanted) → WantedPasses call wanted → is_about_files wanted ≡ false → (row : UserRow) × (caller_row call ≡ Some row)
  not_files wanted p other = here is
    where
      here : IsAsking call → (row : UserRow) × (caller_row call ≡ Some row)
      here (by_user row asks) = (row, asks)
      here (by_link share by there) = absurd (both_ways (is_about_files wanted) other (p.files by))

  -- what is asked about users and groups, a quota among it
  persons_known : (asked : PeopleAsk) → is_taken all asked ≡ false → people_limit all asked ≡ None → IsKnown (people_done all call.now asked)
  persons_known (people.SetQuota user quota) free few = here (row_named all user) refl
    where
      here : (o : Option UserRow) → row_named all user ≡ o → IsKnown (option_map_or (requoted all call.now quota) o nothing_done)
      here None e = nothing_known all call.now
      here (Some row) e = requoted_known all sound call.now quota row (row_there all call.now sound user row e)
  persons_known (people.NewUser name token quota) free few = people_known all call.now (people.NewUser name token quota) sound free few
  persons_known (people.NewGroup name) free few = people_known all call.now (people.NewGroup name) sound free few
  persons_known (people.AddMember user group) free few = people_known all call.now (people.AddMember user group) sound free few
  persons_known (people.DropMember user group) free few = people_known all call.now (people.DropMember user group) sound free few
  persons_known (people.AddToken user token) free few = people_known all call.now (people.AddToken user token) sound free few

  trash_known : (asked : TrashAsk) → limited all (places_at call (Trash asked)) (asked_of_trash asked).makes ≡ None → IsKnown (trash_done call asked)
  trash_known (trash.List user) few = nothing_known all call.now
  trash_known (trash.Drop user item) few = dropped_known all sound call.now (asker_of call) item (own_item call item) refl
  trash_known (trash.Empty user) few =
      alone all call.now (purges (map (λ item. item.node) (items_of all (asker_of call)))) (emptied_known all sound call.now (asker_of call))
  trash_known (trash.Restore user item) few = restored_known all sound call.now (asker_of call) item (own_item call item) refl few

  upload_known : (asked : UploadAsk) → WantedPasses call (Upload asked) → IsKnown (upload_done call (places_at call (Upload asked)) asked)
  upload_known (upload.New user dir to) p =
      let asker = not_files (Upload (upload.New user dir to)) p refl in begun_known call asker.0 sound asker.1 dir to p.unmade p.room
  upload_known (upload.Chunk user dir name to length) p =
      let asker = not_files (Upload (upload.Chunk user dir name to length)) p refl in sent_known call asker.0 sound asker.1 dir name length p.bounds
  upload_known (upload.Drop user dir) p =
      let asker = not_files (Upload (upload.Drop user dir)) p refl in abandoned_known call asker.0 sound asker.1 dir p.opened
  upload_known (upload.Join dir spot total) p =
      let asker = not_files (Upload (upload.Join dir spot total)) p refl in
      joined_known call asker.0 sound asker.1 dir spot (found call spot) p.place.target refl (unless _ _ p.free) p.opened
      (subst (λ (places : Places). option_and_then (assembled_limit all (asker_of call) dir) places.target ≡ None) p.led p.room)

  pub wanted_known : (wanted : Wanted) → WantedPasses call wanted → IsKnown (given (access_of call.state) call (places_at call wanted) wanted)
  wanted_known (Get spot) p = served_known call spot sound is (p.place.source refl) (found call spot) refl
  wanted_known (Put spot length) p =
      granted_known call spot sound is p.place.target length
      (is_within all.nodes (root_of call) None (Some (way_of call spot))) (found call spot) p.short refl (unless _ _ p.free) p.may
  wanted_known (Mkcol spot) p = folder_known call spot sound is p.place.target (found call spot) refl p.few
  wanted_known (Delete spot) p = delete_known spot (way_of call spot).itself refl p.place.source p.fits
  wanted_known (Move source to overwrite) p =
      move_known source to (way_of call source).itself refl p.place.source p.place.target p.fits p.few
  wanted_known (Copy source to overwrite) p =
      copied_known call source to sound is (p.place.source refl) p.place.target p.fits p.few
  wanted_known (Share asked) p =
      let asker = not_files (Share asked) p refl in
      asks_known call asker.0 sound asker.1 (places_at call (Share asked)) asked (of_place asked p.place) p.sharing p.room
  wanted_known (People asked) p = persons_known asked (not_taken _ rule.Taken p.sharing) p.room
  wanted_known (Trash asked) p = trash_known asked p.few
  wanted_known (Version asked) p = versions_known call sound (places_at call (Version asked)) asked p.named p.version p.few
  wanted_known (Upload asked) p = upload_known asked p

pub wanted_passes : (call : Call) → MayWant call.request → Passes (access_of call.state) call → WantedPasses call call.request.wanted
unfolding named_rule version_rule target_rule limit_rule sharing_rule upload_rule room_rule
wanted_passes call may p = record {
  led = refl;
  bounds = may.bounds;
  files = only_files call p.token;
  short = may.short;
  place = place_passes (access_of call.state) call p.place;
  may = acts_pass (access_of call.state) call p.acts;
  named = p.named;
  version = p.version;
  opened = (place_passes (access_of call.state) call p.place).opened;
  unmade = (exists_passes (access_of call.state) call p.exists).1;
  free = (exists_passes (access_of call.state) call p.exists).0;
  fits = no_fault _ p.target;
  few = no_limit _ p.limit;
  sharing = no_rule _ p.sharing;
  upload = no_upload_fault _ p.upload;
  room = no_limit _ p.room;
}

pub call_known : (call : Call) (act : Allowed) → IsSound call.state → MayWant call.request → call_decision call ≡ Ok act
    → Known call.state.tables call.now act
call_known call act sound may is =
    let h = call_passes call act is in
    let asker = has_asker call h.0.token (place_passes (access_of call.state) call h.0.place).linked in
    subst (λ (a : Allowed). Known call.state.tables call.now a) h.1
    (wanted_known call sound.rows asker call.request.wanted (wanted_passes call may h.0))
