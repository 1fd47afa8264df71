-- What is known of a MOVE or a COPY that no rule refuses.
use Rattle.std.proofs.Common.{◌≡◌, ℕ, ◌≤◌, ◌==◌, ◌||◌, Bool, true, false, List, length, ◌∙◌, Option, option_map, if◌then◌else◌, refl, sym, ap, subst, arith, eqb-true}
use Rattle.std.specs.Prelude.{None, Some}
use Rattle.std.specs.Option.{option_and_then, option_map_or, option_or}
use Rattle.std.proofs.lemmas.Option.{none-some, same_Some}
use Rattle.nf_base.specs.declared.limits.TheConstants.{MAX_DEPTH}
use Rattle.nf_base.specs.declared.rows.NodeRow.{NodeRow}
use Rattle.nf_defs.specs.Prelude.{child_of, is_folder, is_root, node_row, Tables, walk_of}
use Rattle.nf_defs.specs.declared.Found.{Found}
use Rattle.nf_defs.specs.declared.Found.TheVariants.{At, Free, Missing}
use Rattle.nf_words.proofs.Fits.{within}
use Rattle.nf_words.proofs.Found.{child_parent, found_passes}
use Rattle.nf_words.proofs.Known.{alone, Known, KnownCopies, KnownLeaving, KnownSettled, KnownTransfer, settled_known}
use Rattle.nf_words.proofs.Known.KnownDeeds.{by_copying, by_crossing, by_moving}
use Rattle.nf_words.proofs.Starts.{IsAsking}
use Rattle.nf_words.proofs.Ways.{at_in, folder_present, HasRow, inside_no_root, inside_present, node_present, present_inside, slot_known, slot_present, taken_unmounted, way_there}
use Rattle.nf_words.specs.Prelude.{access_of, AreSound, Call, carry_limit, charged_for, copied, copies, copy_limit, crosses, crossing, deepest_in, folder_at, folder_seen, found, is_off_mount, is_root_at, is_start, is_there, IsUnmounted, last_name, LeadsToRoot, misplaced, misplaced_by, moved, move_limit, moves, node_found, pieces_in, root_of, row_at, settled_by, transfer_between, transfer_by, transfer_of, transfer_to, unfit_between, unreached, Way, way_of, Ways}
use Rattle.nf_words.specs.declared.answer.TargetFault.{TargetFault}
use Rattle.nf_words.specs.declared.answer.TargetFault.TheVariants as target
use Rattle.nf_words.specs.declared.request.Places.{Places}
use Rattle.nf_words.specs.declared.request.Spot.{Spot}
use Rattle.nf_words.specs.declared.request.Transfer.{Transfer}

-- what a transfer to a place is
pub transfer_parts : (rows : List NodeRow) (node : ℕ) (place : Found) (transfer : Transfer) → transfer_to rows node place ≡ Some transfer
    → (node ≡ transfer.node) × (node_found place ≡ transfer.replaced) × (folder_at rows place ≡ Some transfer.folder)
transfer_parts rows node place transfer is = here (folder_at rows place) is
  where
    here : (o : Option ℕ) → option_map (λ folder. record { node = node; folder = folder; replaced = node_found place }) o ≡ Some transfer
        → (node ≡ transfer.node) × (node_found place ≡ transfer.replaced) × (o ≡ Some transfer.folder)
    here None is = absurd (none-some transfer is)
    here (Some folder) is =
        let e = same_Some (record { node = node; folder = folder; replaced = node_found place }) transfer is in (
          ap (λ (transfer : Transfer). transfer.node) e,
          ap (λ (transfer : Transfer). transfer.replaced) e,
          ap (λ (transfer : Transfer). Some transfer.folder) e,
        )

-- what is known of the place that something is put at
record KnownTarget (t : Tables) (transfer : Transfer) (name : List ℕ) : Type 0 where
  in_folder : is_folder t.nodes transfer.folder ≡ true
  present : LeadsToRoot t.nodes transfer.folder
  there : child_of t.nodes transfer.folder name ≡ transfer.replaced
  unmounted : IsUnmounted t transfer.folder name

target_known : (call : Call) (spot : Spot) (place : Found) (transfer : Transfer)
    → AreSound call.state.tables → IsAsking call → unreached (access_of call.state) call (way_of call spot) ≡ None
    → (way_of call spot).itself ≡ false → is_start (root_of call) (found call spot) ≡ false → found call spot ≡ place
    → node_found place ≡ transfer.replaced → folder_at call.state.tables.nodes place ≡ Some transfer.folder
    → KnownTarget call.state.tables transfer (last_name spot)
target_known call spot (At node) transfer sound is reached other no_start leads replaced above =
    let t = call.state.tables in
    let step = at_in call spot sound is node transfer.folder other no_start leads above in
    record {
      in_folder = step.0;
      present = folder_present t.nodes node transfer.folder above (node_present call spot sound is node reached leads);
      there = step.1 ∙ replaced;
      unmounted = taken_unmounted t transfer.folder node (last_name spot) sound step.1;
    }
target_known call spot (Free folder) transfer sound is reached other no_start leads replaced above =
    let t = call.state.tables in
    let same = same_Some folder transfer.folder above in
    let slot = slot_known call spot sound is folder reached leads in
    record {
      in_folder = subst (λ (n : ℕ). is_folder t.nodes n ≡ true) same slot.folds;
      present = subst (LeadsToRoot t.nodes) same (slot_present call spot sound is folder reached leads);
      there = subst (λ (n : ℕ). child_of t.nodes n (last_name spot) ≡ None) same slot.free ∙ replaced;
      unmounted = subst (λ (n : ℕ). IsUnmounted t n (last_name spot)) same slot.unmounted;
    }
target_known call spot (Missing depth) transfer sound is reached other no_start leads replaced above = absurd (none-some transfer.folder above)

none_misplaced : (a b c : Bool)
    → (if a then Some target.Same else if b || c then Some target.Inside else None) ≡ None → (a ≡ false) × (b ≡ false) × (c ≡ false)
none_misplaced false false false none = (refl, refl, refl)
none_misplaced a b c none = absurd (cc)

pub off : (a b : Bool) → (a || b) ≡ false → b ≡ false
off false b none = none
off true b none = absurd (cc)

none_off : (o : Option TargetFault) (off : Bool) → option_or o (if off then Some target.Mount else None) ≡ None → (o ≡ None) × (off ≡ false)
none_off None false none = (refl, refl)
none_off o off none = absurd (cc)

-- what fits is of no root, over no mount, and well placed
pub record FitParts (rows : List NodeRow) (root off : Bool) (o : Option Transfer) : Type 0 where
  pub transfer : Transfer
  pub is : o ≡ Some transfer
  pub no_root : root ≡ false
  pub placed : misplaced rows transfer ≡ None
  pub on : off ≡ false

pub fit_parts : (rows : List NodeRow) (root off : Bool) (o : Option Transfer)
    → (if root then Some target.Root else option_map_or (misplaced_by rows off) o (Some target.Root)) ≡ None → FitParts rows root off o
fit_parts rows true off o fits = absurd (cc)
fit_parts rows false off None fits = absurd (cc)
fit_parts rows false off (Some transfer) fits =
    let parts = none_off (misplaced rows transfer) off fits in
    record { transfer = transfer; is = refl; no_root = refl; placed = parts.0; on = parts.1 }

-- the transfer to a folder, where there is one
abbrev into : ℕ → Way → Option ℕ → Option Transfer
into node way folder = option_map (λ folder. record { node = node; folder = folder; replaced = node_found way.place }) folder

-- to the end of a way that isn't a mount itself, by whether that is what the paths lead from
transfer_seen : (rows : List NodeRow) (root node : ℕ) (way : Way) → way.itself ≡ false
    → transfer_by rows root node way ≡ into node way (folder_seen rows root way.place)
transfer_seen rows root node way other = ap (λ (b : Bool). into node way (if b then Some root else folder_seen rows root way.place)) other

-- which it isn't, where there is a transfer
pub not_start : (rows : List NodeRow) (root node : ℕ) (way : Way) (transfer : Transfer) → way.itself ≡ false
    → transfer_by rows root node way ≡ Some transfer → is_start root way.place ≡ false
not_start rows root node way transfer other is =
    here (is_start root way.place) (sym (transfer_seen rows root node way other) ∙ is)
  where
    here : (b : Bool) → into node way (if b then None else folder_at rows way.place) ≡ Some transfer → b ≡ false
    here false is = refl
    here true is = absurd (none-some transfer is)

-- then it is that to the place
pub same_transfer : (rows : List NodeRow) (root node : ℕ) (way : Way) (transfer : Transfer) → way.itself ≡ false
    → transfer_by rows root node way ≡ Some transfer → transfer_by rows root node way ≡ transfer_to rows node way.place
same_transfer rows root node way transfer other is =
    transfer_seen rows root node way other
    ∙ ap (λ (b : Bool). into node way (if b then None else folder_at rows way.place)) (not_start rows root node way transfer other is)

-- what is moved or copied, by a caller who is there and is reached
module _ (call : Call) (source target : Spot) (sound : AreSound call.state.tables) (is : IsAsking call)
    (from_reached : unreached (access_of call.state) call (way_of call source) ≡ None)
    (to_reached : unreached (access_of call.state) call (way_of call target) ≡ None) where
  abbrev t : Tables
  t = call.state.tables

  abbrev led_to : Found → Places
  led_to from = record { source = Some from; target = Some (found call target) }

  abbrev places : Places
  places = led_to (found call source)

  abbrev ways : Ways
  ways = record { source = Some (way_of call source); target = Some (way_of call target) }

  -- it doesn't end at a mount itself
  pub no_mount : unfit_between t.nodes (root_of call) false ways ≡ None → (way_of call target).itself ≡ false
  no_mount fits =
      (fit_parts t.nodes (is_root_at t.nodes (root_of call) (Some (way_of call source))) (is_off_mount (root_of call) false (way_of call target))
      (transfer_between t.nodes (root_of call) ways) fits).on

  -- neither what is moved or copied nor what has to go is what the paths lead from
  pub no_starts : (node : ℕ) → found call source ≡ At node → unfit_between t.nodes (root_of call) false ways ≡ None
      → (is_start (root_of call) (found call source) ≡ false) × (is_start (root_of call) (found call target) ≡ false)
  no_starts node leads fits =
      let fit = fit_parts t.nodes (is_root_at t.nodes (root_of call) (Some (way_of call source))) (is_off_mount (root_of call) false (way_of call target))
      (transfer_between t.nodes (root_of call) ways) fits in
      let between : transfer_between t.nodes (root_of call) ways ≡ transfer_by t.nodes (root_of call) node (way_of call target) =
      ap (λ (place : Found). option_and_then (λ node. transfer_by t.nodes (root_of call) node (way_of call target)) (node_found place)) leads in
      let root : (node == root_of call || is_root t.nodes node) ≡ false =
      sym (ap (λ (place : Found). is_there (λ node. node == root_of call || is_root t.nodes node) (Some place)) leads) ∙ fit.no_root in (
        ap (is_start (root_of call)) leads ∙ on (node == root_of call) (is_root t.nodes node) root,
        not_start t.nodes (root_of call) node (way_of call target) fit.transfer (no_mount fits) (sym between ∙ fit.is),
      )
    where
      on : (a b : Bool) → (a || b) ≡ false → a ≡ false
      on false b none = refl
      on true b none = absurd (cc)

  pub transfer_known : (transfer : Transfer) → transfer_of t.nodes places ≡ Some transfer → unfit_between t.nodes (root_of call) false ways ≡ None
      → deepest_in t.nodes transfer.node transfer.folder ≤ MAX_DEPTH → KnownTransfer t transfer (last_name target)
  transfer_known transfer led fits deep = here (found call source) refl led fits
    where
      here : (from : Found) → found call source ≡ from → transfer_of t.nodes (led_to from) ≡ Some transfer
          → unfit_between t.nodes (root_of call) false ways ≡ None → KnownTransfer t transfer (last_name target)
      here (At node) leads led fits =
          let parts = transfer_parts t.nodes node (found call target) transfer led in
          let other = no_mount fits in
          let fit = fit_parts t.nodes (is_root_at t.nodes (root_of call) (Some (way_of call source))) (is_off_mount (root_of call) false (way_of call target))
          (transfer_between t.nodes (root_of call) ways) fits in
          let between : transfer_between t.nodes (root_of call) ways ≡ transfer_by t.nodes (root_of call) node (way_of call target) =
          ap (λ (place : Found). option_and_then (λ node. transfer_by t.nodes (root_of call) node (way_of call target)) (node_found place)) leads in
          let by : transfer_by t.nodes (root_of call) node (way_of call target) ≡ Some fit.transfer = sym between ∙ fit.is in
          let it : fit.transfer ≡ transfer =
          same_Some fit.transfer transfer (sym by ∙ same_transfer t.nodes (root_of call) node (way_of call target) fit.transfer other by ∙ led) in
          let at = target_known call target (found call target) transfer sound is to_reached other
          (not_start t.nodes (root_of call) node (way_of call target) fit.transfer other by) refl parts.1 parts.2 in
          let placed = none_misplaced _ _ _ (subst (λ (x : Transfer). misplaced t.nodes x ≡ None) it fit.placed) in
          let there = way_there call source sound is node from_reached leads in
          record {
            source = subst (HasRow t.nodes) parts.0 there;
            no_root = subst (λ (n : ℕ). is_root t.nodes n ≡ false) parts.0
                (off (node == root_of call) (is_root t.nodes node) (sym (ap (λ (place : Found). is_there (λ node. node == root_of call || is_root t.nodes node) (Some place)) leads) ∙ fit.no_root));
            present = subst (LeadsToRoot t.nodes) parts.0 (node_present call source sound is node from_reached leads);
            in_folder = at.in_folder;
            folder_present = at.present;
            there = at.there;
            unmounted = at.unmounted;
            differs = placed.0;
            outside = placed.1;
            apart = placed.2;
            deep = deep;
          }
      here nowhere leads led fits = absurd (none-some transfer led)

  unfoldable pub copies_known : (transfer : Transfer) → transfer_of t.nodes places ≡ Some transfer → unfit_between t.nodes (root_of call) false ways ≡ None
      → copy_limit t transfer ≡ None → KnownCopies t transfer (last_name target)
  copies_known transfer e fits some =
      let nodes = walk_of t.nodes transfer.node in
      let fits_in = within t (length nodes) (deepest_in t.nodes transfer.node transfer.folder) 0 (pieces_in t.nodes nodes) 0 some in
      record {
        known = transfer_known transfer e fits fits_in.deep;
        nodes = fits_in.nodes;
        next_node = fits_in.next_node;
        pieces = fits_in.pieces;
        next_blob = omega (arith, fits_in.next_blob);
      }

  pub moved_known : unfit_between t.nodes (root_of call) false ways ≡ None → option_and_then (carry_limit t) (transfer_of t.nodes places) ≡ None
      → Known t call.now (moved t call.now (last_name target) (transfer_of t.nodes places))
  unfolding copies_known
  moved_known fits some = here (transfer_of t.nodes places) refl some
    where
      carried : (transfer : Transfer) (b : Bool) → crosses t.nodes transfer ≡ b → transfer_of t.nodes places ≡ Some transfer
          → (if b then copy_limit t transfer else move_limit t transfer) ≡ None
          → KnownSettled t call.now (if b then settled_by t (charged_for t transfer) (crossing t call.now (last_name target) transfer)
          else moves t call.now (last_name target) transfer)
      carried transfer true across e some =
          settled_known t call.now (charged_for t transfer) (crossing t call.now (last_name target) transfer)
          (by_crossing transfer (last_name target) (record { copies = copies_known transfer e fits some; crosses = across }))
      carried transfer false across e some =
          alone t call.now (moves t call.now (last_name target) transfer)
          (by_moving transfer (last_name target)
          (record {
            known = transfer_known transfer e fits (within t 0 (deepest_in t.nodes transfer.node transfer.folder) 0 0 0 some).deep;
            within = across;
          }))

      here : (o : Option Transfer) → transfer_of t.nodes places ≡ o → option_and_then (carry_limit t) o ≡ None
          → Known t call.now (moved t call.now (last_name target) o)
      here None e some = tt
      here (Some transfer) e some = carried transfer (crosses t.nodes transfer) refl e some

  pub copied_known : unfit_between t.nodes (root_of call) false ways ≡ None → option_and_then (copy_limit t) (transfer_of t.nodes places) ≡ None
      → Known t call.now (copied t call.now (last_name target) (transfer_of t.nodes places))
  copied_known fits some = here (transfer_of t.nodes places) refl some
    where
      here : (o : Option Transfer) → transfer_of t.nodes places ≡ o → option_and_then (copy_limit t) o ≡ None
          → Known t call.now (copied t call.now (last_name target) o)
      here None e some = tt
      here (Some transfer) e some =
          settled_known t call.now (charged_for t transfer) (copies t call.now (last_name target) transfer)
          (by_copying transfer (last_name target) (copies_known transfer e fits some))

-- ---- what leaves its place

-- a node that is present and no root is in a folder
pub row_leaves : (t : Tables) (row : NodeRow) (node : ℕ) → node_row t.nodes node ≡ Some row → is_root t.nodes node ≡ false → LeadsToRoot t.nodes node
    → KnownLeaving t row
row_leaves t row node there no_root present =
    let id : row.id ≡ node = eqb-true row.id node (found_passes (λ (row : NodeRow). row.id == node) t.nodes row there) in
    let inside = present_inside t.nodes node row there no_root present in
    record {
      there = ap (node_row t.nodes) id ∙ there;
      no_root = ap (is_root t.nodes) id ∙ no_root;
      folder = inside.0;
      inside = inside.1;
      present = subst (LeadsToRoot t.nodes) (sym id) present;
    }

-- ---- what is replaced

-- it is in the target's folder, and present as that is
pub replaced_leaves : (t : Tables) → AreSound t → (transfer : Transfer) (name : List ℕ) → KnownTransfer t transfer name → (row : NodeRow)
    → row_at t transfer.replaced ≡ Some row → KnownLeaving t row
replaced_leaves t sound transfer name known row there = here transfer.replaced known.there there
  where
    here : (o : Option ℕ) → child_of t.nodes transfer.folder name ≡ o → row_at t o ≡ Some row → KnownLeaving t row
    here None e there = absurd (none-some row there)
    here (Some node) e there =
        let parent = child_parent t.nodes transfer.folder name node sound.rising e in
        let no_root = inside_no_root t.nodes node transfer.folder parent in
        let present = inside_present t.nodes node transfer.folder parent known.folder_present in
        row_leaves t row node there no_root present
