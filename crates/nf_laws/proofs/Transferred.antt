-- What a MOVE and a COPY change, and that they change nothing else.
use Rattle.std.proofs.Common.{◌≡◌, ◌≤◌, ℕ, ◌==◌, Bool, true, false, List, ◌∷◌, Some, None, Ok, if◌then◌else◌, inl, inr, refl, sym, ap, subst, ◌∙◌, arith, flat_map, ◌++◌, [], Option}
use Rattle.std.specs.Prelude.{is_some}
use Rattle.std.proofs.lemmas.List.Elements.{All-contains, All-append, All-cons, All-nil}
use Rattle.std.specs.Option.{option_and_then, option_map_or}
use Rattle.std.proofs.lemmas.Bool.{both_ways, eq-eqb, eqb-true, not-false, not-true}
use Rattle.std.proofs.lemmas.Option.{none-some, same_Some}
use Rattle.nf_base.specs.declared.rows.NodeRow.{NodeRow}
use Rattle.nf_defs.specs.Prelude.{node_row, owner_of, Tables}
use Rattle.nf_defs.specs.declared.Found.{Found}
use Rattle.nf_defs.specs.declared.Found.TheVariants.{At, Free, Missing}
use Rattle.nf_laws.proofs.Acted.{given_below, IsNew}
use Rattle.nf_laws.proofs.Acting.{accepted, frees_by, given_for, leads_by, there_at}
use Rattle.nf_laws.proofs.Carried.{AreJoined, copying_kind, crossing_kind, IsRelinked, Kind, kind_none, meta_with, moving_kind, source_apart}
use Rattle.nf_laws.proofs.Departed.{below_after, below_off, have_left, kind_changed, new_after, others_after, present_after, rest_after, unstamped, kind_some}
use Rattle.nf_laws.proofs.Each.{forgets_none, NoStore}
use Rattle.nf_laws.proofs.Entries.{step_changed}
use Rattle.nf_laws.proofs.Mirrored.{mirrored}
use Rattle.nf_laws.proofs.Others.{stamp_sound}
use Rattle.nf_laws.proofs.Parts.{copies_stamped, transfer_stamped}
use Rattle.nf_laws.proofs.Rows.{stamp}
use Rattle.nf_laws.specs.Acts.{HaveLeft, IsBeside, IsUnderOne, AreVersionsFewer, AreVersionsLeft}
use Rattle.nf_laws.specs.Transfers.{AreCopied, CopiesMirror, IsCarried, IsMoved, IsTransferOf, LeadsToTarget, Mirrors, MovesKeep, replaced_by}
use Rattle.nf_laws.specs.Access.{LeadsBy}
use Rattle.nf_laws.specs.Tree.{Under}
use Rattle.nf_words.proofs.Begins.{wanted_passes, WantedPasses}
use Rattle.nf_words.proofs.Fits.{within}
use Rattle.nf_words.proofs.Known.{KnownCross, KnownMove, KnownTransfer}
use Rattle.nf_words.proofs.Starts.{has_asker, IsAsking}
use Rattle.nf_words.proofs.Transfers.{copies_known, fit_parts, no_mount, same_transfer, transfer_known, transfer_parts}
use Rattle.nf_words.specs.Prelude.{access_of, allowed_of, AreSound, Call, call_of, carries, carry_limit, changed, copied, copies, copies_to, copy_limit, crosses, crossing, decision_of, deeds_done, deepest_in, done, folder_at, found, is_off_mount, is_root_at, last_name, LeadsToRoot, limited, made_or_done, mount_renamed, mount_of, moved, move_limit, moves, node_found, purges, root_of, transfer_between, transfer_by, transfer_of, transfer_to, unfit_between, unreached, way_of, Ways, beside, besides, charged_for, copies_settled, discard, discards, forgets, purged_by, row_at, settled_by, unsettled}
use Rattle.nf_words.specs.declared.answer.Deed.{Deed}
use Rattle.nf_words.specs.declared.answer.Deed.TheVariants as deed
use Rattle.nf_words.specs.declared.answer.Report.{Report}
use Rattle.nf_words.specs.declared.history.Event.TheVariants.{Begin}
use Rattle.nf_words.specs.declared.answer.Allowed.{Allowed}
use Rattle.nf_words.specs.declared.request.Making.TheVariants as making
use Rattle.nf_words.specs.declared.request.Places.{Places}
use Rattle.nf_words.specs.declared.request.Spot.{Spot}
use Rattle.nf_words.specs.declared.request.Transfer.{Transfer}
use Rattle.nf_words.specs.declared.request.Wanted.TheVariants as wanted
use Rattle.nf_laws.proofs.Behind.{behind_changed, copied_behind}
use Rattle.nf_laws.proofs.Turning.{deeds_fewer, discard_keeps, KeepsVersions, purges_keep, versions_left}
use Rattle.nf_laws.proofs.InTurn.{deeds_append}
use Rattle.nf_retention.specs.declared.versions.Version.{Version}
use Rattle.std.specs.List.{All}

-- a MOVE takes no version but with its file
moves_keep_versions : (t : Tables) (now : ℕ) (name : List ℕ) (transfer : Transfer) → All KeepsVersions (moves t now name transfer)
moves_keep_versions t now name transfer =
    All-append KeepsVersions (discards t now transfer.replaced) (deed.Relink transfer.node transfer.folder name ∷ besides t now transfer.replaced)
    (leaves (row_at t transfer.replaced))
    (All-cons KeepsVersions (deed.Relink transfer.node transfer.folder name) (besides t now transfer.replaced) tt (beside_them (row_at t transfer.replaced)))
  where
    leaves : (o : Option NodeRow) → All KeepsVersions (option_map_or (λ row. discard t now row ∷ []) o [])
    leaves None = All-nil KeepsVersions
    leaves (Some row) = All-cons KeepsVersions (discard t now row) [] (discard_keeps t now row) (All-nil KeepsVersions)

    beside_them : (o : Option NodeRow) → All KeepsVersions (option_map_or (beside t now) o [])
    beside_them None = All-nil KeepsVersions
    beside_them (Some row) = purges_keep _

-- ---- row by row

-- a node that moved
moved_rows : (t : Tables) (now : ℕ) (transfer : Transfer) (name : List ℕ) (report : Report) → AreSound t → t.meta.last ≤ now
    → KnownMove t transfer name → IsMoved t (changed t now (done (moves t now name transfer) report)) now transfer name
moved_rows t now transfer name report sound later move =
    subst (λ (made : Tables). IsMoved t made now transfer name) (sym (kind_changed t now deeds _ _ _ _ report sound later kind)) (record {
      itself = present_after all now deeds _ _ _ _ fine kind transfer.node move.known.present ∙ kind.put;
      below = λ node under differs.
          below_after all now deeds _ _ _ _ fine kind transfer.node node move.known.present under
          ∙ kind.acted.others node differs (source_apart all now fine refl transfer name known.known node under);
      tops = kind.gone;
      left = unstamped t made now now (replaced_by transfer) kind.gone (have_left all now deeds _ _ _ _ fine kind);
      others = others_after all now deeds _ _ _ _ fine kind;
      versions = subst (AreVersionsLeft all) (ap (deeds_done all) kind.are ∙ deeds_append all (kind.one ∷ kind.more) (purges kind.gone))
          (versions_left all deeds fine (moves_keep_versions t now name transfer));
      rest = rest_after all now deeds _ _ _ _ fine kind;
    })
  where
    all : Tables
    all = stamp t now

    fine : AreSound all
    fine = stamp_sound t now sound later

    deeds : List Deed
    deeds = moves t now name transfer

    known : KnownMove all transfer name
    known = record { known = transfer_stamped t now transfer name move.known; within = move.within }

    kind : Kind all now deeds (replaced_by transfer) (λ node. node ≡ transfer.node) (IsRelinked all transfer name) all.meta
    kind = moving_kind all now fine refl transfer name known

    made : Tables
    made = deeds_done (deeds_done all (kind.one ∷ kind.more)) (purges kind.gone)

-- copies, and what leaves its place beside what is replaced
copied_rows : (t : Tables) (now : ℕ) (transfer : Transfer) (name : List ℕ) (deeds : List Deed) (leave : List ℕ) (report : Report) (sound : AreSound t)
    → (later : t.meta.last ≤ now) → (known : KnownTransfer t transfer name)
    → (kind : Kind (stamp t now) now deeds leave (IsNew (stamp t now)) (AreJoined (stamp t now) (copies_to t now transfer name))
    (meta_with (stamp t now) now (stamp_sound t now sound later) refl (copies_to t now transfer name)))
    → AreCopied t (changed t now (done deeds report)) now transfer name leave
copied_rows t now transfer name deeds leave report sound later known kind =
    subst (λ (made : Tables). AreCopied t made now transfer name leave) (sym (kind_changed t now deeds _ _ _ _ report sound later kind)) (record {
      rows = rows;
      mirrors = mirrors;
      there = λ k copy is.
          new_after all now deeds _ _ _ _ fine kind copy.id (omega (arith, (mirrors.each k copy is).id)) ∙ kind.put.there k copy is;
      tops = kind.gone;
      left = unstamped t made now now leave kind.gone (have_left all now deeds _ _ _ _ fine kind);
      others = λ node old. others_after all now deeds _ _ _ _ fine kind node (λ new. absurd (omega (arith, old, new)));
      versions = subst (AreVersionsFewer all) (ap (deeds_done all) kind.are ∙ deeds_append all (kind.one ∷ kind.more) (purges kind.gone))
          (deeds_fewer all deeds (kind_none all now deeds _ _ _ _ kind));
      rest = rest_after all now deeds _ _ _ _ fine kind;
    })
  where
    all : Tables
    all = stamp t now

    fine : AreSound all
    fine = stamp_sound t now sound later

    rows : List NodeRow
    rows = copies_to t now transfer name

    mirrors : Mirrors t now transfer name rows
    mirrors = mirrored t now transfer name sound known.source

    made : Tables
    made = deeds_done (deeds_done all (kind.one ∷ kind.more)) (purges kind.gone)

-- and where versions go behind them
copied_settled : (t : Tables) (now : ℕ) (transfer : Transfer) (name : List ℕ) (deeds : List Deed) (leave : List ℕ) (gone : List Version) (report : Report)
    (sound : AreSound t) → (later : t.meta.last ≤ now) → (known : KnownTransfer t transfer name)
    → (kind : Kind (stamp t now) now deeds leave (IsNew (stamp t now)) (AreJoined (stamp t now) (copies_to t now transfer name))
    (meta_with (stamp t now) now (stamp_sound t now sound later) refl (copies_to t now transfer name)))
    → AreCopied t (changed t now (done (deeds ++ forgets gone) report)) now transfer name leave
copied_settled t now transfer name deeds leave gone report sound later known kind =
    let versions = (deeds_done t (deeds ++ forgets gone)).versions in
    subst (λ (made : Tables). AreCopied t made now transfer name leave)
    (sym (behind_changed t now deeds gone report (kind_some t now deeds _ _ _ _ kind)))
    (copied_behind t (changed t now (done deeds report)) versions now transfer name leave
    (copied_rows t now transfer name deeds leave report sound later known kind) (deeds_fewer t (deeds ++ forgets gone)
    (All-append NoStore deeds (forgets gone) (kind_none (stamp t now) now deeds _ _ _ _ kind) (forgets_none gone))))

-- nothing that is under what is present is under what goes beside what left
tops_apart : (t after : Tables) (now : ℕ) (leave tops : List ℕ) (mid node : ℕ) → AreSound t → HaveLeft t after now leave tops → LeadsToRoot t.nodes mid
    → Under t.nodes mid node → IsUnderOne t.nodes tops node → ⊥
tops_apart t after now leave tops mid node sound h present under one =
    let of = All-contains (IsBeside t leave) tops one.0 h.beside one.1 in
    below_off t node mid one.0 sound present under (ap is_some of.2.1) one.2

-- what is known of what is moved, by whether it goes to another owner
abbrev KnownCarried : Tables → Transfer → List ℕ → Bool → Type 0
KnownCarried t transfer name true = KnownCross t transfer name
KnownCarried t transfer name false = KnownMove t transfer name

-- ---- the request

abbrev nowhere : Places
nowhere = record { source = None; target = None }

abbrev both_at : Call → Spot → Spot → Places
both_at call source target = record { source = Some (found call source); target = Some (found call target) }

abbrev ways_at : Call → Spot → Spot → Ways
ways_at call source target = record { source = Some (way_of call source); target = Some (way_of call target) }

-- what a request to MOVE or COPY that no rule refuses transfers
module _ (call : Call) (source target : Spot) (sound : AreSound call.state.tables) (is : IsAsking call)
    (from_reached : unreached (access_of call.state) call (way_of call source) ≡ None)
    (to_reached : unreached (access_of call.state) call (way_of call target) ≡ None)
    (fits : unfit_between call.state.tables.nodes (root_of call) false (record { source = Some (way_of call source); target = Some (way_of call target) }) ≡ None)
    (node : ℕ) (leads : found call source ≡ At node) where
  abbrev t : Tables
  t = call.state.tables

  abbrev places : Places
  places = record { source = Some (found call source); target = Some (found call target) }

  abbrev ways : Ways
  ways = record { source = Some (way_of call source); target = Some (way_of call target) }

  -- there is something to transfer
  transferred : (transfer : Transfer) × (transfer_of t.nodes places ≡ Some transfer)
  transferred =
      let fit = fit_parts t.nodes (is_root_at t.nodes (root_of call) (Some (way_of call source))) (is_off_mount (root_of call) false (way_of call target))
      (transfer_between t.nodes (root_of call) ways) fits in
      let by : transfer_by t.nodes (root_of call) node (way_of call target) ≡ Some fit.transfer =
      sym (ap (λ (place : Found). option_and_then (λ node. transfer_by t.nodes (root_of call) node (way_of call target)) (node_found place)) leads) ∙ fit.is in (
        fit.transfer,
        ap (λ (place : Found). option_and_then (λ node. transfer_to t.nodes node (found call target)) (node_found place)) leads
            ∙ sym (same_transfer t.nodes (root_of call) node (way_of call target) fit.transfer (no_mount call source target sound is from_reached to_reached fits) by) ∙ by,
      )

  abbrev transfer : Transfer
  transfer = transferred.0

  led : IsTransferOf call source target transfer
  led = record { from = subst (LeadsBy call source (mount_of call source)) parts.0 (leads_by call source sound node leads); to = here (found call target) refl parts.1 parts.2 }
    where
      parts : (node ≡ transfer.node) × (node_found (found call target) ≡ transfer.replaced) × (folder_at t.nodes (found call target) ≡ Some transfer.folder)
      parts =
          transfer_parts t.nodes node (found call target) transfer
          (sym (ap (λ (place : Found). option_and_then (λ node. transfer_to t.nodes node (found call target)) (node_found place)) leads) ∙ transferred.1)

      here : (place : Found) → found call target ≡ place → node_found place ≡ transfer.replaced → folder_at t.nodes place ≡ Some transfer.folder
          → LeadsToTarget call target transfer.folder transfer.replaced
      here (At top) e replaced above =
          subst (LeadsToTarget call target transfer.folder) replaced (leads_by call target sound top e, above)
      here (Free folder) e replaced above =
          subst (LeadsToTarget call target transfer.folder) replaced
          (subst (λ (n : ℕ). LeadsToTarget call target n None) (same_Some folder transfer.folder above) (frees_by call target sound folder e).0)
      here (Missing depth) e replaced above = absurd (none-some transfer.folder above)

  -- which is known of it, as it stays its owner's or not
  known_carried : (transfer : Transfer) → transfer_of t.nodes places ≡ Some transfer → (b : Bool) → crosses t.nodes transfer ≡ b
      → (if b then copy_limit t transfer else move_limit t transfer) ≡ None
      → KnownCarried t transfer (last_name target) b
  unfolding copies_known
  known_carried transfer e true across some =
      record { copies = copies_known call source target sound is from_reached to_reached transfer e fits some; crosses = across }
  known_carried transfer e false inside some =
      record {
        known = transfer_known call source target sound is from_reached to_reached transfer e fits
            (within t 0 (deepest_in t.nodes transfer.node transfer.folder) 0 0 0 some).deep;
        within = inside;
      }

-- where it stays its owner's, or not
carried_rows : (t : Tables) (now : ℕ) (transfer : Transfer) (name : List ℕ) (report : Report) → AreSound t → t.meta.last ≤ now → (b : Bool)
    → crosses t.nodes transfer ≡ b → KnownCarried t transfer name b
    → IsCarried t (changed t now (done (if b then settled_by t (charged_for t transfer) (crossing t now name transfer)
    else moves t now name transfer) report)) now transfer name
carried_rows t now transfer name report sound later true across known =
    inr (
      λ same.
          both_ways (owner_of t.nodes transfer.node == owner_of t.nodes transfer.folder)
          (not-true (owner_of t.nodes transfer.node == owner_of t.nodes transfer.folder) across)
          (eq-eqb (owner_of t.nodes transfer.node) (owner_of t.nodes transfer.folder) same),
      copied_settled t now transfer name (crossing t now name transfer) (transfer.node ∷ replaced_by transfer)
          (unsettled t (charged_for t transfer) (flat_map purged_by (crossing t now name transfer))) report sound later known.copies.known
          (crossing_kind (stamp t now) now (stamp_sound t now sound later) refl transfer name
          (record { copies = copies_stamped t now transfer name known.copies; crosses = known.crosses })),
    )
carried_rows t now transfer name report sound later false within known =
    inl (
      eqb-true (owner_of t.nodes transfer.node) (owner_of t.nodes transfer.folder) (not-false (owner_of t.nodes transfer.node == owner_of t.nodes transfer.folder) within),
      moved_rows t now transfer name report sound later known,
    )

pub moves_keep : MovesKeep
unfolding copies_known
moves_keep s seat now words request source target overwrite sound seen may asked other ok =
    let call = call_of s seat now words request in
    let t = s.tables in
    let want = wanted.Move source target overwrite in
    let is = accepted call ok in
    let p = subst (WantedPasses call) asked (wanted_passes call may.1 is.1) in
    let asker = has_asker call is.1.token p.place.linked in
    let from_reached = p.place.source other in
    let fits = subst (λ (b : Bool). unfit_between t.nodes (root_of call) b (ways_at call source target) ≡ None) other p.fits in
    let at = there_at (found call source) p.place.there in
    let to = transferred call source target sound.rows asker from_reached p.place.target fits at.0 at.1 in
    let transfer = to.0 in
    let few : option_and_then (carry_limit t) (transfer_of t.nodes (both_at call source target)) ≡ None =
    subst (λ (b : Bool). limited t (if b then nowhere else both_at call source target) making.Moved ≡ None) other p.few in
    let some : (if crosses t.nodes transfer then copy_limit t transfer else move_limit t transfer) ≡ None =
    sym (ap (option_and_then (carry_limit t)) to.1) ∙ few in
    let act = done (carries t now (last_name target) transfer) (made_or_done transfer.replaced) in
    let gives : allowed_of (access_of s) call ≡ act =
    given_for call want asked
    ∙ ap (λ (b : Bool). if b then mount_renamed call (way_of call source) (last_name target)
    else moved t now (last_name target) (transfer_of t.nodes (if b then nowhere else both_at call source target))) other
    ∙ ap (moved t now (last_name target)) to.1 in
    let decides : decision_of s seat now (Begin words request) ≡ Ok act = is.0 ∙ ap (λ (a : Allowed). Ok a) gives in (
      transfer,
      led call source target sound.rows asker from_reached p.place.target fits at.0 at.1,
      subst (λ (made : Tables). IsCarried t made now transfer (last_name target)) (sym (step_changed s seat now (Begin words request) act decides))
          (carried_rows t now transfer (last_name target) (made_or_done transfer.replaced) sound.rows (omega (arith, sound.seen, seen))
          (crosses t.nodes transfer) refl
          (known_carried call source target sound.rows asker from_reached p.place.target fits at.0 at.1 transfer to.1 (crosses t.nodes transfer) refl some)),
    )

pub copies_mirror : CopiesMirror
unfolding copies_known
copies_mirror s seat now words request source target overwrite sound seen may asked ok =
    let call = call_of s seat now words request in
    let t = s.tables in
    let is = accepted call ok in
    let p = subst (WantedPasses call) asked (wanted_passes call may.1 is.1) in
    let asker = has_asker call is.1.token p.place.linked in
    let from_reached = p.place.source refl in
    let at = there_at (found call source) p.place.there in
    let to = transferred call source target sound.rows asker from_reached p.place.target p.fits at.0 at.1 in
    let transfer = to.0 in
    let name = last_name target in
    let some : copy_limit t transfer ≡ None = sym (ap (option_and_then (copy_limit t)) to.1) ∙ p.few in
    let known = copies_known call source target sound.rows asker from_reached p.place.target transfer to.1 p.fits some in
    let later : t.meta.last ≤ now = omega (arith, sound.seen, seen) in
    let act = done (copies_settled t now name transfer) (made_or_done transfer.replaced) in
    let gives : allowed_of (access_of s) call ≡ act =
    given_for call (wanted.Copy source target overwrite) asked ∙ ap (copied t now name) to.1 in
    let decides : decision_of s seat now (Begin words request) ≡ Ok act = is.0 ∙ ap (λ (a : Allowed). Ok a) gives in
    let made = copied_settled t now transfer name (copies t now name transfer) (replaced_by transfer)
    (unsettled t (charged_for t transfer) (flat_map purged_by (copies t now name transfer))) (made_or_done transfer.replaced) sound.rows later known.known
    (copying_kind (stamp t now) now (stamp_sound t now sound.rows later) refl transfer name (copies_stamped t now transfer name known)) in
    let becomes = step_changed s seat now (Begin words request) act decides in
    let made_after = changed t now act in (
      transfer,
      led call source target sound.rows asker from_reached p.place.target p.fits at.0 at.1,
      subst (λ (after : Tables). AreCopied t after now transfer name (replaced_by transfer)) (sym becomes) made,
      λ node under.
          subst (λ (after : Tables). node_row after.nodes node ≡ node_row t.nodes node) (sym becomes)
          (made.others node (given_below t transfer.node node sound.rows known.known.present under)
          (source_apart (stamp t now) now (stamp_sound t now sound.rows later) refl transfer name (transfer_stamped t now transfer name known.known) node under)
          (tops_apart t made_after now (replaced_by transfer) made.tops transfer.node node sound.rows made.left known.known.present under)),
    )
