-- What an event isn't answered.
use Rattle.std.proofs.Common.{◌≡◌, ◌≢◌, ℕ, Bool, true, false, List, Result, Ok, Err, refl, sym, ap, ◌∙◌, subst, [], ◌==◌}
use Rattle.std.specs.Prelude.{Option, None, Some, is_some, if◌then◌else◌}
use Rattle.std.specs.Option.{option_and_then, option_map_or, option_or}
use Rattle.nf_base.specs.declared.rows.NodeRow.{NodeRow}
use Rattle.nf_defs.specs.Prelude.{Access, content_of, is_folder, Tables}
use Rattle.nf_defs.specs.declared.Found.{Found}
use Rattle.nf_defs.specs.declared.Found.TheVariants.{At, Free, Missing}
use Rattle.nf_words.specs.Prelude.{access_of, allowed_of, answered_by, answer_to, asked_of, asker_of, by_of, Call, call_of, charged_to, chunk_number, chunk_refusal, chunk_sent, chunk_stored, copied, decided, decision_of, deleted, done, end_refusal, ends_at, found, given, goal_at, goal_of, hold_of, is_off_mount, is_root_at, item_dropped, item_restored, last_name, listing_of, made_folder, mount_left, mount_renamed, moved, node_at, node_found, nothing_done, offered, own_item, people_done, perms_after, refusal_of, reply_to, reported, requoted, root_of, row_named, served, shared, share_ended, share_made, share_set, share_shown, share_steered, share_told, shown, source_lost, State, step, stored, stored_at, taken, target_lost, target_rule, transfer_between, transfer_by, transfer_of, transfer_to, trash_done, unfit, unfit_between, unless_refused, until_after, upload_done, Way, way_of, ways_for, with_goal, requoting, settled_by, brought_back, version_done, version_row}
use Rattle.nf_words.specs.declared.answer.Allowed.{Allowed}
use Rattle.nf_words.specs.declared.answer.Allowed.TheVariants as allowed
use Rattle.nf_words.specs.declared.answer.Denial.{Denial}
use Rattle.nf_words.specs.declared.answer.By.{By}
use Rattle.nf_words.specs.declared.answer.Denial.TheVariants as denial
use Rattle.nf_words.specs.declared.answer.Goal.{Goal}
use Rattle.nf_words.specs.declared.answer.Goal.TheVariants.{Chunk, Serve, Store}
use Rattle.nf_words.specs.declared.answer.LockKey.{LockKey}
use Rattle.nf_words.specs.declared.answer.LockKey.TheVariants.{Node, Slot}
use Rattle.nf_words.specs.declared.answer.Reply.{Reply}
use Rattle.nf_words.specs.declared.answer.Reply.TheVariants.{Closed, Granted}
use Rattle.nf_words.specs.declared.answer.Report.{Report}
use Rattle.nf_words.specs.declared.answer.Report.TheVariants as report
use Rattle.nf_words.specs.declared.history.Event.TheVariants.{Begin, End}
use Rattle.nf_words.specs.declared.history.Outcome.{Outcome}
use Rattle.nf_words.specs.declared.history.Outcome.TheVariants.{Body}
use Rattle.nf_base.specs.declared.rows.ShareRow.{ShareRow}
use Rattle.nf_words.specs.declared.request.Offer.{Offer}
use Rattle.nf_words.specs.declared.request.Places.{Places}
use Rattle.nf_words.specs.declared.request.ShareAsk.{ShareAsk}
use Rattle.nf_words.specs.declared.request.ShareAsk.TheVariants as ask
use Rattle.nf_words.specs.declared.request.Request.{Request}
use Rattle.nf_words.specs.declared.request.Transfer.{Transfer}
use Rattle.nf_words.specs.declared.request.Words.{Words}
use Rattle.nf_words.specs.declared.request.Wanted.{Wanted}
use Rattle.nf_words.specs.declared.route.Route.TheVariants.{Files}
use Rattle.nf_words.specs.declared.request.Wanted.TheVariants.{Get, Put, Mkcol, Delete, Move, Copy, Share, People, Trash, Upload, Version}
use Rattle.nf_words.proofs.Begins.{only_at, places_at}
use Rattle.nf_words.proofs.Passing.{exists_passes, no_fault, PlacePasses, place_passes, unrefused}
use Rattle.nf_words.proofs.Transfers.{fit_parts, FitParts, same_transfer}
use Rattle.nf_words.proofs.Steps.{end_nothing, never_granted, ok_reply}
use Rattle.nf_base.specs.declared.rows.ItemRow.{ItemRow}
use Rattle.nf_base.specs.declared.rows.UserRow.{UserRow}
use Rattle.nf_words.specs.declared.request.PeopleAsk.{PeopleAsk}
use Rattle.nf_words.specs.declared.request.TrashAsk.{TrashAsk}
use Rattle.nf_words.specs.declared.request.VersionAsk.{VersionAsk}
use Rattle.nf_words.specs.declared.request.VersionAsk.TheVariants as version
use Rattle.nf_base.specs.declared.rows.VersionRow.{VersionRow}
use Rattle.nf_words.specs.declared.request.PeopleAsk.TheVariants as people
use Rattle.nf_words.specs.declared.request.TrashAsk.TheVariants as trash
use Rattle.nf_words.specs.declared.request.UploadAsk.{UploadAsk}
use Rattle.nf_words.specs.declared.request.UploadAsk.TheVariants as upload
use Rattle.std.proofs.lemmas.Bool.{cond_both}

-- ---- never as the End of what stores nothing

report_opens : (report : Report) → reported report ≢ Closed
report_opens report.Made = λ is. cc
report_opens report.Done = λ is. cc
report_opens (report.Share line) = λ is. cc
report_opens (report.Shares lines) = λ is. cc
report_opens (report.Items lines) = λ is. cc
report_opens (report.Versions lines) = λ is. cc
report_opens report.Plain = λ is. cc

closes : (act : Allowed) → reply_to act ≡ Closed → act ≡ allowed.Close
closes (allowed.Change changes blob report) is = absurd (report_opens report is)
closes (allowed.Deeds deeds report) is = absurd (report_opens report is)
closes allowed.Close is = refl
closes act is = cc

-- an act that isn't refused isn't answered so, if it doesn't close
open_answer : (refusal : Option Denial) (act : Allowed) → (refusal ≡ None → act ≢ allowed.Close)
    → answered_by (unless_refused refusal act) ≢ Ok Closed
open_answer None act opens = λ is. opens refl (closes act (ok_reply (reply_to act) Closed is))
open_answer (Some refusal) act opens = λ is. cc

open_shown : (access : Access) (call : Call) (mount : Option ℕ) (node : ℕ) → shown access call mount node ≢ allowed.Close
open_shown access call mount node = here (is_folder call.state.tables.nodes node)
  where
    here : (folds : Bool)
        → (if folds then allowed.List (listing_of access call mount node) else allowed.Get node (content_of call.state.tables.nodes node)) ≢ allowed.Close
    here true = λ is. cc
    here false = λ is. cc

open_served : (access : Access) (call : Call) (mount : Option ℕ) (place : Found) → source_lost place ≡ None
    → served access call mount (node_found place) ≢ allowed.Close
open_served access call mount (At node) there = open_shown access call mount node
open_served access call mount nowhere there = absurd (cc)

open_deleted : (t : Tables) (now : ℕ) (node : Option ℕ) → deleted t now node ≢ allowed.Close
open_deleted t now node = λ is. cc

open_requoted : (t : Tables) (now quota : ℕ) (row : UserRow) → requoted t now quota row ≢ allowed.Close
open_requoted t now quota row =
    cond_both (row.quota == quota) nothing_done
    (done (settled_by t (charged_to t quota row) (requoting t now quota row)) report.Plain)
    (λ (a : Allowed). a ≢ allowed.Close) (λ e is. cc) (λ e is. cc)

open_people : (t : Tables) (now : ℕ) (asked : PeopleAsk) → people_done t now asked ≢ allowed.Close
open_people t now (people.SetQuota user quota) = here (row_named t user)
  where
    here : (o : Option UserRow) → option_map_or (requoted t now quota) o nothing_done ≢ allowed.Close
    here None = λ is. cc
    here (Some row) = open_requoted t now quota row
open_people t now asked = λ is. cc

open_trash : (call : Call) (asked : TrashAsk) → trash_done call asked ≢ allowed.Close
open_trash call (trash.List user) = λ is. cc
open_trash call (trash.Drop user item) = here (own_item call item)
  where
    here : (o : Option ItemRow) → option_map_or (item_dropped call.state.tables call.now) o nothing_done ≢ allowed.Close
    here None = λ is. cc
    here (Some row) = λ is. cc
open_trash call (trash.Empty user) = λ is. cc
open_trash call (trash.Restore user item) = here (own_item call item)
  where
    here : (o : Option ItemRow) → option_map_or (item_restored call.state.tables call.now) o nothing_done ≢ allowed.Close
    here None = λ is. cc
    here (Some row) = λ is. cc

open_version : (t : Tables) (now : ℕ) (asked : VersionAsk) → version_done t now asked ≢ allowed.Close
open_version t now (version.List user node) = λ is. cc
open_version t now (version.Get user node at) = here (version_row t.versions node at)
  where
    here : (o : Option VersionRow) → option_map_or (λ (row : VersionRow). allowed.Get node row.content) o nothing_done ≢ allowed.Close
    here None = λ is. cc
    here (Some row) = λ is. cc
open_version t now (version.Restore user node at) = here (version_row t.versions node at)
  where
    here : (o : Option VersionRow) → option_map_or (brought_back t now node) o nothing_done ≢ allowed.Close
    here None = λ is. cc
    here (Some row) = λ is. cc

-- an upload that is joined is put somewhere
open_upload : (call : Call) (asked : UploadAsk) → upload_done call (places_at call (Upload asked)) asked ≢ allowed.Close
open_upload call (upload.New user dir to) = λ is. cc
open_upload call (upload.Chunk user dir name to length) = here (chunk_number name)
  where
    here : (o : Option ℕ) → option_map_or (chunk_sent (asker_of call) dir length) o nothing_done ≢ allowed.Close
    here None = λ is. cc
    here (Some number) = λ is. cc
open_upload call (upload.Drop user dir) = λ is. cc
open_upload call (upload.Join dir spot total) = λ is. cc

open_put : (by : By) (name : List ℕ) (length : ℕ) (place : Found) → target_lost place ≡ None → stored by name length (Some place) ≢ allowed.Close
open_put by name length (Missing depth) there = absurd (cc)
open_put by name length place there = λ is. cc

open_made : (t : Tables) (now : ℕ) (name : List ℕ) (place : Found) → target_lost place ≡ None
    → (if is_some (node_found place) then Some (denial.Exists Files) else None) ≡ None → made_folder t now name (Some place) ≢ allowed.Close
open_made t now name (Free folder) there free = λ is. cc
open_made t now name place there free = absurd (cc)

-- what has a transfer is put somewhere
open_moved : (t : Tables) (now : ℕ) (name : List ℕ) (transfer : Option Transfer) → is_some transfer ≡ true → moved t now name transfer ≢ allowed.Close
open_moved t now name None some = absurd (cc)
open_moved t now name (Some transfer) some = λ is. cc

open_copied : (t : Tables) (now : ℕ) (name : List ℕ) (transfer : Option Transfer) → is_some transfer ≡ true → copied t now name transfer ≢ allowed.Close
open_copied t now name None some = absurd (cc)
open_copied t now name (Some transfer) some = λ is. cc

-- what fits has one
fits_some : (rows : List NodeRow) (root : ℕ) (from to : Way) → source_lost from.place ≡ None
    → unfit_between rows root false (record { source = Some from; target = Some to }) ≡ None
    → is_some (transfer_of rows (record { source = Some from.place; target = Some to.place })) ≡ true
fits_some rows root from to there fits = here from.place refl there (fit_parts rows (is_root_at rows root (Some from)) (is_off_mount root false to)
    (transfer_between rows root (record { source = Some from; target = Some to })) fits)
  where
    here : (place : Found) → from.place ≡ place → source_lost place ≡ None
        → FitParts rows (is_root_at rows root (Some from)) (is_off_mount root false to)
        (transfer_between rows root (record { source = Some from; target = Some to }))
        → is_some (option_and_then (λ node. transfer_to rows node to.place) (node_found place)) ≡ true
    here (At node) e there fit =
        let between : transfer_between rows root (record { source = Some from; target = Some to }) ≡ transfer_by rows root node to =
        ap (λ (place : Found). option_and_then (λ node. transfer_by rows root node to) (node_found place)) e in
        ap is_some (sym (same_transfer rows root node to fit.transfer fit.on (sym between ∙ fit.is)) ∙ sym between ∙ fit.is)
    here place e there fit = absurd (cc)

only_source : (o : Option Denial) → option_or o None ≡ None → o ≡ None
only_source None none = refl
only_source (Some refusal) none = absurd (cc)

open_shared : (access : Access) (call : Call) (places : Places) (asked : ShareAsk) → shared access call places asked ≢ allowed.Close
open_shared access call places (ask.New spot name perms until) = here (offered call spot name perms until)
  where
    here : (o : Option Offer) → option_map_or (share_made access call) o nothing_done ≢ allowed.Close
    here None = λ is. cc
    here (Some offer) = λ is. cc
open_shared access call places (ask.List spot with_me) = λ is. cc
open_shared access call places (ask.Show share) = here (share_shown call share)
  where
    here : (o : Option ShareRow) → option_map_or (share_told call.state.tables []) o nothing_done ≢ allowed.Close
    here None = λ is. cc
    here (Some row) = λ is. cc
open_shared access call places (ask.Set share perms until) = here (share_steered call share)
  where
    here : (o : Option ShareRow)
        → option_map_or (λ row. share_set call.state.tables (perms_after call.state.tables perms row) (until_after until row.until) row) o nothing_done
        ≢ allowed.Close
    here None = λ is. cc
    here (Some row) = λ is. cc
open_shared access call places (ask.End share) = here (share_steered call share)
  where
    here : (o : Option ShareRow) → option_map_or share_ended o nothing_done ≢ allowed.Close
    here None = λ is. cc
    here (Some row) = λ is. cc

open_given : (call : Call) (asked : Wanted) → PlacePasses (access_of call.state) call (asked_of asked)
    → taken call.state.tables.nodes (places_at call asked) (asked_of asked).makes ≡ None
    → unfit call.state.tables.nodes (root_of call) (asked_of asked) (ways_for call (asked_of asked)) ≡ None
    → given (access_of call.state) call (places_at call asked) asked ≢ allowed.Close
open_given call (Get spot) led free fits = open_served (access_of call.state) call (way_of call spot).mount (found call spot) led.there
open_given call (Put spot length) led free fits = open_put (by_of call spot) (last_name spot) length (found call spot) led.in_folder
open_given call (Mkcol spot) led free fits = open_made call.state.tables call.now (last_name spot) (found call spot) led.in_folder free
open_given call (Delete spot) led free fits = here (way_of call spot).itself
  where
    here : (b : Bool) → (if b then mount_left call (way_of call spot)
        else deleted call.state.tables call.now (node_at (only_at b (found call spot)).source)) ≢ allowed.Close
    here true = λ is. cc
    here false = open_deleted call.state.tables call.now (node_at (only_at false (found call spot)).source)
open_given call (Move source to overwrite) led free fits = here (way_of call source).itself fits
  where
    here : (b : Bool)
        → unfit_between call.state.tables.nodes (root_of call) b (record { source = Some (way_of call source); target = Some (way_of call to) }) ≡ None
        → (if b then mount_renamed call (way_of call source) (last_name to)
        else moved call.state.tables call.now (last_name to) (transfer_of call.state.tables.nodes
        (if b then record { source = None; target = None } else record { source = Some (found call source); target = Some (found call to) }))) ≢ allowed.Close
    here true fits = λ is. cc
    here false fits =
        let places : Places = record { source = Some (found call source); target = Some (found call to) } in
        open_moved call.state.tables call.now (last_name to) (transfer_of call.state.tables.nodes places)
        (fits_some call.state.tables.nodes (root_of call) (way_of call source) (way_of call to) led.there fits)
open_given call (Copy source to overwrite) led free fits =
    let places : Places = record { source = Some (found call source); target = Some (found call to) } in
    open_copied call.state.tables call.now (last_name to) (transfer_of call.state.tables.nodes places)
    (fits_some call.state.tables.nodes (root_of call) (way_of call source) (way_of call to) led.there fits)
open_given call (Share asked) led free fits = open_shared (access_of call.state) call (places_at call (Share asked)) asked
open_given call (People asked) led free fits = open_people call.state.tables call.now asked
open_given call (Trash asked) led free fits = open_trash call asked
open_given call (Version asked) led free fits = open_version call.state.tables call.now asked
open_given call (Upload asked) led free fits = open_upload call asked

-- a Begin isn't
pub begins_open : (s : State) (seat now : ℕ) (words : Words) (request : Request) → answer_to s seat now (Begin words request) ≢ Ok Closed
unfolding target_rule
begins_open s seat now words request =
    let call = call_of s seat now words request in
    let access = access_of s in
    open_answer (refusal_of access call) (allowed_of access call) (λ none.
    let pass = unrefused access call none in
    open_given call request.wanted (place_passes access call pass.place) (exists_passes access call pass.exists).0 (no_fault _ pass.target))

open_stored : (t : Tables) (now : ℕ) (key : LockKey) (digest : List ℕ) (length : ℕ) → stored_at t now key digest length ≢ allowed.Close
open_stored t now (Node node) digest length = λ is. cc
open_stored t now (Slot folder name) digest length = λ is. cc

-- nor is the End of a PUT with its body
pub bodies_open : (s : State) (seat now : ℕ) (digest : List ℕ) (length : ℕ) (by : By) (key : LockKey) (wanted : ℕ)
    → goal_at s seat ≡ Some (Store by key wanted)
    → answer_to s seat now (End (Body digest length)) ≢ Ok Closed
bodies_open s seat now digest length by key wanted has =
    subst (λ (goal : Option Goal). answered_by (ends_at (access_of s) s.tables now (Body digest length) goal) ≢ Ok Closed) (sym has)
    (open_answer (end_refusal (access_of s) s.tables now by key length) (stored_at s.tables now key digest length) (λ none. open_stored s.tables now key digest length))

-- nor that of a chunk
pub chunks_open : (s : State) (seat now : ℕ) (digest : List ℕ) (length user : ℕ) (dir : List ℕ) (number wanted : ℕ)
    → goal_at s seat ≡ Some (Chunk user dir number wanted)
    → answer_to s seat now (End (Body digest length)) ≢ Ok Closed
chunks_open s seat now digest length user dir number wanted has =
    subst (λ (goal : Option Goal). answered_by (ends_at (access_of s) s.tables now (Body digest length) goal) ≢ Ok Closed) (sym has)
    (open_answer (chunk_refusal s.tables user dir number length) (chunk_stored s.tables now user dir number digest length) (λ none is. cc))

-- ---- what grants nothing

-- no End grants anything
pub ends_grant_nothing : (s : State) (seat now : ℕ) (outcome : Outcome) (goal : Goal) → answer_to s seat now (End outcome) ≢ Ok (Granted goal)
ends_grant_nothing s seat now outcome goal = λ is. never_granted (decision_of s seat now (End outcome)) goal (end_nothing s seat now outcome) is

-- an answer that grants nothing
abbrev pub IsPlain : Result Reply Denial → Type 0
IsPlain answer = (goal : Goal) → answer ≢ Ok (Granted goal)

no_goal : (act : Allowed) → IsPlain (Ok (reply_to act)) → goal_of act ≡ None
no_goal (allowed.Get node content) plain = absurd (plain (Serve content) refl)
no_goal (allowed.Put by key length) plain = absurd (plain (Store by key length) refl)
no_goal (allowed.Chunk user dir number length) plain = absurd (plain (Chunk user dir number length) refl)
no_goal act plain = refl

plain_decided : (s : State) (seat now : ℕ) (decision : Result Allowed Denial) → IsPlain (answered_by decision)
    → (decided s seat now decision).tickets ≡ s.tickets
plain_decided s seat now (Ok act) plain = ap (λ (goal : Option Goal). with_goal s.tickets seat goal (hold_of act)) (no_goal act plain)
plain_decided s seat now (Err refusal) plain = refl

-- a Begin that grants nothing keeps the tickets
pub plain_keeps : (s : State) (seat now : ℕ) (words : Words) (request : Request) → IsPlain (answer_to s seat now (Begin words request))
    → (step s seat now (Begin words request)).tickets ≡ s.tickets
plain_keeps s seat now words request plain = plain_decided s seat now (decision_of s seat now (Begin words request)) plain
