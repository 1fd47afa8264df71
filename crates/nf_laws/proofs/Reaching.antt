-- What who asks is served is what may be read, and what may be read is served: the own, and what a mount leads to.
use Rattle.std.proofs.Common.{ℕ, ◌==◌, ◌≡◌, ◌≢◌, false, subst, true, Bool, List, [], Option, None, Some, Result, Ok, refl, sym, ap, ◌∙◌, ◌⊎◌, inl, inr}
use Rattle.std.specs.Prelude.{if◌then◌else◌}
use Rattle.std.specs.List.{list_any, All}
use Rattle.std.specs.Option.{option_map_or}
use Rattle.std.proofs.lemmas.Bool.{both_ways, cond_both}
use Rattle.std.proofs.lemmas.List.Elements.{All-head}
use Rattle.nf_access.proofs.Granted.{reach_is_a_chain_lem}
use Rattle.nf_access.specs.Access.{by_chains, is_open}
use Rattle.nf_access.specs.Shares.{ground_of}
use Rattle.nf_base.specs.declared.content.Piece.{Piece}
use Rattle.nf_base.specs.declared.perms.Act.TheVariants.{Read}
use Rattle.nf_base.specs.declared.rows.NodeRow.{NodeRow}
use Rattle.nf_defs.specs.Prelude.{content_of, is_folder, node_row, Tables}
use Rattle.nf_defs.specs.declared.Found.{Found}
use Rattle.nf_defs.specs.declared.Found.TheVariants.{At, Free, Missing}
use Rattle.nf_laws.proofs.Free.{unlocked_free, read_free}
use Rattle.nf_laws.proofs.Paths.{found_leads, leads_found}
use Rattle.nf_laws.proofs.Reading.{IsLet, granted, shows}
use Rattle.nf_laws.proofs.Rows.{row_id}
use Rattle.nf_laws.specs.Access.{IsReachedBy, IsReadable, LeadsBy, ListsWhatMayBeRead, ServesWhatMayBeRead, WhatMayBeReadIsListed, WhatMayBeReadIsServed, IsReadableFile, IsReadableFolder, IsReadableVersion}
use Rattle.nf_laws.specs.Reads.{IsFreeToRead}
use Rattle.nf_words.proofs.Begins.{places_at, wanted_passes, WantedPasses}
use Rattle.nf_words.proofs.Passing.{Passes, call_passes, if_none, MayDo, version_acts_pass}
use Rattle.nf_words.proofs.Starts.{has_asker}
use Rattle.nf_words.proofs.Steps.{ok_reply, reports_nothing}
use Rattle.nf_words.proofs.Ways.{bounded, way_there}
use Rattle.nf_words.specs.Prelude.{access_of, allowed_of, answered_by, AreSound, behind, broken_by, by_of, Call, call_decision, call_of, copied, deleted, done, found, given, item_dropped, item_restored, last_name, listing_of, made_folder, may_by, MayWant, mount_left, mount_of, mount_renamed, moved, Need, node_at, node_found, nothing_done, offered, own_item, people_done, perms_after, reported, requoted, root_of, row_named, seeker_of, served, share_ended, share_made, share_set, share_shown, share_steered, until_after, share_told, shared, stored, transfer_of, trash_done, unreached, way_by, way_of, charged_to, requoting, settled_by, version_done, version_row, brought_back, mount_by, needed_for, asker_of, assembled, chunk_number, chunk_sent, upload_done}
use Rattle.nf_words.specs.declared.answer.Allowed.{Allowed}
use Rattle.nf_words.specs.declared.answer.Allowed.TheVariants as allowed
use Rattle.nf_words.specs.declared.answer.Report.TheVariants as report
use Rattle.nf_words.specs.declared.answer.By.{By}
use Rattle.nf_words.specs.declared.answer.Denial.{Denial}
use Rattle.nf_words.specs.declared.answer.Goal.TheVariants.{Serve}
use Rattle.nf_words.specs.declared.answer.Reply.TheVariants.{Granted, Listing}
use Rattle.nf_words.specs.declared.answer.Report.{Report}
use Rattle.nf_words.specs.declared.listing.ListingLine.{ListingLine}
use Rattle.nf_words.specs.declared.request.PeopleAsk.{PeopleAsk}
use Rattle.nf_words.specs.declared.request.PeopleAsk.TheVariants as people
use Rattle.nf_words.specs.declared.request.Places.{Places}
use Rattle.nf_words.specs.declared.request.ShareAsk.{ShareAsk}
use Rattle.nf_words.specs.declared.request.ShareAsk.TheVariants as ask
use Rattle.nf_words.specs.declared.request.Spot.{Spot}
use Rattle.nf_words.specs.declared.request.Transfer.{Transfer}
use Rattle.nf_words.specs.declared.request.TrashAsk.{TrashAsk}
use Rattle.nf_words.specs.declared.request.TrashAsk.TheVariants as trash
use Rattle.nf_words.specs.declared.request.Wanted.{Wanted}
use Rattle.nf_words.specs.declared.request.Wanted.TheVariants.{Get, Put, Mkcol, Delete, Move, Copy, People, Share, Trash}
use Rattle.nf_words.specs.declared.request.Wanted.TheVariants as want
use Rattle.nf_words.specs.declared.request.VersionAsk.{VersionAsk}
use Rattle.nf_words.specs.declared.request.VersionAsk.TheVariants as version
use Rattle.nf_words.specs.declared.request.UploadAsk.{UploadAsk}
use Rattle.nf_words.specs.declared.request.UploadAsk.TheVariants as upload
use Rattle.nf_base.specs.declared.rows.VersionRow.{VersionRow}
use Rattle.nf_words.proofs.Versioned.{named_present, no_folder}

-- ---- what is shown

-- no report is a listing
report_lists_none : (report : Report) (listing : List ListingLine) → reported report ≢ Listing listing
report_lists_none report.Made listing = λ is. cc
report_lists_none report.Done listing = λ is. cc
report_lists_none (report.Share line) listing = λ is. cc
report_lists_none (report.Shares lines) listing = λ is. cc
report_lists_none (report.Items lines) listing = λ is. cc
report_lists_none (report.Versions lines) listing = λ is. cc
report_lists_none report.Plain listing = λ is. cc

-- only a GET is granted a content to send
pub got : (decision : Result Allowed Denial) (content : List Piece) → answered_by decision ≡ Ok (Granted (Serve content))
    → (node : ℕ) × (decision ≡ Ok (allowed.Get node content))
got (Ok (allowed.Get node other)) content is = (node, cc)
got (Ok (allowed.Change changes blob report)) content is = absurd (reports_nothing report (Serve content) (ok_reply _ _ is))
got (Ok (allowed.Deeds deeds report)) content is = absurd (reports_nothing report (Serve content) (ok_reply _ _ is))
got decision content is = absurd (cc)

-- only a GET is answered a listing
pub got_listing : (decision : Result Allowed Denial) (listing : List ListingLine) → answered_by decision ≡ Ok (Listing listing)
    → decision ≡ Ok (allowed.List listing)
got_listing (Ok (allowed.List other)) listing is = cc
got_listing (Ok (allowed.Change changes blob report)) listing is = absurd (report_lists_none report listing (ok_reply _ _ is))
got_listing (Ok (allowed.Deeds deeds report)) listing is = absurd (report_lists_none report listing (ok_reply _ _ is))
got_listing decision listing is = absurd (cc)

-- it shows a file or a folder
abbrev pub is_shown : Allowed → Bool
is_shown (allowed.Get node content) = true
is_shown (allowed.List listing) = true
is_shown act = false

-- which a GET alone does
stored_hides : (by : By) (name : List ℕ) (length : ℕ) (o : Option Found) → is_shown (stored by name length o) ≡ false
stored_hides by name length None = refl
stored_hides by name length (Some (At node)) = refl
stored_hides by name length (Some (Free folder)) = refl
stored_hides by name length (Some (Missing depth)) = refl

folder_hides : (t : Tables) (now : ℕ) (name : List ℕ) (o : Option Found) → is_shown (made_folder t now name o) ≡ false
folder_hides t now name None = refl
folder_hides t now name (Some (At node)) = refl
folder_hides t now name (Some (Free folder)) = refl
folder_hides t now name (Some (Missing depth)) = refl

either_hides : (b : Bool) (one other : Allowed) → is_shown one ≡ false → is_shown other ≡ false → is_shown (if b then one else other) ≡ false
either_hides true one other first second = first
either_hides false one other first second = second

moved_hides : (t : Tables) (now : ℕ) (name : List ℕ) (o : Option Transfer) → is_shown (moved t now name o) ≡ false
moved_hides t now name None = refl
moved_hides t now name (Some transfer) = refl

copied_hides : (t : Tables) (now : ℕ) (name : List ℕ) (o : Option Transfer) → is_shown (copied t now name o) ≡ false
copied_hides t now name None = refl
copied_hides t now name (Some transfer) = refl

-- what is done for what is found
found_hides : {X : Type 0} (act : X → Allowed) (o : Option X) → ((x : X) → is_shown (act x) ≡ false) → is_shown (option_map_or act o nothing_done) ≡ false
found_hides act None all = refl
found_hides act (Some x) all = all x

shared_hides : (call : Call) (places : Places) (asked : ShareAsk) → is_shown (shared (access_of call.state) call places asked) ≡ false
shared_hides call places (ask.New spot to perms until) =
    found_hides (share_made (access_of call.state) call) (offered call spot to perms until) (λ offer. refl)
shared_hides call places (ask.List spot with_me) = refl
shared_hides call places (ask.Show share) = found_hides (share_told call.state.tables []) (share_shown call share) (λ row. refl)
shared_hides call places (ask.Set share perms until) =
    found_hides (λ row. share_set call.state.tables (perms_after call.state.tables perms row) (until_after until row.until) row) (share_steered call share)
    (λ row. refl)
shared_hides call places (ask.End share) = found_hides share_ended (share_steered call share) (λ row. refl)

people_hides : (t : Tables) (now : ℕ) (asked : PeopleAsk) → is_shown (people_done t now asked) ≡ false
people_hides t now (people.SetQuota user quota) =
    found_hides (requoted t now quota) (row_named t user) (λ row.
    either_hides (row.quota == quota) nothing_done
    (done (settled_by t (charged_to t quota row) (requoting t now quota row)) report.Plain) refl refl)
people_hides t now (people.NewUser name token quota) = refl
people_hides t now (people.NewGroup name) = refl
people_hides t now (people.AddMember user group) = refl
people_hides t now (people.DropMember user group) = refl
people_hides t now (people.AddToken user token) = refl

trash_hides : (call : Call) (asked : TrashAsk) → is_shown (trash_done call asked) ≡ false
trash_hides call (trash.List user) = refl
trash_hides call (trash.Drop user item) = found_hides (item_dropped call.state.tables call.now) (own_item call item) (λ row. refl)
trash_hides call (trash.Empty user) = refl
trash_hides call (trash.Restore user item) = found_hides (item_restored call.state.tables call.now) (own_item call item) (λ row. refl)

-- and what is asked about uploads
assembled_hides : (t : Tables) (now user : ℕ) (name dir : List ℕ) (o : Option Found)
    → is_shown (option_map_or (assembled t now name user dir) o allowed.Close) ≡ false
assembled_hides t now user name dir None = refl
assembled_hides t now user name dir (Some place) = refl

upload_hides : (call : Call) (places : Places) (asked : UploadAsk) → is_shown (upload_done call places asked) ≡ false
upload_hides call places (upload.New user dir to) = refl
upload_hides call places (upload.Chunk user dir name to length) =
    found_hides (chunk_sent (asker_of call) dir length) (chunk_number name) (λ number. refl)
upload_hides call places (upload.Drop user dir) = refl
upload_hides call places (upload.Join dir spot total) =
    assembled_hides call.state.tables call.now (asker_of call) (last_name spot) dir places.target

-- an act that a GET asks for, whose place leads there
abbrev pub ShowsPlace : Call → Allowed → Type 0
ShowsPlace call act =
    (spot : Spot) × (call.request.wanted ≡ Get spot)
    × (served (access_of call.state) call (way_of call spot).mount (node_found (found call spot)) ≡ act)

-- or what is asked about versions
abbrev pub ShowsVersion : Call → Allowed → Type 0
ShowsVersion call act = (ask : VersionAsk) × (call.request.wanted ≡ want.Version ask) × (version_done call.state.tables call.now ask ≡ act)

-- what is shown is asked for so
pub asked : (call : Call) (act : Allowed) → allowed_of (access_of call.state) call ≡ act → is_shown act ≡ true
    → ShowsPlace call act ⊎ ShowsVersion call act
asked call act is shown = here call.request.wanted refl is
  where
    t : Tables
    t = call.state.tables

    none : (hidden : Allowed) → is_shown hidden ≡ false → hidden ≡ act → ⊥
    none hidden hides same = both_ways (is_shown act) (ap is_shown (sym same) ∙ hides) shown

    here : (wanted : Wanted) → call.request.wanted ≡ wanted → given (access_of call.state) call (places_at call wanted) wanted ≡ act
        → ShowsPlace call act ⊎ ShowsVersion call act
    here (Get spot) e is = inl (spot, e, is)
    here (want.Version ask) e is = inr (ask, e, is)
    here (Put spot length) e is =
        absurd (none (stored (by_of call spot) (last_name spot) length (Some (found call spot)))
        (stored_hides (by_of call spot) (last_name spot) length (Some (found call spot))) is)
    here (Mkcol spot) e is =
        absurd (none (made_folder t call.now (last_name spot) (Some (found call spot))) (folder_hides t call.now (last_name spot) (Some (found call spot))) is)
    here (Delete spot) e is =
        let way = way_of call spot in
        let node = node_at (places_at call (Delete spot)).source in
        absurd (none (if way.itself then mount_left call way else deleted t call.now node)
        (either_hides way.itself (mount_left call way) (deleted t call.now node) refl refl) is)
    here (Move source target overwrite) e is =
        let way = way_of call source in
        let name = last_name target in
        let transfer = transfer_of t.nodes (places_at call (Move source target overwrite)) in
        absurd (none (if way.itself then mount_renamed call way name else moved t call.now name transfer)
        (either_hides way.itself (mount_renamed call way name) (moved t call.now name transfer) refl (moved_hides t call.now name transfer)) is)
    here (Copy source target overwrite) e is =
        let name = last_name target in
        let transfer = transfer_of t.nodes (places_at call (Copy source target overwrite)) in
        absurd (none (copied t call.now name transfer) (copied_hides t call.now name transfer) is)
    here (Share ask) e is =
        absurd (none (shared (access_of call.state) call (places_at call (Share ask)) ask)
        (shared_hides call (places_at call (Share ask)) ask) is)
    here (People ask) e is = absurd (none (people_done t call.now ask) (people_hides t call.now ask) is)
    here (Trash ask) e is = absurd (none (trash_done call ask) (trash_hides call ask) is)
    here (want.Upload ask) e is =
        let places = places_at call (want.Upload ask) in absurd (none (upload_done call places ask) (upload_hides call places ask) is)

-- which lists no folder
version_lists_none : (t : Tables) (now : ℕ) (ask : VersionAsk) (listing : List ListingLine) → version_done t now ask ≡ allowed.List listing → ⊥
version_lists_none t now (version.List user node) listing is = cc
version_lists_none t now (version.Get user node at) listing is = here (version_row t.versions node at) is
  where
    here : (o : Option VersionRow) → option_map_or (λ (row : VersionRow). allowed.Get node row.content) o nothing_done ≡ allowed.List listing → ⊥
    here None is = cc
    here (Some row) is = cc
version_lists_none t now (version.Restore user node at) listing is = here (version_row t.versions node at) is
  where
    here : (o : Option VersionRow) → option_map_or (brought_back t now node) o nothing_done ≡ allowed.List listing → ⊥
    here None is = cc
    here (Some row) is = cc

-- and sends the content of a version that is there
pub record IsSent (t : Tables) (ask : VersionAsk) (node : ℕ) (content : List Piece) : Type 0 where
  pub user : List ℕ
  pub at : ℕ
  pub row : VersionRow
  pub is : ask ≡ version.Get user node at
  pub there : version_row t.versions node at ≡ Some row
  pub sent : row.content ≡ content

pub sent_by : (t : Tables) (now : ℕ) (ask : VersionAsk) (node : ℕ) (content : List Piece) → version_done t now ask ≡ allowed.Get node content
    → IsSent t ask node content
sent_by t now (version.List user n) node content is = absurd (cc)
sent_by t now (version.Get user n at) node content is = here (version_row t.versions n at) refl is
  where
    here : (o : Option VersionRow) → version_row t.versions n at ≡ o
        → option_map_or (λ (row : VersionRow). allowed.Get n row.content) o nothing_done ≡ allowed.Get node content
        → IsSent t (version.Get user n at) node content
    here None there is = absurd (cc)
    here (Some row) there is =
        let same : n ≡ node = cc in
        let sent : row.content ≡ content = cc in
        record {
          user = user;
          at = at;
          row = row;
          is = ap (λ (k : ℕ). version.Get user k at) same;
          there = ap (λ (k : ℕ). version_row t.versions k at) (sym same) ∙ there;
          sent = sent;
        }
sent_by t now (version.Restore user n at) node content is = here (version_row t.versions n at) is
  where
    here : (o : Option VersionRow) → option_map_or (brought_back t now n) o nothing_done ≡ allowed.Get node content
        → IsSent t (version.Restore user n at) node content
    here None is = absurd (cc)
    here (Some row) is = absurd (cc)

-- a GET gives that of the node at its place
pub get_at : (call : Call) (mount : Option ℕ) (place : Found) (node : ℕ) (content : List Piece)
    → served (access_of call.state) call mount (node_found place) ≡ allowed.Get node content
    → (place ≡ At node) × (is_folder call.state.tables.nodes node ≡ false) × (content ≡ content_of call.state.tables.nodes node)
get_at call mount (At other) node content is =
    let t = call.state.tables in
    cond_both (is_folder t.nodes other) (allowed.List (listing_of (access_of call.state) call mount other)) (allowed.Get other (content_of t.nodes other))
    (λ act. act ≡ allowed.Get node content
    → (At other ≡ At node) × (is_folder t.nodes node ≡ false) × (content ≡ content_of t.nodes node)) (λ folder is. absurd (cc))
    (λ file is.
    let same : other ≡ node = cc in
    let sent : content_of t.nodes other ≡ content = cc in (
      ap At same,
      subst (λ (n : ℕ). is_folder t.nodes n ≡ false) same file,
      sym sent ∙ ap (content_of t.nodes) same,
    )) is
get_at call mount (Free folder) node content is = absurd (cc)
get_at call mount (Missing depth) node content is = absurd (cc)

-- or lists the folder that is there
pub list_at : (call : Call) (mount : Option ℕ) (place : Found) (listing : List ListingLine)
    → served (access_of call.state) call mount (node_found place) ≡ allowed.List listing
    → (folder : ℕ) × (place ≡ At folder) × (is_folder call.state.tables.nodes folder ≡ true)
    × (listing ≡ listing_of (access_of call.state) call mount folder)
list_at call mount (At other) listing is =
    let t = call.state.tables in
    let lines = listing_of (access_of call.state) call mount other in
    cond_both (is_folder t.nodes other) (allowed.List lines) (allowed.Get other (content_of t.nodes other))
    (λ act. act ≡ allowed.List listing
    → (folder : ℕ) × (At other ≡ At folder) × (is_folder t.nodes folder ≡ true) × (listing ≡ listing_of (access_of call.state) call mount folder))
    (λ folder is. let same : lines ≡ listing = cc in (other, refl, folder, sym same)) (λ file is. absurd (cc)) is
list_at call mount (Free folder) listing is = absurd (cc)
list_at call mount (Missing depth) listing is = absurd (cc)

-- ---- where a path leads

pub way_mount : (call : Call) (spot : Spot) → (way_of call spot).mount ≡ mount_of call spot
way_mount call spot = here (mount_of call spot)
  where
    here : (mount : Option ℕ) → (way_by call.state.tables.nodes (seeker_of call) (root_of call) spot.path mount).mount ≡ mount
    here None = refl
    here (Some mount) = refl

-- a way whose mount, if there is one, reaches who asks, is that of a chain
reached_by : (call : Call) (spot : Spot) → AreSound call.state.tables → unreached (access_of call.state) call (way_of call spot) ≡ None
    → IsReachedBy call (mount_of call spot)
reached_by call spot sound reached = here (mount_of call spot) reached
  where
    t : Tables
    t = call.state.tables

    here : (mount : Option ℕ) → unreached (access_of call.state) call (way_by t.nodes (seeker_of call) (root_of call) spot.path mount) ≡ None → IsReachedBy call mount
    here None passes = tt
    here (Some mount) passes =
        (reach_is_a_chain_lem (ground_of t) call.now (seeker_of call) mount (bounded t sound)).0
        (if_none (list_any (is_open call.now) (by_chains (ground_of t) (seeker_of call) mount)) _ passes)

-- and that of a chain reaches
chain_reaches : (call : Call) (spot : Spot) → AreSound call.state.tables → IsReachedBy call (mount_of call spot)
    → unreached (access_of call.state) call (way_of call spot) ≡ None
chain_reaches call spot sound reached = here (mount_of call spot) reached
  where
    t : Tables
    t = call.state.tables

    here : (mount : Option ℕ) → IsReachedBy call mount → unreached (access_of call.state) call (way_by t.nodes (seeker_of call) (root_of call) spot.path mount) ≡ None
    here None reached = refl
    here (Some mount) reached =
        ap (λ (b : Bool). if b then None else Some (broken_by (ground_of t) (seeker_of call) call.now None mount))
        ((reach_is_a_chain_lem (ground_of t) call.now (seeker_of call) mount (bounded t sound)).1 reached)

pub leads_by : (call : Call) (spot : Spot) (node : ℕ) → AreSound call.state.tables → found call spot ≡ At node → LeadsBy call spot (mount_of call spot) node
leads_by call spot node sound at = here (mount_of call spot) at
  where
    t : Tables
    t = call.state.tables

    here : (mount : Option ℕ) → (way_by t.nodes (seeker_of call) (root_of call) spot.path mount).place ≡ At node → LeadsBy call spot mount node
    here None at = found_leads t (root_of call) spot.path node sound at
    here (Some mount) at = found_leads t mount (behind (seeker_of call) spot.path) node sound at

-- ---- what is served may be read

-- what is at the end of the path of a GET that no rule refuses is there, and may be read
record Reads (call : Call) (spot : Spot) (node : ℕ) : Type 0 where
  row : NodeRow
  id : row.id ≡ node
  there : node_row call.state.tables.nodes node ≡ Some row
  readable : IsReadable call row
  by : readable.spot ≡ spot

reads : (call : Call) (spot : Spot) (node : ℕ) → AreSound call.state.tables → MayWant call.request → Passes (access_of call.state) call
    → call.request.wanted ≡ Get spot → found call spot ≡ At node → Reads call spot node
reads call spot node sound may passes wanted at =
    let t = call.state.tables in
    let p = subst (WantedPasses call) wanted (wanted_passes call may passes) in
    let reached = p.place.source refl in
    let of = way_there call spot sound (has_asker call passes.token p.place.linked) node reached at in
    let id = row_id t.nodes node of.0 of.1 in
    let back : node ≡ of.0.id = sym id in
    let read = λ (n : ℕ) (mount : Option ℕ). may_by (access_of call.state) t.nodes (seeker_of call) call.now Read n mount in
    let May = λ (need : Need). may_by (access_of call.state) t.nodes (seeker_of call) call.now need.act need.node need.mount ≡ true in
    let needs : read node (way_of call spot).mount ≡ true =
    All-head May (record { act = Read; node = node; mount = (way_of call spot).mount }) [] (rw at at p.may) in
    record {
      row = of.0;
      id = id;
      there = of.1;
      readable = record {
        spot = spot;
        asked = wanted;
        well = record { token = passes.token; not_you = passes.not_you; forbidden = passes.forbidden; linked = p.place.linked };
        there = ap (node_row t.nodes) id ∙ of.1;
        led = leads_by call spot of.0.id sound (at ∙ ap At back);
        reached = reached_by call spot sound reached;
        may = ap (λ (n : ℕ). read n (mount_of call spot)) id ∙ ap (read node) (sym (way_mount call spot)) ∙ needs;
      };
      by = refl;
    }

-- a version that is sent is one that may be read
version_readable : (call : Call) (user : List ℕ) (node at : ℕ) (row : VersionRow) (content : List Piece) → AreSound call.state.tables
    → MayWant call.request → Passes (access_of call.state) call → call.request.wanted ≡ want.Version (version.Get user node at)
    → version_row call.state.tables.versions node at ≡ Some row → row.content ≡ content → IsReadableVersion call content
version_readable call user node at row content sound may passes wanted there sent =
    let t = call.state.tables in
    let ask = version.Get user node at in
    let p = subst (WantedPasses call) wanted (wanted_passes call may passes) in
    let mount = mount_by (access_of call.state) t.nodes t.mounts (seeker_of call) (asker_of call) call.now Read node in
    record {
      user = user;
      node = node;
      at = at;
      asked = wanted;
      well = record { token = passes.token; not_you = passes.not_you; forbidden = passes.forbidden; linked = p.place.linked };
      present = named_present call sound ask p.named;
      file = no_folder call sound ask p.version;
      row = row;
      there = there;
      seen = p.named;
      may = All-head (MayDo (access_of call.state) call) (record { act = Read; node = node; mount = mount }) []
          (subst (λ (w : Wanted). All (MayDo (access_of call.state) call) (needed_for (access_of call.state) call w)) wanted
          (version_acts_pass (access_of call.state) call passes.acts));
      free = read_free call node (rw wanted refl) passes.locked;
      sent = sent;
    }

pub serves_readable : ServesWhatMayBeRead
serves_readable s seat now words request content sound may is =
    elim (asked call act passes.1 refl) [
      | inl spot ↦ inl (file spot)
      | inr ask ↦
          (let of = sent_by s.tables now ask.0 get.0 content ask.2 in
          inr (version_readable call of.user get.0 of.at of.row content sound.rows may passes.0 (ask.1 ∙ ap want.Version of.is) of.there of.sent))
    ]
  where
    call : Call
    call = call_of s seat now words request

    get : (node : ℕ) × (call_decision call ≡ Ok (allowed.Get node content))
    get = got (call_decision call) content is

    act : Allowed
    act = allowed.Get get.0 content

    passes : Passes (access_of s) call × (allowed_of (access_of s) call ≡ act)
    passes = call_passes call act get.1

    file : ShowsPlace call act → IsReadableFile call content
    file spot =
        let at = get_at call (way_of call spot.0).mount (found call spot.0) get.0 content spot.2 in
        let of = reads call spot.0 get.0 sound.rows may passes.0 spot.1 at.0 in
        record {
          row = of.row;
          readable = of.readable;
          file = rw of.there at at.1;
          free = subst (IsFreeToRead s seat) (sym of.id) (unlocked_free call spot.0 get.0 spot.1 at.0 passes.0.locked at.1);
          sent = sym (at.2 ∙ ap (λ (o : Option NodeRow). option_map_or (λ row. row.content) o []) of.there);
        }

pub lists_readable : ListsWhatMayBeRead
lists_readable s seat now words request listing sound may is =
    elim (asked call act passes.1 refl) [
      | inl spot ↦ folder spot
      | inr ask ↦ absurd (version_lists_none s.tables now ask.0 listing ask.2)
    ]
  where
    call : Call
    call = call_of s seat now words request

    act : Allowed
    act = allowed.List listing

    passes : Passes (access_of s) call × (allowed_of (access_of s) call ≡ act)
    passes = call_passes call act (got_listing (call_decision call) listing is)

    folder : ShowsPlace call act → IsReadableFolder call listing
    folder spot =
        let at = list_at call (way_of call spot.0).mount (found call spot.0) listing spot.2 in
        let of = reads call spot.0 at.0 sound.rows may passes.0 spot.1 at.1 in
        record {
          row = of.row;
          readable = of.readable;
          folder = rw of.there at at.2;
          listed = at.3 ∙ ap (λ (mount : Option ℕ). listing_of (access_of s) call mount at.0) (way_mount call spot.0)
              ∙ (λ i. listing_of (access_of s) call (mount_of call (sym of.by i)) (sym of.id i));
        }

-- ---- what may be read is served

-- what may be read is where the path leads
at_readable : (call : Call) (row : NodeRow) → AreSound call.state.tables → (is : IsReadable call row) → found call is.spot ≡ At row.id
at_readable call row sound is = here (mount_of call is.spot) is.led
  where
    t : Tables
    t = call.state.tables

    here : (mount : Option ℕ) → LeadsBy call is.spot mount row.id → (way_by t.nodes (seeker_of call) (root_of call) is.spot.path mount).place ≡ At row.id
    here None led = leads_found t 0 (root_of call) is.spot.path row.id sound led
    here (Some mount) led = leads_found t 0 mount (behind (seeker_of call) is.spot.path) row.id sound led

readable_let : (call : Call) (row : NodeRow) → AreSound call.state.tables → (is : IsReadable call row) → IsLet call is.spot row.id
readable_let call row sound is = record {
  reached = chain_reaches call is.spot sound is.reached;
  reads = ap (may_by (access_of call.state) call.state.tables.nodes (seeker_of call) call.now Read row.id) (way_mount call is.spot) ∙ is.may;
}

pub readable_served : WhatMayBeReadIsServed
readable_served s seat now words request content sound is =
    let call = call_of s seat now words request in
    let it = is.readable in
    granted call it.spot is.row.id is.row it.asked (at_readable call is.row sound.rows it) it.there is.file it.well (readable_let call is.row sound.rows it) is.free
    ∙ ap (λ (c : List Piece). answered_by (Ok (allowed.Get is.row.id c))) is.sent

pub readable_listed : WhatMayBeReadIsListed
readable_listed s seat now words request listing sound is =
    let call = call_of s seat now words request in
    let it = is.readable in
    let folder : is_folder s.tables.nodes is.row.id ≡ true = rw it.there is.folder in
    ap answered_by (shows call it.spot is.row.id it.asked (at_readable call is.row sound.rows it) it.well (readable_let call is.row sound.rows it)
    (λ file. absurd (both_ways (is_folder s.tables.nodes is.row.id) file folder)))
    ∙ rw folder (ap (λ (mount : Option ℕ). answered_by (Ok (allowed.List (listing_of (access_of s) call mount is.row.id)))) (way_mount call it.spot)
    ∙ ap (λ (lines : List ListingLine). answered_by (Ok (allowed.List lines))) (sym is.listed))
