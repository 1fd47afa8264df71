-- Where a step makes a row another, who acts may do all that is needed, and what became of the node follows from it.
use Rattle.std.proofs.Common.{ℕ, zero, suc, ◌≡◌, ◌≢◌, ◌⊎◌, ◌≤◌, false, List, [], ◌∷◌, Option, None, Some, Ok, inl, inr, refl, sym, ap, subst, ◌∙◌, arith, ◌++◌}
use Rattle.std.specs.List.{All}
use Rattle.std.specs.Option.{IfSome, option_and_then, option_map_or}
use Rattle.nf_access.specs.Shares.{ground_of}
use Rattle.nf_base.specs.declared.perms.Act.TheVariants as act
use Rattle.nf_defs.specs.Prelude.{Tables, Access, put_all}
use Rattle.nf_defs.specs.declared.Seeker.{Seeker}
use Rattle.nf_laws.proofs.Acting.{put_rows}
use Rattle.nf_laws.proofs.Entries.{entry_has}
use Rattle.nf_laws.proofs.Assembling.{assembled_fits, put_fits, stored_sound, stored_tables}
use Rattle.nf_laws.proofs.Chunking.{abandon_leaves, chunk_leaves, is_that, LeavesOthers, only_part, only_these, that_is, upload_left}
use Rattle.nf_laws.proofs.Fitting.{asked_for, begin_fits, Fits, is_apart, need_of, OneOther, versions_fit}
use Rattle.nf_laws.proofs.Providing.{people_provide}
use Rattle.nf_laws.proofs.Refilled.{changed_rest}
use Rattle.nf_laws.proofs.Rows.{stamp, stamped_has}
use Rattle.nf_laws.proofs.Settling.{beside_settled, dated_leaves, same_allowed, same_nodes, sweep_allowed, trash_allowed, uploads_allowed}
use Rattle.nf_laws.proofs.Stays.{sound_after}
use Rattle.nf_laws.specs.Access.{by_asking, by_delete, by_quota, by_sweep, ChangesAllowed, ChangesWhatMayBeChanged, IsItemSettled, IsNeeded, IsProviding, IsRemounted, IsRestoring, IsSharing, IsThatUpload, is_asked, is_same, is_sent, is_swept, MayDo, needs_of, needs_of_goal, NodesAllowed, seeker_at, seeker_of_goal, Settles, upload_asked, UploadsFollow}
use Rattle.nf_words.proofs.Begins.{call_known, places_at, wanted_passes, WantedPasses}
use Rattle.nf_words.proofs.Ends.{known_change, goal_held}
use Rattle.nf_words.proofs.Known.{Known}
use Rattle.nf_words.proofs.Passing.{call_passes, end_passes, needs_pass, not_refused, Passes, all_acts_pass}
use Rattle.nf_words.proofs.Starts.{has_asker, IsAsking}
use Rattle.nf_words.specs.Prelude.{abandoned, access_of, allowed_of, AreSound, assembled, assembled_at, blob_for, chunk_number, chunk_put, chunk_refusal, chunk_sent, chunk_stored, Call, call_of, call_decision, changed, content_in, decision_of, deeds_done, done, end_refusal, found, last_name, ends_at, given, goal_at, IsSound, IsStorable, MayAsk, MayEnd, MayWant, Need, needed, needed_by, nothing_done, places_of, purges, replaced, seeker_of, State, stored_at, swept, told, upload_begun, upload_done, upload_row, upload_touched, whole_of, forgets, needed_for, mount_by, asker_of}
use Rattle.nf_words.specs.declared.answer.Allowed.{Allowed}
use Rattle.nf_words.specs.declared.answer.Allowed.TheVariants as allowed
use Rattle.nf_words.specs.declared.answer.Deed.TheVariants as deed
use Rattle.nf_words.specs.declared.answer.Goal.{Goal}
use Rattle.nf_words.specs.declared.answer.Goal.TheVariants.{Chunk, Serve, Store}
use Rattle.nf_words.specs.declared.answer.LockKey.TheVariants.{Node, Slot}
use Rattle.nf_words.specs.declared.answer.Report.TheVariants.{Done, Made}
use Rattle.nf_words.specs.declared.history.Entry.{Entry}
use Rattle.nf_words.specs.declared.history.Event.{Event}
use Rattle.nf_words.specs.declared.history.Event.TheVariants.{Begin, End, Sweep}
use Rattle.nf_words.specs.declared.history.Outcome.{Outcome}
use Rattle.nf_words.specs.declared.history.Outcome.TheVariants.{Body}
use Rattle.nf_words.specs.declared.request.PeopleAsk.{PeopleAsk}
use Rattle.nf_words.specs.declared.request.Request.{Request}
use Rattle.nf_words.specs.declared.request.Wanted.{Wanted}
use Rattle.nf_words.specs.declared.request.Wanted.TheVariants.{Get, Put, Mkcol, Delete, Move, Copy, People, Share, Trash}
use Rattle.nf_words.specs.declared.request.Wanted.TheVariants as want
use Rattle.nf_words.specs.declared.request.Words.{Words}
use Rattle.nf_words.specs.Needed.{act_asked, node_asked}
use Rattle.nf_laws.proofs.Behind.{forgets_only, versioned}
use Rattle.nf_base.specs.declared.rows.ChunkRow.{ChunkRow}
use Rattle.nf_base.specs.declared.rows.UploadRow.{UploadRow}
use Rattle.nf_base.specs.declared.rows.VersionRow.{VersionRow}
use Rattle.nf_words.specs.declared.request.Spot.{Spot}
use Rattle.nf_words.specs.declared.request.UploadAsk.{UploadAsk}
use Rattle.nf_words.specs.declared.request.UploadAsk.TheVariants as upload
use Rattle.nf_words.specs.declared.request.VersionAsk.{VersionAsk}
use Rattle.std.proofs.lemmas.List.{append-nil}
use Rattle.std.proofs.lemmas.Bool.{false≢true}
use Rattle.std.proofs.lemmas.List.Elements.{Contains-append_right}

-- ---- the law

-- what the law says of the tables, where they are sound
abbrev IsFine : State → Entry → Tables → Type 0
IsFine s e made = AreSound made → ChangesAllowed s e made

fits_allowed : (s : State) (e : Entry) (event : Event) (seeker : Seeker) (Other : Tables → Type 0) (made after : Tables) → e.event ≡ event
    → seeker_at s e.seat e.moment event ≡ Some seeker → All (MayDo s e.moment seeker) (needs_of s e.seat e.moment event)
    → Fits s.tables e.moment (needs_of s e.seat e.moment event) Other made → ((u : Tables) → Other u → IsRemounted s e u ⊎ IsSharing s e u)
    → AreSound made → UploadsFollow s e made after → ChangesAllowed s e after
fits_allowed s e event seeker Other made after at is may fits other fine uploads =
    here (subst (λ (event : Event). seeker_at s e.seat e.moment event ≡ Some seeker) (sym at) is)
    (subst (λ (event : Event). All (MayDo s e.moment seeker) (needs_of s e.seat e.moment event)) (sym at) may)
    (subst (λ (event : Event). Fits s.tables e.moment (needs_of s e.seat e.moment event) Other made) (sym at) fits)
  where
    here : seeker_at s e.seat e.moment e.event ≡ Some seeker → All (MayDo s e.moment seeker) (needs_of s e.seat e.moment e.event)
        → Fits s.tables e.moment (needs_of s e.seat e.moment e.event) Other made → ChangesAllowed s e after
    here is may fits = record {
      between = fits.between;
      allowed = inl (record {
        nodes = λ node differs. record { seeker = seeker; acts = is; may = may; follows = fits.follow node differs };
        others = elim fits.others [ inl keeps ↦ inl (keeps fine) | inr one ↦ inr (other fits.between one) ];
        items = fits.items;
        rest = fits.rest;
      });
      behind = made;
      uploads = uploads;
      settled = record {
        tops = fits.gone;
        items = beside_settled s e fits.gone fits.beside;
        versions = fits.versions;
        gone = fits.made_is;
      };
    }

-- where uploads are as they were
fits_fine : (s : State) (e : Entry) (event : Event) (seeker : Seeker) (Other : Tables → Type 0) (made : Tables) → e.event ≡ event
    → seeker_at s e.seat e.moment event ≡ Some seeker → All (MayDo s e.moment seeker) (needs_of s e.seat e.moment event)
    → Fits s.tables e.moment (needs_of s e.seat e.moment event) Other made → ((u : Tables) → Other u → IsRemounted s e u ⊎ IsSharing s e u) → IsFine s e made
fits_fine s e event seeker Other made at is may fits other fine = fits_allowed s e event seeker Other made made at is may fits other fine (is_same refl)

abbrev nothing : Tables → Type 0
nothing made = ⊥

goal_fine : (s : State) (e : Entry) (outcome : Outcome) (goal : Goal) (act : Allowed) → e.event ≡ End outcome → IsSound s
    → goal_at s e.seat ≡ Some goal → IsStorable s.tables goal → ends_at (access_of s) s.tables e.moment outcome (Some goal) ≡ Ok act
    → Known s.tables e.moment act → IsFine s e (changed s.tables e.moment act)
goal_fine s e (Body digest size) (Store by key wanted) act ends sound at held is known =
    let t = s.tables in
    let now = e.moment in
    let stores = stored_at t now key digest size in
    let h = not_refused (end_refusal (access_of s) t now by key size) stores act is in
    let passes = end_passes (access_of s) t now by key size h.0 in
    let content = content_in (blob_for t.meta.next_blob size) digest size in
    let put = put_rows t now key digest size sound.rows held.0 (subst (λ (a : Allowed). Known t now a) (sym h.1) known) in
    let needs : needs_of s e.seat now (End outcome_of) ≡ needed_by by key = ap (λ (o : Option Goal). option_map_or needs_of_goal o []) at in
    fits_fine s e (End outcome_of) by.seeker nothing (changed t now act) ends (ap (option_and_then seeker_of_goal) at)
    (subst (All (MayDo s now by.seeker)) (sym needs) (needs_pass (access_of s) (ground_of t) by.seeker now (needed_by by key) passes.allowed))
    (subst (λ (needs : List Need). Fits t now needs nothing (changed t now act)) (sym needs)
    (subst (λ (a : Allowed). Fits t now (needed_by by key) nothing (changed t now a)) h.1
    (put_fits t (changed t now stores) now by key content nothing sound.rows put))) (λ u none. absurd none)
  where
    outcome_of : Outcome
    outcome_of = Body digest size
goal_fine s e (Body digest size) (Chunk user dir number wanted) act ends sound at held is known =
    let t = s.tables in
    let now = e.moment in
    let h = not_refused (chunk_refusal t user dir number size) (chunk_stored t now user dir number digest size) act is in
    let blob = blob_for t.meta.next_blob size in
    let row : ChunkRow = record { user = user; dir = dir; number = number; content = content_in blob digest size } in
    let changes = chunk_put t row ++ option_map_or (upload_touched now) (upload_row t.uploads user dir) [] in
    let meta = (changed t now (allowed.Change changes blob Made)).meta in
    subst (λ (a : Allowed). IsFine s e (changed t now a)) h.1 (λ fine.
    subst (ChangesAllowed s e) (sym (changed_rest t now changes blob Made))
    (uploads_allowed s e sound meta (record (put_all t changes) { meta = meta })
    (is_sent (Body digest size) user dir number wanted ends at (only_part t row now meta (put_all t changes) (chunk_leaves t row now)))))
goal_fine s e outcome goal act ends sound at held is known =
    let closes : allowed.Close ≡ act = cc in
    subst (λ (a : Allowed). IsFine s e (changed s.tables e.moment a)) closes (λ fine. same_allowed s e sound)

-- where nothing is asked about versions, what the paths need is all
paths_needed : (access : Access) (call : Call) (wanted : Wanted) → is_apart wanted ≡ false → needed call ++ needed_for access call wanted ≡ needed call
paths_needed access call (want.Version asked) other = absurd (false≢true (sym other))
paths_needed access call (want.Upload asked) other = append-nil (needed call)
paths_needed access call (Get spot) other = append-nil (needed call)
paths_needed access call (Put spot size) other = append-nil (needed call)
paths_needed access call (Mkcol spot) other = append-nil (needed call)
paths_needed access call (Delete spot) other = append-nil (needed call)
paths_needed access call (Move source target overwrite) other = append-nil (needed call)
paths_needed access call (Copy source target overwrite) other = append-nil (needed call)
paths_needed access call (Share asked) other = append-nil (needed call)
paths_needed access call (People asked) other = append-nil (needed call)
paths_needed access call (Trash asked) other = append-nil (needed call)

module _ (s : State) (e : Entry) (words : Words) (request : Request) (decided : Allowed) (begins : e.event ≡ Begin words request) (sound : IsSound s)
    (later : s.tables.meta.last ≤ e.moment) (may : MayWant request) (is : call_decision (call_of s e.seat e.moment words request) ≡ Ok decided) where
  abbrev call : Call
  call = call_of s e.seat e.moment words request

  abbrev passes : Passes (access_of s) call × (allowed_of (access_of s) call ≡ decided)
  passes = call_passes call decided is

  abbrev wants : WantedPasses call request.wanted
  wants = wanted_passes call may passes.0

  abbrev asking : IsAsking call
  asking = has_asker call passes.0.token wants.place.linked

  abbrev all_needs : List Need
  all_needs = needed call ++ needed_for (access_of s) call request.wanted

  -- one mount or one share is another
  others_fine : (u : Tables) → OneOther call u → IsRemounted s e u ⊎ IsSharing s e u
  others_fine u (inl one) =
      inl (record {
        words = words;
        request = request;
        begins = begins;
        old = one.old;
        row = one.row;
        there = one.there;
        becomes = one.becomes;
        mounts = one.mounts;
        nodes = one.nodes;
        shares = one.shares;
      })
  others_fine u (inr one) =
      inr (record {
        words = words;
        request = request;
        begins = begins;
        row = one.row;
        one = one.one;
        shares = one.shares;
        mounts = one.mounts;
        mounted = one.mounted;
        nodes = one.nodes;
      })

  fitting_fine : Fits s.tables e.moment all_needs (OneOther call) (changed s.tables e.moment decided) → IsFine s e (changed s.tables e.moment decided)
  fitting_fine fits =
      fits_fine s e (Begin words request) (seeker_of call) (OneOther call) (changed s.tables e.moment decided) begins refl
      (all_acts_pass (access_of s) call passes.0.acts) fits others_fine

  -- what isn't asked about users, groups, the trash, versions and uploads
  plain_fine : is_apart request.wanted ≡ false → IsFine s e (changed s.tables e.moment decided)
  plain_fine other =
      let fits = begin_fits call sound.rows later asking request.wanted refl other wants in
      fitting_fine (subst (λ (needs : List Need). Fits s.tables e.moment needs (OneOther call) (changed s.tables e.moment decided))
      (sym (paths_needed (access_of s) call request.wanted other))
      (subst (λ (a : Allowed). Fits s.tables e.moment (needed call) (OneOther call) (changed s.tables e.moment a)) passes.1 fits))

  abbrev does : (wanted : Wanted) → request.wanted ≡ wanted → given (access_of s) call (places_of call) wanted ≡ decided
  does wanted same = ap (given (access_of s) call (places_of call)) (sym same) ∙ passes.1

  plain : (wanted : Wanted) → request.wanted ≡ wanted → is_apart wanted ≡ false → IsFine s e (changed s.tables e.moment decided)
  plain wanted same other = plain_fine (ap is_apart same ∙ other)

  -- what is asked about versions
  version_fine : (asked : VersionAsk) → request.wanted ≡ want.Version asked → IsFine s e (changed s.tables e.moment decided)
  version_fine asked same =
      let t = s.tables in
      let mount = mount_by (access_of s) t.nodes t.mounts (seeker_of call) (asker_of call) call.now (act_asked asked) (node_asked asked) in
      let need = need_of (act_asked asked) (node_asked asked) mount in
      let needed_so : IsNeeded all_needs (act_asked asked) (node_asked asked) =
      subst (λ (w : Wanted). IsNeeded (needed call ++ needed_for (access_of s) call w) (act_asked asked) (node_asked asked)) (sym same)
      (mount, Contains-append_right (needed call) (need ∷ []) need (0, omega arith, refl)) in
      fitting_fine (subst (λ (a : Allowed). Fits t e.moment all_needs (OneOther call) (changed t e.moment a)) (does (want.Version asked) same)
      (versions_fit call sound.rows later asking asked all_needs needed_so))

  -- what is asked about uploads
  abbrev asker : ℕ
  asker = asker_of call

  -- just the upload that is asked about is another
  only_asked : (asked : UploadAsk) (made after : Tables) → request.wanted ≡ want.Upload asked → LeavesOthers made after (is_that asker (upload_asked asked))
      → UploadsFollow s e made after
  only_asked asked made after same leaves =
      is_asked words request asked begins same
      (only_these made after (is_that asker (upload_asked asked)) (IsThatUpload asker (upload_asked asked)) leaves (that_is asker (upload_asked asked)))

  begun_fine : (asked : UploadAsk) (to : List (List ℕ)) → request.wanted ≡ want.Upload asked
      → ChangesAllowed s e (changed s.tables e.moment (upload_begun s.tables e.moment asker (upload_asked asked) to))
  begun_fine asked to same =
      let t = s.tables in
      let row : UploadRow = record { user = asker; dir = upload_asked asked; to = to; touched = e.moment } in
      let made = changed t e.moment (upload_begun t e.moment asker (upload_asked asked) to) in
      uploads_allowed s e sound made.meta made
      (only_asked asked (record t { meta = made.meta }) made same (record {
        uploads = upload_left row t.uploads;
        chunks = λ user dir number other. refl;
        rest = refl;
      }))

  sent_fine : (dir : List ℕ) (length : ℕ) (o : Option ℕ) → ChangesAllowed s e (changed s.tables e.moment (option_map_or (chunk_sent asker dir length) o nothing_done))
  sent_fine dir length None = same_allowed s e sound
  sent_fine dir length (Some number) = same_allowed s e sound

  abandoned_fine : (asked : UploadAsk) → request.wanted ≡ want.Upload asked
      → ChangesAllowed s e (changed s.tables e.moment (done (deed.Abandon asker (upload_asked asked) ∷ []) Done))
  abandoned_fine asked same =
      let t = s.tables in
      let dir = upload_asked asked in
      let dated = stamp t e.moment in
      let made = stamp (abandoned t asker dir) e.moment in
      stamped_has (ChangesAllowed s e) t (abandoned t asker dir) e.moment (told t (done (deed.Abandon asker dir ∷ []) Done)) (same_allowed s e sound)
      (uploads_allowed s e sound dated.meta made
      (only_asked asked dated made same (dated_leaves t e.moment (abandoned t asker dir) (is_that asker dir) (abandon_leaves t asker dir))))

  abbrev gives : (wanted : Wanted) → request.wanted ≡ wanted → given (access_of s) call (places_at call wanted) wanted ≡ decided
  gives wanted same = ap (λ (w : Wanted). given (access_of s) call (places_at call w) w) (sym same) ∙ passes.1

  -- a content is stored at the end of a path, and then the upload goes
  joined_fine : (dir : List ℕ) (spot : Spot) (total : Option ℕ) → request.wanted ≡ want.Upload (upload.Join dir spot total)
      → ChangesAllowed s e (changed s.tables e.moment (assembled s.tables e.moment (last_name spot) asker dir (found call spot)))
  joined_fine dir spot total same =
      let t = s.tables in
      let asked = upload.Join dir spot total in
      let p = subst (WantedPasses call) same wants in
      let place = found call spot in
      let changes = assembled_at t e.moment (last_name spot) (whole_of t.chunks asker dir) place in
      let first = stored_tables t e.moment changes in
      let made = abandoned (replaced t changes) asker dir in
      let known = subst (Known t e.moment) (sym (gives (want.Upload asked) same)) (call_known call decided sound may is) in
      let fits = subst (λ (needs : List Need). Fits t e.moment needs (OneOther call) first)
      (sym (append-nil (needed call)) ∙ sym (ap (λ (w : Wanted). needed call ++ needed_for (access_of s) call w) same))
      (subst (λ (w : Wanted). Fits t e.moment (asked_for call sound.rows later asking w) (OneOther call) first) (sym same)
      (assembled_fits call sound.rows asking spot (whole_of t.chunks asker dir) place p.place.target refl)) in
      stamped_has (ChangesAllowed s e) t made e.moment (told t (assembled t e.moment (last_name spot) asker dir place)) (same_allowed s e sound)
      (fits_allowed s e (Begin words request) (seeker_of call) (OneOther call) first (stamp made e.moment) begins refl
      (all_acts_pass (access_of s) call passes.0.acts) fits others_fine (stored_sound t e.moment changes (deed.Abandon asker dir ∷ []) sound.rows later known)
      (only_asked asked first (stamp made e.moment) same
      (dated_leaves (replaced t changes) e.moment made (is_that asker dir) (abandon_leaves (replaced t changes) asker dir))))

  upload_fine : (asked : UploadAsk) → request.wanted ≡ want.Upload asked → IsFine s e (changed s.tables e.moment decided)
  upload_fine asked same fine =
      subst (λ (a : Allowed). ChangesAllowed s e (changed s.tables e.moment a)) (gives (want.Upload asked) same) (here asked same)
    where
      here : (asked : UploadAsk) → request.wanted ≡ want.Upload asked
          → ChangesAllowed s e (changed s.tables e.moment (upload_done call (places_at call (want.Upload asked)) asked))
      here (upload.New user dir to) same = begun_fine (upload.New user dir to) to same
      here (upload.Chunk user dir name to length) same = sent_fine dir length (chunk_number name)
      here (upload.Drop user dir) same = abandoned_fine (upload.Drop user dir) same
      here (upload.Join dir spot total) same = joined_fine dir spot total same

  -- what is asked about users and groups
  people_fine : (asked : PeopleAsk) → request.wanted ≡ People asked → ChangesAllowed s e (changed s.tables e.moment decided)
  people_fine asked wanted =
      let provided = people_provide s e words request begins sound may passes.0 asked wanted in
      subst (λ (a : Allowed). ChangesAllowed s e (changed s.tables e.moment a)) (does (People asked) wanted)
      (record {
        between = provided.between;
        allowed = elim provided.provides [
          | inl same ↦ inl (subst (NodesAllowed s e) (sym same) (same_nodes s e sound))
          | inr one ↦ inr (inl one)
        ];
        behind = changed s.tables e.moment (given (access_of s) call (places_of call) (People asked));
        settled = provided.settled;
        uploads = is_same refl;
      })

  -- and whatever a request asks
  begin_fine : (wanted : Wanted) → request.wanted ≡ wanted → IsFine s e (changed s.tables e.moment decided)
  begin_fine (Get spot) is fine = plain (Get spot) is refl fine
  begin_fine (Put spot size) is fine = plain (Put spot size) is refl fine
  begin_fine (Mkcol spot) is fine = plain (Mkcol spot) is refl fine
  begin_fine (Delete spot) is fine = plain (Delete spot) is refl fine
  begin_fine (Move source target overwrite) is fine = plain (Move source target overwrite) is refl fine
  begin_fine (Copy source target overwrite) is fine = plain (Copy source target overwrite) is refl fine
  begin_fine (Share asked) is fine = plain (Share asked) is refl fine
  begin_fine (People asked) is fine = people_fine asked is
  begin_fine (want.Version asked) is fine = version_fine asked is fine
  begin_fine (want.Upload asked) is fine = upload_fine asked is fine
  begin_fine (Trash asked) is fine =
      subst (λ (a : Allowed). ChangesAllowed s e (changed s.tables e.moment a)) (does (Trash asked) is)
      (trash_allowed s e sound words request begins asked is)

act_fine : (s : State) (e : Entry) (event : Event) (act : Allowed) → e.event ≡ event → IsSound s → s.tables.meta.last ≤ e.moment
    → MayAsk s e.seat event → decision_of s e.seat e.moment event ≡ Ok act → IsFine s e (changed s.tables e.moment act)
act_fine s e (Begin words request) act begins sound later may is =
    begin_fine s e words request act begins sound later may.1 is request.wanted refl
act_fine s e (End outcome) act ends sound later may is = here (goal_at s e.seat) refl may is (goal_held s e.seat sound)
  where
    here : (goal : Option Goal) → goal_at s e.seat ≡ goal → MayEnd goal outcome → ends_at (access_of s) s.tables e.moment outcome goal ≡ Ok act
        → IfSome goal (IsStorable s.tables) → IsFine s e (changed s.tables e.moment act)
    here None at may is held = absurd may
    here (Some goal) at brings goes held =
        goal_fine s e outcome goal act ends sound at held goes (known_change s e.seat e.moment (End outcome) act sound may is)
act_fine s e Sweep act sweeps sound later may is =
    let same : swept s.tables e.moment ≡ act = cc in
    subst (λ (a : Allowed). IsFine s e (changed s.tables e.moment a)) same (λ fine. sweep_allowed s e sound sweeps)

pub changes_allowed : ChangesWhatMayBeChanged
changes_allowed n s e sound may =
    entry_has (λ t tickets blob. IsFine s e t) s e e.mark (λ fine. same_allowed s e sound)
    (λ act is. act_fine s e e.event act refl sound (omega (arith, sound.seen, may.not_before)) may.asked is)
    (sound_after n s e sound may).rows

-- ---- an End

-- it is no Begin
both_events : (outcome : Outcome) (words : Words) (request : Request) → End outcome ≡ Begin words request → ⊥
both_events outcome words request same = cc

-- it settles no trash
end_settles : (s : State) (e : Entry) (outcome : Outcome) (user : ℕ) → e.event ≡ End outcome → Settles s e user → ⊥
end_settles s e outcome _ ends (by_delete node needed) =
    here (goal_at s e.seat) (subst (λ (event : Event). IsNeeded (needs_of s e.seat e.moment event) act.Delete node) ends needed)
  where
    one : (need : Need) → need.act ≢ act.Delete → IsNeeded (need ∷ []) act.Delete node → ⊥
    one need other (mount, (zero, within, same)) = other (ap (λ (n : Need). n.act) same)
    one need other (mount, (suc k, within, same)) = omega (arith, within)

    here : (goal : Option Goal) → IsNeeded (option_map_or needs_of_goal goal []) act.Delete node → ⊥
    here None (mount, (k, within, same)) = omega (arith, within)
    here (Some (Serve content)) (mount, (k, within, same)) = omega (arith, within)
    here (Some (Store by (Node key) length)) is = one (need_of act.Update key by.mount) (λ same. cc) is
    here (Some (Store by (Slot folder name) length)) is = one (need_of act.Create folder by.mount) (λ same. cc) is
    here (Some (Chunk user dir number length)) (mount, (k, within, same)) = omega (arith, within)
end_settles s e outcome _ ends (by_asking words request asked begins wanted) = both_events outcome words request (sym ends ∙ begins)
end_settles s e outcome _ ends (by_sweep user sweeps) = let both : End outcome ≡ Sweep = sym ends ∙ sweeps in cc
end_settles s e outcome _ ends (by_quota words request user quota row begins wanted named) = both_events outcome words request (sym ends ∙ begins)

-- versions that go make no node another
forgotten_allowed : (s : State) (e : Entry) (u : Tables) (versions : List VersionRow) (outcome : Outcome) → e.event ≡ End outcome → NodesAllowed s e u
    → NodesAllowed s e (versioned u versions)
forgotten_allowed s e u versions outcome ends h = record {
  nodes = h.nodes;
  others = elim h.others [
    | inl keeps ↦ inl (record { shares = keeps.shares; mounts = keeps.mounts })
    | inr other ↦
        elim other [
          | inl one ↦ absurd (both_events outcome one.words one.request (sym ends ∙ one.begins))
          | inr one ↦ absurd (both_events outcome one.words one.request (sym ends ∙ one.begins))
        ]
  ];
  items = h.items;
  rest = ap (λ (v : Tables). versioned v versions) h.rest;
}

-- where no chunk was to be sent, no upload is another
none_sent : (s : State) (e : Entry) (before made : Tables) (outcome : Outcome) → e.event ≡ End outcome
    → ((user : ℕ) (dir : List ℕ) (number length : ℕ) → goal_at s e.seat ≢ Some (Chunk user dir number length)) → UploadsFollow s e before made
    → made ≡ before
none_sent s e before made outcome ends none (is_same same) = same
none_sent s e before made outcome ends none (is_asked words request asked begins wanted only) =
    absurd (both_events outcome words request (sym ends ∙ begins))
none_sent s e before made outcome ends none (is_sent other user dir number length sends goal only) = absurd (none user dir number length goal)
none_sent s e before made outcome ends none (is_swept sweeps only) = let both : End outcome ≡ Sweep = sym ends ∙ sweeps in absurd (cc)

-- so the nodes that it makes are allowed as they stand
pub end_allowed : (s : State) (e : Entry) (made : Tables) (outcome : Outcome) → e.event ≡ End outcome
    → ((user : ℕ) (dir : List ℕ) (number length : ℕ) → goal_at s e.seat ≢ Some (Chunk user dir number length)) → ChangesAllowed s e made
    → NodesAllowed s e made
end_allowed s e made outcome ends none changes =
    let u = changes.between in
    let versions = changes.settled.versions in
    subst (NodesAllowed s e)
    (sym (none_sent s e changes.behind made outcome ends none changes.uploads ∙ same changes.settled.tops changes.settled.items changes.settled.gone
    ∙ forgets_only u versions))
    (forgotten_allowed s e u (deeds_done u (forgets versions)).versions outcome ends (nodes changes.allowed))
  where
    nodes : NodesAllowed s e changes.between ⊎ (IsProviding s e changes.between ⊎ IsRestoring s e changes.between) → NodesAllowed s e changes.between
    nodes (inl allowed) = allowed
    nodes (inr (inl one)) = absurd (both_events outcome one.words one.request (sym ends ∙ one.begins))
    nodes (inr (inr one)) = absurd (both_events outcome one.words one.request (sym ends ∙ one.begins))

    same : (tops : List ℕ) → All (IsItemSettled s e) tops
        → changes.behind ≡ deeds_done changes.between (purges tops ++ forgets changes.settled.versions)
        → changes.behind ≡ deeds_done changes.between (forgets changes.settled.versions)
    same [] items gone = gone
    same (top ∷ tops) items gone = let one = items 0 0 (omega arith) in absurd (end_settles s e outcome one.0.owner ends one.2)
