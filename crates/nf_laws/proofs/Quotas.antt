-- No act takes a charge beyond its quota.
use Rattle.std.proofs.Common.{ℕ, ◌==◌, ◌≡◌, ◌≤◌, ◌⊎◌, List, [], ◌∷◌, ◌++◌, filter, Option, None, Some, Result, Ok, if◌then◌else◌, inl, inr, refl, ap, subst, ◌∙◌, arith, le_refl, sym}
use Rattle.std.specs.Prelude.{sum_by}
use Rattle.std.specs.List.{flat_map, All}
use Rattle.nf_base.specs.declared.rows.ChunkRow.{ChunkRow}
use Rattle.nf_laws.proofs.Chunking.{chunk_leaves}
use Rattle.std.specs.Option.{IfSome, option_and_then, option_map_or}
use Rattle.std.proofs.lemmas.Bool.{cond_both}
use Rattle.std.proofs.lemmas.List.Sums.{sum_by_push}
use Rattle.nf_base.specs.declared.changes.Change.{Change}
use Rattle.nf_base.specs.declared.content.Piece.{Piece}
use Rattle.nf_base.specs.declared.rows.NodeRow.{NodeRow}
use Rattle.nf_defs.specs.Prelude.{Access, filled, node_row, owner_of, Tables, content_of, is_folder, put_all}
use Rattle.nf_laws.proofs.Affording.{Affords, call_affords}
use Rattle.nf_laws.proofs.Charging.{alike, charge_beside}
use Rattle.nf_laws.proofs.Entries.{entry_has}
use Rattle.nf_laws.proofs.Lists.{nodes_have}
use Rattle.nf_laws.proofs.Joining.{abandons_lower, Keeps, owner_keeps}
use Rattle.nf_laws.proofs.Recharged.{KeepsCharge, lower_append, lower_keeps, purges_lower}
use Rattle.nf_laws.proofs.Rows.{stamp, stamped_has}
use Rattle.nf_laws.proofs.Stays.{sound_after}
use Rattle.nf_laws.proofs.Stored.{end_other, stored_comes, refills_comes}
use Rattle.nf_laws.proofs.Trashing.{act_kept, all_kept, KeepsTrash, trash_same}
use Rattle.nf_laws.proofs.Weighing.{row_owned}
use Rattle.nf_laws.specs.Charges.{bytes_at, bytes_owned, owned_bytes, QuotasAreKept}
use Rattle.nf_words.proofs.Ends.{goal_held, known_change}
use Rattle.nf_words.proofs.Fits.{KnownChange}
use Rattle.nf_words.proofs.Known.{Known}
use Rattle.nf_words.proofs.Passing.{end_passes, not_refused, call_passes, quota_passes}
use Rattle.nf_words.specs.Prelude.{abandons, access_of, after, altered, AreSound, blob_for, call_of, charge_of, chunk_refusal, chunk_stored, content_in, decision_of, end_refusal, ends_at, ends_goal, excess, excess_at, goal_at, gone_from, is_idle, IsHeld, IsSound, IsStorable, MayAsk, node_of_key, owners_of, place_of, purges, quota_of, refilled, State, stored_at, swept, told, asked_of, asked_of_version, back_excess, brought_back, bytes_of, Call, call_decision, charged, content_size, exceeded, given, listing_of, nothing_done, places_of, refills, served, unsettled, version_done, version_row, way_of, node_at, new_node}
use Rattle.nf_words.specs.declared.answer.Allowed.{Allowed}
use Rattle.nf_words.specs.declared.answer.Allowed.TheVariants as allowed
use Rattle.nf_words.specs.declared.answer.Denial.{Denial}
use Rattle.nf_words.specs.declared.answer.Goal.{Goal}
use Rattle.nf_words.specs.declared.answer.Goal.TheVariants.{Chunk, Serve, Store}
use Rattle.nf_words.specs.declared.answer.LockKey.{LockKey}
use Rattle.nf_words.specs.declared.answer.LockKey.TheVariants.{Node, Slot}
use Rattle.nf_words.specs.declared.answer.Report.{Report}
use Rattle.nf_words.specs.declared.answer.Report.TheVariants.{Done}
use Rattle.nf_words.specs.declared.history.Event.{Event}
use Rattle.nf_words.specs.declared.history.Event.TheVariants.{Begin, End, Sweep}
use Rattle.nf_words.specs.declared.history.Outcome.{Outcome}
use Rattle.nf_words.specs.declared.history.Outcome.TheVariants.{Body}
use Rattle.nf_laws.proofs.Refilled.{added_made, refilled_made, refills_made}
use Rattle.nf_laws.proofs.Blobs.{Alters, AreOf, IsOf, given_alters}
use Rattle.nf_base.specs.declared.rows.VersionRow.{VersionRow}
use Rattle.nf_words.specs.declared.request.VersionAsk.{VersionAsk}
use Rattle.nf_words.specs.declared.request.VersionAsk.TheVariants as version
use Rattle.nf_words.specs.declared.request.Places.{Places}
use Rattle.nf_words.specs.declared.request.Wanted.{Wanted}
use Rattle.std.proofs.lemmas.List.Elements.{All-cons, All-nil}
use Rattle.nf_base.specs.declared.rows.NodeKind.TheVariants.{File}
use Rattle.nf_laws.proofs.Sizes.{weight}

-- ---- an End

-- of a body that is stored
stored_keeps : (t : Tables) (now user : ℕ) (key : LockKey) (digest : List ℕ) (size : ℕ) → AreSound t → IsHeld t key
    → excess_at t size (place_of key) ≡ None → Keeps t user (altered t now (stored_at t now key digest size))
stored_keeps t now user key digest size sound held none =
    owner_keeps t (altered t now (stored_at t now key digest size)) user (owner_of t.nodes (node_of_key key)) (bytes_at t.nodes key) size
    (same_quota key) (at_owner key none) (stored_comes t now key digest size sound held)
  where
    at_owner : (key : LockKey) → excess_at t size (place_of key) ≡ None → excess t (owner_of t.nodes (node_of_key key)) (bytes_at t.nodes key) size ≡ None
    at_owner (Node node) none = none
    at_owner (Slot folder name) none = none

    refilled_quota : (o : Option NodeRow) (content : List Piece) (blob : Option ℕ)
        → quota_of (altered t now (allowed.Change (option_map_or (refilled t now content) o []) blob Done)) user ≡ quota_of t user
    refilled_quota None content blob = refl
    refilled_quota (Some row) content blob = ap (λ (u : Tables). quota_of u user) (refilled_made t now content row)

    same_quota : (key : LockKey) → quota_of (altered t now (stored_at t now key digest size)) user ≡ quota_of t user
    same_quota (Node node) =
        let blob = blob_for t.meta.next_blob size in refilled_quota (node_row t.nodes node) (content_in blob digest size) blob
    same_quota (Slot folder name) =
        let content = content_in (blob_for t.meta.next_blob size) digest size in
        ap (λ (u : Tables). quota_of u user)
        (added_made t (new_node t now folder name File content) (unsettled t (charged t (owner_of t.nodes folder) 0 (content_size content)) []))

closed_keeps : (t : Tables) (now user : ℕ) (act : Allowed) → ◌≡◌ {A = Result Allowed Denial} (Ok allowed.Close) (Ok act) → Keeps t user (altered t now act)
closed_keeps t now user act is =
    let same : allowed.Close ≡ act = cc in subst (λ (a : Allowed). Keeps t user (altered t now a)) same (inl (le_refl _))

goal_keeps : (access : Access) (t : Tables) (now user : ℕ) (outcome : Outcome) (goal : Goal) (act : Allowed) → AreSound t
    → IsStorable t goal → ends_goal access t now outcome goal ≡ Ok act → Keeps t user (altered t now act)
goal_keeps access t now user (Body digest size) (Serve content) act sound held is = closed_keeps t now user act is
goal_keeps access t now user (Body digest size) (Store by key wanted) act sound held is =
    let h = not_refused (end_refusal access t now by key size) (stored_at t now key digest size) act is in
    subst (λ (a : Allowed). Keeps t user (altered t now a)) h.1
    (stored_keeps t now user key digest size sound held.0 (end_passes access t now by key size h.0).quota)
goal_keeps access t now user (Body digest size) (Chunk of dir number wanted) act sound held is =
    let h = not_refused (chunk_refusal t of dir number size) (chunk_stored t now of dir number digest size) act is in
    let row : ChunkRow = record { user = of; dir = dir; number = number; content = content_in (blob_for t.meta.next_blob size) digest size } in
    subst (λ (a : Allowed). Keeps t user (altered t now a)) h.1
    (inl (omega (arith, ap (λ (u : Tables). bytes_owned u.nodes user) (chunk_leaves t row now).rest)))
goal_keeps access t now user outcome goal act sound held is = closed_keeps t now user act is

end_keeps : (access : Access) (t : Tables) (now user : ℕ) (outcome : Outcome) (goal : Option Goal) (act : Allowed) → AreSound t
    → IfSome goal (IsStorable t) → ends_at access t now outcome goal ≡ Ok act → Keeps t user (altered t now act)
end_keeps access t now user outcome None act sound held is = closed_keeps t now user act is
end_keeps access t now user outcome (Some goal) act sound held is = goal_keeps access t now user outcome goal act sound held is

-- ---- rows without bytes

empty_owned : (user : ℕ) (row : NodeRow) → row.content ≡ [] → owned_bytes user row ≡ 0
empty_owned user row empty = ap (λ (content : List Piece). if row.owner == user then sum_by (λ piece. piece.size) content else 0) empty ∙ alike (row.owner == user) 0

-- where no row has a content, nobody has more
pub rows_fewer : (t : Tables) (now user : ℕ) (changes : List Change) (blob : Option ℕ) (report : Report) → AreSound t → KnownChange t now changes blob
    → blob ≡ None → AreOf [] changes
    → bytes_owned (altered t now (allowed.Change changes blob report)).nodes user ≤ bytes_owned t.nodes user
rows_fewer t now user changes blob report sound known none of =
    nodes_have Fewer (IsOf []) t now changes blob report sound.rising known (each_of changes of)
    (λ u row fewer it empty. pushed u.nodes row fewer empty)
    (λ u row fewer it empty.
    let old = it.filled.old in
    let new = filled row.content row.changed old in
    let lighter : owned_bytes user new ≤ owned_bytes user old = omega (arith, empty_owned user new empty) in
    omega (arith, fewer, lighter, row_owned u.nodes row.id user (filled row.content row.changed) old it.filled.there))
    (λ u row root fewer it. pushed u.nodes root fewer it.1.empty) (le_refl _)
  where
    each_of : (changes : List Change) → AreOf [] changes → All (IsOf []) changes
    each_of [] of = All-nil (IsOf [])
    each_of (change ∷ changes) of = All-cons (IsOf []) change changes of.0 (each_of changes of.1)

    Fewer : List NodeRow → Type 0
    Fewer all = bytes_owned all user ≤ bytes_owned t.nodes user

    pushed : (all : List NodeRow) (row : NodeRow) → Fewer all → row.content ≡ [] → Fewer (all ++ row ∷ [])
    pushed all row fewer empty = omega (arith, fewer, sum_by_push (owned_bytes user) all row, empty_owned user row empty)

-- ---- the law

-- a list gives no row a content, or what it gives passes no quota
abbrev IsLight : Tables → ℕ → ℕ → Allowed → Type 0
IsLight t now user (allowed.Change changes blob report) = AreOf [] changes ⊎ Keeps t user (altered t now (allowed.Change changes blob report))
IsLight t now user act = Unit {0}

-- a version that is its file's content again passes no quota
back_keeps : (t : Tables) (now user node at : ℕ) (o : Option VersionRow) → AreSound t → version_row t.versions node at ≡ o
    → option_and_then (back_excess t node) o ≡ None → IsLight t now user (option_map_or (brought_back t now node) o nothing_done)
back_keeps t now user node at None sound e none = inl tt
back_keeps t now user node at (Some one) sound e none = inr (here (node_row t.nodes node) refl)
  where
    here : (o : Option NodeRow) → node_row t.nodes node ≡ o
        → Keeps t user (altered t now (allowed.Change (option_map_or (refills t now (Some one.at) one.content) o []) None Done))
    here None there = inl (le_refl _)
    here (Some row) there =
        let made = refills_made t now (Some one.at) one.content row in
        let owner : owner_of t.nodes node ≡ row.owner = ap (λ (o : Option NodeRow). option_map_or (λ row. row.owner) o 0) there in
        let bytes : bytes_of t.nodes node ≡ weight row =
        ap (λ (o : Option NodeRow). sum_by (λ piece. piece.size) (option_map_or (λ row. row.content) o [])) there in
        let fits : excess t row.owner (weight row) (content_size one.content) ≡ None =
        ap (λ (n : ℕ). excess t n (weight row) (content_size one.content)) (sym owner)
        ∙ ap (λ (n : ℕ). excess t (owner_of t.nodes node) n (content_size one.content)) (sym bytes) ∙ none in
        owner_keeps t (altered t now (allowed.Change (refills t now (Some one.at) one.content row) None Done)) user row.owner (weight row)
        (content_size one.content) (ap (λ (u : Tables). quota_of u user) made) fits
        (refills_comes t now node (content_size one.content) one.content row
        (put_all t (refills t now (Some one.at) one.content row)).nodes sound there refl (ap (λ (u : Tables). u.nodes) made))

version_light : (t : Tables) (now user : ℕ) (places : Places) (ask : VersionAsk) → AreSound t → exceeded t places (asked_of_version ask).makes ≡ None
    → IsLight t now user (version_done t now ask)
version_light t now user places (version.List who node) sound none = inl tt
version_light t now user places (version.Get who node at) sound none = here (version_row t.versions node at)
  where
    here : (o : Option VersionRow) → IsLight t now user (option_map_or (λ (row : VersionRow). allowed.Get node row.content) o nothing_done)
    here None = inl tt
    here (Some row) = tt
version_light t now user places (version.Restore who node at) sound none = back_keeps t now user node at (version_row t.versions node at) sound refl none

served_light : (access : Access) (call : Call) (now user : ℕ) (mount o : Option ℕ) → IsLight call.state.tables now user (served access call mount o)
served_light access call now user mount None = tt
served_light access call now user mount (Some node) =
    cond_both (is_folder call.state.tables.nodes node) (allowed.List (listing_of access call mount node))
    (allowed.Get node (content_of call.state.tables.nodes node)) (IsLight call.state.tables now user) (λ folder. tt) (λ file. tt)

alters_light : (t : Tables) (now user : ℕ) (act : Allowed) → Alters t act → IsLight t now user act
alters_light t now user (allowed.Change changes blob report) alters = inl alters.1
alters_light t now user act alters = tt

-- so is all that is asked for
call_light : (call : Call) (user : ℕ) (act : Allowed) → AreSound call.state.tables → call_decision call ≡ Ok act
    → IsLight call.state.tables call.now user act
call_light call user act sound is =
    let h = call_passes call act is in
    let t = call.state.tables in
    let access = access_of call.state in
    let Light : Wanted → Type 0 = λ asked. IsLight t call.now user (given access call (places_of call) asked) in
    let none = (quota_passes access call h.0.quota).0 in
    subst (IsLight t call.now user) h.1
    (elim (given_alters call (places_of call) call.request.wanted) [
      | inl get ↦ subst Light (sym get.1) (served_light access call call.now user (way_of call get.0).mount (node_at (places_of call).source))
      | inr (inl version) ↦
          subst Light (sym version.1)
          (version_light t call.now user (places_of call) version.0 sound
          (subst (λ (w : Wanted). exceeded t (places_of call) (asked_of w).makes ≡ None) version.1 none))
      | inr (inr alters) ↦ alters_light t call.now user (given access call (places_of call) call.request.wanted) alters
    ])

-- what is the user's is kept with what is in the trash, or the charge is
abbrev AllKept : Tables → ℕ → Tables → Type 0
AllKept t user made = (Keeps t user made × KeepsTrash t made.nodes) ⊎ KeepsCharge t user made

asked_keeps : (t : Tables) (now user : ℕ) (act : Allowed) → AreSound t → t.meta.last ≤ now → Known t now act → Affords t act → IsLight t now user act
    → AllKept t user (stamp (altered t now act) now)
unfolding charge_of
asked_keeps t now user (allowed.Change changes blob report) sound later known affords light =
    inl (
      elim light [
        | inl of ↦ inl (rows_fewer t now user changes blob report sound known affords of)
        | inr keeps ↦ keeps
      ],
      act_kept t now (allowed.Change changes blob report) sound later known tt,
    )
asked_keeps t now user (allowed.Deeds deeds report) sound later known affords light = inr (affords user)
asked_keeps t now user act sound later known affords light = inl (inl (le_refl _), all_kept t sound)

act_keeps : (s : State) (seat now user : ℕ) (event : Event) (act : Allowed) → IsSound s → s.tables.meta.last ≤ now → MayAsk s seat event
    → decision_of s seat now event ≡ Ok act → AllKept s.tables user (stamp (altered s.tables now act) now)
unfolding charge_of
act_keeps s seat now user (Begin words request) act sound later asked is =
    asked_keeps s.tables now user act sound.rows later (known_change s seat now (Begin words request) act sound asked is)
    (call_affords (call_of s seat now words request) act sound later asked.1 is)
    (call_light (call_of s seat now words request) user act sound.rows is)
act_keeps s seat now user (End outcome) act sound later asked is =
    let known = known_change s seat now (End outcome) act sound asked is in
    let held = goal_held s seat sound in
    inl (
      end_keeps (access_of s) s.tables now user outcome (goal_at s seat) act sound.rows held is,
      act_kept s.tables now act sound.rows later known (end_other (access_of s) s.tables now outcome (goal_at s seat) act is),
    )
act_keeps s seat now user Sweep act sound later asked is =
    let t = s.tables in
    let gone = flat_map (gone_from t now) (owners_of t.items) in
    let idle = filter (is_idle now) t.uploads in
    let same : swept t now ≡ act = cc in
    subst (λ (a : Allowed). AllKept t user (stamp (altered t now a) now)) same
    (inr (lower_keeps t user (purges gone ++ abandons idle)
    (lower_append (purges gone) (abandons idle) (purges_lower gone) (abandons_lower idle))))

pub quotas_kept : QuotasAreKept
quotas_kept n s e user sound may =
    let same : AllKept s.tables user s.tables = inl (inl (le_refl _), all_kept s.tables sound.rows) in
    let kept = entry_has (λ t tickets blob. AllKept s.tables user t) s e e.mark same (λ act is.
    stamped_has (AllKept s.tables user) s.tables (altered s.tables e.moment act) e.moment (told s.tables act) same
    (act_keeps s e.seat e.moment user e.event act sound (omega (arith, sound.seen, may.not_before)) may.asked is)) in
    let before = charge_beside s.tables user in
    let later = charge_beside (after s e).tables user in
    elim kept [
      | inl both ↦
          (let trash = trash_same s.tables (after s e).tables user sound.rows (sound_after n s e sound may).rows both.1 in
          elim both.0 [
            | inl fewer ↦ inl (omega (arith, fewer, before, later, trash))
            | inr within ↦ inr (omega (arith, within, later, trash))
          ])
      | inr charge ↦ charge
    ]
