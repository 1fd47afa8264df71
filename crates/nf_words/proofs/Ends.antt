-- What is known of an End, and of every step, that no rule refuses.
use Rattle.std.proofs.Common.{◌≡◌, ℕ, ◌+◌, ◌≤◌, ◌==◌, ◌&&◌, inl, not, sym, Bool, true, false, List, [], length, Result, Ok, Option, refl, subst, arith, filter, flat_map, ◌++◌}
use Rattle.std.specs.Prelude.{None, Some, is_some, option_map, if◌then◌else◌}
use Rattle.std.specs.Option.{IfSome, option_map_or}
use Rattle.std.proofs.lemmas.Bool.{not-true}
use Rattle.nf_access.specs.Mounts.{mount_at}
use Rattle.nf_base.specs.declared.limits.TheConstants.{MAX_BODY}
use Rattle.nf_base.specs.declared.rows.NodeKind.TheVariants.{File}
use Rattle.nf_base.specs.declared.rows.NodeRow.{NodeRow}
use Rattle.nf_defs.specs.Prelude.{Access, depth, is_folder_kind, is_root, node_row, owner_of, Tables}
use Rattle.nf_words.proofs.Begins.{call_known}
use Rattle.nf_words.proofs.Chunked.{chunk_known}
use Rattle.nf_words.proofs.Bodies.{body_known}
use Rattle.nf_words.proofs.Forgetting.{unsettled_there, unsettled_two}
use Rattle.nf_words.proofs.Refilling.{over_known}
use Rattle.nf_words.proofs.Fits.{KnownChange, Within, new_known, within}
use Rattle.nf_words.proofs.Found.{found_has}
use Rattle.nf_words.proofs.Known.{alone, by_sweeping, Known}
use Rattle.nf_words.proofs.Passing.{end_passes, not_refused}
use Rattle.nf_words.proofs.Sweeping.{swept_goes, swept_idle}
use Rattle.nf_words.specs.Prelude.{abandons, access_of, AreSound, blob_for, call_of, chunk_refusal, chunk_stored, charged, content_size, new_node, purges, unsettled, versions_added, content_in, decision_of, end_lost, end_refusal, ends_at, ends_goal, goal_at, gone_from, HoldsFor, is_idle, IsGoalSound, IsHeld, IsSound, IsStorable, IsTicketSound, IsUnmounted, LeadsToRoot, limit_at, MayAsk, MayBring, MayEnd, node_of_key, owners_of, pieces_of, place_of, refilled, State, stored_at, swept, ticket_of}
use Rattle.nf_words.specs.declared.answer.Allowed.{Allowed}
use Rattle.nf_words.specs.declared.answer.Allowed.TheVariants as allowed
use Rattle.nf_words.specs.declared.answer.Denial.TheVariants as denial
use Rattle.nf_words.specs.declared.answer.Denial.{Denial}
use Rattle.nf_words.specs.declared.answer.Goal.{Goal}
use Rattle.nf_words.specs.declared.answer.Goal.TheVariants.{Chunk, Serve, Store}
use Rattle.nf_words.specs.declared.answer.Hold.{Hold}
use Rattle.nf_words.specs.declared.answer.LockKey.{LockKey}
use Rattle.nf_words.specs.declared.answer.LockKey.TheVariants.{Node, Slot}
use Rattle.nf_words.specs.declared.history.Event.{Event}
use Rattle.nf_words.specs.declared.history.Event.TheVariants.{Begin, End, Sweep}
use Rattle.nf_words.specs.declared.history.Outcome.{Outcome}
use Rattle.nf_words.specs.declared.history.Outcome.TheVariants.{Body}
use Rattle.nf_words.specs.declared.history.Ticket.{Ticket}

-- in a root no mount took the name meanwhile
name_unmounted : (t : Tables) (folder : ℕ) (name : List ℕ) → end_lost t (Slot folder name) ≡ None → IsUnmounted t folder name
name_unmounted t folder name there root =
    none_there (mount_at t.mounts (owner_of t.nodes folder) name) (is_root t.nodes folder) root there
  where
    none_there : (o : Option ℕ) (b : Bool) → b ≡ true → (if b && is_some o then Some denial.NotFound else None) ≡ None → o ≡ None
    none_there None b root there = refl
    none_there (Some node) true root there = absurd (cc)
    none_there (Some node) false root there = absurd (cc)

-- a file that is there has a row
file_row : (o : Option NodeRow) → option_map_or (λ row. not (is_folder_kind row.kind)) o false ≡ true
    → (row : NodeRow) × (o ≡ Some row) × (is_folder_kind row.kind ≡ false)
file_row None is = absurd (cc)
file_row (Some row) is = (row, refl, not-true (is_folder_kind row.kind) is)

key_known : (t : Tables) (now : ℕ) (key : LockKey) (digest : List ℕ) (size : ℕ) → AreSound t → size ≤ MAX_BODY
    → IsHeld t key × LeadsToRoot t.nodes (node_of_key key) → end_lost t key ≡ None → limit_at t (pieces_of size) (place_of key) ≡ None
    → Known t now (stored_at t now key digest size)
key_known t now (Node node) digest size sound few held there some =
    let body = body_known t.meta digest size few in
    let blob = blob_for t.meta.next_blob size in
    let content = content_in blob digest size in
    let file = file_row (node_row t.nodes node) held.0 in
    let added = versions_added t node None in
    let fits = within t 0 0 added (pieces_of size) (pieces_of size) some in
    subst (λ (o : Option NodeRow). KnownChange t now (option_map_or (refilled t now content) o []) blob) (sym file.1)
    (over_known t now node content blob (pieces_of size) file.0 sound file.1 file.2 held.1
    (subst (λ (n : ℕ). Within t 0 0 added n (pieces_of size)) (sym body.pieces) fits) (omega (arith, body.counted, fits.next_blob)) (inl body.of_body))
key_known t now (Slot folder name) digest size sound few held there some =
    let body = body_known t.meta digest size few in
    let blob = blob_for t.meta.next_blob size in
    let content = content_in blob digest size in
    let row = new_node t now folder name File content in
    let to = charged t row.owner 0 (content_size content) in
    new_known t now folder name File content blob (pieces_of size) (unsettled t to []) sound held.0.0 held.1 held.0.1
    (name_unmounted t folder name there)
    (subst (λ (n : ℕ). Within t 1 (depth t.nodes folder + 1) 0 n (pieces_of size)) (sym body.pieces)
    (within t 1 (depth t.nodes folder + 1) 0 (pieces_of size) (pieces_of size) some))
    (omega (arith, body.counted)) (inl body.of_body) (λ e. absurd (cc)) (unsettled_there t to []) (unsettled_two t to [] sound.others.versions_rise)

closes : (t : Tables) (now : ℕ) (act : Allowed) → ◌≡◌ {A = Result Allowed Denial} (Ok allowed.Close) (Ok act) → Known t now act
closes t now act is = let e : allowed.Close ≡ act = cc in subst (λ (a : Allowed). Known t now a) e tt

goal_known : (access : Access) (t : Tables) (now : ℕ) (goal : Goal) (outcome : Outcome) (act : Allowed) → AreSound t
    → IsGoalSound t goal → IsStorable t goal → MayBring goal outcome → ends_goal access t now outcome goal ≡ Ok act → Known t now act
goal_known access t now (Serve content) (Body digest size) act sound goal held may is = absurd may
goal_known access t now (Store by key wanted) (Body digest size) act sound goal held may is =
    let h = not_refused (end_refusal access t now by key size) (stored_at t now key digest size) act is in
    let short : size ≤ MAX_BODY = omega (arith, may, goal.0) in
    let passes = end_passes access t now by key size h.0 in
    subst (λ (a : Allowed). Known t now a) h.1 (key_known t now key digest size sound short held passes.there passes.limit)
goal_known access t now (Chunk user dir number wanted) (Body digest size) act sound goal held may is =
    let h = not_refused (chunk_refusal t user dir number size) (chunk_stored t now user dir number digest size) act is in
    let short : size ≤ MAX_BODY = omega (arith, may, goal.0) in
    subst (λ (a : Allowed). Known t now a) h.1 (chunk_known t now user dir number digest size sound short goal.1.0 goal.1.1 h.0)
goal_known access t now goal without act sound of held may is = closes t now act is

end_known : (access : Access) (t : Tables) (now : ℕ) (goal : Option Goal) (outcome : Outcome) (act : Allowed) → AreSound t
    → IfSome goal (IsGoalSound t) → IfSome goal (IsStorable t) → MayEnd goal outcome → ends_at access t now outcome goal ≡ Ok act
    → Known t now act
end_known access t now None outcome act sound of held may is = absurd may
end_known access t now (Some goal) outcome act sound of held may is = goal_known access t now goal outcome act sound of held may is

-- what a seat was granted is sound
pub goal_sound : (s : State) (seat : ℕ) → IsSound s → IfSome (goal_at s seat) (IsGoalSound s.tables)
goal_sound s seat sound = here (ticket_of s seat) (found_has (IsTicketSound s.tables) (λ (ticket : Ticket). ticket.seat == seat) s.tickets sound.tickets)
  where
    here : (o : Option Ticket) → IfSome o (IsTicketSound s.tables) → IfSome (option_map (λ ticket. ticket.goal) o) (IsGoalSound s.tables)
    here None none = tt
    here (Some ticket) is = is.goal

-- what is stored over is there, or its name is free, as long as the seat holds it
stored_held : (t : Tables) (goal : Goal) (hold : Option Hold) → HoldsFor goal hold → IfSome hold (λ (hold : Hold). IsHeld t hold.key)
    → IfSome hold (λ (hold : Hold). LeadsToRoot t.nodes (node_of_key hold.key)) → IsStorable t goal
stored_held t (Serve content) hold for held present = tt
stored_held t (Chunk user dir number length) hold for held present = tt
stored_held t (Store by key length) hold for held present = (
  subst (λ (o : Option Hold). IfSome o (λ (hold : Hold). IsHeld t hold.key)) for held,
  subst (λ (o : Option Hold). IfSome o (λ (hold : Hold). LeadsToRoot t.nodes (node_of_key hold.key))) for present,
)

pub goal_held : (s : State) (seat : ℕ) → IsSound s → IfSome (goal_at s seat) (IsStorable s.tables)
goal_held s seat sound = here (ticket_of s seat) (found_has (IsTicketSound s.tables) (λ (ticket : Ticket). ticket.seat == seat) s.tickets sound.tickets)
  where
    here : (o : Option Ticket) → IfSome o (IsTicketSound s.tables) → IfSome (option_map (λ ticket. ticket.goal) o) (IsStorable s.tables)
    here None none = tt
    here (Some ticket) is = stored_held s.tables ticket.goal ticket.hold is.hold is.held is.present

-- ---- every step

pub known_change : (s : State) (seat now : ℕ) (event : Event) (act : Allowed) → IsSound s
    → MayAsk s seat event → decision_of s seat now event ≡ Ok act → Known s.tables now act
known_change s seat now (Begin words request) act sound asked is = call_known (call_of s seat now words request) act sound asked.1 is
known_change s seat now (End outcome) act sound asked is =
    end_known (access_of s) s.tables now (goal_at s seat) outcome act sound.rows (goal_sound s seat sound) (goal_held s seat sound) asked is
known_change s seat now Sweep act sound asked is =
    let same : swept s.tables now ≡ act = cc in
    let gone = flat_map (gone_from s.tables now) (owners_of s.tables.items) in
    let idle = filter (is_idle now) s.tables.uploads in
    subst (Known s.tables now) same
    (alone s.tables now (purges gone ++ abandons idle)
    (by_sweeping gone idle (swept_goes s.tables sound.rows now) (swept_idle s.tables sound.rows now)))
