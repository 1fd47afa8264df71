-- What one step does to the tickets.
use Rattle.std.proofs.Common.{ℕ, suc, zero, ◌+◌, ◌==◌, ◌≡◌, ◌≢◌, ◌<◌, ◌≤◌, Bool, true, false, not, List, [], ◌∷◌, Option, None, Some, IsNone, find, filter, length, length-append, get_or, Result, Ok, Err, refl, sym, ap, subst, ◌∙◌, arith}
use Rattle.std.specs.Prelude.{option_map}
use Rattle.std.specs.List.{AllPairs}
use Rattle.std.proofs.lemmas.Bool.{eqb-false}
use Rattle.std.proofs.lemmas.List.Folds.{find-append}
use Rattle.std.proofs.lemmas.List.Kept.{AllPairs-filter}
use Rattle.std.proofs.lemmas.List.Quantifiers.{all_pairs_push}
use Rattle.std.proofs.lemmas.Grind.{common_steps}
use Rattle.nf_defs.specs.Prelude.{Access, Tables}
use Rattle.nf_words.specs.Prelude.{access_of, after, after_mark, answer_to, answered_by, chunk_refusal, chunk_stored, decided, decision_of, end_decision, end_refusal, ends_at, ends_goal, failed, goal_at, goal_of, hold_of, IsLegalFrom, MayAsk, replay, reply_to, reported, State, step, stored_at, ticket_for, ticket_of, unless_refused, with_goal, without, without_ticket}
use Rattle.nf_words.specs.declared.answer.Allowed.{Allowed}
use Rattle.nf_words.specs.declared.answer.Allowed.TheVariants as allowed
use Rattle.nf_words.specs.declared.answer.Denial.{Denial}
use Rattle.nf_words.specs.declared.answer.Goal.{Goal}
use Rattle.nf_words.specs.declared.answer.Goal.TheVariants.{Chunk, Store}
use Rattle.nf_words.specs.declared.answer.Hold.{Hold}
use Rattle.nf_words.specs.declared.answer.LockKey.{LockKey}
use Rattle.nf_words.specs.declared.answer.LockKey.TheVariants.{Node, Slot}
use Rattle.nf_words.specs.declared.answer.Reply.{Reply}
use Rattle.nf_words.specs.declared.answer.Reply.TheVariants.{Granted}
use Rattle.nf_words.specs.declared.answer.Report.{Report}
use Rattle.nf_words.specs.declared.answer.Report.TheVariants as report
use Rattle.nf_words.specs.declared.history.Entry.{Entry}
use Rattle.nf_words.specs.declared.history.Event.{Event}
use Rattle.nf_words.specs.declared.history.Event.TheVariants.{Begin, End, Sweep}
use Rattle.nf_words.specs.declared.history.Mark.{Mark}
use Rattle.nf_words.specs.declared.history.Mark.TheVariants as mark
use Rattle.nf_words.specs.declared.history.Outcome.{Outcome}
use Rattle.nf_words.specs.declared.history.Outcome.TheVariants.{Sent, Gone, Body}
use Rattle.nf_words.specs.declared.history.Ticket.{Ticket}

-- a filter that keeps all that a look-up may find
find-filter : {X : Type 0} (p q : X → Bool) → ((x : X) → p x ≡ true → q x ≡ true) → (xs : List X) → find p (filter q xs) ≡ find p xs
find-filter p q keeps [] = refl
find-filter p q keeps (x ∷ xs) = here (p x) (q x) refl refl (find-filter p q keeps xs)
  where
    here : (a b : Bool) → p x ≡ a → q x ≡ b → find p (filter q xs) ≡ find p xs → find p (filter q (x ∷ xs)) ≡ find p (x ∷ xs)
    here true true e f rest = simp (f, e)
    here true false e f rest = absurd (cc (keeps x e))
    here false true e f rest = simp (f, e) rest
    here false false e f rest = simp (f, e) rest

-- a filter that loses all that a look-up may find
find-filter-not : {X : Type 0} (p : X → Bool) (xs : List X) → find p (filter (λ x. not (p x)) xs) ≡ None
find-filter-not p [] = refl
find-filter-not p (x ∷ xs) = here (p x) refl (find-filter-not p xs)
  where
    here : (a : Bool) → p x ≡ a → find p (filter (λ x. not (p x)) xs) ≡ None → find p (filter (λ x. not (p x)) (x ∷ xs)) ≡ None
    here true e rest = simp e rest
    here false e rest = simp e rest

-- where a look-up finds nothing, each element fails
pub fails_each : {X : Type 0} (p : X → Bool) (xs : List X) → IsNone (find p xs) → (k : ℕ) (d : X) → k < length xs → p (get_or xs k d) ≡ false
fails_each p [] none k d within = absurd (omega arith)
fails_each p (x ∷ xs) none k d within = here (p x) k refl none within (λ none k within. fails_each p xs none k d within)
  where
    here : (a : Bool) (k : ℕ) → p x ≡ a → IsNone (find p (x ∷ xs)) → k < length (x ∷ xs)
        → (IsNone (find p xs) → (k : ℕ) → k < length xs → p (get_or xs k d) ≡ false) → p (get_or (x ∷ xs) k d) ≡ false
    here true k e none within rest = let h = simp e at none in cc
    here false zero e none within rest = e
    here false (suc k) e none within rest = rest (simp e at none) k (omega arith)

pub freed : (s : State) (seat : ℕ) → ticket_of (without_ticket s seat) seat ≡ None
freed s seat = find-filter-not (λ ticket. ticket.seat == seat) s.tickets

pub other_without : (s : State) (seat : ℕ) (event : Event) (other : ℕ) → other ≢ seat → ticket_of (without s seat event) other ≡ ticket_of s other
other_without s seat (Begin words request) other differ = refl
other_without s seat Sweep other differ = refl
other_without s seat (End outcome) other differ =
    find-filter (λ ticket. ticket.seat == other) (λ ticket. not (ticket.seat == seat)) (λ ticket is. grind (arith, common_steps)) s.tickets

other_goal : (tickets : List Ticket) (seat other : ℕ) (goal : Option Goal) (hold : Option Hold) → other ≢ seat
    → find (λ ticket. ticket.seat == other) (with_goal tickets seat goal hold) ≡ find (λ ticket. ticket.seat == other) tickets
other_goal tickets seat other None hold differ = refl
other_goal tickets seat other (Some goal) hold differ = find-append (λ ticket. ticket.seat == other) tickets _ ∙ grind (arith, common_steps)

other_decided : (s : State) (seat now other : ℕ) (decision : Result Allowed Denial)
    → other ≢ seat → ticket_of (decided s seat now decision) other ≡ ticket_of s other
other_decided s seat now other (Ok act) differ = other_goal s.tickets seat other (goal_of act) (hold_of act) differ
other_decided s seat now other (Err refusal) differ = refl

pub other_step : (s : State) (seat now : ℕ) (event : Event) (other : ℕ) → other ≢ seat → ticket_of (step s seat now event) other ≡ ticket_of s other
other_step s seat now event other differ =
    other_decided (without s seat event) seat now other (decision_of s seat now event) differ ∙ other_without s seat event other differ

other_mark : (s : State) (e : Entry) (m : Mark) (other : ℕ) → other ≢ e.seat → ticket_of (after_mark s e m) other ≡ ticket_of s other
other_mark s e mark.Answered other differ = other_step s e.seat e.moment e.event other differ
other_mark s e failure other differ = other_without s e.seat e.event other differ

pub other_after : (s : State) (e : Entry) (other : ℕ) → other ≢ e.seat → ticket_of (after s e) other ≡ ticket_of s other
other_after s e other differ = other_mark s e e.mark other differ

-- ---- what an End grants

-- the decision grants nothing
abbrev pub GrantsNothing : Result Allowed Denial → Type 0
GrantsNothing (Ok act) = goal_of act ≡ None
GrantsNothing (Err refusal) = Unit {0}

stores_nothing : (refusal : Option Denial) (t : Tables) (now : ℕ) (key : LockKey) (digest : List ℕ) (length : ℕ)
    → GrantsNothing (unless_refused refusal (stored_at t now key digest length))
stores_nothing (Some refusal) t now key digest length = tt
stores_nothing None t now (Node node) digest length = refl
stores_nothing None t now (Slot folder name) digest length = refl

goal_nothing : (access : Access) (t : Tables) (now : ℕ) (outcome : Outcome) (goal : Goal) → GrantsNothing (ends_goal access t now outcome goal)
goal_nothing access t now (Body digest length) (Store by key wanted) = stores_nothing (end_refusal access t now by key length) t now key digest length
goal_nothing access t now (Body digest length) (Chunk user dir number wanted) = here (chunk_refusal t user dir number length)
  where
    here : (refusal : Option Denial) → GrantsNothing (unless_refused refusal (chunk_stored t now user dir number digest length))
    here None = refl
    here (Some refusal) = tt
goal_nothing access t now outcome goal = refl

at_nothing : (access : Access) (t : Tables) (now : ℕ) (outcome : Outcome) (goal : Option Goal) → GrantsNothing (ends_at access t now outcome goal)
at_nothing access t now outcome None = refl
at_nothing access t now outcome (Some goal) = goal_nothing access t now outcome goal

-- an End grants nothing
pub end_nothing : (s : State) (seat now : ℕ) (outcome : Outcome) → GrantsNothing (end_decision (access_of s) s seat now outcome)
end_nothing s seat now outcome = at_nothing (access_of s) s.tables now outcome (goal_at s seat)

nothing_more : (s : State) (seat now : ℕ) (decision : Result Allowed Denial) → GrantsNothing decision
    → (decided s seat now decision).tickets ≡ s.tickets
nothing_more s seat now (Ok act) nothing = ap (λ (g : Option Goal). with_goal s.tickets seat g (hold_of act)) nothing
nothing_more s seat now (Err refusal) nothing = refl

-- an End leaves the tickets of the others
pub end_tickets : (s : State) (seat now : ℕ) (outcome : Outcome)
    → (step s seat now (End outcome)).tickets ≡ (without_ticket s seat).tickets
end_tickets s seat now outcome =
    nothing_more (without_ticket s seat) seat now (end_decision (access_of s) s seat now outcome) (end_nothing s seat now outcome)

-- whatever is decided adds one at most
goal_tickets : (tickets : List Ticket) (seat : ℕ) (goal : Option Goal) (hold : Option Hold)
    → length (with_goal tickets seat goal hold) ≤ length tickets + 1
goal_tickets tickets seat None hold = omega arith
goal_tickets tickets seat (Some goal) hold = omega (arith, length-append tickets (ticket_for seat goal hold ∷ []))

pub decided_tickets : (s : State) (seat now : ℕ) (decision : Result Allowed Denial) → length (decided s seat now decision).tickets ≤ length s.tickets + 1
decided_tickets s seat now (Ok act) = goal_tickets s.tickets seat (goal_of act) (hold_of act)
decided_tickets s seat now (Err refusal) = omega arith

pub end_frees : (s : State) (seat now : ℕ) (outcome : Outcome) → ticket_of (step s seat now (End outcome)) seat ≡ None
end_frees s seat now outcome = ap (λ (ts : List Ticket). find (λ ticket. ticket.seat == seat) ts) (end_tickets s seat now outcome) ∙ freed s seat

-- ---- what an End that brings no body changes

goal_keeps : (s : State) (seat now : ℕ) (outcome : Outcome) (goal : Option Goal)
    → ((goal : Goal) → ends_goal (access_of s) s.tables now outcome goal ≡ Ok allowed.Close)
    → (decided (without_ticket s seat) seat now (ends_at (access_of s) s.tables now outcome goal)).tables ≡ s.tables
goal_keeps s seat now outcome None closes = refl
goal_keeps s seat now outcome (Some goal) closes =
    ap (λ (d : Result Allowed Denial). (decided (without_ticket s seat) seat now d).tables) (closes goal)

pub sent_keeps : (s : State) (seat now : ℕ) → (step s seat now (End Sent)).tables ≡ s.tables
sent_keeps s seat now = goal_keeps s seat now Sent (goal_at s seat) (λ goal. refl)

pub gone_keeps : (s : State) (seat now : ℕ) → (step s seat now (End Gone)).tables ≡ s.tables
gone_keeps s seat now = goal_keeps s seat now Gone (goal_at s seat) (λ goal. refl)

-- ---- a granted step

-- a change grants nothing
pub reports_nothing : (report : Report) (goal : Goal) → reported report ≢ Granted goal
reports_nothing report.Made goal = λ is. cc
reports_nothing report.Done goal = λ is. cc
reports_nothing (report.Share line) goal = λ is. cc
reports_nothing (report.Shares lines) goal = λ is. cc
reports_nothing (report.Items lines) goal = λ is. cc
reports_nothing (report.Versions lines) goal = λ is. cc
reports_nothing report.Plain goal = λ is. cc

goal_of_reply : (act : Allowed) (goal : Goal) → reply_to act ≡ Granted goal → goal_of act ≡ Some goal
goal_of_reply (allowed.Change changes blob report) goal is = absurd (reports_nothing report goal is)
goal_of_reply (allowed.Deeds deeds report) goal is = absurd (reports_nothing report goal is)
goal_of_reply act goal is = cc

pub ok_reply : (x y : Reply) → ◌≡◌ {A = Result Reply Denial} (Ok x) (Ok y) → x ≡ y
ok_reply x y e = cc

pub granted_goal : (act : Allowed) (goal : Goal) → answered_by (Ok act) ≡ Ok (Granted goal) → goal_of act ≡ Some goal
granted_goal act goal is = goal_of_reply act goal (ok_reply (reply_to act) (Granted goal) is)

goal_found : (tickets : List Ticket) (seat : ℕ) (goal : Goal) (hold : Option Hold) → IsNone (find (λ ticket. ticket.seat == seat) tickets)
    → find (λ ticket. ticket.seat == seat) (with_goal tickets seat (Some goal) hold) ≡ Some (ticket_for seat goal hold)
goal_found tickets seat goal hold none = find-append (λ ticket. ticket.seat == seat) tickets _ ∙ grind (arith, common_steps)

granted_decided : (s : State) (seat now : ℕ) (decision : Result Allowed Denial) (goal : Goal)
    → IsNone (ticket_of s seat) → answered_by decision ≡ Ok (Granted goal)
    → goal_at (decided s seat now decision) seat ≡ Some goal
granted_decided s seat now (Ok act) goal none is =
    ap (option_map (λ (ticket : Ticket). ticket.goal))
    (ap (λ (g : Option Goal). find (λ ticket. ticket.seat == seat) (with_goal s.tickets seat g (hold_of act))) (granted_goal act goal is)
    ∙ goal_found s.tickets seat goal (hold_of act) none)
granted_decided s seat now (Err refusal) goal none is = cc

pub never_granted : (decision : Result Allowed Denial) (goal : Goal) → GrantsNothing decision → answered_by decision ≡ Ok (Granted goal) → ⊥
never_granted (Ok act) goal nothing is = let granted = granted_goal act goal is in absurd (cc)
never_granted (Err refusal) goal nothing is = cc

pub granted_step : (s : State) (seat now : ℕ) (event : Event) (goal : Goal)
    → IsNone (ticket_of s seat) → answer_to s seat now event ≡ Ok (Granted goal)
    → goal_at (step s seat now event) seat ≡ Some goal
granted_step s seat now (Begin words request) goal none is = granted_decided s seat now (decision_of s seat now (Begin words request)) goal none is
granted_step s seat now Sweep goal none is = cc
granted_step s seat now (End outcome) goal none is =
    absurd (never_granted (end_decision (access_of s) s seat now outcome) goal (end_nothing s seat now outcome) is)

-- ---- no seat has two tickets

abbrev OfTwoSeats : Ticket → Ticket → Type 0
OfTwoSeats a b = a.seat ≢ b.seat

abbrev Differ : State → Type 0
Differ s = AllPairs OfTwoSeats s.tickets

differ_without : (s : State) (seat : ℕ) → Differ s → Differ (without_ticket s seat)
differ_without s seat h = AllPairs-filter OfTwoSeats (λ ticket. not (ticket.seat == seat)) s.tickets h

differ_goal : (tickets : List Ticket) (seat : ℕ) (goal : Option Goal) (hold : Option Hold) → IsNone (find (λ ticket. ticket.seat == seat) tickets)
    → AllPairs OfTwoSeats tickets → AllPairs OfTwoSeats (with_goal tickets seat goal hold)
differ_goal tickets seat None hold none h = h
differ_goal tickets seat (Some goal) hold none h =
    all_pairs_push OfTwoSeats tickets _ h (λ k d within. eqb-false _ _ (fails_each (λ ticket. ticket.seat == seat) tickets none k d within))

differ_decided : (s : State) (seat now : ℕ) (decision : Result Allowed Denial)
    → IsNone (ticket_of s seat) → Differ s → Differ (decided s seat now decision)
differ_decided s seat now (Ok act) none h = differ_goal s.tickets seat (goal_of act) (hold_of act) none h
differ_decided s seat now (Err refusal) none h = h

differ_step : (s : State) (seat now : ℕ) (event : Event) → MayAsk s seat event → Differ s → Differ (step s seat now event)
differ_step s seat now (Begin words request) asked h = differ_decided s seat now (decision_of s seat now (Begin words request)) asked.0 h
differ_step s seat now Sweep asked h = h
differ_step s seat now (End outcome) asked h =
    subst (λ (ts : List Ticket). AllPairs OfTwoSeats ts) (sym (end_tickets s seat now outcome)) (differ_without s seat h)

differ_failed : (s : State) (seat now : ℕ) (event : Event) → Differ s → Differ (failed s seat now event)
differ_failed s seat now (Begin words request) h = h
differ_failed s seat now Sweep h = h
differ_failed s seat now (End outcome) h = differ_without s seat h

differ_after : (s : State) (e : Entry) (mark : Mark) → MayAsk s e.seat e.event → Differ s → Differ (after_mark s e mark)
differ_after s e mark.Answered asked h = differ_step s e.seat e.moment e.event asked h
differ_after s e failure asked h = differ_failed s e.seat e.moment e.event h

pub differ_replay : (n : ℕ) (s : State) (es : List Entry) → Differ s → IsLegalFrom n s es → Differ (replay s es)
differ_replay n s [] h legal = h
differ_replay n s (e ∷ es) h legal = differ_replay (n + 1) (after s e) es (differ_after s e e.mark legal.0.asked h) legal.1
