-- An entry that may come keeps what a site holds, and the tables bear what is decided.
use Rattle.std.proofs.Common.{ℕ, ◌+◌, ◌≤◌, ◌≡◌, Bool, true, false, not, ◌==◌, List, [], ◌∷◌, ◌++◌, Option, IsSome, find, filter, length, vec_capacity, Result, Ok, Err, refl, sym, ap, subst, ◌∙◌, arith, length-append}
use Rattle.std.specs.Prelude.{None, Some, is_some, option_map}
use Rattle.nf_base.specs.declared.limits.TheConstants.{MAX_NODES}
use Rattle.nf_base.specs.declared.rows.Row.{Row}
use Rattle.nf_defs.specs.Tables.{tables_of}
use Rattle.nf_rules.specs.Ruled.{AreRuled}
use Rattle.nf_rules.specs.Rules.{AreUnbroken}
use Rattle.nf_rules.proofs.Stays.{stays_ruled}
use Rattle.nf_rules.proofs.Unbroken.{unbroken_are_ruled}
use Rattle.nf_base.specs.KeptRows.{IsKept}
use Rattle.std.specs.Prelude.{All}
use Rattle.std.proofs.lemmas.Bool.{false≢true}
use Rattle.std.proofs.lemmas.List.Elements.{All-nil}
use Rattle.std.proofs.lemmas.List.Sums.{count_by-le-length, length-filter}
use Rattle.nf_words.specs.Prelude.{after, decision_of, goal_of, IsSound, LeavesRoom, MayAsk, MayBear, MayCome, MayEnd, opened, replay, State, stepped_by, ticket_of, without_ticket}
use Rattle.nf_words.specs.declared.answer.Allowed.{Allowed}
use Rattle.nf_words.specs.declared.answer.Denial.{Denial}
use Rattle.nf_words.specs.declared.history.Entry.{Entry}
use Rattle.nf_words.specs.declared.history.Event.{Event}
use Rattle.nf_words.specs.declared.history.Event.TheVariants.{Begin, End, Sweep}
use Rattle.nf_words.specs.declared.history.Mark.{Mark}
use Rattle.nf_words.specs.declared.history.Mark.TheVariants.{Answered}
use Rattle.nf_words.specs.declared.history.Outcome.{Outcome}
use Rattle.nf_words.specs.declared.history.Ticket.{Ticket}
use Rattle.nf_words.specs.declared.request.Request.{Request}
use Rattle.nf_words.specs.declared.request.Words.{Words}
use Rattle.nf_laws.proofs.Plain.{decided_plain}
use Rattle.nf_laws.proofs.Stays.{sound_after}
use Rattle.nf_words.proofs.Histories.{legal_more, replay_more}
use Rattle.nf_words.proofs.Ends.{known_change}
use Rattle.nf_words.proofs.Steps.{GrantsNothing, decided_tickets, end_nothing, end_tickets}
use Rattle.nf_state.proofs.Bears.{known_bears, known_few, sound_given}
use Rattle.nf_state.specs.Current.{AreGiven, BearsAct, FitsAct, FitsTicket}
use Rattle.nf_site.specs.Held.{FitsDecision, Held, HasEntryRoom, added_in}
use Rattle.nf_site.specs.Kept.{Kept, IsHistory, answered, entered, entry, opened_over}
use Rattle.nf_site.specs.PlanView.{decision_in, planned_in}
use Rattle.nf_site.specs.Plans.{IsReady, Planned, plan_at}
use Rattle.nf_site.specs.View.{IsHeld, held_of, kept_of}
use Rattle.nf_site.specs.declared.plan.Plan.TheInside.{Inside as PlanInside}
use Rattle.nf_site.specs.declared.site.Site.TheInside.{Inside}

-- ---- the tickets after an entry

-- where a look-up finds something, a filter that loses all of it shortens the list
length-found : {X : Type 0} (p : X → Bool) (xs : List X) → IsSome (find p xs) → length (filter (λ x. not (p x)) xs) + 1 ≤ length xs
length-found p [] found = let h = found in cc
length-found p (x ∷ xs) found = here (p x) refl found (length-found p xs)
  where
    here : (a : Bool) → p x ≡ a → IsSome (find p (x ∷ xs)) → (IsSome (find p xs) → length (filter (λ x. not (p x)) xs) + 1 ≤ length xs)
        → length (filter (λ x. not (p x)) (x ∷ xs)) + 1 ≤ length (x ∷ xs)
    here true e found rest = rw e (omega (arith, length-filter (λ x. not (p x)) xs, count_by-le-length (λ x. not (p x)) xs))
    here false e found rest = let more = rest (rw e at found) in rw e (omega arith)

-- a Begin adds one ticket at most
begin_adds : (s : State) (seat moment : ℕ) (words : Words) (request : Request) (mark : Mark)
    → length (after s (entry seat moment (Begin words request) mark)).tickets ≤ length s.tickets + 1
begin_adds s seat moment words request Answered = decided_tickets s seat moment (decision_of s seat moment (Begin words request))
begin_adds s seat moment words request mark = omega arith

-- a sweep adds none
sweep_adds : (s : State) (seat moment : ℕ) (mark : Mark) → (after s (entry seat moment Sweep mark)).tickets ≡ s.tickets
sweep_adds s seat moment Answered = refl
sweep_adds s seat moment mark = refl

-- an End takes one away
end_leaves : (s : State) (seat moment : ℕ) (outcome : Outcome) (mark : Mark)
    → (after s (entry seat moment (End outcome) mark)).tickets ≡ (without_ticket s seat).tickets
end_leaves s seat moment outcome Answered = end_tickets s seat moment outcome
end_leaves s seat moment outcome mark = refl

has_ticket : (ticket : Option Ticket) (outcome : Outcome) → MayEnd (option_map (λ ticket. ticket.goal) ticket) outcome → IsSome ticket
has_ticket None outcome may = absurd may
has_ticket (Some ticket) outcome may = refl

-- each ticket that is left has room for the entry of its End
ends_left : (site : Held) (seat moment : ℕ) (event : Event) (mark : Mark)
    → length site.kept.history + length site.kept.state.tickets ≤ site.entries
    → MayAsk site.kept.state seat event → HasEntryRoom site event
    → length site.kept.history + 1 + length (after site.kept.state (entry seat moment event mark)).tickets ≤ site.entries
ends_left site seat moment (Begin words request) mark ends asked room =
    omega (arith, room.entries, begin_adds site.kept.state seat moment words request mark)
ends_left site seat moment (End outcome) mark ends asked room =
    let s = site.kept.state in
    omega (
      arith,
      ap length (end_leaves s seat moment outcome mark),
      length-found (λ ticket. ticket.seat == seat) s.tickets (has_ticket (ticket_of s seat) outcome asked),
    )
ends_left site seat moment Sweep mark ends asked room =
    omega (arith, room.entries, ap length (sweep_adds site.kept.state seat moment mark))

-- so the entry itself fits
pub entry_fits : (site : Held) (seat : ℕ) (event : Event) → length site.kept.history + length site.kept.state.tickets ≤ site.entries
    → MayAsk site.kept.state seat event → HasEntryRoom site event → length site.kept.history + 1 ≤ site.entries
entry_fits site seat event ends asked room = omega (arith, ends_left site seat 0 event Answered ends asked room)

-- ---- an entry

leaves_room : (site : Held) (event : Event) → HasEntryRoom site event → LeavesRoom (length site.kept.history) site.kept.state event
leaves_room site (Begin words request) room = room.run
leaves_room site (End outcome) room = tt
leaves_room site Sweep room = room.run

history_more : (k : Kept) (e : Entry) → IsHistory k → MayCome (length k.history) k.state e → IsHistory (entered k e)
history_more k e h may =
    let may_now = subst (λ (s : State). MayCome (length k.history) s e) h.replayed may in
    record {
      legal = legal_more 0 (opened k.opening) k.history e h.legal (subst (λ (n : ℕ). MayCome n (replay (opened k.opening) k.history) e) (omega arith) may_now);
      replayed = ap (λ (s : State). after s e) h.replayed ∙ sym (replay_more (opened k.opening) k.history e);
    }

-- the fields after an entry that may come, from those before it
pub held_step : (old new : Inside) (site : Held) (e : Entry)
    → held_of old ≡ site → IsHeld old
    → site.kept.state.seen ≤ e.moment → MayAsk site.kept.state e.seat e.event → MayBear site.kept.state e e.mark → HasEntryRoom site e.event
    → kept_of new ≡ entered site.kept e
    → vec_capacity new.history ≡ vec_capacity old.history
    → IsHeld new
held_step old new site e is held before asked marked room kept capacity =
    let may : MayCome (length site.kept.history) site.kept.state e =
    record { not_before = before; asked = asked; room = leaves_room site e.event room; marked = marked } in
    let more = history_more site.kept e (subst (λ (x : Held). IsHistory x.kept) is held.history) may in
    let sound = sound_after (length site.kept.history) site.kept.state e (subst (λ (x : Held). IsSound x.kept.state) is held.sound) may in
    let ruled = stays_ruled (length site.kept.history) site.kept.state (e ∷ [])
    (subst (λ (x : Held). AreRuled x.kept.state.tables) is held.ruled) (subst (λ (x : Held). IsSound x.kept.state) is held.sound) (may, tt) in
    let ends : length site.kept.history + length site.kept.state.tickets ≤ site.entries =
    subst (λ (x : Held). length x.kept.history + length x.kept.state.tickets ≤ x.entries) is held.ends in
    let left = ends_left site e.seat e.moment e.event e.mark ends asked room in
    record {
      history = subst IsHistory (sym kept) more;
      sound = subst (λ (k : Kept). IsSound k.state) (sym kept) sound;
      ruled = subst (λ (k : Kept). AreRuled k.state.tables) (sym kept) ruled;
      ends = omega (
        arith,
        ap (λ (k : Kept). length k.history) kept,
        ap (λ (k : Kept). length k.state.tickets) kept,
        length-append site.kept.history (e ∷ []),
        ap (λ (x : Held). x.entries) is,
        capacity,
        left,
      );
    }

-- ---- a decision

-- the tables bear an act that is decided
pub bears_step : (s : State) (seat now : ℕ) (event : Event) (act : Allowed) → IsSound s → s.seen ≤ now → MayAsk s seat event
    → decision_of s seat now event ≡ Ok act → BearsAct s.tables act
bears_step s seat now event act sound late asked decides =
    known_bears s.tables now act sound.rows (omega (arith, sound.seen, late)) (known_change s seat now event act sound asked decides)
    (decided_plain s seat now event act decides)

-- ---- a site's fields

-- a site that was just opened over rows whose tables keep the rules
pub opened_held : (site : Inside) (rows : List Row) → AreRuled (tables_of rows)
    → site.opening ≡ rows → site.current.state ≡ opened rows → site.history.items ≡ [] → IsHeld site
opened_held site rows ruled opening state none =
    let kept : kept_of site ≡ opened_over rows = λ i. record { opening = opening i; state = state i; history = none i } in
    let sound : IsSound (opened rows) =
    record {
      rows = ruled.ordered.sound;
      seen = omega arith;
      seats = λ i j d before within. absurd (omega arith);
      tickets = All-nil _;
      apart = λ i j d before within. absurd (omega arith);
    } in
    record {
      history = subst IsHistory (sym kept) (record { legal = tt; replayed = refl });
      sound = subst IsSound (sym state) sound;
      ruled = subst (λ (s : State). AreRuled s.tables) (sym state) ruled;
      ends = omega (arith, ap (λ (es : List Entry). length es) none, ap (λ (s : State). length s.tickets) state);
    }

-- the tables bear what is decided
pub bears_held : (old : Inside) (site : Held) (seat now : ℕ) (event : Event) (act : Allowed) → held_of old ≡ site → IsHeld old
    → site.kept.state.seen ≤ now → MayAsk site.kept.state seat event → decision_of site.kept.state seat now event ≡ Ok act
    → BearsAct old.current.state.tables act
bears_held old site seat now event act is held late asked decides =
    bears_step old.current.state seat now event act held.sound (subst (λ (x : Held). x.kept.state.seen ≤ now) (sym is) late)
    (subst (λ (x : Held). MayAsk x.kept.state seat event) (sym is) asked)
    (subst (λ (x : Held). decision_of x.kept.state seat now event ≡ Ok act) (sym is) decides)

-- and what a plan does that is ready
pub bears_plan : (old : Inside) (site : Held) (plan : PlanInside) (act : Allowed) → held_of old ≡ site → IsHeld old
    → IsReady site (planned_in plan) → decision_in plan.decided ≡ Ok act → BearsAct old.current.state.tables act
bears_plan old site plan act is held ready decides =
    bears_held old site plan.seat plan.moment plan.event act is held ready.not_before ready.asked
    (sym (ap (λ (p : Planned). p.decision) ready.planned) ∙ decides)

-- ---- what an act adds

-- what is decided doesn't pass the limit of nodes
decided_few : (s : State) (seat now : ℕ) (event : Event) (decision : Result Allowed Denial) → IsSound s → MayAsk s seat event
    → decision_of s seat now event ≡ decision → length s.tables.nodes + (added_in s.tables decision).nodes ≤ MAX_NODES
decided_few s seat now event (Ok act) sound asked is =
    known_few s.tables now act sound.rows (known_change s seat now event act sound asked is)
decided_few s seat now event (Err refusal) sound asked is = omega (arith, sound.rows.few_nodes)

-- what a plan adds
pub plan_few : (site : Inside) (held : Held) (seat moment : ℕ) (event : Event) (plan : Planned) → held_of site ≡ held → IsHeld site
    → MayAsk held.kept.state seat event → plan ≡ plan_at held.kept.state seat moment event
    → length held.kept.state.tables.nodes + (added_in held.kept.state.tables plan.decision).nodes ≤ MAX_NODES
plan_few site held seat moment event plan is inside asked planned =
    decided_few held.kept.state seat moment event plan.decision (subst (λ (x : Held). IsSound x.kept.state) is inside.sound) asked
    (sym (ap (λ (p : Planned). p.decision) planned))

-- an act of an End grants nothing, and that of a Begin has its ticket's room
fits_ticket : (site : Held) (seat moment : ℕ) (event : Event) (act : Allowed) → HasEntryRoom site event
    → decision_of site.kept.state seat moment event ≡ Ok act → IsSome (goal_of act) → FitsTicket site.kept.state site.room
fits_ticket site seat moment (Begin words request) act room is some = room.tickets
fits_ticket site seat moment (End outcome) act room is some =
    let none : goal_of act ≡ None = subst GrantsNothing is (end_nothing site.kept.state seat moment outcome) in
    absurd (false≢true (sym (ap is_some none) ∙ some))
fits_ticket site seat moment Sweep act room is some = room.tickets

-- what a plan does that is ready fits
pub fits_plan : (old : Inside) (site : Held) (plan : PlanInside) (act : Allowed) → held_of old ≡ site
    → IsReady site (planned_in plan) → decision_in plan.decided ≡ Ok act → FitsAct old.current.state old.current.room act
fits_plan old site plan act is ready decides = here (held_of old) refl (subst (λ (x : Held). IsReady x (planned_in plan)) (sym is) ready)
  where
    here : (x : Held) → held_of old ≡ x → IsReady x (planned_in plan) → FitsAct x.kept.state x.room act
    here x same ready = (
      subst (FitsDecision x) decides ready.rows,
      fits_ticket x plan.seat plan.moment plan.event act ready.room
          (sym (ap (λ (p : Planned). p.decision) ready.planned) ∙ decides),
    )

-- the numbers of its nodes were given
pub given_held : (site : Inside) → IsHeld site → AreGiven site.current.state.tables
given_held site held = sound_given site.current.state.tables held.sound.rows

-- the fields after a plan was adopted
pub adopted : (old new : Inside) (site : Held) (plan : PlanInside) → held_of old ≡ site → IsHeld old → IsReady site (planned_in plan)
    → new.opening ≡ old.opening
    → new.current.state ≡ stepped_by old.current.state plan.seat plan.moment plan.event (decision_in plan.decided)
    → new.history.items ≡ old.history.items ++ answered plan.seat plan.moment plan.event ∷ []
    → vec_capacity new.history ≡ vec_capacity old.history
    → IsHeld new
adopted old new site plan is held ready opening state history capacity =
    let e = answered plan.seat plan.moment plan.event in
    let here : IsReady (held_of old) (planned_in plan) = subst (λ (x : Held). IsReady x (planned_in plan)) (sym is) ready in
    let stepped : new.current.state ≡ after old.current.state e =
    state ∙ ap (λ (p : Planned). stepped_by old.current.state plan.seat plan.moment plan.event p.decision) here.planned in
    let kept : kept_of new ≡ entered (kept_of old) e = λ i. record { opening = opening i; state = stepped i; history = history i } in
    held_step old new (held_of old) e refl held here.not_before here.asked tt here.room kept capacity

-- rows that break no rule, as a list of rows holds them
pub kept_ruled : (rows held : List Row) → rows ≡ held → All IsKept held → AreUnbroken rows → AreRuled (tables_of rows)
kept_ruled rows held are kept unbroken = unbroken_are_ruled rows (subst (λ (all : List Row). All IsKept all) (sym are) kept) unbroken
