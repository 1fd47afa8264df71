-- What a seat holds at the desk is what it was granted, and how its Begins and Ends are answered.
use Rattle.std.proofs.Common.{◌≡◌, ◌⊎◌, inl, inr, ℕ, ◌+◌, ◌<◌, ◌≤◌, Bool, true, false, List, [], length, Result, Ok, Err, IsNone, refl, sym, ap, subst, ◌∙◌, arith}
use Rattle.std.specs.Prelude.{Option, None, Some, option_map, OnOk, MatchBool}
use Rattle.sha2.specs.Sha256.{sha256}
use Rattle.std.specs.Option.{IfSome}
use Rattle.std.proofs.lemmas.Bool.{both_ways}
use Rattle.std.proofs.lemmas.Option.{none-some}
use Rattle.nf_base.specs.declared.limits.TheConstants.{MAX_BODY, MAX_ENTRIES}
use Rattle.nf_defs.specs.Prelude.{Access, AreRising, Tables}
use Rattle.nf_words.specs.Prelude.{access_of, answer_at, answer_to, answered_by, blob_to, decision_of, end_refusal, ends_at, ends_goal, goal_at, IsSound, MayAsk, MayCome, MayEnd, MayWant, reply_to, State, ticket_of, unless_refused}
use Rattle.nf_words.specs.Endings.{chunk_refusal, chunk_stored, stored_at as stores_at}
use Rattle.nf_words.proofs.Steps.{reports_nothing}
use Rattle.nf_words.specs.declared.answer.Allowed.{Allowed}
use Rattle.nf_words.specs.declared.answer.Allowed.TheVariants as allowed
use Rattle.nf_words.specs.declared.answer.LockKey.{LockKey}
use Rattle.nf_words.specs.declared.answer.LockKey.TheVariants.{Node, Slot}
use Rattle.nf_words.specs.declared.answer.Denial.{Denial}
use Rattle.nf_words.specs.declared.answer.Denial.TheVariants as denial
use Rattle.nf_words.specs.declared.answer.Goal.{Goal}
use Rattle.nf_words.specs.declared.answer.Goal.TheVariants.{Chunk, Serve, Store}
use Rattle.nf_words.specs.declared.answer.Reply.{Reply}
use Rattle.nf_words.specs.declared.answer.Reply.TheVariants as reply
use Rattle.nf_words.specs.declared.history.Entry.{Entry}
use Rattle.nf_words.specs.declared.history.Event.{Event}
use Rattle.nf_words.specs.declared.history.Event.TheVariants.{Begin, End, Sweep}
use Rattle.nf_words.specs.declared.history.Mark.{Mark}
use Rattle.nf_words.specs.declared.history.Mark.TheVariants as mark
use Rattle.nf_words.specs.declared.history.Outcome.{Outcome}
use Rattle.nf_words.specs.declared.history.Outcome.TheVariants.{Sent, Gone, Body}
use Rattle.nf_words.specs.declared.history.Ticket.{Ticket}
use Rattle.nf_words.specs.declared.request.Request.{Request}
use Rattle.nf_words.specs.declared.request.Words.{Words}
use Rattle.nf_words.proofs.Ends.{known_change}
use Rattle.nf_words.proofs.Known.{Known}
use Rattle.nf_words.proofs.Marks.{is_failure, never_failed}
use Rattle.nf_words.proofs.Opens.{begins_open}
use Rattle.nf_laws.proofs.Blobs.{blobs_are_new}
use Rattle.nf_laws.specs.Wholes.{blob_under}
use Rattle.nf_session.specs.Book.{Answer, Begins, EndsBody, EndsEmpty, IsBook, IsOfBegin, IsOfBody, Passes, Stores, entries_wanted, event_of_body, held, is_unmade, is_unmade_by, state_after}
use Rattle.nf_session.proofs.Books.{held_is_ticket}
use Rattle.nf_site.specs.Held.{entries_wanted as site_wanted}
use Rattle.nf_site.specs.Kept.{Kept, IsHistory, moment_of}
use Rattle.nf_told.specs.Told.{Told}
use Rattle.nf_desk.specs.Desk.{IsDesk, Shown, blobs_in, book_at, moved, standing_in}
use Rattle.nf_desk.specs.Stepping.{Asks, IsEmpty, Makes, Standing, Steps, entry_at, standing}
use Rattle.nf_desk.proofs.Entering.{by_step, enters, state_again, step_enters, steps_enter, waits}
use Rattle.nf_desk.proofs.Tellings.{empty_brings, empty_steps, steps_told, told_after}

-- ---- what the seat holds

pub book_is : (seat : ℕ) (a : Shown) → IsHistory a.site → IsBook (book_at seat a)
book_is seat a h = record { legal = h.legal; own = refl }

pub held_is : (seat : ℕ) (a : Shown) → IsHistory a.site → held (book_at seat a) ≡ goal_at a.site.state seat
held_is seat a h = held_is_ticket (book_at seat a) (book_is seat a h) ∙ ap (λ (s : State). goal_at s seat) (sym h.replayed)

-- a seat that was granted nothing has no ticket
no_ticket : (s : State) (seat : ℕ) → goal_at s seat ≡ None → IsNone (ticket_of s seat)
no_ticket s seat = here (ticket_of s seat)
  where
    here : (o : Option Ticket) → option_map (λ ticket. ticket.goal) o ≡ None → IsNone o
    here None is = refl
    here (Some ticket) is = absurd (none-some ticket.goal (sym is))

-- an idle seat may ask
pub may_ask : (seat : ℕ) (a : Shown) (words : Words) (request : Request) → IsHistory a.site → held (book_at seat a) ≡ None → MayWant request
    → MayAsk a.site.state seat (Begin words request)
may_ask seat a words request h idle wants = (no_ticket a.site.state seat (sym (held_is seat a h) ∙ idle), wants)

-- or sweep
pub may_sweep : (seat : ℕ) (a : Shown) → IsHistory a.site → held (book_at seat a) ≡ None → MayAsk a.site.state seat Sweep
may_sweep seat a h idle = no_ticket a.site.state seat (sym (held_is seat a h) ∙ idle)

-- what may end so of what the seat holds may end so of what it was granted
pub may_end : (seat : ℕ) (a : Shown) (outcome : Outcome) → IsHistory a.site → MayEnd (held (book_at seat a)) outcome
    → MayAsk a.site.state seat (End outcome)
may_end seat a outcome h may = subst (λ (goal : Option Goal). MayEnd goal outcome) (held_is seat a h) may

-- ---- a Begin that finds no room

wanted_is : (seat : ℕ) (a : Shown) → IsHistory a.site → entries_wanted (book_at seat a) ≡ site_wanted a.site
wanted_is seat a h = ap (λ (s : State). length a.site.history + length s.tickets + 2) (sym h.replayed)

pub passes : (seat : ℕ) (a : Shown) → Passes (book_at seat a) (book_at seat a)
passes seat a = record {
  waits = waits seat a.site a.site (blobs_in a.start.told) a.told a.told (book_at seat a).strikes (book_at seat a).strikes refl refl
      (omega arith);
  unstruck = refl;
}

finds_none : (seat : ℕ) (a : Shown) (now : ℕ) (words : Words) (request : Request) (answer : Answer) → IsHistory a.site
    → ((answer ≡ Err denial.RunFull) × (MAX_ENTRIES < site_wanted a.site)) ⊎ ((answer ≡ Err denial.Memory) × (site_wanted a.site ≤ MAX_ENTRIES))
    → Begins (book_at seat a) (book_at seat a) now words request answer
finds_none seat a now words request answer h (inl full) =
    subst (λ (x : Answer). Begins (book_at seat a) (book_at seat a) now words request x) (sym full.0)
    (record {
      entry = passes seat a;
      answered = tt;
      full = λ is. subst (λ (n : ℕ). MAX_ENTRIES < n) (sym (wanted_is seat a h)) full.1;
      room = λ is. absurd (cc);
    })
finds_none seat a now words request answer h (inr memory) =
    subst (λ (x : Answer). Begins (book_at seat a) (book_at seat a) now words request x) (sym memory.0)
    (record {
      entry = passes seat a;
      answered = tt;
      full = λ is. absurd (cc);
      room = λ is. subst (λ (n : ℕ). n ≤ MAX_ENTRIES) (sym (wanted_is seat a h)) memory.1;
    })

-- ---- a Begin that is made

unmade_fails : (refusal : Denial) → is_unmade_by refusal ≡ true → is_failure refusal ≡ true
unmade_fails denial.RunFull is = refl
unmade_fails denial.Memory is = refl
unmade_fails other is = cc

is_made : (s : State) (n now : ℕ) (event : Event) (answer : Answer) → answer ≡ answer_to s n now event → is_unmade answer ≡ false
is_made s n now event (Ok answered) is = refl
is_made s n now event (Err refusal) is = here (is_unmade_by refusal) refl
  where
    here : (a : Bool) → is_unmade_by refusal ≡ a → a ≡ false
    here false e = refl
    here true e = absurd (never_failed s n now event refusal (unmade_fails refusal e) (sym is))

same_goal : (one other : Goal) → reply.Granted one ≡ reply.Granted other → one ≡ other
same_goal one other is = cc

-- a goal that wants a body wants a short one
abbrev IsShortGoal : Goal → Type 0
IsShortGoal (Serve content) = Unit {0}
IsShortGoal (Store by key size) = size ≤ MAX_BODY
IsShortGoal (Chunk user dir number size) = size ≤ MAX_BODY

goal_short : (t : Tables) (now : ℕ) (act : Allowed) (goal : Goal) → Known t now act → reply_to act ≡ reply.Granted goal → IsShortGoal goal
goal_short t now (allowed.Get node content) goal known is =
    subst IsShortGoal (same_goal (Serve content) goal is) tt
goal_short t now (allowed.Put by lock length) goal known is =
    subst IsShortGoal (same_goal (Store by lock length) goal is) known.short
goal_short t now (allowed.Chunk user dir number length) goal known is =
    subst IsShortGoal (same_goal (Chunk user dir number length) goal is) known.short
goal_short t now (allowed.Change changes blob report) goal known is = absurd (reports_nothing report goal is)
goal_short t now (allowed.Deeds deeds report) goal known is = absurd (reports_nothing report goal is)
goal_short t now (allowed.List listing) goal known is = absurd (cc)
goal_short t now allowed.Close goal known is = absurd (cc)

ok_same : (x y : Reply) → ◌≡◌ {A = Answer} (Ok x) (Ok y) → x ≡ y
ok_same x y is = cc

granted_short : (t : Tables) (now : ℕ) (decision : Result Allowed Denial) (goal : Goal) → ((act : Allowed) → decision ≡ Ok act → Known t now act)
    → answered_by decision ≡ Ok (reply.Granted goal) → IsShortGoal goal
granted_short t now (Ok act) goal known is = goal_short t now act goal (known act refl) (ok_same (reply_to act) _ is)
granted_short t now (Err refusal) goal known is = absurd (cc)

of_goal : (goal : Goal) → IsShortGoal goal → IsOfBegin (Ok (reply.Granted goal))
of_goal (Serve content) short = tt
of_goal (Store by key size) short = short
of_goal (Chunk user dir number size) short = short

of_begin : (seat : ℕ) (s : State) (now : ℕ) (words : Words) (request : Request) (answer : Answer) → IsSound s → MayAsk s seat (Begin words request)
    → answer ≡ answer_to s seat now (Begin words request) → IsOfBegin answer
of_begin seat s now words request (Ok (reply.Granted goal)) sound asked is =
    of_goal goal (granted_short s.tables now (decision_of s seat now (Begin words request)) goal
    (λ act done. known_change s seat now (Begin words request) act sound asked done) (sym is))
of_begin seat s now words request (Ok reply.Closed) sound asked is = absurd (begins_open s seat now words request (sym is))
of_begin seat s now words request other sound asked is = tt

-- its answer isn't that of one that isn't made, whatever its mark, and is a Begin's
record BeginAnswer (answer : Answer) : Type 0 where
  made : is_unmade answer ≡ false
  answered : IsOfBegin answer

begin_answer : (seat : ℕ) (k : Kept) (now : ℕ) (words : Words) (request : Request) (m : Mark) (answer : Answer) → IsSound k.state
    → MayCome (length k.history) k.state (entry_at seat k now (Begin words request) m)
    → answer ≡ answer_at k.state (entry_at seat k now (Begin words request) m) m → BeginAnswer answer
begin_answer seat k now words request mark.Answered answer sound may is = record {
  made = is_made k.state seat (moment_of k.state now) (Begin words request) answer is;
  answered = of_begin seat k.state (moment_of k.state now) words request answer sound may.asked is;
}
begin_answer seat k now words request mark.Store answer sound may is = subst BeginAnswer (sym is) (record { made = refl; answered = tt })
begin_answer seat k now words request mark.Memory answer sound may is = absurd may.marked

pub match_false : (P Q : Type 0) (b : Bool) → b ≡ false → Q → MatchBool b P Q
match_false P Q b is q = subst (λ (c : Bool). MatchBool c P Q) (sym is) q

begins_made : (seat : ℕ) (a : Shown) (b : Standing) (now : ℕ) (words : Words) (request : Request) (answer : Answer) → IsHistory a.site
    → IsSound a.site.state → AreRising a.site.state.tables → IsDesk a → Steps seat (standing_in a) b now (Begin words request) [] answer
    → Begins (book_at seat a) (book_at seat (moved a b)) now words request answer
begins_made seat a b now words request answer h sound rising desk steps =
    let of = begin_answer seat a.site now words request steps.mark answer sound steps.makes.may_come steps.makes.answered in
    record {
      entry = match_false _ _ (is_unmade answer) of.made
          (steps_enter seat a b now (Begin words request) [] answer steps h sound rising tt desk);
      answered = of.answered;
      full = λ is. absurd (both_ways (is_unmade answer) of.made (ap is_unmade is));
      room = λ is. absurd (both_ways (is_unmade answer) of.made (ap is_unmade is));
    }

pub begins : (seat : ℕ) (a : Shown) (b : Standing) (now : ℕ) (words : Words) (request : Request) (answer : Answer) → IsHistory a.site
    → IsSound a.site.state → AreRising a.site.state.tables → IsDesk a → Asks seat (standing_in a) b now words request answer
    → Begins (book_at seat a) (book_at seat (moved a b)) now words request answer
begins seat a b now words request answer h sound rising desk (inl steps) =
    begins_made seat a b now words request answer h sound rising desk steps
begins seat a b now words request answer h sound rising desk (inr none) =
    subst (λ (z : Standing). Begins (book_at seat a) (book_at seat (moved a z)) now words request answer) (sym none.same)
    (finds_none seat a now words request answer h none.why)

-- ---- the End of what brings nothing

closed_of : (goal : Option Goal) (access : Access) (t : Tables) (now : ℕ) (outcome : Outcome)
    → ((goal : Goal) → ends_goal access t now outcome goal ≡ Ok allowed.Close) → answered_by (ends_at access t now outcome goal) ≡ Ok reply.Closed
closed_of None access t now outcome closes = refl
closed_of (Some goal) access t now outcome closes = ap answered_by (closes goal)

closed_by : (seat : ℕ) (k : Kept) (now : ℕ) (outcome : Outcome) → IsEmpty outcome
    → answer_at k.state (entry_at seat k now (End outcome) mark.Answered) mark.Answered ≡ Ok reply.Closed
closed_by seat k now Sent empty =
    closed_of (goal_at k.state seat) (access_of k.state) k.state.tables (moment_of k.state now) Sent (λ goal. refl)
closed_by seat k now Gone empty =
    closed_of (goal_at k.state seat) (access_of k.state) k.state.tables (moment_of k.state now) Gone (λ goal. refl)
closed_by seat k now (Body digest size) empty = absurd empty

pub ends_empty : (seat : ℕ) (a : Shown) (l : Kept) (now : ℕ) (outcome : Outcome) (answer : Answer) → IsHistory a.site → IsSound a.site.state
    → AreRising a.site.state.tables → IsDesk a → IsEmpty outcome → Makes seat a.site l now (End outcome) mark.Answered answer
    → EndsEmpty (book_at seat a) (book_at seat (record a { site = l })) now outcome answer
ends_empty seat a l now outcome answer h sound rising desk empty makes = record {
  enters = steps_enter seat a (standing l a.told a.faults) now (End outcome) [] answer
      (empty_steps seat a.site l a.told a.faults now outcome answer empty makes) h sound rising (empty_brings outcome empty) desk;
  answered = makes.answered ∙ closed_by seat a.site now outcome empty;
}

-- ---- the End of a body

-- it isn't answered as a Begin is, nor as one that brings nothing: what stores a body makes or replaces a file, or a chunk
stored_of_body : (refusal : Option Denial) (t : Tables) (now : ℕ) (key : LockKey) (digest : List ℕ) (size : ℕ)
    → IsOfBody (answered_by (unless_refused refusal (stores_at t now key digest size)))
stored_of_body None t now (Node node) digest size = tt
stored_of_body None t now (Slot folder name) digest size = tt
stored_of_body (Some refusal) t now key digest size = tt

chunk_of_body : (refusal : Option Denial) (t : Tables) (now user : ℕ) (dir : List ℕ) (number : ℕ) (digest : List ℕ) (size : ℕ)
    → IsOfBody (answered_by (unless_refused refusal (chunk_stored t now user dir number digest size)))
chunk_of_body None t now user dir number digest size = tt
chunk_of_body (Some refusal) t now user dir number digest size = tt

goal_of_body : (goal : Option Goal) (access : Access) (t : Tables) (now : ℕ) (digest : List ℕ) (size : ℕ)
    → MayEnd goal (Body digest size) → IsOfBody (answered_by (ends_at access t now (Body digest size) goal))
goal_of_body None access t now digest size may = absurd may
goal_of_body (Some (Serve content)) access t now digest size may = absurd may
goal_of_body (Some (Store by key wanted)) access t now digest size may =
    stored_of_body (end_refusal access t now by key size) t now key digest size
goal_of_body (Some (Chunk user dir number wanted)) access t now digest size may =
    chunk_of_body (chunk_refusal t user dir number size) t now user dir number digest size

marked_of_body : (seat : ℕ) (k : Kept) (now : ℕ) (body : List ℕ) (m : Mark) (answer : Answer)
    → MayAsk k.state seat (event_of_body body) → answer ≡ answer_at k.state (entry_at seat k now (event_of_body body) m) m → IsOfBody answer
marked_of_body seat k now body mark.Answered answer asked is =
    subst IsOfBody (sym is)
    (goal_of_body (goal_at k.state seat) (access_of k.state) k.state.tables (moment_of k.state now) (sha256 body) (length body) asked)
marked_of_body seat k now body unmade answer asked is = subst IsOfBody (sym is) tt

-- an answer that isn't a refusal is of an entry whose step was made
blob_marked : (s : State) (e : Entry) (m : Mark) (reply : Reply) (id : ℕ) → ◌≡◌ {A = Answer} (Ok reply) (answer_at s e m)
    → blob_to s e.seat e.moment e.event ≡ Some id → blob_under s e m ≡ Some id
blob_marked s e mark.Answered reply id is stores = stores
blob_marked s e unmade reply id is stores = absurd (cc)

stored_some : (n : ℕ) (s : State) (e : Entry) (body : List ℕ) (reply : Reply) (before : Option Told) → IsSound s → MayCome n s e
    → ◌≡◌ {A = Answer} (Ok reply) (answer_at s e e.mark) → IfSome (blobs_in (option_map (told_after s e body) before)) (Stores s e body)
stored_some n s e body reply None sound may is = tt
stored_some n s e body reply (Some told) sound may is = λ id stores.
    let marked = blob_marked s e e.mark reply id is stores in
    ((blobs_are_new.next n s e id sound may marked).1, blobs_are_new.stored s e body told.blobs id marked)

stored_at : (n : ℕ) (s : State) (e : Entry) (body : List ℕ) (answer : Answer) (before : Option Told) → IsSound s → MayCome n s e
    → answer ≡ answer_at s e e.mark → OnOk answer (IfSome (blobs_in (option_map (told_after s e body) before)) (Stores s e body))
stored_at n s e body (Ok reply) before sound may is = stored_some n s e body reply before sound may is
stored_at n s e body (Err refusal) before sound may is = tt

-- in the state that the book knows
steps_stored : (seat : ℕ) (a : Shown) (b : Standing) (now : ℕ) (body : List ℕ) (answer : Answer) → IsHistory a.site → IsSound a.site.state
    → (steps : Steps seat (standing_in a) b now (event_of_body body) body answer)
    → OnOk answer (IfSome (blobs_in b.told) (Stores (state_after (book_at seat a) []) (entry_at seat a.site now (event_of_body body) steps.mark) body))
steps_stored seat a b now body answer h sound steps =
    let e = entry_at seat a.site now (event_of_body body) steps.mark in
    subst (λ (s : State). OnOk answer (IfSome (blobs_in b.told) (Stores s e body))) (sym (state_again a.site h))
    (subst (λ (o : Option Told). OnOk answer (IfSome (blobs_in o) (Stores a.site.state e body)))
    (sym (steps_told seat (standing_in a) b now (event_of_body body) body answer sound steps))
    (stored_at (length a.site.history) a.site.state e body answer a.told sound steps.makes.may_come steps.makes.answered))

pub ends_body : (seat : ℕ) (a : Shown) (b : Standing) (now : ℕ) (body : List ℕ) (answer : Answer) → IsHistory a.site → IsSound a.site.state
    → AreRising a.site.state.tables → IsDesk a → Steps seat (standing_in a) b now (event_of_body body) body answer
    → EndsBody (book_at seat a) (book_at seat (moved a b)) now body answer
unfolding enters step_enters
ends_body seat a b now body answer h sound rising desk steps =
    by_step seat a b now (event_of_body body) body answer steps (λ (c : Shown). EndsBody (book_at seat a) (book_at seat c) now body answer)
    (record {
      enters = step_enters seat a b now (event_of_body body) body answer steps h sound rising (refl, refl) desk;
      answered = marked_of_body seat a.site now body steps.mark answer steps.makes.may_come.asked steps.makes.answered;
      stored = steps_stored seat a b now body answer h sound steps;
    })
