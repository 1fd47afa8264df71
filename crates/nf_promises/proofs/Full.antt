-- A run isn't full for a session that began it.
use Rattle.std.proofs.Common.{ℕ, ◌+◌, ◌-◌, ◌≡◌, ◌<◌, ◌≤◌, ◌==◌, Bool, true, false, List, [], ◌∷◌, length, Option, Some, Result, Ok, Err, inl, inr, refl, ap, subst, sym, ◌∙◌, arith}
use Rattle.nf_base.specs.declared.limits.TheConstants.{MAX_ENTRIES, MAX_MESSAGES}
use Rattle.nf_base.specs.declared.content.Piece.{Piece}
use Rattle.nf_dav.specs.Reply.{continue_reply}
use Rattle.nf_http.specs.Head.{Head}
use Rattle.nf_http.specs.declared.wire.WireFault.{WireFault}
use Rattle.nf_http.specs.declared.wire.WireFault.TheVariants as wire
use Rattle.nf_outside.specs.Lent.{Taken}
use Rattle.nf_words.specs.Prelude.{opened}
use Rattle.nf_words.specs.declared.answer.Denial.{Denial}
use Rattle.nf_words.specs.declared.answer.Denial.TheVariants as denial
use Rattle.nf_words.specs.declared.answer.Goal.TheVariants as goal
use Rattle.nf_words.specs.declared.answer.Reply.TheVariants as reply
use Rattle.nf_session.specs.Prelude.{Answer, Answers, Book, Closes, CutsShort, end_by, end_of, end_of_close, end_of_denial, EndsBy, entries_wanted, how_of, Invites, IsResponse, Judges, Passes, Responds, Scene, Session, Starts, state_after, stays_granted, StopsShort, TakesIn, Turn, Way, way_of}
use Rattle.nf_session.specs.declared.begun.Begun.{Begun}
use Rattle.nf_session.specs.declared.begun.Begun.TheVariants as begun
use Rattle.nf_session.specs.declared.ended.Ended.{Ended}
use Rattle.nf_session.specs.declared.ended.Ended.TheVariants as ended
use Rattle.nf_session.specs.declared.response.Response.{Response}
use Rattle.nf_session.specs.declared.response.Response.TheVariants as response
use Rattle.nf_session.proofs.Inviting.{invites_wrote, stops_sends}
use Rattle.nf_session.proofs.Turns.{sends_failed}
use Rattle.nf_session.proofs.Causes.{is_whole, session_goes, whole_by}
use Rattle.nf_promises.proofs.Refusals.{end_not_full, request_not_full}
use Rattle.nf_promises.proofs.Tickets.{few_tickets}
use Rattle.nf_promises.proofs.Touches.{book_of, says_only}
use Rattle.nf_promises.specs.Room.{FullIsSeen, NeverFull}

-- ---- which response ends a session so

close_not_full : (closes : Bool) → end_of_close closes ≡ Some ended.RunFull → ⊥
close_not_full true is = cc
close_not_full false is = cc

denial_full : (closes : Bool) (refusal : Denial) → end_of_denial closes refusal ≡ Some ended.RunFull → refusal ≡ denial.RunFull
denial_full closes denial.RunFull is = refl
denial_full closes other is = absurd (close_not_full closes is)

response_full : (closes : Bool) (v : Response) → end_of closes v ≡ Some ended.RunFull → v ≡ response.Denied denial.RunFull
response_full closes (response.Denied refusal) is = ap response.Denied (denial_full closes refusal is)
response_full closes other is = absurd (close_not_full closes is)

-- and no writing does
responds_full : {C : Type 0} (last : Bool) (way : Way) (v : Response) (a b : Scene C) (result : Result (Option Ended) Ended)
    → Responds last way v a b result → end_by result ≡ Some ended.RunFull → v ≡ response.Denied denial.RunFull
responds_full last way v a b result responds is =
    response_full way.closes v (sym (whole_by last way v a b result responds (ap is_whole is)).0 ∙ is)

-- nor do bytes that are no message
ends_not_full : {C : Type 0} (fault : WireFault) (a b : Scene C) → EndsBy fault a b ended.RunFull → ⊥
ends_not_full wire.ReadFault a b (is, same) = cc
ends_not_full wire.Memory a b (is, same) = cc
ends_not_full other a b never = never

-- ---- a message that is answered so

starts_not_full : (a b : Book) (content : List Piece) → Starts a b content (response.Denied denial.RunFull) → ⊥
starts_not_full a b [] never = never
starts_not_full a b (piece ∷ pieces) never = never

answer_full : (answer : Answer) → IsResponse answer (response.Denied denial.RunFull) → answer ≡ Err denial.RunFull
answer_full (Err refusal) is = cc
answer_full (Ok reply.Closed) never = absurd never
answer_full (Ok (reply.Granted goal)) never = absurd never
answer_full other is = absurd (cc)

-- it was refused before its body, or it was asked, and answered so
abbrev IsFound : Begun → Type 0
IsFound (begun.Unasked refusal) = refusal ≡ denial.RunFull
IsFound (begun.Asked answer) = answer ≡ Err denial.RunFull

passes_full : {C : Type 0} (reads : C → Taken → C → Type 0) (body : List ℕ) (a b : Scene C) (begun : Begun)
    → Passes reads body a b begun (response.Denied denial.RunFull) → IsFound begun
passes_full reads body a b (begun.Unasked refusal) (is, same) = cc
passes_full reads body a b (begun.Asked (Ok (reply.Granted (goal.Serve content)))) starts =
    absurd (starts_not_full a.book b.book content starts.starts)
passes_full reads body a b (begun.Asked (Ok (reply.Granted (goal.Store by key length)))) (now, answer, read, ends, is, only) =
    let enters = ends.enters in
    absurd (end_not_full (state_after a.book enters.others) enters.entry _ enters.event_is (sym enters.answer_is ∙ answer_full answer is))
passes_full reads body a b (begun.Asked (Ok (reply.Granted (goal.Chunk user dir number length)))) (now, answer, read, ends, is, only) =
    let enters = ends.enters in
    absurd (end_not_full (state_after a.book enters.others) enters.entry _ enters.event_is (sym enters.answer_is ∙ answer_full answer is))
passes_full reads body a b (begun.Asked answer) passes = answer_full answer passes.0

judges_full : {C : Type 0} (reads : C → Taken → C → Type 0) (head : Head) (early : List ℕ) (a b : Scene C) (begun : Begun)
    → Judges reads head early a b begun → IsFound begun → MAX_ENTRIES < entries_wanted b.book
judges_full reads head early a b (begun.Unasked refusal) (inl asked, same) is =
    absurd (request_not_full head early (asked ∙ ap Err is))
judges_full reads head early a b (begun.Unasked refusal) (inr memory, same) is = absurd (cc)
judges_full reads head early a b (begun.Asked answer) (r, now, words, asked, read, begins, only) is = begins.full is

-- nothing is done then
found_same : {C : Type 0} (reads : C → Taken → C → Type 0) (body : List ℕ) (a b : Scene C) (begun : Begun) (v : Response)
    → IsFound begun → Passes reads body a b begun v → b ≡ a
found_same reads body a b (begun.Unasked refusal) v is (denied, same) = same
found_same reads body a b (begun.Asked answer) v is passes =
    (subst (λ (x : Answer). Passes reads body a b (begun.Asked x) v) is passes).1

refusal_same : {C : Type 0} (last : Bool) (way : Way) (refusal : Denial) (a b : Scene C) (result : Result (Option Ended) Ended)
    → Responds last way (response.Denied refusal) a b result → b.book ≡ a.book
refusal_same last way refusal a b (Ok end) (is, says) = ap (λ (x : Scene _). x.book) says.only
refusal_same last way refusal a b (Err by) says = book_of a b (says_only {T = Unit {0}} a b _ (Err by) says)

-- ---- a turn

pub answers_full : {C : Type 0} (reads : C → Taken → C → Type 0) (last : Bool) (head : Head) (early : List ℕ) (begun : Begun)
    (a m n b : Scene C) → Judges reads head early a m begun → Invites {T = Unit {0}} head begun m n (Ok tt) → Answers reads last head begun n b (Some ended.RunFull)
    → MAX_ENTRIES < entries_wanted b.book
answers_full {C} reads last head early begun a m n b judges invites answers =
    let v : answers.response ≡ response.Denied denial.RunFull =
    responds_full last (way_of head begun) answers.response answers.taken answers.sent answers.result answers.responds (sym answers.ends) in
    let takes : TakesIn reads head n answers.taken begun (Ok (response.Denied denial.RunFull)) =
    subst (λ (v : Response). TakesIn reads head n answers.taken begun (Ok v)) v answers.takes in
    let responds : Responds last (way_of head begun) (response.Denied denial.RunFull) answers.taken answers.sent answers.result =
    subst (λ (v : Response). Responds last (way_of head begun) v answers.taken answers.sent answers.result) v answers.responds in
    let closes : b ≡ answers.sent =
    subst (λ (v : Response). Closes reads (how_of v answers.result) (stays_granted v) answers.sent b) v answers.closes in
    let found = passes_full reads takes.1 takes.0 answers.taken begun takes.3 in
    let same : b.book ≡ m.book =
    ap (λ (x : Scene C). x.book) closes ∙ refusal_same last (way_of head begun) denial.RunFull answers.taken answers.sent answers.result responds
    ∙ ap (λ (x : Scene C). x.book) (found_same reads takes.1 takes.0 answers.taken begun _ found takes.3)
    ∙ ap (λ (x : Scene C). x.book) takes.2.only ∙ ap (λ (x : Scene C). x.book) (invites_wrote head begun m n (Unit {0}) tt invites).only in
    subst (λ (k : Book). MAX_ENTRIES < entries_wanted k) (sym same) (judges_full reads head early a m begun judges found)

cuts_not_full : {C : Type 0} (reads : C → Taken → C → Type 0) (head : Head) (begun : Begun) (a b : Scene C)
    → CutsShort reads head begun a b (Some ended.RunFull) → ⊥
cuts_not_full {C} reads head begun a b cuts =
    let same : cuts.by ≡ ended.RunFull = cc in
    ends_not_full cuts.fault cuts.cut cuts.sent (subst (λ (e : Ended). EndsBy cuts.fault cuts.cut cuts.sent e) same cuts.responds)

stops_not_full : {C : Type 0} (reads : C → Taken → C → Type 0) (head : Head) (begun : Begun) (a b : Scene C)
    → StopsShort reads head begun a b (Some ended.RunFull) → ⊥
stops_not_full {C} reads head begun a b stops =
    let by = sends_failed (Unit {0}) a stops.sent continue_reply stops.by (stops_sends head begun a stops.sent (Unit {0}) stops.by stops.invites) in
    let same : stops.by ≡ ended.WriteFault = by.0 in
    cc

turn_full : {C : Type 0} (reads : C → Taken → C → Type 0) (last : Bool) (a b : Scene C) → Turn reads last a b (Some ended.RunFull)
    → MAX_ENTRIES < entries_wanted b.book
turn_full reads last a b (inl (heads, is)) = absurd (cc)
turn_full {C} reads last a b (inr (inl (m, fault, by, heads, ends, is))) =
    let same : by ≡ ended.RunFull = cc in
    absurd (ends_not_full fault m b (subst (λ (e : Ended). EndsBy fault m b e) same ends))
turn_full {C} reads last a b (inr (inr (m, head, heads, inl cut))) =
    let same : cut.by ≡ ended.RunFull = cc in
    absurd (ends_not_full cut.fault cut.cut b (subst (λ (e : Ended). EndsBy cut.fault cut.cut b e) same cut.responds))
turn_full reads last a b (inr (inr (m, head, heads, inr (t, early, takes, (n, begun, judges, inl stops))))) = absurd (stops_not_full reads head begun n b stops)
turn_full reads last a b (inr (inr (m, head, heads, inr (t, early, takes, (n, begun, judges, inr (told, invites, inl answers)))))) =
    answers_full reads last head early begun t n told b judges invites answers
turn_full reads last a b (inr (inr (m, head, heads, inr (t, early, takes, (n, begun, judges, inr (told, invites, inr cuts)))))) =
    absurd (cuts_not_full reads head begun told b cuts)

-- ---- a session

-- a history of few entries leaves room
few_wanted : (b : Book) (most : ℕ) → length b.known ≤ most → entries_wanted b ≤ most + most + 2
few_wanted b most few = omega (arith, few_tickets (opened b.opening) b.known)

pub full_is_seen : {C : Type 0} (reads : C → Taken → C → Type 0) → FullIsSeen reads
full_is_seen {C} reads a b session = turn_full reads (length session.scenes == MAX_MESSAGES - 1) session.before b session.turn

pub never_full : {C : Type 0} (reads : C → Taken → C → Type 0) → NeverFull reads
never_full {C} reads a b end session fresh alone is =
    let full = full_is_seen reads a b (subst (λ (e : Option Ended). Session reads a b e) is session) in
    let whole = (session_goes reads a b end session).book in
    let own : length a.book.own ≡ 0 = ap length fresh.own in
    let few : length b.book.known ≤ 30000 = omega (arith, whole.few, session.few, own, alone) in
    omega (arith, few_wanted b.book 30000 few, full)
