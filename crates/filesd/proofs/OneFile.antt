-- One GET of a file that is there, from what a session says.
use Rattle.std.proofs.Common.{◌≡◌, ◌⊎◌, ℕ, ◌<◌, ◌==◌, ◌-◌, ◌||◌, Bool, true, false, List, [], ◌∷◌, ◌++◌, length, refl, sym, ◌∙◌, ap, subst, inl, inr, arith, append-nil, length-append, if◌then◌else◌, Result, Ok, Err}
use Rattle.std.specs.Prelude.{Option, None, Some, IfSome, Vec}
use Rattle.std.specs.Io.KnownBytes.{Appends, Consumes}
use Rattle.std.specs.declared.alloc.Global.{Global}
use Rattle.std.proofs.lemmas.Bool.{eqb-false}
use Rattle.std.proofs.lemmas.Option.{none-some, same_Some}
use Rattle.httparse.specs.Grammar.{RequestHead, print_request, IsRequestHead}
use Rattle.nf_base.specs.declared.limits.TheConstants.{MAX_MESSAGES}
use Rattle.nf_base.specs.declared.content.Piece.{Piece}
use Rattle.nf_dav.specs.Reply.{done_reply, file_head, items_reply, listing_reply, made_reply, plain_reply, refusal_reply, share_reply, shares_reply, versions_reply}
use Rattle.nf_dav.specs.declared.replies.Manner.{Manner}
use Rattle.nf_http.specs.Head.{Head, closes_session, head_of}
use Rattle.nf_http.specs.Next.{IsNext}
use Rattle.nf_http.specs.Told.{stream}
use Rattle.nf_http.proofs.Fronts.{head_costs}
use Rattle.nf_defs.specs.Blobs.{Blobs, blob_at, put_blob}
use Rattle.nf_base.specs.declared.rows.Row.{Row}
use Rattle.nf_desk.specs.Opening.{IsLoaded, OpensTo}
use Rattle.nf_keeper.specs.Keeping.{AreTold}
use Rattle.nf_outside.specs.Lent.{Taken}
use Rattle.nf_promises.specs.Kept.{FailsStore, Gets, IsWritten, OnlyOwn, Prints, ShowsFile, get_of, plainly, waits}
use Rattle.nf_promises.specs.Room.{IsAlone}
use Rattle.nf_promises.proofs.Bytes.{head_is, turn_gets}
use Rattle.nf_promises.proofs.Gets.{asked_not_early}
use Rattle.nf_promises.proofs.Growing.{heads_same}
use Rattle.nf_promises.proofs.Puts.{IsKept, Keeps}
use Rattle.nf_promises.proofs.Returning.{appends_by, cut_not_written, front_shown, meets_shown, stop_not_written, told_shown}
use Rattle.nf_rows.specs.Spelling.{Raw}
use Rattle.nf_promises.proofs.Touches.{closes_only, input_of, judges_only, passes_only, says_only}
use Rattle.nf_session.specs.Prelude.{Book, denial_of_piece, Heads, how_of, is_early, manner_of, Meets, MeetsWith, next_blob_of, OnlyWrites, Responds, Scene, SendsFile, Session, state_of, stays_granted, Through, Turn, Way, way_of, Writes}
use Rattle.nf_session.proofs.Early.{meets_at_once}
use Rattle.nf_session.proofs.Inviting.{invites_wrote, stops_sends}
use Rattle.nf_session.specs.declared.ended.Ended.{Ended}
use Rattle.nf_session.specs.declared.ended.Ended.TheVariants as ended
use Rattle.nf_session.specs.declared.response.Response.{Response}
use Rattle.nf_session.specs.declared.response.Response.TheVariants as response
use Rattle.nf_words.specs.Prelude.{blob_for, State}
use Rattle.nf_words.specs.declared.answer.Denial.TheVariants as denial
use Rattle.nf_words.specs.declared.request.Caller.{Caller}
use Rattle.nf_words.specs.declared.request.Spot.{Spot}
use Rattle.nf_site.specs.Demo.{demo_rows, hello}
use Rattle.nf_site.specs.Held.{Held}
use Rattle.nf_told.specs.Told.{Told}
use Rattle.filesd.specs.OneFile.{IsFileOf, ServesOneFile, fresh_book}
use Rattle.filesd.specs.Opening.{IsUnopened, WhyUnopened, over_any, told_opened}
use Rattle.filesd.specs.Outside.{Outside}
use Rattle.filesd.specs.Seat.{AreOwn, book_of}
use Rattle.filesd.specs.Session.{Runs, first_book, scene_of, status_of}
use Rattle.filesd.specs.declared.status.Status.{Status}
use Rattle.filesd.specs.declared.status.Status.TheVariants as exit
use Rattle.filesd.proofs.Alone.{is_alone}

-- ---- such a file is kept as a body that was put

blob_some : (next n id : ℕ) → blob_for next n ≡ Some id → (0 < n) × (next ≡ id)
blob_some next n id is = here (n == 0) refl is
  where
    here : (a : Bool) → (n == 0) ≡ a → (if a then None else Some next) ≡ Some id → (0 < n) × (next ≡ id)
    here true f e = absurd (none-some id e)
    here false f e = (omega (arith, eqb-false n 0 f), same_Some next id e)

is_kept : (b : Book) (shelf : Blobs) (caller : Caller) (spot : Spot) (body : List ℕ) → b.told ≡ Some shelf → IsFileOf b caller spot body
    → IsKept b caller spot body
is_kept b shelf caller spot body told file =
    let s = state_of b in
    let before : State = record s { tables = record s.tables { meta = record s.tables.meta { next_blob = file.blob } } } in
    record {
      before = before;
      got = file.granted;
      bytes = subst (λ (o : Option Blobs). IfSome o (Keeps b before body)) (sym told) (λ id is.
          let at = blob_some file.blob (length body) id is in (
            subst (λ (n : ℕ). n < next_blob_of b) at.1 file.given,
            subst (λ (n : ℕ). blob_at shelf n ≡ Some body) at.1
                (subst (λ (o : Option Blobs). IfSome o (λ shelf. blob_at shelf file.blob ≡ Some body)) told (file.there at.0)),
          ));
    }

-- ---- nothing is answered of no bytes

never_empty : (h : RequestHead) (rest : List ℕ) → IsRequestHead h → [] ≡ print_request h ++ rest → ⊥
never_empty h rest is e =
    let total = ap length e in
    omega (arith, head_costs h is, total, length-append (print_request h) rest)

no_next : (new : Option (List ℕ)) (head : Head) → IsNext (Some []) new (Ok (Some head)) → ⊥
no_next None head (h, is, takes) = takes.3
no_next (Some rest) head (h, is, takes) = never_empty h rest takes.0 takes.3

-- a turn over no bytes finds the end of the input
turn_silent : {C : Type 0} (reads : C → Taken → C → Type 0) (last : Bool) (m b : Scene C) (end : Option Ended) → m.input ≡ Some []
    → Turn reads last m b end → IsWritten end → Heads m b (Ok None) × (end ≡ Some ended.Closed)
turn_silent reads last m b end none (inl (heads, ends)) written = (heads, ends)
turn_silent reads last m b end none (inr (inl (k, why, by, heads, ends, is))) written =
    absurd (cut_not_written why k b by ends (subst (λ (e : Option Ended). IsWritten e) is written))
turn_silent reads last m b end none (inr (inr (k, head, heads, meets))) written =
    absurd (no_next k.input head (subst (λ (o : Option (List ℕ)). IsNext o k.input (Ok (Some head))) none heads.next))

-- so a session over no bytes that is closed has no other turn
rest_silent : {C : Type 0} (reads : C → Taken → C → Type 0) (m : Scene C) (scenes : List (Scene C)) (p b : Scene C) (last : Bool)
    → m.input ≡ Some [] → Through reads m scenes p → Turn reads last p b (Some ended.Closed) → Heads m b (Ok None)
rest_silent {C} reads m [] p b last none through turn =
    (turn_silent reads last m b (Some ended.Closed) none
    (subst (λ (z : Scene C). Turn reads last z b (Some ended.Closed)) (sym through) turn) tt).0
rest_silent reads m (s ∷ scenes) p b last none through turn = absurd (none-some ended.Closed (turn_silent reads false m s None none through.0 tt).1)

-- ---- a message without a byte behind it leaves none

writes_input : {C : Type 0} (a b : Scene C) → OnlyWrites a b → b.input ≡ a.input
writes_input {C} a b only = ap (λ (x : Scene C). x.input) only

sends_input : {C T : Type 0} (close : Bool) (content : List Piece) (first : Option (Vec ℕ Global)) (a b : Scene C) (result : Result T Ended)
    → SendsFile close content first a b result → b.input ≡ a.input
sends_input {C} close content first a b (Ok sent) (given, writes, all, unstruck) = ap (λ (x : Scene C). x.input) writes.pieces.only
sends_input {C} close content first a b (Err (ended.Cut why)) (given, writes, lacks, other) = ap (λ (x : Scene C). x.input) writes.pieces.only
sends_input {C} close content first a b (Err ended.Memory) (inl same) = ap (λ (x : Scene C). x.input) same
sends_input {C} close content first a b (Err ended.Memory) (inr (given, writes, lacks)) = ap (λ (x : Scene C). x.input) writes.pieces.only
sends_input {C} close content first a b (Err ended.WriteFault) (given, breaks) = ap (λ (x : Scene C). x.input) breaks.pieces.only
sends_input close content first a b (Err other) never = absurd never

response_input : {C T : Type 0} (manner : Manner) (v : Response) (a b : Scene C) (result : Result T Ended) → Writes manner v a b result → b.input ≡ a.input
response_input manner (response.Denied refusal) a b result says = writes_input a b (says_only a b (refusal_reply manner refusal) result says)
response_input manner (response.Lost fault) a b result says = writes_input a b (says_only a b (refusal_reply manner (denial_of_piece fault)) result says)
response_input manner (response.File content first) a b result sends = sends_input manner.close content first a b result sends
response_input manner response.Made a b result says = writes_input a b (says_only a b (made_reply manner.close) result says)
response_input manner response.Done a b result says = writes_input a b (says_only a b (done_reply manner.close) result says)
response_input manner (response.Listing lines) a b result says = writes_input a b (says_only a b (listing_reply manner.close lines) result says)
response_input manner (response.Share line) a b result says = writes_input a b (says_only a b (share_reply manner.close line) result says)
response_input manner (response.Shares lines) a b result says = writes_input a b (says_only a b (shares_reply manner.close lines) result says)
response_input manner (response.Items lines) a b result says = writes_input a b (says_only a b (items_reply manner.close lines) result says)
response_input manner (response.Versions lines) a b result says = writes_input a b (says_only a b (versions_reply manner.close lines) result says)
response_input manner response.Plain a b result says = writes_input a b (says_only a b (plain_reply manner.close) result says)

responds_input : {C : Type 0} (last : Bool) (way : Way) (v : Response) (a b : Scene C) (result : Result (Option Ended) Ended)
    → Responds last way v a b result → b.input ≡ a.input
responds_input last way v a b (Ok end) (is, writes) = response_input {T = Unit {0}} (manner_of last way v) v a b (Ok tt) writes
responds_input last way v a b (Err by) writes = response_input {T = Unit {0}} (manner_of last way v) v a b (Err by) writes

no_more : (new : Option (List ℕ)) (body : List ℕ) → Consumes (Some []) new body → new ≡ Some []
no_more None body c = absurd c
no_more (Some rest) [] c = ap (λ z. Some z) (sym c)
no_more (Some rest) (x ∷ body) c = cc

with_leaves : {C : Type 0} (reads : C → Taken → C → Type 0) (last : Bool) (head : Head) (k b : Scene C) (end : Option Ended)
    → MeetsWith reads last head [] k b end → IsWritten end → k.input ≡ Some [] → b.input ≡ Some []
with_leaves reads last head k b end (m, begun, judges, inl stops) written none =
    absurd (stop_not_written m stops.sent stops.by (stops_sends head begun m stops.sent (Unit {0}) stops.by stops.invites)
    (subst (λ (e : Option Ended). IsWritten e) stops.ends written))
with_leaves {C} reads last head k b end (m, begun, judges, inr (n, invites, inl answers)) written none =
    let v = answers.response in
    let x : Scene C = answers.takes.0 in
    let body = answers.takes.1 in
    let front : n.input ≡ Some [] = ap (λ (y : Scene C). y.input) (invites_wrote head begun m n (Unit {0}) tt invites).only
    ∙ input_of k m (judges_only reads head [] k m begun judges) ∙ none in
    let taken : x.input ≡ Some [] = no_more x.input body
    (subst (λ (o : Option (List ℕ)). Consumes o x.input body) front answers.takes.2.taken.1) in
    input_of answers.sent b (closes_only reads (how_of v answers.result) (stays_granted v) answers.sent b answers.closes)
    ∙ responds_input last (way_of head begun) v answers.taken answers.sent answers.result answers.responds
    ∙ input_of x answers.taken (passes_only reads body x answers.taken begun v answers.takes.3) ∙ taken
with_leaves reads last head k b end (m, begun, judges, inr (n, invites, inr cuts)) written none =
    absurd (cut_not_written cuts.fault cuts.cut cuts.sent cuts.by cuts.responds (subst (λ (e : Option Ended). IsWritten e) cuts.ends written))

meets_leave : {C : Type 0} (reads : C → Taken → C → Type 0) (last : Bool) (head : Head) (k b : Scene C) (end : Option Ended)
    → is_early head ≡ false → Meets reads last head k b end → IsWritten end → k.input ≡ Some [] → b.input ≡ Some []
meets_leave reads last head k b end none meets written left =
    with_leaves reads last head k b end (meets_at_once reads last head k b end none meets) written left

-- ---- the turn of the one message

-- the turn takes that message, and leaves no byte behind its head
gets_one : {C : Type 0} (reads : C → Taken → C → Type 0) (caller : Caller) (spot : Spot) (h : RequestHead) (a b : Scene C) (end : Option Ended)
    → Prints h (get_of caller spot) → a.input ≡ Some (print_request h) → IsWritten end → Turn reads false a b end
    → (get : Gets reads false caller spot a b end) × (get.head ≡ head_of h) × (get.behind.input ≡ Some [])
gets_one reads caller spot h a b end prints input written turn =
    let whole : a.input ≡ Some (print_request h ++ []) = input ∙ ap (λ (bytes : List ℕ). Some bytes) (sym (append-nil (print_request h))) in
    let get = turn_gets reads false caller spot h [] a b end prints whole written turn in
    (get.0, get.1, (head_is a get.0.behind h (get_of caller spot) [] get.0.head prints whole get.0.heads).1)

one_left : {C : Type 0} (reads : C → Taken → C → Type 0) (caller : Caller) (spot : Spot) (h : RequestHead) (a b : Scene C) (end : Option Ended)
    → Prints h (get_of caller spot) → a.input ≡ Some (print_request h) → IsWritten end → Turn reads false a b end → b.input ≡ Some []
one_left reads caller spot h a b end prints input written turn =
    let get = gets_one reads caller spot h a b end prints input written turn in
    meets_leave reads false get.0.head get.0.behind b end (asked_not_early get.0.head (get_of caller spot) get.0.asked refl) get.0.meets written get.2

one_shown : {C : Type 0} (reads : C → Taken → C → Type 0) (caller : Caller) (spot : Spot) (h : RequestHead) (body : List ℕ) (a b : Scene C)
    (end : Option Ended) → Prints h (get_of caller spot) → a.input ≡ Some (print_request h) → IsWritten end → Turn reads false a b end
    → IsKept a.book caller spot body → OnlyOwn a.book b.book → ShowsFile (closes_session (head_of h)) (waits (head_of h)) body a b
one_shown {C} reads caller spot h body a b end prints input written turn kept only =
    let get = (gets_one reads caller spot h a b end prints input written turn).0 in
    let is : get.head ≡ head_of h = (gets_one reads caller spot h a b end prints input written turn).1 in
    let same : get.behind.book ≡ a.book = heads_same a get.behind (Ok (Some get.head)) get.heads in
    let shown = meets_shown reads false get.head caller spot body get.behind b end get.meets get.asked
    (subst (λ (k : Book). IsKept k caller spot body) (sym same) kept) (subst (λ (k : Book). OnlyOwn k b.book) (sym same) only) written in
    subst (λ (head : Head). ShowsFile (closes_session head) (waits head) body a b) is
    (front_shown (closes_session get.head) (waits get.head) body a get.behind b (ap (λ (x : Scene C). x.output) get.heads.only) same shown)

-- ---- the session

-- the file itself was written; or that there is no memory, at the Begin or later; or that the store failed
abbrev Shows : {C : Type 0} → Bool → Bool → List ℕ → Scene C → Scene C → Type 0
Shows close unsent body a b =
    Appends a.output b.output (file_head close (length body) ++ body)
    ⊎ Appends a.output b.output (refusal_reply (plainly close) denial.Memory)
    ⊎ Appends a.output b.output (refusal_reply (plainly (close || unsent)) denial.Memory)
    ⊎ (Appends a.output b.output (refusal_reply (plainly close) denial.Store) × FailsStore a.book b.book)

back_shown : {C : Type 0} (close unsent : Bool) (body : List ℕ) (a m b : Scene C) → b.output ≡ m.output → b.book ≡ m.book
    → Shows close unsent body a m → Shows close unsent body a b
back_shown close unsent body a m b out book (inl is) = inl (appends_by a.output b.output a.output m.output _ refl (sym out) is)
back_shown close unsent body a m b out book (inr (inl is)) = inr (inl (appends_by a.output b.output a.output m.output _ refl (sym out) is))
back_shown close unsent body a m b out book (inr (inr (inl is))) =
    inr (inr (inl (appends_by a.output b.output a.output m.output _ refl (sym out) is)))
back_shown close unsent body a m b out book (inr (inr (inr (is, fails)))) =
    inr (inr (inr (
      appends_by a.output b.output a.output m.output _ refl (sym out) is,
      subst (λ (x : Book). FailsStore a.book x) (sym book) fails,
    )))

through_shown : {C : Type 0} (reads : C → Taken → C → Type 0) (caller : Caller) (spot : Spot) (h : RequestHead) (body : List ℕ) (shelf : Blobs)
    (a : Scene C) (scenes : List (Scene C)) (p b : Scene C) → Prints h (get_of caller spot) → a.input ≡ Some (print_request h)
    → a.book.told ≡ Some shelf → IsKept a.book caller spot body → OnlyOwn a.book b.book
    → Through reads a scenes p → Turn reads (length scenes == MAX_MESSAGES - 1) p b (Some ended.Closed) → Shows (closes_session (head_of h)) (waits (head_of h)) body a b
through_shown {C} reads caller spot h body shelf a [] p b prints input told kept only through turn =
    told_shown (closes_session (head_of h)) (waits (head_of h)) body shelf a b told
    (one_shown reads caller spot h body a b (Some ended.Closed) prints input tt
    (subst (λ (z : Scene C). Turn reads false z b (Some ended.Closed)) (sym through) turn) kept only)
through_shown {C} reads caller spot h body shelf a (m ∷ scenes) p b prints input told kept only through turn =
    let left = one_left reads caller spot h a m None prints input tt through.0 in
    let heads = rest_silent reads m scenes p b _ left through.1 turn in
    let book : b.book ≡ m.book = heads_same m b (Ok None) heads in
    back_shown (closes_session (head_of h)) (waits (head_of h)) body a m b (ap (λ (x : Scene C). x.output) heads.only) book
    (told_shown (closes_session (head_of h)) (waits (head_of h)) body shelf a m told
    (one_shown reads caller spot h body a m None prints input tt through.0 kept (subst (λ (x : Book). OnlyOwn a.book x) book only)))

shown_outputs : {C : Type 0} (close unsent : Bool) (body before output : List ℕ) (a b : Scene C) → a.output ≡ Some before → b.output ≡ Some output
    → Shows close unsent body a b
    → (output ≡ before ++ (file_head close (length body) ++ body)) ⊎ (output ≡ before ++ refusal_reply (plainly close) denial.Memory)
    ⊎ (output ≡ before ++ refusal_reply (plainly (close || unsent)) denial.Memory)
    ⊎ ((output ≡ before ++ refusal_reply (plainly close) denial.Store) × FailsStore a.book b.book)
shown_outputs close unsent body before output a b first last (inl is) =
    inl (appends_by (Some before) (Some output) a.output b.output _ first last is)
shown_outputs close unsent body before output a b first last (inr (inl is)) =
    inr (inl (appends_by (Some before) (Some output) a.output b.output _ first last is))
shown_outputs close unsent body before output a b first last (inr (inr (inl is))) =
    inr (inr (inl (appends_by (Some before) (Some output) a.output b.output _ first last is)))
shown_outputs close unsent body before output a b first last (inr (inr (inr (is, fails)))) =
    inr (inr (inr (appends_by (Some before) (Some output) a.output b.output _ first last is, fails)))

-- ---- the run

done_is : (end : Option Ended) → exit.Done ≡ status_of end → end ≡ Some ended.Closed
done_is None e = cc
done_is (Some ended.Closed) e = refl
done_is (Some ended.BadMessage) e = cc
done_is (Some ended.RunFull) e = cc
done_is (Some (ended.Cut why)) e = cc
done_is (Some ended.ReadFault) e = cc
done_is (Some ended.WriteFault) e = cc
done_is (Some ended.Memory) e = cc

-- a keeper that tells that it has no rows gives none, and so the demonstration rows are what the site is opened over
none_loaded : (told : Told) (before : Option Told) (raws : List Raw) → before ≡ Some told → told.rows ≡ [] → IsLoaded before raws → raws ≡ []
none_loaded told before raws is none loaded =
    subst (λ (o : Option Told). AreTold o raws) is loaded.told ∙ none

fresh_is : (told : Told) (before : Option Told) (raws : List Raw) (rows : List Row) (faults : ℕ) → before ≡ Some told → raws ≡ []
    → OpensTo demo_rows raws rows → first_book rows (told_opened raws before) faults ≡ fresh_book told faults
fresh_is told before [] rows faults is none opens =
    ap (λ (these : List Row). first_book these (told_opened [] before) faults) opens
    ∙ ap (λ (o : Option Told). first_book demo_rows (told_opened [] o) faults) is
fresh_is told before (raw ∷ raws) rows faults is none opens = cc

-- a session from there
closed_one : {C : Type 0} (reads : C → Taken → C → Type 0) (told : Told) (faults : ℕ) (a b : Scene C) (input before output : List ℕ)
    → Session reads a b (Some ended.Closed) → a.input ≡ Some input → a.output ≡ Some before → b.output ≡ Some output
    → a.book ≡ fresh_book told faults → IsAlone b.book
    → (h : RequestHead) (caller : Caller) (spot : Spot) (body : List ℕ)
    → Prints h (get_of caller spot) → IsFileOf (fresh_book told faults) caller spot body → input ≡ print_request h
    → (output ≡ before ++ (file_head (closes_session (head_of h)) (length body) ++ body))
    ⊎ (output ≡ before ++ refusal_reply (plainly (closes_session (head_of h))) denial.Memory)
    ⊎ (output ≡ before ++ refusal_reply (plainly (closes_session (head_of h) || waits (head_of h))) denial.Memory)
    ⊎ ((output ≡ before ++ refusal_reply (plainly (closes_session (head_of h))) denial.Store) × FailsStore a.book b.book)
closed_one reads told faults a b input before output session left first last fresh alone h caller spot body prints file is =
    let shelf : Blobs = put_blob told.blobs 1 hello in
    let tells : a.book.told ≡ Some shelf = ap (λ (k : Book). k.told) fresh in
    let kept : IsKept a.book caller spot body =
    subst (λ (k : Book). IsKept k caller spot body) (sym fresh) (is_kept (fresh_book told faults) shelf caller spot body refl file) in
    let only : OnlyOwn a.book b.book =
    subst (λ (k : Book). OnlyOwn k b.book) (sym fresh) (omega (arith, alone)) in
    shown_outputs (closes_session (head_of h)) (waits (head_of h)) body before output a b first last
    (through_shown reads caller spot h body shelf a session.scenes session.before b prints (left ∙ ap (λ (bytes : List ℕ). Some bytes) is)
    tells kept only session.through session.turn)

unopened_not_done : {C : Type 0} (a b : Outside C) (status : Status) → IsUnopened over_any a b status → status ≡ exit.Done → ⊥
unopened_not_done a b status unopened is = subst (λ (z : Status). WhyUnopened over_any a.told a.faults b.faults z) is unopened.why

-- a run over such an input
pub serves_one : {C : Type 0} (reads : C → Taken → C → Type 0) (a b : Outside C) (status : Status) (site : Option Held)
    → Runs reads a b status site → IfSome site (λ site. AreOwn site.kept.history) → ServesOneFile a b status
serves_one reads a b status None runs own =
    λ told input before output h caller spot body tells none left first last done prints file is.
    absurd (unopened_not_done a b status runs done)
serves_one {C} reads a b status (Some site) runs own =
    λ told input before output h caller spot body tells none left first last done prints file is.
    let fresh = fresh_is told a.told runs.raws runs.rows a.faults tells (none_loaded told a.told runs.raws tells none runs.loaded) runs.opens in
    let end : runs.end ≡ Some ended.Closed = done_is runs.end (sym done ∙ runs.ended) in
    closed_one reads told a.faults _ _ input before output
    (subst (λ (e : Option Ended). Session reads (scene_of a [] (first_book runs.rows (told_opened runs.raws a.told) a.faults))
    (scene_of b runs.kept (book_of site.kept (told_opened runs.raws a.told) b.told b.faults)) e) end runs.session)
    (ap (λ (o : Option (List ℕ)). stream [] o) left) first last fresh
    (is_alone site.kept (told_opened runs.raws a.told) b.told b.faults own)
    h caller spot body prints file is
