-- What a turn that took a PUT, and said that it stored it, leaves in the seat's book.
use Rattle.std.proofs.Common.{ℕ, ◌<◌, ◌≡◌, Bool, List, [], length, Option, None, Some, Result, Ok, Err, refl, sym, ap, subst, ◌∙◌}
use Rattle.std.specs.Prelude.{IfSome, IsOk, OnOk}
use Rattle.nf_base.specs.declared.content.Piece.{Piece}
use Rattle.nf_dav.specs.Asked.{request_of}
use Rattle.nf_http.specs.Head.{Head}
use Rattle.nf_outside.specs.Lent.{Taken}
use Rattle.nf_words.specs.Prelude.{after, answer_at, answer_to, blob_for, blob_to, IsSound, MayCome, State}
use Rattle.nf_words.specs.declared.answer.By.{By}
use Rattle.nf_words.specs.declared.answer.Denial.{Denial}
use Rattle.nf_words.specs.declared.answer.Goal.TheVariants as goal
use Rattle.nf_words.specs.declared.answer.LockKey.{LockKey}
use Rattle.nf_words.specs.declared.answer.Reply.{Reply}
use Rattle.nf_words.specs.declared.answer.Reply.TheVariants as reply
use Rattle.nf_words.specs.declared.history.Entry.{Entry}
use Rattle.nf_words.specs.declared.history.Event.TheVariants.{Begin}
use Rattle.nf_words.specs.declared.request.Caller.{Caller}
use Rattle.nf_words.specs.declared.request.Request.{Request}
use Rattle.nf_words.specs.declared.request.Spot.{Spot}
use Rattle.nf_words.specs.declared.request.Words.{Words}
use Rattle.nf_defs.specs.Blobs.{Blobs, blob_at}
use Rattle.nf_session.specs.Prelude.{Answer, Bodies, Book, Closes, EndsBody, Enters, event_of_body, how_of, IsResponse, Judges, next_blob_of, Passes, Scene, Starts, state_after, state_of, stays_granted, Stores, StoresBody, taken_length, way_of}
use Rattle.nf_session.specs.declared.begun.Begun.{Begun}
use Rattle.nf_session.specs.declared.begun.Begun.TheVariants as begun
use Rattle.nf_session.specs.declared.ended.Ended.{Ended}
use Rattle.nf_session.specs.declared.response.Response.{Response}
use Rattle.nf_session.specs.declared.response.Response.TheVariants as response
use Rattle.nf_session.proofs.Inviting.{invites_wrote}
use Rattle.nf_session.proofs.Calm.{closes_go, goes_first, goes_last, goes_then, heads_go, invites_go, judges_go, takes_go}
use Rattle.nf_session.proofs.Causes.{responds_go}
use Rattle.nf_session.proofs.Moving.{no_others}
use Rattle.nf_promises.proofs.Growing.{entered, heads_same, only_within, same_state}
use Rattle.nf_promises.proofs.Putting.{IsOfPut, content_of_body, ok_answer, put_is_got, put_replies, put_size}
use Rattle.nf_promises.proofs.Touches.{StartsOther, book_of, starts_other, stored_only}
use Rattle.nf_promises.specs.Kept.{GoesByNoMount, OnlyOwn, Puts, SaysStored, get_of, put_of}
use Rattle.nf_words.specs.declared.answer.Goal.TheVariants.{Serve}

-- ---- books

-- the body is told under the number that it was stored at, which is given
abbrev pub Keeps : Book → State → List ℕ → Blobs → Type 0
Keeps b before body shelf =
    (id : ℕ) → blob_for before.tables.meta.next_blob (length body) ≡ Some id
    → (id < next_blob_of b) × (blob_at shelf id ≡ Some body)

-- what a later GET is granted, and where its bytes are, if the store tells them
pub record IsKept (b : Book) (caller : Caller) (spot : Spot) (body : List ℕ) : Type 0 where
  pub before : State
  pub got : (seat now : ℕ) (words : Words)
      → answer_to (state_of b) seat now (Begin words (get_of caller spot)) ≡ Ok (reply.Granted (Serve (content_of_body before body)))
  pub bytes : IfSome b.told (Keeps b before body)

stored_keeps : (b : Book) (told : Option Blobs) (s middle : State) (e : Entry) (body : List ℕ)
    → (after s e).tables.meta.next_blob ≡ next_blob_of b → blob_to s e.seat e.moment e.event ≡ blob_for middle.tables.meta.next_blob (length body)
    → IfSome told (Stores s e body) → IfSome told (Keeps b middle body)
stored_keeps b None s middle e body next at stores = tt
stored_keeps b (Some shelf) s middle e body next at stores = λ id is.
    let there = stores id (at ∙ is) in (subst (λ (n : ℕ). id < n) next there.0, there.1)

on_ok : {P : Type 0} (answer : Answer) → IsOk answer → OnOk answer P → P
on_ok (Ok r) ok is = is
on_ok (Err refusal) ok is = absurd (cc)

kept_books : (a m b : Book) (now moment : ℕ) (words : Words) (caller : Caller) (spot : Spot) (n : ℕ) (by : By) (key : LockKey) (size : ℕ) (body : List ℕ)
    (answer : Answer) → IsSound (state_of a) → GoesByNoMount (state_of a) caller spot → OnlyOwn a m → OnlyOwn m b
    → Enters a m now (Begin words (put_of caller spot n)) (Ok (reply.Granted (goal.Store by key size)))
    → EndsBody m b moment body answer → IsOk answer → length body ≡ size → IsKept b caller spot body
kept_books a m b now moment words caller spot n by key size body answer sound own one two enters ends ok long =
    let first = enters.entry in
    let second = ends.enters.entry in
    let s = state_of a in
    let begin = entered a m now (Begin words (put_of caller spot n)) (Ok (reply.Granted (goal.Store by key size))) enters one in
    let end = entered m b moment (event_of_body body) answer ends.enters two in
    let middle : State = after s first in
    let may : MayCome end.count middle second = subst (λ (x : State). MayCome end.count x second) begin.state end.may in
    let seat : second.seat ≡ first.seat = end.seat_is ∙ enters.lasts.seat ∙ sym begin.seat_is in
    let answered : answer_at middle second second.mark ≡ answer =
    ap (λ (x : State). answer_at x second second.mark) (sym begin.state) ∙ end.answer_is in
    let got = put_is_got begin.count end.count s first second words caller spot n by key size body sound own begin.may begin.event_is begin.answer_is
    may end.event_is seat (subst (λ (x : Answer). IsOk x) (sym answered) ok) long in
    let last : state_of b ≡ after middle second = end.state ∙ ap (λ (x : State). after x second) begin.state in
    let there : state_after m ends.enters.others ≡ middle =
    same_state m ends.enters.others (no_others m b moment (event_of_body body) answer ends.enters two) ∙ begin.state in
    record {
      before = middle;
      got = λ q t words. ap (λ (x : State). answer_to x q t (Begin words (get_of caller spot))) last ∙ got.got q t words;
      bytes = stored_keeps b b.told (state_after m ends.enters.others) middle second body
          (ap (λ (x : State). (after x second).tables.meta.next_blob) there ∙ sym (ap (λ (x : State). x.tables.meta.next_blob) last))
          (ap (λ (x : State). blob_to x second.seat second.moment second.event) there ∙ got.blob) (on_ok answer ok ends.stored);
    }

-- ---- what was begun

not_stored : (v : Response) (refusal : Denial) → v ≡ response.Denied refusal → SaysStored v → ⊥
not_stored v refusal is says = subst (λ (x : Response). SaysStored x) is says

starts_not_stored : (a b : Book) (content : List Piece) (v : Response) → Starts a b content v → SaysStored v → ⊥
starts_not_stored a b content v starts says = here v (starts_other a b content v starts) says
  where
    here : (v : Response) → StartsOther v → SaysStored v → ⊥
    here (response.File other first) starts says = says
    here (response.Lost fault) starts says = says
    here other never says = absurd never

stored_ok : (answer : Answer) (v : Response) → IsResponse answer v → SaysStored v → IsOk answer
stored_ok (Ok r) v is says = refl
stored_ok (Err refusal) v is says = absurd (not_stored v refusal is says)

-- a PUT's Begin is answered as one
begins_put : (a m : Book) (now : ℕ) (words : Words) (caller : Caller) (spot : Spot) (n : ℕ) (answered : Reply) → OnlyOwn a m
    → Enters a m now (Begin words (put_of caller spot n)) (Ok answered) → IsOfPut answered
begins_put a m now words caller spot n answered one enters =
    let begin = entered a m now (Begin words (put_of caller spot n)) (Ok answered) enters one in
    let e = enters.entry in
    put_replies (state_of a) e.seat e.moment words caller spot n answered
    (ok_answer (state_of a) e (Begin words (put_of caller spot n)) answered begin.event_is begin.answer_is).1

asked_enters : (a m : Book) (now : ℕ) (words : Words) (head : Head) (caller : Caller) (spot : Spot) (n : ℕ) (r : Request) (answer : Answer)
    → request_of head [] ≡ Ok (put_of caller spot n) → request_of head [] ≡ Ok r
    → Enters a m now (Begin words r) answer → Enters a m now (Begin words (put_of caller spot n)) answer
asked_enters a m now words head caller spot n r answer asked is enters =
    let same : r ≡ put_of caller spot n = cc in
    subst (λ (q : Request). Enters a m now (Begin words q) answer) same enters

-- so what was begun is a granted body of the length asked for
pub record BeginsPut (b : Begun) (n : ℕ) : Type 0 where
  pub by : By
  pub key : LockKey
  pub is : b ≡ begun.Asked (Ok (reply.Granted (goal.Store by key n)))

pub put_begun : {C : Type 0} (reads : C → Taken → C → Type 0) (head : Head) (begun : Begun) (v : Response) (a m x b : Scene C) (body : List ℕ)
    (caller : Caller) (spot : Spot) (n : ℕ) → request_of head [] ≡ Ok (put_of caller spot n)
    → Judges reads head [] a m begun → Passes reads body x b begun v → SaysStored v → OnlyOwn a.book m.book → BeginsPut begun n
put_begun reads head (begun.Unasked refusal) v a m x b body caller spot n asked judges passes says one =
    absurd (not_stored v refusal passes.0 says)
put_begun reads head (begun.Asked (Ok (reply.Granted (goal.Serve content)))) v a m x b body caller spot n asked judges starts says one =
    absurd (starts_not_stored x.book b.book content v starts.starts says)
put_begun reads head (begun.Asked (Ok (reply.Granted (goal.Store by key size)))) v a m x b body caller spot n asked
    (r, now, words, is, read, begins, only) passes says one =
    let answer : Answer = Ok (reply.Granted (goal.Store by key size)) in
    let enters = asked_enters a.book m.book now words head caller spot n r answer asked is begins.entry in
    let begin = entered a.book m.book now (Begin words (put_of caller spot n)) answer enters one in
    let e = enters.entry in
    let same : n ≡ size = put_size (state_of a.book) e.seat e.moment words caller spot n by key size
    (ok_answer (state_of a.book) e (Begin words (put_of caller spot n)) (reply.Granted (goal.Store by key size)) begin.event_is begin.answer_is).1 in
    record { by = by; key = key; is = ap (λ (l : ℕ). begun.Asked (Ok (reply.Granted (goal.Store by key l)))) (sym same) }
put_begun reads head (begun.Asked (Ok reply.Closed)) v a m x b body caller spot n asked judges passes says one = absurd passes.0
put_begun reads head (begun.Asked (Ok (reply.Listing lines))) v a m x b body caller spot n asked judges passes says one =
    absurd (subst (λ (w : Response). SaysStored w) passes.0 says)
put_begun reads head (begun.Asked (Ok (reply.Share line))) v a m x b body caller spot n asked judges passes says one =
    absurd (subst (λ (w : Response). SaysStored w) passes.0 says)
put_begun reads head (begun.Asked (Ok (reply.Shares lines))) v a m x b body caller spot n asked judges passes says one =
    absurd (subst (λ (w : Response). SaysStored w) passes.0 says)
put_begun reads head (begun.Asked (Ok (reply.Items lines))) v a m x b body caller spot n asked judges passes says one =
    absurd (subst (λ (w : Response). SaysStored w) passes.0 says)
put_begun reads head (begun.Asked (Ok (reply.Versions lines))) v a m x b body caller spot n asked judges passes says one =
    absurd (subst (λ (w : Response). SaysStored w) passes.0 says)
put_begun reads head (begun.Asked (Ok reply.Plain)) v a m x b body caller spot n asked judges passes says one =
    absurd (subst (λ (w : Response). SaysStored w) passes.0 says)
put_begun reads head (begun.Asked (Err refusal)) v a m x b body caller spot n asked judges passes says one =
    absurd (not_stored v refusal passes.0 says)
put_begun reads head (begun.Asked (Ok word)) v a m x b body caller spot n asked (r, now, words, is, read, begins, only) passes says one =
    absurd (begins_put a.book m.book now words caller spot n word one
    (asked_enters a.book m.book now words head caller spot n r (Ok word) asked is begins.entry))

kept_stored : {C : Type 0} (reads : C → Taken → C → Type 0) (head : Head) (by : By) (key : LockKey) (v : Response) (a m n x b : Scene C) (body : List ℕ)
    (caller : Caller) (spot : Spot) (size : ℕ) → request_of head [] ≡ Ok (put_of caller spot size)
    → Judges reads head [] a m (begun.Asked (Ok (reply.Granted (goal.Store by key size)))) → n.book ≡ m.book
    → Bodies n x size body → StoresBody reads body x b v → SaysStored v
    → IsSound (state_of a.book) → GoesByNoMount (state_of a.book) caller spot → OnlyOwn a.book m.book → OnlyOwn m.book b.book → IsKept b.book caller spot body
kept_stored {C} reads head by key v a m n x b body caller spot size asked (r, now, words, is, read, begins, only) told bodies
    (moment, answer, later, ends, answers, more) says sound own one two =
    let book : x.book ≡ m.book = ap (λ (y : Scene C). y.book) bodies.only ∙ told in
    kept_books a.book m.book b.book now moment words caller spot size by key size body answer sound own one two
    (asked_enters a.book m.book now words head caller spot size r (Ok (reply.Granted (goal.Store by key size))) asked is begins.entry)
    (subst (λ (k : Book). EndsBody k b.book moment body answer) book ends) (stored_ok answer v answers says) bodies.taken.0

kept_taken : {C : Type 0} (reads : C → Taken → C → Type 0) (head : Head) (begun : Begun) (v : Response) (a m n x b : Scene C) (body : List ℕ)
    (caller : Caller) (spot : Spot) (size : ℕ) → request_of head [] ≡ Ok (put_of caller spot size)
    → Judges reads head [] a m begun → n.book ≡ m.book → Bodies n x (taken_length head begun) body → Passes reads body x b begun v → SaysStored v
    → IsSound (state_of a.book) → GoesByNoMount (state_of a.book) caller spot → OnlyOwn a.book m.book → OnlyOwn m.book b.book → IsKept b.book caller spot body
kept_taken {C} reads head begun v a m n x b body caller spot size asked judges told bodies passes says sound own one two =
    let begins = put_begun reads head begun v a m x b body caller spot size asked judges passes says one in
    kept_stored reads head begins.by begins.key v a m n x b body caller spot size asked
    (subst (λ (w : Begun). Judges reads head [] a m w) begins.is judges) told
    (subst (λ (w : Begun). Bodies n x (taken_length head w) body) begins.is bodies)
    (subst (λ (w : Begun). Passes reads body x b w v) begins.is passes) says sound own one two

-- ---- the turn

closes_book : {C : Type 0} (reads : C → Taken → C → Type 0) (v : Response) (a b : Scene C) (result : Result (Option Ended) Ended) → SaysStored v
    → Closes reads (how_of v result) (stays_granted v) a b → b.book ≡ a.book
closes_book {C} reads response.Made a b result says same = ap (λ (x : Scene C). x.book) same
closes_book {C} reads response.Done a b result says same = ap (λ (x : Scene C). x.book) same
closes_book reads other a b result says same = absurd says

pub put_is_kept : {C : Type 0} (reads : C → Taken → C → Type 0) (last : Bool) (caller : Caller) (spot : Spot) (body : List ℕ) (a b : Scene C)
    (end : Option Ended) → Puts reads last caller spot body a b end
    → IsSound (state_of a.book) → GoesByNoMount (state_of a.book) caller spot → OnlyOwn a.book b.book → IsKept b.book caller spot body
put_is_kept reads last caller spot body a b end put sound own only =
    let answers = put.answers in
    let v = answers.response in
    let same : put.behind.book ≡ a.book = heads_same a put.behind (Ok (Some put.head)) put.heads in
    let heads = heads_go a put.behind 0 (Some put.head) put.heads in
    let first = judges_go reads put.head [] put.behind put.judged put.begun put.judges in
    let told : put.invited.book ≡ put.judged.book = ap (λ (x : Scene _). x.book)
    (invites_wrote put.head put.begun put.judged put.invited (Unit {0}) tt put.invites).only in
    let second = goes_first (invites_go put.head put.begun put.judged put.invited put.invites)
    (takes_go reads put.head put.invited answers.taken put.begun v answers.takes) in
    let third = goes_last (responds_go last (way_of put.head put.begun) v answers.taken answers.sent answers.result answers.responds)
    (closes_go reads (how_of v answers.result) (stays_granted v) answers.sent b answers.closes) in
    let one : OnlyOwn put.behind.book put.judged.book = only_within heads.book first.book (goes_then second third).book only in
    let two : OnlyOwn put.judged.book answers.taken.book = only_within (goes_first heads first).book second.book third.book only in
    let kept = kept_taken reads put.head put.begun v put.behind put.judged put.invited answers.takes.0 answers.taken answers.takes.1
    caller spot (length body) put.asked put.judges told answers.takes.2 answers.takes.3
    put.stored (subst (λ (k : Book). IsSound (state_of k)) (sym same) sound)
    (subst (λ (k : Book). GoesByNoMount (state_of k) caller spot) (sym same) own) one two in
    let book : b.book ≡ answers.taken.book =
    closes_book reads v answers.sent b answers.result put.stored answers.closes
    ∙ book_of answers.taken answers.sent (stored_only last (way_of put.head put.begun) v answers.taken answers.sent answers.result put.stored answers.responds) in
    subst (λ (k : Book). IsKept k caller spot body) (sym book)
    (subst (λ (bytes : List ℕ). IsKept answers.taken.book caller spot bytes) put.body_is kept)
