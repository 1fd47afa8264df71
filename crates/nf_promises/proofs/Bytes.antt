-- What is put is what is got, of bytes.
use Rattle.std.proofs.Common.{ℕ, ◌≡◌, ◌<◌, ◌||◌, Bool, true, false, List, [], ◌++◌, length, take, if◌then◌else◌, Option, None, Some, Result, Ok, Err, inl, inr, refl, sym, ap, append_assoc, subst, ◌∙◌, arith, length-append}
use Rattle.std.proofs.lemmas.List.{length-take}
use Rattle.std.specs.Prelude.{IsOk, IsSome, MatchBool}
use Rattle.std.specs.Io.KnownBytes.{Appends}
use Rattle.httparse.specs.Grammar.{RequestHead, print_request}
use Rattle.nf_dav.specs.Asked.{request_of}
use Rattle.nf_dav.specs.Reply.{continue_reply, done_reply, made_reply}
use Rattle.nf_http.proofs.Agreement.{one_answer_and_rest}
use Rattle.nf_http.proofs.Wholes.{one_body}
use Rattle.nf_http.specs.Bodies.{TakesBody}
use Rattle.nf_http.specs.Head.{Head, closes_session, expects_continue, head_of}
use Rattle.nf_http.specs.Next.{IsNext, IsOfBytes}
use Rattle.nf_http.specs.declared.wire.WireFault.{WireFault}
use Rattle.nf_outside.specs.Lent.{Taken}
use Rattle.nf_words.specs.declared.answer.Goal.TheVariants as goal
use Rattle.nf_words.specs.declared.answer.Reply.TheVariants as reply
use Rattle.nf_words.specs.declared.request.Caller.{Caller}
use Rattle.nf_words.specs.declared.request.Request.{Request}
use Rattle.nf_words.specs.declared.request.Spot.{Spot}
use Rattle.nf_session.specs.Prelude.{Answers, Bodies, CutsShort, Heads, how_of, Invites, is_granted, is_invited, Judges, MeetsWith, Scene, Sends, stays_granted, StopsShort, taken_length, Turn, way_of}
use Rattle.nf_session.specs.declared.backend.Ending.TheVariants as ending
use Rattle.nf_session.specs.declared.begun.Begun.{Begun}
use Rattle.nf_session.specs.declared.begun.Begun.TheVariants as begun
use Rattle.nf_session.specs.declared.ended.Ended.{Ended}
use Rattle.nf_session.specs.declared.ended.Ended.TheVariants as ended
use Rattle.nf_session.proofs.Inviting.{invited_bytes, invites_wrote, stops_sends}
use Rattle.nf_session.proofs.Early.{meets_at_once}
use Rattle.nf_promises.proofs.Gets.{asked_not_early}
use Rattle.nf_session.proofs.Calm.{goes_first, heads_go, invites_go, judges_go}
use Rattle.nf_session.proofs.Causes.{answers_go, turn_goes}
use Rattle.nf_session.proofs.Moving.{same_moves}
use Rattle.nf_promises.proofs.Growing.{only_within}
use Rattle.nf_promises.proofs.Marks.{Other, done_mark, ends_other, invited_mark, other_not_done, is_done, made_mark, one_written, responds_stored}
use Rattle.nf_promises.proofs.Puts.{BeginsPut, put_begun}
use Rattle.nf_promises.proofs.Returning.{appends_by, cut_not_written, put_then_get, takes_output}
use Rattle.nf_promises.proofs.Touches.{closes_only, input_of, judges_only, output_of, passes_only, stored_only}
use Rattle.nf_promises.specs.Kept.{Gets, IsWritten, OnlyOwn, Prints, PutThenGetOfBytes, Puts, SaysDone, SaysStored, ShowsFile, get_of, invitation, put_of, waits}

-- ---- the head at the front

next_is : {C : Type 0} (a m : Scene C) (h : RequestHead) (request : Request) (left : List ℕ) (result : Result (Option Head) WireFault)
    → Prints h request → a.input ≡ Some (print_request h ++ left) → Heads a m result → IsOfBytes result
    → (result ≡ Ok (Some (head_of h))) × (m.input ≡ Some left)
next_is a m h request left result prints input heads of =
    one_answer_and_rest (print_request h ++ left) m.input (Some left) result (Ok (Some (head_of h)))
    (subst (λ (o : Option (List ℕ)). IsNext o m.input result) input heads.next)
    (h, refl, (prints.is_head, prints.short, prints.sound, refl)) of tt

none_is_no_head : {C : Type 0} (a m : Scene C) (h : RequestHead) (request : Request) (left : List ℕ)
    → Prints h request → a.input ≡ Some (print_request h ++ left) → Heads a m (Ok None) → ⊥
none_is_no_head a m h request left prints input heads =
    let never : ◌≡◌ {A = Result (Option Head) WireFault} (Ok None) (Ok (Some (head_of h))) =
    (next_is a m h request left (Ok None) prints input heads tt).0 in cc

pub head_is : {C : Type 0} (a m : Scene C) (h : RequestHead) (request : Request) (left : List ℕ) (head : Head)
    → Prints h request → a.input ≡ Some (print_request h ++ left) → Heads a m (Ok (Some head)) → (head ≡ head_of h) × (m.input ≡ Some left)
head_is a m h request left head prints input heads =
    let next = next_is a m h request left (Ok (Some head)) prints input heads tt in
    let is : ◌≡◌ {A = Result (Option Head) WireFault} (Ok (Some head)) (Ok (Some (head_of h))) = next.0 in
    let same : head ≡ head_of h = cc in (same, next.1)

-- ---- the turn of the PUT

-- what it is, and what it leaves to be read
abbrev PutsAndLeaves : {C : Type 0} → (C → Taken → C → Type 0) → Bool → Caller → Spot → List ℕ → List ℕ → Scene C → Scene C → Option Ended → Type 0
PutsAndLeaves reads last caller spot body left a b end = Puts reads last caller spot body a b end × (b.input ≡ Some left)

bodies_of : {C : Type 0} (m x : Scene C) (head : Head) (begun : Begun) (body : List ℕ) (n : ℕ) → BeginsPut begun n
    → Bodies m x (taken_length head begun) body → Bodies m x n body
bodies_of m x head begun body n begins bodies = subst (λ (q : Begun). Bodies m x (taken_length head q) body) begins.is bodies

-- what is written behind the invitation
invited_waits : (head : Head) (begun : Begun) → is_invited head begun ≡ true → expects_continue head ≡ true
invited_waits head (begun.Asked (Ok (reply.Granted (goal.Store by key n)))) is = is
invited_waits head (begun.Asked (Ok (reply.Granted (goal.Chunk user dir number n)))) is = is
invited_waits head other is = absurd (cc)

record Behind (head : Head) (begun : Begun) (answer : List ℕ) : Type 0 where
  bytes : List ℕ
  are : invitation head ++ answer ≡ invited_bytes head begun ++ bytes
  done : is_done bytes ≡ true

told_done : (head : Head) (answer : List ℕ) → is_done answer ≡ true → is_done (invitation head ++ answer) ≡ true
told_done head answer done = here (expects_continue head)
  where
    here : (waits : Bool) → is_done ((if waits then continue_reply else []) ++ answer) ≡ true
    here true = invited_mark answer
    here false = done

behind : (head : Head) (begun : Begun) (answer : List ℕ) → is_done answer ≡ true → Behind head begun answer
behind head begun answer done = here (is_invited head begun) refl
  where
    here : (invited : Bool) → is_invited head begun ≡ invited → Behind head begun answer
    here true is = record {
      bytes = answer;
      are = λ i. (if (invited_waits head begun is ∙ sym is) i then continue_reply else []) ++ answer;
      done = done;
    }
    here false is = record {
      bytes = invitation head ++ answer;
      are = ap (λ (invited : Bool). (if invited then continue_reply else []) ++ (invitation head ++ answer)) (sym is);
      done = told_done head answer done;
    }

appends_rest : (old middle new : Option (List ℕ)) (front rest : List ℕ) → IsSome old → Appends old middle front → Appends old new (front ++ rest)
    → IsSome middle × Appends middle new rest
appends_rest None middle new front rest told first all = absurd (cc)
appends_rest (Some xs) None new front rest told first all = absurd first
appends_rest (Some xs) (Some ys) None front rest told first all = absurd all
appends_rest (Some xs) (Some ys) (Some zs) front rest told first all =
    (refl, all ∙ sym (append_assoc xs front rest) ∙ ap (λ (z : List ℕ). z ++ rest) (sym first))

-- behind the invitation
rest_written : {C : Type 0} (reads : C → Taken → C → Type 0) (head : Head) (begun : Begun) (k m n : Scene C) (new : Option (List ℕ)) (answer : List ℕ)
    (rest : Behind head begun answer) → Judges reads head [] k m begun → Invites {T = Unit {0}} head begun m n (Ok tt)
    → IsSome k.output → Appends k.output new (invitation head ++ answer) → IsSome n.output × Appends n.output new rest.bytes
rest_written {C} reads head begun k m n new answer rest judges invites told wrote =
    let front : m.output ≡ k.output = output_of k m (judges_only reads head [] k m begun judges) in
    appends_rest k.output n.output new (invited_bytes head begun) rest.bytes told
    (appends_by k.output n.output m.output n.output (invited_bytes head begun) front refl (invites_wrote head begun m n (Unit {0}) tt invites).bytes_are)
    (subst (λ (bytes : List ℕ). Appends k.output new bytes) rest.are wrote)

answers_put : {C : Type 0} (reads : C → Taken → C → Type 0) (last : Bool) (caller : Caller) (spot : Spot) (body left : List ℕ) (head : Head) (begun : Begun)
    (a k m n b : Scene C) (end : Option Ended) (answer : List ℕ) → Heads a k (Ok (Some head)) → request_of head [] ≡ Ok (put_of caller spot (length body))
    → k.input ≡ Some (body ++ left) → Judges reads head [] k m begun → Invites {T = Unit {0}} head begun m n (Ok tt)
    → Answers reads last head begun n b end
    → IsSome k.output → Appends k.output b.output (invitation head ++ answer) → is_done answer ≡ true → OnlyOwn k.book m.book
    → PutsAndLeaves reads last caller spot body left a b end
answers_put {C} reads last caller spot body left head begun a k m n b end answer heads asked input judges invites answers told wrote done one =
    let v = answers.response in
    let taken = answers.taken in
    let sent = answers.sent in
    let x : Scene C = answers.takes.0 in
    let way = way_of head begun in
    let rest = behind head begun answer done in
    let written = rest_written reads head begun k m n b.output answer rest judges invites told wrote in
    let front : taken.output ≡ n.output = takes_output reads head n taken begun v answers.takes in
    let closed = output_of sent b (closes_only reads (how_of v answers.result) (stays_granted v) sent b answers.closes) in
    let says : SaysStored v = responds_stored last way v taken sent rest.bytes answers.result answers.responds
    (subst (λ (o : Option (List ℕ)). IsSome o) (sym front) written.0)
    (appends_by taken.output sent.output n.output b.output rest.bytes (sym front) closed written.1) rest.done in
    let begins = put_begun reads head begun v k m x taken answers.takes.1 caller spot (length body) asked judges answers.takes.3 says one in
    let bodies = bodies_of n x head begun answers.takes.1 (length body) begins answers.takes.2 in
    let there : n.input ≡ Some (body ++ left) = ap (λ (y : Scene C). y.input) (invites_wrote head begun m n (Unit {0}) tt invites).only
    ∙ input_of k m (judges_only reads head [] k m begun judges) ∙ input in
    let whole = one_body (body ++ left) x.input (Some left) (length body) answers.takes.1 body
    (subst (λ (o : Option (List ℕ)). TakesBody o x.input (length body) answers.takes.1) there bodies.taken)
    (refl, refl) in (
      record {
        head = head;
        behind = k;
        heads = heads;
        asked = asked;
        judged = m;
        begun = begun;
        judges = judges;
        invited = n;
        invites = invites;
        answers = answers;
        body_is = whole.0;
        stored = says;
      },
      input_of sent b (closes_only reads (how_of v answers.result) (stays_granted v) sent b answers.closes)
          ∙ ap (λ (y : Scene C). y.input) (stored_only last way v taken sent answers.result says answers.responds)
          ∙ input_of x taken (passes_only reads answers.takes.1 x taken begun v answers.takes.3) ∙ whole.1,
    )

cuts_not_done : {C : Type 0} (reads : C → Taken → C → Type 0) (head : Head) (begun : Begun) (n b : Scene C) (end : Option Ended) (w : List ℕ)
    → CutsShort reads head begun n b end → IsSome n.output → Appends n.output b.output w → is_done w ≡ true → ⊥
cuts_not_done {C} reads head begun n b end w cuts told wrote done =
    let front : cuts.cut.output ≡ n.output = ap (λ (y : Scene C). y.output) cuts.takes.only in
    let closed = output_of cuts.sent b (closes_only reads ending.Gone (is_granted begun) cuts.sent b cuts.closes) in
    other_not_done n.output b.output w
    (subst (λ (o : Option (List ℕ)). Other o b.output) front (subst (λ (o : Option (List ℕ)). Other cuts.cut.output o) (sym closed)
    (ends_other cuts.fault cuts.cut cuts.sent cuts.by cuts.responds))) told wrote done

-- one that couldn't be told wrote less than the invitation
stopped_waits : {C : Type 0} (head : Head) (begun : Begun) (a b : Scene C) (by : Ended) → Invites {T = Unit {0}} head begun a b (Err by)
    → expects_continue head ≡ true
stopped_waits {C} head begun a b by invites = here (is_invited head begun) refl invites
  where
    here : (invited : Bool) → is_invited head begun ≡ invited
        → MatchBool invited (Sends {T = Unit {0}} a b continue_reply (Err by)) (IsOk {T = Unit {0}} {E = Ended} (Err by) × (b ≡ a))
        → expects_continue head ≡ true
    here true is sends = invited_waits head begun is
    here false is same = absurd (cc)

less_written : {C : Type 0} (a b : Scene C) (by : Ended) (w : List ℕ) → Sends {T = Unit {0}} a b continue_reply (Err by) → IsSome a.output
    → Appends a.output b.output w → length w < length continue_reply
less_written a b ended.WriteFault w part told wrote =
    let same : take part.count continue_reply ≡ w = one_written a.output b.output (take part.count continue_reply) w told part.bytes_are wrote in
    omega (arith, ap length same, length-take part.count continue_reply, part.less)
less_written a b by w never told wrote = absurd never

stops_not_done : {C : Type 0} (reads : C → Taken → C → Type 0) (head : Head) (begun : Begun) (k m b : Scene C) (end : Option Ended) (answer : List ℕ)
    → Judges reads head [] k m begun → StopsShort reads head begun m b end → IsSome k.output → Appends k.output b.output (invitation head ++ answer) → ⊥
stops_not_done {C} reads head begun k m b end answer judges stops told wrote =
    let front : m.output ≡ k.output = output_of k m (judges_only reads head [] k m begun judges) in
    let closed = output_of stops.sent b (closes_only reads ending.Gone (is_granted begun) stops.sent b stops.closes) in
    let less = less_written m stops.sent stops.by (invitation head ++ answer)
    (stops_sends head begun m stops.sent (Unit {0}) stops.by stops.invites)
    (subst (λ (o : Option (List ℕ)). IsSome o) (sym front) told)
    (appends_by m.output stops.sent.output k.output b.output (invitation head ++ answer) (sym front) closed wrote) in
    let whole : invitation head ≡ continue_reply =
    ap (λ (waits : Bool). if waits then continue_reply else []) (stopped_waits head begun m stops.sent stops.by stops.invites) in
    omega (arith, less, length-append (invitation head) answer, ap length whole)

turn_puts : {C : Type 0} (reads : C → Taken → C → Type 0) (last : Bool) (caller : Caller) (spot : Spot) (h : RequestHead) (body left : List ℕ)
    (a b : Scene C) (end : Option Ended) (answer : List ℕ) → Prints h (put_of caller spot (length body))
    → a.input ≡ Some (print_request h ++ (body ++ left)) → IsSome a.output → Appends a.output b.output (invitation (head_of h) ++ answer)
    → is_done answer ≡ true → OnlyOwn a.book b.book → Turn reads last a b end → PutsAndLeaves reads last caller spot body left a b end
turn_puts reads last caller spot h body left a b end answer prints input told wrote done only (inl (heads, is)) =
    absurd (none_is_no_head a b h (put_of caller spot (length body)) (body ++ left) prints input heads)
turn_puts {C} reads last caller spot h body left a b end answer prints input told wrote done only (inr (inl (m, why, by, heads, ends, is))) =
    let front : m.output ≡ a.output = ap (λ (y : Scene C). y.output) heads.only in
    absurd (other_not_done a.output b.output (invitation (head_of h) ++ answer)
    (subst (λ (o : Option (List ℕ)). Other o b.output) front (ends_other why m b by ends)) told wrote (told_done (head_of h) answer done))
turn_puts {C} reads last caller spot h body left a b end answer prints input told wrote done only (inr (inr (k, head, heads, meets))) =
    here (meets_at_once reads last head k b end (asked_not_early head (put_of caller spot (length body)) asked refl) meets)
  where
    at : (head ≡ head_of h) × (k.input ≡ Some (body ++ left))
    at = head_is a k h (put_of caller spot (length body)) (body ++ left) head prints input heads

    front : k.output ≡ a.output
    front = ap (λ (y : Scene C). y.output) heads.only

    tells : IsSome k.output
    tells = subst (λ (o : Option (List ℕ)). IsSome o) (sym front) told

    written : Appends k.output b.output (invitation head ++ answer)
    written = appends_by k.output b.output a.output b.output (invitation head ++ answer) (sym front) refl
        (subst (λ (z : Head). Appends a.output b.output (invitation z ++ answer)) (sym at.0) wrote)

    asked : request_of head [] ≡ Ok (put_of caller spot (length body))
    asked = ap (λ (z : Head). request_of z []) at.0 ∙ prints.asks

    here : MeetsWith reads last head [] k b end → PutsAndLeaves reads last caller spot body left a b end
    here (m, begun, judges, inl stops) = absurd (stops_not_done reads head begun k m b end answer judges stops tells written)
    here (m, begun, judges, inr (n, invites, inl answers)) =
        let one : OnlyOwn k.book m.book = only_within (heads_go a k 0 (Some head) heads).book (judges_go reads head [] k m begun judges).book
        (goes_first (invites_go head begun m n invites) (answers_go reads last head begun n b end answers)).book only in
        answers_put reads last caller spot body left head begun a k m n b end answer heads asked at.1 judges invites
        answers tells written done one
    here (m, begun, judges, inr (n, invites, inr cuts)) =
        let rest = behind head begun answer done in
        let later = rest_written reads head begun k m n b.output answer rest judges invites tells written in
        absurd (cuts_not_done reads head begun n b end rest.bytes cuts later.0 later.1 rest.done)

-- ---- the turn of the GET

pub turn_gets : {C : Type 0} (reads : C → Taken → C → Type 0) (last : Bool) (caller : Caller) (spot : Spot) (h : RequestHead) (rest : List ℕ)
    (a b : Scene C) (end : Option Ended) → Prints h (get_of caller spot) → a.input ≡ Some (print_request h ++ rest) → IsWritten end
    → Turn reads last a b end → (get : Gets reads last caller spot a b end) × (get.head ≡ head_of h)
turn_gets reads last caller spot h rest a b end prints input written (inl (heads, is)) =
    absurd (none_is_no_head a b h (get_of caller spot) rest prints input heads)
turn_gets reads last caller spot h rest a b end prints input written (inr (inl (m, why, by, heads, ends, is))) =
    absurd (cut_not_written why m b by ends (subst (λ (e : Option Ended). IsWritten e) is written))
turn_gets reads last caller spot h rest a b end prints input written (inr (inr (k, head, heads, meets))) =
    let at = head_is a k h (get_of caller spot) rest head prints input heads in
    (record { head = head; behind = k; heads = heads; asked = ap (λ (z : Head). request_of z []) at.0 ∙ prints.asks; meets = meets }, at.0)

-- ---- both

-- the bytes that say so
says_done : {C : Type 0} (head : Head) (a b : Scene C) → SaysDone head a b
    → (answer : List ℕ) × Appends a.output b.output (invitation head ++ answer) × (is_done answer ≡ true)
says_done head a b (close, inl wrote) = (made_reply close, wrote, made_mark close)
says_done head a b (close, inr wrote) = (done_reply close, wrote, done_mark close)

pub put_then_get_of_bytes : {C : Type 0} (reads : C → Taken → C → Type 0) → PutThenGetOfBytes reads
put_then_get_of_bytes {C} reads caller spot put get body rest a b c first last end done puts gets input told turn says later written sound own only =
    let wrote = says_done (head_of put) a b says in
    let parts : print_request put ++ body ++ print_request get ++ rest ≡ print_request put ++ (body ++ (print_request get ++ rest)) =
    append_assoc (print_request put ++ body) (print_request get) rest ∙ append_assoc (print_request put) body (print_request get ++ rest) in
    let alone : OnlyOwn a.book b.book = only_within (same_moves a.book a.book 0 refl) (turn_goes reads first a b end turn).book
    (turn_goes reads last b c done later).book only in
    let one = turn_puts reads first caller spot put body (print_request get ++ rest) a b end wrote.0 puts (input ∙ ap (λ (bytes : List ℕ). Some bytes) parts) told wrote.1 wrote.2 alone turn in
    let two = turn_gets reads last caller spot get rest b c done gets one.1 written later in
    subst (λ (head : Head). ShowsFile (last || closes_session head) (waits head) body b c) two.1
    (put_then_get reads caller spot body a b c first last end done one.0 two.0 sound own only written)
