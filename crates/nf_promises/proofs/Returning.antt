-- What is put is what is got.
use Rattle.std.proofs.Common.{ℕ, ◌≡◌, ◌||◌, ◌≤◌, ◌⊎◌, ◌++◌, length, Bool, true, false, List, [], Option, None, Some, Result, Ok, Err, inl, inr, refl, sym, ap, subst, ◌∙◌, arith}
use Rattle.std.specs.Prelude.{IsOk, MatchBool}
use Rattle.std.specs.Io.KnownBytes.{Appends}
use Rattle.nf_defs.specs.Blobs.{Blobs}
use Rattle.nf_dav.specs.Asked.{request_of}
use Rattle.nf_dav.specs.Reply.{continue_reply, file_head, refusal_reply}
use Rattle.nf_http.specs.Head.{Head, closes_session}
use Rattle.nf_http.specs.declared.wire.WireFault.{WireFault}
use Rattle.nf_http.specs.declared.wire.WireFault.TheVariants as wire
use Rattle.nf_outside.specs.Lent.{Taken}
use Rattle.nf_words.specs.declared.answer.Denial.TheVariants as denial
use Rattle.nf_words.specs.declared.request.Caller.{Caller}
use Rattle.nf_words.specs.declared.request.Spot.{Spot}
use Rattle.nf_session.specs.Prelude.{Answers, Book, end_by, end_of, EndsBy, how_of, Invites, is_invited, Judges, manner_of, Meets, MeetsWith, Responds, Scene, Sends, stays_granted, TakesIn, Way, way_of, Writes}
use Rattle.nf_session.specs.declared.begun.Begun.{Begun}
use Rattle.nf_session.specs.declared.ended.Ended.{Ended}
use Rattle.nf_session.specs.declared.ended.Ended.TheVariants as ended
use Rattle.nf_session.specs.declared.response.Response.{Response}
use Rattle.nf_session.proofs.Calm.{closes_go, goes_first, goes_then, invites_go, judges_go, takes_go, writes_go}
use Rattle.nf_session.proofs.Causes.{answers_go, is_whole, turn_goes, whole_by}
use Rattle.nf_session.proofs.Early.{meets_at_once, none_early}
use Rattle.nf_session.proofs.Moving.{same_moves}
use Rattle.nf_session.proofs.Inviting.{stops_sends}
use Rattle.nf_promises.proofs.Gets.{ShownOf, asked_not_early, begun_shown, get_not_invited}
use Rattle.nf_promises.proofs.Growing.{heads_same, only_first, only_within}
use Rattle.nf_promises.proofs.Puts.{IsKept, put_is_kept}
use Rattle.nf_promises.proofs.Touches.{closes_only, judges_only, output_of, passes_only}
use Rattle.nf_promises.specs.Kept.{AreOfBody, FailsStore, IsWritten, OnlyOwn, PutThenGet, ShowsDamage, ShowsFile, get_of, plainly, put_of, waits}

pub takes_output : {C : Type 0} (reads : C → Taken → C → Type 0) (head : Head) (a b : Scene C) (begun : Begun) (v : Response)
    → TakesIn reads head a b begun (Ok v) → b.output ≡ a.output
takes_output {C} reads head a b begun v (m, body, bodies, passes) =
    output_of m b (passes_only reads body m b begun v passes) ∙ ap (λ (x : Scene C). x.output) bodies.only

-- ---- what was written whole

is_written : (end : Option Ended) → IsWritten end → is_whole end ≡ true
is_written None written = refl
is_written (Some ended.Closed) written = refl
is_written (Some other) written = absurd written

-- how it was written
wrote_whole : {C : Type 0} (last : Bool) (way : Way) (v : Response) (a b : Scene C) (result : Result (Option Ended) Ended)
    → Responds last way v a b result → IsWritten (end_by result)
    → IsWritten (end_of way.closes v) × Writes {T = Unit {0}} (manner_of last way v) v a b (Ok tt)
wrote_whole last way v a b result responds written =
    let whole = whole_by last way v a b result responds (is_written (end_by result) written) in
    (subst (λ (e : Option Ended). IsWritten e) whole.0 written, whole.1)

ends_not_closed : {C : Type 0} (fault : WireFault) (a b : Scene C) → EndsBy fault a b ended.Closed → ⊥
ends_not_closed wire.ReadFault a b (is, same) = cc
ends_not_closed wire.Memory a b (is, same) = cc
ends_not_closed other a b never = never

pub cut_not_written : {C : Type 0} (fault : WireFault) (a b : Scene C) (by : Ended) → EndsBy fault a b by → IsWritten (Some by) → ⊥
cut_not_written fault a b ended.Closed ends written = ends_not_closed fault a b ends
cut_not_written fault a b other ends written = written

pub stop_not_written : {C : Type 0} (a b : Scene C) (by : Ended) → Sends {T = Unit {0}} a b continue_reply (Err by) → IsWritten (Some by) → ⊥
stop_not_written a b ended.Closed sends written = sends
stop_not_written a b other sends written = written

-- where nobody is invited nothing is written
quiet : {C : Type 0} (head : Head) (begun : Begun) (a b : Scene C) → is_invited head begun ≡ false → Invites {T = Unit {0}} head begun a b (Ok tt)
    → b ≡ a
quiet {C} head begun a b none invites =
    (subst (λ (invited : Bool). MatchBool invited (Sends {T = Unit {0}} a b continue_reply (Ok tt)) (IsOk {T = Unit {0}} {E = Ended} (Ok tt) × (b ≡ a))) none
    invites).1

-- ---- both turns

pub appends_by : (old new first last : Option (List ℕ)) (bytes : List ℕ) → first ≡ old → last ≡ new → Appends first last bytes → Appends old new bytes
appends_by old new first last bytes front end is =
    subst (λ (o : Option (List ℕ)). Appends o new bytes) front (subst (λ (o : Option (List ℕ)). Appends first o bytes) end is)

damage_by : {C : Type 0} (told : Option Blobs) (close : Bool) (k a b c : Scene C) → a.output ≡ k.output → b.output ≡ c.output
    → ShowsDamage told close a b → ShowsDamage told close k c
damage_by None close k a b c front end (damage, is) = (damage, appends_by k.output c.output a.output b.output _ front end is)
damage_by (Some shelf) close k a b c front end never = never

shown_by : {C : Type 0} (close unsent : Bool) (body : List ℕ) (told : Option Blobs) (fails more : Type 0) (k a b c : Scene C) → a.output ≡ k.output
    → b.output ≡ c.output → (fails → more) → ShownOf close unsent body told fails a b → ShownOf close unsent body told more k c
shown_by close unsent body told fails more k a b c front end still (inl (bytes, are, is)) =
    inl (bytes, are, appends_by k.output c.output a.output b.output _ front end is)
shown_by close unsent body told fails more k a b c front end still (inr (inl is)) =
    inr (inl (appends_by k.output c.output a.output b.output _ front end is))
shown_by close unsent body told fails more k a b c front end still (inr (inr (inl is))) =
    inr (inr (inl (appends_by k.output c.output a.output b.output _ front end is)))
shown_by close unsent body told fails more k a b c front end still (inr (inr (inr (inl (is, failed))))) =
    inr (inr (inr (inl (appends_by k.output c.output a.output b.output _ front end is, still failed))))
shown_by close unsent body told fails more k a b c front end still (inr (inr (inr (inr damage)))) =
    inr (inr (inr (inr (damage_by told close k a b c front end damage))))

-- nor does taking a head write anything
pub front_shown : {C : Type 0} (close unsent : Bool) (body : List ℕ) (k a c : Scene C) → a.output ≡ k.output → a.book ≡ k.book
    → ShowsFile close unsent body a c → ShowsFile close unsent body k c
front_shown close unsent body k a c front book shown =
    subst (λ (x : Book). ShownOf close unsent body x.told (FailsStore x c.book) k c) book
    (shown_by close unsent body a.book.told (FailsStore a.book c.book) (FailsStore a.book c.book) k a c c front refl (λ fails. fails) shown)

-- over a store that tells, it is the body
pub told_shown : {C : Type 0} (close unsent : Bool) (body : List ℕ) (shelf : Blobs) (a b : Scene C) → a.book.told ≡ Some shelf
    → ShowsFile close unsent body a b → Appends a.output b.output (file_head close (length body) ++ body)
    ⊎ Appends a.output b.output (refusal_reply (plainly close) denial.Memory)
    ⊎ Appends a.output b.output (refusal_reply (plainly (close || unsent)) denial.Memory)
    ⊎ (Appends a.output b.output (refusal_reply (plainly close) denial.Store) × FailsStore a.book b.book)
told_shown close unsent body shelf a b told (inl (bytes, are, is)) =
    let same : bytes ≡ body = subst (λ (o : Option Blobs). AreOfBody o body bytes) told are in
    inl (subst (λ (z : List ℕ). Appends a.output b.output (file_head close (length body) ++ z)) same is)
told_shown close unsent body shelf a b told (inr (inl is)) = inr (inl is)
told_shown close unsent body shelf a b told (inr (inr (inl is))) = inr (inr (inl is))
told_shown close unsent body shelf a b told (inr (inr (inr (inl fails)))) = inr (inr (inr fails))
told_shown close unsent body shelf a b told (inr (inr (inr (inr damage)))) =
    absurd (subst (λ (o : Option Blobs). ShowsDamage o close a b) told damage)

answers_shown : {C : Type 0} (reads : C → Taken → C → Type 0) (last : Bool) (head : Head) (caller : Caller) (spot : Spot) (body : List ℕ)
    (begun : Begun) (k m b : Scene C) (end : Option Ended) → request_of head [] ≡ Ok (get_of caller spot) → Judges reads head [] k m begun
    → IsKept k.book caller spot body → OnlyOwn k.book m.book → OnlyOwn k.book b.book
    → Answers reads last head begun m b end → IsWritten end → ShowsFile (last || closes_session head) (waits head) body k b
answers_shown {C} reads last head caller spot body begun k m b end asked judges kept one only answers written =
    let v = answers.response in
    let wrote = wrote_whole last (way_of head begun) v answers.taken answers.sent answers.result answers.responds
    (subst (λ (e : Option Ended). IsWritten e) answers.ends written) in
    let written_goes = writes_go (manner_of last (way_of head begun) v) v answers.taken answers.sent wrote.1 in
    let behind = closes_go reads (how_of v answers.result) (stays_granted v) answers.sent b answers.closes in
    let taken = takes_go reads head m answers.taken begun v answers.takes in
    let before = goes_then (judges_go reads head [] k m begun judges) (goes_then taken written_goes) in
    let shown = begun_shown reads last head caller spot body begun k m answers.taken answers.sent v asked judges kept one
    (only_first k.book answers.sent.book b.book before.book.onward.lasts behind.book.onward.lasts only) answers.takes wrote.0 wrote.1 in
    let front : answers.taken.output ≡ k.output = takes_output reads head m answers.taken begun v answers.takes ∙ output_of k m (judges_only reads head [] k m begun judges) in
    let closed = output_of answers.sent b (closes_only reads (how_of v answers.result) (stays_granted v) answers.sent b answers.closes) in
    let later : answers.taken.book.strikes ≤ b.book.strikes =
    (goes_then written_goes behind).book.onward.lasts.strikes in
    shown_by (last || closes_session head) (waits head) body k.book.told (FailsStore k.book answers.taken.book) (FailsStore k.book b.book)
    k answers.taken answers.sent b front (sym closed) (λ fails. omega (arith, later, fails)) shown

with_shown : {C : Type 0} (reads : C → Taken → C → Type 0) (last : Bool) (head : Head) (caller : Caller) (spot : Spot) (body : List ℕ)
    (k b : Scene C) (end : Option Ended) → MeetsWith reads last head [] k b end → request_of head [] ≡ Ok (get_of caller spot)
    → IsKept k.book caller spot body → OnlyOwn k.book b.book → IsWritten end → ShowsFile (last || closes_session head) (waits head) body k b
with_shown reads last head caller spot body k b end (m, begun, judges, inl stops) asked kept only written =
    absurd (stop_not_written m stops.sent stops.by (stops_sends head begun m stops.sent (Unit {0}) stops.by stops.invites)
    (subst (λ (e : Option Ended). IsWritten e) stops.ends written))
with_shown {C} reads last head caller spot body k b end (m, begun, judges, inr (n, invites, inl answers)) asked kept only written =
    let one : OnlyOwn k.book m.book =
    only_within (same_moves k.book k.book 0 refl) (judges_go reads head [] k m begun judges).book
    (goes_first (invites_go head begun m n invites) (answers_go reads last head begun n b end answers)).book only in
    let same : n ≡ m = quiet head begun m n (get_not_invited reads head caller spot body begun k m asked judges kept one) invites in
    answers_shown reads last head caller spot body begun k m b end asked judges kept one only
    (subst (λ (x : Scene C). Answers reads last head begun x b end) same answers) written
with_shown reads last head caller spot body k b end (m, begun, judges, inr (n, invites, inr cuts)) asked kept only written =
    absurd (cut_not_written cuts.fault cuts.cut cuts.sent cuts.by cuts.responds (subst (λ (e : Option Ended). IsWritten e) cuts.ends written))

pub meets_shown : {C : Type 0} (reads : C → Taken → C → Type 0) (last : Bool) (head : Head) (caller : Caller) (spot : Spot) (body : List ℕ)
    (k b : Scene C) (end : Option Ended) → Meets reads last head k b end → request_of head [] ≡ Ok (get_of caller spot)
    → IsKept k.book caller spot body → OnlyOwn k.book b.book → IsWritten end → ShowsFile (last || closes_session head) (waits head) body k b
meets_shown reads last head caller spot body k b end meets asked kept only written =
    with_shown reads last head caller spot body k b end (meets_at_once reads last head k b end (asked_not_early head (get_of caller spot) asked refl) meets) asked kept only written

pub put_then_get : {C : Type 0} (reads : C → Taken → C → Type 0) → PutThenGet reads
put_then_get {C} reads caller spot body a b c first last end done put get sound own only written =
    let same : get.behind.book ≡ b.book = heads_same b get.behind (Ok (Some get.head)) get.heads in
    let one = turn_goes reads first a b end
    (inr (inr (
      put.behind,
      put.head,
      put.heads,
      inr (
        put.behind,
        [],
        none_early put.head put.behind (asked_not_early put.head (put_of caller spot (length body)) put.asked refl),
        (put.judged, put.begun, put.judges, inr (put.invited, put.invites, inl put.answers)),
      ),
    ))) in
    let two = turn_goes reads last b c done (inr (inr (get.behind, get.head, get.heads, get.meets))) in
    let kept = put_is_kept reads first caller spot body a b end put sound own (only_within (same_moves a.book a.book 0 refl) one.book two.book only) in
    let rest : OnlyOwn b.book c.book = only_within one.book two.book (same_moves c.book c.book 0 refl) only in
    let shown = meets_shown reads last get.head caller spot body get.behind c done get.meets get.asked
    (subst (λ (k : Book). IsKept k caller spot body) (sym same) kept) (subst (λ (k : Book). OnlyOwn k c.book) (sym same) rest) written in
    front_shown (last || closes_session get.head) (waits get.head) body b get.behind c
    (ap (λ (x : Scene C). x.output) get.heads.only) same shown
