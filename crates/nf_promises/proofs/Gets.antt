-- What a turn that took a GET writes, where the body of a PUT is kept.
use Rattle.std.proofs.Common.{ℕ, ◌+◌, ◌==◌, ◌≡◌, ◌⊎◌, ◌&&◌, ◌||◌, Bool, true, false, List, [], ◌∷◌, ◌++◌, length, Option, None, Some, Result, Ok, Err, is_some, if◌then◌else◌, inl, inr, refl, sym, ap, subst, ◌∙◌, arith}
use Rattle.std.specs.Prelude.{IfSome, MatchBool, Vec, nat_le, nat_lt}
use Rattle.std.specs.Io.KnownBytes.{Appends}
use Rattle.std.specs.declared.alloc.Global.{Global}
use Rattle.std.proofs.lemmas.Bool.{eqb-true}
use Rattle.std.proofs.lemmas.Bool.Decides.{nat_tests}
use Rattle.nf_outside.specs.Lent.{Taken}
use Rattle.std.proofs.lemmas.List.{append-nil}
use Rattle.sha2.specs.Sha256.{sha256}
use Rattle.nf_base.specs.declared.limits.TheConstants.{MAX_OCS_BODY}
use Rattle.nf_base.specs.declared.content.Piece.{Piece}
use Rattle.nf_dav.specs.Asked.{request_of}
use Rattle.nf_dav.specs.Reply.{file_head, refusal_reply}
use Rattle.nf_dav.specs.declared.replies.Manner.{Manner}
use Rattle.nf_http.specs.Head.{Head, closes_session, expects_continue, length_of}
use Rattle.nf_words.proofs.Steps.{reports_nothing}
use Rattle.nf_words.specs.Prelude.{answer_at, answered_by, answer_to, blob_for, changes_by, changes_to, content_in, decision_of, is_about_files, MayBear, State}
use Rattle.nf_words.specs.History.{HasBody}
use Rattle.nf_words.specs.declared.answer.Allowed.{Allowed}
use Rattle.nf_words.specs.declared.answer.Allowed.TheVariants as allowed
use Rattle.nf_words.specs.declared.answer.Damage.{Damage}
use Rattle.nf_words.specs.declared.answer.Denial.{Denial}
use Rattle.nf_words.specs.declared.answer.Denial.TheVariants as denial
use Rattle.nf_words.specs.declared.answer.Goal.TheVariants.{Serve}
use Rattle.nf_words.specs.declared.answer.Reply.{Reply}
use Rattle.nf_words.specs.declared.answer.Reply.TheVariants as reply
use Rattle.nf_words.specs.declared.history.Entry.{Entry}
use Rattle.nf_words.specs.declared.history.Event.{Event}
use Rattle.nf_words.specs.declared.history.Event.TheVariants.{Begin}
use Rattle.nf_words.specs.declared.history.Mark.{Mark}
use Rattle.nf_words.specs.declared.history.Mark.TheVariants as mark
use Rattle.nf_words.specs.declared.request.Caller.{Caller}
use Rattle.nf_words.specs.declared.request.Request.{Request}
use Rattle.nf_words.specs.declared.request.Spot.{Spot}
use Rattle.nf_words.specs.declared.request.Words.{Words}
use Rattle.nf_defs.specs.Prelude.{blob_at, Blobs, Tables}
use Rattle.nf_session.specs.Prelude.{Answer, Begins, Book, end_of, end_of_close, Enters, FailsPiece, file_front, HaveBytes, is_early, is_invited, is_unmade, is_unsent, IsPiece, Judges, Lasts, manner_of, next_blob_of, OthersCame, Scene, SendsFile, Starts, StartsFile, state_of, TakesIn, TellsDamage, TellsPiece, TellsStill, Way, way_of, Writes}
use Rattle.nf_session.specs.Book.{Differs, Passes as Unchanged}
use Rattle.nf_session.specs.Steps.{holds_back}
use Rattle.nf_session.specs.Turn.{says_close}
use Rattle.nf_session.proofs.Calm.{writes_go}
use Rattle.nf_session.proofs.Moving.{begins_move, none_of}
use Rattle.nf_session.proofs.Sendings.{given_alone}
use Rattle.nf_session.proofs.Lasting.{lasts_same, lasts_then, still_alone, there_differs}
use Rattle.nf_session.specs.declared.backend.PieceFault.{PieceFault}
use Rattle.nf_session.specs.declared.backend.PieceFault.TheVariants as fault
use Rattle.nf_session.specs.declared.begun.Begun.{Begun}
use Rattle.nf_session.specs.declared.begun.Begun.TheVariants as begun
use Rattle.nf_session.specs.declared.response.Response.{Response}
use Rattle.nf_session.specs.declared.response.Response.TheVariants as response
use Rattle.nf_promises.proofs.Growing.{entered, only_first, only_last}
use Rattle.nf_promises.proofs.Putting.{content_of_body}
use Rattle.nf_promises.proofs.Puts.{IsKept, Keeps}
use Rattle.nf_promises.proofs.Touches.{starts_other}
use Rattle.nf_promises.specs.Kept.{AreOfBody, FailsStore, IsWritten, OnlyOwn, ShowsDamage, get_of, plainly, waits}
use Rattle.nf_dav.proofs.Asked.{asked_no_head, asked_no_ocs}

pub record IsPlain (way : Way) : Type 0 where
  pub ocs : way.ocs ≡ false
  pub head_only : way.head_only ≡ false

pub asked_plain : (head : Head) (begun : Begun) (request : Request) → request_of head [] ≡ Ok request → is_about_files request.wanted ≡ true
    → IsPlain (way_of head begun)
asked_plain head begun request asked other = record {
  ocs = asked_no_ocs head [] request asked other;
  head_only = asked_no_head head [] request asked;
}

never_early : (n : ℕ) → (nat_lt 0 n && nat_le n 0) ≡ false
never_early n = grind (arith, nat_tests)

pub asked_not_early : (head : Head) (request : Request) → request_of head [] ≡ Ok request → is_about_files request.wanted ≡ true
    → is_early head ≡ false
asked_not_early head request asked other =
    ap (λ (ocs : Bool). nat_lt 0 (length_of head) && nat_le (length_of head) (if ocs then MAX_OCS_BODY else 0)) (asked_no_ocs head [] request asked other)
    ∙ never_early (length_of head)

-- no body is taken before what is plain is looked for
held_back : (head : Head) (begun : Begun) → IsPlain (way_of head begun) → holds_back head ≡ waits head
held_back head begun plain =
    ap (λ (ocs : Bool). expects_continue head && nat_lt (if ocs then MAX_OCS_BODY else 0) (length_of head)) plain.ocs

-- ---- what its Begin is answered

-- what serves changes nothing, so no store can fail it
serves_nothing : (t : Tables) (now : ℕ) (d : Result Allowed Denial) (content : List Piece) → answered_by d ≡ Ok (reply.Granted (Serve content))
    → changes_by t now d ≡ []
serves_nothing t now (Ok (allowed.Get node other)) content is = refl
serves_nothing t now (Ok (allowed.Change changes blob report)) content is = absurd (reports_nothing report (Serve content) (cc))
serves_nothing t now (Ok (allowed.Deeds deeds report)) content is = absurd (reports_nothing report (Serve content) (cc))
serves_nothing t now (Err refusal) content is = refl
serves_nothing t now other content is = absurd (cc)

begin_marked : (s : State) (e : Entry) (words : Words) (request : Request) (content : List Piece) → e.event ≡ Begin words request
    → answer_to s e.seat e.moment (Begin words request) ≡ Ok (reply.Granted (Serve content)) → (m : Mark) → MayBear s e m → m ≡ mark.Answered
begin_marked s e words request content event is mark.Answered may = refl
begin_marked s e words request content event is mark.Store may =
    absurd (may (ap (changes_to s e.seat e.moment) event
    ∙ serves_nothing s.tables e.moment (decision_of s e.seat e.moment (Begin words request)) content is))
begin_marked s e words request content event is mark.Memory may = absurd (subst (λ (ev : Event). HasBody ev) event may)

pub unmade_is : (answer : Answer) → is_unmade answer ≡ true → (answer ≡ Err denial.RunFull) ⊎ (answer ≡ Err denial.Memory)
unmade_is (Ok answered) is = absurd (cc)
unmade_is (Err denial.RunFull) is = inl refl
unmade_is (Err denial.Memory) is = inr refl
unmade_is (Err other) is = absurd (cc)

-- it is granted what was stored, or there was no memory or no room
get_answered : (a m : Book) (now : ℕ) (words : Words) (caller : Caller) (spot : Spot) (body : List ℕ) (answer : Answer) (kept : IsKept a caller spot body)
    → OnlyOwn a m → Begins a m now words (get_of caller spot) answer
    → (answer ≡ Ok (reply.Granted (Serve (content_of_body kept.before body))))
    ⊎ ((answer ≡ Err denial.RunFull) ⊎ (answer ≡ Err denial.Memory))
get_answered a m now words caller spot body answer kept only begins = here (is_unmade answer) refl begins.entry
  where
    here : (unmade : Bool) → is_unmade answer ≡ unmade
        → MatchBool unmade (Unchanged a m) (Enters a m now (Begin words (get_of caller spot)) answer)
        → (answer ≡ Ok (reply.Granted (Serve (content_of_body kept.before body)))) ⊎ ((answer ≡ Err denial.RunFull) ⊎ (answer ≡ Err denial.Memory))
    here true is passes = inr (unmade_is answer is)
    here false is enters =
        let event : Event = Begin words (get_of caller spot) in
        let s = state_of a in
        let e = enters.entry in
        let begin = entered a m now event answer enters only in
        let got : answer_to s e.seat e.moment event ≡ Ok (reply.Granted (Serve (content_of_body kept.before body))) = kept.got e.seat e.moment words in
        let marked : e.mark ≡ mark.Answered =
        begin_marked s e words (get_of caller spot) (content_of_body kept.before body) begin.event_is got e.mark begin.may.marked in
        inl (sym begin.answer_is ∙ ap (answer_at s e) marked ∙ ap (answer_to s e.seat e.moment) begin.event_is ∙ got)

-- ---- the bytes of the file

-- what is kept is kept later, where no other's entry came
keeps_later : (k b : Book) (before : State) (body : List ℕ) (old new : Option Blobs) → Lasts k b → OnlyOwn k b
    → TellsStill (OthersCame k b) (next_blob_of k) old new → IfSome old (Keeps k before body) → IfSome new (Keeps b before body)
keeps_later k b before body None None lasts only still keeps = tt
keeps_later k b before body None (Some new) lasts only still keeps = absurd (cc)
keeps_later k b before body (Some old) None lasts only still keeps = absurd still
keeps_later k b before body (Some old) (Some new) lasts only still keeps = λ id is.
    let there = keeps id is in (
      omega (arith, there.0, lasts.next_blob),
      still_alone k b (blob_at old id) (blob_at new id) only (still id there.0) ∙ there.1,
    )

kept_later : (k b : Book) (before : State) (body : List ℕ) → Lasts k b → OnlyOwn k b → IfSome k.told (Keeps k before body)
    → IfSome b.told (Keeps b before body)
kept_later k b before body lasts only keeps = keeps_later k b before body k.told b.told lasts only lasts.told keeps

-- the bytes of a body, as of an earlier book
of_body_before : (cause : Type 0) (next : ℕ) (old new : Option Blobs) (body bytes : List ℕ) → TellsStill cause next old new
    → AreOfBody new body bytes → AreOfBody old body bytes
of_body_before cause next None None body bytes still are = are
of_body_before cause next None (Some new) body bytes still are = absurd (cc)
of_body_before cause next (Some old) None body bytes still are = absurd still
of_body_before cause next (Some old) (Some new) body bytes still are = are

of_body_itself : (told : Option Blobs) (body : List ℕ) → AreOfBody told body body
of_body_itself None body = (refl, refl)
of_body_itself (Some shelf) body = refl

-- the piece of a body
abbrev piece_of : ℕ → List ℕ → Piece
piece_of id body = record { blob = id; size = length body; digest = sha256 body }

-- what is given of it
piece_of_body : (b : Book) (before : State) (told : Option Blobs) (id : ℕ) (body bytes : List ℕ) → length bytes ≡ length body → sha256 bytes ≡ sha256 body
    → blob_for before.tables.meta.next_blob (length body) ≡ Some id
    → IfSome told (TellsPiece b (piece_of id body) bytes) → IfSome told (Keeps b before body) → AreOfBody told body bytes
piece_of_body b before None id body bytes size digest is piece keeps = (size, digest)
piece_of_body b before (Some shelf) id body bytes size digest is piece keeps =
    let same : ◌≡◌ {A = Option (List ℕ)} (Some bytes) (Some body) = sym piece.there ∙ (keeps id is).1 in cc

empty_for : (next : ℕ) (body : List ℕ) → blob_for next (length body) ≡ None → body ≡ []
empty_for next body is = here (length body == 0) refl is
  where
    here : (a : Bool) → (length body == 0) ≡ a → (if a then None else Some next) ≡ None → body ≡ []
    here true e is = none_of body (eqb-true (length body) 0 e)
    here false e is = absurd (cc)

-- what a file of it is
abbrev FileOf : Bool → Option Blobs → List ℕ → List ℕ → Type 0
FileOf close told body file = (bytes : List ℕ) × AreOfBody told body bytes × (file ≡ file_head close (length body) ++ bytes)

file_bytes : (close : Bool) (b : Book) (before : State) (body : List ℕ) → IfSome b.told (Keeps b before body)
    → (o : Option ℕ) → blob_for before.tables.meta.next_blob (length body) ≡ o
    → (given : List (List ℕ)) → HaveBytes (IsPiece b) (content_in o (sha256 body) (length body)) given
    → length given ≡ length (content_in o (sha256 body) (length body))
    → FileOf close b.told body (file_front close (content_in o (sha256 body) (length body)) given)
file_bytes close b before body keeps None is [] are count = (
  body,
  of_body_itself b.told body,
  ap (λ (bytes : List ℕ). file_head close (length bytes) ++ bytes) (sym (empty_for before.tables.meta.next_blob body is)),
)
file_bytes close b before body keeps None is (bytes ∷ given) are count = absurd are
file_bytes close b before body keeps (Some id) is [] are count = absurd (omega (arith, count))
file_bytes close b before body keeps (Some id) is (bytes ∷ []) (piece, rest) count =
    let size : 0 + length body ≡ length body = omega arith in
    let whole : bytes ++ [] ≡ bytes = append-nil bytes in (
      bytes,
      piece_of_body b before b.told id body bytes piece.size piece.digest is piece.told keeps,
      (λ i. file_head close (size i) ++ whole i),
    )
file_bytes close b before body keeps (Some id) is (bytes ∷ more ∷ given) are count = absurd (omega (arith, count))

-- ---- how it starts

pub starts_file : (a b : Book) (content other : List Piece) (first : Option (Vec ℕ Global)) → Starts a b content (response.File other first)
    → (other ≡ content) × Lasts a b
starts_file a b [] other None (is, same) = (is, lasts_same a b same)
starts_file a b [] other (Some first) never = absurd never
starts_file a b (piece ∷ pieces) other None never = absurd never
starts_file a b (piece ∷ pieces) other (Some first) (is, waits, given, calm) = (is, waits.lasts)

-- the one piece of a body that isn't given
starts_lost : (a b : Book) (next : ℕ) (body : List ℕ) (why : PieceFault) (o : Option ℕ) → blob_for next (length body) ≡ o
    → Starts a b (content_in o (sha256 body) (length body)) (response.Lost why)
    → (id : ℕ) × (blob_for next (length body) ≡ Some id) × Lasts a b × FailsPiece a b (piece_of id body) why
starts_lost a b next body why None is never = absurd never
starts_lost a b next body why (Some id) is (waits, fails) = (id, is, waits.lasts, fails)

-- ---- what is written

-- over a store that tells so, where such a failure is one
abbrev pub ShownOf : {C : Type 0} → Bool → Bool → List ℕ → Option Blobs → Type 0 → Scene C → Scene C → Type 0
ShownOf close unsent body told fails a b =
    ((bytes : List ℕ) × AreOfBody told body bytes × Appends a.output b.output (file_head close (length body) ++ bytes))
    ⊎ Appends a.output b.output (refusal_reply (plainly close) denial.Memory)
    ⊎ Appends a.output b.output (refusal_reply (plainly (close || unsent)) denial.Memory)
    ⊎ (Appends a.output b.output (refusal_reply (plainly close) denial.Store) × fails)
    ⊎ ShowsDamage told close a b

-- the same, of two scenes with a book before them
abbrev pub Shown : {C : Type 0} → Bool → Bool → List ℕ → Book → Scene C → Scene C → Type 0
Shown close unsent body k a b = ShownOf close unsent body k.told (FailsStore k a.book) a b

says_is : (last closes : Bool) → (last || is_some (end_of_close closes)) ≡ (last || closes)
says_is last true = refl
says_is last false = refl

-- a refusal that doesn't end the session by itself is written plainly
plain_manner : (last : Bool) (way : Way) → IsPlain way
    → ◌≡◌ {A = Manner} (record { close = last || is_some (end_of_close way.closes); ocs = way.ocs; head_only = way.head_only }) (plainly (last || way.closes))
plain_manner last way plain = λ i. record { close = says_is last way.closes i; ocs = plain.ocs i; head_only = plain.head_only i }

plainly_written : (last : Bool) (way : Way) (refusal : Denial) (old new : Option (List ℕ)) → IsPlain way
    → Appends old new (refusal_reply (record { close = last || is_some (end_of_close way.closes); ocs = way.ocs; head_only = way.head_only }) refusal)
    → Appends old new (refusal_reply (plainly (last || way.closes)) refusal)
plainly_written last way refusal old new plain wrote =
    subst (λ (manner : Manner). Appends old new (refusal_reply manner refusal)) (plain_manner last way plain) wrote

-- where the store tells, the piece isn't damaged: the body is there
damage_shown : {C : Type 0} (close : Bool) (a b : Scene C) (k l : Book) (before : State) (body : List ℕ) (id : ℕ) (damage : Damage) (old new : Option Blobs)
    → TellsStill (OthersCame k l) (next_blob_of k) old new → blob_for before.tables.meta.next_blob (length body) ≡ Some id
    → Differs (piece_of id body) damage → IfSome new (TellsDamage l (piece_of id body) damage) → IfSome new (Keeps l before body)
    → Appends a.output b.output (refusal_reply (plainly close) (denial.Damaged damage)) → ShowsDamage old close a b
damage_shown close a b k l before body id damage None new still is differs damaged keeps wrote = (damage, wrote)
damage_shown close a b k l before body id damage (Some old) None still is differs damaged keeps wrote = absurd still
damage_shown close a b k l before body id damage (Some old) (Some new) still is differs damaged keeps wrote =
    there_differs new (piece_of id body) damage damaged.found differs
    (record { bytes = body; there = (keeps id is).1; size = refl; digest = refl })

lost_shown : {C : Type 0} (last : Bool) (way : Way) (plain : IsPlain way) (unsent : Bool) (body : List ℕ) (before : State) (k : Book) (x a b : Scene C) (id : ℕ) (why : PieceFault)
    → Lasts k x.book → Lasts k a.book → OnlyOwn k a.book → IfSome k.told (Keeps k before body)
    → blob_for before.tables.meta.next_blob (length body) ≡ Some id
    → FailsPiece x.book a.book (piece_of id body) why
    → Writes {T = Unit {0}} (manner_of last way (response.Lost why)) (response.Lost why) a b (Ok tt)
    → Shown (last || way.closes) unsent body k a b
lost_shown last way plain unsent body before k x a b id fault.Store first since only keeps is fails wrote =
    let struck : FailsStore k a.book = omega (arith, first.strikes, fails) in
    inr (inr (inr (inl (plainly_written last way denial.Store a.output b.output plain wrote.bytes_are, struck))))
lost_shown last way plain unsent body before k x a b id (fault.Damaged damage) first since only keeps is (calm, names, told) wrote =
    inr (inr (inr (inr (damage_shown (last || way.closes) a b k a.book before body id damage k.told a.book.told since.told is
    names.1.differs told (kept_later k a.book before body since only keeps)
    (plainly_written last way (denial.Damaged damage) a.output b.output plain wrote.bytes_are)))))
lost_shown last way plain unsent body before k x a b id fault.Memory first since only keeps is fails wrote =
    inr (inl (plainly_written last way denial.Memory a.output b.output plain wrote.bytes_are))

file_shown : {C : Type 0} (last : Bool) (way : Way) (unsent : Bool) (caller : Caller) (spot : Spot) (body : List ℕ) (k : Book) (a b : Scene C)
    (content : List Piece) (first : Option (Vec ℕ Global)) (kept : IsKept k caller spot body)
    → Lasts k a.book → OnlyOwn k b.book → content ≡ content_of_body kept.before body
    → SendsFile {T = Unit {0}} (says_close last way (response.File content first)) content first a b (Ok tt)
    → Shown (last || way.closes) unsent body k a b
file_shown last way unsent caller spot body k a b content first kept before only is (given, writes, count, calm) =
    let close = says_close last way (response.File content first) in
    let whole : List Piece = content_of_body kept.before body in
    let behind = writes.pieces.waits.lasts in
    let since : Lasts k b.book = lasts_then k a.book b.book before behind in
    let are : HaveBytes (IsPiece b.book) whole given = subst (λ (c : List Piece). HaveBytes (IsPiece b.book) c given) is
    (given_alone a.book b.book content given (only_last k a.book b.book before behind only) writes.pieces.are_given) in
    let all : length given ≡ length whole = count ∙ ap length is in
    let file : FileOf close b.book.told body (file_front close whole given) =
    file_bytes close b.book kept.before body (kept_later k b.book kept.before body since only kept.bytes)
    (blob_for kept.before.tables.meta.next_blob (length body)) refl given are all in
    let wrote : Appends a.output b.output (file_head close (length body) ++ file.0) =
    subst (λ (bs : List ℕ). Appends a.output b.output bs) (ap (λ (c : List Piece). file_front close c given) is ∙ file.2) writes.bytes_are in
    inl (
      file.0,
      of_body_before (OthersCame k b.book) (next_blob_of k) k.told b.book.told body file.0 since.told file.1,
      subst (λ (close : Bool). Appends a.output b.output (file_head close (length body) ++ file.0)) (says_is last (way.closes)) wrote,
    )

served_shown : {C : Type 0} (last : Bool) (way : Way) (plain : IsPlain way) (unsent : Bool) (caller : Caller) (spot : Spot) (body : List ℕ) (k : Book) (x a b : Scene C) (v : Response)
    (kept : IsKept k caller spot body) → Lasts k x.book → OnlyOwn k b.book → StartsFile x a (content_of_body kept.before body) v
    → Writes {T = Unit {0}} (manner_of last way v) v a b (Ok tt) → Shown (last || way.closes) unsent body k a b
served_shown last way plain unsent caller spot body k x a b (response.File content first) kept before only starts writes =
    let started = starts_file x.book a.book (content_of_body kept.before body) content first starts.starts in
    file_shown last way unsent caller spot body k a b content first kept (lasts_then k x.book a.book before started.1) only started.0 writes
served_shown last way plain unsent caller spot body k x a b (response.Lost why) kept before only starts writes =
    let lost = starts_lost x.book a.book kept.before.tables.meta.next_blob body why
    (blob_for kept.before.tables.meta.next_blob (length body)) refl starts.starts in
    let since = lasts_then k x.book a.book before lost.2 in
    let behind = (writes_go (manner_of last way (response.Lost why)) (response.Lost why) a b writes).book.onward.lasts in
    lost_shown last way plain unsent body kept.before k x a b lost.0 why before since (only_first k a.book b.book since behind only)
    kept.bytes lost.1 lost.3 writes
served_shown last way plain unsent caller spot body k x a b other kept before only starts writes =
    absurd (starts_other x.book a.book (content_of_body kept.before body) other starts.starts)

-- ---- the turn

or_false : (a : Bool) → (a || false) ≡ a
or_false true = refl
or_false false = refl

or_more : (a b c : Bool) → (a || (b || c)) ≡ ((a || b) || c)
or_more true b c = refl
or_more false b c = refl

-- want of memory at the Begin, where the body wasn't sent
denied_shown : {C : Type 0} (last closes unsent : Bool) (way : Way) (plain : IsPlain way) (body : List ℕ) (k : Book) (a b : Scene C) (v : Response)
    → way.closes ≡ (closes || unsent) → v ≡ response.Denied denial.Memory → Writes {T = Unit {0}} (manner_of last way v) v a b (Ok tt)
    → Shown (last || closes) unsent body k a b
denied_shown {C} last closes unsent way plain body k a b v by is writes =
    let wrote : Writes {T = Unit {0}} (manner_of last way (response.Denied denial.Memory)) (response.Denied denial.Memory) a b (Ok tt) =
    subst (λ (w : Response). Writes {T = Unit {0}} (manner_of last way w) w a b (Ok tt)) is writes in
    inr (inr (inl (subst (λ (close : Bool). Appends a.output b.output (refusal_reply (plainly close) denial.Memory))
    (ap (λ (z : Bool). last || z) by ∙ or_more last closes unsent)
    (plainly_written last way denial.Memory a.output b.output plain wrote.bytes_are))))

full_not_written : (closes : Bool) (v : Response) → v ≡ response.Denied denial.RunFull → IsWritten (end_of closes v) → ⊥
full_not_written closes v is written = subst (λ (w : Response). IsWritten (end_of closes w)) is written

-- a granted message closes the session by itself alone
granted_closes : (head : Head) (answer : Answer) (answered : Reply) → answer ≡ Ok answered
    → (way_of head (begun.Asked answer)).closes ≡ closes_session head
granted_closes head answer answered is =
    ap (λ (w : Answer). closes_session head || is_unsent head (begun.Asked w)) is ∙ or_false (closes_session head)

refused_closes : (head : Head) (answer : Answer) (refusal : Denial) → IsPlain (way_of head (begun.Asked answer)) → answer ≡ Err refusal
    → (way_of head (begun.Asked answer)).closes ≡ (closes_session head || waits head)
refused_closes head answer refusal plain is =
    ap (λ (w : Answer). closes_session head || is_unsent head (begun.Asked w)) is
    ∙ ap (λ (unsent : Bool). closes_session head || unsent) (held_back head (begun.Asked answer) plain)

-- what was answered, by what it is
answered_shown : {C : Type 0} (reads : C → Taken → C → Type 0) (last : Bool) (head : Head) (caller : Caller) (spot : Spot) (body : List ℕ)
    (k : Book) (m a b : Scene C) (v : Response) (answer : Answer) (kept : IsKept k caller spot body) (plain : IsPlain (way_of head (begun.Asked answer)))
    → (answer ≡ Ok (reply.Granted (Serve (content_of_body kept.before body))))
    ⊎ ((answer ≡ Err denial.RunFull) ⊎ (answer ≡ Err denial.Memory))
    → Lasts k m.book → OnlyOwn k b.book → TakesIn reads head m a (begun.Asked answer) (Ok v)
    → IsWritten (end_of (way_of head (begun.Asked answer)).closes v)
    → Writes {T = Unit {0}} (manner_of last (way_of head (begun.Asked answer)) v) v a b (Ok tt)
    → Shown (last || closes_session head) (waits head) body k a b
answered_shown {C} reads last head caller spot body k m a b v answer kept plain (inl is) before only takes written writes =
    let served : TakesIn reads head m a (begun.Asked (Ok (reply.Granted (Serve (content_of_body kept.before body))))) (Ok v) =
    subst (λ (w : Answer). TakesIn reads head m a (begun.Asked w) (Ok v)) is takes in
    let x : Scene C = served.0 in
    subst (λ (closes : Bool). Shown (last || closes) (waits head) body k a b) (granted_closes head answer _ is)
    (served_shown last (way_of head (begun.Asked answer)) plain (waits head) caller spot body k x a b v kept
    (lasts_then k m.book x.book before (lasts_same m.book x.book (ap (λ (y : Scene C). y.book) served.2.only))) only served.3 writes)
answered_shown {C} reads last head caller spot body k m a b v answer kept plain (inr (inl is)) before only takes written writes =
    let full : TakesIn reads head m a (begun.Asked (Err denial.RunFull)) (Ok v) =
    subst (λ (w : Answer). TakesIn reads head m a (begun.Asked w) (Ok v)) is takes in
    absurd (full_not_written (way_of head (begun.Asked answer)).closes v full.3.0 written)
answered_shown {C} reads last head caller spot body k m a b v answer kept plain (inr (inr is)) before only takes written writes =
    let wanting : TakesIn reads head m a (begun.Asked (Err denial.Memory)) (Ok v) =
    subst (λ (w : Answer). TakesIn reads head m a (begun.Asked w) (Ok v)) is takes in
    denied_shown last (closes_session head) (waits head) (way_of head (begun.Asked answer)) plain body k a b v
    (refused_closes head answer denial.Memory plain is) wanting.3.0 writes

-- nobody is invited by a GET
pub get_not_invited : {C : Type 0} (reads : C → Taken → C → Type 0) (head : Head) (caller : Caller) (spot : Spot) (body : List ℕ) (begun : Begun) (k m : Scene C)
    → request_of head [] ≡ Ok (get_of caller spot) → Judges reads head [] k m begun → IsKept k.book caller spot body → OnlyOwn k.book m.book
    → is_invited head begun ≡ false
get_not_invited reads head caller spot body (begun.Unasked refusal) k m asked judges kept alone = refl
get_not_invited {C} reads head caller spot body (begun.Asked answer) k m asked (r, now, words, is, read, begins, only) kept alone =
    let same : r ≡ get_of caller spot = cc in
    let get : Begins k.book m.book now words (get_of caller spot) answer =
    subst (λ (q : Request). Begins k.book m.book now words q answer) same begins in
    here (get_answered k.book m.book now words caller spot body answer kept alone get)
  where
    here : (answer ≡ Ok (reply.Granted (Serve (content_of_body kept.before body))))
        ⊎ ((answer ≡ Err denial.RunFull) ⊎ (answer ≡ Err denial.Memory)) → is_invited head (begun.Asked answer) ≡ false
    here (inl is) = ap (λ (w : Answer). is_invited head (begun.Asked w)) is
    here (inr (inl is)) = ap (λ (w : Answer). is_invited head (begun.Asked w)) is
    here (inr (inr is)) = ap (λ (w : Answer). is_invited head (begun.Asked w)) is

pub begun_shown : {C : Type 0} (reads : C → Taken → C → Type 0) (last : Bool) (head : Head) (caller : Caller) (spot : Spot) (body : List ℕ)
    (begun : Begun) (k m a b : Scene C) (v : Response) → request_of head [] ≡ Ok (get_of caller spot) → Judges reads head [] k m begun
    → IsKept k.book caller spot body → OnlyOwn k.book m.book → OnlyOwn k.book b.book
    → TakesIn reads head m a begun (Ok v) → IsWritten (end_of (way_of head begun).closes v)
    → Writes {T = Unit {0}} (manner_of last (way_of head begun) v) v a b (Ok tt) → Shown (last || closes_session head) (waits head) body k.book a b
begun_shown reads last head caller spot body (begun.Unasked refusal) k m a b v asked (inl other, same) kept one only takes written writes =
    absurd (cc)
begun_shown reads last head caller spot body (begun.Unasked refusal) k m a b v asked (inr memory, same) kept one only
    (x, other, bodies, passes) written writes =
    let plain = asked_plain head (begun.Unasked refusal) (get_of caller spot) asked refl in
    denied_shown last (closes_session head) (waits head) (way_of head (begun.Unasked refusal)) plain body k.book a b v
    (ap (λ (unsent : Bool). closes_session head || unsent) (held_back head (begun.Unasked refusal) plain)) (passes.0 ∙ ap response.Denied memory) writes
begun_shown {C} reads last head caller spot body (begun.Asked answer) k m a b v asked (r, now, words, is, read, begins, judged) kept one only takes
    written writes =
    let same : r ≡ get_of caller spot = cc in
    let get : Begins k.book m.book now words (get_of caller spot) answer =
    subst (λ (q : Request). Begins k.book m.book now words q answer) same begins in
    answered_shown reads last head caller spot body k.book m a b v answer kept (asked_plain head (begun.Asked answer) (get_of caller spot) asked refl)
    (get_answered k.book m.book now words caller spot body answer kept one get)
    (begins_move k.book m.book now words (get_of caller spot) answer get).onward.lasts only takes written writes
