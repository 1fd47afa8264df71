-- What a message with a request gets while nothing fails.
use Rattle.std.proofs.Common.{ℕ, ◌≡◌, ◌⊎◌, ◌||◌, Bool, false, List, [], ◌∷◌, ◌++◌, length, Option, Some, Ok, Err, is_some, inl, inr, refl, sym, ap, subst, ◌∙◌, true, append_assoc}
use Rattle.std.proofs.KnownBytes.{Appends-trans}
use Rattle.std.specs.List.{concat}
use Rattle.std.specs.Io.KnownBytes.{Appends}
use Rattle.nf_base.specs.Content.{size_of}
use Rattle.nf_base.specs.declared.content.Piece.{Piece}
use Rattle.nf_dav.specs.Asked.{request_of}
use Rattle.nf_dav.specs.Reply.{file_head, refusal_reply, done_reply, items_reply, listing_reply, made_reply, plain_reply, share_reply, shares_reply, versions_reply}
use Rattle.nf_dav.specs.declared.replies.Manner.{Manner}
use Rattle.nf_http.specs.Bodies.{TakesBody}
use Rattle.nf_http.specs.Head.{Head, closes_session}
use Rattle.nf_outside.specs.Lent.{Taken}
use Rattle.nf_words.specs.declared.answer.Denial.{Denial}
use Rattle.nf_words.specs.declared.answer.Denial.TheVariants as denial
use Rattle.nf_words.specs.declared.answer.Goal.{Goal}
use Rattle.nf_words.specs.declared.answer.Goal.TheVariants as goal
use Rattle.nf_words.specs.declared.answer.Reply.TheVariants as reply
use Rattle.nf_words.specs.declared.history.Event.TheVariants.{Begin}
use Rattle.nf_words.specs.declared.request.Request.{Request}
use Rattle.nf_words.specs.declared.request.Words.{Words}
use Rattle.nf_session.specs.Prelude.{Answer, Answers, AreGiven, Begins, Book, denial_of_piece, end_by, end_of, end_of_close, Enters, event_of_body, how_of, Invites, is_unmade, IsOfBody, IsResponse, Judges, manner_of, Meets, MeetsWith, Passes, Scene, Starts, StartsFile, state_after, stays_granted, StoresBody, Strikes, taken_length, Way, way_of, Writes}
use Rattle.nf_session.specs.Book.{Passes as Unchanged}
use Rattle.nf_session.specs.declared.backend.PieceFault.{PieceFault}
use Rattle.nf_session.specs.declared.backend.PieceFault.TheVariants as fault
use Rattle.nf_session.specs.declared.begun.Begun.{Begun}
use Rattle.nf_session.specs.declared.begun.Begun.TheVariants as begun
use Rattle.nf_session.specs.declared.ended.Ended.{Ended}
use Rattle.nf_session.specs.declared.ended.Ended.TheVariants as ended
use Rattle.nf_session.specs.declared.response.Response.{Response}
use Rattle.nf_session.specs.declared.response.Response.TheVariants as response
use Rattle.nf_session.proofs.Calm.{Calm, bodies_go, calm_of, calm_then, closes_go, early_goes, goes_then, heads_go, invites_go, judges_go, passes_go, writes_go, same_goes}
use Rattle.nf_session.proofs.Early.{early_book}
use Rattle.nf_session.proofs.Inviting.{invited_bytes, invites_wrote}
use Rattle.nf_session.proofs.Lasting.{lasts_then}
use Rattle.nf_session.proofs.Sendings.{given_within}
use Rattle.nf_promises.proofs.Full.{answers_full}
use Rattle.nf_promises.proofs.Gets.{starts_file, unmade_is}
use Rattle.nf_promises.proofs.Returning.{appends_by, takes_output}
use Rattle.nf_promises.proofs.Touches.{closes_only, input_of, judges_only, output_of, passes_only, starts_other}
use Rattle.nf_promises.proofs.Unfailing.{early_whole, piece_wanting, responds_whole, short_whole, stop_whole, not_struck}
use Rattle.nf_promises.specs.Complete.{Completes, IsAnswerOf, IsCutEarly, IsMet, IsMetBy, IsUnrisen, IsWanting, NothingFails, Says, SaysEnd, SaysFile, SaysStored, StaysWhole}
use Rattle.nf_promises.specs.Kept.{invitation}
use Rattle.nf_words.specs.declared.answer.Reply.{Reply}
use Rattle.std.specs.Prelude.{MatchBool}
use Rattle.nf_words.specs.Prelude.{answer_at, answer_to, opened, replay, State}
use Rattle.nf_words.specs.declared.history.Entry.{Entry}
use Rattle.nf_words.specs.declared.history.Event.{Event}
use Rattle.nf_words.specs.declared.history.Mark.{Mark}
use Rattle.nf_words.specs.declared.history.Mark.TheVariants as mark
use Rattle.nf_session.proofs.Moving.{Onward}

answer_known : (a x y b : Book) (now : ℕ) (event : Event) (answer : Answer) → Onward a x → (enters : Enters x y now event answer) → Onward y b
    → answer ≡ answer_to (state_after x enters.others) enters.entry.seat enters.entry.moment enters.entry.event → IsAnswerOf a b event answer
answer_known a x y b now event answer before enters behind is =
    let e = enters.entry in
    let more = behind.known.0 in
    let same : x.known ++ enters.others ≡ a.known ++ (before.known.0 ++ enters.others) =
    ap (λ (z : List Entry). z ++ enters.others) before.known.1 ∙ append_assoc a.known before.known.0 enters.others in
    let state : state_after x enters.others ≡ state_after a (before.known.0 ++ enters.others) =
    λ i. replay (opened (before.lasts.opening i)) (same i) in
    record {
      others = before.known.0 ++ enters.others;
      entry = e;
      more = more;
      known = behind.known.1 ∙ ap (λ (z : List Entry). z ++ more) enters.known ∙ append_assoc (x.known ++ enters.others) (e ∷ []) more
          ∙ ap (λ (z : List Entry). z ++ e ∷ more) same;
      seat_is = enters.seat_is ∙ before.lasts.seat;
      event_is = enters.event_is;
      answer_is = is ∙ ap (λ (s : State). answer_to s e.seat e.moment e.event) state;
    }

module _ {C : Type 0} (a b : Scene C) (nothing : NothingFails a b)
    (whole : StaysWhole a.book) where
  pub step_known : (x y : Scene C) (now : ℕ) (event : Event) (answer : Answer) → Calm a x → Calm y b → Enters x.book y.book now event answer
      → (answer ≡ Err denial.Memory) ⊎ IsAnswerOf a.book b.book event answer
  step_known x y now event answer before behind enters = here enters.entry.mark enters.strikes enters.answer_is
    where
      here : (m : Mark) → Strikes m x.book.strikes y.book.strikes → answer ≡ answer_at (state_after x.book enters.others) enters.entry m
          → (answer ≡ Err denial.Memory) ⊎ IsAnswerOf a.book b.book event answer
      here mark.Answered strikes is = inr (answer_known a.book x.book y.book b.book now event answer before.onward enters behind.onward is)
      here mark.Store struck is = absurd (not_struck a b nothing whole x y before behind struck)
      here mark.Memory strikes is = inl is

  pub begin_known : (y : Scene C) (now : ℕ) (words : Words) (r : Request) (answer : Answer) → Calm y b → Begins a.book y.book now words r answer
      → (answer ≡ Err denial.RunFull) ⊎ (answer ≡ Err denial.Memory) ⊎ IsAnswerOf a.book b.book (Begin words r) answer
  begin_known y now words r answer behind begins = here (is_unmade answer) refl begins.entry
    where
      made : (answer ≡ Err denial.RunFull) ⊎ (answer ≡ Err denial.Memory)
          → (answer ≡ Err denial.RunFull) ⊎ (answer ≡ Err denial.Memory) ⊎ IsAnswerOf a.book b.book (Begin words r) answer
      made (inl full) = inl full
      made (inr memory) = inr (inl memory)

      here : (unmade : Bool) → is_unmade answer ≡ unmade
          → MatchBool unmade (Unchanged a.book y.book) (Enters a.book y.book now (Begin words r) answer)
          → (answer ≡ Err denial.RunFull) ⊎ (answer ≡ Err denial.Memory) ⊎ IsAnswerOf a.book b.book (Begin words r) answer
      here true is passes = made (unmade_is answer is)
      here false is enters = inr (step_known a y now (Begin words r) answer (calm_of (same_goes a a 0 refl)) behind enters)

pub close_is : (last closes : Bool) → (last || is_some (end_of_close (closes || false))) ≡ (last || closes)
close_is true closes = refl
close_is false true = refl
close_is false false = refl

-- what is written of an answer that grants nothing, behind these bytes
abbrev pub SaysWord : {C : Type 0} → List ℕ → Bool → Reply → Scene C → Scene C → Type 0
SaysWord front close reply.Made a b = Appends a.output b.output (front ++ made_reply close)
SaysWord front close reply.Done a b = Appends a.output b.output (front ++ done_reply close)
SaysWord front close (reply.Listing lines) a b = Appends a.output b.output (front ++ listing_reply close lines)
SaysWord front close (reply.Share line) a b = Appends a.output b.output (front ++ share_reply close line)
SaysWord front close (reply.Shares lines) a b = Appends a.output b.output (front ++ shares_reply close lines)
SaysWord front close (reply.Items lines) a b = Appends a.output b.output (front ++ items_reply close lines)
SaysWord front close (reply.Versions lines) a b = Appends a.output b.output (front ++ versions_reply close lines)
SaysWord front close reply.Plain a b = Appends a.output b.output (front ++ plain_reply close)
SaysWord front close reply.Closed a b = ⊥
SaysWord front close (reply.Granted goal) a b = ⊥

-- what was written between two scenes, behind these bytes, is what was between two others
abbrev pub Fronts : {C : Type 0} → List ℕ → Scene C → Scene C → Scene C → Scene C → Type 0
Fronts front x y a b = (bytes : List ℕ) → Appends x.output y.output bytes → Appends a.output b.output (front ++ bytes)

pub word_written : {C : Type 0} (front : List ℕ) (close last : Bool) (way : Way) (answered : Reply) (v : Response) (a x y b : Scene C)
    → (last || is_some (end_of_close way.closes)) ≡ close → Fronts front x y a b → IsResponse (Ok answered) v
    → Writes {T = Unit {0}} (manner_of last way v) v x y (Ok tt) → SaysWord front close answered a b
word_written {C} front close last way answered v a x y b closes fronts is writes = here answered is
  where
    so : (w : Response) → v ≡ w → Writes {T = Unit {0}} (manner_of last way w) w x y (Ok tt)
    so w is = subst (λ (w : Response). Writes {T = Unit {0}} (manner_of last way w) w x y (Ok tt)) is writes

    here : (answered : Reply) → IsResponse (Ok answered) v → SaysWord front close answered a b
    here reply.Made is = subst (λ (c : Bool). Appends a.output b.output (front ++ made_reply c)) closes (fronts _ (so response.Made is).bytes_are)
    here reply.Done is = subst (λ (c : Bool). Appends a.output b.output (front ++ done_reply c)) closes (fronts _ (so response.Done is).bytes_are)
    here (reply.Listing lines) is =
        subst (λ (c : Bool). Appends a.output b.output (front ++ listing_reply c lines)) closes (fronts _ (so (response.Listing lines) is).bytes_are)
    here (reply.Share line) is =
        subst (λ (c : Bool). Appends a.output b.output (front ++ share_reply c line)) closes (fronts _ (so (response.Share line) is).bytes_are)
    here (reply.Shares lines) is =
        subst (λ (c : Bool). Appends a.output b.output (front ++ shares_reply c lines)) closes (fronts _ (so (response.Shares lines) is).bytes_are)
    here (reply.Items lines) is =
        subst (λ (c : Bool). Appends a.output b.output (front ++ items_reply c lines)) closes (fronts _ (so (response.Items lines) is).bytes_are)
    here (reply.Versions lines) is =
        subst (λ (c : Bool). Appends a.output b.output (front ++ versions_reply c lines)) closes (fronts _ (so (response.Versions lines) is).bytes_are)
    here reply.Plain is = subst (λ (c : Bool). Appends a.output b.output (front ++ plain_reply c)) closes (fronts _ (so response.Plain is).bytes_are)
    here reply.Closed never = absurd never
    here (reply.Granted goal) never = absurd never

pub refusal_written : {C : Type 0} (front : List ℕ) (last : Bool) (way : Way) (refusal : Denial) (v : Response) (a x y b : Scene C)
    → Fronts front x y a b → v ≡ response.Denied refusal → Writes {T = Unit {0}} (manner_of last way v) v x y (Ok tt)
    → (manner : Manner) × Appends a.output b.output (front ++ refusal_reply manner refusal)
refusal_written front last way refusal v a x y b fronts is writes = (
  manner_of last way (response.Denied refusal),
  fronts _ (subst (λ (w : Response). Writes {T = Unit {0}} (manner_of last way w) w x y (Ok tt)) is writes).bytes_are,
)

-- writing takes nothing from the input
pub writes_input : {C : Type 0} (manner : Manner) (v : Response) (a b : Scene C) → Writes {T = Unit {0}} manner v a b (Ok tt) → b.input ≡ a.input
writes_input {C} manner (response.File content first) a b (given, writes, all, unstruck) = ap (λ (x : Scene C). x.input) writes.pieces.only
writes_input {C} manner other a b wrote = ap (λ (x : Scene C). x.input) wrote.only

module _ {C : Type 0} (reads : C → Taken → C → Type 0) (last : Bool) (head : Head) (early : List ℕ) (a b : Scene C) (nothing : NothingFails a b)
    (whole : StaysWhole a.book) where
  -- ---- what was granted

  file_said : (content : List Piece) (v : Response) (end : Option Ended) (x k s : Scene C) → Calm a x → Calm s b → Fronts [] k s a b → StartsFile x k content v
      → Writes {T = Unit {0}} (manner_of last (way_of head (begun.Asked (Ok (reply.Granted (goal.Serve content))))) v) v k s (Ok tt)
      → IsWanting head a b end ⊎ SaysFile (last || closes_session head) content a b
  file_said content (response.File other first) end x k s before behind fronts starts (given, writes, all, calm) =
      let file = starts_file x.book k.book content other first starts.starts in
      let is : other ≡ content = file.0 in
      let started = lasts_then a.book x.book k.book before.onward.lasts file.1 in
      inr (record {
        given = given;
        are_given =
            given_within a.book k.book s.book b.book content given started behind.onward.lasts
            (subst (λ (c : List Piece). AreGiven k.book s.book c given) is writes.pieces.are_given);
        all = all ∙ ap (λ (c : List Piece). length c) is;
        bytes =
            subst (λ (close : Bool). Appends a.output b.output (file_head close (size_of content) ++ concat given)) (close_is last (closes_session head))
            (subst (λ (c : List Piece). Appends a.output b.output (file_head (last || is_some (end_of_close (closes_session head || false))) (size_of c) ++ concat given)) is
            (fronts _ writes.bytes_are));
      })
  file_said content (response.Lost why) end x k s before behind fronts starts wrote =
      inl (inr (
        manner,
        inl (subst (λ (f : PieceFault). Appends a.output b.output (refusal_reply manner (denial_of_piece f)))
            (lost content starts.starts) (fronts _ wrote.bytes_are)),
      ))
    where
      manner : Manner
      manner = manner_of last (way_of head (begun.Asked (Ok (reply.Granted (goal.Serve content))))) (response.Lost why)

      lost : (content : List Piece) → Starts x.book k.book content (response.Lost why) → why ≡ fault.Memory
      lost [] never = absurd never
      lost (piece ∷ pieces) (waits, fails) =
          piece_wanting a b nothing whole x k piece why before (calm_then k s b (calm_of (writes_go _ (response.Lost why) k s wrote)) behind) waits.lasts fails
  file_said content other end x k s before behind fronts starts writes = absurd (starts_other x.book k.book content other starts.starts)

  body_said : (granted : Goal) (size : ℕ) (body : List ℕ) (v : Response) (end : Option Ended) (x k s : Scene C)
      → Calm a x → Calm k b → Fronts (invitation head) k s a b → TakesBody a.input b.input size body → StoresBody reads body x k v
      → Writes {T = Unit {0}} (manner_of last (way_of head (begun.Asked (Ok (reply.Granted granted)))) v) v k s (Ok tt)
      → IsWanting head a b end ⊎ SaysStored head (last || closes_session head) size a b
  body_said granted size body v end x k s before behind fronts takes (now, answer, read, ends, is, only) writes =
      here (step_known a b nothing whole x k now (event_of_body body) answer before behind ends.enters)
    where
      way : Way
      way = way_of head (begun.Asked (Ok (reply.Granted granted)))

      says : (answer : Answer) → IsOfBody answer → IsResponse answer v → SaysEnd head (last || closes_session head) answer a b
      says (Err refusal) of is = refusal_written (invitation head) last way refusal v a k s b fronts is writes
      says (Ok reply.Closed) never is = absurd never
      says (Ok (reply.Granted goal)) never is = absurd never
      says (Ok (reply.Listing lines)) never is = absurd never
      says (Ok (reply.Share line)) never is = absurd never
      says (Ok (reply.Shares lines)) never is = absurd never
      says (Ok (reply.Items lines)) never is = absurd never
      says (Ok (reply.Versions lines)) never is = absurd never
      says (Ok reply.Plain) never is = absurd never
      says (Ok word) of is =
          word_written (invitation head) (last || closes_session head) last way word v a k s b (close_is last (closes_session head)) fronts is writes

      here : (answer ≡ Err denial.Memory) ⊎ IsAnswerOf a.book b.book (event_of_body body) answer
          → IsWanting head a b end ⊎ SaysStored head (last || closes_session head) size a b
      here (inl memory) =
          let refused = refusal_written (invitation head) last way denial.Memory v a k s b fronts
          (subst (λ (z : Answer). IsResponse z v) memory is) writes in
          inl (inr (refused.0, inr refused.1))
      here (inr answers) = inr (record { body = body; taken = takes; answer = answer; answers = answers; says = says answer ends.answered is })

  -- ---- what was begun

  answer_said : (answer : Answer) (v : Response) (end : Option Ended) (x k s : Scene C) (body : List ℕ) → Calm a x → Calm k b → Calm s b
      → Fronts (invited_bytes head (begun.Asked answer)) k s a b → TakesBody a.input b.input (taken_length head (begun.Asked answer)) body
      → Passes reads body x k (begun.Asked answer) v → Writes {T = Unit {0}} (manner_of last (way_of head (begun.Asked answer)) v) v k s (Ok tt)
      → IsWanting head a b end ⊎ Says head (last || closes_session head) answer a b
  answer_said (Ok reply.Closed) v end x k s body before taken sent fronts takes (never, same) writes = absurd never
  answer_said (Ok (reply.Granted (goal.Serve content))) v end x k s body before taken sent fronts takes starts writes =
      file_said content v end x k s before sent fronts starts writes
  answer_said (Ok (reply.Granted (goal.Store by key size))) v end x k s body before taken sent fronts takes stores writes =
      body_said (goal.Store by key size) size body v end x k s before taken fronts takes stores writes
  answer_said (Ok (reply.Granted (goal.Chunk user dir number size))) v end x k s body before taken sent fronts takes stores writes =
      body_said (goal.Chunk user dir number size) size body v end x k s before taken fronts takes stores writes
  answer_said (Err refusal) v end x k s body before taken sent fronts takes (is, same) writes =
      inr (refusal_written [] last (way_of head (begun.Asked (Err refusal))) refusal v a k s b fronts is writes)
  answer_said (Ok word) v end x k s body before taken sent fronts takes passes writes =
      inr (word_written [] (last || closes_session head) last (way_of head (begun.Asked (Ok word))) word v a k s b
      (close_is last (closes_session head)) fronts passes.0 writes)

  -- it found the run full, or was met
  begun_met : (r : Request) (u : Begun) (v : Response) (end : Option Ended) (n x k s : Scene C) (body : List ℕ) → request_of head early ≡ Ok r
      → Judges reads head early a n u → Calm a x → Calm n b → Calm k b → Calm s b → Fronts (invited_bytes head u) k s a b
      → TakesBody a.input b.input (taken_length head u) body → Passes reads body x k u v → Writes {T = Unit {0}} (manner_of last (way_of head u) v) v k s (Ok tt)
      → (v ≡ response.Denied denial.RunFull) ⊎ IsMet last head r a b end
  begun_met r (begun.Unasked refusal) v end n x k s body asked (inl refused, same) before judged taken sent fronts takes passes writes = absurd (cc)
  begun_met r (begun.Unasked refusal) v end n x k s body asked (inr memory, same) before judged taken sent fronts takes (is, kept) writes =
      let refused = refusal_written [] last (way_of head (begun.Unasked refusal)) denial.Memory v a k s b fronts (is ∙ ap response.Denied memory) writes in
      inr (inl (inr (refused.0, inl refused.1)))
  begun_met r (begun.Asked answer) v end n x k s body asked (other, now, words, is, read, begins, only) before judged taken sent fronts takes passes writes =
      let same : other ≡ r = cc in
      here (begin_known a b nothing whole n now words r answer judged (subst (λ (q : Request). Begins a.book n.book now words q answer) same begins))
    where
      refused : (refusal : Denial) → answer ≡ Err refusal → v ≡ response.Denied refusal
      refused refusal is = (subst (λ (z : Answer). Passes reads body x k (begun.Asked z) v) is passes).0

      here : (answer ≡ Err denial.RunFull) ⊎ (answer ≡ Err denial.Memory) ⊎ IsAnswerOf a.book b.book (Begin words r) answer
          → (v ≡ response.Denied denial.RunFull) ⊎ IsMet last head r a b end
      here (inl full) = inl (refused denial.RunFull full)
      here (inr (inl memory)) =
          let front : Fronts [] k s a b = subst (λ (z : Answer). Fronts (invited_bytes head (begun.Asked z)) k s a b) memory fronts in
          let written = refusal_written [] last (way_of head (begun.Asked answer)) denial.Memory v a k s b front (refused denial.Memory memory) writes in
          inr (inl (inr (written.0, inl written.1)))
      here (inr (inr answers)) = inr (said (answer_said answer v end x k s body before taken sent fronts takes passes writes))
        where
          said : IsWanting head a b end ⊎ Says head (last || closes_session head) answer a b → IsMet last head r a b end
          said (inl wanting) = inl wanting
          said (inr says) = inr (inr (inr (answer, words, answers, says)))

  -- ---- the message

  answers_met : (r : Request) (u : Begun) (n t : Scene C) (end : Option Ended) → request_of head early ≡ Ok r → Judges reads head early a n u
      → Invites {T = Unit {0}} head u n t (Ok tt) → Answers reads last head u t b end → IsMet last head r a b end
  answers_met r u n t end asked judges invites answers =
      here (responds_whole a b nothing whole last (way_of head u) v k s answers.result (calm_then a x k before passed) sent answers.responds)
    where
      v : Response
      v = answers.response

      x : Scene C
      x = answers.takes.0

      k : Scene C
      k = answers.taken

      s : Scene C
      s = answers.sent

      told : Calm n x
      told = calm_of (goes_then (invites_go head u n t invites) (bodies_go t x (taken_length head u) answers.takes.1 answers.takes.2))

      before : Calm a x
      before = calm_then a n x (calm_of (judges_go reads head early a n u judges)) told

      passed : Calm x k
      passed = calm_of (passes_go reads answers.takes.1 x k u v answers.takes.3)

      sent : Calm s b
      sent = calm_of (closes_go reads (how_of v answers.result) (stays_granted v) s b answers.closes)

      fronts : Fronts (invited_bytes head u) k s a b
      fronts bytes is =
          Appends-trans a.output t.output b.output (invited_bytes head u) bytes
          (appends_by a.output t.output n.output t.output (invited_bytes head u) (output_of a n (judges_only reads head early a n u judges)) refl
          (invites_wrote head u n t (Unit {0}) tt invites).bytes_are)
          (appends_by t.output b.output k.output s.output bytes (takes_output reads head t k u v answers.takes)
          (sym (output_of s b (closes_only reads (how_of v answers.result) (stays_granted v) s b answers.closes))) is)

      -- nothing else is taken from the input
      takes : s.input ≡ k.input → TakesBody a.input b.input (taken_length head u) answers.takes.1
      takes kept =
          let came : t.input ≡ a.input =
          ap (λ (y : Scene C). y.input) (invites_wrote head u n t (Unit {0}) tt invites).only ∙ input_of a n (judges_only reads head early a n u judges) in
          let went : b.input ≡ x.input =
          input_of s b (closes_only reads (how_of v answers.result) (stays_granted v) s b answers.closes) ∙ kept
          ∙ input_of x k (passes_only reads answers.takes.1 x k u v answers.takes.3) in
          subst (λ (o : Option (List ℕ)). TakesBody o b.input (taken_length head u) answers.takes.1) came
          (subst (λ (o : Option (List ℕ)). TakesBody t.input o (taken_length head u) answers.takes.1) (sym went) answers.takes.2.taken)

      met : (end ≡ end_of (way_of head u).closes v) → (v ≡ response.Denied denial.RunFull) ⊎ IsMet last head r a b end → IsMet last head r a b end
      met ends (inl full) =
          let is : end ≡ Some ended.RunFull = ends ∙ ap (end_of (way_of head u).closes) full in
          inr (inl (is, answers_full reads last head early u a n t b judges invites (subst (λ (e : Option Ended). Answers reads last head u t b e) is answers)))
      met ends (inr so) = so

      here : (end_by answers.result ≡ Some ended.Memory)
          ⊎ ((end_by answers.result ≡ end_of (way_of head u).closes v) × Writes {T = Unit {0}} (manner_of last (way_of head u) v) v k s (Ok tt))
          → IsMet last head r a b end
      here (inl memory) = inl (inl (answers.ends ∙ memory))
      here (inr (is, writes)) =
          let taken = calm_then k s b (calm_of (writes_go (manner_of last (way_of head u) v) v k s writes)) sent in
          met (answers.ends ∙ is) (begun_met r u v end n x k s answers.takes.1 asked judges before (calm_then n x b told (calm_then x k b passed taken)) taken sent
          fronts (takes (writes_input (manner_of last (way_of head u) v) v k s writes)) answers.takes.3 writes)

  meets_met : (r : Request) (end : Option Ended) → request_of head early ≡ Ok r → MeetsWith reads last head early a b end → IsMet last head r a b end
  meets_met r end asked (n, u, judges, inl stops) =
      inl (inl (stop_whole a b nothing whole reads head u n end (calm_of (judges_go reads head early a n u judges)) stops))
  meets_met r end asked (n, u, judges, inr (t, invites, inl answers)) = answers_met r u n t end asked judges invites answers
  meets_met r end asked (n, u, judges, inr (t, invites, inr cuts)) =
      here (short_whole a b nothing whole reads head u t end
      (calm_of (goes_then (judges_go reads head early a n u judges) (invites_go head u n t invites))) cuts)
    where
      here : (end ≡ Some ended.Memory) ⊎ (end ≡ Some ended.BadMessage) → IsMet last head r a b end
      here (inl memory) = inl (inl memory)
      here (inr cut) = inr (inr (inl cut))

-- nothing fails from a later scene on either
later_nothing : {C : Type 0} (a m b : Scene C) → Calm a m → m.book ≡ a.book → NothingFails a b → NothingFails m b
later_nothing a m b calm book nothing = record {
  store = subst (λ (x : Book). IsUnrisen x.strikes b.book.strikes) (sym book) nothing.store;
  read = subst (λ (n : ℕ). IsUnrisen n b.read_faults) (sym calm.read) nothing.read;
  write = subst (λ (n : ℕ). IsUnrisen n b.write_faults) (sym calm.write) nothing.write;
}

pub completes : {C : Type 0} (reads : C → Taken → C → Type 0) → Completes reads
completes {C} reads last a m b head end heads meets nothing whole = here meets
  where
    book : m.book ≡ a.book
    book = ap (λ (x : Scene C). x.book) heads.only

    calm : Calm a m
    calm = calm_of (heads_go a m 0 (Some head) heads)

    still : NothingFails m b
    still = later_nothing a m b calm book nothing

    here : Meets reads last head m b end → IsMetBy last head m b end ⊎ IsCutEarly head end
    here (inl cut) = inr (cut.takes.0, early_whole a b nothing whole head m end calm cut)
    here (inr (t, body, takes, meets)) =
        let same : t.book ≡ m.book = early_book head m t body takes in
        inl (record {
          body = body;
          taken = t;
          takes = takes;
          met = λ r asked.
              meets_met reads last head body t b (later_nothing m t b (calm_of (early_goes head m t body takes)) same still)
              (subst (λ (x : Book). StaysWhole x) (sym (same ∙ book)) whole) r end asked meets;
        })
