-- What a PUT that was stored makes of the state, and of a GET of its path behind it.
use Rattle.std.proofs.Common.{ℕ, ◌-◌, ◌≡◌, ◌&&◌, ◌||◌, false, true, List, [], ◌∷◌, ◌++◌, length, Option, None, Some, Result, Ok, is_some, slice_get, unwrap_or, get_or, if◌then◌else◌, refl, sym, ap, subst, ◌∙◌, arith, length-append}
use Rattle.std.specs.Prelude.{IsOk, bytes_eq}
use Rattle.std.specs.List.{list_all}
use Rattle.std.specs.Option.{option_and_then, option_map_or}
use Rattle.std.proofs.Math.Seq.{get_or-append_seam}
use Rattle.std.proofs.lemmas.List.{append-nil}
use Rattle.std.proofs.lemmas.Option.{unwrap_or-slice_get}
use Rattle.sha2.specs.Sha256.{sha256}
use Rattle.nf_base.specs.declared.content.Piece.{Piece}
use Rattle.nf_base.specs.declared.rows.UserRow.{UserRow}
use Rattle.nf_defs.specs.Prelude.{Access, found_from, holder_of, Leads, Tables, user_row}
use Rattle.nf_defs.specs.declared.Found.{Found}
use Rattle.nf_defs.specs.declared.Found.TheVariants.{At, Free, Missing}
use Rattle.nf_laws.proofs.Allowing.{changes_allowed, end_allowed}
use Rattle.nf_laws.proofs.Paths.{found_free, found_leads}
use Rattle.nf_laws.proofs.Reading.{stored_free, stored_is_read}
use Rattle.nf_laws.proofs.Stays.{sound_after}
use Rattle.nf_laws.specs.Reads.{IsFreeToRead, IsLetRead, IsReadBy, IsStored, LeadsToKey}
use Rattle.nf_words.proofs.Passing.{Passes, call_passes}
use Rattle.nf_words.proofs.Starts.{no_link_shown, none_unlinked, unlinked_root}
use Rattle.nf_words.proofs.Steps.{granted_step, reports_nothing}
use Rattle.nf_words.specs.Prelude.{access_of, after, after_mark, answer_at, answer_to, answered_by, AreSound, blob_by, blob_for, blob_of, blob_to, by_of, call_of, content_in, decided, decision_of, end_refusal, ends_at, forbidden_rule, found, goal_at, is_by_link, is_caller, IsSound, last_name, MayAsk, MayCome, named_in, not_you_rule, refusal_of, reply_to, root_of, seeker_of, State, way_by, step, stored, stored_at, stores, token_rule, unless_refused}
use Rattle.nf_words.specs.Calls.{caller_of}
use Rattle.nf_words.specs.Reached.{unlinked_by}
use Rattle.nf_words.specs.declared.answer.Allowed.{Allowed}
use Rattle.nf_words.specs.declared.answer.Allowed.TheVariants as allowed
use Rattle.nf_words.specs.declared.answer.By.{By}
use Rattle.nf_words.specs.declared.answer.Denial.{Denial}
use Rattle.nf_words.specs.declared.answer.Denial.TheVariants as denial
use Rattle.nf_words.specs.declared.answer.Goal.TheVariants.{Chunk, Serve, Store}
use Rattle.nf_words.specs.declared.answer.LockKey.{LockKey}
use Rattle.nf_words.specs.declared.answer.LockKey.TheVariants.{Node, Slot}
use Rattle.nf_words.specs.declared.answer.Reply.{Reply}
use Rattle.nf_words.specs.declared.answer.Reply.TheVariants.{Made, Done, Closed, Granted, Items, Listing, Share, Shares, Plain, Versions}
use Rattle.nf_words.specs.declared.history.Entry.{Entry}
use Rattle.nf_words.specs.declared.history.Event.{Event}
use Rattle.nf_words.specs.declared.history.Event.TheVariants.{Begin}
use Rattle.nf_words.specs.declared.history.Mark.{Mark}
use Rattle.nf_words.specs.declared.history.Mark.TheVariants as mark
use Rattle.nf_words.specs.declared.history.Outcome.TheVariants.{Body}
use Rattle.nf_words.specs.declared.request.Caller.{Caller}
use Rattle.nf_words.specs.declared.request.Caller.TheVariants.{Absent, Link, Token}
use Rattle.nf_words.specs.declared.request.Spot.{Spot}
use Rattle.nf_words.specs.declared.request.Words.{Words}
use Rattle.nf_session.specs.Book.{event_of_body}
use Rattle.nf_promises.specs.Kept.{get_of, GoesByNoMount, put_of}

-- ---- marks

-- what was answered with Ok was marked so
pub ok_marked : (s : State) (e : Entry) → IsOk (answer_at s e e.mark) → e.mark ≡ mark.Answered
ok_marked s e ok = here e.mark ok
  where
    here : (m : Mark) → IsOk (answer_at s e m) → m ≡ mark.Answered
    here mark.Answered ok = refl
    here mark.Store ok = absurd (cc)
    here mark.Memory ok = absurd (cc)

pub ok_answer : (s : State) (e : Entry) (event : Event) (r : Reply) → e.event ≡ event → answer_at s e e.mark ≡ Ok r
    → (e.mark ≡ mark.Answered) × (answer_to s e.seat e.moment event ≡ Ok r)
ok_answer s e event r event_is is =
    let marked = ok_marked s e (subst (λ (a : Result Reply Denial). IsOk a) (sym is) refl) in
    (marked, ap (answer_to s e.seat e.moment) (sym event_is) ∙ ap (answer_at s e) (sym marked) ∙ is)

-- ---- the Begin of a PUT

put_only : (d : Result Allowed Denial) (by : By) (key : LockKey) (size : ℕ) → answered_by d ≡ Ok (Granted (Store by key size))
    → d ≡ Ok (allowed.Put by key size)
put_only (Ok (allowed.Put who at length)) by key size is = cc
put_only (Ok (allowed.Change changes blob report)) by key size is = absurd (reports_nothing report (Store by key size) (cc))
put_only (Ok (allowed.Deeds deeds report)) by key size is = absurd (reports_nothing report (Store by key size) (cc))
put_only other by key size is = absurd (cc)

-- the answers of a PUT's Begin, but for refusals
abbrev pub IsOfPut : Reply → Type 0
IsOfPut (Granted (Serve content)) = Unit {0}
IsOfPut (Granted (Store by key length)) = Unit {0}
IsOfPut (Granted (Chunk user dir number length)) = ⊥
IsOfPut Closed = Unit {0}
IsOfPut Made = ⊥
IsOfPut Done = ⊥
IsOfPut (Listing lines) = ⊥
IsOfPut (Share line) = ⊥
IsOfPut (Shares lines) = ⊥
IsOfPut (Items lines) = ⊥
IsOfPut (Versions lines) = ⊥
IsOfPut Plain = ⊥

stored_replies : (by : By) (name : List ℕ) (n : ℕ) (place : Found) → IsOfPut (reply_to (stored by name n (Some place)))
stored_replies by name n (At node) = tt
stored_replies by name n (Free folder) = tt
stored_replies by name n (Missing depth) = tt

not_refused : (o : Option Denial) (act : Allowed) (r : Reply) → answered_by (unless_refused o act) ≡ Ok r → reply_to act ≡ r
not_refused None act r is = cc
not_refused (Some refusal) act r is = absurd (cc)

pub put_replies : (s : State) (seat now : ℕ) (words : Words) (caller : Caller) (spot : Spot) (n : ℕ) (r : Reply)
    → answer_to s seat now (Begin words (put_of caller spot n)) ≡ Ok r → IsOfPut r
put_replies s seat now words caller spot n r is =
    let call = call_of s seat now words (put_of caller spot n) in
    let act : Allowed = stored (by_of call spot) (last_name spot) n (Some (found call spot)) in
    subst (λ (r : Reply). IsOfPut r) (not_refused (refusal_of (access_of s) call) act r is)
    (stored_replies (by_of call spot) (last_name spot) n (found call spot))

stored_size : (who : By) (name : List ℕ) (n : ℕ) (place : Found) (by : By) (key : LockKey) (size : ℕ)
    → stored who name n (Some place) ≡ allowed.Put by key size → n ≡ size
stored_size who name n (At node) by key size is = cc
stored_size who name n (Free folder) by key size is = cc
stored_size who name n (Missing depth) by key size is = absurd (cc)

-- what it is granted has the length that it asked for
pub put_size : (s : State) (seat now : ℕ) (words : Words) (caller : Caller) (spot : Spot) (n : ℕ) (by : By) (key : LockKey) (size : ℕ)
    → answer_to s seat now (Begin words (put_of caller spot n)) ≡ Ok (Granted (Store by key size)) → n ≡ size
put_size s seat now words caller spot n by key size is =
    let call = call_of s seat now words (put_of caller spot n) in
    let decides = put_only (decision_of s seat now (Begin words (put_of caller spot n))) by key size is in
    stored_size (by_of call spot) (last_name spot) n (found call spot) by key size
    (call_passes call (allowed.Put by key size) decides).1

last_is : (front : List (List ℕ)) (last : List ℕ) → unwrap_or (slice_get (front ++ last ∷ []) (length (front ++ last ∷ []) - 1)) [] ≡ last
last_is front last =
    let names : List (List ℕ) = front ++ last ∷ [] in
    let at : length names - 1 ≡ length front = omega (arith, length-append front (last ∷ [])) in
    unwrap_or-slice_get names (length names - 1) [] ∙ ap (λ (n : ℕ). get_or names n []) at ∙ get_or-append_seam front last [] []

put_key : (t : Tables) (root n : ℕ) (spot : Spot) (place : Found) (who by : By) (key : LockKey) (size : ℕ) → AreSound t
    → found_from t.nodes 0 root spot.path ≡ place
    → stored who (last_name spot) n (Some place) ≡ allowed.Put by key size → LeadsToKey t.nodes root spot.path key
put_key t root n spot (At node) who by key size sound at is =
    let same : Node node ≡ key = cc in
    subst (λ (k : LockKey). LeadsToKey t.nodes root spot.path k) same (found_leads t root spot.path node sound at)
put_key t root n spot (Free folder) who by key size sound at is =
    let same : Slot folder (last_name spot) ≡ key = cc in
    let free = found_free t root spot.path folder sound at in
    let named : last_name spot ≡ free.last =
    ap (λ (path : List (List ℕ)). unwrap_or (slice_get path (length path - 1)) []) free.parts ∙ last_is free.front free.last in
    subst (λ (k : LockKey). LeadsToKey t.nodes root spot.path k) same
    (free.front, free.parts ∙ ap (λ (l : List ℕ). free.front ++ l ∷ []) (sym named), free.led)
put_key t root n spot (Missing depth) who by key size sound at is = absurd (cc)

-- what a Begin that is granted leaves
record PutGranted (s : State) (e : Entry) (words : Words) (caller : Caller) (spot : Spot) (n : ℕ) (by : By) (key : LockKey) (size : ℕ) : Type 0 where
  tables : (after s e).tables ≡ s.tables
  goal : goal_at (after s e) e.seat ≡ Some (Store by key size)
  led : LeadsToKey s.tables.nodes (root_of (call_of s e.seat e.moment words (put_of caller spot n))) spot.path key
  passes : Passes (access_of s) (call_of s e.seat e.moment words (put_of caller spot n))

put_granted : (count : ℕ) (s : State) (e : Entry) (words : Words) (caller : Caller) (spot : Spot) (n : ℕ) (by : By) (key : LockKey) (size : ℕ)
    → IsSound s → GoesByNoMount s caller spot → MayCome count s e → e.event ≡ Begin words (put_of caller spot n)
    → answer_at s e e.mark ≡ Ok (Granted (Store by key size)) → PutGranted s e words caller spot n by key size
put_granted count s e words caller spot n by key size sound own may event_is is =
    let event : Event = Begin words (put_of caller spot n) in
    let call = call_of s e.seat e.moment words (put_of caller spot n) in
    let act : Allowed = allowed.Put by key size in
    let h = ok_answer s e event (Granted (Store by key size)) event_is is in
    let decides : decision_of s e.seat e.moment event ≡ Ok act = put_only (decision_of s e.seat e.moment event) by key size h.1 in
    let passes = call_passes call act decides in
    let becomes : after s e ≡ step s e.seat e.moment event = ap (after_mark s e) h.0 ∙ ap (step s e.seat e.moment) event_is in
    let asked : MayAsk s e.seat event = subst (λ (ev : Event). MayAsk s e.seat ev) event_is may.asked in
    record {
      tables = ap (λ (x : State). x.tables) becomes ∙ ap (λ (d : Result Allowed Denial). (decided s e.seat e.moment d).tables) decides;
      goal = ap (λ (x : State). goal_at x e.seat) becomes ∙ granted_step s e.seat e.moment event (Store by key size) asked.0 h.1;
      led = put_key s.tables (root_of call) n spot (found call spot) (by_of call spot) by key size sound.rows
          (sym (ap (λ (mount : Option ℕ). (way_by s.tables.nodes (seeker_of call) (root_of call) spot.path mount).place) own)) passes.1;
      passes = passes.0;
    }

-- ---- the End of its body

stored_blob : (t : Tables) (now : ℕ) (key : LockKey) (digest : List ℕ) (size : ℕ)
    → blob_of (stored_at t now key digest size) ≡ blob_for t.meta.next_blob size
stored_blob t now (Node node) digest size = refl
stored_blob t now (Slot folder name) digest size = refl

stores_blob : (access : Access) (t : Tables) (now : ℕ) (by : By) (key : LockKey) (digest : List ℕ) (size : ℕ)
    → IsOk (answered_by (stores access t now by key digest size))
    → blob_by (stores access t now by key digest size) ≡ blob_for t.meta.next_blob size
stores_blob access t now by key digest size ok = here (end_refusal access t now by key size) ok
  where
    here : (o : Option Denial) → IsOk (answered_by (unless_refused o (stored_at t now key digest size)))
        → blob_by (unless_refused o (stored_at t now key digest size)) ≡ blob_for t.meta.next_blob size
    here None ok = stored_blob t now key digest size
    here (Some refusal) ok = absurd (cc)

-- ---- the GET

callers_same : (a b : State) (caller : Caller) → b.tables.tokens ≡ a.tables.tokens → caller_of b caller ≡ caller_of a caller
callers_same a b Absent same = refl
callers_same a b (Token digest) same = λ i. holder_of (same i) digest
callers_same a b (Link token) same = refl

-- who asks by no link needs none
none_linked : (s : State) (caller : Caller) → is_by_link caller ≡ false → unlinked_by s caller ≡ None
none_linked s Absent other = refl
none_linked s (Token digest) other = refl
none_linked s (Link token) other = absurd (cc)

get_reads : (a b : State) (seat now : ℕ) (words : Words) (caller : Caller) (spot : Spot) (n later moment : ℕ) (others : Words)
    → is_by_link caller ≡ false → b.tables.users ≡ a.tables.users → b.tables.tokens ≡ a.tables.tokens
    → Passes (access_of a) (call_of a seat now words (put_of caller spot n))
    → ((node : ℕ) → Leads b.tables.nodes (root_of (call_of a seat now words (put_of caller spot n))) spot.path node → IsFreeToRead b later node)
    → IsReadBy b later moment others (get_of caller spot) (root_of (call_of a seat now words (put_of caller spot n))) spot.path
unfolding token_rule not_you_rule forbidden_rule
get_reads a b seat now words caller spot n later moment others other users tokens passes free =
    let who : caller_of b caller ≡ caller_of a caller = callers_same a b caller tokens in
    let row : option_and_then (user_row b.tables.users) (caller_of b caller) ≡ option_and_then (user_row a.tables.users) (caller_of a caller) =
    λ i. option_and_then (user_row (users i)) (who i) in
    let before = call_of a seat now words (put_of caller spot n) in
    let behind = call_of b later moment others (get_of caller spot) in
    let token : token_rule (access_of b) behind ≡ token_rule (access_of a) before =
    ap (λ (o : Option UserRow). if is_some o || (is_by_link caller && true) then None else Some denial.Token) row in
    let not_you : not_you_rule (access_of b) behind ≡ not_you_rule (access_of a) before =
    ap (λ (names : List (List ℕ)). if list_all (is_caller behind) names && true then None else Some denial.NotYou) (append-nil (named_in spot.user))
    ∙ ap (λ (o : Option UserRow).
    if list_all (λ name. option_map_or (λ row. bytes_eq row.name name) o false) (named_in spot.user) && true
    then None else Some denial.NotYou) row in
    record {
      spot = spot;
      wanted = refl;
      of_path = refl;
      from = unlinked_root behind other ∙ ap (λ (o : Option UserRow). option_map_or (λ row. row.root) o 0) row ∙ sym (unlinked_root before other);
      asked = record {
        token = token ∙ passes.token;
        not_you = not_you ∙ passes.not_you;
        forbidden = passes.forbidden;
        linked = none_linked b caller other;
      };
      reads = subst (IsLetRead behind) (sym (no_link_shown behind other)) tt;
      free = free;
    }

-- ---- both

-- the content of a body that was stored in a state
abbrev pub content_of_body : State → List ℕ → List Piece
content_of_body s body = content_in (blob_for s.tables.meta.next_blob (length body)) (sha256 body) (length body)

-- what is got behind the entry that stored a body, and where its bytes are
pub record IsGot (s : State) (e : Entry) (caller : Caller) (spot : Spot) (body : List ℕ) : Type 0 where
  pub got : (seat now : ℕ) (words : Words)
      → answer_to (after s e) seat now (Begin words (get_of caller spot)) ≡ Ok (Granted (Serve (content_of_body s body)))
  pub blob : blob_to s e.seat e.moment e.event ≡ blob_for s.tables.meta.next_blob (length body)

pub put_is_got : (count more : ℕ) (s : State) (first second : Entry) (words : Words) (caller : Caller) (spot : Spot) (n : ℕ)
    (by : By) (key : LockKey) (size : ℕ) (body : List ℕ) → IsSound s → GoesByNoMount s caller spot
    → MayCome count s first → first.event ≡ Begin words (put_of caller spot n)
    → answer_at s first first.mark ≡ Ok (Granted (Store by key size))
    → MayCome more (after s first) second → second.event ≡ event_of_body body → second.seat ≡ first.seat
    → IsOk (answer_at (after s first) second second.mark) → length body ≡ size → IsGot (after s first) second caller spot body
put_is_got count more s first second words caller spot n by key size body sound own may_first event_first granted_is may event seat ok long =
    let middle = after s first in
    let t = middle.tables in
    let root = root_of (call_of s first.seat first.moment words (put_of caller spot n)) in
    let granted = put_granted count s first words caller spot n by key size sound own may_first event_first granted_is in
    let sound_middle : IsSound middle = sound_after count s first sound may_first in
    let goal : goal_at middle second.seat ≡ Some (Store by key (length body)) =
    ap (goal_at middle) seat ∙ granted.goal ∙ ap (λ (l : ℕ). Some (Store by key l)) (sym long) in
    let changes =
    end_allowed middle second (after middle second).tables (Body (sha256 body) (length body)) event (λ user dir number length is. cc)
    (changes_allowed more middle second sound_middle may) in
    let marked : second.mark ≡ mark.Answered = ok_marked middle second ok in
    let accepted : IsOk (answer_to middle second.seat second.moment second.event) =
    subst (λ (m : Mark). IsOk (answer_at middle second m)) marked ok in
    let goes : decision_of middle second.seat second.moment second.event ≡ stores (access_of middle) t second.moment by key (sha256 body) (length body) =
    ap (decision_of middle second.seat second.moment) event
    ∙ ap (ends_at (access_of middle) t second.moment (Body (sha256 body) (length body))) goal in
    let is_stored : IsStored more middle second root spot.path (content_of_body middle body) = record {
      sound = sound_middle;
      may = may;
      answered = marked;
      by = by;
      key = key;
      size = length body;
      digest = sha256 body;
      granted = goal;
      brought = event;
      accepted = accepted;
      led = subst (λ (u : Tables). LeadsToKey u.nodes root spot.path key) (sym granted.tables) granted.led;
      body = refl;
    } in
    let users = ap (λ (u : Tables). u.users) changes.rest ∙ ap (λ (u : Tables). u.users) granted.tables in
    let tokens = ap (λ (u : Tables). u.tokens) changes.rest ∙ ap (λ (u : Tables). u.tokens) granted.tables in
    record {
      got = λ later moment others. stored_is_read more middle second [] root spot.path (content_of_body middle body) later moment others (get_of caller spot)
          is_stored tt (λ k node few led. refl)
          (get_reads s (after middle second) first.seat first.moment words caller spot n later moment others
          (none_unlinked (call_of s first.seat first.moment words (put_of caller spot n)) spot own) users tokens granted.passes
          (λ node. stored_free more middle second root spot.path (content_of_body middle body) is_stored node later));
      blob = ap blob_by goes ∙ stores_blob (access_of middle) t second.moment by key (sha256 body) (length body)
          (subst (λ (d : Result Allowed Denial). IsOk (answered_by d)) goes accepted);
    }
