-- A turn and a session, from what their parts ensure.
use Rattle.std.proofs.Common.{◌≡◌, ℕ, ◌<◌, ◌+◌, ◌-◌, List, [], ◌∷◌, ◌++◌, refl, sym, ◌∙◌, ap, subst, inl, inr, arith, length, length-append, Result, Ok, Err}
use Rattle.std.proofs.lemmas.Bool.Decides.{nat_tests}
use Rattle.std.specs.Prelude.{Bool, true, false, ◌||◌, ◌==◌, Option, None, Some, IfOk, OnErr}
use Rattle.nf_base.specs.declared.limits.TheConstants.{MAX_MESSAGES}
use Rattle.nf_http.specs.Head.{Head, closes_session}
use Rattle.nf_http.specs.declared.wire.WireFault.{WireFault}
use Rattle.nf_outside.specs.Lent.{Taken}
use Rattle.nf_session.specs.Prelude.{Answers, Closes, CutsEarly, CutsShort, end_by, EndsBy, Heads, how_of, Invites, is_granted, is_unsent, Judges, Meets, MeetsWith, Responds, Says, Scene, Sends, Session, stays_granted, StopsShort, TakesEarly, TakesIn, Through, Turn, WrotePart}
use Rattle.nf_session.specs.Turn.{way_by}
use Rattle.nf_session.specs.declared.backend.Ending.{Ending}
use Rattle.nf_session.specs.declared.backend.Ending.TheVariants as ending
use Rattle.nf_session.specs.declared.begun.Begun.{Begun}
use Rattle.nf_session.specs.declared.response.Response.{Response}
use Rattle.nf_session.specs.declared.ended.Ended.{Ended}
use Rattle.nf_session.specs.declared.ended.Ended.TheVariants as ended

-- ---- an answer that may find no memory

-- what isn't written was kept back by the output alone
pub sends_failed : {C : Type 0} (T : Type 0) (a b : Scene C) (bytes : List ℕ) (by : Ended) → Sends {T = T} a b bytes (Err by)
    → (by ≡ ended.WriteFault) × WrotePart a b bytes
sends_failed T a b bytes ended.WriteFault part = (refl, part)
sends_failed T a b bytes other sends = absurd sends

pub sends_says : {C T : Type 0} (a b : Scene C) (bytes : List ℕ) (result : Result T Ended) → Sends a b bytes result → Says a b bytes result
sends_says a b bytes (Ok sent) sends = sends
sends_says {C} {T} a b bytes (Err by) sends =
    let p = sends_failed T a b bytes by sends in subst (λ (z : Ended). Says {T = T} a b bytes (Err z)) (sym p.0) p.1

pub says_so : {C T V E : Type 0} (a b : Scene C) (items : V → List ℕ) (want : List ℕ) (made : Result V E) (result : Result T Ended)
    → IfOk made (λ v. items v ≡ want) → IfOk made (λ v. Sends a b (items v) result)
    → OnErr made ((result ≡ Err ended.Memory) × (b ≡ a)) → Says a b want result
says_so a b items want (Ok v) result is sends none =
    sends_says a b want result (subst (λ (z : List ℕ). Sends a b z result) is sends)
says_so {C} {T} a b items want (Err e) result is sends none =
    subst (λ (z : Result T Ended). Says a b want z) (sym none.0) none.1

-- ---- a message

-- its sender couldn't be told
pub meets_stopped : {C : Type 0} (reads : C → Taken → C → Type 0) (last : Bool) (head : Head) (body : List ℕ) (a m n b : Scene C) (begun : Begun)
    (by : Ended) (granted : Bool) → Judges reads head body a m begun → Invites {T = Unit {0}} head begun m n (Err by)
    → granted ≡ is_granted begun → Closes reads ending.Gone granted n b → MeetsWith reads last head body a b (Some by)
meets_stopped reads last head body a m n b begun by granted judged invites granted_is closed =
    let stops : StopsShort reads head begun m b (Some by) = record {
      sent = n;
      by = by;
      invites = invites;
      closes = subst (λ (z : Bool). Closes reads ending.Gone z n b) granted_is closed;
      ends = refl;
    } in
    (m, begun, judged, inl stops)

module _ {C : Type 0} (reads : C → Taken → C → Type 0) (last : Bool) (head : Head) (body : List ℕ) (a m n t s b : Scene C) (begun : Begun)
    (judged : Judges reads head body a m begun) (invites : Invites {T = Unit {0}} head begun m n (Ok tt)) where
  pub meets_answered : (closes : Bool) (v : Response) (written : Result (Option Ended) Ended) (granted : Bool) (how : Ending)
      (end : Option Ended) → TakesIn reads head n t begun (Ok v) → closes ≡ (closes_session head || is_unsent head begun)
      → Responds last (way_by closes head) v t s written → how ≡ how_of v written → granted ≡ stays_granted v → Closes reads how granted s b
      → end ≡ end_by written → MeetsWith reads last head body a b end
  meets_answered closes v written granted how end takes closes_is responds how_is granted_is closed end_is =
      let answers : Answers reads last head begun n b end = record {
        taken = t;
        sent = s;
        response = v;
        result = written;
        takes = takes;
        responds = subst (λ (z : Bool). Responds last (way_by z head) v t s written) closes_is responds;
        closes = subst (λ (z : Bool). Closes reads (how_of v written) z s b) granted_is
            (subst (λ (z : Ending). Closes reads z granted s b) how_is closed);
        ends = end_is;
      } in
      (m, begun, judged, inr (n, invites, inl answers))

  pub meets_cut : (fault : WireFault) (by : Ended) (granted : Bool) → TakesIn reads head n t begun (Err fault) → EndsBy fault t s by
      → granted ≡ is_granted begun → Closes reads ending.Gone granted s b → MeetsWith reads last head body a b (Some by)
  meets_cut fault by granted takes responds granted_is closed =
      let cuts : CutsShort reads head begun n b (Some by) = record {
        cut = t;
        sent = s;
        fault = fault;
        by = by;
        takes = takes;
        responds = responds;
        closes = subst (λ (z : Bool). Closes reads ending.Gone z s b) granted_is closed;
        ends = refl;
      } in
      (m, begun, judged, inr (n, invites, inr cuts))

-- its early body was cut
pub meets_early : {C : Type 0} (reads : C → Taken → C → Type 0) (last : Bool) (head : Head) (a m b : Scene C) (fault : WireFault) (by : Ended)
    → TakesEarly head a m (Err fault) → EndsBy fault m b by → Meets reads last head a b (Some by)
meets_early reads last head a m b fault by takes responds =
    let cuts : CutsEarly head a b (Some by) = record {
      cut = m;
      fault = fault;
      by = by;
      takes = takes;
      responds = responds;
      ends = refl;
    } in
    inl cuts

-- or taken
pub meets_with : {C : Type 0} (reads : C → Taken → C → Type 0) (last : Bool) (head : Head) (body : List ℕ) (a m b : Scene C) (end : Option Ended)
    → TakesEarly head a m (Ok body) → MeetsWith reads last head body m b end → Meets reads last head a b end
meets_with reads last head body a m b end takes meets = inr (m, body, takes, meets)

pub turn_met : {C : Type 0} (reads : C → Taken → C → Type 0) (last : Bool) (a m t b : Scene C) (head : Head) (found : Option Head)
    (end : Option Ended) → found ≡ Some head → Heads a m (Ok found) → Meets reads last head m t end → b ≡ t → Turn reads last a b end
turn_met {C} reads last a m t b head found end is heads meets ended =
    let whole = subst (λ (z : Scene C). Meets reads last head m z end) (sym ended) meets in
    inr (inr (m, head, subst (λ (z : Option Head). Heads a m (Ok z)) is heads, whole))

pub turn_failed : {C : Type 0} (reads : C → Taken → C → Type 0) (last : Bool) (a m t b : Scene C) (fault : WireFault) (by : Ended)
    → Heads a m (Err fault) → EndsBy fault m t by → b ≡ t → Turn reads last a b (Some by)
turn_failed {C} reads last a m t b fault by heads ends ended =
    inr (inl (m, fault, by, heads, subst (λ (z : Scene C). EndsBy fault m z by) (sym ended) ends, refl))

-- ---- a session

through_more : {C : Type 0} (reads : C → Taken → C → Type 0) (a : Scene C) (scenes : List (Scene C)) (m b : Scene C)
    → Through reads a scenes m → Turn reads false m b None → Through reads a (scenes ++ b ∷ []) b
through_more reads a [] m b through turn = (subst (λ (z : Scene _). Turn reads false z b None) (sym through) turn, refl)
through_more reads a (s ∷ scenes) m b through turn = (through.0, through_more reads s scenes m b through.1 turn)

-- so many messages were answered
abbrev pub SoFar : {C : Type 0} → (C → Taken → C → Type 0) → Scene C → Scene C → ℕ → Type 0
SoFar {C} reads a b n = (scenes : List (Scene C)) × (length scenes ≡ n) × Through reads a scenes b

pub so_far_more : {C : Type 0} (reads : C → Taken → C → Type 0) (a m b : Scene C) (n : ℕ)
    → SoFar reads a m n → Turn reads false m b None → SoFar reads a b (n + 1)
so_far_more reads a m b n so_far turn = (
  so_far.0 ++ b ∷ [],
  length-append so_far.0 (b ∷ []) ∙ ap (λ z. z + 1) so_far.1,
  through_more reads a so_far.0 m b so_far.2 turn,
)

early : (n : ℕ) → n < MAX_MESSAGES - 1 → (n == MAX_MESSAGES - 1) ≡ false
early n less = grind (arith, nat_tests)

pub session_ends : {C : Type 0} (reads : C → Taken → C → Type 0) (a m b : Scene C) (n : ℕ) (end : Ended)
    → SoFar reads a m n → n < MAX_MESSAGES - 1 → Turn reads false m b (Some end) → Session reads a b (Some end)
session_ends reads a m b n end so_far less turn = record {
  scenes = so_far.0;
  before = m;
  through = so_far.2;
  few = omega (arith, so_far.1);
  turn = subst (λ (z : Bool). Turn reads z m b (Some end)) (sym (ap (λ z. z == MAX_MESSAGES - 1) so_far.1 ∙ early n less)) turn;
  full = λ none. cc;
}

pub session_full : {C : Type 0} (reads : C → Taken → C → Type 0) (a m b : Scene C) (n : ℕ) (end : Option Ended)
    → n ≡ MAX_MESSAGES - 1 → SoFar reads a m n → Turn reads true m b end → Session reads a b end
session_full reads a m b n end is so_far turn = record {
  scenes = so_far.0;
  before = m;
  through = so_far.2;
  few = omega (arith, so_far.1, is);
  turn = subst (λ (z : Bool). Turn reads z m b end) (sym (ap (λ z. z == MAX_MESSAGES - 1) (so_far.1 ∙ is))) turn;
  full = λ none. so_far.1 ∙ is;
}
