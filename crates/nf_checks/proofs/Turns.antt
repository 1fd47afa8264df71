-- A turn in two scenes that are the same.
use Rattle.std.proofs.Common.{◌≡◌, ◌⊎◌, ℕ, ◌||◌, Bool, true, List, refl, sym, ◌∙◌, ap, subst, inl, inr, Result, Ok, Err, is_some}
use Rattle.std.specs.declared.option.Option.{Option}
use Rattle.std.specs.declared.option.Option.TheVariants.{None, Some}
use Rattle.nf_http.specs.Head.{Head, length_of}
use Rattle.nf_http.specs.Next.{IsOfBytes}
use Rattle.nf_http.specs.declared.wire.WireFault.{WireFault}
use Rattle.nf_outside.specs.Lent.{Taken}
use Rattle.nf_words.specs.declared.answer.Denial.TheVariants as denial
use Rattle.nf_dav.specs.Reply.{continue_reply, last_manner, refusal_reply}
use Rattle.nf_dav.specs.declared.replies.Manner.{Manner}
use Rattle.nf_session.specs.Prelude.{Answers, Closes, CutsEarly, CutsShort, denial_of, end_of, Heads, how_of, Invites, is_early, is_granted, Judges, manner_of, Scene, stays_granted, taken_length, TakesEarly, Turn, Way, way_of, Writes, Wrote}
use Rattle.nf_session.specs.declared.backend.Ending.TheVariants as ending
use Rattle.nf_session.specs.declared.begun.Begun.{Begun}
use Rattle.nf_session.specs.declared.ended.Ended.{Ended}
use Rattle.nf_session.specs.declared.ended.Ended.TheVariants as ended
use Rattle.nf_session.proofs.Calm.{closes_go, judges_go, takes_go, writes_go, wrote_goes}
use Rattle.nf_session.proofs.Causes.{answers_go, refused_goes, short_goes}
use Rattle.nf_session.proofs.Early.{early_bodies, early_book}
use Rattle.nf_session.proofs.Inviting.{invited_bytes, invites_wrote, stops_sends}
use Rattle.nf_checks.specs.Alike.{AreSame, Clash, IsAlone, IsCalmBegun, IsCalmEnd, IsCalmResponse, IsCalmTurn, IsSteady}
use Rattle.nf_checks.proofs.Bodies.{IsCut, Similar, cut_early_of, cut_of, cuts_same, early_same, takes_same, never_cut}
use Rattle.nf_checks.proofs.Goes.{Goes, alone_first, alone_then, clash_on, goes_of, goes_on}
use Rattle.nf_checks.proofs.Responses.{IsDenied, IsWritten, denied_of, ends_similar, how_similar, stays_similar, untold, writes_same, written_of}
use Rattle.nf_checks.proofs.Scenes.{closes_same, heads_same, judges_same, same_back, same_self, wrote_same}

-- ---- what a calm turn is

-- the message was answered
record IsAnswered {C : Type 0} (reads : C → Taken → C → Type 0) (last : Bool) (head : Head) (begun : Begun) (a b : Scene C)
    (end : Option Ended) : Type 0 where
  pub made : Answers reads last head begun a b end
  pub calm : IsCalmResponse made.response
  pub whole : IsWritten last (way_of head begun) made.response made.taken made.sent made.result end

-- or its body was cut
record IsCutShort {C : Type 0} (reads : C → Taken → C → Type 0) (head : Head) (begun : Begun) (a b : Scene C)
    (end : Option Ended) : Type 0 where
  pub made : CutsShort reads head begun a b end
  pub cut : IsCut a made.cut (taken_length head begun) made.fault
  pub wrote : Wrote made.cut made.sent (refusal_reply last_manner denial.BadMessage)
  pub end_is : end ≡ Some ended.BadMessage

abbrev Becomes : {C : Type 0} (reads : C → Taken → C → Type 0) (last : Bool) (head : Head) (begun : Begun) (a b : Scene C)
    (end : Option Ended) → Type 0
Becomes reads last head begun a b end = IsAnswered reads last head begun a b end ⊎ IsCutShort reads head begun a b end

answered_of : {C : Type 0} (reads : C → Taken → C → Type 0) (last : Bool) (head : Head) (begun : Begun) (a b : Scene C) (end : Option Ended)
    (p : Answers reads last head begun a b end) → IsCalmResponse p.response → IsCalmEnd end → IsAnswered reads last head begun a b end
answered_of reads last head begun a b end p calm well = record {
  made = p;
  calm = calm;
  whole = written_of last (way_of head begun) p.response p.taken p.sent p.result end p.responds p.ends well;
}

cut_short_of : {C : Type 0} (reads : C → Taken → C → Type 0) (head : Head) (begun : Begun) (a b : Scene C) (end : Option Ended)
    → CutsShort reads head begun a b end → IsCalmEnd end → IsCutShort reads head begun a b end
cut_short_of reads head begun a b end p well =
    let d : IsDenied p.fault p.cut p.sent p.by = denied_of p.fault p.cut p.sent p.by p.responds (subst (λ z. IsCalmEnd z) p.ends well) in
    let cut : IsCut a p.cut (taken_length head begun) p.fault = cut_of a p.cut begun (taken_length head begun) p.fault p.takes d.bytes in
    record {
      made = p;
      cut = cut;
      wrote = subst (λ z. Wrote p.cut p.sent (refusal_reply last_manner (denial_of z))) cut.fault_is d.wrote;
      end_is = p.ends ∙ ap (λ z. Some z) d.end_is;
    }

-- ---- both become the same

-- two turns end in the same way, in scenes that are the same; or pieces clash
abbrev pub Alike : {C : Type 0} → Scene C → Scene C → Option Ended → Option Ended → Type 0
Alike b d end also = ((also ≡ end) × AreSame b d) ⊎ Clash b d

-- no other's entry came in any part of a message
record AnswersAlone {C : Type 0} (a m n b : Scene C) : Type 0 where
  pub taken : IsAlone a.book m.book
  pub sent : IsAlone m.book n.book
  pub closed : IsAlone n.book b.book
  pub goes : Goes n b

answers_alone : {C : Type 0} (reads : C → Taken → C → Type 0) (last : Bool) (head : Head) (begun : Begun) (a b : Scene C) (end : Option Ended)
    (p : IsAnswered reads last head begun a b end) → IsAlone a.book b.book → AnswersAlone a p.made.taken p.made.sent b
answers_alone reads last head begun a b end p alone =
    let take = goes_of (takes_go reads head a p.made.taken begun p.made.response p.made.takes) in
    let write = goes_of (writes_go (manner_of last (way_of head begun) p.made.response) p.made.response p.made.taken p.made.sent p.whole.written) in
    let close = goes_of (closes_go reads (how_of p.made.response p.made.result) (stays_granted p.made.response) p.made.sent b p.made.closes) in
    record {
      taken = alone_first take (goes_on write close) alone;
      sent = alone_first write close (alone_then take (goes_on write close) alone);
      closed = alone_then (goes_on take write) close alone;
      goes = close;
    }

answers_same : {C : Type 0} (reads : C → Taken → C → Type 0) (last : Bool) (head : Head) (begun : Begun) (a b c d : Scene C)
    (end also : Option Ended) → IsSteady reads → AreSame a c → IsAnswered reads last head begun a b end
    → IsAnswered reads last head begun c d also → IsAlone a.book b.book → IsAlone c.book d.book → Alike b d end also
answers_same reads last head begun a b c d end also steady same p q alone lone =
    wrote (writes_same p.made.taken p.made.sent q.made.taken q.made.sent manner p.made.response q.made.response taken.0 taken.1
    p.whole.written written one.sent other.sent)
  where
    one : AnswersAlone a p.made.taken p.made.sent b
    one = answers_alone reads last head begun a b end p alone

    other : AnswersAlone c q.made.taken q.made.sent d
    other = answers_alone reads last head begun c d also q lone

    taken : Similar p.made.response q.made.response × AreSame p.made.taken q.made.taken
    taken = takes_same reads head a p.made.taken c q.made.taken begun p.made.response q.made.response steady same
        p.made.takes q.made.takes p.calm q.calm one.taken other.taken

    way : Way
    way = way_of head begun

    manner : Manner
    manner = manner_of last way p.made.response

    by_response : end_of way.closes p.made.response ≡ end_of way.closes q.made.response
    by_response = ends_similar way.closes p.made.response q.made.response taken.0

    written : Writes {T = Unit {0}} manner q.made.response q.made.taken q.made.sent (Ok tt)
    written = subst (λ (z : Option Ended). Writes {T = Unit {0}} (record { close = last || is_some z; ocs = way.ocs; head_only = way.head_only }) q.made.response q.made.taken q.made.sent (Ok tt))
        (sym by_response) q.whole.written

    how : how_of p.made.response p.made.result ≡ how_of q.made.response q.made.result
    how = ap (how_of {T = Option Ended} p.made.response) p.whole.whole ∙ how_similar p.made.response q.made.response end also taken.0
        ∙ sym (ap (how_of {T = Option Ended} q.made.response) q.whole.whole)

    closes : Closes reads (how_of p.made.response p.made.result) (stays_granted p.made.response) q.made.sent d
    closes = subst (λ z. Closes reads z (stays_granted p.made.response) q.made.sent d) (sym how)
        (subst (λ z. Closes reads (how_of q.made.response q.made.result) z q.made.sent d)
        (sym (stays_similar p.made.response q.made.response taken.0)) q.made.closes)

    wrote : AreSame p.made.sent q.made.sent ⊎ Clash p.made.sent q.made.sent → Alike b d end also
    wrote (inr clash) = inr (clash_on p.made.sent b q.made.sent d one.goes other.goes one.closed other.closed clash)
    wrote (inl sent) = inl (
      q.whole.end_is ∙ sym by_response ∙ sym p.whole.end_is,
      closes_same reads (how_of p.made.response p.made.result) (stays_granted p.made.response) p.made.sent b q.made.sent d steady sent p.made.closes closes
          one.closed other.closed,
    )

cut_alone : {C : Type 0} (reads : C → Taken → C → Type 0) (head : Head) (begun : Begun) (a b : Scene C) (end : Option Ended)
    (p : CutsShort reads head begun a b end) → IsAlone a.book b.book → IsAlone p.sent.book b.book
cut_alone reads head begun a b end p alone =
    alone_then (goes_of (refused_goes ℕ a p.cut p.sent p.fault p.by p.takes.only p.takes.cause p.responds))
    (goes_of (closes_go reads ending.Gone (is_granted begun) p.sent b p.closes)) alone

cut_shorts_same : {C : Type 0} (reads : C → Taken → C → Type 0) (head : Head) (begun : Begun) (a b c d : Scene C) (end also : Option Ended)
    → IsSteady reads → AreSame a c → IsCutShort reads head begun a b end → IsCutShort reads head begun c d also
    → IsAlone a.book b.book → IsAlone c.book d.book → (also ≡ end) × AreSame b d
cut_shorts_same reads head begun a b c d end also steady same p q alone lone =
    let left : AreSame p.made.cut q.made.cut =
    cuts_same a p.made.cut c q.made.cut (taken_length head begun) p.made.fault q.made.fault same p.cut q.cut in
    let sent : AreSame p.made.sent q.made.sent =
    wrote_same p.made.cut p.made.sent q.made.cut q.made.sent (refusal_reply last_manner denial.BadMessage) left p.wrote q.wrote in (
      q.end_is ∙ sym p.end_is,
      closes_same reads ending.Gone (is_granted begun) p.made.sent b q.made.sent d steady sent p.made.closes q.made.closes
          (cut_alone reads head begun a b end p.made alone) (cut_alone reads head begun c d also q.made lone),
    )

-- a body that one of them took whole isn't cut in the other
never_both : {C : Type 0} (reads : C → Taken → C → Type 0) (last : Bool) (head : Head) (begun : Begun) (a b c d : Scene C)
    (end also : Option Ended) → AreSame a c → IsAnswered reads last head begun a b end → IsCutShort reads head begun c d also → ⊥
never_both reads last head begun a b c d end also same p q =
    never_cut a p.made.takes.0 c q.made.cut (taken_length head begun) p.made.takes.1 q.made.fault same p.made.takes.2 q.cut

become_same : {C : Type 0} (reads : C → Taken → C → Type 0) (last : Bool) (head : Head) (begun : Begun) (a b c d : Scene C)
    (end also : Option Ended)
    → IsSteady reads → AreSame a c → Becomes reads last head begun a b end → Becomes reads last head begun c d also
    → IsAlone a.book b.book → IsAlone c.book d.book → Alike b d end also
become_same reads last head begun a b c d end also steady same (inl p) (inl q) alone lone =
    answers_same reads last head begun a b c d end also steady same p q alone lone
become_same reads last head begun a b c d end also steady same (inr p) (inr q) alone lone =
    inl (cut_shorts_same reads head begun a b c d end also steady same p q alone lone)
become_same reads last head begun a b c d end also steady same (inl p) (inr q) alone lone =
    absurd (never_both reads last head begun a b c d end also same p q)
become_same reads last head begun a b c d end also steady same (inr p) (inl q) alone lone =
    absurd (never_both reads last head begun c d a b also end (same_back a c same) q p)

-- ---- a turn

-- its request was judged
record IsJudged {C : Type 0} (reads : C → Taken → C → Type 0) (last : Bool) (head : Head) (body : List ℕ) (a b : Scene C)
    (end : Option Ended) : Type 0 where
  pub asked : Scene C
  pub begun : Begun
  pub judges : Judges reads head body a asked begun
  pub calm : IsCalmBegun begun
  pub told : Scene C
  pub invites : Wrote asked told (invited_bytes head begun)
  pub becomes : Becomes reads last head begun told b end
  pub goes : Goes told b

-- a body that is taken before the request is looked for was cut
record IsCutEarly {C : Type 0} (head : Head) (a b : Scene C) (end : Option Ended) : Type 0 where
  pub early : is_early head ≡ true
  pub cut : Scene C
  pub fault : WireFault
  pub was_cut : IsCut a cut (length_of head) fault
  pub wrote : Wrote cut b (refusal_reply last_manner denial.BadMessage)
  pub end_is : end ≡ Some ended.BadMessage

-- or taken
record IsTaken {C : Type 0} (reads : C → Taken → C → Type 0) (last : Bool) (head : Head) (a b : Scene C) (end : Option Ended) : Type 0 where
  pub taken : Scene C
  pub body : List ℕ
  pub takes : TakesEarly head a taken (Ok body)
  pub judged : IsJudged reads last head body taken b end

abbrev IsMet : {C : Type 0} → (C → Taken → C → Type 0) → Bool → Head → Scene C → Scene C → Option Ended → Type 0
IsMet reads last head a b end = IsCutEarly head a b end ⊎ IsTaken reads last head a b end

-- what follows what stood at the front of the input
abbrev Follows : {C : Type 0} → (C → Taken → C → Type 0) → Bool → Result (Option Head) WireFault → Scene C → Scene C → Option Ended → Type 0
Follows reads last (Ok None) a b end = (b ≡ a) × (end ≡ Some ended.Closed)
Follows reads last (Ok (Some head)) a b end = IsMet reads last head a b end
Follows reads last (Err fault) a b end = Wrote a b (refusal_reply last_manner (denial_of fault)) × (end ≡ Some ended.BadMessage)

record IsCalm {C : Type 0} (reads : C → Taken → C → Type 0) (last : Bool) (a b : Scene C) (end : Option Ended) : Type 0 where
  pub read : Scene C
  pub found : Result (Option Head) WireFault
  pub heads : Heads a read found
  pub bytes : IsOfBytes found
  pub follows : Follows reads last found read b end

calm_met : {C : Type 0} (reads : C → Taken → C → Type 0) (last : Bool) (a m t n told b : Scene C) (end : Option Ended) (head : Head)
    (body : List ℕ) (begun : Begun) → Heads a m (Ok (Some head)) → TakesEarly head m t (Ok body)
    → Judges reads head body t n begun → Invites {T = Unit {0}} head begun n told (Ok tt) → IsCalmBegun begun
    → Becomes reads last head begun told b end → Goes told b → IsCalm reads last a b end
calm_met reads last a m t n told b end head body begun heads takes judges invites calm becomes goes =
    let judged : IsJudged reads last head body t b end = record {
      asked = n;
      begun = begun;
      judges = judges;
      calm = calm;
      told = told;
      invites = invites_wrote head begun n told (Unit {0}) tt invites;
      becomes = becomes;
      goes = goes;
    } in
    record {
      read = m;
      found = Ok (Some head);
      heads = heads;
      bytes = tt;
      follows = inr (record { taken = t; body = body; takes = takes; judged = judged });
    }

calm_cut : {C : Type 0} (reads : C → Taken → C → Type 0) (last : Bool) (a m b : Scene C) (end : Option Ended) (head : Head)
    → Heads a m (Ok (Some head)) → CutsEarly head m b end → IsCalmEnd end → IsCalm reads last a b end
calm_cut reads last a m b end head heads p well =
    let d : IsDenied p.fault p.cut b p.by = denied_of p.fault p.cut b p.by p.responds (subst (λ z. IsCalmEnd z) p.ends well) in
    let cut : IsCut m p.cut (length_of head) p.fault = cut_early_of m p.cut (length_of head) p.fault p.takes.1 d.bytes in
    let is : IsCutEarly head m b end = record {
      early = p.takes.0;
      cut = p.cut;
      fault = p.fault;
      was_cut = cut;
      wrote = subst (λ z. Wrote p.cut b (refusal_reply last_manner (denial_of z))) cut.fault_is d.wrote;
      end_is = p.ends ∙ ap (λ z. Some z) d.end_is;
    } in
    record { read = m; found = Ok (Some head); heads = heads; bytes = tt; follows = inl is }

calm_of : {C : Type 0} (reads : C → Taken → C → Type 0) (last : Bool) (a b : Scene C) (end : Option Ended) (turn : Turn reads last a b end)
    → IsCalmTurn reads last a b end turn → IsCalmEnd end → IsCalm reads last a b end
calm_of reads last a b end (inl over) calm well = record { read = b; found = Ok None; heads = over.0; bytes = tt; follows = (refl, over.1) }
calm_of reads last a b end (inr (inl (m, fault, by, heads, ends, is))) calm well =
    let d : IsDenied fault m b by = denied_of fault m b by ends (subst (λ z. IsCalmEnd z) is well) in
    record { read = m; found = Err fault; heads = heads; bytes = d.bytes; follows = (d.wrote, is ∙ ap (λ z. Some z) d.end_is) }
calm_of reads last a b end (inr (inr (m, head, heads, inl cut))) calm well = calm_cut reads last a m b end head heads cut well
calm_of reads last a b end (inr (inr (m, head, heads, inr (t, body, takes, (n, begun, judges, inl stops))))) calm well =
    absurd (untold n stops.sent continue_reply stops.by (stops_sends head begun n stops.sent (Unit {0}) stops.by stops.invites)
    (subst (λ z. IsCalmEnd z) stops.ends well))
calm_of reads last a b end (inr (inr (m, head, heads, inr (t, body, takes, (n, begun, judges, inr (told, invites, inl answers)))))) calm well =
    calm_met reads last a m t n told b end head body begun heads takes judges invites calm.0
    (inl (answered_of reads last head begun told b end answers calm.1 well)) (goes_of (answers_go reads last head begun told b end answers))
calm_of reads last a b end (inr (inr (m, head, heads, inr (t, body, takes, (n, begun, judges, inr (told, invites, inr cut)))))) calm well =
    calm_met reads last a m t n told b end head body begun heads takes judges invites calm
    (inr (cut_short_of reads head begun told b end cut well)) (goes_of (short_goes reads head begun told b end cut))

judged_alone : {C : Type 0} (reads : C → Taken → C → Type 0) (last : Bool) (head : Head) (body : List ℕ) (a b : Scene C) (end : Option Ended)
    (p : IsJudged reads last head body a b end) → IsAlone a.book b.book → IsAlone a.book p.asked.book × IsAlone p.told.book b.book
judged_alone reads last head body a b end p alone =
    let judge = goes_of (judges_go reads head body a p.asked p.begun p.judges) in
    let invite = goes_of (wrote_goes p.asked p.told (invited_bytes head p.begun) p.invites) in
    (alone_first judge (goes_on invite p.goes) alone, alone_then (goes_on judge invite) p.goes alone)

judged_same : {C : Type 0} (reads : C → Taken → C → Type 0) (last : Bool) (head : Head) (body : List ℕ) (a b c d : Scene C) (end also : Option Ended)
    → IsSteady reads → AreSame a c → IsJudged reads last head body a b end → IsJudged reads last head body c d also
    → IsAlone a.book b.book → IsAlone c.book d.book → Alike b d end also
judged_same reads last head body a b c d end also steady same p q alone lone =
    let one = judged_alone reads last head body a b end p alone in
    let other = judged_alone reads last head body c d also q lone in
    let asked : (q.begun ≡ p.begun) × AreSame p.asked q.asked =
    judges_same reads head body a p.asked c q.asked p.begun q.begun steady same p.judges q.judges p.calm q.calm one.0 other.0 in
    let told : AreSame p.told q.told =
    wrote_same p.asked p.told q.asked q.told (invited_bytes head p.begun) asked.1 p.invites
    (subst (λ z. Wrote q.asked q.told (invited_bytes head z)) asked.0 q.invites) in
    become_same reads last head p.begun p.told b q.told d end also steady told p.becomes
    (subst (λ z. Becomes reads last head z q.told d also) asked.0 q.becomes) one.1 other.1

-- a body that one of them took whole isn't cut in the other
never_early : {C : Type 0} (reads : C → Taken → C → Type 0) (last : Bool) (head : Head) (a b c d : Scene C) (end also : Option Ended)
    → AreSame a c → IsTaken reads last head a b end → IsCutEarly head c d also → ⊥
never_early reads last head a b c d end also same p q =
    never_cut a p.taken c q.cut (length_of head) p.body q.fault same (early_bodies head a p.taken p.body q.early p.takes) q.was_cut

taken_alone : {C : Type 0} (reads : C → Taken → C → Type 0) (last : Bool) (head : Head) (a b : Scene C) (end : Option Ended)
    (p : IsTaken reads last head a b end) → IsAlone a.book b.book → IsAlone p.taken.book b.book
taken_alone reads last head a b end p alone = subst (λ z. IsAlone z b.book) (sym (early_book head a p.taken p.body p.takes)) alone

mets_same : {C : Type 0} (reads : C → Taken → C → Type 0) (last : Bool) (head : Head) (a b c d : Scene C) (end also : Option Ended)
    → IsSteady reads → AreSame a c → IsMet reads last head a b end → IsMet reads last head c d also
    → IsAlone a.book b.book → IsAlone c.book d.book → Alike b d end also
mets_same reads last head a b c d end also steady same (inl p) (inl q) alone lone =
    let cut : AreSame p.cut q.cut = cuts_same a p.cut c q.cut (length_of head) p.fault q.fault same p.was_cut q.was_cut in
    inl (q.end_is ∙ sym p.end_is, wrote_same p.cut b q.cut d (refusal_reply last_manner denial.BadMessage) cut p.wrote q.wrote)
mets_same reads last head a b c d end also steady same (inr p) (inl q) alone lone =
    absurd (never_early reads last head a b c d end also same p q)
mets_same reads last head a b c d end also steady same (inl p) (inr q) alone lone =
    absurd (never_early reads last head c d a b also end (same_back a c same) q p)
mets_same reads last head a b c d end also steady same (inr p) (inr q) alone lone =
    let taken : (p.body ≡ q.body) × AreSame p.taken q.taken = early_same head a p.taken c q.taken p.body q.body same p.takes q.takes in
    judged_same reads last head p.body p.taken b q.taken d end also steady taken.1 p.judged
    (subst (λ z. IsJudged reads last head z q.taken d also) (sym taken.0) q.judged)
    (taken_alone reads last head a b end p alone) (taken_alone reads last head c d also q lone)

follow_same : {C : Type 0} (reads : C → Taken → C → Type 0) (last : Bool) (x : Result (Option Head) WireFault) (a b c d : Scene C) (end also : Option Ended)
    → IsSteady reads → AreSame a c → Follows reads last x a b end → Follows reads last x c d also
    → IsAlone a.book b.book → IsAlone c.book d.book → Alike b d end also
follow_same reads last (Ok None) a b c d end also steady same p q alone lone =
    inl (q.1 ∙ sym p.1, same_self a b c d same p.0 q.0)
follow_same reads last (Ok (Some head)) a b c d end also steady same p q alone lone =
    mets_same reads last head a b c d end also steady same p q alone lone
follow_same reads last (Err fault) a b c d end also steady same p q alone lone =
    inl (q.1 ∙ sym p.1, wrote_same a b c d (refusal_reply last_manner (denial_of fault)) same p.0 q.0)

-- ---- for sessions

pub turns_same : {C : Type 0} (reads : C → Taken → C → Type 0) (last : Bool) (a b c d : Scene C) (end also : Option Ended)
    (one : Turn reads last a b end) (other : Turn reads last c d also) → IsSteady reads → AreSame a c
    → IsCalmTurn reads last a b end one → IsCalmTurn reads last c d also other → IsCalmEnd end → IsCalmEnd also
    → IsAlone a.book b.book → IsAlone c.book d.book → Alike b d end also
turns_same {C} reads last a b c d end also one other steady same calm still well good alone lone =
    let p = calm_of reads last a b end one calm well in
    let q = calm_of reads last c d also other still good in
    let heads : (p.found ≡ q.found) × AreSame p.read q.read =
    heads_same a p.read c q.read p.found q.found same p.heads q.heads p.bytes q.bytes in
    follow_same reads last p.found p.read b q.read d end also steady heads.1 p.follows
    (subst (λ z. Follows reads last z q.read d also) (sym heads.0) q.follows)
    (subst (λ z. IsAlone z b.book) (sym (ap (λ (z : Scene C). z.book) p.heads.only)) alone)
    (subst (λ z. IsAlone z d.book) (sym (ap (λ (z : Scene C). z.book) q.heads.only)) lone)
