-- What a turn did that ended the session because bytes are no message.
use Rattle.std.proofs.Common.{◌≡◌, ◌⊎◌, ℕ, List, refl, sym, ◌∙◌, ap, subst, inl, inr, Result, Ok, Err}
use Rattle.std.specs.Prelude.{Bool, true, false, Option, Some, IfSome}
use Rattle.std.specs.Io.KnownBytes.{Appends}
use Rattle.nf_dav.specs.Reply.{continue_reply, last_manner, refusal_reply}
use Rattle.nf_http.specs.Bodies.{CutsBody, CutsRead}
use Rattle.nf_http.specs.Head.{length_of}
use Rattle.nf_http.specs.Next.{Shows}
use Rattle.nf_http.specs.declared.wire.WireFault.{WireFault}
use Rattle.nf_http.specs.declared.wire.WireFault.TheVariants as wire
use Rattle.nf_outside.specs.Lent.{Taken}
use Rattle.nf_words.specs.declared.answer.Denial.{Denial}
use Rattle.nf_words.specs.declared.answer.Denial.TheVariants as denial
use Rattle.nf_words.specs.declared.answer.Goal.TheVariants as goal
use Rattle.nf_words.specs.declared.answer.Reply.TheVariants as reply
use Rattle.nf_session.specs.Prelude.{cutting, denial_of, end_by, end_of, end_of_close, end_of_denial, EndsBy, Heads, IsFront, Responds, Scene, Sends, Turn, Way, way_of, Wrote}
use Rattle.nf_session.specs.declared.begun.Begun.{Begun}
use Rattle.nf_session.specs.declared.begun.Begun.TheVariants as begun
use Rattle.nf_session.specs.declared.response.Response.{Response}
use Rattle.nf_session.specs.declared.response.Response.TheVariants as response
use Rattle.nf_session.specs.declared.ended.Ended.{Ended}
use Rattle.nf_session.specs.declared.ended.Ended.TheVariants as ended
use Rattle.nf_session.proofs.Causes.{is_whole, whole_by}
use Rattle.nf_session.proofs.Inviting.{stops_sends}
use Rattle.nf_promises.specs.Faults.{EndsEarly, EndsInBody, FaultsAreShown, IsShown}

bad_by : (by : Ended) → ◌≡◌ {A = Option Ended} (Some ended.BadMessage) (Some by) → by ≡ ended.BadMessage
bad_by by e = cc

-- ---- a message that is answered doesn't end it so

close_not_bad : (closes : Bool) → end_of_close closes ≡ Some ended.BadMessage → ⊥
close_not_bad true e = cc
close_not_bad false e = cc

denial_not_bad : (closes : Bool) (d : Denial) → end_of_denial closes d ≡ Some ended.BadMessage → ⊥
denial_not_bad closes denial.RunFull e = cc
denial_not_bad closes other e = close_not_bad closes e

end_not_bad : (closes : Bool) (v : Response) → end_of closes v ≡ Some ended.BadMessage → ⊥
end_not_bad closes (response.Denied d) e = denial_not_bad closes d e
end_not_bad closes other e = close_not_bad closes e

answered_not_bad : {C : Type 0} (last : Bool) (way : Way) (v : Response) (a b : Scene C) (result : Result (Option Ended) Ended)
    → Responds last way v a b result → Some ended.BadMessage ≡ end_by result → ⊥
answered_not_bad last way v a b result responds e =
    end_not_bad way.closes v (sym (whole_by last way v a b result responds (sym (ap is_whole e))).0 ∙ sym e)

-- ---- a body that is cut

read_truncated : {C : Type 0} (old new : Option (List ℕ)) (n : ℕ) (fault : WireFault) (a b : Scene C) → CutsRead old new n fault
    → EndsBy fault a b ended.BadMessage → fault ≡ wire.Truncated
read_truncated old new n wire.Truncated a b cuts ends = refl
read_truncated old new n wire.ReadFault a b cuts ends = let never : ended.BadMessage ≡ ended.ReadFault = ends.0 in absurd (cc)
read_truncated old new n other a b cuts ends = absurd cuts

body_truncated : {C : Type 0} (old new : Option (List ℕ)) (n : ℕ) (fault : WireFault) (a b : Scene C) → CutsBody old new n fault
    → EndsBy fault a b ended.BadMessage → fault ≡ wire.Truncated
body_truncated old new n wire.Memory a b cuts ends = let never : ended.BadMessage ≡ ended.Memory = ends.0 in absurd (cc)
body_truncated old new n other a b cuts ends = read_truncated old new n other a b cuts ends

cut_truncated : {C : Type 0} (begun : Begun) (old new : Option (List ℕ)) (n : ℕ) (fault : WireFault) (a b : Scene C)
    → cutting begun old new n fault → EndsBy fault a b ended.BadMessage → fault ≡ wire.Truncated
cut_truncated (begun.Asked (Ok (reply.Granted (goal.Store by key length)))) old new n fault a b cuts ends =
    body_truncated old new n fault a b cuts ends
cut_truncated (begun.Asked (Ok (reply.Granted (goal.Chunk user dir number length)))) old new n fault a b cuts ends =
    body_truncated old new n fault a b cuts ends
cut_truncated other old new n fault a b cuts ends = read_truncated old new n fault a b cuts ends

-- ---- no message

wrote_shown : {C : Type 0} (a m b : Scene C) (fault : WireFault) (bytes : List ℕ) → Heads a m (Err fault) → Shows fault m.kept
    → Wrote m b bytes → Shows fault b.kept × IfSome b.input (IsFront b.kept) × Appends a.output b.output bytes
wrote_shown {C} a m b fault bytes heads shows wrote = (
  subst (λ (x : Scene C). Shows fault x.kept) (sym wrote.only) shows,
  subst (λ (x : Scene C). IfSome x.input (IsFront x.kept)) (sym wrote.only) heads.front,
  subst (λ (old : Option (List ℕ)). Appends old b.output bytes) (ap (λ (x : Scene C). x.output) heads.only) wrote.bytes_are,
)

shown_by : {C : Type 0} (a m b : Scene C) (fault : WireFault) → Heads a m (Err fault) → EndsBy fault m b ended.BadMessage
    → IsShown a b fault
shown_by a m b wire.ReadFault heads ends = let never : ended.BadMessage ≡ ended.ReadFault = ends.0 in absurd (cc)
shown_by a m b wire.Memory heads ends = let never : ended.BadMessage ≡ ended.Memory = ends.0 in absurd (cc)
shown_by a m b fault heads ends =
    let shown = wrote_shown a m b fault (refusal_reply last_manner (denial_of fault)) heads heads.shown ends in
    record { of_bytes = tt; shows = shown.0; front = shown.1; refused = shown.2 }

-- ---- a turn

turn_shown : {C : Type 0} (reads : C → Taken → C → Type 0) (last : Bool) (a b : Scene C) → Turn reads last a b (Some ended.BadMessage)
    → ((fault : WireFault) × IsShown a b fault) ⊎ EndsInBody reads a b ⊎ EndsEarly a b
turn_shown reads last a b (inl ends) =
    let never : ◌≡◌ {A = Option Ended} (Some ended.BadMessage) (Some ended.Closed) = ends.1 in absurd (cc)
turn_shown reads last a b (inr (inl (m, fault, by, heads, ends, is))) =
    inl (fault, shown_by a m b fault heads (subst (λ (z : Ended). EndsBy fault m b z) (bad_by by is) ends))
turn_shown reads last a b (inr (inr (m, head, heads, inl cut))) =
    inr (inr (record {
      head = head;
      behind = m;
      heads = heads;
      cut = cut;
      truncated = body_truncated m.input cut.cut.input (length_of head) cut.fault cut.cut b cut.takes.1.cut
          (subst (λ (z : Ended). EndsBy cut.fault cut.cut b z) (bad_by cut.by cut.ends) cut.responds);
    }))
turn_shown reads last a b (inr (inr (m, head, heads, inr (taken, early, takes, (judged, begun, judges, inl stops))))) =
    absurd (subst (λ (z : Ended). Sends {T = Unit {0}} judged stops.sent continue_reply (Err z)) (bad_by stops.by stops.ends)
    (stops_sends head begun judged stops.sent (Unit {0}) stops.by stops.invites))
turn_shown reads last a b (inr (inr (m, head, heads, inr (taken, early, takes, (judged, begun, judges, inr (invited, invites, inl answers)))))) =
    absurd (answered_not_bad last (way_of head begun) answers.response answers.taken answers.sent answers.result answers.responds
    answers.ends)
turn_shown reads last a b (inr (inr (m, head, heads, inr (taken, early, takes, (judged, begun, judges, inr (invited, invites, inr cut)))))) =
    inr (inl (record {
      head = head;
      behind = m;
      heads = heads;
      taken = taken;
      early = early;
      takes = takes;
      judged = judged;
      begun = begun;
      judges = judges;
      invited = invited;
      invites = invites;
      cut = cut;
      truncated = cut_truncated begun invited.input cut.cut.input _ cut.fault cut.cut cut.sent cut.takes.cut
          (subst (λ (z : Ended). EndsBy cut.fault cut.cut cut.sent z) (bad_by cut.by cut.ends) cut.responds);
    }))

pub faults_shown : {C : Type 0} (reads : C → Taken → C → Type 0) → FaultsAreShown reads
faults_shown reads a b session = turn_shown reads _ session.before b session.turn
