-- What a turn that ends by a fault of reading did.
use Rattle.std.proofs.Common.{◌≡◌, refl, sym, ◌∙◌, ap, subst, inl, inr, Result, Err}
use Rattle.std.specs.Prelude.{Bool, false, Option, Some}
use Rattle.nf_http.specs.declared.wire.WireFault.{WireFault}
use Rattle.nf_http.specs.declared.wire.WireFault.TheVariants as wire
use Rattle.nf_dav.specs.Reply.{continue_reply}
use Rattle.nf_outside.specs.Lent.{Taken}
use Rattle.nf_session.specs.Laws.{ReadFaultsStoreNothing}
use Rattle.nf_session.specs.Prelude.{Closes, Cuts, cutting, end_by, end_of, EndsBy, Heads, is_granted, Responds, Scene, Sends, taken_length, TakesEarly, Way, way_of}
use Rattle.nf_session.specs.declared.backend.Ending.TheVariants as ending
use Rattle.nf_session.specs.declared.response.Response.{Response}
use Rattle.nf_session.specs.declared.ended.Ended.{Ended}
use Rattle.nf_session.specs.declared.ended.Ended.TheVariants as ended
use Rattle.nf_session.proofs.Causes.{end_is_none, is_fault, is_whole, whole_by}
use Rattle.nf_session.proofs.Inviting.{stops_sends}

end_no_read : (closes : Bool) (v : Response) → end_of closes v ≡ Some ended.ReadFault → ⊥
end_no_read closes v e = let none : is_fault (Some ended.ReadFault) ≡ false = sym (ap is_fault e) ∙ end_is_none closes v in cc

read_by : (by : Ended) → ◌≡◌ {A = Option Ended} (Some ended.ReadFault) (Some by) → by ≡ ended.ReadFault
read_by by e = cc

answered_no_read : {C : Type 0} (last : Bool) (way : Way) (v : Response) (a b : Scene C) (result : Result (Option Ended) Ended)
    → Responds last way v a b result → Some ended.ReadFault ≡ end_by result → ⊥
answered_no_read last way v a b result responds e =
    end_no_read way.closes v (sym (whole_by last way v a b result responds (sym (ap is_whole e))).0 ∙ sym e)

ends_read : {C : Type 0} (a b : Scene C) (fault : WireFault) → EndsBy fault a b ended.ReadFault → (fault ≡ wire.ReadFault) × (b ≡ a)
ends_read a b wire.ReadFault ends = (refl, ends.1)
ends_read a b wire.Memory ends = let never : ended.ReadFault ≡ ended.Memory = ends.0 in cc
ends_read a b other ends = absurd ends

-- no head was taken; or less than its body was
pub read_fault : {C : Type 0} (reads : C → Taken → C → Type 0) → ReadFaultsStoreNothing reads
read_fault reads last a b (inl ends) = let never : ◌≡◌ {A = Option Ended} (Some ended.ReadFault) (Some ended.Closed) = ends.1 in absurd (cc)
read_fault reads last a b (inr (inl (m, fault, by, heads, ends, is))) =
    let by_read = ends_read m b fault (subst (λ (z : Ended). EndsBy fault m b z) (read_by by is) ends) in
    inl (subst (λ (z : Scene _). Heads a z (Err wire.ReadFault)) (sym by_read.1) (subst (λ (z : WireFault). Heads a m (Err z)) by_read.0 heads))
read_fault reads last a b (inr (inr (m, head, heads, inl cut))) =
    let by_read = ends_read cut.cut b cut.fault (subst (λ (z : Ended). EndsBy cut.fault cut.cut b z) (read_by cut.by cut.ends) cut.responds) in
    inr (inl (record {
      headed = m;
      head = head;
      heads = heads;
      cuts = subst (λ (z : Scene _). TakesEarly head m z (Err wire.ReadFault)) (sym by_read.1)
          (subst (λ (z : WireFault). TakesEarly head m cut.cut (Err z)) by_read.0 cut.takes);
    }))
read_fault reads last a b (inr (inr (m, head, heads, inr (n, body, takes, (opened, begun, judged, inl stops))))) =
    absurd (subst (λ (z : Ended). Sends {T = Unit {0}} opened stops.sent continue_reply (Err z)) (read_by stops.by stops.ends)
    (stops_sends head begun opened stops.sent (Unit {0}) stops.by stops.invites))
read_fault reads last a b (inr (inr (m, head, heads, inr (n, body, takes, (opened, begun, judged, inr (told, invites, inl answers)))))) =
    absurd (answered_no_read last (way_of head begun) answers.response answers.taken answers.sent answers.result answers.responds answers.ends)
read_fault reads last a b (inr (inr (m, head, heads, inr (n, body, takes, (opened, begun, judged, inr (told, invites, inr cut)))))) =
    let by_read = ends_read cut.cut cut.sent cut.fault (subst (λ (z : Ended). EndsBy cut.fault cut.cut cut.sent z) (read_by cut.by cut.ends) cut.responds) in
    inr (inr (record {
      headed = m;
      head = head;
      taken = n;
      early = body;
      asked = opened;
      begun = begun;
      invited = told;
      cut = cut.cut;
      heads = heads;
      takes = takes;
      judged = judged;
      invites = invites;
      cuts = subst (λ (z : WireFault). Cuts (cutting begun) told cut.cut (taken_length head begun) z) by_read.0 cut.takes;
      closed = subst (λ (z : Scene _). Closes reads ending.Gone (is_granted begun) z b) by_read.1 cut.closes;
    }))
